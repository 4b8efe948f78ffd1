-- `workspace::values::itself` meets its contract: atom by atom its bytes are written while there is room, and closed in by 01 and 02.
-- Assumes nothing.
use Rattle.std.proofs.Common.{◌≡◌, ◌+◌, length, refl, arith}
use Rattle.spec.specs.Expr.{canonical}
use Rattle.spec.specs.Nodes.{unnumbered_all}
use Rattle.workspace.proofs.Completing.{unpaid, completed, form_written, flat_sized, atoms_start, atoms_end, atoms_next}
use Rattle.workspace.proofs.values.itself.Goals as goal

pub returns-then-room-lt2 : goal.returns-then-room-lt2
returns-then-room-lt2 c es at atoms = rw c.new-full.ensures (unpaid (flat_sized es atoms refl) (omega arith))

pub loop-row-init : goal.loop-row-init
loop-row-init c = record { some = omega arith; paid = c.if-room-lt2.false; each = atoms_start c.args.w.now c.args.state.top }

pub put_leaf-size-requires-clause-leaf_at : goal.put_leaf-size-requires-clause-leaf_at
put_leaf-size-requires-clause-leaf_at c =
    let form = c.requires.some_atoms in
    let a = atoms_next (c.loop-row.invariant.each _ form.at form.atoms) (omega arith) c.loop-row-test.true in
    (a.own, a.leaf)

pub returns-then-room-n : goal.returns-then-room-n
returns-then-room-n c es at atoms =
    let a = atoms_next (c.loop-row.invariant.each es at atoms) (omega arith) c.loop-row-test.true in
    rw c.new-full.ensures (unpaid (flat_sized es atoms refl) (omega (arith, a.fits, (c.put_leaf-size.ensures a.own a.leaf).0)))

pub loop-row-preserved : goal.loop-row-preserved
loop-row-preserved c = record {
  some = omega arith;
  paid = omega arith;
  each = λ es at atoms.
      let a = atoms_next (c.loop-row.invariant.each es at atoms) (omega arith) c.loop-row-test.true in
      let put = c.put_leaf-size.ensures a.own a.leaf in
      a.next put.0 (put.1 (omega arith));
}

pub returns : goal.returns
returns c es at atoms =
    let put = atoms_end (c.loop-row.invariant.each es at atoms) c.loop-row-test.false in
    let size : length (canonical (unnumbered_all es)) + 2 ≡ c.loop-row.n = omega (arith, put.place, c.loop-row.invariant.some) in
    completed (flat_sized es atoms size) _ _ _ _ c.requires.fitting (omega arith) c.charged.ensures
    (λ paid. form_written (unnumbered_all es) _ size _ _ (omega arith) put.is)
