-- `bytecode::present::is_star` meets its contract. Assumes nothing.
use Rattle.std.proofs.Common.{sym, ◌∙◌, arith}
use borrow.Author.Tests.{ne_eqb, eqb-true, eqb-false}
use Rattle.spec.specs.Nodes.{core}
use Rattle.rows.proofs.Nodes.{written_whole}
use Rattle.rows.proofs.Parts.{written_reference}
use Rattle.bytecode.proofs.Stars.{star_other, star_two, star_not, star_name}
use Rattle.bytecode.proofs.present.is_star.Goals as goal

pub has_kind-requires : goal.has_kind-requires
has_kind-requires c = (written_whole _ _ _ c.requires.0 c.requires.1).0

pub returns-then-not-has_kind : goal.returns-then-not-has_kind
returns-then-not-has_kind c e w = star_other _ _ _ e w (eqb-false _ 4 (sym c.if-not-has_kind.ensures))

pub start-at-requires : goal.start-at-requires
start-at-requires c = (written_whole _ _ _ c.requires.0 c.requires.1).0

pub bounds-s-at : goal.bounds-s-at
bounds-s-at c =
    let row = (written_reference _ _ _ _ c.requires.1 (eqb-true _ 4 (sym c.if-not-has_kind.ensures))).here.row in
    omega (arith, c.start-at.ensures, row.starts, row.ends)

pub bounds-s-at-then-s-at-eq32 : goal.bounds-s-at-then-s-at-eq32
bounds-s-at-then-s-at-eq32 c =
    let l = (written_reference _ _ _ _ c.requires.1 (eqb-true _ 4 (sym c.if-not-has_kind.ensures))).here in
    omega (arith, star_two _ _ l c.start-at.ensures c.if-s-at-eq32.true, l.row.ends)

pub returns-then-s-at-eq32 : goal.returns-then-s-at-eq32
returns-then-s-at-eq32 c e w =
    let x = written_reference _ _ _ e w (eqb-true _ 4 (sym c.if-not-has_kind.ensures)) in
    rw x.is (star_name _ _ x.here c.start-at.ensures c.if-s-at-eq32.true)

pub returns-else-s-at-eq32 : goal.returns-else-s-at-eq32
returns-else-s-at-eq32 c e w =
    let x = written_reference _ _ _ e w (eqb-true _ 4 (sym c.if-not-has_kind.ensures)) in
    rw x.is (ne_eqb _ core c.if-s-at-eq32.false ∙ star_not _ _ x.here c.start-at.ensures c.if-s-at-eq32.false)
