-- `bytecode::arities::name_list` meets its contract. Assumes nothing.
use Rattle.std.proofs.Common.{sym, ◌∙◌, arith}
use borrow.Author.Tests.{eqb-true, eqb-false}
use Rattle.rows.proofs.Nodes.{written_whole}
use Rattle.bytecode.proofs.Changing.{changed_none, changed_wider, changed_then}
use Rattle.bytecode.proofs.Naming.{arities_folds, ill_named, left_first, left_none, first_written, first_named, first_refused, list_leaf, list_begins}
use Rattle.bytecode.proofs.arities.name_list.Goals as goal

pub has_kind-requires : goal.has_kind-requires
has_kind-requires c = (written_whole _ _ _ _ c.requires.1.written).0

pub returns-then-not-has_kind : goal.returns-then-not-has_kind
returns-then-not-has_kind c = (changed_none _ _ _, λ e l. ill_named _ _ _ _ (list_leaf l (eqb-false _ 1 (sym c.if-not-has_kind.ensures))))

pub next-end-requires : goal.next-end-requires
next-end-requires c = (written_whole _ _ _ _ c.requires.1.written).0

pub loop-row-init : goal.loop-row-init
loop-row-init c = (changed_none _ _ _, λ e l. list_begins l (eqb-true _ 1 (sym c.if-not-has_kind.ensures)) c.next-end.ensures)

pub entry-requires : goal.entry-requires
entry-requires c = let f = left_first arities_folds (c.loop-row.invariant.1 _ c.requires.1) c.loop-row-test.true in (f.node, f.operators, f.naming)

pub returns-then-not-entry : goal.returns-then-not-entry
returns-then-not-entry c =
    let inside = (left_first arities_folds (c.loop-row.invariant.1 _ c.requires.1) c.loop-row-test.true).inside in (
      rw c.next-end.ensures at (changed_then c.loop-row.invariant.0 (changed_wider c.entry.ensures.0 _ _ (omega arith) inside)),
      λ e l.
          let f = left_first arities_folds (c.loop-row.invariant.1 e l) c.loop-row-test.true in
          ill_named _ _ _ _ (first_refused f _ _ (c.entry.ensures.1 f.node f.operators f.naming) c.if-not-entry.true),
    )

pub next-row-requires : goal.next-row-requires
next-row-requires c =
    let f = left_first arities_folds (c.loop-row.invariant.1 _ c.requires.1) c.loop-row-test.true in
    omega (arith, (written_whole _ _ _ _ (first_written f)).0, c.entry.ensures.0.same_length)

pub loop-row-smaller : goal.loop-row-smaller
loop-row-smaller c =
    let f = left_first arities_folds (c.loop-row.invariant.1 _ c.requires.1) c.loop-row-test.true in
    omega (arith, c.next-row.ensures, (c.entry.ensures.0.same_rows c.loop-row.row).same_next, f.forward, c.loop-row-test.true)

pub loop-row-preserved : goal.loop-row-preserved
loop-row-preserved c =
    let inside = (left_first arities_folds (c.loop-row.invariant.1 _ c.requires.1) c.loop-row-test.true).inside in (
      changed_then c.loop-row.invariant.0 (changed_wider c.entry.ensures.0 _ _ (omega arith) inside),
      λ e l.
          let f = left_first arities_folds (c.loop-row.invariant.1 e l) c.loop-row-test.true in
          first_named f _ c.entry.ensures.0 (c.entry.ensures.1 f.node f.operators f.naming) c.if-not-entry.false
          (c.next-row.ensures ∙ (c.entry.ensures.0.same_rows c.loop-row.row).same_next),
    )

pub returns : goal.returns
returns c = (
  rw c.next-end.ensures at c.loop-row.invariant.0,
  λ e l. left_none arities_folds (c.loop-row.invariant.1 e l) c.loop-row-test.false c.next-end.ensures,
)
