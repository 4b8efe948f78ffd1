-- `bytecode::arities::entry` meets its contract. Assumes nothing.
use Rattle.std.proofs.Common.{sym, arith}
use borrow.Author.Tests.{eqb-true, eqb-false}
use Rattle.rows.proofs.Nodes.{written_whole}
use Rattle.bytecode.proofs.Changing.{changed_none}
use Rattle.bytecode.proofs.Naming.{one_written, entry_leaf, entry_empty, entry_head, entry_other, entry_number, ill_named, named_as}
use Rattle.bytecode.proofs.arities.entry.Goals as goal

pub has_kind-requires : goal.has_kind-requires
has_kind-requires c = (written_whole _ _ _ _ (one_written c.requires.2)).0

pub returns-then-not-has_kind : goal.returns-then-not-has_kind
returns-then-not-has_kind c = (changed_none _ _ _, λ e os n. ill_named _ _ _ _ (entry_leaf n (eqb-false _ 1 (sym c.if-not-has_kind.ensures))))

pub next-end-requires : goal.next-end-requires
next-end-requires c = (written_whole _ _ _ _ (one_written c.requires.2)).0

pub returns-then-end-row : goal.returns-then-end-row
returns-then-end-row c = (
  changed_none _ _ _,
  λ e os n. ill_named _ _ _ _ (entry_empty n (eqb-true _ 1 (sym c.if-not-has_kind.ensures)) (omega (arith, c.next-end.ensures, c.if-end-row.true))),
)

pub has_kind-requires-2 : goal.has_kind-requires-2
has_kind-requires-2 c =
    let head = entry_head c.requires.2 (eqb-true _ 1 (sym c.if-not-has_kind.ensures)) (omega (arith, c.next-end.ensures, c.if-end-row.false)) in
    (written_whole _ _ _ _ head).0

pub returns-then-not-has_kind-2 : goal.returns-then-not-has_kind-2
returns-then-not-has_kind-2 c = (
  changed_none _ _ _,
  λ e os n.
      let form = eqb-true _ 1 (sym c.if-not-has_kind.ensures) in
      ill_named _ _ _ _ (entry_other n form (omega (arith, c.next-end.ensures, c.if-end-row.false)) (eqb-false _ 3 (sym c.if-not-has_kind-2.ensures))),
)

pub name_all-requires : goal.name_all-requires
name_all-requires c =
    let form = eqb-true _ 1 (sym c.if-not-has_kind.ensures) in
    let x = entry_number c.requires.2 form (omega (arith, c.next-end.ensures, c.if-end-row.false)) (eqb-true _ 3 (sym c.if-not-has_kind-2.ensures)) c.next-end.ensures in
    ((x.0, x.2), (x.1, c.requires.1, x.3))

pub returns : goal.returns
returns c = (
  rw c.next-end.ensures at c.name_all.ensures.0,
  λ e os n.
      let form = eqb-true _ 1 (sym c.if-not-has_kind.ensures) in
      let x = entry_number n form (omega (arith, c.next-end.ensures, c.if-end-row.false)) (eqb-true _ 3 (sym c.if-not-has_kind-2.ensures)) c.next-end.ensures in
      named_as _ _ _ _ c.next-end.ensures x.4 (c.name_all.ensures.1 x.0 x.1 os x.2 x.3),
)
