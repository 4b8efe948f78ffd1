-- `rules::plan::number` meets its contract. Assumes nothing.
use borrow.Author.Tests.{eqb-true, eqb-false}
use Rattle.std.proofs.Common.{sym}
use Rattle.rows.proofs.Nodes.{node_whole}
use Rattle.rows.proofs.Parts.{one_at}
use Rattle.rules.proofs.Passing.{number_refused, number_at}
use Rattle.rules.proofs.plan.number.Goals as goal

pub has_kind-requires : goal.has_kind-requires
has_kind-requires c =
    let pre = c.requires in
    (node_whole _ _ _ _ _ (one_at _ _ _ _ pre.0 _ pre.1 (c.in-One.ensures _ pre.0 pre.1)).at).0

pub returns-then-not-has_kind-clause-as_planned : goal.returns-then-not-has_kind-clause-as_planned
returns-then-not-has_kind-clause-as_planned c es rule at =
    number_refused (one_at _ _ _ _ es _ at (c.in-One.ensures _ es at)) rule (eqb-false _ _ (sym c.if-not-has_kind.ensures))

-- the operand, an integer
pub small-requires : goal.small-requires
small-requires c =
    let pre = c.requires in
    let i = number_at (one_at _ _ _ _ pre.0 _ pre.1 (c.in-One.ensures _ pre.0 pre.1)) (eqb-true _ _ (sym c.if-not-has_kind.ensures)) in
    (i.0, i.2)

pub returns-clause-as_planned : goal.returns-clause-as_planned
returns-clause-as_planned c es rule at =
    let g = one_at _ _ _ _ es _ at (c.in-One.ensures _ es at) in
    let i = number_at g (eqb-true _ _ (sym c.if-not-has_kind.ensures)) in
    rw (g.is, i.1, c.small.ensures i.0 i.2)

pub returns-clause-small : goal.returns-clause-small
returns-clause-small c =
    let pre = c.requires in
    let i = number_at (one_at _ _ _ _ pre.0 _ pre.1 (c.in-One.ensures _ pre.0 pre.1)) (eqb-true _ _ (sym c.if-not-has_kind.ensures)) in
    rw (c.small.ensures i.0 i.2) i.2.spells.0
