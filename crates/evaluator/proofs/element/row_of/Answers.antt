-- `evaluator::element::row_of` meets its contract: so many rows are passed, and so many are to be. Assumes nothing.
use Rattle.std.proofs.Common.{◌≡◌, sym, arith}
use Rattle.rows.proofs.Outcomes.{rows_next}
use Rattle.evaluator.proofs.element.row_of.Goals as goal

pub next-row-requires : goal.next-row-requires
next-row-requires c =
    let some = c.requires in (rows_next (c.loop.invariant some.0 some.1 some.2 some.3) (omega (arith, some.3))).whole

pub loop-preserved : goal.loop-preserved
loop-preserved c = λ end rows at some. rw c.next-row.ensures (rows_next (c.loop.invariant end rows at some) (omega arith)).passed

pub returns : goal.returns
returns c = λ end rows at some.
    let all : c.loop.counter ≡ c.args.steps = omega arith in
    sym (rows_next (rw all at (c.loop.invariant end rows at some)) some).is
