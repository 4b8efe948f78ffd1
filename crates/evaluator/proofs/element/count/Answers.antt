-- `evaluator::element::count` meets its contract: so many rows are passed. Assumes nothing.
use Rattle.std.proofs.Common.{arith}
use Rattle.rows.proofs.Outcomes.{rows_past, rows_left, rows_next}
use Rattle.evaluator.proofs.element.count.Goals as goal

pub next-row-requires : goal.next-row-requires
next-row-requires c =
    let some = c.requires in
    let from = c.loop-row.invariant.1 some.0 some.1 in
    (rows_next from (rows_left from c.loop-row-test.true)).whole

pub loop-row-smaller : goal.loop-row-smaller
loop-row-smaller c =
    let some = c.requires in
    let from = c.loop-row.invariant.1 some.0 some.1 in
    omega (arith, (rows_next from (rows_left from c.loop-row-test.true)).forward, c.next-row.ensures, c.loop-row-test.true)

pub loop-row-preserved : goal.loop-row-preserved
loop-row-preserved c =
    let some = c.requires in
    let from = c.loop-row.invariant.1 some.0 some.1 in (
      omega (arith, c.loop-row.invariant.0, (rows_next from (rows_left from c.loop-row-test.true)).forward, c.next-row.ensures),
      λ rows at. let from = c.loop-row.invariant.1 rows at in rw c.next-row.ensures (rows_next from (rows_left from c.loop-row-test.true)).passed,
    )

pub returns : goal.returns
returns c rows at = rows_past (c.loop-row.invariant.1 rows at) c.loop-row-test.false
