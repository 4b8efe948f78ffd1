-- `evaluator::element::count`: what each turn of its loop keeps, and what is left. Assumes nothing.
use Rattle.std.proofs.Common.{List, ℕ, ◌-◌, ◌≤◌}
use Rattle.rows.specs.Rows.{RowsAt}
use Rattle.rows.proofs.Outcomes.{RowsFrom}
use Rattle.evaluator.proofs.element.count.Given as goal

abbrev pub invariant-loop-row : goal.invariant-loop-row
invariant-loop-row l = (l.n ≤ l.row) × ((rows : List ℕ) → RowsAt l.table l.first l.end rows → RowsFrom l.table l.end rows l.row l.n)

abbrev pub decreases-loop-row : goal.decreases-loop-row
decreases-loop-row l = l.end - l.row
