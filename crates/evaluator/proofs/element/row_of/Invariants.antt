-- `evaluator::element::row_of`: what each turn of its loop keeps. Assumes nothing.
use Rattle.std.proofs.Common.{List, ℕ, ◌<◌, length}
use Rattle.rows.specs.Rows.{RowsAt}
use Rattle.rows.proofs.Outcomes.{RowsFrom}
use Rattle.evaluator.proofs.element.row_of.Given as goal

abbrev pub invariant-loop : goal.invariant-loop
invariant-loop l = (end : ℕ) (rows : List ℕ) → RowsAt l.table l.first end rows → l.steps < length rows → RowsFrom l.table end rows l.row l.counter
