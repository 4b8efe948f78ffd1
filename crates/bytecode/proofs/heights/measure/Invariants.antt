-- The invariant of the loop in `bytecode::heights::measure`: the forms from the row on are marked. Assumes nothing.
use Rattle.bytecode.proofs.Depths.{Marked}
use Rattle.bytecode.proofs.heights.measure.Given as goal

abbrev pub invariant-loop-row : goal.invariant-loop-row
invariant-loop-row l = Marked l.fn.table l.table l.rows l.row
