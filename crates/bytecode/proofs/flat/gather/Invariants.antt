-- The invariant of the loop in `bytecode::flat::gather`: what is left to be gathered. Assumes nothing.
use Rattle.std.proofs.Common.{◌-◌}
use Rattle.bytecode.proofs.Gathering.{Held}
use Rattle.bytecode.proofs.flat.gather.Given as goal

abbrev pub invariant-loop-row : goal.invariant-loop-row
invariant-loop-row l = Held l.s l.fn.table l.arities l.fn.flat.first l.end l.table l.row

abbrev pub decreases-loop-row : goal.decreases-loop-row
decreases-loop-row l = l.end - l.row
