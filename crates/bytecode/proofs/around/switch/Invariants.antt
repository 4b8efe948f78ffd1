-- The invariant of the loop in `bytecode::around::switch`: the references before the row are switched. Assumes nothing.
use Rattle.bytecode.proofs.Switches.{Switching}
use Rattle.bytecode.proofs.around.switch.Given as goal

abbrev pub invariant-loop-row : goal.invariant-loop-row
invariant-loop-row l = Switching l.s l.fn.table l.table l.list l.row
