-- The invariant of the loop in `bytecode::scan::transform`: `Transforming`, which a visit keeps (`proofs/Transforms.antt`). The measure: the rows
-- that are left. Assumes nothing.
use Rattle.std.proofs.Common.{◌-◌}
use Rattle.bytecode.proofs.Transforms.{Transforming}
use Rattle.bytecode.proofs.scan.transform.Given as goal

abbrev pub invariant-loop-scan : goal.invariant-loop-scan
invariant-loop-scan l = Transforming l.s l.initial.table l.table l.rows l.scan

abbrev pub decreases-loop-scan : goal.decreases-loop-scan
decreases-loop-scan l = l.rows - l.scan.row
