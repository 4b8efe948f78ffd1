-- The invariant of the loop in `bytecode::scan::nearest`: the lists that were left have ended, and others may be around. The measure is the
-- list's row. Assumes nothing.
use Rattle.spec.specs.Bytecode.{Around}
use Rattle.bytecode.specs.Scanned.{AroundAt}
use Rattle.bytecode.proofs.Lists.{Reached}
use Rattle.bytecode.proofs.scan.nearest.Given as goal

abbrev pub invariant-loop-list : goal.invariant-loop-list
invariant-loop-list l = (out : Around) → AroundAt l.s l.fn.table l.row l.around out → Reached l.s l.fn.table l.table l.row l.around out l.list

abbrev pub decreases-loop-list : goal.decreases-loop-list
decreases-loop-list l = l.list
