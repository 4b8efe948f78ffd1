-- The invariant of the loop in `bytecode::arities::name_list`: the forms that are left give what all give. Assumes nothing.
use Rattle.std.proofs.Common.{◌-◌}
use Rattle.spec.specs.Nodes.{Node}
use Rattle.spec.specs.Bytecode.{arities, operators}
use Rattle.bytecode.specs.Numbers.{Changed}
use Rattle.bytecode.specs.Named.{ListAt}
use Rattle.bytecode.proofs.Naming.{Left}
use Rattle.bytecode.proofs.arities.name_list.Given as goal

abbrev pub invariant-loop-row : goal.invariant-loop-row
invariant-loop-row l = Changed l.fn.table l.table l.list l.end × ((e : Node) → ListAt l.s l.fn.table l.list e → Left l.s l.table l.list l.row l.end arities (operators e))

abbrev pub decreases-loop-row : goal.decreases-loop-row
decreases-loop-row l = l.end - l.row
