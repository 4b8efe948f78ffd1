-- The invariant of the loop in `bytecode::arities::name_all`: the references that are left give what all give. Assumes nothing.
use Rattle.std.proofs.Common.{List, ◌+◌}
use Rattle.spec.specs.Nodes.{Nodes}
use Rattle.spec.specs.Bytecode.{Operator, series}
use Rattle.bytecode.specs.Numbers.{Changed}
use Rattle.bytecode.specs.Named.{Naming}
use Rattle.bytecode.proofs.Naming.{Left}
use Rattle.bytecode.proofs.arities.name_all.Given as goal

abbrev pub invariant-loop-row : goal.invariant-loop-row
invariant-loop-row l = Changed l.fn.table l.table l.list l.end
    × ((es : Nodes) (os : List Operator) → Naming l.s l.fn.table l.list (l.number + 1) l.end os es → Left l.s l.table l.list l.row l.end (series l.arity) (series l.arity es os))
