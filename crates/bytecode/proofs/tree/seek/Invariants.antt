-- The invariant of the search in `bytecode::tree::seek`: it goes the way of a key. The measure: rows ascend. Assumes nothing.
use Rattle.std.proofs.Common.{◌-◌, length}
use Rattle.bytecode.specs.Named.{Way}
use Rattle.bytecode.proofs.tree.seek.Given as goal

abbrev pub invariant-loop-at : goal.invariant-loop-at
invariant-loop-at l = Way l.s l.table l.tree l.key l.bits l.at.row l.at.bit

abbrev pub decreases-loop-at : goal.decreases-loop-at
decreases-loop-at l = length l.table - l.at.row
