-- The invariant of the loop in `bytecode::heights::highest`: what is left, and how high those before are. Assumes nothing.
use Rattle.std.proofs.Common.{ℕ, List, ◌-◌, ◌<◌}
use Rattle.spec.specs.Nodes.{Nodes}
use Rattle.rows.specs.Rows.{WrittenAll}
use Rattle.bytecode.proofs.Depths.{LeftAt}
use Rattle.bytecode.proofs.heights.highest.Given as goal

abbrev pub invariant-loop-row : goal.invariant-loop-row
invariant-loop-row l = (l.height < 128) × ((s : List ℕ) (es : Nodes) → WrittenAll s l.table l.first l.end es → LeftAt s l.table l.first l.end es l.row l.height)

abbrev pub decreases-loop-row : goal.decreases-loop-row
decreases-loop-row l = l.end - l.row
