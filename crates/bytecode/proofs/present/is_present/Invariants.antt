-- The invariant of the loop in `bytecode::present::is_present`: no row before is one of `prefix*`. Assumes nothing.
use Rattle.std.proofs.Common.{◌≡◌, ℕ, ◌≤◌, ◌<◌, false}
use Rattle.spec.specs.Nodes.{Node}
use Rattle.spec.specs.Bytecode.{prefix*, is_name}
use Rattle.rows.specs.Rows.{WrittenAt}
use Rattle.bytecode.proofs.present.is_present.Given as goal

abbrev pub invariant-loop-row : goal.invariant-loop-row
invariant-loop-row l = (q : ℕ) (e : Node) → l.first ≤ q → q < l.row → WrittenAt l.s l.table q e → is_name prefix* e ≡ false
