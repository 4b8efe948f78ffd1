-- The invariant of the loop in `bytecode::numbers::clear`: rows from the one at hand on may have numbers besides. Assumes nothing.
use Rattle.std.proofs.Common.{ℕ, List, ◌<◌}
use Rattle.rows.specs.Rows.{cell}
use Rattle.bytecode.specs.Numbers.{Changed}
use Rattle.bytecode.proofs.numbers.clear.Given as goal

abbrev pub invariant-loop-row : goal.invariant-loop-row
invariant-loop-row l = (t : List ℕ) → Changed t l.fn.table 0 l.rows → ((r : ℕ) → r < l.rows → (cell t r 0 < 256) × (cell t r 1 < 65536)) → Changed t l.table l.row l.rows
