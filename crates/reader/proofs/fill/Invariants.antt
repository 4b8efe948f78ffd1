-- The loop of `reader::fill` keeps `Filling` (`proofs/Filling.antt`). Assumes nothing.
use Rattle.std.proofs.Common.{length, ◌-◌}
use Rattle.reader.proofs.Filling.{Filling}
use Rattle.reader.proofs.fill.Given as goal

abbrev pub invariant-loop-at : goal.invariant-loop-at
invariant-loop-at l = Filling l.s l.fn.table l.table l.forms l.at l.depth l.rows

abbrev pub decreases-loop-at : goal.decreases-loop-at
decreases-loop-at l = length l.s - l.at
