-- The loop of `reader::check_tokens` keeps `Checking` (`proofs/Checking.antt`). Assumes nothing.
use Rattle.std.proofs.Common.{length, ◌-◌}
use Rattle.reader.proofs.Checking.{Checking}
use Rattle.reader.proofs.check_tokens.Given as goal

abbrev pub invariant-loop-at : goal.invariant-loop-at
invariant-loop-at l = Checking l.s l.room l.at l.from l.depth l.rows l.saved

abbrev pub decreases-loop-at : goal.decreases-loop-at
decreases-loop-at l = length l.s - l.at
