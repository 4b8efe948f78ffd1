-- The loop of `reader::form_end` keeps `Ending` until the form's 02 comes. Assumes nothing.
use Rattle.std.proofs.Common.{length, ◌-◌}
use Rattle.reader.proofs.Finding.{Ending}
use Rattle.reader.proofs.form_end.Given as goal

abbrev pub invariant-loop-at : goal.invariant-loop-at
invariant-loop-at l = Ending l.s l.start l.at l.depth

abbrev pub decreases-loop-at : goal.decreases-loop-at
decreases-loop-at l = length l.s - l.at
