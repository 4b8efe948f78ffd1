-- `writer::emit`: what is written so far is what stood before that place; the measure is how many bytes are left. Assumes nothing.
use Rattle.std.proofs.Common.{◌-◌, length}
use Rattle.writer.proofs.Emitted.{Emitted}
use Rattle.writer.proofs.emit.Given as goal

abbrev pub invariant-loop-at : goal.invariant-loop-at
invariant-loop-at l = Emitted l.s l.fn.out l.out l.at l.to

abbrev pub decreases-loop-at : goal.decreases-loop-at
decreases-loop-at l = length l.s - l.at
