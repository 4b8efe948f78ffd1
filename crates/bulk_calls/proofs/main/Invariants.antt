-- `bulk_calls::main`: the measure is how many bytes can still be taken. Assumes nothing.
use Rattle.bulk_calls.proofs.main.Given as goal

abbrev pub decreases-loop-source : goal.decreases-loop-source
decreases-loop-source l = l.source.left
