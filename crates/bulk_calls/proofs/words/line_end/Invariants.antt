-- `bulk_calls::words::line_end`: the measure is how many bytes can still be taken. Assumes nothing.
use Rattle.std.proofs.Common.{◌≤◌}
use Rattle.bulk_calls.proofs.words.line_end.Given as goal

abbrev pub invariant-loop-source : goal.invariant-loop-source
invariant-loop-source g l = l.source.left ≤ l.initial.source.left

abbrev pub decreases-loop-source : goal.decreases-loop-source
decreases-loop-source g l = l.source.left
