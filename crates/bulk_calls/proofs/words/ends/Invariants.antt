-- `bulk_calls::words::ends`: each number but the last takes a comma. Assumes nothing.
use Rattle.std.proofs.Common.{◌≤◌, ◌+◌}
use Rattle.bulk_calls.proofs.words.ends.Given as goal

abbrev pub invariant-loop-source : goal.invariant-loop-source
invariant-loop-source g l = l.count + l.source.left ≤ l.initial.source.left

abbrev pub decreases-loop-source : goal.decreases-loop-source
decreases-loop-source g l = l.source.left
