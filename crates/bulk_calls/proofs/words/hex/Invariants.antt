-- `bulk_calls::words::hex`: each byte takes two digits. Assumes nothing.
use Rattle.std.proofs.Common.{◌≤◌, ◌+◌}
use Rattle.bulk_calls.proofs.words.hex.Given as goal

abbrev pub invariant-loop-source : goal.invariant-loop-source
invariant-loop-source g l = l.count + l.source.left ≤ l.initial.source.left

abbrev pub decreases-loop-source : goal.decreases-loop-source
decreases-loop-source g l = l.source.left
