-- `evaluator::has_version` meets its contract. Assumes nothing.
use Rattle.std.proofs.Common.{take, ◌∙◌}
use Rattle.spec.specs.Calls.{version_bytes}
use Rattle.rows.proofs.Same.{beginning_same}
use Rattle.evaluator.proofs.has_version.Goals as goal

pub returns : goal.returns
returns c = c.starts_with.ensures.value ∙ beginning_same (take 6 c.args.s.now) version_bytes
