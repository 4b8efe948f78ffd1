-- `evaluator::element::failed` meets its contract: the reason that has the mark's number. Assumes nothing.
use Rattle.evaluator.proofs.Marks.{rule_named, turned}
use Rattle.evaluator.proofs.element.failed.Goals as goal

pub unwrap-requires : goal.unwrap-requires
unwrap-requires c = turned _ _ c.try_from.ensures (rule_named _ c.requires)

pub returns : goal.returns
returns c = rw c.unwrap.ensures at c.try_from.ensures
