-- `evaluator::element::begin` meets its contract: no step, or what is decided. Assumes nothing.
use Rattle.std.proofs.Common.{refl, sym}
use Rattle.evaluator.proofs.Begins.{passed_on, begin_none, begin_some}
use Rattle.evaluator.proofs.element.begin.Goals as goal

-- no step is left
pub returns-in_err-stepped : goal.returns-in_err-stepped
returns-in_err-stepped c = (
  λ bound run e h b. rw (passed_on c.from_residual.result c.from_residual.ensures.1) (begin_none b run _ (sym c.in_err-stepped.ensures)),
  refl,
)

pub returns : goal.returns
returns c =
    let taken = begin_some _ _ (sym c.in_ok-stepped.ensures) in (
      λ bound run e h b.
          let p = c.in_ok-decision.ensures bound c.args.w.now c.args.state e h taken.0 taken.1 b in
          c.perform.ensures.0 bound _ p.0 run e h p.1 p.2,
      c.perform.ensures.1,
    )
