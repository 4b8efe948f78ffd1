-- `evaluator::element::finish` meets its contract: a data form, a join, or a definition's values moved. Assumes nothing.
use Rattle.std.proofs.Common.{Ok, Err, refl, arith}
use Rattle.rules.proofs.Latest.{view_before_added}
use Rattle.evaluator.proofs.Begins.{passed_on}
use Rattle.evaluator.proofs.Finishes.{can_define, form_finished, concat_finished, define_finished}
use Rattle.evaluator.proofs.element.finish.Goals as goal

-- a data form
pub returns-in_err-wrapped-in-Form : goal.returns-in_err-wrapped-in-Form
returns-in_err-wrapped-in-Form c =
    let row = c.args.values.row in (
      rw (passed_on c.from_residual.result c.from_residual.ensures.1, c.in-Form.is)
          (form_finished _ c.wrapped.new.w _ _ _ _ row (Err _) c.in_err-wrapped-in-Form.ensures),
      λ numbers. refl,
    )

pub returns-in_ok-wrapped-in-Form : goal.returns-in_ok-wrapped-in-Form
returns-in_ok-wrapped-in-Form c =
    let row = c.args.values.row in
    (rw c.in-Form.is (form_finished _ c.wrapped.new.w _ _ _ _ row (Ok _) c.in_ok-wrapped-in-Form.ensures), λ numbers. refl)

pub returns-in_err-joined-in-Concat : goal.returns-in_err-joined-in-Concat
returns-in_err-joined-in-Concat c = (
  rw (passed_on c.from_residual-in_err-joined-in-Concat.result c.from_residual-in_err-joined-in-Concat.ensures.1, c.in-Concat.is)
      (concat_finished _ c.joined.new.w _ _ _ _ _ (Err _) c.in_err-joined-in-Concat.ensures),
  λ numbers. refl,
)

pub returns-in_ok-joined-in-Concat : goal.returns-in_ok-joined-in-Concat
returns-in_ok-joined-in-Concat c =
    (rw c.in-Concat.is (concat_finished _ c.joined.new.w _ _ _ _ _ (Ok _) c.in_ok-joined-in-Concat.ensures), λ numbers. refl)

-- a definition
pub pack-part-requires : goal.pack-part-requires
pack-part-requires c =
    let some = c.requires in
    let fits = some.finishing.fitting in
    let can = can_define (rw c.in-Define.is at some.by) some.finishing in
    (omega (arith, c.stored-stored.ensures.floor, can.0), omega (arith, fits.below, fits.short))

pub returns-in-Define : goal.returns-in-Define
returns-in-Define c =
    let more = c.add.ensures in
    let told = c.in-Define.is in
    let finished = define_finished _ _ _ _ _ _ _ _ _ more.2 c.stored-stored.ensures in
    (rw (more.0, more.1, c.pack-part.ensures, told) finished, λ numbers. rw more.0 (view_before_added numbers _ _ _))
