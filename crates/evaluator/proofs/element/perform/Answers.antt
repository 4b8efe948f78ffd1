-- `evaluator::element::perform` meets its contract: one law for each task. Assumes nothing.
use Rattle.std.proofs.Common.{Ok, Err, refl, arith}
use Rattle.rules.proofs.Latest.{latest_length, view_before_added, view_before_associated}
use Rattle.evaluator.proofs.Begins.{passed_on, done_by, inside_begun, own_begun, again_begun, associate_begun, function_begun}
use Rattle.evaluator.proofs.element.perform.Goals as goal

-- an atom
pub returns-in_err-own-in-Own : goal.returns-in_err-own-in-Own
returns-in_err-own-in-Own c =
    let task = c.in-Own.is in (
      λ bound st left run e h is p.
          rw (passed_on c.from_residual.result c.from_residual.ensures.1) (own_begun run _ _ c.own.new.w (Err _) (rw task at p).1 (rw is at c.in_err-own-in-Own.ensures)),
      refl,
    )

pub returns-in_ok-own-in-Own : goal.returns-in_ok-own-in-Own
returns-in_ok-own-in-Own c =
    let task = c.in-Own.is in (
      λ bound st left run e h is p. rw c.done.ensures (own_begun run _ _ c.own.new.w (Ok _) (rw task at p).1 (rw is at c.in_ok-own-in-Own.ensures)),
      refl,
    )

-- values that stand already
pub returns-in_err-copied-in-Again : goal.returns-in_err-copied-in-Again
returns-in_err-copied-in-Again c =
    let task = c.in-Again.is in (
      λ bound st left run e h is p.
          rw (passed_on c.from_residual-in_err-copied-in-Again.result c.from_residual-in_err-copied-in-Again.ensures.1)
          (again_begun run _ _ c.copied.new.w (Err _) (rw task at p).1 (rw is at c.in_err-copied-in-Again.ensures)),
      refl,
    )

pub returns-in_ok-copied-in-Again : goal.returns-in_ok-copied-in-Again
returns-in_ok-copied-in-Again c =
    let task = c.in-Again.is in (
      λ bound st left run e h is p.
          rw c.done-in-Again.ensures (again_begun run _ _ c.copied.new.w (Ok _) (rw task at p).1 (rw is at c.in_ok-copied-in-Again.ensures)),
      refl,
    )

-- an association
pub associate-more-requires : goal.associate-more-requires
associate-more-requires c =
    let d = done_by (rw c.in-Ns.is at c.requires.performs).1 in omega (arith, simp latest_length at d.5)

pub returns-in_err-itself-in-Ns : goal.returns-in_err-itself-in-Ns
returns-in_err-itself-in-Ns c =
    let more = c.associate-more.ensures in
    let task = c.in-Ns.is in (
      λ bound st left run e h is p.
          rw (passed_on c.from_residual-in_err-itself-in-Ns.result c.from_residual-in_err-itself-in-Ns.ensures.1)
          (associate_begun run _ _ c.itself.new.w (Err _) more.2 (rw task at p).1 (rw is at c.in_err-itself-in-Ns.ensures)),
      rw more.0 (view_before_associated _ _ _ _),
    )

pub returns-in_ok-itself-in-Ns : goal.returns-in_ok-itself-in-Ns
returns-in_ok-itself-in-Ns c =
    let more = c.associate-more.ensures in
    let task = c.in-Ns.is in (
      λ bound st left run e h is p.
          rw (c.done-in-Ns.ensures, more.0, more.1)
          (associate_begun run _ _ c.itself.new.w (Ok _) more.2 (rw task at p).1 (rw is at c.in_ok-itself-in-Ns.ensures)),
      rw more.0 (view_before_associated _ _ _ _),
    )

-- a function defined
pub add-requires : goal.add-requires
add-requires c =
    let d = done_by (rw c.in-Function.is at c.requires.performs).1 in omega (arith, simp latest_length at d.3)

pub returns-in-Function : goal.returns-in-Function
returns-in-Function c =
    let more = c.add.ensures in
    let task = c.in-Function.is in (
      λ bound st left run e h is p. rw (c.done-in-Function.ensures, more.0, more.1, is) (function_begun run _ _ more.2 (rw task at p).1),
      rw more.0 (view_before_added _ _ _ _),
    )

-- a list inside, first
pub returns-in-Inside : goal.returns-in-Inside
returns-in-Inside c = (λ bound st left run e h is p. rw is (inside_begun run (rw c.in-Inside.is at p).1), refl)
