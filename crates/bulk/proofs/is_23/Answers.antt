-- `bulk::is_23` meets its contract, by the definition's two tests of the ends and the one of the places. Assumes nothing.
use mathlib.Core.Path.{◌≡◌, sym, ap, ◌∙◌}
use mathlib.Core.Bool.{true}
use borrow.Author.Tests.{lt-ltb}
use Rattle.std.proofs.Common.{ℕ, Option, unwrap_or}
use Rattle.bulk.proofs.Ends.{unsorted, last_or, few_places, one_below, none_below}
use Rattle.bulk.proofs.is_23.Goals as goal
use Rattle.bulk.proofs.is_23.Goals.{then-answers-ends, else-answers-ends}

pub returns-then-not-is_sorted : goal.returns-then-not-is_sorted
returns-then-not-is_sorted c =
    rw c.if-not-is_sorted.true
    (elim c.if-answers-ends.branch [
      | then-answers-ends w ↦ sym (few_places _ _ _ w.if-answers-ends.true)
      | else-answers-ends w ↦ sym (one_below _ _ _ (unsorted _ _ w.is_sorted.ensures.cases ∙ sym w.value-is ∙ c.if-not-is_sorted.true))
    ])

pub returns-else-not-is_sorted : goal.returns-else-not-is_sorted
returns-else-not-is_sorted c =
    let last = c.unwrap_or.ensures ∙ ap (λ (x : Option ℕ). unwrap_or x 0) (c.copied.ensures ∙ c.last.ensures.value) ∙ last_or c.args.ends.now in
    elim c.if-answers-ends.branch [
      | then-answers-ends w ↦ let few : c.if-answers-ends.value ≡ true = w.value-is ∙ lt-ltb _ _ w.if-answers-ends.true in cc
      | else-answers-ends w ↦ let rises = unsorted _ _ w.is_sorted.ensures.cases ∙ sym w.value-is ∙ c.if-not-is_sorted.false in
          sym (none_below _ _ _ w.if-answers-ends.false (record { rises = rises; ends_at = sym last }))
    ]
