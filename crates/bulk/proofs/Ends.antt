-- The ends of a backlog's streams, gone through one by one, and what 23 says of them. Document 02, §2: "an end below the one before, a last end other
-- than the buffer's length". Assumes nothing.
use Prim.Native.Nat.{ℕ, zero, suc, ◌+◌, ◌-◌, ◌/◌, ◌≤◌, ◌<◌}
use mathlib.Core.Path.{◌≡◌, refl}
use mathlib.Core.Bool.{Bool, true, false, not, or-true, or-false}
use mathlib.Core.List.{List, [], ◌∷◌}
use native.Mathlib.Omega.{arith}
use native.Mathlib.Numerals.{add-one}
use lib.ListN.{length, drop, get_or}
use lib.Seq.{drop-cons}
use lib.Dec.{ltb, eqb}
use borrow.Author.Tests.{lt-ltb, le-ltb, ltb-false, eqb-true, not-false}
use Rattle.std.specs.Prelude.{Some, slice_get, unwrap_or}
use Rattle.std.specs.List.{IsAllAdjacentAnswer}
use Rattle.std.specs.List.Sorted.{IsNonDecreasing}
use Rattle.std.specs.Ordering.{is_le, is_some_and, nat_cmp}
use Rattle.std.proofs.lemmas.List.Sorted.{non_decreasing_from_is_sorted}
use Rattle.spec.specs.Backlog.{some_below, last_end, misplaced, is_23, answer_width}
use Rattle.laws.proofs.Basics.{both_false}

-- none is below the one before, and the last is this
pub record Ordered (before : ℕ) (ends : List ℕ) (last : ℕ) : Type 0 where
  pub rises : some_below before ends ≡ false
  pub ends_at : last_end before ends ≡ last

-- the ends from i on
pub here : (ends : List ℕ) (i : ℕ) → i < length ends → drop i ends ≡ get_or ends i 0 ∷ drop (i + 1) ends
here ends i h = rw (add-one i) (drop-cons ends i 0 h)

-- "an end below the one before", or none
falls : (before : ℕ) (ends : List ℕ) (k : ℕ) → suc k < length ends → get_or ends (suc k) 0 < get_or ends k 0 → some_below before ends ≡ true
unfolding some_below
falls before [] k more l = absurd (omega arith)
falls before (end ∷ []) k more l = absurd (omega arith)
falls before (end ∷ next ∷ ends) zero more l = rw (lt-ltb next end l) (or-true (ltb end before))
falls before (end ∷ next ∷ ends) (suc k) more l = rw (falls end (next ∷ ends) k (omega arith) l) (or-true (ltb end before))

rises : (before : ℕ) (ends : List ℕ) → (0 < length ends → before ≤ get_or ends 0 0) → IsNonDecreasing ends → some_below before ends ≡ false
unfolding some_below
rises before [] first h = refl
rises before (end ∷ ends) first h =
    rw (le-ltb end before (first (omega arith)), rises end ends (λ some. h 0 1 0 (omega arith) (omega arith)) (λ i j d le more. h (suc i) (suc j) d (omega arith) (omega arith)))

-- so says the test whether they are sorted
pub unsorted : (ends : List ℕ) (r : Bool) → IsAllAdjacentAnswer (λ x y b. is_some_and is_le (Some (nat_cmp x y)) ≡ b) ends r → some_below 0 ends ≡ not r
unsorted ends true h = rises 0 ends (λ some. omega arith) (non_decreasing_from_is_sorted ends true h)
unsorted ends false h = let f = non_decreasing_from_is_sorted ends false h in falls 0 ends f.0 (omega (arith, f.1)) (rw (add-one f.0) at (f.2 0))

-- the last of them, 0 if there are none
last_is : (before end : ℕ) (ends : List ℕ) → slice_get (end ∷ ends) (length ends) ≡ Some (last_end before (end ∷ ends))
unfolding last_end
last_is before end [] = refl
last_is before end (next ∷ ends) = last_is end next ends

pub last_or : (ends : List ℕ) → unwrap_or (slice_get ends (length ends - 1)) 0 ≡ last_end 0 ends
unfolding last_end
last_or [] = refl
last_or (end ∷ ends) = let size : length (end ∷ ends) - 1 ≡ length ends = omega arith in rw (size, last_is 0 end ends)

pub ordered_next : (before end : ℕ) (ends : List ℕ) (last : ℕ) → Ordered before (end ∷ ends) last → (before ≤ end) × Ordered end ends last
unfolding some_below last_end
ordered_next before end ends last h =
    let e = both_false _ _ h.rises in
    (ltb-false end before e.0, record { rises = e.1; ends_at = h.ends_at })

pub ordered_last : (before : ℕ) (ends : List ℕ) (last : ℕ) → Ordered before ends last → before ≤ last
unfolding last_end
ordered_last before [] last h = omega (arith, h.ends_at)
ordered_last before (end ∷ ends) last h =
    let n = ordered_next before end ends last h in
    omega (arith, n.0, ordered_last end ends last n.1)

-- 23, by the code's tests

module _ (buffer ends answers : List ℕ) where
  pub few_places : length answers / answer_width < length ends → is_23 buffer ends answers ≡ true
  unfolding is_23
  few_places l = rw (lt-ltb (length answers / answer_width) (length ends) l) (or-true (misplaced ends (length buffer)))

  pub one_below : some_below 0 ends ≡ true → is_23 buffer ends answers ≡ true
  unfolding is_23
  one_below e = rw e

  pub none_below : {last : ℕ} → length ends ≤ length answers / answer_width → Ordered 0 ends last → is_23 buffer ends answers ≡ not (eqb last (length buffer))
  unfolding is_23
  none_below {last} l h =
      rw (le-ltb (length answers / answer_width) (length ends) l, h.rises, h.ends_at) (or-false (not (eqb last (length buffer))))

  pub not_23 : is_23 buffer ends answers ≡ false → Ordered 0 ends (length buffer)
  unfolding is_23
  not_23 e =
      let placed = both_false _ _ (both_false _ _ e).0 in
      record { rises = placed.0; ends_at = eqb-true _ _ (not-false _ placed.1) }
