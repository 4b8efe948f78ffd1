-- Laws of what a scope shows of the lent arrays: how much it is, less of it, one entry more, that what is written past it changes nothing of it, and
-- what is left of it while code goes from the latest entry to the first.
-- Document 01: "a list of definitions that are visible at each place", "the latest visible definition". Assumes nothing.
use Prim.Native.Nat.{ℕ, zero, suc, ◌+◌, ◌-◌, ◌≤◌, ◌<◌}
use mathlib.Core.Path.{◌≡◌, refl, ap}
use mathlib.Core.List.{List, [], ◌∷◌}
use mathlib.Core.Bool.{Bool, or_comm}
use native.Mathlib.Omega.{arith}
use native.Mathlib.Numerals.{add-one, unary_clauses}
use lib.ListN.{length, get_or, set, take, drop}
use lib.Seq.{get_or-set_same, get_or-set_other}
use Rattle.std.specs.List.{list_any}
use Rattle.std.proofs.lemmas.List.Folds.{list_any_more}
use Rattle.spec.specs.Expr.{some}
use Rattle.rules.specs.Scope.{latest, View, view}
use Rattle.rules.specs.declared.scope.Scope.{Scope}

-- The first n numbers of an array

module _ (numbers : List ℕ) where
  pub latest_length : (n : ℕ) → length (latest numbers n) ≡ n
  unfolding latest
  latest_length zero = refl
  latest_length (suc n) = ap suc (latest_length n)

  latest_back : (k n : ℕ) → latest numbers n ≡ drop k (latest numbers (n + k))
  unfolding latest
  latest_back zero n = simp unary_clauses
  latest_back (suc k) n = simp unary_clauses (latest_back k n)

  pub latest_fewer : (n len : ℕ) → n ≤ len → latest numbers n ≡ drop (len - n) (latest numbers len)
  latest_fewer n len h = let all : n + (len - n) ≡ len = omega arith in rw all at (latest_back (len - n) n)

  module _ (i x : ℕ) where
    -- what is stored at i changes none before it
    latest_kept : (n : ℕ) → n ≤ i → latest (set numbers i x) n ≡ latest numbers n
    unfolding latest
    latest_kept zero h = refl
    latest_kept (suc n) h = rw (get_or-set_other numbers i n x 0 (λ e. omega arith), latest_kept n (omega arith))

    latest_added : i < length numbers → latest (set numbers i x) (i + 1) ≡ x ∷ latest numbers i
    unfolding latest
    latest_added h = rw (add-one i, get_or-set_same numbers i x 0 h, latest_kept i (omega arith))

-- a test of the first n, in the order of the array or of what is latest
pub any_latest : (test : ℕ → Bool) (numbers : List ℕ) (n : ℕ) → n ≤ length numbers → list_any test (take n numbers) ≡ some test (latest numbers n)
unfolding some latest
any_latest test numbers zero h = refl
any_latest test numbers (suc n) h =
    let more = rw (add-one n) at (list_any_more test numbers n 0 (omega arith)) in
    rw (more, any_latest test numbers n (omega arith)) (or_comm (some test (latest numbers n)) (test (get_or numbers n 0)))

-- what the first `count` tell, while code goes from the latest to the first: it is what the first i tell
pub record Searching {A : Type 0} (tell : List ℕ → A) (numbers : List ℕ) (count i : ℕ) : Type 0 where
  pub fewer : i ≤ count
  pub tells : tell (latest numbers i) ≡ tell (latest numbers count)

module _ {A : Type 0} {tell : List ℕ → A} {numbers : List ℕ} {count : ℕ} where
  -- the latest of these, which is the last, and those behind it
  pub searched : (i : ℕ) → Searching tell numbers count i → 0 < i → tell (get_or numbers (i - 1) 0 ∷ latest numbers (i - 1)) ≡ tell (latest numbers count)
  unfolding latest
  searched zero l h = absurd (omega arith)
  searched (suc i) l h = let back : suc i - 1 ≡ i = omega arith in rw back l.tells

  -- none are left
  pub searched_all : {i : ℕ} → Searching tell numbers count i → i ≤ 0 → tell [] ≡ tell (latest numbers count)
  unfolding latest
  searched_all {i} l h = let z : i ≡ 0 = omega arith in rw z at l.tells

-- Views

-- one definition more, one association more
abbrev pub with_definition : ℕ → View → View
with_definition x v = record { definitions = x ∷ v.definitions; associations = v.associations }

abbrev pub with_association : ℕ → View → View
with_association x v = record { definitions = v.definitions; associations = x ∷ v.associations }

module _ (associations definitions : List ℕ) (sc : Scope) (x : ℕ) where
  pub view_added : sc.defined < length definitions
      → view associations (set definitions sc.defined x) (record { defined = sc.defined + 1; associated = sc.associated })
      ≡ with_definition x (view associations definitions sc)
  view_added h = rw (latest_added definitions sc.defined x h)

  pub view_associated : sc.associated < length associations
      → view (set associations sc.associated x) definitions (record { defined = sc.defined; associated = sc.associated + 1 })
      ≡ with_association x (view associations definitions sc)
  view_associated h = rw (latest_added associations sc.associated x h)

  -- what was visible before stays
  pub view_before_added : view associations (set definitions sc.defined x) sc ≡ view associations definitions sc
  view_before_added = rw (latest_kept definitions sc.defined x sc.defined (omega arith))

  pub view_before_associated : view (set associations sc.associated x) definitions sc ≡ view associations definitions sc
  view_before_associated = rw (latest_kept associations sc.associated x sc.associated (omega arith))

-- what a scope shows stays if what a larger one shows does
pub view_under : (associations definitions associations' definitions' : List ℕ) (outer sc : Scope) → outer.defined ≤ sc.defined → outer.associated ≤ sc.associated
    → view associations' definitions' sc ≡ view associations definitions sc → view associations' definitions' outer ≡ view associations definitions outer
view_under associations definitions associations' definitions' outer sc h h' same =
    let defined = ap (λ (v : View). v.definitions) same in
    let associated = ap (λ (v : View). v.associations) same in
    cc (latest_fewer definitions _ _ h, latest_fewer definitions' _ _ h, latest_fewer associations _ _ h', latest_fewer associations' _ _ h', defined, associated)
