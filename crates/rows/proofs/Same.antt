-- Laws of `same`: two lists compared byte by byte, as std's tests compare slices. Document 01: "exactly the six bytes", "id used before". Assumes nothing.
use mathlib.Core.Path.{◌≡◌, refl, sym, ap, ◌∙◌}
use mathlib.Core.List.{List, [], ◌∷◌}
use mathlib.Core.Bool.{Bool, true, false, ◌&&◌, and-false}
use Prim.Native.Nat.{ℕ, suc}
use lib.ListN.{length}
use lib.Dec.{eqb}
use lib.Pointwise.{pointwise}
use borrow.Author.Tests.{eqb-true}
use Rattle.std.proofs.lemmas.Cmp.{nat_list_eq_equiv}
use Rattle.spec.specs.Expr.{same}
use Rattle.laws.proofs.Basics.{impossible}

-- what std's `==` of two slices of bytes answers
pub slices_same : (x y : List ℕ) → pointwise eqb x y ≡ same x y
unfolding same
slices_same [] [] = refl
slices_same [] (b ∷ y) = refl
slices_same (a ∷ x) [] = refl
slices_same (a ∷ x) (b ∷ y) = rw (slices_same x y)

-- and `starts_with`, which compares what is looked for with the beginning
pub beginning_same : (x y : List ℕ) → pointwise eqb y x ≡ same x y
beginning_same x y = nat_list_eq_equiv.symm y x ∙ slices_same x y

-- lists of different lengths are not the same
pub same_long : (x y : List ℕ) → (length x ≡ length y → ⊥) → false ≡ same x y
unfolding same
same_long [] [] h = absurd (h refl)
same_long [] (b ∷ y) h = refl
same_long (a ∷ x) [] h = refl
same_long (a ∷ x) (b ∷ y) h = rw (← same_long x y (λ e. h (ap suc e))) (sym (and-false (eqb a b)))

pub same_equal : (x y : List ℕ) → same x y ≡ true → x ≡ y
unfolding same
same_equal [] [] h = refl
same_equal [] (b ∷ y) h = impossible (cc)
same_equal (a ∷ x) [] h = impossible (cc)
same_equal (a ∷ x) (b ∷ y) h = go (eqb a b) refl (same_equal x y) h
  where
    go : (c : Bool) → eqb a b ≡ c → (same x y ≡ true → x ≡ y) → c && same x y ≡ true → a ∷ x ≡ b ∷ y
    go true e f q = rw (eqb-true a b e, f q)
    go false e f q = impossible (cc)
