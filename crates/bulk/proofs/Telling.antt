-- What a refusal tells, its number and its place, is all of it: no two reasons have one number. Document 01: "Refusals". Assumes nothing.
use Prim.Native.Nat.{ℕ}
use mathlib.Core.Path.{◌≡◌, ap, ◌∙◌}
use Rattle.std.specs.Prelude.{Result, Ok, Err}
use Rattle.atoms.specs.Refusals.{number, told}
use Rattle.atoms.specs.declared.refusal.Reason.{Reason}
use Rattle.atoms.specs.declared.refusal.Refusal.{Refusal}
use Rattle.atoms.proofs.Reasons.{number_injective}

err_one : {A E : Type 0} (x y : E) → ◌≡◌ {A = Result A E} (Err x) (Err y) → x ≡ y
err_one x y e = cc

-- what a refusal tells
module _ {A : Type 0} (r : Refusal) (w p : ℕ) (e : told {A = A} (Err r) ≡ Err (w, p)) where
  pub told_number : number r.reason ≡ w
  told_number = ap (λ (x : ℕ × ℕ). x.0) (err_one (number r.reason, r.place) (w, p) e)

  pub told_place : r.place ≡ p
  told_place = ap (λ (x : ℕ × ℕ). x.1) (err_one (number r.reason, r.place) (w, p) e)

-- answers that tell the same are the same
pub told_one : {A : Type 0} (x y : Result A Refusal) → told x ≡ told y → x ≡ y
told_one (Ok a) (Ok b) e = cc
told_one (Ok a) (Err r) e = cc
told_one (Err r) (Ok a) e = cc
told_one (Err r) (Err r') e =
    ap (λ (x : Reason). Err (record { reason = x; place = r.place })) (number_injective r.reason r'.reason (told_number r _ _ e))
    ∙ ap (λ (x : ℕ). Err (record { reason = r'.reason; place = x })) (told_place r _ _ e)
