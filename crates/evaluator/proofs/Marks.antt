-- Laws of a refused bytecode form's mark: a rule of evaluation gives its number, so that a reason has it. Document 02, §1. Assumes nothing.
use Prim.Native.Nat.{ℕ}
use mathlib.Core.Path.{◌≡◌, refl, sym}
use mathlib.Core.Bool.{Bool, true, false, ◌||◌}
use lib.Dec.{eqb}
use borrow.Author.Tests.{eqb-true}
use Rattle.std.specs.Prelude.{Result, Ok, Err, IsOk}
use Rattle.laws.specs.Sanity.{RuleNumber}
use Rattle.atoms.specs.Refusals.{number, Numbers}
use Rattle.atoms.specs.declared.refusal.Reason.{Reason}
use Rattle.atoms.specs.declared.refusal.Reason.TheVariants.{TooDeep, WrongElements, NoValue, Misplaced, WrongMarker, NoArgument, TooMany, WrongBytecode}
use Rattle.atoms.specs.declared.refusal.UnknownReason.{UnknownReason}

module _ (w : ℕ) where
  -- a reason has this number
  abbrev pub Named : Type 0
  Named = (reason : Reason) × (number reason ≡ w)

  or_this : (r : Reason) {others : Bool} → (others ≡ true → Named) → (others || eqb w (number r)) ≡ true → Named
  or_this r {others} named = go others named
    where
      go : (b : Bool) → (b ≡ true → Named) → (b || eqb w (number r)) ≡ true → Named
      go true named is = named refl
      go false named is = (r, sym (eqb-true w (number r) is))

  pub rule_named : RuleNumber w → Named
  rule_named =
      or_this WrongBytecode
      (or_this TooMany
      (or_this NoArgument
      (or_this WrongMarker (or_this Misplaced (or_this NoValue (or_this WrongElements (λ t. (TooDeep, sym (eqb-true w 6 t)))))))))

-- a number that a reason has is turned into one
pub turned : (n : ℕ) (r : Result Reason UnknownReason) → Numbers n r → Named n → IsOk r
turned n (Ok reason) told some = refl
turned n (Err e) told some = absurd (told.1 some.0 some.1)
