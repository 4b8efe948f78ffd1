-- The numbers of refusals: each is 1 or more, and no two refusals have the same. Assumes nothing.
use Rattle.std.proofs.Common.{◌≡◌, ℕ, ◌≤◌, List, [], ◌∷◌, get_or, refl, sym, ◌∙◌, ap, arith}
use Rattle.atoms.specs.Refusals.{number}
use Rattle.atoms.specs.declared.refusal.Reason.{Reason}
use Rattle.atoms.specs.declared.refusal.Reason.TheVariants.{TooLong, CutOff, StrayClosing, ReservedMarker, NoLength, TooDeep, LargeMarker, FullTable, NoVersion, OtherVersion, WrongElements, NoValue, Misplaced, WrongMarker, NoArgument, NoSteps, FullWorkspace, ShortOutput, TooMany, WrongBytecode, WrongEnds}

pub number_positive : (reason : Reason) → 1 ≤ number reason
number_positive TooLong = omega arith
number_positive CutOff = omega arith
number_positive StrayClosing = omega arith
number_positive ReservedMarker = omega arith
number_positive NoLength = omega arith
number_positive TooDeep = omega arith
number_positive LargeMarker = omega arith
number_positive FullTable = omega arith
number_positive NoVersion = omega arith
number_positive OtherVersion = omega arith
number_positive WrongElements = omega arith
number_positive NoValue = omega arith
number_positive Misplaced = omega arith
number_positive WrongMarker = omega arith
number_positive NoArgument = omega arith
number_positive NoSteps = omega arith
number_positive FullWorkspace = omega arith
number_positive ShortOutput = omega arith
number_positive TooMany = omega arith
number_positive WrongBytecode = omega arith
number_positive WrongEnds = omega arith

-- by their numbers; where there is none, any
by_number : List Reason
by_number = TooLong ∷ TooLong ∷ CutOff ∷ StrayClosing ∷ ReservedMarker ∷ NoLength ∷ TooDeep ∷ LargeMarker ∷ FullTable ∷ NoVersion ∷ OtherVersion ∷ WrongElements ∷ NoValue ∷ Misplaced ∷ WrongMarker ∷ NoArgument ∷ NoSteps ∷ FullWorkspace ∷ ShortOutput ∷ TooMany ∷ TooLong ∷ TooLong ∷ WrongBytecode ∷ WrongEnds ∷ []

numbered : (reason : Reason) → get_or by_number (number reason) TooLong ≡ reason
unfolding by_number
numbered TooLong = refl
numbered CutOff = refl
numbered StrayClosing = refl
numbered ReservedMarker = refl
numbered NoLength = refl
numbered TooDeep = refl
numbered LargeMarker = refl
numbered FullTable = refl
numbered NoVersion = refl
numbered OtherVersion = refl
numbered WrongElements = refl
numbered NoValue = refl
numbered Misplaced = refl
numbered WrongMarker = refl
numbered NoArgument = refl
numbered NoSteps = refl
numbered FullWorkspace = refl
numbered ShortOutput = refl
numbered TooMany = refl
numbered WrongBytecode = refl
numbered WrongEnds = refl

pub number_injective : (q r : Reason) → number q ≡ number r → q ≡ r
number_injective q r same = sym (numbered q) ∙ ap (λ (n : ℕ). get_or by_number n TooLong) same ∙ numbered r
