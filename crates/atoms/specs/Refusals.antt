-- The papers' number of each refusal. Document 01: "Refusals"; document 02, §1 and §2. Assumes nothing.
use Rattle.std.specs.Prelude.{ℕ, ◌≡◌, ◌≢◌, Result, Ok, Err, MatchResult}
use Rattle.atoms.specs.declared.refusal.Reason.{Reason}
use Rattle.atoms.specs.declared.refusal.Reason.TheVariants.{TooLong, CutOff, StrayClosing, ReservedMarker, NoLength, TooDeep, LargeMarker, FullTable, NoVersion, OtherVersion, WrongElements, NoValue, Misplaced, WrongMarker, NoArgument, NoSteps, FullWorkspace, ShortOutput, TooMany, WrongBytecode, WrongEnds}
use Rattle.atoms.specs.declared.refusal.Refusal.{Refusal}
use Rattle.atoms.specs.declared.refusal.UnknownReason.{UnknownReason}

abbrev pub number : Reason → ℕ
number TooLong = 1
number CutOff = 2
number StrayClosing = 3
number ReservedMarker = 4
number NoLength = 5
number TooDeep = 6
number LargeMarker = 7
number FullTable = 8
number NoVersion = 9
number OtherVersion = 10
number WrongElements = 11
number NoValue = 12
number Misplaced = 13
number WrongMarker = 14
number NoArgument = 15
number NoSteps = 16
number FullWorkspace = 17
number ShortOutput = 18
number TooMany = 19
number WrongBytecode = 22
number WrongEnds = 23

-- the refusal for a reason, at a place
abbrev pub refused : Reason → ℕ → Refusal
refused reason place = record { reason = reason; place = place }

-- the reason with this number, if there is one
abbrev pub Numbers : ℕ → Result Reason UnknownReason → Type 0
Numbers n r = MatchResult r (λ reason. number reason ≡ n) (λ e. (e.0 ≡ n) × ((reason : Reason) → number reason ≢ n))

-- an answer with a refusal's number and place, as the definitions have them
abbrev pub told : {A : Type 0} → Result A Refusal → Result A (ℕ × ℕ)
told (Ok a) = Ok a
told (Err r) = Err (number r.reason, r.place)
