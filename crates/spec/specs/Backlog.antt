-- Document 02, §2, "A night's backlog at once": what the call answers, for every input. Assumes nothing.
use Rattle.std.specs.Prelude.{ℕ, ◌+◌, ◌-◌, ◌/◌, List, [], ◌∷◌, ◌++◌, Bool, false, not, ◌||◌, length, take, drop, ltb, eqb}
use Rattle.spec.specs.Expr.{when◌then◌else◌}
use Rattle.spec.specs.Calls.{Answer, refusal, acceptance, over, Evaluate}

-- "Take one buffer of streams end to end with a list of their ends": the streams, the first of which starts at `start`
unfoldable pub streams : ℕ → List ℕ → List ℕ → List (List ℕ)
streams start [] buffer = []
streams start (end ∷ ends) buffer = take (end - start) (drop start buffer) ∷ streams end ends buffer

-- "an end below the one before"; before the first is the buffer's start
unfoldable pub some_below : ℕ → List ℕ → Bool
some_below before [] = false
some_below before (end ∷ ends) = ltb end before || some_below end ends

-- the last of these ends, of which this is the one before
unfoldable pub last_end : ℕ → List ℕ → ℕ
last_end before [] = before
last_end before (end ∷ ends) = last_end end ends

-- "an end below the one before, a last end other than the buffer's length (no ends: buffer not empty)"
abbrev pub misplaced : List ℕ → ℕ → Bool
misplaced ends size = some_below 0 ends || not (eqb (last_end 0 ends) size)

-- "four 64-bit numbers a stream"
abbrev pub answer_width : ℕ
answer_width = 4

-- 23: also "fewer places for answers than ends"
unfoldable pub is_23 : List ℕ → List ℕ → List ℕ → Bool
is_23 buffer ends answers = misplaced ends (length buffer) || ltb (length answers / answer_width) (length ends)

-- "each one's answer, place, length and steps"
abbrev pub four_numbers : Answer → List ℕ
four_numbers a = a.number ∷ a.place ∷ a.given ∷ a.steps ∷ []

-- what evaluations leave: four numbers for each, the results' total length, the table and the output
pub record Evaluations : Type 0 where
  pub answers : List ℕ
  pub given : ℕ
  pub table : List ℕ
  pub output : List ℕ

-- an evaluation, then others that had the output left by it; "results end to end"
abbrev pub followed : Answer → Evaluations → Evaluations
followed a others = record {
  answers = four_numbers a ++ others.answers;
  given = a.given + others.given;
  table = others.table;
  output = take a.given a.output ++ others.output;
}

-- "one evaluation after another, each with the same table, steps and workspace and the output left by those before"
unfoldable pub in_turn : List (List ℕ) → List ℕ → ℕ → List ℕ → ℕ → Evaluations
in_turn [] table work output steps = record { answers = []; given = 0; table = table; output = output }
in_turn (s ∷ ss) table work output steps =
    let a = Evaluate s table work output steps in
    followed a (in_turn ss a.table work (drop a.given a.output) steps)

-- the call's own answer, and the lent list of answers afterwards
pub record Backlogged : Type 0 where
  pub own : Answer
  pub answers : List ℕ

-- the evaluations' numbers put in the lent list, whose other numbers stay
abbrev pub accepted : Evaluations → List ℕ → Backlogged
accepted es answers = record { own = acceptance es.given 0 es.table es.output; answers = over es.answers answers }

-- 23 comes "at 0, before all others, nothing written".
unfoldable pub Backlog : List ℕ → List ℕ → List ℕ → ℕ → List ℕ → ℕ → List ℕ → Backlogged
Backlog buffer ends table work output steps answers =
    when is_23 buffer ends answers then record { own = refusal 23 0 table output; answers = answers } else
    accepted (in_turn (streams 0 ends buffer) table work output steps) answers
