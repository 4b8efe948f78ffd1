-- The words of laws that a wrong definition would not meet: about rows, and about what a run names.
-- Document 01: "Table", "Evaluation". Assumes nothing.
use Rattle.std.specs.Prelude.{ℕ, ◌≤◌, ◌<◌, ◌≡◌, List, [], ◌∷◌, Bool, true, ◌||◌, length, get_or, eqb}
use Rattle.spec.specs.Reading.{Row}
use Rattle.spec.specs.Runs.{Event, step, charge, stopped, Run}

-- rows that start before they end, and end at `end` or before it
abbrev pub Inside : ℕ → List Row → Type 0
Inside end [] = Unit {0}
Inside end (r ∷ rs) = (r.start < r.end) × (r.end ≤ end) × Inside end rs

-- row k is the first that starts at or after e, or there is none and k is how many rows there are. `other` is what `get_or` gives past the
-- last row; it does not matter.
pub record FirstFrom (e : ℕ) (rs : List Row) (other : Row) (k : ℕ) : Type 0 where
  pub before : (i : ℕ) → i < k → (get_or rs i other).start < e
  pub among : k ≤ length rs
  pub from : k < length rs → e ≤ (get_or rs k other).start

-- every row that is named is below a number
abbrev pub RowsBelow : ℕ → List Event → Type 0
RowsBelow n [] = Unit {0}
RowsBelow n (step r ∷ es) = (r < n) × RowsBelow n es
RowsBelow n (charge r m ∷ es) = (r < n) × RowsBelow n es

-- the refusals that a rule of evaluation gives: 6, 11 to 15, 19, and 22
abbrev pub rule_number : ℕ → Bool
rule_number w = eqb w 6 || eqb w 11 || eqb w 12 || eqb w 13 || eqb w 14 || eqb w 15 || eqb w 19 || eqb w 22

abbrev pub RuleNumber : ℕ → Type 0
RuleNumber w = rule_number w ≡ true

-- a run names only rows below n, and stops only as a rule says
pub record Proper (n : ℕ) {A : Type 0} (run : Run A) : Type 0 where
  pub rows_below : RowsBelow n run.events
  pub stops : (w r : ℕ) → run.end ≡ stopped w r → RuleNumber w × (r < n)
