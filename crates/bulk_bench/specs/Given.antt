-- What an answer gives: rows, the length, the result's length, that of all results, or an item's. Document 01: "A refusal gives number and place, counts zero."
-- Assumes nothing.
use Rattle.std.specs.Prelude.{ℕ, ◌-◌, ◌≡◌, Bool, true, false, List, Result, Ok, Err}
use Rattle.spec.specs.Calls.{Answer as Stated, Buffer, of_stream, of_result, Part, part, no_part}
use Rattle.spec.specs.Backlog.{Backlogged}
use Rattle.bulk.specs.declared.Refusal.{Refusal}
use Rattle.bulk.specs.declared.Evaluation.{Evaluation}

abbrev pub given : Result ℕ Refusal → ℕ
given (Ok n) = n
given (Err r) = 0

abbrev pub result : Result Evaluation Refusal → ℕ
result (Ok e) = e.length
result (Err r) = 0

-- the number, the table and the output are those of the definition's answer
pub record Gives (a : Stated) (r : ℕ) (table output : List ℕ) : Type 0 where
  pub number : r ≡ a.given
  pub rows : table ≡ a.table
  pub bytes : output ≡ a.output

-- as `Gives`, and the list of answers is the definition's
pub record GivesBacklog (a : Backlogged) (r : ℕ) (table output answers : List ℕ) : Type 0 where
  pub own : Gives a.own r table output
  pub list : answers ≡ a.answers

-- Item's buffer, by a bit
abbrev pub which : Bool → Buffer
which false = of_stream
which true = of_result

-- how long Item's part is
abbrev pub size : Part → ℕ
size (part b start end) = end - start
size no_part = 0
