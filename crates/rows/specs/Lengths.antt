-- Where a length expression of a stream ends. Document 01: "A length expression is a small integer or an array". Assumes nothing.
use Rattle.std.specs.Prelude.{ℕ, ◌-◌, ◌≤◌, ◌≡◌, List, length}
use Rattle.spec.specs.Reading.{Taken, taken}

-- what was read of a stream s is a number, no larger than a stream can be, and ends at a place
pub record EndsAt (s : List ℕ) (x : Taken ℕ) (end : ℕ) : Type 0 where
  pub number : ℕ
  pub left : List ℕ
  pub is : x ≡ taken number left
  pub short : number ≤ 65536
  pub place : length s - length left ≡ end
