-- Document 02, §4, as theorems about what `read` answers and leaves in the table. Above each stands what was asked for, and what it says for a
-- caller. They follow from the theorems over the definitions (`Parts` of the crate `laws`). Assumes nothing.
use Prim.Native.Nat.{ℕ, ◌+◌, ◌*◌}
use mathlib.Core.Path.{◌≡◌, refl, sym, ap, ◌∙◌}
use mathlib.Core.Logic.{inl, inr}
use mathlib.Core.List.{List, ◌++◌}
use lib.ListN.{length, take, drop}
use lib.Seq.{length-take-le, take-take, take-add, take_at, drop_at}
use native.Mathlib.Omega.{arith}
use Rattle.std.specs.Prelude.{Result, Ok, Err}
use Rattle.spec.specs.Reading.{row_width}
use Rattle.spec.specs.Calls.{Answer, Read}
use Rattle.laws.specs.Demands.{Bytes, row_numbers}
use Rattle.laws.specs.Parts.{LongestFront, RightSoFar, passed_on, moved, InTwoParts}
use Rattle.laws.proofs.Theorems.{read_fits, read_keeps}
use Rattle.laws.proofs.Parts as laws
use Rattle.atoms.specs.Refusals.{told}
use Rattle.atoms.specs.declared.refusal.Refusal.{Refusal}
use Rattle.bulk.specs.Promises.{Call, ReadOrUnfinished, passes_on, ReadInTurn}
use Rattle.bulk.proofs.Telling.{told_number, told_place}
use Rattle.bulk.proofs.Demands.{decided, given_as, accepted_as, refused_as, is_zero}

module _ (s t : List ℕ) (x : Call (Read s t)) where
  -- a call whose definition accepts
  accepts : (Read s t).number ≡ 0 → x.answer ≡ Ok (Read s t).given
  accepts zero = given_as x _ (rw zero)

  -- its rows
  rows_read : (n : ℕ) → x.answer ≡ Ok n → take (row_width * n) x.table ≡ row_numbers (Read s t)
  rows_read n h = ap row_numbers (accepted_as x n h)

-- "if a stream is refused by 2 at p, then its first p bytes alone can be read [..], and they are whole top-level expressions": a caller that is told 2
-- at p can pass on the bytes before p, and no more of them.
pub part_held : (s t : List ℕ) → Bytes s → (x : Call (Read s t)) (p : ℕ) → told x.answer ≡ Err (2, p)
    → LongestFront s t p × ((y : Call (Read (take p s) t)) → y.answer ≡ Ok (Read (take p s) t).given)
part_held s t b x p h =
    let is = refused_as x 2 p h in
    let front = rw (← ap (λ (a : Answer). a.place) is) at (laws.part_held s t b (ap (λ (a : Answer). a.number) (sym is))) in
    (front, λ y. accepts (take p s) t y front.accepted)

unfinished : (s : List ℕ) (r : Result ℕ Refusal) (p : ℕ) → told r ≡ Err (2, p) → ReadOrUnfinished r × (passes_on s r ≡ p)
unfinished s (Ok n) p e = cc
unfinished s (Err r) p e = (told_number r 2 p e, told_place r 2 p e)

-- an answer by the definition's number
answered_so : (s : List ℕ) {a : Answer} (y : Call a) → RightSoFar a → ReadOrUnfinished y.answer × (passes_on s y.answer ≡ passed_on s a)
answered_so s {a} y (inl zero) = rw (given_as y a.given (rw zero), zero) (tt, refl)
answered_so s {a} y (inr two) = rw two (unfinished s y.answer a.place (decided y ∙ rw two))

-- "and for every stream, if it can be read when some bytes are added, then it is refused by 2 at p alone or it can be read, and what is before p is
-- read as before (the same rows and the same meaning come first)": a caller that has only s is told to wait, by 2, or not; what it may pass on then is
-- accepted, and fills the table as the first rows of the whole; and the rest, joined with what follows, is accepted too, and has the other rows.
module _ (s next t : List ℕ) (stream : Bytes (s ++ next)) (x : Call (Read (s ++ next) t)) (n : ℕ) (accepted : x.answer ≡ Ok n) where
  whole : (Read (s ++ next) t).number ≡ 0
  whole = is_zero n 0 x.table x.output (accepted_as x n accepted)

  -- the numbers of both parts' rows stand in the table one behind the other
  module _ (p : ℕ) (two : InTwoParts s next t p) where
    abbrev one : Answer
    one = Read (take p s) t

    abbrev other : Answer
    other = Read (drop p s ++ next) t

    abbrev own : ℕ
    own = row_width * one.given

    abbrev behind : List ℕ
    behind = moved p one.given (row_numbers other)

    count : row_width * n ≡ own + row_width * other.given
    count = omega (arith, ap (λ (a : Answer). a.given) (accepted_as x n accepted), two.counts)

    own_size : length (row_numbers one) ≡ own
    own_size = length-take-le own one.table (omega (arith, read_fits (take p s) t, (read_keeps (take p s) t).tables))

    both : take (row_width * n) x.table ≡ row_numbers one ++ behind
    both = rows_read (s ++ next) t x n accepted ∙ two.rows

    first_rows : take own x.table ≡ row_numbers one
    first_rows = sym (take-take own (row_width * n) x.table (omega (arith, count))) ∙ ap (take own) both ∙ take_at (row_numbers one) behind own own_size

    other_rows : take (row_width * other.given) (drop own x.table) ≡ behind
    other_rows =
        sym (drop_at (take own x.table) (take (row_width * other.given) (drop own x.table)) own (ap length first_rows ∙ own_size))
        ∙ ap (drop own) (sym (take-add own (row_width * other.given) x.table) ∙ ap (λ (k : ℕ). take k x.table) (sym count) ∙ both)
        ∙ drop_at (row_numbers one) behind own own_size

  read_on : (p : ℕ) → InTwoParts s next t p → ReadInTurn s next t x n p
  read_on p two = record {
    first = (Read (take p s) t).given;
    others = (Read (drop p s ++ next) t).given;
    counts = ap (λ (a : Answer). a.given) (accepted_as x n accepted) ∙ two.counts;
    front = λ y. let a = accepts (take p s) t y two.front in (a, rows_read (take p s) t y _ a ∙ sym (first_rows p two));
    back = λ z. let a = accepts (drop p s ++ next) t z two.back in
        (a, ap (moved p (Read (take p s) t).given) (rows_read (drop p s ++ next) t z _ a) ∙ sym (other_rows p two));
    means = two.means;
  }

  pub part_continued : (y : Call (Read s t)) → ReadOrUnfinished y.answer × ReadInTurn s next t x n (passes_on s y.answer)
  part_continued y =
      let c = laws.part_continued s next t stream whole in
      let a = answered_so s y c.0 in
      (a.0, rw a.1 (read_on (passed_on s (Read s t)) c.1))
