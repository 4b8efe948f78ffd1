-- The first pass as a loop over places: what holds before each turn, what a turn refuses or keeps, whatever token there is, and what the
-- stream's end answers. Document 01: "Bytes to expressions", refusals 1 to 8. Assumes nothing.
use Prim.Native.Nat.{ℕ, ◌+◌, ◌-◌, ◌≤◌, ◌<◌}
use mathlib.Core.Path.{◌≡◌, refl, ◌∙◌}
use mathlib.Core.List.{List, ◌∷◌}
use native.Mathlib.Omega.{arith}
use borrow.Author.Rules.{rules}
use lib.ListN.{length, get_or, length-append}
use lib.Dec.{eqb}
use borrow.Author.Tests.{lt-ltb, le-ltb, le-leb, lt-leb, ne_eqb}
use Rattle.std.proofs.Common.{Fits, w8}
use Rattle.std.specs.Prelude.{Result, Ok, Err}
use Rattle.spec.specs.Expr.{when◌then◌else◌}
use Rattle.spec.specs.Reading.{Token, opening, closing, whole, tokens, right, wrong, began, check, rows_of, read}
use Rattle.laws.proofs.Tokens.{right_tokens}
use Rattle.laws.proofs.Written.{bytes_of, token_bytes, canonical_tokens}
use Rattle.laws.proofs.Steps.{tokens_from, tokens_end, all_bytes}
use Rattle.atoms.specs.Refusals.{told}
use Rattle.atoms.specs.Tokens.{token_at, shown, atom_head}
use Rattle.atoms.specs.declared.Token.{Token as Answer}
use Rattle.atoms.specs.declared.Token.TheVariants.{Opening, Closing, Atom as Whole, Unfinished}
use Rattle.atoms.specs.declared.refusal.Refusal.{Refusal}
use Rattle.atoms.proofs.Next.{Stands, next, written_size}
use Rattle.reader.specs.Passes.{checked}
use Rattle.reader.specs.declared.Counts.{Counts}

-- Answers

-- this is what the pass is to answer, with a refusal's number and place
abbrev pub Answers : List ℕ → ℕ → Result Counts (ℕ × ℕ) → Type 0
Answers s room v = v ≡ checked (read s room)

pub too_long : (s : List ℕ) (room : ℕ) → 65536 < length s → Answers s room (Err (1, 0))
unfolding read
too_long s room h = rw (lt-ltb 65536 (length s) h)

module _ (s : List ℕ) (room : ℕ) (short : length s ≤ 65536) where
  answer_wrong : (w p : ℕ) → check 0 room (tokens 0 0 s) 0 0 ≡ wrong w p → Answers s room (Err (w, p))
  unfolding read
  answer_wrong w p h = rw (le-ltb 65536 (length s) short, h)

  answer_right : (n size : ℕ) → check 0 room (tokens 0 0 s) 0 0 ≡ right → length (rows_of (tokens 0 0 s)) ≡ n
      → length (token_bytes (tokens 0 0 s)) ≡ size → Answers s room (Ok (record { rows = n; length = size }))
  unfolding read
  answer_right n size h rows bytes = rw (le-ltb 65536 (length s) short, h, ← canonical_tokens (right_tokens 0 room (tokens 0 0 s) 0 0 h), rows, bytes)

-- Before a turn

-- nothing that is counted up to place p is above it
pub record Counted (s : List ℕ) (p d n saved : ℕ) : Type 0 where
  pub inside : p ≤ length s
  pub shallow : d ≤ p
  pub early : n ≤ p
  pub shorter : saved ≤ p

-- At place p, d forms are open, the outermost from place `from` on, n rows are taken, and the canonical bytes of the tokens so far are
-- `saved` fewer than p.
pub record Checking (s : List ℕ) (room p from d n saved : ℕ) : Type 0 where
  pub counts : Counted s p d n saved
  pub verdict : check 0 room (tokens 0 0 s) 0 0 ≡ check from room (tokens_from s p) d n
  pub rows : length (rows_of (tokens 0 0 s)) ≡ n + length (rows_of (tokens_from s p))
  pub sized : length (token_bytes (tokens 0 0 s)) ≡ p - saved + length (token_bytes (tokens_from s p))

pub checking_start : (s : List ℕ) (room : ℕ) → Checking s room 0 0 0 0 0
checking_start s room = record { counts = search rules; verdict = refl; rows = omega arith; sized = omega arith }

-- A turn

-- what is refused at a token, and what holds after it
abbrev pub CheckTurn : (s : List ℕ) (room p from d n saved : ℕ) → Result Answer (ℕ × ℕ) → Type 0
CheckTurn s room p from d n saved (Ok Opening) =
    (64 ≤ d → Answers s room (Err (6, p))) × (d < 64 → room ≤ n → Answers s room (Err (8, p)))
    × (d < 64 → n < room → Checking s room (p + 1) (began d from p) (d + 1) (n + 1) saved)
CheckTurn s room p from d n saved (Ok Closing) =
    (d ≡ 0 → Answers s room (Err (3, p))) × ((d ≡ 0 → ⊥) → Checking s room (p + 1) from (d - 1) n saved)
CheckTurn s room p from d n saved (Ok (Whole k b e)) =
    let head = length (atom_head k (e - b)) in
    (b ≤ e) × (p + head ≤ b) × (p < e) × (e ≤ length s) × (room ≤ n → Answers s room (Err (8, p)))
    × ((m : ℕ) → m ≡ b - p - head → n < room → Checking s room e from d (n + 1) (saved + m))
CheckTurn s room p from d n saved (Ok Unfinished) = Answers s room (Err (2, began d from p))
CheckTurn s room p from d n saved (Err r) = Answers s room (Err r)

bytes_more : (t : Token) (ts : List Token) → length (token_bytes (t ∷ ts)) ≡ length (bytes_of t) + length (token_bytes ts)
unfolding token_bytes
bytes_more t ts = length-append (bytes_of t) (token_bytes ts)

module _ (s : List ℕ) (room p from d n saved : ℕ) (short : length s ≤ 65536) (f : Checking s room p from d n saved) where
  refuse : (w q : ℕ) → check from room (tokens_from s p) d n ≡ wrong w q → Answers s room (Err (w, q))
  refuse w q h = answer_wrong s room short w q (f.verdict ∙ h)

  module _ (inside : p < length s) where
    turn : (r : Result Answer (ℕ × ℕ)) → Stands s p r → CheckTurn s room p from d n saved r
    unfolding check rows_of
    turn (Ok Opening) is = (
      λ h. refuse 6 p (rw (is, le-leb 64 d h)),
      λ h l. refuse 8 p (rw (is, lt-leb 64 d h, le-leb room n l)),
      λ h l. record {
        counts = search rules;
        verdict = f.verdict ∙ rw (is, lt-leb 64 d h, lt-leb room n l);
        rows = f.rows ∙ rw is (omega arith);
        sized = f.sized ∙ rw is (omega (arith, bytes_more (opening p) (tokens_from s (p + 1))));
      },
    )
    turn (Ok Closing) is = (
      λ h. refuse 3 p (rw (is, h)),
      λ h. record {
        counts = search rules;
        verdict = f.verdict ∙ rw (is, ne_eqb d 0 h);
        rows = f.rows ∙ rw is;
        sized = f.sized ∙ rw is (omega (arith, bytes_more (closing p) (tokens_from s (p + 1))));
      },
    )
    turn (Ok (Whole k b e)) w =
        let bytes = written_size s p k b e w in
        let shorter = w.shorter in (
          w.ends,
          omega arith,
          w.forward,
          w.inside,
          λ l. refuse 8 p (rw (w.is, le-leb room n l)),
          λ m h l. record {
            counts = search rules;
            verdict = f.verdict ∙ rw (w.is, lt-leb room n l);
            rows = f.rows ∙ rw w.is (omega arith);
            sized = f.sized ∙ rw w.is (omega (arith, bytes_more (whole w.atom p e) (tokens_from s e)));
          },
        )
    turn (Ok Unfinished) x = refuse 2 (began d from p) (rw x.1)
    turn (Err r) x = refuse r.0 r.1 (rw x.1)

    pub check_turn : ((i : ℕ) → Fits w8 (get_or s i 0)) → (r : Result Answer Refusal) → told r ≡ shown (token_at s p)
        → CheckTurn s room p from d n saved (told r)
    check_turn bytes r is = turn (told r) (next s p r (all_bytes s (λ i. (bytes i).fits)) inside is)

  -- at the stream's end
  module _ (end : length s ≤ p) where
    verdict_end : check from room (tokens_from s p) d n ≡ (when eqb d 0 then right else wrong 2 from)
    unfolding check
    verdict_end = rw (tokens_end s p end)

    pub end_right : d ≡ 0 → Answers s room (Ok (record { rows = n; length = p - saved }))
    unfolding rows_of token_bytes
    end_right h =
        let none = tokens_end s p end in
        answer_right s room short n (p - saved) (f.verdict ∙ verdict_end ∙ rw h) (f.rows ∙ rw none (omega arith)) (f.sized ∙ rw none (omega arith))

    pub end_wrong : 0 < d → Answers s room (Err (2, from))
    end_wrong h = refuse 2 from (verdict_end ∙ rw (ne_eqb d 0 (λ z. omega arith)))
