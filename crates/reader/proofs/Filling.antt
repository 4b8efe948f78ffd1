-- The second pass as a loop over places: what holds before each turn, and that a turn keeps it, whatever token there is.
-- Document 01: "Table". Assumes nothing.
use Prim.Native.Nat.{ℕ, zero, suc, ◌+◌, ◌-◌, ◌*◌, ◌≤◌, ◌<◌}
use mathlib.Core.Path.{◌≡◌, refl}
use mathlib.Core.List.{List, [], ◌∷◌}
use lib.ListN.{length, get_or, set}
use lib.Seq.{get_or-set_same, get_or-set_other}
use native.Mathlib.Omega.{arith}
use borrow.Author.Rules.{rules}
use native.Mathlib.Numerals.{add-one}
use Rattle.std.proofs.Common.{Fits, w8}
use Rattle.std.specs.Prelude.{Result, Ok, Err}
use Rattle.spec.specs.Reading.{tokens, rows_of, row_width}
use Rattle.spec.specs.Calls.{filled}
use Rattle.laws.specs.Demands.{CanRead}
use Rattle.laws.proofs.Tokens.{Right, right_opening, right_closing, right_whole, right_first}
use Rattle.laws.proofs.Reading.{read_readable}
use Rattle.laws.proofs.Steps.{tokens_from, tokens_end, all_bytes}
use Rattle.atoms.specs.Refusals.{told}
use Rattle.atoms.specs.Tokens.{kind_number, token_at, shown}
use Rattle.atoms.specs.declared.Token.{Token as Answer}
use Rattle.atoms.specs.declared.Token.TheVariants.{Opening, Closing, Atom as Whole, Unfinished}
use Rattle.atoms.specs.declared.refusal.Refusal.{Refusal}
use Rattle.atoms.proofs.Next.{Stands, kind_number_of, next}
use Rattle.reader.specs.Passes.{row_started, row_ended}
use Rattle.reader.proofs.Table.{written, Below, below_more, written_filled}

-- Open forms

-- the rows of d open forms, the innermost first; the code has it last
abbrev pub open_forms : List ℕ → ℕ → List ℕ
open_forms forms zero = []
open_forms forms (suc d) = get_or forms d 0 ∷ open_forms forms d

forms_below : (forms : List ℕ) (i r d : ℕ) → d ≤ i → open_forms (set forms i r) d ≡ open_forms forms d
forms_below forms i r zero h = refl
forms_below forms i r (suc d) h = rw (get_or-set_other forms i d r 0 (λ e. omega arith), forms_below forms i r d (omega arith))

form_opened : (forms : List ℕ) (d r : ℕ) → d < length forms → open_forms (set forms d r) (d + 1) ≡ r ∷ open_forms forms d
form_opened forms d r h = rw (add-one d, get_or-set_same forms d r 0 h, forms_below forms d r d (omega arith))

innermost : (forms : List ℕ) (d : ℕ) → 0 < d → open_forms forms d ≡ get_or forms (d - 1) 0 ∷ open_forms forms (d - 1)
innermost forms zero h = absurd (omega arith)
innermost forms (suc d) h = let back : suc d - 1 ≡ d = omega arith in rw back

-- Before a turn

-- the places and counts at p are in bounds: each row has a byte of its own
pub record Bounded (s t₀ t forms : List ℕ) (p d n : ℕ) : Type 0 where
  pub short : length s ≤ 65536
  pub inside : p ≤ length s
  pub early : n ≤ p
  pub deep : d ≤ 64
  pub stack : 64 ≤ length forms
  pub same : length t ≡ length t₀
  pub fits : row_width * (n + length (rows_of (tokens_from s p))) ≤ length t₀

-- At place p of the stream s, n rows are taken and d forms are open. The table was t₀ at first and is t; the tokens from p on make it
-- what it is to be.
pub record Filling (s t₀ t forms : List ℕ) (p d n : ℕ) : Type 0 where
  pub bounds : Bounded s t₀ t forms p d n
  pub passes : Right (length s) (tokens_from s p) d n
  pub below : Below n (open_forms forms d)
  pub leaves : written (tokens_from s p) (open_forms forms d) n t ≡ filled (rows_of (tokens 0 0 s)) t₀

pub filling_start : (s t forms : List ℕ) → ((i : ℕ) → Fits w8 (get_or s i 0)) → CanRead s → 64 ≤ length forms
    → row_width * length (rows_of (tokens 0 0 s)) ≤ length t → Filling s t t forms 0 0 0
filling_start s t forms bytes can stack fits =
    let r = read_readable s (length s) _ _ can in
    record { bounds = search rules; passes = r.well; below = tt; leaves = written_filled s t (length s) (all_bytes s (λ i. (bytes i).fits)) r.well fits }

pub filling_end : (s t₀ t forms : List ℕ) (p d n : ℕ) → Filling s t₀ t forms p d n → length s ≤ p → t ≡ filled (rows_of (tokens 0 0 s)) t₀
unfolding written
filling_end s t₀ t forms p d n f h = rw (tokens_end s p h) at f.leaves

-- A turn

module _ (s t₀ t forms : List ℕ) (p d n : ℕ) where
  -- what the code has to know at a token, and what holds after it
  abbrev pub Turn : Result Answer (ℕ × ℕ) → Type 0
  Turn (Ok Opening) = (d < 64) × (row_width * n + row_width ≤ length t) × Filling s t₀ (row_started t n 1 p) (set forms d n) (p + 1) (d + 1) (n + 1)
  Turn (Ok Closing) =
      let r = get_or forms (d - 1) 0 in
      (0 < d) × (row_width * r + row_width ≤ length t) × Filling s t₀ (row_ended t r (p + 1) n) forms (p + 1) (d - 1) n
  Turn (Ok (Whole k b e)) =
      (p < e) × (e ≤ length s) × (row_width * n + row_width ≤ length t)
      × Filling s t₀ (row_ended (row_started t n (kind_number k) p) n e (n + 1)) forms e d (n + 1)
  Turn (Ok Unfinished) = ⊥
  Turn (Err r) = ⊥

  module _ (f : Filling s t₀ t forms p d n) (inside : p < length s) where
    turns : (r : Result Answer (ℕ × ℕ)) → Stands s p r → Turn r
    unfolding rows_of written
    turns (Ok Opening) is =
        let k = right_opening (rw is at f.passes) in
        let fits = rw is at f.bounds.fits in
        let opened : open_forms (set forms d n) (d + 1) ≡ n ∷ open_forms forms d = form_opened forms d n (omega (arith, k.0)) in (
          k.0,
          omega arith,
          record {
            bounds = search rules;
            passes = k.2;
            below = rw opened (omega arith, below_more n (open_forms forms d) f.below);
            leaves = rw opened (rw is at f.leaves);
          },
        )
    turns (Ok Closing) is =
        let k = right_closing (rw is at f.passes) in
        let inner = innermost forms d k.0 in
        let below = rw inner at f.below in
        let fits = rw is at f.bounds.fits in (
          k.0,
          omega (arith, below.0),
          record { bounds = search rules; passes = k.1; below = below.1; leaves = rw (is, inner) at f.leaves },
        )
    turns (Ok (Whole k b e)) w =
        let fits = rw w.is at f.bounds.fits in (
          w.forward,
          w.inside,
          omega arith,
          record {
            bounds = search rules;
            passes = (right_whole (rw w.is at f.passes)).1;
            below = below_more n (open_forms forms d) f.below;
            leaves = rw (w.kind_is, kind_number_of w.atom) (rw w.is at f.leaves);
          },
        )
    turns (Ok Unfinished) x = right_first (rw x.1 at f.passes)
    turns (Err r) x = right_first (rw x.1 at f.passes)

    pub turn : ((i : ℕ) → Fits w8 (get_or s i 0)) → (r : Result Answer Refusal) → told r ≡ shown (token_at s p) → Turn (told r)
    turn bytes r is = turns (told r) (next s p r (all_bytes s (λ i. (bytes i).fits)) inside is)
