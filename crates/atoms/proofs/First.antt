-- The token at a place by its first byte, as the code gives it: document 01's table of first bytes. Assumes nothing.
use Prim.Native.Nat.{ℕ, suc, ◌+◌, ◌-◌, ◌≤◌, ◌<◌}
use mathlib.Core.Path.{◌≡◌, ap, ◌∙◌}
use mathlib.Core.List.{List}
use mathlib.Core.Bool.{false}
use native.Mathlib.Omega.{arith}
use native.Mathlib.Numerals.{add-one}
use lib.ListN.{length, drop, get_or, length-drop}
use lib.Seq.{drop-cons}
use lib.Dec.{ltb, eqb}
use borrow.Author.Tests.{lt-ltb, le-ltb, ne_eqb}
use Rattle.std.specs.Prelude.{Result, Ok, Err}
use Rattle.spec.specs.Expr.{when◌then◌else◌, int}
use Rattle.spec.specs.Reading.{taken, and_then, take_bytes, length_expr, marker, name, as_array, read_atom, token}
use Rattle.atoms.specs.Tokens.{token_at, shown, shown_atom}
use Rattle.atoms.specs.declared.Kind.TheVariants.{Nil, Array, Int, Reference}
use Rattle.atoms.specs.declared.Token.{Token}
use Rattle.atoms.specs.declared.Token.TheVariants.{Opening, Closing, Atom as Whole}
use Rattle.atoms.proofs.Places.{left_at, shown_array, shown_reference}

module _ (s : List ℕ) (p : ℕ) (inside : p < length s) where
  abbrev byte : ℕ
  byte = get_or s p 0

  abbrev told : Result Token (ℕ × ℕ)
  told = shown (token_at s p)

  pub first_opening : byte ≡ 0x01 → told ≡ Ok Opening
  unfolding token
  first_opening h = rw h

  pub first_closing : byte ≡ 0x02 → told ≡ Ok Closing
  unfolding token
  first_closing h = rw h

  -- any other byte begins an atom
  as_atom : (byte ≡ 0x01 → ⊥) → (byte ≡ 0x02 → ⊥) → told ≡ shown_atom p (length s) (read_atom byte (drop (suc p) s))
  unfolding token
  as_atom m n =
      let size = length-drop (suc p) s in
      let end : p + 1 + length (drop (suc p) s) ≡ length s = omega arith in
      rw (ne_eqb byte 0x01 m, ne_eqb byte 0x02 n, end)

  one_byte : length s - length (drop (suc p) s) ≡ p + 1
  one_byte = rw (← add-one p) (left_at s (p + 1) (omega arith))

  pub first_nil : byte ≡ 0x00 → told ≡ Ok (Whole Nil p (p + 1))
  unfolding read_atom
  first_nil h = as_atom (λ e. omega arith) (λ e. omega arith) ∙ rw (h, one_byte)

  pub first_array : byte ≡ 0x03 → told ≡ shown_atom p (length s) (and_then (and_then (length_expr 7 (drop (suc p) s)) take_bytes) as_array)
  unfolding read_atom
  first_array h = as_atom (λ e. omega arith) (λ e. omega arith) ∙ rw h

  pub first_long : byte ≡ 0x7F → told ≡ shown_atom p (length s) (and_then (marker 0x7F (drop (suc p) s)) (name (drop p s)))
  unfolding read_atom
  first_long h = as_atom (λ e. omega arith) (λ e. omega arith) ∙ rw (drop-cons s p 0 inside, h)

  -- what the tests for a single byte say of one above it
  other : (k : ℕ) → k < byte → eqb byte k ≡ false
  other k h = ne_eqb byte k (λ e. omega arith)

  pub first_reserved : 0x04 ≤ byte → byte < 0x10 → told ≡ Err (4, p)
  unfolding read_atom
  first_reserved l h =
      let place : length s - suc (length (drop (suc p) s)) ≡ p = omega (arith, length-drop (suc p) s) in
      as_atom (λ e. omega arith) (λ e. omega arith) ∙ rw (other 0x00 (omega arith), other 0x03 (omega arith), lt-ltb byte 0x10 h, place)

  pub first_short : 0x10 ≤ byte → byte < 0x7F → told ≡ shown_atom p (length s) (name (drop p s) byte (drop (p + 1) s))
  unfolding read_atom
  first_short l h =
      as_atom (λ e. omega arith) (λ e. omega arith)
      ∙ rw (drop-cons s p 0 inside, other 0x00 (omega arith), other 0x03 (omega arith), le-ltb byte 0x10 l, lt-ltb byte 0x7F h, ← add-one p)

  -- a byte from 80 on
  from_80 : 0x80 ≤ byte
      → told ≡ shown_atom p (length s) (when ltb byte 0xC0 then taken (int (byte - 0x80)) (drop (suc p) s)
      else and_then (take_bytes (byte - 0xC0) (drop (suc p) s)) as_array)
  unfolding read_atom
  from_80 h =
      as_atom (λ e. omega arith) (λ e. omega arith)
      ∙ rw (other 0x00 (omega arith), other 0x03 (omega arith), le-ltb byte 0x10 (omega arith), le-ltb byte 0x7F (omega arith), le-ltb byte 0x80 h)

  pub first_int : 0x80 ≤ byte → byte < 0xC0 → told ≡ Ok (Whole Int p (p + 1))
  first_int h l = from_80 h ∙ rw (lt-ltb byte 0xC0 l, one_byte)

  pub first_small : 0xC0 ≤ byte → told ≡ shown_atom p (length s) (and_then (take_bytes (byte - 0xC0) (drop (p + 1) s)) as_array)
  first_small h = from_80 (omega arith) ∙ rw (le-ltb byte 0xC0 h, ← add-one p)

  -- a reference and an array that are whole, by their first byte
  pub short_whole : 0x10 ≤ byte → byte < 0x7F → 1 < length s - p → told ≡ Ok (Whole Reference p (p + 2))
  short_whole h l more = first_short h l ∙ shown_reference s p byte (p + 1) (omega arith) (omega arith) ∙ ap (λ (e : ℕ). Ok (Whole Reference p e)) (omega arith)

  pub small_whole : 0xC0 ≤ byte → byte - 0xC0 < length s - p → told ≡ Ok (Whole Array (p + 1) (p + 1 + (byte - 0xC0)))
  small_whole h more = first_small h ∙ shown_array s p (p + 1) (byte - 0xC0) (omega arith) (omega arith)

-- the table
pub ruleset first_bytes = (first_opening, first_closing, first_nil, first_array, first_long, first_reserved, first_short, first_int, first_small, short_whole, small_whole)
