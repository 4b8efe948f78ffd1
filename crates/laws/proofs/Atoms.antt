-- Laws of `read_atom`: what it leaves, and that a refusal is one of an atom's and has its place in the stream. And how many bytes the head of
-- an array has. Document 01: "Bytes to expressions", "Canonical". Assumes nothing.
use Prim.Native.Nat.{ℕ, zero, suc, ◌+◌, ◌-◌, ◌≤◌, ◌<◌}
use mathlib.Core.List.{List, [], ◌∷◌}
use lib.ListN.{length, length-drop}
use lib.Dec.{ltb, leb, eqb}
use native.Mathlib.Omega.{arith}
use Rattle.spec.specs.Expr.{array_head}
use Rattle.spec.specs.Reading.{Taken, taken, cut_off, failed, and_then, take_bytes, as_length, plain_length, length_expr, marker, name, as_array, read_atom}
use Rattle.laws.proofs.Basics.{by_test}
use Rattle.laws.proofs.Canonical.{Head, one_byte, three_bytes, four_bytes, array_head_is}

-- how many canonical bytes an array has before its own
abbrev pub head_size : ℕ → ℕ
head_size n = length (array_head n)

-- it has one at least, four at most, and three at most for a length of one byte
pub head_bounds : (n : ℕ) → (1 ≤ head_size n) × (head_size n ≤ 4) × (n < 256 → head_size n ≤ 3)
head_bounds n = go (array_head_is n)
  where
    go : {hs : List ℕ} → Head n hs → (1 ≤ length hs) × (length hs ≤ 4) × (n < 256 → length hs ≤ 3)
    go (one_byte l) = omega arith
    go (three_bytes k l) = omega arith
    go (four_bytes k) = omega arith

-- what was read off n bytes leaves no more; a refusal is one of an atom's, at a byte that is there
abbrev pub Off : {A : Type 0} → ℕ → Taken A → Type 0
Off n (taken a s) = length s ≤ n
Off n cut_off = Unit {0}
Off n (failed w s) = (0 < length s) × (length s ≤ n) × (4 ≤ w) × (w ≤ 7)

off_then : {A B : Type 0} (n : ℕ) (x : Taken A) (f : A → List ℕ → Taken B) → Off n x → ((a : A) (s : List ℕ) → length s ≤ n → Off n (f a s))
    → Off n (and_then x f)
off_then n (taken a s) f x g = g a s x
off_then n cut_off f x g = tt
off_then n (failed w s) f x g = x

off_take : (n k : ℕ) (s : List ℕ) → length s ≤ n → Off n (take_bytes k s)
unfolding take_bytes
off_take n k s h = by_test (Off n) (leb k (length s)) (λ e. simp length-drop (omega arith)) (λ e. tt)

off_plain : (n b : ℕ) (s : List ℕ) → suc (length s) ≤ n → Off n (plain_length b s)
unfolding plain_length
off_plain n b s h =
    by_test (Off n) (ltb b 0x80) (λ e. omega arith) λ e.
    by_test (Off n) (ltb b 0xC0) (λ e. omega arith) λ e.
    off_then n (take_bytes (b - 0xC0) s) as_length (off_take n (b - 0xC0) s (omega arith)) (λ bs t l. l)

off_length : (n k : ℕ) (s : List ℕ) → length s ≤ n → Off n (length_expr k s)
unfolding length_expr
off_length n zero [] h = tt
off_length n (suc k) [] h = tt
off_length n zero (b ∷ s) h = by_test (Off n) (eqb b 0x03) (λ e. omega arith) (λ e. off_plain n b s h)
off_length n (suc k) (b ∷ s) h =
    let inner = off_then n (length_expr k s) take_bytes (off_length n k s (omega arith)) (off_take n) in
    by_test (Off n) (eqb b 0x03) (λ e. off_then n (and_then (length_expr k s) take_bytes) as_length inner (λ bs t l. l)) (λ e. off_plain n b s h)

off_marker : (n m : ℕ) (s : List ℕ) → length s ≤ n → Off n (marker m s)
unfolding marker
off_marker n m [] h = tt
off_marker n m (b ∷ s) h = by_test (Off n) (eqb b 0xFF) (λ e. off_marker n (m + b) s (omega arith)) (λ e. omega arith)

off_name : (n : ℕ) (from : List ℕ) → 0 < length from → length from ≤ n → (m : ℕ) (s : List ℕ) → length s ≤ n → Off n (name from m s)
unfolding name
off_name n from i k m [] h = tt
off_name n from i k m (b ∷ s) h = by_test (Off n) (ltb 65535 m) (λ e. omega arith) (λ e. omega arith)

pub off_atom : (b : ℕ) (s : List ℕ) → Off (suc (length s)) (read_atom b s)
unfolding read_atom
off_atom b s =
    let n : ℕ = suc (length s) in
    by_test (Off n) (eqb b 0x00) (λ e. omega arith) λ e.
    by_test (Off n) (eqb b 0x03) (λ e.
    off_then n (and_then (length_expr 7 s) take_bytes) as_array (off_then n (length_expr 7 s) take_bytes (off_length n 7 s (omega arith)) (off_take n)) (λ bs t l. l)) λ e.
    by_test (Off n) (ltb b 0x10) (λ e. omega arith) λ e.
    by_test (Off n) (ltb b 0x7F) (λ e. off_name n (b ∷ s) (omega arith) (omega arith) b s (omega arith)) λ e.
    by_test (Off n) (ltb b 0x80) (λ e. off_then n (marker 0x7F s) (name (b ∷ s)) (off_marker n 0x7F s (omega arith)) (off_name n (b ∷ s) (omega arith) (omega arith))) λ e.
    by_test (Off n) (ltb b 0xC0) (λ e. omega arith) λ e.
    off_then n (take_bytes (b - 0xC0) s) as_array (off_take n (b - 0xC0) s (omega arith)) (λ bs t l. l)
