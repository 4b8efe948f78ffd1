-- Laws of the canonical bytes: the shapes of an array's head and of a marker, appended lists, and that they are bytes.
-- Document 01: "Canonical". Assumes nothing.
use Prim.Native.Nat.{ℕ, zero, suc, ◌+◌, ◌-◌, ◌/◌, ◌%◌, ◌≤◌, ◌<◌}
use mathlib.Core.Path.{◌≡◌, refl}
use mathlib.Core.List.{List, [], ◌∷◌, ◌++◌, append_assoc}
use native.Mathlib.Omega.{arith}
use lib.ListN.{length, replicate, length-append}
use lib.Dec.{ltb}
use borrow.Author.Tests.{ltb-true, ltb-false}
use Rattle.spec.specs.Expr.{nil, array, int, ref, Expr, atom, form, Exprs, none, more, append, array_head, marker_bytes, atom_bytes, bytes, canonical}
use Rattle.laws.specs.Demands.{Bytes}
use Rattle.laws.proofs.Basics.{by_test}
use Rattle.laws.proofs.Fits.{bytes_append, FitsExpr, FitsAll}

-- array_head

pub data Head (n : ℕ) : List ℕ → Type 0 where
  one_byte : n < 64 → Head n ((0xC0 + n) ∷ [])
  three_bytes : 64 ≤ n → n < 256 → Head n (0x03 ∷ 0xC1 ∷ n ∷ [])
  four_bytes : 256 ≤ n → Head n (0x03 ∷ 0xC2 ∷ (n / 256) ∷ (n % 256) ∷ [])

pub array_head_is : (n : ℕ) → Head n (array_head n)
unfolding array_head
array_head_is n =
    by_test (Head n) (ltb n 64) (λ e. one_byte (ltb-true n 64 e)) λ e.
    by_test (Head n) (ltb n 256) (λ k. three_bytes (ltb-false n 64 e) (ltb-true n 256 k)) (λ k. four_bytes (ltb-false n 256 k))

-- marker-bytes

pub data Mark (m : ℕ) : List ℕ → Type 0 where
  short : m < 0x7F → Mark m (m ∷ [])
  long : 0x7F ≤ m → Mark m (0x7F ∷ (replicate ((m - 0x7F) / 0xFF) 0xFF ++ (((m - 0x7F) % 0xFF) ∷ [])))

pub marker_bytes_are : (m : ℕ) → Mark m (marker_bytes m)
unfolding marker_bytes
marker_bytes_are m = by_test (Mark m) (ltb m 0x7F) (λ e. short (ltb-true m 0x7F e)) (λ e. long (ltb-false m 0x7F e))

-- canonical

pub canonical_append : (es fs : Exprs) → canonical (append es fs) ≡ canonical es ++ canonical fs
unfolding append canonical
canonical_append none fs = refl
canonical_append (more e es) fs = simp (canonical_append es fs, append_assoc)

bytes_replicate : (n b : ℕ) → b < 256 → Bytes (replicate n b)
bytes_replicate zero b h = tt
bytes_replicate (suc n) b h = (h, bytes_replicate n b h)

-- two bytes are enough for the length of an array that a stream can hold
bytes_head : {n : ℕ} {hs : List ℕ} → Head n hs → length hs + n ≤ 65536 → Bytes hs
bytes_head (one_byte l) h = (omega arith, tt)
bytes_head (three_bytes k l) h = (omega arith, (omega arith, (l, tt)))
bytes_head (four_bytes k) h = (omega arith, (omega arith, (omega arith, (omega arith, tt))))

bytes_mark : {m : ℕ} {ms : List ℕ} → Mark m ms → Bytes ms
bytes_mark (short l) = (omega arith, tt)
bytes_mark {m} (long l) =
    let full = bytes_replicate ((m - 0x7F) / 0xFF) 0xFF (omega arith) in
    (omega arith, bytes_append (replicate ((m - 0x7F) / 0xFF) 0xFF) (((m - 0x7F) % 0xFF) ∷ []) full (omega arith, tt))

mutual
  unfolding bytes atom_bytes

  expr_bytes : (e : Expr) → FitsExpr e → length (bytes e) ≤ 65536 → Bytes (bytes e)
  expr_bytes (atom nil) f h = (omega arith, tt)
  expr_bytes (atom (array bs)) f h =
      bytes_append (array_head (length bs)) bs (bytes_head (array_head_is (length bs)) (omega (arith, length-append (array_head (length bs)) bs))) f
  expr_bytes (atom (int v)) f h = (omega arith, tt)
  expr_bytes (atom (ref m n)) f h = bytes_append (marker_bytes m) (n ∷ []) (bytes_mark (marker_bytes_are m)) (f.2, tt)
  expr_bytes (form es) f h =
      (omega arith, bytes_append (canonical es) (0x02 ∷ []) (canonical_bytes es f (omega (arith, length-append (canonical es) (0x02 ∷ [])))) (omega arith, tt))

  pub canonical_bytes : (es : Exprs) → FitsAll es → length (canonical es) ≤ 65536 → Bytes (canonical es)
  canonical_bytes none f h = tt
  canonical_bytes (more e es) f h =
      let both = length-append (bytes e) (canonical es) in
      bytes_append (bytes e) (canonical es) (expr_bytes e f.0 (omega arith)) (canonical_bytes es f.1 (omega arith))
