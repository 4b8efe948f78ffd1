-- A stream that is refused by 2: the bytes before the place can be read, and no more of them can.
-- Document 02, §4: "the first byte of the unfinished top-level expression". Assumes nothing.
use Prim.Native.Nat.{ℕ, ◌+◌, ◌-◌, ◌≤◌, ◌<◌}
use mathlib.Core.Path.{◌≡◌, refl, sym, ap, ◌∙◌, subst}
use mathlib.Core.List.{List, [], ◌∷◌, ◌++◌, append_assoc}
use mathlib.Core.Bool.{Bool, true, false}
use lib.ListN.{length, take, drop, length-append, take-append-drop}
use lib.Seq.{take_at, length-take-le}
use lib.Dec.{ltb, leb, eqb}
use borrow.Author.Tests.{ltb-false, le-ltb, leb-false, eqb-true, eqb-false}
use native.Mathlib.Omega.{arith}
use native.Mathlib.Nat.{zero-add}
use Rattle.spec.specs.Expr.{when◌then◌else◌, rows_all}
use Rattle.spec.specs.Reading.{Token, opening, closing, whole, unfinished, bad, tokens, Verdict, right, wrong, began, check, rows_of, refused, readable, by_verdict, read}
use Rattle.laws.specs.Demands.{Bytes, meaning_of, CanRead}
use Rattle.laws.proofs.Basics.{impossible, by_test}
use Rattle.laws.proofs.Fits.{bytes_front, bytes_back}
use Rattle.laws.proofs.Atoms.{off_atom}
use Rattle.laws.proofs.Tokens.{From, from_cut_off, from_bad, Right, at_end, opens, closes_some, stands, tokens_laid, Laid, check_refusal, check_more, check_top}
use Rattle.laws.proofs.Rows.{right_room, rows_room}
use Rattle.laws.proofs.Reading.{tokens_opening, tokens_closing, tokens_atom, readable_read, meant, check_all}
use Rattle.laws.proofs.Parsing.{first_token, from_opening, from_closing, first_atom, read_spells}

-- Where 2 comes from

-- Bytes u from place q on, with d forms open, the outermost from place `from` on, and n rows taken, are refused by 2 at place p: what is
-- not finished is a form that was open before; or what begins behind the bytes x, which are right.
data Unfinished (room from q : ℕ) (u : List ℕ) (d n p : ℕ) : Type 0 where
  before : 0 < d → p ≡ from → Unfinished room from q u d n p
  behind : (x y : List ℕ) → u ≡ x ++ y → 0 < length y → p ≡ q + length x → Right room (tokens q 0 x) d n → Unfinished room from q u d n p

-- another refusal does not come first
not_first : (b : Bool) (w q p : ℕ) (v : Verdict) → (w ≡ 2 → ⊥) → (when b then wrong w q else v) ≡ wrong 2 p → (b ≡ false) × (v ≡ wrong 2 p)
not_first true w q p v h e = absurd (h (cc))
not_first false w q p v h e = (refl, e)

from_bad_above : {p b w q : ℕ} {s : List ℕ} → From p b s (bad w q) → 4 ≤ w
from_bad_above {p = p} {b = b} {q = q} {s = s} f = go s q f
  where
    go : {w : ℕ} (s : List ℕ) (q : ℕ) → From p b s (bad w q) → 4 ≤ w
    go s q (from_bad w t e) = (rw e at (off_atom b s)).2

from_unfinished : {p b q : ℕ} {s : List ℕ} → From p b s (unfinished q) → q ≡ p
from_unfinished (from_cut_off e) = refl

module _ (room : ℕ) where
  -- the expression of the token at q is not finished
  begun : (from q : ℕ) (u : List ℕ) (d n p : ℕ) → 0 < length u → p ≡ began d from q → Unfinished room from q u d n p
  unfolding tokens
  begun from q u d n p some e = by_test (λ (x : ℕ). p ≡ x → Unfinished room from q u d n p) (eqb d 0) top (λ t k. before (omega (arith, eqb-false d 0 t)) k) e
    where
      top : eqb d 0 ≡ true → p ≡ q → Unfinished room from q u d n p
      top t k = rw (eqb-true d 0 t) (behind [] u refl some (omega arith) at_end)

  -- a first token, from the bytes x, and what is unfinished behind it
  next_begun : (from from' q : ℕ) (x v : List ℕ) (d d' n n' p : ℕ) → (0 < d' → p ≡ from' → Unfinished room from q (x ++ v) d n p)
      → ((y : List ℕ) → Right room (tokens (q + length x) 0 y) d' n' → Right room (tokens q 0 (x ++ y)) d n)
      → Unfinished room from' (q + length x) v d' n' p → Unfinished room from q (x ++ v) d n p
  next_begun from from' q x v d d' n n' p inside step (before h e) = inside h e
  next_begun from from' q x v d d' n n' p inside step (behind y z is some e r) =
      behind (x ++ y) z (ap (λ (l : List ℕ). x ++ l) is ∙ sym (append_assoc x y z)) some (e ∙ length_append_at) (step y r)
    where
      length_append_at : q + length x + length y ≡ q + length (x ++ y)
      length_append_at = simp length-append (omega arith)

  refused_by_2 : (ts : List Token) (from q : ℕ) (u : List ℕ) (d n p : ℕ) → Bytes u → tokens q 0 u ≡ ts → check from room ts d n ≡ wrong 2 p
      → Unfinished room from q u d n p
  unfolding check
  refused_by_2 [] from q u d n p b e c =
      by_test (λ (v : Verdict). v ≡ wrong 2 p → Unfinished room from q u d n p) (eqb d 0) (λ t k. impossible (cc)) (λ t k. before (omega (arith, eqb-false d 0 t)) (cc)) c
  refused_by_2 (opening r ∷ ts) from q u d n p b e c =
      let f = first_token q u _ ts e in
      let o = from_opening f.3 in
      let bs : Bytes (f.0 ∷ f.1) = rw f.2 at b in
      let deep = not_first (leb 64 d) 6 r p _ (λ z. omega arith) c in
      let full = not_first (leb room n) 8 r p _ (λ z. omega arith) deep.1 in
      rw (f.2, o.0)
      (next_begun from (began d from r) q (0x01 ∷ []) f.1 d (d + 1) n (n + 1) p
      (λ h k. begun from q (0x01 ∷ f.1) d n p (omega arith) (k ∙ ap (began d from) o.1))
      (λ y w. rw (tokens_opening q y) (opens (leb-false 64 d deep.0) (leb-false room n full.0) w))
      (refused_by_2 ts (began d from r) (q + 1) f.1 (d + 1) (n + 1) p bs.1 f.4 full.1))
  refused_by_2 (closing r ∷ ts) from q u d n p b e c =
      let f = first_token q u _ ts e in
      let bs : Bytes (f.0 ∷ f.1) = rw f.2 at b in
      let top = not_first (eqb d 0) 3 r p _ (λ z. omega arith) c in
      let some = eqb-false d 0 top.0 in
      rw (f.2, from_closing f.3)
      (next_begun from from q (0x02 ∷ []) f.1 d (d - 1) n n p
      (λ h k. before (omega arith) k)
      (λ y w. rw (tokens_closing q y) (closes_some d some w))
      (refused_by_2 ts from (q + 1) f.1 (d - 1) n p bs.1 f.4 top.1))
  refused_by_2 (whole a r k ∷ ts) from q u d n p b e c =
      let f = first_atom q u a r k ts b e in
      let full = not_first (leb room n) 8 r p _ (λ z. omega arith) c in
      rw f.is
      (next_begun from from q f.front f.rest d d n (n + 1) p
      (λ h k. before h k)
      (λ y w. rw (tokens_atom a f.front f.spells q y) (stands (leb-false room n full.0) w))
      (refused_by_2 ts from (q + length f.front) f.rest d (n + 1) p f.stream f.are full.1))
  refused_by_2 (unfinished r ∷ ts) from q u d n p b e c =
      let f = first_token q u _ ts e in
      let place : began d from r ≡ p = cc in
      begun from q u d n p (omega (arith, ap length f.2)) (sym place ∙ ap (began d from) (from_unfinished f.3))
  refused_by_2 (bad w r ∷ ts) from q u d n p b e c =
      let f = first_token q u _ ts e in
      let two : w ≡ 2 = cc in
      absurd (omega (arith, from_bad_above f.3))

-- Streams

-- a refusal of a stream that is not too long is `check`'s
pub read_wrong : (s : List ℕ) (room w p : ℕ) → (w ≡ 1 → ⊥) → read s room ≡ refused w p → (length s ≤ 65536) × (check 0 room (tokens 0 0 s) 0 0 ≡ wrong w p)
unfolding read
read_wrong s room w p other h = go (ltb 65536 (length s)) refl (check 0 room (tokens 0 0 s) 0 0) refl h
  where
    go : (c : Bool) → ltb 65536 (length s) ≡ c → (v : Verdict) → check 0 room (tokens 0 0 s) 0 0 ≡ v
        → (when c then refused 1 0 else by_verdict v (tokens 0 0 s)) ≡ refused w p → (length s ≤ 65536) × (check 0 room (tokens 0 0 s) 0 0 ≡ wrong w p)
    go true e v k q = absurd (other (cc))
    go false e right k q = impossible (cc)
    go false e (wrong x y) k q = (ltb-false 65536 (length s) e, k ∙ cc)

pub wrong_read : (s : List ℕ) (room w p : ℕ) → length s ≤ 65536 → check 0 room (tokens 0 0 s) 0 0 ≡ wrong w p → read s room ≡ refused w p
unfolding read
wrong_read s room w p h k = rw (le-ltb 65536 (length s) h, k)

-- the bytes before the place of 2 can be read, with as many rows; and there are others
pub read_before : (s : List ℕ) (room p : ℕ) → Bytes s → read s room ≡ refused 2 p
    → (p < length s) × (read (take p s) room ≡ readable (rows_of (tokens 0 0 (take p s))) (meaning_of (take p s)))
read_before s room p b h =
    let w = read_wrong s room 2 p (λ z. omega arith) h in
    go w.0 (refused_by_2 room (tokens 0 0 s) 0 0 s 0 0 p b refl w.1)
  where
    go : length s ≤ 65536 → Unfinished room 0 0 s 0 0 p
        → (p < length s) × (read (take p s) room ≡ readable (rows_of (tokens 0 0 (take p s))) (meaning_of (take p s)))
    go short (before h e) = absurd (omega arith)
    go short (behind x y is some e r) =
        let size : length s ≡ length x + length y = ap length is ∙ length-append x y in
        let first : take p s ≡ x = rw is (take_at x y p (omega arith)) in
        (omega arith, rw first (readable_read x room (omega arith) (right_room r 0 room (rows_room r (omega arith)))))

-- no more of them can be, with any number of rows
pub read_longest : (s : List ℕ) (room p : ℕ) → Bytes s → read s room ≡ refused 2 p → (k : ℕ) → k ≤ length s → CanRead (take k s) → k ≤ p
read_longest s room p b h k inside can =
    let x = take k s in
    let y = drop k s in
    let size : length x ≡ k = length-take-le k s inside in
    let es = meaning_of x in
    let bytes : Bytes (x ++ y) = subst Bytes (sym (take-append-drop k s)) b in
    let stream : Bytes x = bytes_front x y bytes in
    let m = meant x (length x) _ es stream can in
    let more_rows : ℕ = room + length s in
    let refusal = check_more room more_rows (omega arith) 0 (tokens 0 0 s) 0 0 (wrong 2 p) (λ z. omega arith) (read_wrong s room 2 p (λ z. omega arith) h).1 in
    let pass = check_all more_rows es x (read_spells x (length x) _ es stream can) 0 0 0 0 y (omega (arith, m.shallow)) (omega (arith, m.roomy)) in
    let behind_k : check k more_rows (tokens k 0 y) 0 (rows_all es) ≡ wrong 2 p =
    check_top k 0 more_rows (tokens k 0 y) (rows_all es) ∙ sym (simp zero-add at (rw (size, take-append-drop k s) at pass)) ∙ refusal in
    let laid : Laid k (tokens k 0 y) (k + length y) = subst (λ (q : ℕ). Laid q (tokens k 0 y) (k + length y)) (omega arith) (tokens_laid y k 0 (bytes_back x y bytes) (omega arith)) in
    (rw behind_k at (check_refusal k (k + length y) more_rows (rows_all es + length (tokens k 0 y)) (tokens k 0 y) k k 0 (rows_all es) (omega arith) (λ z. omega arith) (omega arith) laid (omega arith))).3
