-- Lengths that were read, read again from place to place: what stands around a number, which number a plain length is, and that of a
-- short number's bytes the last three tell. And where an array's bytes begin, by its row.
-- Document 01: "A generic array may itself be the length of another." Assumes nothing.
use Prim.Native.Nat.{ℕ, zero, suc, ◌+◌, ◌-◌, ◌*◌, ◌≤◌, ◌<◌}
use mathlib.Core.Path.{◌≡◌, refl, sym, ap, ◌∙◌, subst}
use mathlib.Core.List.{List, [], ◌∷◌, ◌++◌, append_assoc}
use native.Mathlib.Omega.{arith}
use native.Mathlib.Nat.{lt_of_not-le}
use lib.ListN.{length, take, drop, get_or, length-append, length-drop, take-append-drop}
use lib.Seq.{drop-drop, drop-append-le, length-take-le, slice, length-slice}
use borrow.Author.Tests.{lt-ltb, le-ltb, le-leb, lt-leb}
use Rattle.spec.specs.Expr.{array}
use Rattle.spec.specs.Reading.{Taken, taken, cut_off, failed, and_then, take_bytes, natural, as_length, plain_length, length_expr}
use Rattle.laws.specs.Grammar.{SpellsArray, small, generic}
use Rattle.laws.proofs.Basics.{impossible}
use Rattle.laws.proofs.Spelling.{length_spelled}
use Rattle.laws.proofs.Steps.{none_left}
use Rattle.atoms.specs.Tokens.{leading_threes, around}
use Rattle.atoms.proofs.Places.{left_at, first_left, Refused, around_refused, around_inner, length_many, BehindThrees, behind_threes}
use Rattle.rows.specs.Rows.{cell, start, LeafAt}
use Rattle.rows.specs.Lengths.{EndsAt}
use Rattle.rows.proofs.Slices.{slice_split, slice_take}

-- Short numbers

natural_append : (n : ℕ) (ds es : List ℕ) → natural n (ds ++ es) ≡ natural (natural n ds) es
unfolding natural
natural_append n [] es = refl
natural_append n (d ∷ ds) es = natural_append (n * 256 + d) ds es

-- a number before three more bytes
before_three : (n : ℕ) (es : List ℕ) → length es ≡ 3 → n * 16777216 ≤ natural n es
unfolding natural
before_three n [] h = absurd (omega arith)
before_three n (a ∷ []) h = absurd (omega arith)
before_three n (a ∷ b ∷ []) h = absurd (omega arith)
before_three n (a ∷ b ∷ c ∷ []) h = omega arith
before_three n (a ∷ b ∷ c ∷ d ∷ es) h = absurd (omega arith)

-- a number that is short is that of the last three of more than three bytes
pub last_three : (s : List ℕ) (from to : ℕ) → 3 < to - from → to ≤ length s → natural 0 (take (to - from) (drop from s)) ≤ 65536
    → natural 0 (take (to - from) (drop from s)) ≡ natural 0 (take (to - (to - 3)) (drop (to - 3) s))
last_three s from to more h short =
    let before = slice from (to - 3) s in
    let last = slice (to - 3) to s in
    let split : natural 0 (take (to - from) (drop from s)) ≡ natural (natural 0 before) last =
    ap (natural 0) (sym (slice_take from to s) ∙ slice_split from (to - 3) to s (omega arith) (omega arith) h) ∙ natural_append 0 before last in
    let none : natural 0 before ≡ 0 = omega (arith, before_three (natural 0 before) last (length-slice (to - 3) to s h ∙ omega arith)) in
    split ∙ rw none (ap (natural 0) (slice_take (to - 3) to s))

-- Lengths, from place to place

-- a length ends at one place
pub one_end : {s : List ℕ} {x : Taken ℕ} {e f : ℕ} → EndsAt s x e → EndsAt s x f → e ≡ f
one_end {s = s} h g = let same : h.left ≡ g.left = cc in sym h.place ∙ ap (λ (l : List ℕ). length s - length l) same ∙ g.place

-- what was read of a stream is the number of the bytes from a place up to another, with j arrays around it
pub record Counted (s : List ℕ) (x : Taken ℕ) (j from to : ℕ) : Type 0 where
  pub inside : to ≤ length s
  pub short : natural 0 (take (to - from) (drop from s)) ≤ 65536
  pub is : x ≡ around j (taken (natural 0 (take (to - from) (drop from s))) (drop to s))

module _ {s : List ℕ} {x : Taken ℕ} {end : ℕ} (whole : length s ≤ 65536) (ends : EndsAt s x end) where
  not_refused : {A : Type 0} (k : ℕ) (y : Taken ℕ) → Refused y → x ≡ around k y → A
  not_refused k y r e = absurd (subst Refused (sym (e ∙ around_refused k y r) ∙ ends.is) r)

  -- bytes with arrays around them are there
  bytes_there : (j p n : ℕ) → p ≤ length s → x ≡ around j (and_then (take_bytes n (drop p s)) as_length)
      → (p + n ≤ length s) × (x ≡ around j (taken (natural 0 (take (p + n - p) (drop p s))) (drop (p + n) s)))
  unfolding take_bytes
  bytes_there j p n h e =
      let size = length-drop p s in
      let there = lt_of_not-le {n = suc (length (drop p s))} {m = n} (λ l. not_refused j cut_off tt (e ∙ rw (lt-leb n (length (drop p s)) l))) in
      let same : p + n - p ≡ n = omega arith in
      (omega arith, e ∙ rw (le-leb n (length (drop p s)) (omega arith), drop-drop n p s, same))

  -- a number with arrays around it is short
  number_short : (k v p : ℕ) → p ≤ length s → x ≡ around k (taken v (drop p s)) → v ≤ 65536
  unfolding around
  number_short zero v p h e = let same : v ≡ ends.number = cc in omega arith
  number_short (suc k) v p h e = omega (arith, (bytes_there k p v h (e ∙ around_inner k v (drop p s))).0)

  counted : (j p n : ℕ) → p ≤ length s → x ≡ around j (and_then (take_bytes n (drop p s)) as_length) → Counted s x j p (p + n)
  counted j p n h e = let t = bytes_there j p n h e in record { inside = t.0; short = number_short j _ (p + n) t.0 t.1; is = t.1 }

  -- the innermost of the arrays around a number is that of as many bytes; with none, it ends where it stands
  module _ (k v p : ℕ) (inside : p ≤ length s) (is : x ≡ around k (taken v (drop p s))) where
    pub nested_next : (j : ℕ) → k ≡ j + 1 → Counted s x j p (p + v)
    nested_next j e =
        let more : k ≡ suc j = omega arith in
        counted j p v inside (is ∙ ap (λ (i : ℕ). around i (taken v (drop p s))) more ∙ around_inner j v (drop p s))

    pub nested_done : k ≡ 0 → EndsAt s x p
    unfolding around
    nested_done none = record { number = v; left = drop p s; is = is ∙ rw none; short = number_short k v p inside is; place = left_at s p inside }

-- a length expression: the plain length that stands behind the bytes 03 at its beginning, a small integer or a small array
pub record Innermost (s : List ℕ) (at depth byte : ℕ) : Type 0 where
  pub inside : at + depth < length s
  pub high : 0x80 ≤ byte
  pub int : byte < 0xC0 → length_expr 7 (drop at s) ≡ around depth (taken (byte - 0x80) (drop (at + depth + 1) s))
  pub array : 0xC0 ≤ byte → Counted s (length_expr 7 (drop at s)) depth (at + depth + 1) (at + depth + 1 + (byte - 0xC0))

pub innermost : (s : List ℕ) (at depth end : ℕ) → length s ≤ 65536 → at ≤ length s → depth ≡ leading_threes 8 (drop at s)
    → EndsAt s (length_expr 7 (drop at s)) end → Innermost s at depth (get_or s (at + depth) 0)
unfolding plain_length
innermost s at depth end whole h e ends = record {
  inside = inside;
  high = high;
  int = λ l. begins ∙ rw (le-ltb byte 0x80 high, lt-ltb byte 0xC0 l);
  array = λ l. counted whole ends depth (at + depth + 1) (byte - 0xC0) (omega (arith, inside)) (begins ∙ rw (le-ltb byte 0x80 high, le-ltb byte 0xC0 l));
}
  where
    byte : ℕ
    byte = get_or s (at + depth) 0

    all : BehindThrees s at depth
    all = behind_threes s at depth h e (λ g. impossible (cc (length_many 7 (drop at s) (sym e ∙ g), ends.is)))

    inside : at + depth < length s
    inside = lt_of_not-le (λ l. not_refused whole ends depth cut_off tt (all.is ∙ rw (none_left s (at + depth) l)))

    begins : length_expr 7 (drop at s) ≡ around depth (plain_length byte (drop (at + depth + 1) s))
    begins = all.is ∙ rw (first_left s (at + depth) inside)

    high : 0x80 ≤ byte
    high = lt_of_not-le {m = 0x7F} (λ l. not_refused whole ends depth (failed 5 (byte ∷ drop (at + depth + 1) s)) tt (begins ∙ rw (lt-ltb byte 0x80 (omega arith))))

-- Arrays

-- an array, by its row: one byte before its own, or 03 and a length
module _ {s t : List ℕ} {row at : ℕ} {bs : List ℕ} (begin : at ≡ start t row) (leaf : LeafAt s t row (array bs)) where
  abbrev end : ℕ
  end = cell t row 2

  -- the first byte, what stands behind it, and how many bytes the row has
  front : (b : ℕ) (y : List ℕ) → slice at end s ≡ b ∷ y → (get_or s at 0 ≡ b) × (drop (at + 1) s ≡ y ++ drop end s) × (end - at ≡ 1 + length y)
  front b y q =
      let there = leaf.row.ends in
      let split : get_or s at 0 ∷ drop (at + 1) s ≡ b ∷ (y ++ drop end s) =
      sym (first_left s at (omega arith))
      ∙ ap (drop at) (sym (take-append-drop end s))
      ∙ drop-append-le at (take end s) (drop end s) (rw (length-take-le end s there) (omega arith))
      ∙ ap (λ (l : List ℕ). l ++ drop end s) q in
      (cc, cc, sym (length-slice at end s there) ∙ ap length q ∙ omega arith)

  pub body_begins : ((get_or s at 0 ≡ 0x03 → ⊥) → at + 1 ≡ end - length bs)
      × (get_or s at 0 ≡ 0x03 → EndsAt s (length_expr 7 (drop (at + 1) s)) (end - length bs))
  body_begins = go (rw begin leaf.spells)
    where
      go : SpellsArray bs (slice at end s) → ((get_or s at 0 ≡ 0x03 → ⊥) → at + 1 ≡ end - length bs)
          × (get_or s at 0 ≡ 0x03 → EndsAt s (length_expr 7 (drop (at + 1) s)) (end - length bs))
      go (small l q) = let f = front (0xC0 + length bs) bs q in (λ h. omega arith, λ h. absurd (omega arith))
      go (generic x l q) =
          let f = front 0x03 (x ++ bs) q in
          let own = length-append x bs in
          let rest = length-append bs (drop end s) in
          let past = length-drop end s in
          let is = ap (length_expr 7) (f.1 ∙ append_assoc x bs (drop end s)) ∙ length_spelled l (bs ++ drop end s) in
          (λ h. absurd (h f.0), λ h. record { number = length bs; left = bs ++ drop end s; is = is; short = omega arith; place = omega arith })
