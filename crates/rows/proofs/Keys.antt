-- Laws of keys: a key says which word a reference is, and it is found in the reference's first byte, its last two and its length.
-- Document 01: "Names of the core namespace, marker 0x20", "7F (127) and all of these are added up to give the marker". Assumes nothing.
use Prim.Native.Nat.{ℕ, suc, ◌+◌, ◌*◌, ◌-◌, ◌/◌, ◌%◌, ◌≤◌, ◌<◌}
use mathlib.Core.Path.{◌≡◌, refl, sym, ap, ◌∙◌}
use mathlib.Core.List.{List, [], ◌∷◌, ◌++◌, append_assoc}
use mathlib.Core.Bool.{Bool, true, false, not, ◌&&◌, ◌||◌}
use lib.ListN.{length, get_or, take, length-append, replicate, length-replicate}
use lib.Seq.{slice, get_or-take, get_or-drop, get_or_at, length-slice}
use lib.Dec.{eqb}
use borrow.Author.Tests.{eqb-true, eqb-false, eq-eqb, ne_eqb}
use denote.Enum.Declared.{tag_of}
use denote.Enum.Bare.{sameb}
use native.Mathlib.Decide.{ℕ_discrete}
use native.Mathlib.Omega.{arith}
use Rattle.spec.specs.Expr.{some, int, ref, marker_bytes}
use Rattle.spec.specs.Nodes.{core, Word, plain, order, is, word, leaf, Nodes, cons}
use Rattle.spec.specs.Bytecode.{bytecode_names, led_by_name}
use Rattle.laws.proofs.Canonical.{Mark, short, long, marker_bytes_are}
use Rattle.rows.specs.Rows.{cell, start, LeafAt, key_of}
use Rattle.rows.specs.Forms.{meant, reserved}
use Rattle.rows.specs.declared.words.Word.{Word as Coded}
use Rattle.rows.specs.declared.words.Word.TheVariants.{Ns, Define, Concat, Subst, Arg, Rest, Plain}
use Rattle.rows.specs.contracts.words.Word.{the_type}

-- key_of

pub key_marker : (m n : ℕ) → n < 256 → key_of m n / 256 ≡ m
key_marker m n h = omega arith

pub key_name : (m n : ℕ) → n < 256 → key_of m n % 256 ≡ n
key_name m n h = omega arith

pub key_same : (m n k l : ℕ) → n < 256 → l < 256 → key_of m n ≡ key_of k l → (m ≡ k) × (n ≡ l)
key_same m n k l h g e = (omega arith, omega arith)

pub key_small : (m n : ℕ) → m ≤ 65535 → n < 256 → key_of m n < 0x1000000
key_small m n h l = omega arith

-- a test of two keys is a test of marker and name
pub key_test : (m n k l : ℕ) → n < 256 → l < 256 → eqb (key_of m n) (key_of k l) ≡ eqb m k && eqb n l
key_test m n k l h g = go (eqb m k) (eqb n l) refl refl
  where
    go : (a b : Bool) → eqb m k ≡ a → eqb n l ≡ b → eqb (key_of m n) (key_of k l) ≡ a && b
    go true true p q = eq-eqb (key_of m n) (key_of k l) (omega (arith, eqb-true m k p, eqb-true n l q))
    go true false p q = ne_eqb (key_of m n) (key_of k l) (λ e. eqb-false n l q (key_same m n k l h g e).1)
    go false b p q = ne_eqb (key_of m n) (key_of k l) (λ e. eqb-false m k p (key_same m n k l h g e).0)

-- Words

abbrev pub word_of : ℕ → Word
word_of k = word (k / 256) (k % 256)

-- the word is found again in the key
pub word_again : (m n : ℕ) → n < 256 → word_of (key_of m n) ≡ word m n
word_again m n h = rw (key_marker m n h, key_name m n h)

-- the code's words have the numbers that serve to compare them
word_number : (w : Coded) → tag_of the_type w ≡ order (meant w)
word_number Ns = refl
word_number Define = refl
word_number Concat = refl
word_number Subst = refl
word_number Arg = refl
word_number Rest = refl
word_number Plain = refl

-- a test of two of them is a test of the words that they stand for
pub same_word : (w v : Coded) → sameb the_type w v ≡ is (meant w) (meant v)
same_word w v = rw (word_number w, word_number v)

-- Bytecode names

name_between : (x : ℕ) → 0x30 ≤ x → x ≤ 0x34 → some (eqb x) bytecode_names ≡ true
unfolding some
name_between x l h =
    elim (ℕ_discrete x 0x30) [
      | yes e ↦ rw e
      | no a ↦
          elim (ℕ_discrete x 0x31) [
            | yes e ↦ rw e
            | no b ↦
                elim (ℕ_discrete x 0x32) [
                  | yes e ↦ rw e
                  | no c ↦
                      elim (ℕ_discrete x 0x33) [ yes e ↦ rw e | no d ↦ (let e : x ≡ 0x34 = omega arith in rw e) ]
                ]
          ]
    ]

name_outside : (x : ℕ) → (0x30 ≤ x → x ≤ 0x34 → ⊥) → some (eqb x) bytecode_names ≡ false
unfolding some
name_outside x out =
    let apart : (y : ℕ) → 0x30 ≤ y → y ≤ 0x34 → eqb x y ≡ false = λ y l h. ne_eqb x y (λ e. out (omega arith) (omega arith)) in
    rw (apart 0x30 (omega arith) (omega arith), apart 0x31 (omega arith) (omega arith), apart 0x32 (omega arith) (omega arith))
    (rw (apart 0x33 (omega arith) (omega arith), apart 0x34 (omega arith) (omega arith)))

-- by the key: those from `prefix` to `arity`
abbrev pub is_bytecode : ℕ → Bool
is_bytecode k = eqb (k / 256) core && some (eqb (k % 256)) bytecode_names

key_bytecode : (k : ℕ) → 0x2030 ≤ k → k ≤ 0x2034 → is_bytecode k ≡ true
key_bytecode k l h = rw (eq-eqb (k / 256) core (omega arith)) (name_between (k % 256) (omega arith) (omega arith))

key_other : (k : ℕ) → (0x2030 ≤ k → k ≤ 0x2034 → ⊥) → is_bytecode k ≡ false
key_other k out = go (eqb (k / 256) core) refl
  where
    go : (b : Bool) → eqb (k / 256) core ≡ b → b && some (eqb (k % 256)) bytecode_names ≡ false
    go true e = let m = eqb-true (k / 256) core e in name_outside (k % 256) (λ l h. out (omega arith) (omega arith))
    go false e = refl

-- what a test for those between tells
pub key_between : (k : ℕ) (b : Bool) → (b ≡ true → (0x2030 ≤ k) × (k ≤ 0x2034)) → (b ≡ false → 0x2030 ≤ k → k ≤ 0x2034 → ⊥) → b ≡ is_bytecode k
key_between k true inside out = let h = inside refl in sym (key_bytecode k h.0 h.1)
key_between k false inside out = sym (key_other k (out refl))

-- a name is found again in the key
pub reserved_again : (q m n : ℕ) (es : Nodes) → n < 256 → reserved (key_of m n) ≡ led_by_name (cons (leaf q (ref m n)) es)
unfolding some
reserved_again q m n es h = rw (key_marker m n h, key_name m n h) (go (eqb m core))
  where
    go : (b : Bool) → not (is (word m n) plain) || b && some (eqb n) bytecode_names ≡ not (is (word m n) plain) || some (λ k. b && eqb n k) bytecode_names
    go true = refl
    go false = refl

-- A reference's bytes

-- what is read of a reference that goes from one place to another
pub record RefAt (s : List ℕ) (from to m n : ℕ) : Type 0 where
  pub name : get_or s (to - 1) 0 ≡ n
  pub short : (get_or s from 0 ≡ 0x7F → ⊥) → get_or s from 0 ≡ m
  pub long : get_or s from 0 ≡ 0x7F → (from + 3 ≤ to) × (127 + (to - from - 3) * 255 + get_or s (to - 2) 0 ≡ m)

-- a part of s: how long it is, and its elements
module _ (s : List ℕ) (from to : ℕ) (inside : to ≤ length s) where
  part_size : (x : List ℕ) → slice from to s ≡ x → length x ≡ to - from
  part_size x e = ap length (sym e) ∙ length-slice from to s inside

  part_at : (p : List ℕ) (y : ℕ) (ys : List ℕ) (i : ℕ) → slice from to s ≡ p ++ (y ∷ ys) → i ≡ from + length p → get_or s i 0 ≡ y
  part_at p y ys i e at =
      let size : length p + suc (length ys) ≡ to - from = sym (length-append p (y ∷ ys)) ∙ part_size (p ++ (y ∷ ys)) e in
      rw at
      (sym (get_or-take to s (from + length p) 0 (omega arith))
      ∙ sym (get_or-drop from (take to s) (length p) 0)
      ∙ ap (λ (l : List ℕ). get_or l (length p) 0) e
      ∙ get_or_at p y ys 0 (length p) refl)

  ref_at : (m n : ℕ) → slice from to s ≡ marker_bytes m ++ (n ∷ []) → RefAt s from to m n
  ref_at m n = go (marker_bytes_are m)
    where
      go : {ms : List ℕ} → Mark m ms → slice from to s ≡ ms ++ (n ∷ []) → RefAt s from to m n
      go (short h) e =
          let size = part_size (m ∷ n ∷ []) e in
          let first = part_at [] m (n ∷ []) from e (omega arith) in
          record { name = part_at (m ∷ []) n [] (to - 1) e (omega arith); short = λ z. first; long = λ z. absurd (omega arith) }
      go (long h) e =
          let full : ℕ = (m - 0x7F) / 0xFF in
          let last : ℕ = (m - 0x7F) % 0xFF in
          let front : List ℕ = 0x7F ∷ replicate full 0xFF in
          let whole : slice from to s ≡ front ++ (last ∷ n ∷ []) = e ∙ append_assoc front (last ∷ []) (n ∷ []) in
          let count : length (replicate {A = ℕ} full 0xFF) ≡ full = length-replicate full 0xFF in
          let size : length front + 2 ≡ to - from = sym (length-append front (last ∷ n ∷ [])) ∙ part_size (front ++ (last ∷ n ∷ [])) whole in
          let begins = part_at [] 0x7F (replicate full 0xFF ++ (last ∷ n ∷ [])) from whole (omega arith) in
          let ends = part_at front last (n ∷ []) (to - 2) whole (omega arith) in
          record {
            name = part_at (front ++ (last ∷ [])) n [] (to - 1) e (omega (arith, length-append front (last ∷ [])));
            short = λ z. absurd (z begins);
            long = λ z. (omega arith, omega (arith, ends, count, size));
          }

-- Rows

module _ (s t : List ℕ) (r : ℕ) where
  pub ref_read : (m n : ℕ) → LeafAt s t r (ref m n) → RefAt s (start t r) (cell t r 2) m n
  ref_read m n l = ref_at s (start t r) (cell t r 2) l.row.ends m n l.spells.2

  pub int_read : (v : ℕ) → LeafAt s t r (int v) → get_or s (start t r) 0 ≡ 0x80 + v
  int_read v l = part_at s (start t r) (cell t r 2) l.row.ends [] (0x80 + v) [] (start t r) l.spells.1 (omega arith)
