-- A canonical stream is the shortest of its meaning, and the only one of its length; and an atom that bytes spell fits.
-- Document 01: "Canonical", against the grammar. Assumes nothing.
use Prim.Native.Nat.{ℕ, ◌+◌, ◌/◌, ◌%◌, ◌≤◌, ◌<◌}
use mathlib.Core.Path.{◌≡◌, refl, ap, ◌∙◌}
use mathlib.Core.List.{List, [], ◌∷◌, ◌++◌}
use native.Mathlib.Omega.{arith}
use lib.ListN.{length, length-append}
use Rattle.spec.specs.Expr.{Atom, nil, array, int, ref, Expr, atom, form, Exprs, none, more, array_head, marker_bytes, atom_bytes, bytes, canonical}
use Rattle.spec.specs.Reading.{natural}
use Rattle.laws.specs.Demands.{Bytes}
use Rattle.laws.specs.Grammar.{SpellsLength, as_int, as_small, as_generic, SpellsArray, small, generic, SpellsAtom, Spells, SpellsAll}
use Rattle.laws.proofs.Fits.{bytes_front, bytes_back, Fits}
use Rattle.laws.proofs.Canonical.{Head, one_byte, three_bytes, four_bytes, array_head_is}

-- Bytes x that are canonical bytes y, or longer
pub record Shortest (x y : List ℕ) : Type 0 where
  pub no_longer : length y ≤ length x
  pub only : length x ≤ length y → x ≡ y

longer : (x y : List ℕ) → length y < length x → Shortest x y
longer x y h = record { no_longer = omega arith; only = λ k. absurd (omega arith) }

itself : (x y : List ℕ) → x ≡ y → Shortest x y
itself x y e = record { no_longer = omega (arith, ap length e); only = λ k. e }

joined : (x x' y y' : List ℕ) → Shortest x x' → Shortest y y' → Shortest (x ++ y) (x' ++ y')
joined x x' y y' f g =
    let whole = length-append x y in
    let least = length-append x' y' in
    record {
      no_longer = omega (arith, f.no_longer, g.no_longer);
      only = λ k.
          let first : x ≡ x' = f.only (omega (arith, g.no_longer)) in
          let second : y ≡ y' = g.only (omega (arith, f.no_longer)) in
          ap (λ (z : List ℕ). z ++ y) first ∙ ap (λ (z : List ℕ). x' ++ z) second;
    }

-- Arrays

-- a length expression is not empty
some_bytes : (k n : ℕ) (x : List ℕ) → SpellsLength k n x → 1 ≤ length x
some_bytes k n x (as_int h e) = omega (arith, ap length e)
some_bytes k n x (as_small ds h is e) = omega (arith, ap length e)
some_bytes k n x (as_generic ds y sp is e) = omega (arith, ap length e)

-- the head of an array whose length is written in the bytes ds, behind a byte C0 to FF
by_small : (n : ℕ) (ds hs : List ℕ) → Bytes ds → n ≡ natural 0 ds → Head n hs → Shortest (0x03 ∷ (0xC0 + length ds) ∷ ds) hs
unfolding natural
by_small n [] _ b is (one_byte h) = longer _ _ (omega arith)
by_small n [] _ b is (three_bytes h k) = absurd (omega arith)
by_small n [] _ b is (four_bytes h) = absurd (omega arith)
by_small n (d ∷ []) _ b is (one_byte h) = longer _ _ (omega arith)
by_small n (d ∷ []) _ b is (three_bytes h k) = itself _ _ (ap (λ (m : ℕ). 0x03 ∷ 0xC1 ∷ m ∷ []) (omega arith))
by_small n (d ∷ []) _ b is (four_bytes h) = absurd (omega (arith, b.0))
by_small n (d ∷ e ∷ []) _ b is (one_byte h) = longer _ _ (omega arith)
by_small n (d ∷ e ∷ []) _ b is (three_bytes h k) = longer _ _ (omega arith)
by_small n (d ∷ e ∷ []) _ b is (four_bytes h) =
    let high : d ≡ n / 256 = omega (arith, b.0, b.1.0) in
    let low : e ≡ n % 256 = omega (arith, b.0, b.1.0) in
    itself _ _ (ap (λ (m : ℕ). 0x03 ∷ 0xC2 ∷ m ∷ e ∷ []) high ∙ ap (λ (m : ℕ). 0x03 ∷ 0xC2 ∷ (n / 256) ∷ m ∷ []) low)
by_small n (d ∷ e ∷ f ∷ ds) _ b is (one_byte h) = longer _ _ (omega arith)
by_small n (d ∷ e ∷ f ∷ ds) _ b is (three_bytes h k) = longer _ _ (omega arith)
by_small n (d ∷ e ∷ f ∷ ds) _ b is (four_bytes h) = longer _ _ (omega arith)

-- behind another 03, with at least a byte before ds
by_generic : (n : ℕ) (ds x hs : List ℕ) → Bytes ds → n ≡ natural 0 ds → 1 ≤ length x → Head n hs → Shortest (0x03 ∷ 0x03 ∷ (x ++ ds)) hs
unfolding natural
by_generic n [] x _ b is some (one_byte h) = longer _ _ (simp length-append (omega arith))
by_generic n [] x _ b is some (three_bytes h k) = absurd (omega arith)
by_generic n [] x _ b is some (four_bytes h) = absurd (omega arith)
by_generic n (d ∷ []) x _ b is some (one_byte h) = longer _ _ (simp length-append (omega arith))
by_generic n (d ∷ []) x _ b is some (three_bytes h k) = longer _ _ (simp length-append (omega arith))
by_generic n (d ∷ []) x _ b is some (four_bytes h) = absurd (omega (arith, b.0))
by_generic n (d ∷ e ∷ ds) x _ b is some (one_byte h) = longer _ _ (simp length-append (omega arith))
by_generic n (d ∷ e ∷ ds) x _ b is some (three_bytes h k) = longer _ _ (simp length-append (omega arith))
by_generic n (d ∷ e ∷ ds) x _ b is some (four_bytes h) = longer _ _ (simp length-append (omega arith))

head_shortest : (k n : ℕ) (x hs : List ℕ) → Bytes x → SpellsLength k n x → Head n hs → Shortest (0x03 ∷ x) hs
head_shortest k n x hs b (as_int h e) head = rw e (go head)
  where
    go : {hs : List ℕ} → Head n hs → Shortest (0x03 ∷ (0x80 + n) ∷ []) hs
    go (one_byte l) = longer _ _ (omega arith)
    go (three_bytes l m) = absurd (omega arith)
    go (four_bytes l) = absurd (omega arith)
head_shortest k n x hs b (as_small ds h is e) head = let bs : Bytes ds = (rw e at b).1 in rw e (by_small n ds hs bs is head)
head_shortest k n x hs b (as_generic ds y sp is e) head =
    let bs : Bytes (y ++ ds) = (rw e at b).1 in
    rw e (by_generic n ds y hs (bytes_back y ds bs) is (some_bytes _ (length ds) y sp) head)

array_shortest : (bs s : List ℕ) → Bytes s → SpellsArray bs s → Shortest s (array_head (length bs) ++ bs)
array_shortest bs s b (small h e) = rw e (go (array_head_is (length bs)))
  where
    go : {hs : List ℕ} → Head (length bs) hs → Shortest ((0xC0 + length bs) ∷ bs) (hs ++ bs)
    go (one_byte l) = itself _ _ refl
    go (three_bytes l m) = absurd (omega arith)
    go (four_bytes l) = absurd (omega arith)
array_shortest bs s b (generic x sp e) =
    let all : Bytes (x ++ bs) = (rw e at b).1 in
    rw e (joined (0x03 ∷ x) (array_head (length bs)) bs bs (head_shortest 7 (length bs) x _ (bytes_front x bs all) sp (array_head_is (length bs))) (itself bs bs refl))

-- Expressions

mutual
  unfolding atom_bytes bytes

  expr_shortest : (e : Expr) (s : List ℕ) → Bytes s → Spells e s → Shortest s (bytes e)
  expr_shortest (atom nil) s b sp = itself s (0x00 ∷ []) sp
  expr_shortest (atom (array bs)) s b sp = array_shortest bs s b sp
  expr_shortest (atom (int v)) s b sp = itself s ((0x80 + v) ∷ []) sp.1
  expr_shortest (atom (ref m n)) s b sp = itself s (atom_bytes (ref m n)) sp.2
  expr_shortest (form es) s b sp =
      let x = sp.0 in
      let bs : Bytes (0x01 ∷ (x ++ (0x02 ∷ []))) = rw sp.1 at b in
      let inside = all_shortest es x (bytes_front x (0x02 ∷ []) bs.1) sp.2 in
      let closed = joined x (canonical es) (0x02 ∷ []) (0x02 ∷ []) inside (itself (0x02 ∷ []) (0x02 ∷ []) refl) in
      rw sp.1 (joined (0x01 ∷ []) (0x01 ∷ []) (x ++ (0x02 ∷ [])) (canonical es ++ (0x02 ∷ [])) (itself (0x01 ∷ []) (0x01 ∷ []) refl) closed)

  pub all_shortest : (es : Exprs) (s : List ℕ) → Bytes s → SpellsAll es s → Shortest s (canonical es)
  all_shortest none s b sp = itself s [] sp
  all_shortest (more e es) s b sp =
      let x = sp.0 in
      let y = sp.1 in
      let bs : Bytes (x ++ y) = rw sp.2 at b in
      rw sp.2 (joined x (bytes e) y (canonical es) (expr_shortest e x (bytes_front x y bs) sp.3) (all_shortest es y (bytes_back x y bs) sp.4))

-- an atom that bytes spell fits, and has no more canonical bytes

array_fits : (bs x : List ℕ) → Bytes x → SpellsArray bs x → Bytes bs
array_fits bs x b (small h e) = (rw e at b).1
array_fits bs x b (generic y l e) = bytes_back y bs (rw e at b).1

atom_fits : (a : Atom) (x : List ℕ) → Bytes x → SpellsAtom a x → Fits a
atom_fits nil x b sp = tt
atom_fits (array bs) x b sp = array_fits bs x b sp
atom_fits (int v) x b sp = sp.0
atom_fits (ref m n) x b sp = (sp.0, sp.1, (bytes_back (marker_bytes m) (n ∷ []) (rw sp.2 at b)).0)

pub spelled_fits : (a : Atom) (x : List ℕ) → Bytes x → SpellsAtom a x → Fits a × (length (atom_bytes a) ≤ length x)
unfolding bytes
spelled_fits a x b sp = (atom_fits a x b sp, (expr_shortest (atom a) x b sp).no_longer)
