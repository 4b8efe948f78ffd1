-- Laws of `read_atom` over the grammar: the bytes that spell an atom are read as that atom, and an atom that is read is spelled by the
-- bytes that it was read from. Document 01: "Bytes to expressions". Assumes nothing.
use Prim.Native.Nat.{ℕ, zero, suc, ◌+◌, ◌-◌, ◌*◌, ◌/◌, ◌%◌, ◌≤◌, ◌<◌}
use mathlib.Core.Path.{◌≡◌, refl, sym, ap, ◌∙◌, subst}
use mathlib.Core.List.{List, [], ◌∷◌, ◌++◌, append_assoc}
use mathlib.Core.Bool.{Bool, true, false}
use lib.ListN.{length, take, drop, length-append, length-take, take-append-drop, replicate}
use lib.Seq.{take_at, drop_at}
use lib.Dec.{ltb, leb, eqb}
use borrow.Author.Tests.{ltb-true, ltb-false, leb-true, eqb-true, eqb-false, lt-ltb, le-ltb, le-leb, ne_eqb}
use native.Mathlib.Omega.{arith}
use Rattle.spec.specs.Expr.{when◌then◌else◌, Atom, nil, array, int, ref, array_head, marker_bytes, atom_bytes}
use Rattle.spec.specs.Reading.{Taken, taken, cut_off, failed, and_then, take_bytes, natural, as_length, plain_length, length_expr, marker, name, as_array, read_atom}
use Rattle.laws.specs.Demands.{Bytes}
use Rattle.laws.specs.Grammar.{SpellsLength, as_int, as_small, as_generic, SpellsArray, small, generic, SpellsAtom}
use Rattle.laws.proofs.Basics.{impossible}
use Rattle.laws.proofs.Fits.{Fits}
use Rattle.laws.proofs.Canonical.{Head, one_byte, three_bytes, four_bytes, array_head_is, Mark, short, long, marker_bytes_are}

-- From bytes that spell

-- so many bytes in front are taken
take_front : (n : ℕ) (bs s : List ℕ) → length bs ≡ n → take_bytes n (bs ++ s) ≡ taken bs s
unfolding take_bytes
take_front n bs s h =
    let fits : leb n (length (bs ++ s)) ≡ true = le-leb n (length (bs ++ s)) (simp length-append (omega arith)) in
    rw (fits, take_at bs s n h, drop_at bs s n h)

-- a length that is no generic array
pub length_plain : (k b : ℕ) (s : List ℕ) → (b ≡ 0x03 → ⊥) → length_expr k (b ∷ s) ≡ plain_length b s
unfolding length_expr
length_plain zero b s h = rw (ne_eqb b 0x03 h)
length_plain (suc k) b s h = rw (ne_eqb b 0x03 h)

plain_int : (n : ℕ) (s : List ℕ) → n < 64 → plain_length (0x80 + n) s ≡ taken n s
unfolding plain_length
plain_int n s h = rw (le-ltb (0x80 + n) 0x80 (omega arith), lt-ltb (0x80 + n) 0xC0 (omega arith)) (ap (λ (x : ℕ). taken x s) (omega arith))

pub plain_bytes : (n : ℕ) (s : List ℕ) → plain_length (0xC0 + n) s ≡ and_then (take_bytes n s) as_length
unfolding plain_length
plain_bytes n s =
    let count : 0xC0 + n - 0xC0 ≡ n = omega arith in
    rw (le-ltb (0xC0 + n) 0x80 (omega arith), le-ltb (0xC0 + n) 0xC0 (omega arith), count)

plain_small : (ds s : List ℕ) → plain_length (0xC0 + length ds) (ds ++ s) ≡ taken (natural 0 ds) s
plain_small ds s = rw (plain_bytes (length ds) (ds ++ s), take_front (length ds) ds s refl)

pub length_generic : (k : ℕ) (s : List ℕ) → length_expr (suc k) (0x03 ∷ s) ≡ and_then (and_then (length_expr k s) take_bytes) as_length
unfolding length_expr
length_generic k s = refl

pub length_spelled : {k n : ℕ} {x : List ℕ} → SpellsLength k n x → (s : List ℕ) → length_expr k (x ++ s) ≡ taken n s
length_spelled {k} {n} (as_int h e) s = rw e (length_plain k (0x80 + n) s (λ z. omega arith) ∙ plain_int n s h)
length_spelled {k} (as_small ds h q e) s = rw (e, q) (length_plain k (0xC0 + length ds) (ds ++ s) (λ z. omega arith) ∙ plain_small ds s)
length_spelled (as_generic {k = j} ds x l q e) s =
    rw (e, q, append_assoc x ds s) (length_generic j (x ++ (ds ++ s)) ∙ rw (length_spelled l (ds ++ s), take_front (length ds) ds s refl))

-- each atom by its first byte

pub atom_small : (n : ℕ) (s : List ℕ) → read_atom (0xC0 + n) s ≡ and_then (take_bytes n s) as_array
unfolding read_atom
atom_small n s =
    let b : ℕ = 0xC0 + n in
    let count : b - 0xC0 ≡ n = omega arith in
    rw (
      ne_eqb b 0x00 (λ e. omega arith),
      ne_eqb b 0x03 (λ e. omega arith),
      le-ltb b 0x10 (omega arith),
      le-ltb b 0x7F (omega arith),
      le-ltb b 0x80 (omega arith),
      le-ltb b 0xC0 (omega arith),
      count,
    )

pub atom_generic : (s : List ℕ) → read_atom 0x03 s ≡ and_then (and_then (length_expr 7 s) take_bytes) as_array
unfolding read_atom
atom_generic s = refl

pub atom_short : (m : ℕ) (s : List ℕ) → 16 ≤ m → m < 0x7F → read_atom m s ≡ name (m ∷ s) m s
unfolding read_atom
atom_short m s h l = rw (ne_eqb m 0x00 (λ e. omega arith), ne_eqb m 0x03 (λ e. omega arith), le-ltb m 0x10 h, lt-ltb m 0x7F l)

pub atom_long : (s : List ℕ) → read_atom 0x7F s ≡ and_then (marker 0x7F s) (name (0x7F ∷ s))
unfolding read_atom
atom_long s = refl

read_int : (v : ℕ) (s : List ℕ) → v < 64 → read_atom (0x80 + v) s ≡ taken (int v) s
unfolding read_atom
read_int v s h =
    let b : ℕ = 0x80 + v in
    let value : b - 0x80 ≡ v = omega arith in
    rw (
      ne_eqb b 0x00 (λ e. omega arith),
      ne_eqb b 0x03 (λ e. omega arith),
      le-ltb b 0x10 (omega arith),
      le-ltb b 0x7F (omega arith),
      le-ltb b 0x80 (omega arith),
      lt-ltb b 0xC0 (omega arith),
      value,
    )

read_small : (bs s : List ℕ) → read_atom (0xC0 + length bs) (bs ++ s) ≡ taken (array bs) s
read_small bs s = rw (atom_small (length bs) (bs ++ s), take_front (length bs) bs s refl)

read_generic : (x bs s : List ℕ) → SpellsLength 7 (length bs) x → read_atom 0x03 ((x ++ bs) ++ s) ≡ taken (array bs) s
read_generic x bs s l = rw (atom_generic ((x ++ bs) ++ s), append_assoc x bs s, length_spelled l (bs ++ s), take_front (length bs) bs s refl)

-- bytes FF are added up
pub marker_sum : (k m b : ℕ) (s : List ℕ) → b < 0xFF → marker m (replicate k 0xFF ++ (b ∷ s)) ≡ taken (m + k * 0xFF + b) s
unfolding marker
marker_sum zero m b s h = rw (ne_eqb b 0xFF (λ e. omega arith)) (ap (λ (x : ℕ). taken x s) (omega arith))
marker_sum (suc k) m b s h = marker_sum k (m + 0xFF) b s h ∙ ap (λ (x : ℕ). taken x s) (omega arith)

read_short : (m n : ℕ) (s : List ℕ) → 16 ≤ m → m < 0x7F → read_atom m (n ∷ s) ≡ taken (ref m n) s
unfolding name
read_short m n s h l = rw (atom_short m (n ∷ s) h l, le-ltb 65535 m (omega arith))

read_long : (m n : ℕ) (s : List ℕ) → 0x7F ≤ m → m ≤ 65535
    → read_atom 0x7F (((replicate ((m - 0x7F) / 0xFF) 0xFF ++ (((m - 0x7F) % 0xFF) ∷ [])) ++ (n ∷ [])) ++ s) ≡ taken (ref m n) s
unfolding read_atom name
read_long m n s h k =
    let sum : 0x7F + (m - 0x7F) / 0xFF * 0xFF + (m - 0x7F) % 0xFF ≡ m = omega arith in
    simp append_assoc (rw (marker_sum ((m - 0x7F) / 0xFF) 0x7F ((m - 0x7F) % 0xFF) (n ∷ s) (omega arith), sum, le-ltb 65535 m k))

-- the first of the bytes that spell an atom, and that the atom is read from them
pub record Front (a : Atom) (x : List ℕ) : Type 0 where
  pub byte : ℕ
  pub others : List ℕ
  pub is : x ≡ byte ∷ others
  pub no_form : (byte ≡ 0x01 → ⊥) × (byte ≡ 0x02 → ⊥)
  pub reads : (s : List ℕ) → read_atom byte (others ++ s) ≡ taken a s

front_array : (bs x : List ℕ) → SpellsArray bs x → Front (array bs) x
front_array bs x (small h e) = record { byte = 0xC0 + length bs; others = bs; is = e; no_form = omega arith; reads = read_small bs }
front_array bs x (generic y l e) = record { byte = 0x03; others = y ++ bs; is = e; no_form = omega arith; reads = λ s. read_generic y bs s l }

front_ref : (m n : ℕ) (x : List ℕ) → 16 ≤ m → m ≤ 65535 → x ≡ marker_bytes m ++ (n ∷ []) → Front (ref m n) x
front_ref m n x h k e = go (marker_bytes_are m) e
  where
    go : {ms : List ℕ} → Mark m ms → x ≡ ms ++ (n ∷ []) → Front (ref m n) x
    go (short l) e = record { byte = m; others = n ∷ []; is = e; no_form = omega arith; reads = λ s. read_short m n s h l }
    go (long l) e = record { byte = 0x7F; others = _; is = e; no_form = omega arith; reads = λ s. read_long m n s l k }

pub front : (a : Atom) (x : List ℕ) → SpellsAtom a x → Front a x
front nil x e = record { byte = 0x00; others = []; is = e; no_form = omega arith; reads = λ s. unfold read_atom in refl }
front (array bs) x p = front_array bs x p
front (int v) x p = record { byte = 0x80 + v; others = []; is = p.1; no_form = omega arith; reads = λ s. read_int v s p.0 }
front (ref m n) x p = front_ref m n x p.0 p.1 p.2

-- the canonical bytes of an atom that fits spell it
pub canonical_atom : (a : Atom) → Fits a → SpellsAtom a (atom_bytes a)
unfolding atom_bytes natural
canonical_atom nil f = refl
canonical_atom (array bs) f = go (array_head_is (length bs)) refl
  where
    n : ℕ
    n = length bs

    go : {hs : List ℕ} → Head n hs → array_head n ≡ hs → SpellsArray bs (array_head n ++ bs)
    go (one_byte l) e = small l (rw e)
    go (three_bytes k l) e = generic (0xC1 ∷ n ∷ []) (as_small {n = n} (n ∷ []) (omega arith) (omega arith) refl) (rw e)
    go (four_bytes k) e = generic (0xC2 ∷ (n / 256) ∷ (n % 256) ∷ []) (as_small {n = n} ((n / 256) ∷ (n % 256) ∷ []) (omega arith) (omega arith) refl) (rw e)
canonical_atom (int v) f = (f, refl)
canonical_atom (ref m n) f = (f.0, f.1, refl)

-- To bytes that spell

-- what a choice gives is given by one of its branches
by_choice : {A : Type 0} {P : Type 0} (c : Bool) (x y z : Taken A) → (c ≡ true → x ≡ z → P) → (c ≡ false → y ≡ z → P) → (when c then x else y) ≡ z → P
by_choice true x y z f g h = f refl h
by_choice false x y z f g h = g refl h

-- what is taken in two parts
then_taken : {A B : Type 0} (x : Taken A) (f : A → List ℕ → Taken B) (b : B) (t : List ℕ) → and_then x f ≡ taken b t
    → (a : A) × (s : List ℕ) × (x ≡ taken a s) × (f a s ≡ taken b t)
then_taken (taken a s) f b t h = (a, s, refl, h)
then_taken cut_off f b t h = impossible (cc)
then_taken (failed w s) f b t h = impossible (cc)

never_cut_off : {A : Type 0} (t : List ℕ) (a : A) → cut_off ≡ taken a t → ⊥
never_cut_off t a h = impossible (cc)

never_taken : {A : Type 0} (w : ℕ) (s t : List ℕ) (a : A) → failed w s ≡ taken a t → ⊥
never_taken w s t a h = impossible (cc)

-- the bytes taken, and those left
take_taken : (n : ℕ) (s bs t : List ℕ) → take_bytes n s ≡ taken bs t → (s ≡ bs ++ t) × (length bs ≡ n)
unfolding take_bytes
take_taken n s bs t h = by_choice (leb n (length s)) (taken (take n s) (drop n s)) cut_off (taken bs t)
    (λ e k. let front : take n s ≡ bs = cc in let back : drop n s ≡ t = cc in
    (sym (take-append-drop n s) ∙ rw (front, back), sym (ap length front) ∙ simp length-take (omega (arith, leb-true n (length s) e))))
    (λ e k. absurd (never_cut_off t bs k)) h

-- read off the front of s, leaving t: bytes of which P holds
pub record SplitOff (P : List ℕ → Type 0) (s t : List ℕ) : Type 0 where
  pub front : List ℕ
  pub is : s ≡ front ++ t
  pub holds : P front

pub plain_taken : (k b : ℕ) (s : List ℕ) (n : ℕ) (t : List ℕ) → b < 256 → plain_length b s ≡ taken n t → SplitOff (SpellsLength k n) (b ∷ s) t
unfolding plain_length
plain_taken k b s n t h e =
    by_choice (ltb b 0x80) _ _ (taken n t) (λ c q. absurd (never_taken 5 (b ∷ s) t n q)) (λ c q.
    by_choice (ltb b 0xC0) _ _ (taken n t) (λ c' q'. int_taken (ltb-false b 0x80 c) (ltb-true b 0xC0 c') q') (λ c' q'. small_taken (ltb-false b 0xC0 c') q') q) e
  where
    int_taken : 0x80 ≤ b → b < 0xC0 → taken (b - 0x80) s ≡ taken n t → SplitOff (SpellsLength k n) (b ∷ s) t
    int_taken l u q =
        let number : b - 0x80 ≡ n = cc in
        let byte : b ≡ 0x80 + n = omega arith in
        record { front = b ∷ []; is = cc; holds = as_int {n = n} (omega arith) (ap (λ (x : ℕ). x ∷ []) byte) }

    small_taken : 0xC0 ≤ b → and_then (take_bytes (b - 0xC0) s) as_length ≡ taken n t → SplitOff (SpellsLength k n) (b ∷ s) t
    small_taken l q =
        let p = then_taken (take_bytes (b - 0xC0) s) as_length n t q in
        let u = take_taken (b - 0xC0) s p.0 p.1 p.2 in
        let byte : b ≡ 0xC0 + length p.0 = omega (arith, u.1) in
        record {
          front = b ∷ p.0;
          is = cc (u.0, p.3);
          holds = as_small {n = n} p.0 (omega (arith, u.1)) (cc p.3) (ap (λ (x : ℕ). x ∷ p.0) byte);
        }

-- a length expression with the bytes that it is the length of
record Counted (k : ℕ) (s ds t : List ℕ) : Type 0 where
  before : List ℕ
  is : s ≡ (before ++ ds) ++ t
  spells : SpellsLength k (length ds) before

counted_taken : (k : ℕ) (s ds t : List ℕ) → ((n : ℕ) (u : List ℕ) → length_expr k s ≡ taken n u → SplitOff (SpellsLength k n) s u)
    → and_then (length_expr k s) take_bytes ≡ taken ds t → Counted k s ds t
counted_taken k s ds t inner q =
    let r = then_taken (length_expr k s) take_bytes ds t q in
    let own = take_taken r.0 r.1 ds t r.3 in
    let o = inner r.0 r.1 r.2 in
    record {
      before = o.front;
      is = o.is ∙ ap (λ (y : List ℕ). o.front ++ y) own.0 ∙ sym (append_assoc o.front ds t);
      spells = subst (λ (j : ℕ). SpellsLength k j o.front) (sym own.1) o.holds;
    }

pub length_taken : (k : ℕ) (s : List ℕ) (n : ℕ) (t : List ℕ) → Bytes s → length_expr k s ≡ taken n t → SplitOff (SpellsLength k n) s t
unfolding length_expr
length_taken zero [] n t b e = absurd (never_cut_off t n e)
length_taken (suc k) [] n t b e = absurd (never_cut_off t n e)
length_taken zero (x ∷ s) n t b e =
    by_choice (eqb x 0x03) _ _ (taken n t) (λ c q. absurd (never_taken 6 (x ∷ s) t n q)) (λ c q. plain_taken zero x s n t b.0 q) e
length_taken (suc k) (x ∷ s) n t b e =
    by_choice (eqb x 0x03) _ _ (taken n t) (λ c q. generic_taken (eqb-true x 0x03 c) (λ j u h. length_taken k s j u b.1 h) q)
    (λ c q. plain_taken (suc k) x s n t b.0 q) e
  where
    generic_taken : x ≡ 0x03 → ((j : ℕ) (u : List ℕ) → length_expr k s ≡ taken j u → SplitOff (SpellsLength k j) s u)
        → and_then (and_then (length_expr k s) take_bytes) as_length ≡ taken n t → SplitOff (SpellsLength (suc k) n) (x ∷ s) t
    generic_taken h inner q =
        let p = then_taken (and_then (length_expr k s) take_bytes) as_length n t q in
        let c = counted_taken k s p.0 p.1 inner p.2 in
        record {
          front = x ∷ (c.before ++ p.0);
          is = cc (c.is, p.3);
          holds = as_generic {n = n} p.0 c.before c.spells (cc p.3) (ap (λ (y : ℕ). y ∷ (c.before ++ p.0)) h);
        }

marker_taken : (m : ℕ) (s : List ℕ) (k : ℕ) (t : List ℕ) → Bytes s → marker m s ≡ taken k t
    → (j : ℕ) × (c : ℕ) × (s ≡ replicate j 0xFF ++ (c ∷ t)) × (c < 0xFF) × (k ≡ m + j * 0xFF + c)
unfolding marker
marker_taken m [] k t b e = absurd (never_cut_off t k e)
marker_taken m (x ∷ s) k t b e =
    by_choice (eqb x 0xFF) _ _ (taken k t)
    (λ c q. let p = marker_taken (m + x) s k t b.1 q in let full = eqb-true x 0xFF c in
    (suc p.0, p.1, cc (p.2, full), p.3, omega (arith, p.4)))
    (λ c q. let number : m + x ≡ k = cc in (0, x, cc, omega (arith, b.0, eqb-false x 0xFF c), omega arith)) e

-- the marker's sum is its canonical bytes
mark_is : (j c : ℕ) → c < 0xFF → marker_bytes (0x7F + j * 0xFF + c) ≡ 0x7F ∷ (replicate j 0xFF ++ (c ∷ []))
mark_is j c h = go (marker_bytes_are (0x7F + j * 0xFF + c))
  where
    go : {ms : List ℕ} → Mark (0x7F + j * 0xFF + c) ms → ms ≡ 0x7F ∷ (replicate j 0xFF ++ (c ∷ []))
    go (short l) = absurd (omega arith)
    go (long l) =
        let full : (0x7F + j * 0xFF + c - 0x7F) / 0xFF ≡ j = omega arith in
        let last : (0x7F + j * 0xFF + c - 0x7F) % 0xFF ≡ c = omega arith in
        rw (full, last)

mark_short : (m : ℕ) → m < 0x7F → marker_bytes m ≡ m ∷ []
unfolding marker_bytes
mark_short m h = rw (lt-ltb m 0x7F h)

name_taken : (from : List ℕ) (m : ℕ) (s : List ℕ) (a : Atom) (t : List ℕ) → name from m s ≡ taken a t
    → (n : ℕ) × (s ≡ n ∷ t) × (a ≡ ref m n) × (m ≤ 65535)
unfolding name
name_taken from m [] a t e = absurd (never_cut_off t a e)
name_taken from m (n ∷ s) a t e =
    by_choice (ltb 65535 m) _ _ (taken a t) (λ c q. absurd (never_taken 7 from t a q)) (λ c q. (n, cc, cc, ltb-false 65535 m c)) e

-- an atom that is read is spelled by the bytes in front of those that are left
module _ (b : ℕ) (s : List ℕ) (a : Atom) (t : List ℕ) where
  abbrev Split : Type 0
  Split = SplitOff (SpellsAtom a) (b ∷ s) t

  nil_taken : b ≡ 0x00 → taken nil s ≡ taken a t → Split
  nil_taken h e = let it : a ≡ nil = cc in rw it (record { front = b ∷ []; is = cc; holds = rw h })

  int_atom_taken : 0x80 ≤ b → b < 0xC0 → taken (int (b - 0x80)) s ≡ taken a t → Split
  int_atom_taken l u e =
      let it : a ≡ int (b - 0x80) = cc in
      let byte : 0x80 + (b - 0x80) ≡ b = omega arith in
      rw it (record { front = b ∷ []; is = cc; holds = (omega arith, rw byte) })

  small_array_taken : 0xC0 ≤ b → b < 256 → and_then (take_bytes (b - 0xC0) s) as_array ≡ taken a t → Split
  small_array_taken l u e =
      let p = then_taken (take_bytes (b - 0xC0) s) as_array a t e in
      let it : a ≡ array p.0 = cc p.3 in
      let own = take_taken (b - 0xC0) s p.0 p.1 p.2 in
      let byte : b ≡ 0xC0 + length p.0 = omega (arith, own.1) in
      rw it (record { front = b ∷ p.0; is = cc (own.0, p.3); holds = small (omega (arith, own.1)) (ap (λ (x : ℕ). x ∷ p.0) byte) })

  generic_array_taken : b ≡ 0x03 → Bytes s → and_then (and_then (length_expr 7 s) take_bytes) as_array ≡ taken a t → Split
  generic_array_taken h bs e =
      let p = then_taken (and_then (length_expr 7 s) take_bytes) as_array a t e in
      let it : a ≡ array p.0 = cc p.3 in
      let c = counted_taken 7 s p.0 p.1 (λ n u q. length_taken 7 s n u bs q) p.2 in
      rw it (record {
        front = b ∷ (c.before ++ p.0);
        is = cc (c.is, p.3);
        holds = generic c.before c.spells (ap (λ (x : ℕ). x ∷ (c.before ++ p.0)) h);
      })

  short_taken : 16 ≤ b → b < 0x7F → name (b ∷ s) b s ≡ taken a t → Split
  short_taken l u e =
      let p = name_taken (b ∷ s) b s a t e in
      rw p.2 (record { front = b ∷ p.0 ∷ []; is = cc p.1; holds = (l, p.3, rw (mark_short b u)) })

  long_taken : b ≡ 0x7F → Bytes s → and_then (marker 0x7F s) (name (b ∷ s)) ≡ taken a t → Split
  long_taken h bs e =
      let p = then_taken (marker 0x7F s) (name (b ∷ s)) a t e in
      let q = marker_taken 0x7F s p.0 p.1 bs p.2 in
      let r = name_taken (b ∷ s) p.0 p.1 a t p.3 in
      let full : List ℕ = replicate q.0 0xFF in
      let mark : marker_bytes p.0 ≡ 0x7F ∷ (full ++ (q.1 ∷ [])) = ap marker_bytes q.4 ∙ mark_is q.0 q.1 q.3 in
      rw r.2 (record {
        front = b ∷ ((full ++ (q.1 ∷ [])) ++ (r.0 ∷ []));
        is = ap (λ (y : List ℕ). b ∷ y) (q.2 ∙ ap (λ (y : List ℕ). full ++ (q.1 ∷ y)) r.1 ∙ simp append_assoc);
        holds = (omega (arith, q.4), r.3, rw mark (ap (λ (x : ℕ). x ∷ ((full ++ (q.1 ∷ [])) ++ (r.0 ∷ []))) h));
      })

pub atom_taken : (b : ℕ) (s : List ℕ) (a : Atom) (t : List ℕ) → b < 256 → Bytes s → read_atom b s ≡ taken a t → SplitOff (SpellsAtom a) (b ∷ s) t
unfolding read_atom
atom_taken b s a t h bs e =
    by_choice (eqb b 0x00) _ _ (taken a t) (λ c q. nil_taken b s a t (eqb-true b 0x00 c) q) (λ c0 q.
    by_choice (eqb b 0x03) _ _ (taken a t) (λ c q. generic_array_taken b s a t (eqb-true b 0x03 c) bs q) (λ c3 q.
    by_choice (ltb b 0x10) _ _ (taken a t) (λ c q. absurd (never_taken 4 (b ∷ s) t a q)) (λ c10 q.
    by_choice (ltb b 0x7F) _ _ (taken a t) (λ c q. short_taken b s a t (ltb-false b 0x10 c10) (ltb-true b 0x7F c) q) (λ c7F q.
    by_choice (ltb b 0x80) _ _ (taken a t) (λ c q. long_taken b s a t (omega (arith, ltb-false b 0x7F c7F, ltb-true b 0x80 c)) bs q) (λ c80 q.
    by_choice (ltb b 0xC0) _ _ (taken a t) (λ c q. int_atom_taken b s a t (ltb-false b 0x80 c80) (ltb-true b 0xC0 c) q)
    (λ c q. small_array_taken b s a t (ltb-false b 0xC0 c) h q) q) q) q) q) q) e
