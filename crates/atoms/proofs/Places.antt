-- Bytes left and places: what `measured` and `shown` give of bytes that are left from a place on. And lengths as the code takes them: the
-- bytes 03 first, then the innermost length, then outwards; and held at 65,537. And markers, byte by byte.
-- Document 01: "A length expression is a small integer or an array", "After 7F, bytes are read up to the first that isn't FF". Assumes nothing.
use Prim.Native.Nat.{ℕ, zero, suc, ◌+◌, ◌-◌, ◌*◌, ◌≤◌, ◌<◌, min}
use mathlib.Core.Path.{◌≡◌, refl, sym, ap, ◌∙◌}
use mathlib.Core.List.{List, [], ◌∷◌}
use mathlib.Core.Bool.{Bool, true, false}
use mathlib.Core.Logic.{◌⊎◌, inl, inr}
use native.Mathlib.Omega.{arith}
use native.Mathlib.Nat.{le_refl, eq-or-lt_of_le}
use native.Mathlib.Numerals.{add-one}
use lib.ListN.{length, take, drop, get_or, length-take, length-drop}
use lib.Seq.{drop-cons, drop-drop}
use lib.Dec.{eqb, ltb}
use borrow.Author.Tests.{ltb-true, lt-ltb, le-ltb, le-leb, lt-leb, ne_eqb}
use Rattle.std.specs.Prelude.{Result, Ok, Err, Option, Some, None, nat_eq, cond}
use Rattle.std.specs.List.{prefix_len}
use Rattle.std.proofs.lemmas.List.{get_or_read}
use Rattle.spec.specs.Expr.{when◌then◌else◌}
use Rattle.spec.specs.Reading.{Taken, taken, cut_off, failed, and_then, take_bytes, natural, as_length, plain_length, length_expr, marker, name, as_array}
use Rattle.laws.specs.Demands.{Bytes}
use Rattle.laws.specs.Grammar.{SpellsLength}
use Rattle.laws.proofs.Basics.{impossible}
use Rattle.laws.proofs.Fits.{bytes_drop}
use Rattle.laws.proofs.Spelling.{SplitOff, plain_taken, length_taken}
use Rattle.laws.proofs.Steps.{none_left, split_size, split_rest}
use Rattle.atoms.specs.Tokens.{measured, leading_threes, plain, around, shown_atom}
use Rattle.atoms.specs.declared.Kind.TheVariants.{Array, Reference}
use Rattle.atoms.specs.declared.Length.{Length}
use Rattle.atoms.specs.declared.Token.{Token}
use Rattle.atoms.specs.declared.Token.TheVariants.{Atom as Whole, Unfinished}

-- what the code was told of a length
abbrev pub Told : Type 0
Told = Result (Option Length) (ℕ × ℕ)

abbrev pub length_to : ℕ → ℕ → Length
length_to v e = record { value = v; end = e }

abbrev pub found : ℕ → ℕ → Told
found v e = Ok (Some (length_to v e))

-- Places

-- where the bytes begin that are left
pub left_at : (s : List ℕ) (p : ℕ) → p ≤ length s → length s - length (drop p s) ≡ p
left_at s p h = rw (length-drop p s) (omega arith)

-- the first of the bytes that are left
pub first_left : (s : List ℕ) (p : ℕ) → p < length s → drop p s ≡ get_or s p 0 ∷ drop (p + 1) s
first_left s p h = rw (add-one p) (drop-cons s p 0 h)

measured_is : (s : List ℕ) (n p : ℕ) → p ≤ length s → measured (length s) (taken n (drop p s)) ≡ found (min n 65537) p
measured_is s n p h = ap (found (min n 65537)) (left_at s p h)

measured_wrong : (s : List ℕ) (w p : ℕ) → p ≤ length s → measured (length s) (failed w (drop p s)) ≡ Err (w, p)
measured_wrong s w p h = ap (λ (q : ℕ). Err (w, q)) (left_at s p h)

-- so many bytes from a place on, which are there or in which the stream ends
module _ (s : List ℕ) (p n : ℕ) where
  take_there : p ≤ length s → n ≤ length s - p → take_bytes n (drop p s) ≡ taken (take n (drop p s)) (drop (p + n) s)
  unfolding take_bytes
  take_there h l = let left = length-drop p s in rw (le-leb n (length (drop p s)) (omega arith), drop-drop n p s)

  take_short : length s - p < n → take_bytes n (drop p s) ≡ cut_off
  unfolding take_bytes
  take_short l = let left = length-drop p s in rw (lt-leb n (length (drop p s)) (omega arith))

-- Numbers, held at 65,537

natural_grows : (n : ℕ) (s : List ℕ) → n ≤ natural n s
unfolding natural
natural_grows n [] = le_refl n
natural_grows n (b ∷ s) = omega (arith, natural_grows (n * 256 + b) s)

-- what holds of a number that is held, by whether it is
by_held : (P : ℕ → Type 0) (n : ℕ) → (65537 ≤ n → P 65537) → (n < 65537 → P n) → P (min n 65537)
by_held P n large small = go (eq-or-lt_of_le (omega arith))
  where
    go : (min n 65537 ≡ 65537) ⊎ (min n 65537 < 65537) → P (min n 65537)
    go (inl e) = rw e (large (omega arith))
    go (inr h) = let e : min n 65537 ≡ n = omega arith in rw e (small (omega arith))

natural_held : (n : ℕ) (s : List ℕ) → min (natural n s) 65537 ≡ min (natural (min n 65537) s) 65537
natural_held n s =
    by_held (λ k. min (natural n s) 65537 ≡ min (natural k s) 65537) n (λ h. omega (arith, natural_grows n s, natural_grows 65537 s)) (λ h. refl)

-- from byte to byte: those from i on follow bytes whose number, held, is n
module _ (s : List ℕ) (n i : ℕ) where
  pub natural_next : (v : ℕ) → v ≡ min (n * 256 + get_or s i 0) 65537 → i < length s
      → min (natural n (drop i s)) 65537 ≡ min (natural v (drop (i + 1) s)) 65537
  unfolding natural
  natural_next v is h = rw (first_left s i h, is) (natural_held (n * 256 + get_or s i 0) (drop (i + 1) s))

  pub natural_last : length s ≤ i → natural n (drop i s) ≡ n
  unfolding natural
  natural_last h = rw (none_left s i h)

pub ruleset naturals = (natural_next, natural_last)

-- no stream is long enough for the difference
take_held : (n : ℕ) (s : List ℕ) → length s ≤ 65536 → take_bytes n s ≡ take_bytes (min n 65537) s
unfolding take_bytes
take_held n s h =
    by_held (λ k. take_bytes n s ≡ take_bytes k s) n
    (λ g. rw (lt-leb n (length s) (omega arith), lt-leb 65537 (length s) (omega arith)))
    (λ g. refl)

-- Lengths from the inside out

-- a refusal is that of what stands around it too
abbrev pub Refused : Taken ℕ → Type 0
Refused (taken n s) = ⊥
Refused cut_off = Unit {0}
Refused (failed w s) = Unit {0}

pub around_refused : (k : ℕ) (x : Taken ℕ) → Refused x → around k x ≡ x
unfolding around
around_refused zero x u = refl
around_refused (suc k) x u = rw (around_refused k x u) (one x u)
  where
    one : (x : Taken ℕ) → Refused x → and_then (and_then x take_bytes) as_length ≡ x
    one (taken n s) u = absurd u
    one cut_off u = refl
    one (failed w s) u = refl

-- the innermost array first
pub around_inner : (k n : ℕ) (s : List ℕ) → around (suc k) (taken n s) ≡ around k (and_then (take_bytes n s) as_length)
unfolding around
around_inner zero n s = refl
around_inner (suc k) n s = ap (λ x. and_then (and_then x take_bytes) as_length) (around_inner k n s)

pub around_held : (k n : ℕ) (s : List ℕ) (end : ℕ) → length s ≤ 65536
    → measured end (around k (taken n s)) ≡ measured end (around k (taken (min n 65537) s))
unfolding around
around_held zero n s end h = ap (λ m. found m (end - length s)) (omega arith)
around_held (suc k) n s end h =
    ap (measured end) (around_inner k n s ∙ ap (λ x. around k (and_then x as_length)) (take_held n s h) ∙ sym (around_inner k (min n 65537) s))

-- one array, which is there or in which the stream ends
module _ (s : List ℕ) (k v p : ℕ) (short : length s ≤ 65536) (inside : p ≤ length s) where
  inner_first : 0 < k → around k (taken v (drop p s)) ≡ around (k - 1) (and_then (take_bytes v (drop p s)) as_length)
  inner_first h = let more : k ≡ suc (k - 1) = omega arith in ap (λ (j : ℕ). around j (taken v (drop p s))) more ∙ around_inner (k - 1) v (drop p s)

  pub around_whole : 0 < k → v ≤ length s - p
      → measured (length s) (around k (taken v (drop p s)))
      ≡ measured (length s) (around (k - 1) (taken (min (natural 0 (take v (drop p s))) 65537) (drop (p + v) s)))
  around_whole h l =
      let behind = length-drop (p + v) s in
      rw (inner_first h, take_there s p v inside l) (around_held (k - 1) (natural 0 (take v (drop p s))) (drop (p + v) s) (length s) (omega arith))

  pub around_short : 0 < k → length s - p < v → measured (length s) (around k (taken v (drop p s))) ≡ Ok None
  around_short h l = rw (inner_first h, take_short s p v l, around_refused (k - 1) cut_off tt)

  pub around_none : k ≡ 0 → v ≤ 65537 → measured (length s) (around k (taken v (drop p s))) ≡ found v p
  unfolding around
  around_none h l = let held : min v 65537 ≡ v = omega arith in rw (h, held) (ap (found v) (left_at s p inside))

pub ruleset nested = (around_short, around_none)

-- the byte b stands at a place
pub record ByteAt (s : List ℕ) (p b : ℕ) : Type 0 where
  pub inside : p < length s
  pub is : b ≡ get_or s p 0

-- as a look-up tells it
pub byte_at : (s : List ℕ) (p x b : ℕ) → true ≡ ltb p (length s) → x ≡ get_or s p x → b ≡ x → ByteAt s p b
byte_at s p x b some is same =
    let inside = ltb-true p (length s) (sym some) in record { inside = inside; is = same ∙ get_or_read s p x inside is 0 }

-- a plain length, by its first byte
module _ (s : List ℕ) (p b : ℕ) (at : ByteAt s p b) where
  here : drop p s ≡ b ∷ drop (p + 1) s
  here = first_left s p at.inside ∙ rw at.is

  pub plain_wrong : b < 0x80 → measured (length s) (plain (drop p s)) ≡ Err (5, p)
  unfolding plain_length
  plain_wrong h = let left = length-drop (p + 1) s in rw (here, lt-ltb b 0x80 h) (ap (λ (q : ℕ). Err (5, q)) (omega arith))

  plain_small : 0x80 ≤ b → b < 0xC0 → plain (drop p s) ≡ taken (b - 0x80) (drop (p + 1) s)
  unfolding plain_length
  plain_small h l = rw (here, le-ltb b 0x80 h, lt-ltb b 0xC0 l)

  pub plain_int : 0x80 ≤ b → b < 0xC0 → measured (length s) (plain (drop p s)) ≡ found (b - 0x80) (p + 1)
  plain_int h l =
      let held : min (b - 0x80) 65537 ≡ b - 0x80 = omega arith in
      rw (plain_small h l, held) (ap (found (b - 0x80)) (left_at s (p + 1) (omega arith)))

  module _ (array-byte : 0xC0 ≤ b) where
    plain_bytes : plain (drop p s) ≡ and_then (take_bytes (b - 0xC0) (drop (p + 1) s)) as_length
    unfolding plain_length
    plain_bytes = rw (here, le-ltb b 0x80 (omega arith), le-ltb b 0xC0 array-byte)

    pub plain_short : length s - (p + 1) < b - 0xC0 → measured (length s) (plain (drop p s)) ≡ Ok None
    plain_short l = rw (plain_bytes, take_short s (p + 1) (b - 0xC0) l)

    pub plain_array : b - 0xC0 ≤ length s - (p + 1)
        → measured (length s) (plain (drop p s))
        ≡ found (min (natural 0 (take (p + 1 + (b - 0xC0) - (p + 1)) (drop (p + 1) s))) 65537) (p + 1 + (b - 0xC0))
    plain_array l =
        let size : p + 1 + (b - 0xC0) - (p + 1) ≡ b - 0xC0 = omega arith in
        rw (plain_bytes, size, take_there s (p + 1) (b - 0xC0) (omega arith) l)
        (measured_is s (natural 0 (take (b - 0xC0) (drop (p + 1) s))) (p + 1 + (b - 0xC0)) (omega arith))

pub ruleset plain_lengths = (byte_at, plain_wrong, plain_int, plain_short, plain_array)

-- bytes 03 in a row, as a chain counts them
abbrev pub is_three : ℕ → Bool
is_three b = nat_eq b 3

pub threes_counted : (k : ℕ) (s : List ℕ) → prefix_len is_three (take k s) ≡ leading_threes k s
unfolding leading_threes
threes_counted zero s = refl
threes_counted (suc k) [] = refl
threes_counted (suc k) (b ∷ s) = one (eqb b 0x03) _ _ (threes_counted k s)
  where
    one : (c : Bool) (m n : ℕ) → m ≡ n → cond c (1 + m) 0 ≡ (when c then suc n else 0)
    one true m n e = omega arith
    one false m n e = refl

-- a length by the j bytes 03 that it begins with: k at most and then no 03, or one too many
data ByThrees (k : ℕ) (s : List ℕ) (j : ℕ) : Type 0 where
  few : j ≤ k → j ≤ length s → length_expr k s ≡ around j (plain (drop j s)) → ByThrees k s j
  many : j ≡ suc k → k < length s → length_expr k s ≡ failed 6 (drop k s) → ByThrees k s j

by_threes : (k : ℕ) (s : List ℕ) → ByThrees k s (leading_threes (suc k) s)
unfolding length_expr leading_threes around
by_threes zero [] = few (omega arith) (omega arith) refl
by_threes (suc k) [] = few (omega arith) (omega arith) refl
by_threes zero (b ∷ s) = go (eqb b 0x03) refl
  where
    go : (c : Bool) → eqb b 0x03 ≡ c → ByThrees zero (b ∷ s) (when eqb b 0x03 then 1 else 0)
    go true e = rw e (many refl (omega arith) (rw e))
    go false e = rw e (few (omega arith) (omega arith) (rw e))
by_threes (suc k) (b ∷ s) = go (eqb b 0x03) refl (by_threes k s)
  where
    go : (c : Bool) → eqb b 0x03 ≡ c → {j : ℕ} → ByThrees k s j → ByThrees (suc k) (b ∷ s) (when eqb b 0x03 then suc j else 0)
    go true e (few l i is) = rw e (few (omega arith) (omega arith) (rw (e, is)))
    go true e (many q i is) = rw e (many (omega arith) (omega arith) (rw (e, is)))
    go false e x = rw e (few (omega arith) (omega arith) (rw e))

-- one too many
pub length_many : (k : ℕ) (s : List ℕ) → leading_threes (suc k) s ≡ suc k → length_expr k s ≡ failed 6 (drop k s)
length_many k s h = go (by_threes k s)
  where
    go : ByThrees k s (leading_threes (suc k) s) → length_expr k s ≡ failed 6 (drop k s)
    go (few l i is) = absurd (omega arith)
    go (many q i is) = is

-- with fewer than eight bytes 03: what stands behind them
pub record BehindThrees (s : List ℕ) (at depth : ℕ) : Type 0 where
  pub inside : at + depth ≤ length s
  pub is : length_expr 7 (drop at s) ≡ around depth (plain (drop (at + depth) s))

module _ (s : List ℕ) (at depth : ℕ) (inside : at ≤ length s) (count : depth ≡ leading_threes 8 (drop at s)) where
  pub behind_threes : (depth ≡ 8 → ⊥) → BehindThrees s at depth
  behind_threes n = go (rw (← count) at (by_threes 7 (drop at s)))
    where
      go : ByThrees 7 (drop at s) depth → BehindThrees s at depth
      go (few l i is) = record { inside = omega (arith, length-drop at s); is = is ∙ rw drop-drop }
      go (many q i is) = absurd (n q)

  pub too_many_threes : depth ≡ 8 → measured (length s) (length_expr 7 (drop at s)) ≡ Err (6, at + 7)
  too_many_threes e = go (rw (← count) at (by_threes 7 (drop at s)))
    where
      go : ByThrees 7 (drop at s) depth → measured (length s) (length_expr 7 (drop at s)) ≡ Err (6, at + 7)
      go (few l i is) = absurd (omega arith)
      go (many q i is) = rw (is, drop-drop) (measured_wrong s 6 (at + 7) (omega (arith, length-drop at s)))

-- what the code was told of a length
pub record ToldLength (s : List ℕ) (x : Taken ℕ) (v e : ℕ) : Type 0 where
  pub exact : ℕ
  pub is : x ≡ taken exact (drop e s)
  pub held : v ≡ min exact 65537
  pub inside : e ≤ length s

-- a length is spelled by the bytes that it was read from, so that those left begin where these end
told : (s : List ℕ) (p : ℕ) (x : Taken ℕ) (v e : ℕ) → p ≤ length s
    → ((n : ℕ) (t : List ℕ) → x ≡ taken n t → SplitOff (SpellsLength 7 n) (drop p s) t) → measured (length s) x ≡ found v e → ToldLength s x v e
told s p (taken n t) v e h split m =
    let o = split n t refl in
    let same_length : length_to (min n 65537) (length s - length t) ≡ length_to v e = cc in
    let place : length s - length t ≡ e = ap (λ (l : Length). l.end) same_length in
    let size = split_size s p o.front t o.is in
    let same : p + length o.front ≡ e = omega arith in
    record {
      exact = n;
      is = ap (taken n) (split_rest s p o.front t o.is ∙ ap (λ (k : ℕ). drop k s) same);
      held = sym (ap (λ (l : Length). l.value) same_length);
      inside = omega arith;
    }
told s p cut_off v e h split m = impossible (cc)
told s p (failed w t) v e h split m = impossible (cc)

module _ (s : List ℕ) (p v e : ℕ) (stream : Bytes s) (inside : p ≤ length s) where
  pub told_length : measured (length s) (length_expr 7 (drop p s)) ≡ found v e → ToldLength s (length_expr 7 (drop p s)) v e
  told_length m = told s p (length_expr 7 (drop p s)) v e inside (λ n t q. length_taken 7 (drop p s) n t (bytes_drop p s stream) q) m

  pub told_plain : measured (length s) (plain (drop p s)) ≡ found v e → ToldLength s (plain (drop p s)) v e
  told_plain m = told s p (plain (drop p s)) v e inside (go (drop p s) (bytes_drop p s stream)) m
    where
      go : (l : List ℕ) → Bytes l → (n : ℕ) (t : List ℕ) → plain l ≡ taken n t → SplitOff (SpellsLength 7 n) l t
      go [] b n t q = impossible (cc)
      go (c ∷ l) b n t q = plain_taken 7 c l n t b.0 q

-- the bytes of a length that was told are those of the exact one
pub told_bytes : (s : List ℕ) (v e : ℕ) (x : Taken ℕ) → length s ≤ 65536 → ToldLength s x v e → take_bytes v (drop e s) ≡ and_then x take_bytes
told_bytes s v e x h t =
    let size = length-drop e s in
    ap (λ (n : ℕ). take_bytes n (drop e s)) t.held
    ∙ sym (take_held t.exact (drop e s) (omega arith))
    ∙ sym (ap (λ (y : Taken ℕ). and_then y take_bytes) t.is)

-- and serves as well as the exact one
pub told_around : (s : List ℕ) (depth v e : ℕ) (x : Taken ℕ) → length s ≤ 65536 → ToldLength s x v e
    → measured (length s) (around depth (taken v (drop e s))) ≡ measured (length s) (around depth x)
told_around s depth v e x h t =
    let size = length-drop e s in
    sym
    (ap (λ (y : Taken ℕ). measured (length s) (around depth y)) t.is
    ∙ around_held depth t.exact (drop e s) (length s) (omega arith)
    ∙ ap (λ (n : ℕ). measured (length s) (around depth (taken n (drop e s)))) (sym t.held))

-- the bytes of a generic array whose 03 is at a place, by the length behind it: a small integer, or one or two bytes
module _ (s : List ℕ) (at : ℕ) (inside : at + 3 < length s) where
  abbrev Gives : ℕ → ℕ → Type 0
  Gives size e = take_bytes size (drop e s) ≡ and_then (length_expr 7 (drop (suc at) s)) take_bytes

  behind : ByteAt s (at + 1) (get_or s (at + 1) 0)
  behind = record { inside = omega arith; is = refl }

  no_array : (get_or s (at + 1) 0 ≡ 0x03 → ⊥) → length_expr 7 (drop (suc at) s) ≡ plain (drop (at + 1) s)
  unfolding length_expr
  no_array other = rw (← add-one at, first_left s (at + 1) (omega arith), ne_eqb (get_or s (at + 1) 0) 0x03 other)

  pub array_int : 0x80 ≤ get_or s (at + 1) 0 → get_or s (at + 1) 0 < 0xC0 → Gives (get_or s (at + 1) 0 - 0x80) (at + 2)
  array_int h l =
      let two : at + 1 + 1 ≡ at + 2 = omega arith in rw (no_array (λ q. omega arith), plain_small s (at + 1) _ behind h l, two)

  -- behind a byte C1 or C2, the number of the bytes that follow
  of_bytes : (n v e : ℕ) → get_or s (at + 1) 0 ≡ 0xC0 + n → e ≡ at + 2 + n → e ≤ length s → natural 0 (take n (drop (at + 2) s)) ≡ v → Gives v e
  of_bytes n v e h end l is =
      let size : get_or s (at + 1) 0 - 0xC0 ≡ n = omega arith in
      let two : at + 1 + 1 ≡ at + 2 = omega arith in
      rw (no_array (λ q. omega arith), plain_bytes s (at + 1) _ behind (omega arith), size, two, take_there s (at + 2) n (omega arith) (omega arith), is, ← end)

  pub array_one : get_or s (at + 1) 0 ≡ 0xC1 → Gives (get_or s (at + 2) 0) (at + 3)
  unfolding natural
  array_one h =
      of_bytes 1 (get_or s (at + 2) 0) (at + 3) (omega arith) (omega arith) (omega arith) (rw (first_left s (at + 2) (omega arith)) (omega arith))

  pub array_two : (size : ℕ) → size ≡ get_or s (at + 2) 0 * 256 + get_or s (at + 3) 0 → get_or s (at + 1) 0 ≡ 0xC2 → Gives size (at + 4)
  unfolding natural
  array_two size is h =
      let next : at + 2 + 1 ≡ at + 3 = omega arith in
      of_bytes 2 size (at + 4) (omega arith) (omega arith) (omega arith)
      (rw (first_left s (at + 2) (omega arith), next, first_left s (at + 3) (omega arith), is) (omega arith))

pub ruleset short_lengths = (array_int, array_one)

-- where there is no length: the stream ends, or what stands there is refused
abbrev pub NoLength : Told → Type 0
NoLength (Ok (Some l)) = ⊥
NoLength (Ok None) = Unit {0}
NoLength (Err r) = Unit {0}

told_refused : (end : ℕ) (x : Taken ℕ) → NoLength (measured end x) → Refused x
told_refused end (taken n t) u = u
told_refused end cut_off u = tt
told_refused end (failed w t) u = tt

pub around_told : (end k : ℕ) (x : Taken ℕ) (r : Told) → NoLength r → measured end x ≡ r → measured end (around k x) ≡ r
around_told end k x r u m = ap (measured end) (around_refused k x (told_refused end x (rw (← m) at u))) ∙ m

abbrev pub refusal_token : (r : Told) → NoLength r → Result Token (ℕ × ℕ)
refusal_token (Ok (Some l)) u = absurd u
refusal_token (Ok None) u = Ok Unfinished
refusal_token (Err r) u = Err r

pub array_told : (q end : ℕ) (x : Taken ℕ) (r : Told) (u : NoLength r) → measured end x ≡ r
    → shown_atom q end (and_then (and_then x take_bytes) as_array) ≡ refusal_token r u
array_told q end x (Ok (Some l)) u m = absurd u
array_told q end (taken n t) (Ok None) u m = impossible (cc)
array_told q end cut_off (Ok None) u m = refl
array_told q end (failed v t) (Ok None) u m = impossible (cc)
array_told q end (taken n t) (Err r) u m = impossible (cc)
array_told q end cut_off (Err r) u m = impossible (cc)
array_told q end (failed v t) (Err r) u m = let same : ◌≡◌ {A = ℕ × ℕ} (v, end - length t) r = cc in rw same

-- Markers, from place to place

module _ (s : List ℕ) (p m : ℕ) where
  pub marker_end : p ≡ length s → marker m (drop p s) ≡ cut_off
  unfolding marker
  marker_end h = rw (none_left s p (omega arith))

  pub marker_more : p < length s → get_or s p 0 ≡ 0xFF → marker m (drop p s) ≡ marker (m + get_or s p 0) (drop (p + 1) s)
  unfolding marker
  marker_more h e = rw (first_left s p h, e)

  pub marker_last : p < length s → (get_or s p 0 ≡ 0xFF → ⊥) → marker m (drop p s) ≡ taken (m + get_or s p 0) (drop (p + 1) s)
  unfolding marker
  marker_last h e = rw (first_left s p h, ne_eqb (get_or s p 0) 0xFF e)

pub ruleset markers = (marker_end, marker_more, marker_last)

-- Atoms as the code gives them

module _ (s : List ℕ) (p : ℕ) where
  -- an array whose bytes begin at a place
  pub shown_array : (body size : ℕ) → body ≤ length s → size ≤ length s - body
      → shown_atom p (length s) (and_then (take_bytes size (drop body s)) as_array) ≡ Ok (Whole Array body (body + size))
  shown_array body size h k =
      let bytes : length (take size (drop body s)) ≡ size = simp (length-take, length-drop) (omega arith) in
      let first : body + size - size ≡ body = omega arith in
      rw (take_there s body size h k, left_at s (body + size) (omega arith), bytes, first)

  pub shown_short : (body size : ℕ) → length s - body < size
      → shown_atom p (length s) (and_then (take_bytes size (drop body s)) as_array) ≡ Ok Unfinished
  shown_short body size k = rw (take_short s body size k)

  -- a reference at p whose marker is m, with the name byte at q
  module _ (m q : ℕ) where
    pub shown_nameless : q ≡ length s → shown_atom p (length s) (name (drop p s) m (drop q s)) ≡ Ok Unfinished
    unfolding name
    shown_nameless h = rw (none_left s q (omega arith))

    pub shown_above : p ≤ length s → q < length s → 65535 < m → shown_atom p (length s) (name (drop p s) m (drop q s)) ≡ Err (7, p)
    unfolding name
    shown_above h k l = rw (first_left s q k, lt-ltb 65535 m l) (ap (λ (q : ℕ). Err (7, q)) (left_at s p h))

    pub shown_reference : q < length s → m ≤ 65535 → shown_atom p (length s) (name (drop p s) m (drop q s)) ≡ Ok (Whole Reference p (q + 1))
    unfolding name
    shown_reference k l = rw (first_left s q k, le-ltb 65535 m l) (ap (λ (e : ℕ). Ok (Whole Reference p e)) (left_at s (q + 1) (omega arith)))

pub ruleset shown_atoms = (shown_array, shown_short, shown_nameless, shown_above, shown_reference)
