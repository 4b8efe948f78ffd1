-- Bytes that spell expressions, cut off: a proper prefix of the bytes of an atom is cut off, and a stream that is a prefix of bytes that spell
-- is read as the expressions that are whole in it, or refused by 2 at the first byte of the one that is not.
-- Document 01, refusal 2: "stream ends inside an atom or an open form"; document 02, §4. Assumes nothing.
use Prim.Native.Nat.{ℕ, zero, suc, ◌+◌, ◌-◌, ◌/◌, ◌%◌, ◌≤◌, ◌<◌}
use mathlib.Core.Path.{◌≡◌, refl, sym, ap, ◌∙◌, subst}
use mathlib.Core.Logic.{◌⊎◌, inl, inr}
use mathlib.Core.List.{List, [], ◌∷◌, ◌++◌, append_assoc, append-nil}
use lib.ListN.{length, length-append, replicate}
use borrow.Author.Tests.{lt-leb, ne_eqb}
use native.Mathlib.Omega.{arith}
use Rattle.spec.specs.Expr.{Atom, nil, array, int, ref, Expr, atom, form, Exprs, none, more, append, rows, rows_all, depth, deepest, marker_bytes}
use Rattle.spec.specs.Reading.{cut_off, and_then, take_bytes, length_expr, marker, name, read_atom, Token, unfinished, token, tokens, right, wrong, began, check}
use Rattle.laws.specs.Grammar.{SpellsLength, as_int, as_small, as_generic, SpellsArray, small, generic, SpellsAtom, Spells, SpellsAll}
use Rattle.laws.proofs.Canonical.{Mark, short, long, marker_bytes_are}
use Rattle.laws.proofs.Spelling.{length_plain, plain_bytes, length_generic, length_spelled, atom_small, atom_generic, atom_short, atom_long, marker_sum, front}
use Rattle.laws.proofs.Reading.{tokens_opening, more_end, expr_tokens, tokens_expr, check_expr}

-- Prefixes

-- s is a prefix of x, and not all of it
abbrev pub ProperPrefix : List ℕ → List ℕ → Type 0
ProperPrefix s x = (b : ℕ) × (t : List ℕ) × (x ≡ s ++ (b ∷ t))

prefix_shorter : (s x : List ℕ) → ProperPrefix s x → length s < length x
prefix_shorter s x (b, t, e) = omega (arith, ap length e ∙ length-append s (b ∷ t))

-- a prefix of two lists joined ends in the first or goes on into the second
prefix_split : (y z s t : List ℕ) → y ++ z ≡ s ++ t → ProperPrefix s y ⊎ ((r : List ℕ) × (s ≡ y ++ r) × (z ≡ r ++ t))
prefix_split [] z s t e = inr (s, refl, e)
prefix_split (a ∷ y) z [] t e = inl (a, y, refl)
prefix_split (a ∷ y) z (c ∷ s) t e = go (prefix_split y z s t (cc))
  where
    same : a ≡ c
    same = cc

    go : ProperPrefix s y ⊎ ((r : List ℕ) × (s ≡ y ++ r) × (z ≡ r ++ t)) → ProperPrefix (c ∷ s) (a ∷ y) ⊎ ((r : List ℕ) × (c ∷ s ≡ a ∷ (y ++ r)) × (z ≡ r ++ t))
    go (inl (b, u, q)) = inl (b, u, cc)
    go (inr (r, q, k)) = inr (r, cc, k)

-- of one byte only the empty list is a proper prefix
none_of_one : (s : List ℕ) (x : ℕ) → ProperPrefix s (x ∷ []) → s ≡ []
none_of_one [] x h = refl
none_of_one (c ∷ s) x h = absurd (omega (arith, prefix_shorter (c ∷ s) (x ∷ []) h))

-- Atoms

take_cut : (n : ℕ) (bs s : List ℕ) → length bs ≡ n → ProperPrefix s bs → take_bytes n s ≡ cut_off
unfolding take_bytes
take_cut n bs s h k = rw (lt-leb n (length s) (omega (arith, prefix_shorter s bs k)))

length_none : (k : ℕ) → length_expr k [] ≡ cut_off
unfolding length_expr
length_none zero = refl
length_none (suc k) = refl

-- a length and the bytes that it is the length of
counted_cut : (k : ℕ) (x ds s : List ℕ) → SpellsLength k (length ds) x → (ProperPrefix s x → length_expr k s ≡ cut_off) → ProperPrefix s (x ++ ds)
    → and_then (length_expr k s) take_bytes ≡ cut_off
counted_cut k x ds s l inner (b, t, h) = go (prefix_split x ds s (b ∷ t) h)
  where
    go : ProperPrefix s x ⊎ ((r : List ℕ) × (s ≡ x ++ r) × (ds ≡ r ++ (b ∷ t))) → and_then (length_expr k s) take_bytes ≡ cut_off
    go (inl p) = rw (inner p)
    go (inr (r, is, p)) = rw (is, length_spelled l r, take_cut (length ds) ds r refl (b, t, p))

length_cut : {k n : ℕ} {x : List ℕ} → SpellsLength k n x → (s : List ℕ) → ProperPrefix s x → length_expr k s ≡ cut_off
length_cut {k} l [] h = length_none k
length_cut (as_int l e) (c ∷ s) h = absurd (omega (arith, prefix_shorter (c ∷ s) _ h, ap length e))
length_cut {k} (as_small ds l q e) (c ∷ s) (b, t, h) =
    let byte : c ≡ 0xC0 + length ds = cc in
    let rest : ds ≡ s ++ (b ∷ t) = cc in
    length_plain k c s (λ z. omega arith) ∙ rw (byte, plain_bytes (length ds) s, take_cut (length ds) ds s refl (b, t, rest))
length_cut (as_generic {k = j} ds x l q e) (c ∷ s) (b, t, h) =
    let byte : c ≡ 0x03 = cc in
    let rest : x ++ ds ≡ s ++ (b ∷ t) = cc in
    rw (byte, length_generic j s, counted_cut j x ds s l (λ p. length_cut l s p) (b, t, rest))

marker_cut : (j m c : ℕ) (s : List ℕ) → ProperPrefix s (replicate j 0xFF ++ (c ∷ [])) → marker m s ≡ cut_off
unfolding marker
marker_cut j m c [] h = refl
marker_cut zero m c (a ∷ s) h = absurd (omega (arith, prefix_shorter (a ∷ s) (c ∷ []) h))
marker_cut (suc j) m c (a ∷ s) (b, t, h) =
    let byte : a ≡ 0xFF = cc in
    let rest : replicate j 0xFF ++ (c ∷ []) ≡ s ++ (b ∷ t) = cc in
    rw byte (marker_cut j (m + 0xFF) c s (b, t, rest))

array_cut : (bs x : List ℕ) → SpellsArray bs x → (c : ℕ) (s : List ℕ) → ProperPrefix (c ∷ s) x → read_atom c s ≡ cut_off
array_cut bs x (small l e) c s (b, t, h) =
    let byte : c ≡ 0xC0 + length bs = cc in
    let rest : bs ≡ s ++ (b ∷ t) = cc in
    rw (byte, atom_small (length bs) s, take_cut (length bs) bs s refl (b, t, rest))
array_cut bs x (generic y l e) c s (b, t, h) =
    let byte : c ≡ 0x03 = cc in
    let rest : y ++ bs ≡ s ++ (b ∷ t) = cc in
    rw (byte, atom_generic s, counted_cut 7 y bs s l (length_cut l s) (b, t, rest))

ref_cut : (m n : ℕ) (x : List ℕ) → 16 ≤ m → x ≡ marker_bytes m ++ (n ∷ []) → (c : ℕ) (s : List ℕ) → ProperPrefix (c ∷ s) x → read_atom c s ≡ cut_off
unfolding name
ref_cut m n x low e c s (b, t, h) = go (marker_bytes_are m) e
  where
    go : {ms : List ℕ} → Mark m ms → x ≡ ms ++ (n ∷ []) → read_atom c s ≡ cut_off
    go (short l) e =
        let byte : c ≡ m = cc in
        let rest : n ∷ [] ≡ s ++ (b ∷ t) = cc in
        rw (byte, none_of_one s n (b, t, rest), atom_short m [] low l)
    go (long l) e =
        let byte : c ≡ 0x7F = cc in
        let j : ℕ = (m - 0x7F) / 0xFF in
        let last : ℕ = (m - 0x7F) % 0xFF in
        rw byte (in_marker j last (omega arith) (prefix_split (replicate j 0xFF ++ (last ∷ [])) (n ∷ []) s (b ∷ t) (cc)))
      where
        in_marker : (j last : ℕ) → last < 0xFF
            → ProperPrefix s (replicate j 0xFF ++ (last ∷ [])) ⊎ ((r : List ℕ) × (s ≡ (replicate j 0xFF ++ (last ∷ [])) ++ r) × (n ∷ [] ≡ r ++ (b ∷ t)))
            → read_atom 0x7F s ≡ cut_off
        in_marker j last k (inl p) = rw (atom_long s, marker_cut j 0x7F last s p)
        in_marker j last k (inr (r, is, p)) =
            let ends : r ≡ [] = none_of_one r n (b, t, p) in
            rw (is, ends, append-nil (replicate j 0xFF ++ (last ∷ [])), atom_long (replicate j 0xFF ++ (last ∷ [])), marker_sum j 0x7F last [] k)

atom_cut : (a : Atom) (x : List ℕ) → SpellsAtom a x → (c : ℕ) (s : List ℕ) → ProperPrefix (c ∷ s) x → read_atom c s ≡ cut_off
atom_cut nil x sp c s h = absurd (omega (arith, prefix_shorter (c ∷ s) x h, ap length sp))
atom_cut (array bs) x sp c s h = array_cut bs x sp c s h
atom_cut (int v) x sp c s h = absurd (omega (arith, prefix_shorter (c ∷ s) x h, ap length sp.1))
atom_cut (ref m n) x sp c s h = ref_cut m n x sp.0 sp.2 c s h

-- Expressions

-- an atom that is cut off, as a token
token_cut : (a : Atom) (x : List ℕ) → SpellsAtom a x → (p c : ℕ) (s : List ℕ) → ProperPrefix (c ∷ s) x → token p c s ≡ unfinished p
unfolding token
token_cut a x sp p c s h =
    let f = front a x sp in
    let byte : f.byte ≡ c = cc (f.is, h.2) in
    rw (ne_eqb c 0x01 (λ e. f.no_form.0 (byte ∙ e)), ne_eqb c 0x02 (λ e. f.no_form.1 (byte ∙ e)), atom_cut a x sp c s h)

tokens_cut : (a : Atom) (x : List ℕ) → SpellsAtom a x → (p c : ℕ) (s : List ℕ) → ProperPrefix (c ∷ s) x
    → tokens p 0 (c ∷ s) ≡ unfinished p ∷ tokens (p + 1) 0 s
unfolding tokens
tokens_cut a x sp p c s h = rw (token_cut a x sp p c s h)

-- a proper prefix of what stands behind a form's 01 is a prefix of the expressions between
within_form : (y s : List ℕ) (b : ℕ) (t : List ℕ) → y ++ (0x02 ∷ []) ≡ s ++ (b ∷ t) → (u : List ℕ) × (y ≡ s ++ u)
within_form y s b t e = go (prefix_split y (0x02 ∷ []) s (b ∷ t) e)
  where
    go : ProperPrefix s y ⊎ ((r : List ℕ) × (s ≡ y ++ r) × (0x02 ∷ [] ≡ r ++ (b ∷ t))) → (u : List ℕ) × (y ≡ s ++ u)
    go (inl (c, u, q)) = (c ∷ u, q)
    go (inr (r, is, p)) = ([], sym (append-nil s ∙ is ∙ rw (none_of_one r 0x02 (b, t, p)) (append-nil y)))

module _ (room : ℕ) where
  -- nothing more, in an open form
  ends_open : (from p d n : ℕ) → check from room (tokens p 0 []) (d + 1) n ≡ wrong 2 from
  unfolding check tokens
  ends_open from p d n = rw (ne_eqb (d + 1) 0 (λ e. omega arith))

  began_open : (from p d : ℕ) → began (d + 1) from p ≡ from
  began_open from p d = rw (ne_eqb (d + 1) 0 (λ e. omega arith))

  -- in an open form, an expression that is cut off, or one that is whole and then what is left
  open_on : (e : Expr) (y z : List ℕ) (sp : Spells e y) (s t : List ℕ) (from p d n : ℕ)
      → (ProperPrefix s y → check from room (tokens p 0 s) (d + 1) n ≡ wrong 2 (began (d + 1) from p))
      → ((ts : List Token) → check from room (expr_tokens e y sp p ts) (d + 1) n ≡ check from room ts (d + 1) (n + rows e))
      → ((u : List ℕ) → z ≡ u ++ t → check from room (tokens (p + length y) 0 u) (d + 1) (n + rows e) ≡ wrong 2 from)
      → ProperPrefix s y ⊎ ((u : List ℕ) × (s ≡ y ++ u) × (z ≡ u ++ t)) → check from room (tokens p 0 s) (d + 1) n ≡ wrong 2 from
  open_on e y z sp s t from p d n cut pass on (inl h) = cut h ∙ ap (wrong 2) (began_open from p d)
  open_on e y z sp s t from p d n cut pass on (inr (u, is, h)) = rw (is, tokens_expr e y sp p u) (pass (tokens (p + length y) 0 u) ∙ on u h)

  mutual
    unfolding check rows depth

    -- an expression that is begun and not whole
    check_cut : (e : Expr) (x : List ℕ) → Spells e x → (c : ℕ) (s : List ℕ) → ProperPrefix (c ∷ s) x → (from p d n : ℕ) → depth e + d ≤ 64 → n + rows e ≤ room
        → check from room (tokens p 0 (c ∷ s)) d n ≡ wrong 2 (began d from p)
    check_cut (atom a) x sp c s h from p d n k r = rw (tokens_cut a x sp p c s h)
    check_cut (form es) x sp c s (b, t, h) from p d n k r =
        let byte : c ≡ 0x01 = cc sp.1 in
        let rest : sp.0 ++ (0x02 ∷ []) ≡ s ++ (b ∷ t) = cc sp.1 in
        let inner = within_form sp.0 s b t rest in
        rw (byte, tokens_opening p s, lt-leb 64 d (omega arith), lt-leb room n (omega arith))
        (check_cut_list es sp.0 sp.2 s inner.0 inner.1 (began d from p) (p + 1) d (n + 1) (omega arith) (omega arith))

    -- expressions of an open form, of which not all may be there
    check_cut_list : (es : Exprs) (x : List ℕ) → SpellsAll es x → (s t : List ℕ) → x ≡ s ++ t → (from p d n : ℕ) → deepest es + (d + 1) ≤ 64
        → n + rows_all es ≤ room → check from room (tokens p 0 s) (d + 1) n ≡ wrong 2 from
    check_cut_list none x sp [] t h from p d n k r = ends_open from p d n
    check_cut_list none x sp (c ∷ s) t h from p d n k r = absurd (omega (arith, ap length (sym sp ∙ h)))
    check_cut_list (more e es) x sp [] t h from p d n k r = ends_open from p d n
    check_cut_list (more e es) x sp (c ∷ s) t h from p d n k r =
        open_on e sp.0 sp.1 sp.3 (c ∷ s) t from p d n
        (λ g. check_cut e sp.0 sp.3 c s g from p (d + 1) n (omega arith) (omega arith))
        (λ ts. check_expr room e sp.0 sp.3 from p (d + 1) n ts (omega arith) (omega arith))
        (λ u g. check_cut_list es sp.1 sp.4 u t g from (p + length sp.0) d (n + rows e) (omega arith) (omega arith))
        (prefix_split sp.0 sp.1 (c ∷ s) t (sym sp.2 ∙ h))

-- Streams

-- Of bytes that spell expressions, those of s are read from place p on, with n rows taken: `first` spells the expressions that are whole in
-- s, and `left` with t those that are left; and at the end of s nothing is open, or an expression is, which begins behind `first`.
pub record Parted (room from p n : ℕ) (es : Exprs) (s t : List ℕ) : Type 0 where
  pub es_first : Exprs
  pub es_left : Exprs
  pub are : es ≡ append es_first es_left
  pub first : List ℕ
  pub left : List ℕ
  pub is : s ≡ first ++ left
  pub spells_first : SpellsAll es_first first
  pub spells_left : SpellsAll es_left (left ++ t)
  pub verdict : ((left ≡ []) × (check from room (tokens p 0 s) 0 n ≡ right))
      ⊎ ((0 < length left) × (check from room (tokens p 0 s) 0 n ≡ wrong 2 (p + length first)))

module _ (room : ℕ) where
  -- nothing of the expressions that are left is there
  none_there : (from p n : ℕ) (es : Exprs) (x t : List ℕ) → SpellsAll es x → x ≡ t → Parted room from p n es [] t
  unfolding append check tokens
  none_there from p n es x t sp h = record {
    es_first = none;
    es_left = es;
    are = refl;
    first = [];
    left = [];
    is = refl;
    spells_first = refl;
    spells_left = subst (SpellsAll es) h sp;
    verdict = inl (refl, refl);
  }

  -- the first of them is cut off
  first_cut : (from p n : ℕ) (e : Expr) (es : Exprs) (x : List ℕ) (c : ℕ) (s t : List ℕ) → SpellsAll (more e es) x → x ≡ (c ∷ s) ++ t
      → check from room (tokens p 0 (c ∷ s)) 0 n ≡ wrong 2 p → Parted room from p n (more e es) (c ∷ s) t
  unfolding append
  first_cut from p n e es x c s t sp h k = record {
    es_first = none;
    es_left = more e es;
    are = refl;
    first = [];
    left = c ∷ s;
    is = refl;
    spells_first = refl;
    spells_left = subst (SpellsAll (more e es)) h sp;
    verdict = inr (omega arith, k ∙ ap (wrong 2) (omega arith));
  }

  -- the first of them is whole
  first_whole : (from p n : ℕ) (e : Expr) (es : Exprs) (y u s t : List ℕ) (sp : Spells e y) → s ≡ y ++ u → depth e ≤ 64 → n + rows e ≤ room
      → Parted room from (p + length y) (n + rows e) es u t → Parted room from p n (more e es) s t
  unfolding append
  first_whole from p n e es y u s t sp is h k r =
      let pass : check from room (tokens p 0 s) 0 n ≡ check from room (tokens (p + length y) 0 u) 0 (n + rows e) =
      rw (is, tokens_expr e y sp p u) (check_expr room e y sp from p 0 n (tokens (p + length y) 0 u) (omega arith) k) in
      record {
        es_first = more e r.es_first;
        es_left = r.es_left;
        are = ap (more e) r.are;
        first = y ++ r.first;
        left = r.left;
        is = is ∙ ap (λ (z : List ℕ). y ++ z) r.is ∙ sym (append_assoc y r.first r.left);
        spells_first = (y, r.first, refl, sp, r.spells_first);
        spells_left = r.spells_left;
        verdict = go pass r.verdict;
      }
    where
      go : check from room (tokens p 0 s) 0 n ≡ check from room (tokens (p + length y) 0 u) 0 (n + rows e)
          → ((r.left ≡ []) × (check from room (tokens (p + length y) 0 u) 0 (n + rows e) ≡ right))
          ⊎ ((0 < length r.left) × (check from room (tokens (p + length y) 0 u) 0 (n + rows e) ≡ wrong 2 (p + length y + length r.first)))
          → ((r.left ≡ []) × (check from room (tokens p 0 s) 0 n ≡ right))
          ⊎ ((0 < length r.left) × (check from room (tokens p 0 s) 0 n ≡ wrong 2 (p + length (y ++ r.first))))
      go pass (inl (none_left, v)) = inl (none_left, pass ∙ v)
      go pass (inr (some_left, v)) = inr (some_left, pass ∙ v ∙ ap (wrong 2) (more_end y r.first p))

  -- the first of them is not whole
  first_begun : (from p n : ℕ) (e : Expr) (es : Exprs) (x s t : List ℕ) (sp : SpellsAll (more e es) x) → x ≡ s ++ t → depth e ≤ 64 → n + rows e ≤ room
      → ProperPrefix s sp.0 → Parted room from p n (more e es) s t
  first_begun from p n e es x [] t sp h k r g = none_there from p n (more e es) x t sp h
  first_begun from p n e es x (c ∷ s) t sp h k r g =
      first_cut from p n e es x c s t sp h (check_cut room e sp.0 sp.3 c s g from p 0 n (omega arith) (omega arith))

  no_more : (from p n : ℕ) (s t : List ℕ) → [] ≡ s ++ t → Parted room from p n none s t
  no_more from p n [] t h = none_there from p n none [] t refl h
  no_more from p n (c ∷ s) t h = absurd (omega (arith, ap length h))

  pub parted : (es : Exprs) (x : List ℕ) → SpellsAll es x → (s t : List ℕ) → x ≡ s ++ t → (from p n : ℕ) → deepest es ≤ 64 → n + rows_all es ≤ room
      → Parted room from p n es s t
  unfolding rows depth
  parted none x sp s t h from p n k r = no_more from p n s t (sym sp ∙ h)
  parted (more e es) x sp s t h from p n k r =
      go (λ u g. parted es sp.1 sp.4 u t g from (p + length sp.0) (n + rows e) (omega arith) (omega arith))
      (prefix_split sp.0 sp.1 s t (sym sp.2 ∙ h))
    where
      go : ((u : List ℕ) → sp.1 ≡ u ++ t → Parted room from (p + length sp.0) (n + rows e) es u t)
          → ProperPrefix s sp.0 ⊎ ((u : List ℕ) × (s ≡ sp.0 ++ u) × (sp.1 ≡ u ++ t)) → Parted room from p n (more e es) s t
      go on (inl g) = first_begun from p n e es x s t sp h (omega arith) (omega arith) g
      go on (inr (u, is, g)) = first_whole from p n e es sp.0 u s t sp.3 is (omega arith) (omega arith) (on u g)
