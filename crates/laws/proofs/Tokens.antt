-- Laws of `tokens` and `check`: how the tokens of a stream lie in it, and what holds of tokens that are right.
-- Document 01: "Bytes to expressions", refusals 2 to 7. Assumes nothing.
use Prim.Native.Nat.{ℕ, zero, suc, ◌+◌, ◌-◌, ◌≤◌, ◌<◌}
use mathlib.Core.Path.{◌≡◌, refl, sym, ap, ◌∙◌, subst}
use mathlib.Core.List.{List, [], ◌∷◌}
use mathlib.Core.Bool.{Bool, true, false}
use lib.ListN.{length, length-append}
use lib.Dec.{leb, eqb}
use borrow.Author.Tests.{leb-true, leb-false, eqb-true, eqb-false, lt-leb}
use native.Mathlib.Omega.{arith}
use Rattle.spec.specs.Expr.{when◌then◌else◌, Atom, atom_bytes}
use Rattle.spec.specs.Reading.{Taken, taken, cut_off, failed, read_atom, Token, opening, closing, whole, unfinished, bad, atom_token, token, further, tokens, Verdict, right, wrong, began, check}
use Rattle.laws.specs.Demands.{Bytes}
use Rattle.laws.proofs.Basics.{impossible, by_test}
use Rattle.laws.proofs.Fits.{bytes_front, Fits}
use Rattle.laws.proofs.Spelling.{front, atom_taken}
use Rattle.laws.proofs.Shortest.{spelled_fits}
use Rattle.laws.proofs.Atoms.{off_atom}

-- tokens that `check` finds right, with d forms open and n of the rows taken
pub data Right (room : ℕ) : List Token → ℕ → ℕ → Type 0 where
  at_end : {n : ℕ} → Right room [] 0 n
  opens : {ts : List Token} {q d n : ℕ} → d < 64 → n < room → Right room ts (d + 1) (n + 1) → Right room (opening q ∷ ts) d n
  closes : {ts : List Token} {q d n : ℕ} → Right room ts d n → Right room (closing q ∷ ts) (suc d) n
  stands : {ts : List Token} {a : Atom} {q e d n : ℕ} → n < room → Right room ts d (n + 1) → Right room (whole a q e ∷ ts) d n

-- a verdict is right only by way of the branch that does not refuse
not_refused : (b : Bool) (w p : ℕ) (v : Verdict) → (when b then wrong w p else v) ≡ right → (b ≡ false) × (v ≡ right)
not_refused true w p v h = impossible (cc)
not_refused false w p v h = (refl, h)

pub closes_some : {room : ℕ} {ts : List Token} {q : ℕ} (d : ℕ) {n : ℕ} → (d ≡ 0 → ⊥) → Right room ts (d - 1) n → Right room (closing q ∷ ts) d n
closes_some zero some r = absurd (some refl)
closes_some (suc d) some r = let back : suc d - 1 ≡ d = omega arith in closes (rw back at r)

pub right_tokens : (from room : ℕ) (ts : List Token) (d n : ℕ) → check from room ts d n ≡ right → Right room ts d n
unfolding check
right_tokens from room [] d n c = by_test (λ (v : Verdict). v ≡ right → Right room [] d n) (eqb d 0) (λ e k. rw (eqb-true d 0 e) at_end) (λ e k. impossible (cc)) c
right_tokens from room (opening p ∷ ts) d n c =
    let a = not_refused (leb 64 d) 6 p _ c in
    let b = not_refused (leb room n) 8 p _ a.1 in
    opens (leb-false 64 d a.0) (leb-false room n b.0) (right_tokens (began d from p) room ts (d + 1) (n + 1) b.1)
right_tokens from room (closing p ∷ ts) d n c =
    let a = not_refused (eqb d 0) 3 p _ c in
    closes_some d (eqb-false d 0 a.0) (right_tokens from room ts (d - 1) n a.1)
right_tokens from room (whole a p e ∷ ts) d n c =
    let b = not_refused (leb room n) 8 p _ c in stands (leb-false room n b.0) (right_tokens from room ts d (n + 1) b.1)
right_tokens from room (unfinished p ∷ ts) d n c = impossible (cc)
right_tokens from room (bad w p ∷ ts) d n c = impossible (cc)

abbrev NoRefusal : Token → Type 0
NoRefusal (opening q) = Unit {0}
NoRefusal (closing q) = Unit {0}
NoRefusal (whole a q e) = Unit {0}
NoRefusal (unfinished q) = ⊥
NoRefusal (bad w q) = ⊥

-- what holds where the first of them is this one
module _ {room : ℕ} where
  pub right_end : {d n : ℕ} → Right room [] d n → d ≡ 0
  right_end at_end = refl

  pub right_opening : {ts : List Token} {q d n : ℕ} → Right room (opening q ∷ ts) d n → (d < 64) × (n < room) × Right room ts (d + 1) (n + 1)
  right_opening (opens h k r) = (h, k, r)

  pub right_closing : {ts : List Token} {q d n : ℕ} → Right room (closing q ∷ ts) d n → (0 < d) × Right room ts (d - 1) n
  right_closing (closes {d = d} r) = let back : suc d - 1 ≡ d = omega arith in (omega arith, rw back r)

  pub right_whole : {ts : List Token} {a : Atom} {q e d n : ℕ} → Right room (whole a q e ∷ ts) d n → (n < room) × Right room ts d (n + 1)
  right_whole (stands k r) = (k, r)

  -- it is no refusal
  pub right_first : {t : Token} {ts : List Token} {d n : ℕ} → Right room (t ∷ ts) d n → NoRefusal t
  right_first (opens h k r) = tt
  right_first (closes r) = tt
  right_first (stands k r) = tt

-- One token

-- which bytes it comes from
pub data From (p b : ℕ) (s : List ℕ) : Token → Type 0 where
  from_01 : b ≡ 0x01 → From p b s (opening p)
  from_02 : b ≡ 0x02 → From p b s (closing p)
  from_atom : (a : Atom) (t : List ℕ) → read_atom b s ≡ taken a t → From p b s (whole a p (p + 1 + length s - length t))
  from_cut_off : read_atom b s ≡ cut_off → From p b s (unfinished p)
  from_bad : (w : ℕ) (t : List ℕ) → read_atom b s ≡ failed w t → From p b s (bad w (p + 1 + length s - length t))

pub token_from : (p b : ℕ) (s : List ℕ) → From p b s (token p b s)
unfolding token
token_from p b s =
    by_test (From p b s) (eqb b 0x01) (λ e. from_01 (eqb-true b 0x01 e)) λ e.
    by_test (From p b s) (eqb b 0x02) (λ e. from_02 (eqb-true b 0x02 e)) λ e. go (read_atom b s) refl
  where
    go : (x : Taken Atom) → read_atom b s ≡ x → From p b s (atom_token p (p + 1 + length s) x)
    go (taken a t) q = from_atom a t q
    go cut_off q = from_cut_off q
    go (failed w t) q = from_bad w t q

-- Where tokens lie

-- Tokens that lie one after the other from place p on in a stream that ends at `end`. An atom fits, and takes no fewer bytes than its
-- canonical ones. Of what follows an unfinished or a bad one nothing is said.
abbrev pub Laid : ℕ → List Token → ℕ → Type 0
Laid p [] end = p ≤ end
Laid p (opening q ∷ ts) end = (p ≤ q) × Laid (q + 1) ts end
Laid p (closing q ∷ ts) end = (p ≤ q) × Laid (q + 1) ts end
Laid p (whole a q e ∷ ts) end = (p ≤ q) × (q < e) × (q + length (atom_bytes a) ≤ e) × Fits a × Laid e ts end
Laid p (unfinished q ∷ ts) end = (p ≤ q) × (q < end)
Laid p (bad w q ∷ ts) end = (p ≤ q) × (q < end) × (4 ≤ w) × (w ≤ 7)

laid_at : (p q : ℕ) (ts : List Token) (end end' : ℕ) → p ≡ q → end ≡ end' → Laid p ts end → Laid q ts end'
laid_at p q ts end end' e e' l = subst (λ (x : ℕ). Laid x ts end') e (subst (λ (x : ℕ). Laid p ts x) e' l)

-- a first token, with those of the bytes behind it
laid_first : (p b : ℕ) (s : List ℕ) → b < 256 → Bytes s → ((k : ℕ) → k ≤ length s → Laid (p + 1 + k) (tokens (p + 1) k s) (p + 1 + length s))
    → Laid p (token p b s ∷ tokens (p + 1) (further (token p b s)) s) (p + 1 + length s)
laid_first p b s h bs rest = go (token_from p b s)
  where
    end : ℕ
    end = p + 1 + length s

    next : Laid (p + 1) (tokens (p + 1) 0 s) end
    next = laid_at (p + 1 + 0) (p + 1) (tokens (p + 1) 0 s) end end (omega arith) refl (rest 0 (omega arith))

    go : {x : Token} → From p b s x → Laid p (x ∷ tokens (p + 1) (further x) s) end
    go (from_01 e) = (omega arith, next)
    go (from_02 e) = (omega arith, next)
    go (from_atom a t e) =
        let split = atom_taken b s a t h bs e in
        let fits = spelled_fits a split.front (bytes_front split.front t (subst Bytes split.is (h, bs))) split.holds in
        let some = ap length (front a split.front split.holds).is in
        let size : length split.front + length t ≡ suc (length s) = sym (length-append split.front t) ∙ ap length (sym split.is) in
        let k : ℕ = end - length t - p - 1 in (
          omega arith,
          omega arith,
          omega (arith, fits.1),
          fits.0,
          laid_at (p + 1 + k) (end - length t) (tokens (p + 1) k s) end end (omega arith) refl (rest k (omega arith)),
        )
    go (from_cut_off e) = omega arith
    go (from_bad w t e) = let off = rw e at (off_atom b s) in omega arith

pub tokens_laid : (s : List ℕ) (p k : ℕ) → Bytes s → k ≤ length s → Laid (p + k) (tokens p k s) (p + length s)
unfolding tokens
tokens_laid [] p zero bs h = omega arith
tokens_laid [] p (suc k) bs h = omega arith
tokens_laid (b ∷ s) p zero bs h =
    laid_at p (p + 0) (token p b s ∷ tokens (p + 1) (further (token p b s)) s) (p + 1 + length s) (p + suc (length s)) (omega arith) (omega arith)
    (laid_first p b s bs.0 bs.1 (λ k l. tokens_laid s (p + 1) k bs.1 l))
tokens_laid (b ∷ s) p (suc k) bs h =
    laid_at (p + 1 + k) (p + suc k) (tokens (p + 1) k s) (p + 1 + length s) (p + suc (length s)) (omega arith) (omega arith)
    (tokens_laid s (p + 1) k bs.1 (omega arith))

-- Refusals

laid_inside : (p : ℕ) (ts : List Token) (end : ℕ) → Laid p ts end → p ≤ end
laid_inside p [] end l = l
laid_inside p (opening q ∷ ts) end l = omega (arith, l.0, laid_inside (q + 1) ts end l.1)
laid_inside p (closing q ∷ ts) end l = omega (arith, l.0, laid_inside (q + 1) ts end l.1)
laid_inside p (whole a q e ∷ ts) end l = omega (arith, l.0, l.1, laid_inside e ts end l.4)
laid_inside p (unfinished q ∷ ts) end l = omega (arith, l.0, l.1)
laid_inside p (bad w q ∷ ts) end l = omega (arith, l.0, l.1)

-- A refusal has one of reading's numbers, and its place is a byte between two. With k rows there is a row for each token: then it is not 8.
abbrev pub RefusalInside : ℕ → ℕ → ℕ → ℕ → Verdict → Type 0
RefusalInside low end room k right = Unit {0}
RefusalInside low end room k (wrong w p) = (1 ≤ w) × (w ≤ 8) × (w ≤ 7 + (k - room)) × (low ≤ p) × (p < end)

-- the top-level expression of a token at place q begins between the same two
began_inside : (low end from q d : ℕ) → low ≤ from → (0 < d → from < end) → low ≤ q → q < end → (low ≤ began d from q) × (began d from q < end)
began_inside low end from q d a b c e =
    by_test (λ (x : ℕ). (low ≤ x) × (x < end)) (eqb d 0) (λ t. (c, e)) (λ t. (a, b (let some = eqb-false d 0 t in omega arith)))

module _ (low end room k : ℕ) where
  pub check_refusal : (ts : List Token) (from p d n : ℕ) → low ≤ from → (0 < d → from < end) → low ≤ p → Laid p ts end → n + length ts ≤ k
      → RefusalInside low end room k (check from room ts d n)
  unfolding check
  check_refusal [] from p d n a b c l h =
      by_test (RefusalInside low end room k) (eqb d 0) (λ e. tt) (λ e. let some = eqb-false d 0 e in let inside = b (omega arith) in omega arith)
  check_refusal (opening q ∷ ts) from p d n a b c l h =
      let here = laid_inside (q + 1) ts end l.1 in
      let start = began_inside low end from q d a b (omega (arith, l.0)) (omega arith) in
      by_test (RefusalInside low end room k) (leb 64 d) (λ e. omega (arith, l.0)) λ e.
      by_test (RefusalInside low end room k) (leb room n) (λ e. omega (arith, l.0, leb-true room n e)) λ e.
      check_refusal ts (began d from q) (q + 1) (d + 1) (n + 1) start.0 (λ z. start.1) (omega (arith, l.0)) l.1 (omega arith)
  check_refusal (closing q ∷ ts) from p d n a b c l h =
      let here = laid_inside (q + 1) ts end l.1 in
      by_test (RefusalInside low end room k) (eqb d 0) (λ e. omega (arith, l.0)) λ e.
      check_refusal ts from (q + 1) (d - 1) n a (λ z. b (omega arith)) (omega (arith, l.0)) l.1 (omega arith)
  check_refusal (whole x q e ∷ ts) from p d n a b c l h =
      let here = laid_inside e ts end l.4 in
      by_test (RefusalInside low end room k) (leb room n) (λ t. omega (arith, leb-true room n t, l.0, l.1)) λ t.
      check_refusal ts from e d (n + 1) a b (omega (arith, l.0, l.1)) l.4 (omega arith)
  check_refusal (unfinished q ∷ ts) from p d n a b c l h =
      let start = began_inside low end from q d a b (omega (arith, l.0)) l.1 in omega (arith, start.0, start.1)
  check_refusal (bad w q ∷ ts) from p d n a b c l h = omega (arith, l.0, l.1, l.2, l.3)

-- Rows enough

pub tokens_few : (s : List ℕ) (p k : ℕ) → length (tokens p k s) ≤ length s
unfolding tokens
tokens_few [] p zero = omega arith
tokens_few [] p (suc k) = omega arith
tokens_few (b ∷ s) p zero = omega (arith, tokens_few s (p + 1) (further (token p b s)))
tokens_few (b ∷ s) p (suc k) = omega (arith, tokens_few s (p + 1) k)

-- with a row for each token, more make no difference
pub check_room : (from room room' : ℕ) (ts : List Token) (d n : ℕ) → n + length ts ≤ room → n + length ts ≤ room'
    → check from room ts d n ≡ check from room' ts d n
unfolding check
check_room from room room' [] d n h k = refl
check_room from room room' (opening q ∷ ts) d n h k =
    rw (lt-leb room n (omega arith), lt-leb room' n (omega arith), check_room (began d from q) room room' ts (d + 1) (n + 1) (omega arith) (omega arith))
check_room from room room' (closing q ∷ ts) d n h k = rw (check_room from room room' ts (d - 1) n (omega arith) (omega arith))
check_room from room room' (whole a q e ∷ ts) d n h k =
    rw (lt-leb room n (omega arith), lt-leb room' n (omega arith), check_room from room room' ts d (n + 1) (omega arith) (omega arith))
check_room from room room' (unfinished q ∷ ts) d n h k = refl
check_room from room room' (bad w q ∷ ts) d n h k = refl

-- more rows change no verdict but 8
abbrev NotEight : Verdict → Type 0
NotEight right = Unit {0}
NotEight (wrong w p) = w ≡ 8 → ⊥

not_full : (b b' : Bool) (q : ℕ) (v v' z : Verdict) → NotEight z → (b ≡ false → b' ≡ false) → (v ≡ z → v' ≡ z) → (when b then wrong 8 q else v) ≡ z
    → (when b' then wrong 8 q else v') ≡ z
not_full true b' q v v' z other free same e = absurd ((rw (← e) at other) refl)
not_full false b' q v v' z other free same e = rw (free refl) (same e)

otherwise : (b : Bool) (x v v' z : Verdict) → (v ≡ z → v' ≡ z) → (when b then x else v) ≡ z → (when b then x else v') ≡ z
otherwise true x v v' z same e = e
otherwise false x v v' z same e = same e

module _ (room room' : ℕ) (no-fewer : room ≤ room') where
  free : (n : ℕ) → leb room n ≡ false → leb room' n ≡ false
  free n e = let less = leb-false room n e in lt-leb room' n (omega arith)

  pub check_more : (from : ℕ) (ts : List Token) (d n : ℕ) (z : Verdict) → NotEight z → check from room ts d n ≡ z → check from room' ts d n ≡ z
  unfolding check
  check_more from [] d n z other c = c
  check_more from (opening p ∷ ts) d n z other c =
      otherwise (leb 64 d) _ _ _ z (not_full (leb room n) (leb room' n) p _ _ z other (free n) (check_more (began d from p) ts (d + 1) (n + 1) z other)) c
  check_more from (closing p ∷ ts) d n z other c = otherwise (eqb d 0) _ _ _ z (check_more from ts (d - 1) n z other) c
  check_more from (whole a p e ∷ ts) d n z other c = not_full (leb room n) (leb room' n) p _ _ z other (free n) (check_more from ts d (n + 1) z other) c
  check_more from (unfinished p ∷ ts) d n z other c = c
  check_more from (bad w p ∷ ts) d n z other c = c

-- at the top level it does not matter where the last form began
pub check_top : (from from' room : ℕ) (ts : List Token) (n : ℕ) → check from room ts 0 n ≡ check from' room ts 0 n
unfolding check
check_top from from' room [] n = refl
check_top from from' room (opening q ∷ ts) n = refl
check_top from from' room (closing q ∷ ts) n = refl
check_top from from' room (whole a q e ∷ ts) n = rw (check_top from from' room ts (n + 1))
check_top from from' room (unfinished q ∷ ts) n = refl
check_top from from' room (bad w q ∷ ts) n = refl

-- nor does it after a token at place p, where as many forms are open as before it
pub check_began : (from room p : ℕ) (ts : List Token) (d n : ℕ) → check (began d from p) room ts d n ≡ check from room ts d n
check_began from room p ts d n = by_test (λ (x : ℕ). check x room ts d n ≡ check from room ts d n) (eqb d 0) top (λ e. refl)
  where
    top : eqb d 0 ≡ true → check p room ts d n ≡ check from room ts d n
    top e = rw (eqb-true d 0 e) (check_top p from room ts n)
