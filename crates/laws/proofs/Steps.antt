-- A stream read from place to place, as code does it: what the token at a place says of the tokens from that place on.
-- Document 01: "Bytes to expressions". Assumes nothing.
use Prim.Native.Nat.{ℕ, suc, ◌+◌, ◌-◌, ◌≤◌, ◌<◌}
use mathlib.Core.Path.{◌≡◌, refl, sym, ap, ◌∙◌, subst}
use mathlib.Core.List.{List, [], ◌∷◌, ◌++◌}
use lib.ListN.{length, take, drop, get_or, length-append, length-drop, drop_of_length-le}
use lib.Seq.{drop-cons, drop-drop, take_at, drop_at}
use native.Mathlib.Omega.{arith}
use native.Mathlib.Numerals.{add-one}
use Rattle.spec.specs.Expr.{Atom, atom_bytes}
use Rattle.spec.specs.Reading.{Token, opening, closing, whole, unfinished, bad, token, further, tokens}
use Rattle.laws.specs.Demands.{Bytes}
use Rattle.laws.specs.Grammar.{SpellsAtom}
use Rattle.laws.proofs.Fits.{bytes_drop}
use Rattle.laws.proofs.Spelling.{SplitOff, atom_taken}
use Rattle.laws.proofs.Tokens.{From, from_01, from_02, from_atom, from_cut_off, from_bad, token_from, Laid, tokens_laid}
use Rattle.laws.proofs.Reading.{tokens_atom}

-- the tokens from a place on
abbrev pub tokens_from : List ℕ → ℕ → List Token
tokens_from s p = tokens p 0 (drop p s)

-- Places

-- nothing is left at the end
pub none_left : (s : List ℕ) (p : ℕ) → length s ≤ p → drop p s ≡ []
none_left s p h = drop_of_length-le s h

-- what is left at p begins with x: how long both are, and where u begins
module _ (s : List ℕ) (p : ℕ) (x u : List ℕ) (here : drop p s ≡ x ++ u) where
  pub split_size : length x + length u ≡ length s - p
  split_size = sym (length-append x u) ∙ ap length (sym here) ∙ length-drop p s

  pub split_rest : u ≡ drop (p + length x) s
  split_rest = sym (drop_at x u (length x) refl) ∙ ap (drop (length x)) (sym here) ∙ drop-drop (length x) p s

-- Tokens

-- an atom that goes from p to e
pub record WholeAt (s : List ℕ) (p : ℕ) (a : Atom) (e : ℕ) : Type 0 where
  pub is : tokens_from s p ≡ whole a p e ∷ tokens_from s e
  pub forward : p < e
  pub inside : e ≤ length s
  pub spelled : SpellsAtom a (take (e - p) (drop p s))
  pub shorter : p + length (atom_bytes a) ≤ e

abbrev pub StepAt : List ℕ → ℕ → Token → Type 0
StepAt s p (opening q) = tokens_from s p ≡ opening p ∷ tokens_from s (p + 1)
StepAt s p (closing q) = tokens_from s p ≡ closing p ∷ tokens_from s (p + 1)
StepAt s p (whole a q e) = (q ≡ p) × WholeAt s p a e
StepAt s p (unfinished q) = (ts : List Token) × (tokens_from s p ≡ unfinished p ∷ ts)
StepAt s p (bad w q) = (ts : List Token) × (tokens_from s p ≡ bad w q ∷ ts)

-- the token at a place inside a stream
module _ (s : List ℕ) (p : ℕ) (stream : Bytes s) (inside : p < length s) where
  abbrev byte : ℕ
  byte = get_or s p 0

  abbrev behind : List ℕ
  behind = drop (suc p) s

  from_here : drop p s ≡ byte ∷ behind
  from_here = drop-cons s p 0 inside

  small : byte < 256
  small = (subst Bytes from_here (bytes_drop p s stream)).0

  -- what spells the bytes in front of u goes from p to where u begins
  atom_step : (a : Atom) (u : List ℕ) → SplitOff (SpellsAtom a) (byte ∷ behind) u → WholeAt s p a (p + 1 + length behind - length u)
  atom_step a u o =
      let x = o.front in
      let e : ℕ = p + 1 + length (drop (suc p) s) - length u in
      let here : drop p s ≡ x ++ u = from_here ∙ o.is in
      let size = split_size s p x u here in
      let behind-size = length-drop (suc p) s in
      let end : e ≡ p + length x = omega arith in
      let rest : u ≡ drop e s = split_rest s p x u here ∙ ap (λ (k : ℕ). drop k s) (sym end) in
      let part : x ≡ take (e - p) (drop p s) = sym (take_at x u (e - p) (omega arith)) ∙ ap (take (e - p)) (sym here) in
      let step : tokens_from s p ≡ whole a p e ∷ tokens_from s e =
      ap (λ (l : List ℕ). tokens p 0 l) here
      ∙ tokens_atom a x o.holds p u
      ∙ ap (λ (k : ℕ). whole a p k ∷ tokens k 0 u) (sym end)
      ∙ ap (λ (l : List ℕ). whole a p e ∷ tokens e 0 l) rest in
      let laid = subst (λ (ts : List Token). Laid (p + 0) ts (p + length (drop p s))) step (tokens_laid (drop p s) p 0 (bytes_drop p s stream) (omega arith)) in
      record { is = step; forward = laid.1; inside = omega arith; spelled = subst (SpellsAtom a) part o.holds; shorter = laid.2 }

  one_byte : (t : Token) → token p byte behind ≡ t → further t ≡ 0 → tokens_from s p ≡ t ∷ tokens_from s (p + 1)
  unfolding tokens
  one_byte t e f = rw (from_here, e, f) (ap (λ (k : ℕ). t ∷ tokens (p + 1) 0 (drop k s)) (sym (add-one p)))

  pub step_at : StepAt s p (token p (get_or s p 0) (drop (suc p) s))
  step_at = go (token_from p byte behind) refl
    where
      go : {t : Token} → From p byte behind t → token p byte behind ≡ t → StepAt s p t
      go (from_01 h) q = one_byte (opening p) q refl
      go (from_02 h) q = one_byte (closing p) q refl
      go (from_atom a u e) q = (refl, atom_step a u (atom_taken byte behind a u small (bytes_drop (suc p) s stream) e))
      go (from_cut_off e) q = (tokens (p + 1) 0 behind, ap (λ (l : List ℕ). tokens p 0 l) from_here ∙ unfold tokens in rw q)
      go (from_bad w u e) q = (tokens (p + 1) 0 behind, ap (λ (l : List ℕ). tokens p 0 l) from_here ∙ unfold tokens in rw q)

pub tokens_end : (s : List ℕ) (p : ℕ) → length s ≤ p → tokens_from s p ≡ []
unfolding tokens
tokens_end s p h = rw (none_left s p h)

-- elements that are bytes, as code knows it
pub all_bytes : (s : List ℕ) → ((i : ℕ) → get_or s i 0 < 256) → Bytes s
all_bytes [] h = tt
all_bytes (b ∷ s) h = (h 0, all_bytes s (λ i. h (suc i)))
