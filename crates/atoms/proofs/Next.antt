-- What a token that the code was given says of the stream from its place on: the law behind every loop over tokens.
-- Document 01: "Bytes to expressions". Assumes nothing.
use Prim.Native.Nat.{ℕ, ◌+◌, ◌-◌, ◌≤◌, ◌<◌}
use mathlib.Core.Path.{◌≡◌, refl, sym, ap, ◌∙◌}
use mathlib.Core.List.{List, [], ◌∷◌, ◌++◌, append_assoc}
use native.Mathlib.Omega.{arith}
use lib.ListN.{length, take, drop, length-append, length-take, length-drop, take-append-drop}
use lib.Seq.{take_at}
use Rattle.spec.specs.Expr.{Atom, nil, array, int, ref, atom_bytes}
use Rattle.std.specs.Prelude.{Result, Ok, Err}
use Rattle.spec.specs.Reading.{Token, opening, closing, whole, unfinished, bad, atom_kind}
use Rattle.laws.specs.Demands.{Bytes}
use Rattle.laws.specs.Grammar.{SpellsArray, small, generic}
use Rattle.laws.proofs.Steps.{split_rest, tokens_from, WholeAt, StepAt, step_at}
use Rattle.atoms.specs.Refusals.{told}
use Rattle.atoms.specs.Tokens.{kind_number, kind_of, token_at, body, shown, atom_head}
use Rattle.atoms.specs.declared.Kind.{Kind}
use Rattle.atoms.specs.declared.Token.{Token as Answer}
use Rattle.atoms.specs.declared.Token.TheVariants.{Opening, Closing, Atom as Whole, Unfinished}
use Rattle.atoms.specs.declared.refusal.Refusal.{Refusal}

-- an atom of that kind that goes from p to e, its body from b on
pub record AtomAt (s : List ℕ) (p : ℕ) (kind : Kind) (b e : ℕ) : Type 0 where
  pub atom : Atom
  pub is : tokens_from s p ≡ whole atom p e ∷ tokens_from s e
  pub kind_is : kind ≡ kind_of atom
  pub begins : p ≤ b
  pub ends : b ≤ e
  pub forward : p < e
  pub inside : e ≤ length s
  pub shorter : p + length (atom_bytes atom) ≤ e
  pub written : atom_bytes atom ≡ atom_head kind (e - b) ++ take (e - b) (drop b s)

-- of a token, or of a refusal's number and place
abbrev pub Stands : List ℕ → ℕ → Result Answer (ℕ × ℕ) → Type 0
Stands s p (Ok Opening) = tokens_from s p ≡ opening p ∷ tokens_from s (p + 1)
Stands s p (Ok Closing) = tokens_from s p ≡ closing p ∷ tokens_from s (p + 1)
Stands s p (Ok (Whole k b e)) = AtomAt s p k b e
Stands s p (Ok Unfinished) = (ts : List Token) × (tokens_from s p ≡ unfinished p ∷ ts)
Stands s p (Err r) = (ts : List Token) × (tokens_from s p ≡ bad r.0 r.1 ∷ ts)

abbrev pub Next : List ℕ → ℕ → Result Answer Refusal → Type 0
Next s p r = Stands s p (told r)

-- the number of an atom's kind
pub kind_number_of : (a : Atom) → kind_number (kind_of a) ≡ atom_kind a
kind_number_of nil = refl
kind_number_of (array bs) = refl
kind_number_of (int v) = refl
kind_number_of (ref m n) = refl

module _ (s : List ℕ) (p e : ℕ) where
  by_whole : (a : Atom) (b : ℕ) → p ≤ b → b ≤ e → WholeAt s p a e → atom_bytes a ≡ atom_head (kind_of a) (e - b) ++ take (e - b) (drop b s)
      → AtomAt s p (kind_of a) b e
  by_whole a b begins ends w written = record {
    atom = a;
    is = w.is;
    kind_is = refl;
    begins = begins;
    ends = ends;
    forward = w.forward;
    inside = w.inside;
    shorter = w.shorter;
    written = written;
  }

  -- an array's bytes are the last of those that spell it
  array_split : (bs x : List ℕ) → SpellsArray bs x → (c : ℕ) × (h : List ℕ) × (x ≡ (c ∷ h) ++ bs)
  array_split bs x (small l q) = (0xC0 + length bs, [], q)
  array_split bs x (generic y l q) = (0x03, y, q)

  array_body : (bs : List ℕ) → WholeAt s p (array bs) e → AtomAt s p (kind_of (array bs)) (e - length bs) e
  unfolding atom_bytes
  array_body bs w =
      let x = take (e - p) (drop p s) in
      let o = array_split bs x w.spelled in
      let h : List ℕ = o.0 ∷ o.1 in
      let rest = drop (e - p) (drop p s) in
      let x_size : length x ≡ e - p = simp (length-take, length-drop) (omega (arith, w.inside)) in
      let size : length h + length bs ≡ e - p = sym (length-append h bs) ∙ sym (ap length o.2) ∙ x_size in
      let split : drop p s ≡ h ++ (bs ++ rest) = sym (take-append-drop (e - p) (drop p s)) ∙ ap (λ (y : List ℕ). y ++ rest) o.2 ∙ append_assoc h bs rest in
      let place : p + length h ≡ e - length bs = omega (arith, w.forward) in
      let count : e - (e - length bs) ≡ length bs = omega arith in
      let from_body : drop (e - length bs) s ≡ bs ++ rest = rw (← place) (sym (split_rest s p h (bs ++ rest) split)) in
      by_whole (array bs) (e - length bs) (omega arith) (omega arith) w (rw (count, from_body, take_at bs rest (length bs) refl))

  atom_at : (a : Atom) → WholeAt s p a e → AtomAt s p (kind_of a) (body a p e) e
  unfolding atom_bytes
  atom_at nil w = by_whole nil p (omega arith) (omega arith) w (sym w.spelled)
  atom_at (array bs) w = array_body bs w
  atom_at (int v) w = by_whole (int v) p (omega arith) (omega arith) w (sym w.spelled.1)
  atom_at (ref m n) w = by_whole (ref m n) p (omega arith) (omega arith) w (sym w.spelled.2)

-- how many bytes an atom is written with
pub written_size : (s : List ℕ) (p : ℕ) (kind : Kind) (b e : ℕ) (w : AtomAt s p kind b e) → length (atom_bytes w.atom) ≡ length (atom_head kind (e - b)) + (e - b)
written_size s p kind b e w = ap length w.written ∙ simp (length-append, length-take, length-drop) (omega (arith, w.inside))

pub next : (s : List ℕ) (p : ℕ) (r : Result Answer Refusal) → Bytes s → p < length s → told r ≡ shown (token_at s p) → Next s p r
next s p r stream inside is = rw is (go (token_at s p) (step_at s p stream inside))
  where
    go : (t : Token) → StepAt s p t → Stands s p (shown t)
    go (opening q) h = h
    go (closing q) h = h
    go (whole a q e) h = rw h.0 (atom_at s p e a h.1)
    go (unfinished q) h = h
    go (bad w q) h = h
