-- `read` is the parser of the grammar: a stream that is read as some expressions spells them.
-- Document 01: "Bytes to expressions". Assumes nothing.
use Prim.Native.Nat.{ℕ, ◌+◌, ◌≤◌}
use mathlib.Core.Path.{◌≡◌, refl, sym, ap, ◌∙◌, subst}
use mathlib.Core.List.{List, [], ◌∷◌, ◌++◌, append_assoc}
use lib.ListN.{length, get_or}
use native.Mathlib.Omega.{arith}
use Rattle.spec.specs.Expr.{Atom, Expr, atom, form, Exprs, none}
use Rattle.spec.specs.Reading.{taken, read_atom, Token, opening, closing, whole, token, further, tokens, put, wrap, lists, Row, readable, read}
use Rattle.laws.specs.Demands.{Bytes}
use Rattle.laws.specs.Grammar.{SpellsAtom, Spells, SpellsAll}
use Rattle.laws.proofs.Basics.{impossible}
use Rattle.laws.proofs.Fits.{bytes_back}
use Rattle.laws.proofs.Spelling.{atom_taken}
use Rattle.laws.proofs.Tokens.{From, from_01, from_02, from_atom, token_from, Right, at_end, opens, closes, stands}
use Rattle.laws.proofs.Rows.{rows_count}
use Rattle.laws.proofs.Reading.{tokens_atom, read_readable}

-- From tokens to spelling

-- the lists that tokens fill, in the bytes from which the tokens come: a byte 02 between two
abbrev SpellsLists : List Exprs → List ℕ → Type 0
SpellsLists [] s = ⊥
SpellsLists (es ∷ []) s = SpellsAll es s
SpellsLists (es ∷ fs ∷ ls) s = (x : List ℕ) × (y : List ℕ) × (s ≡ x ++ (0x02 ∷ y)) × SpellsAll es x × SpellsLists (fs ∷ ls) y

put_spells : (e : Expr) (x : List ℕ) → Spells e x → (ls : List Exprs) (s : List ℕ) → SpellsLists ls s → SpellsLists (put e ls) (x ++ s)
put_spells e x sp [] s h = absurd h
put_spells e x sp (es ∷ []) s h = (x, s, refl, sp, h)
put_spells e x sp (es ∷ fs ∷ ls) s h = (
  x ++ h.0,
  h.1,
  ap (λ (y : List ℕ). x ++ y) h.2 ∙ sym (append_assoc x h.0 (0x02 ∷ h.1)),
  (x, h.0, refl, sp, h.3),
  h.4,
)

wrap_spells : (ls : List Exprs) (s : List ℕ) → 2 ≤ length ls → SpellsLists ls s → SpellsLists (wrap ls) (0x01 ∷ s)
wrap_spells [] s k h = absurd h
wrap_spells (es ∷ []) s k h = absurd (omega arith)
wrap_spells (es ∷ fs ∷ ls) s k h =
    let x = h.0 in
    let same : (0x01 ∷ (x ++ (0x02 ∷ []))) ++ h.1 ≡ 0x01 ∷ s = ap (λ (y : List ℕ). 0x01 ∷ y) (append_assoc x (0x02 ∷ []) h.1 ∙ sym h.2) in
    subst (λ (y : List ℕ). SpellsLists (wrap (es ∷ fs ∷ ls)) y) same (put_spells (form es) (0x01 ∷ (x ++ (0x02 ∷ []))) (x, refl, h.3) (fs ∷ ls) h.1 h.4)

-- the first token of some bytes
pub first_token : (p : ℕ) (s : List ℕ) (t : Token) (ts : List Token) → tokens p 0 s ≡ t ∷ ts
    → (b : ℕ) × (u : List ℕ) × (s ≡ b ∷ u) × From p b u t × (tokens (p + 1) (further t) u ≡ ts)
unfolding tokens
first_token p [] t ts e = impossible (cc)
first_token p (b ∷ u) t ts e =
    let it : token p b u ≡ t = cc in
    let rest : tokens (p + 1) (further (token p b u)) u ≡ ts = cc in
    (b, u, refl, rw it at (token_from p b u), rw it at rest)

no_token : (p : ℕ) (s : List ℕ) → tokens p 0 s ≡ [] → s ≡ []
unfolding tokens
no_token p [] e = refl
no_token p (b ∷ u) e = impossible (cc)

pub from_opening : {p b q : ℕ} {s : List ℕ} → From p b s (opening q) → (b ≡ 0x01) × (q ≡ p)
from_opening (from_01 h) = (h, refl)

pub from_closing : {p b q : ℕ} {s : List ℕ} → From p b s (closing q) → b ≡ 0x02
from_closing (from_02 h) = h

from_whole : {p b q k : ℕ} {s : List ℕ} {a : Atom} → From p b s (whole a q k) → (t : List ℕ) × (read_atom b s ≡ taken a t)
from_whole {k = k} {s = s} f = go s k f
  where
    go : {p b q : ℕ} {a : Atom} (s : List ℕ) (k : ℕ) → From p b s (whole a q k) → (t : List ℕ) × (read_atom b s ≡ taken a t)
    go s k (from_atom a t h) = (t, h)

-- an atom that is the first token: the bytes that spell it, and those behind it
pub record FirstAtom (p : ℕ) (s : List ℕ) (a : Atom) (ts : List Token) : Type 0 where
  pub front : List ℕ
  pub rest : List ℕ
  pub is : s ≡ front ++ rest
  pub spells : SpellsAtom a front
  pub stream : Bytes rest
  pub are : tokens (p + length front) 0 rest ≡ ts

pub first_atom : (p : ℕ) (s : List ℕ) (a : Atom) (q k : ℕ) (ts : List Token) → Bytes s → tokens p 0 s ≡ whole a q k ∷ ts → FirstAtom p s a ts
first_atom p s a q k ts b e =
    let f = first_token p s _ ts e in
    let bs : Bytes (f.0 ∷ f.1) = rw f.2 at b in
    let r = from_whole f.3 in
    let o = atom_taken f.0 f.1 a r.0 bs.0 bs.1 r.1 in
    let x = o.front in
    let same : s ≡ x ++ r.0 = f.2 ∙ o.is in
    let split : whole a p (p + length x) ∷ tokens (p + length x) 0 r.0 ≡ whole a q k ∷ ts = sym (tokens_atom a x o.holds p r.0) ∙ rw same at e in
    record { front = x; rest = r.0; is = same; spells = o.holds; stream = bytes_back x r.0 (rw same at b); are = cc }

close_spells : (ls : List Exprs) (s : List ℕ) → SpellsLists ls s → SpellsLists (none ∷ ls) (0x02 ∷ s)
close_spells [] s h = absurd h
close_spells (es ∷ ls) s h = ([], s, refl, refl, h)

tokens_spell : {room : ℕ} {ts : List Token} {d n : ℕ} → Right room ts d n → (p : ℕ) (s : List ℕ) → Bytes s → tokens p 0 s ≡ ts
    → SpellsLists (lists ts) s
unfolding lists
tokens_spell at_end p s b e = no_token p s e
tokens_spell (opens {ts} h k c) p s b e =
    let f = first_token p s _ ts e in
    let bs : Bytes (f.0 ∷ f.1) = rw f.2 at b in
    let size = (rows_count c).1 in
    rw (f.2, (from_opening f.3).0) (wrap_spells (lists ts) f.1 (omega arith) (tokens_spell c (p + 1) f.1 bs.1 f.4))
tokens_spell (closes {ts} c) p s b e =
    let f = first_token p s _ ts e in
    let bs : Bytes (f.0 ∷ f.1) = rw f.2 at b in
    rw (f.2, from_closing f.3) (close_spells (lists ts) f.1 (tokens_spell c (p + 1) f.1 bs.1 f.4))
tokens_spell (stands {ts} {a} {q} {e = k} h c) p s b e =
    let f = first_atom p s a q k ts b e in
    rw f.is (put_spells (atom a) f.front f.spells (lists ts) f.rest (tokens_spell c (p + length f.front) f.rest f.stream f.are))

pub read_spells : (s : List ℕ) (room : ℕ) (rs : List Row) (es : Exprs) → Bytes s → read s room ≡ readable rs es → SpellsAll es s
read_spells s room rs es b h =
    let r = read_readable s room rs es h in
    rw r.means (only_list (lists (tokens 0 0 s)) (rows_count r.well).1 (tokens_spell r.well 0 s b refl))
  where
    only_list : (ls : List Exprs) → length ls ≡ 0 + 1 → SpellsLists ls s → SpellsAll (get_or ls 0 none) s
    only_list [] k o = absurd o
    only_list (fs ∷ []) k o = o
    only_list (fs ∷ gs ∷ ls) k o = absurd (omega arith)
