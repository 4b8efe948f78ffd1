-- How many forms are open at once in the canonical bytes of values, token by token: the law behind the loop of `made::shallow`.
-- Document 01: "in evaluation, a value with over 64 forms one inside another". Assumes nothing.
use Prim.Native.Nat.{ℕ, ◌+◌, ◌-◌, ◌≤◌, ◌<◌}
use mathlib.Core.Path.{◌≡◌, sym, subst}
use mathlib.Core.List.{List, [], ◌∷◌, append-nil}
use mathlib.Core.Bool.{Bool, true, false}
use native.Mathlib.Omega.{arith}
use lib.ListN.{length, drop, length-drop}
use lib.Dec.{leb}
use borrow.Author.Tests.{le-leb, lt-leb}
use Rattle.std.specs.Prelude.{Result, Ok, Err}
use Rattle.spec.specs.Expr.{Expr, atom, form, Exprs, none, more, depth, deepest, canonical}
use Rattle.spec.specs.Reading.{Token, opening, closing, whole, unfinished, bad, tokens}
use Rattle.laws.specs.Demands.{Bytes}
use Rattle.laws.specs.Grammar.{Spells, SpellsAll}
use Rattle.laws.proofs.Fits.{FitsAll}
use Rattle.laws.proofs.Tokens.{tokens_few}
use Rattle.laws.proofs.Reading.{expr_tokens, all_tokens, tokens_all, canonical_spells}
use Rattle.laws.proofs.Steps.{tokens_from}
use Rattle.atoms.specs.Tokens.{token_at, shown}
use Rattle.atoms.specs.declared.Token.{Token as Answer}
use Rattle.atoms.specs.Refusals.{told}
use Rattle.atoms.specs.declared.refusal.Refusal.{Refusal}
use Rattle.atoms.specs.declared.Token.TheVariants.{Opening, Closing, Atom as Whole, Unfinished}
use Rattle.atoms.proofs.Next.{Stands, next}

-- tokens that close the d open forms, and whether at most 63 forms are open at once; each form that is open has its closing ahead
abbrev pub Within : List Token → ℕ → Bool → Type 0
Within [] d b = b ≡ true
Within (opening p ∷ ts) d b = (d < length ts) × (63 ≤ d → b ≡ false) × (d < 63 → Within ts (d + 1) b)
Within (closing p ∷ ts) d b = (0 < d) × Within ts (d - 1) b
Within (whole a p e ∷ ts) d b = Within ts d b
Within (unfinished p ∷ ts) d b = ⊥
Within (bad w p ∷ ts) d b = ⊥

-- few tokens open few forms
few_tokens : (ts : List Token) (d : ℕ) (b : Bool) → Within ts d b → length ts + d < 128 → b ≡ true
few_tokens [] d b w h = w
few_tokens (opening p ∷ ts) d b w h = few_tokens ts (d + 1) b (w.2 (omega (arith, w.0))) (omega arith)
few_tokens (closing p ∷ ts) d b w h = few_tokens ts (d - 1) b w.1 (omega (arith, w.0))
few_tokens (whole a p e ∷ ts) d b w h = few_tokens ts d b w (omega arith)
few_tokens (unfinished p ∷ ts) d b w h = absurd w
few_tokens (bad v p ∷ ts) d b w h = absurd w

-- whole expressions in front of other tokens take none of them
mutual
  unfolding expr_tokens

  count_expr : (e : Expr) (x : List ℕ) (sp : Spells e x) (p : ℕ) (ts : List Token) → length ts ≤ length (expr_tokens e x sp p ts)
  count_expr (atom a) x sp p ts = omega arith
  count_expr (form es) x sp p ts = omega (arith, count_all es sp.0 sp.2 (p + 1) (closing (p + 1 + length sp.0) ∷ ts))

  count_all : (es : Exprs) (x : List ℕ) (sp : SpellsAll es x) (p : ℕ) (ts : List Token) → length ts ≤ length (all_tokens es x sp p ts)
  count_all none x sp p ts = omega arith
  count_all (more e es) x sp p ts =
      omega (arith, count_expr e sp.0 sp.3 p (all_tokens es sp.1 sp.4 (p + length sp.0) ts), count_all es sp.1 sp.4 (p + length sp.0) ts)

-- whole expressions in front of other tokens: if they are too deep that decides, else what follows does
mutual
  unfolding depth expr_tokens

  within_expr : (e : Expr) (x : List ℕ) (sp : Spells e x) (p d : ℕ) (ts : List Token) (b : Bool) → d ≤ 63 → d ≤ length ts
      → (depth e + d ≤ 63 → Within ts d b) → (63 < depth e + d → b ≡ false) → Within (expr_tokens e x sp p ts) d b
  within_expr (atom a) x sp p d ts b h c on deep = on (omega arith)
  within_expr (form es) x sp p d ts b h c on deep =
      let back : d + 1 - 1 ≡ d = omega arith in
      let behind : List Token = closing (p + 1 + length sp.0) ∷ ts in (
        omega (arith, count_all es sp.0 sp.2 (p + 1) behind),
        λ k. deep (omega arith),
        λ k. within_all es sp.0 sp.2 (p + 1) (d + 1) behind b (omega arith) (omega arith) (λ l. (omega arith, rw back (on (omega arith)))) (λ l. deep (omega arith)),
      )

  within_all : (es : Exprs) (x : List ℕ) (sp : SpellsAll es x) (p d : ℕ) (ts : List Token) (b : Bool) → d ≤ 63 → d ≤ length ts
      → (deepest es + d ≤ 63 → Within ts d b) → (63 < deepest es + d → b ≡ false) → Within (all_tokens es x sp p ts) d b
  within_all none x sp p d ts b h c on deep = on (omega arith)
  within_all (more e es) x sp p d ts b h c on deep =
      let q : ℕ = p + length sp.0 in
      within_expr e sp.0 sp.3 p d (all_tokens es sp.1 sp.4 q ts) b h (omega (arith, count_all es sp.1 sp.4 q ts))
      (λ k. within_all es sp.1 sp.4 q d ts b h c (λ l. on (omega arith)) (λ l. deep (omega arith)))
      (λ k. deep (omega arith))

within_canonical : (vs : Exprs) → FitsAll vs → Within (tokens 0 0 (canonical vs)) 0 (leb (deepest vs) 63)
unfolding tokens
within_canonical vs f =
    let sp = canonical_spells vs f in
    rw (sym (append-nil (canonical vs)), tokens_all vs (canonical vs) sp 0 [])
    (within_all vs (canonical vs) sp 0 0 [] (leb (deepest vs) 63) (omega arith) (omega arith)
    (λ h. le-leb (deepest vs) 63 (omega arith)) (λ h. lt-leb (deepest vs) 63 (omega arith)))

-- At byte p of the canonical bytes of values, d forms are open, and what is left decides whether the values are shallow.
pub record Nesting (s : List ℕ) (p d : ℕ) : Type 0 where
  pub stream : Bytes s
  pub inside : p ≤ length s
  pub few : d ≤ 63
  pub some : (vs : Exprs) × (s ≡ canonical vs) × FitsAll vs
  pub each : (vs : Exprs) → s ≡ canonical vs → FitsAll vs → Within (tokens_from s p) d (leb (deepest vs) 63)

-- values with these bytes are as deep as the answer says
abbrev pub Answers : List ℕ → Bool → Type 0
Answers s b = (vs : Exprs) → s ≡ canonical vs → FitsAll vs → b ≡ leb (deepest vs) 63

pub nesting_start : (s : List ℕ) → Bytes s → ((vs : Exprs) × (s ≡ canonical vs) × FitsAll vs) → Nesting s 0 0
nesting_start s stream some = record {
  stream = stream;
  inside = omega arith;
  few = omega arith;
  some = some;
  each = λ vs is f. rw is (within_canonical vs f);
}

-- what holds after each kind of token
abbrev pub NestingTurn : (s : List ℕ) (p d : ℕ) → Result Answer (ℕ × ℕ) → Type 0
NestingTurn s p d (Ok Opening) = (63 ≤ d → Answers s false) × (d < 63 → Nesting s (p + 1) (d + 1))
NestingTurn s p d (Ok Closing) = (0 < d) × Nesting s (p + 1) (d - 1)
NestingTurn s p d (Ok (Whole k b e)) = (p < e) × Nesting s e d
NestingTurn s p d (Ok Unfinished) = ⊥
NestingTurn s p d (Err r) = ⊥

module _ (s : List ℕ) (p d : ℕ) (f : Nesting s p d) where
  pub nesting_end : length s - p + d < 128 → Answers s true
  nesting_end h vs is fits =
      sym (few_tokens (tokens_from s p) d (leb (deepest vs) 63) (f.each vs is fits) (omega (arith, tokens_few (drop p s) p 0, length-drop p s)))

  pub nesting_turn : 128 ≤ length s - p + d → (r : Result Answer Refusal) → told r ≡ shown (token_at s p) → NestingTurn s p d (told r)
  nesting_turn some r is = go (told r) (next s p r f.stream inside is)
    where
      inside : p < length s
      inside = omega (arith, some, f.few)

      -- what is known of the tokens from here on
      here : (ts : List Token) → tokens_from s p ≡ ts → (vs : Exprs) → s ≡ canonical vs → FitsAll vs → Within ts d (leb (deepest vs) 63)
      here ts e vs is fits = subst (λ (l : List Token). Within l d (leb (deepest vs) 63)) e (f.each vs is fits)

      dive : (q e : ℕ) → q ≤ length s → e ≤ 63 → ((vs : Exprs) → s ≡ canonical vs → FitsAll vs → Within (tokens_from s q) e (leb (deepest vs) 63))
          → Nesting s q e
      dive q e inside few each = record { stream = f.stream; inside = inside; few = few; some = f.some; each = each }

      one : (ts : List Token) → tokens_from s p ≡ ts → Within ts d (leb (deepest f.some.0) 63)
      one ts e = here ts e f.some.0 f.some.1 f.some.2

      go : (r : Result Answer (ℕ × ℕ)) → Stands s p r → NestingTurn s p d r
      go (Ok Opening) is = (
        λ h vs v fits. sym ((here _ is vs v fits).1 h),
        λ h. dive (p + 1) (d + 1) (omega arith) (omega arith) (λ vs v fits. (here _ is vs v fits).2 h),
      )
      go (Ok Closing) is = ((one _ is).0, dive (p + 1) (d - 1) (omega arith) (omega (arith, f.few)) (λ vs v fits. (here _ is vs v fits).1))
      go (Ok (Whole k b e)) w = (w.forward, dive e d w.inside f.few (here _ w.is))
      go (Ok Unfinished) x = one _ x.1
      go (Err r) x = one _ x.1
