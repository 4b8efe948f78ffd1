-- Walking over expressions without a table: where a form ends, where an expression ends, and which of the top level is asked for.
-- Document 01: "Item". Assumes nothing.
use Prim.Native.Nat.{ℕ, suc, ◌+◌, ◌-◌, ◌≤◌, ◌<◌}
use mathlib.Core.Path.{◌≡◌, refl, sym, ap, ◌∙◌, subst}
use mathlib.Core.List.{List, [], ◌∷◌, ◌++◌, append-nil}
use native.Mathlib.Omega.{arith}
use borrow.Author.Rules.{rules}
use native.Mathlib.Decide.{dec_le}
use lib.ListN.{length, drop, get_or, length-drop}
use lib.Seq.{drop_at, get_or-drop}
use Rattle.std.proofs.Common.{Fits, w8}
use Rattle.std.specs.Prelude.{Result, Ok, Err}
use Rattle.spec.specs.Expr.{Expr, atom, form, Exprs, none, more, size, rows, rows_all, deepest}
use Rattle.spec.specs.Reading.{tokens, check, ends, rows_of}
use Rattle.spec.specs.Calls.{Buffer, part, no_part, row_at, item}
use Rattle.laws.specs.Demands.{meaning_of, CanRead}
use Rattle.laws.specs.Grammar.{Spells, SpellsAll, expr_rows}
use Rattle.laws.proofs.Spelling.{front}
use Rattle.laws.proofs.Tokens.{Right, right_tokens, right_end, right_opening, right_closing, right_whole, right_first}
use Rattle.laws.proofs.Rows.{rows_room, right_room}
use Rattle.laws.proofs.Reading.{read_readable, read_meant, check_all}
use Rattle.laws.proofs.Parsing.{read_spells}
use Rattle.laws.proofs.Steps.{split_size, split_rest, tokens_from, tokens_end, all_bytes}
use Rattle.laws.proofs.Items.{rows_expr, expr_rows_count, expr_first, item_past}
use Rattle.atoms.specs.Refusals.{told}
use Rattle.atoms.specs.Tokens.{token_at, shown}
use Rattle.atoms.specs.declared.Token.{Token as Answer}
use Rattle.atoms.specs.declared.Token.TheVariants.{Opening, Closing, Atom as Whole, Unfinished}
use Rattle.atoms.specs.declared.refusal.Refusal.{Refusal}
use Rattle.atoms.proofs.Next.{Stands, next}
use Rattle.reader.specs.Passes.{RightFrom}

-- The end of a form

-- At place p, d forms are open in the one whose end is sought.
pub record Ending (s : List ℕ) (start p d : ℕ) : Type 0 where
  pub inside : p ≤ length s
  pub shallow : d ≤ p
  pub rows : ℕ
  pub passes : Right (length s) (tokens_from s p) (d + 1) rows
  pub same : get_or (ends (tokens_from s start)) 0 0 ≡ get_or (ends (tokens_from s p)) d 0

-- what holds after each kind of token
abbrev pub EndingTurn : (s : List ℕ) (start p d : ℕ) → Result Answer (ℕ × ℕ) → Type 0
EndingTurn s start p d (Ok Opening) = Ending s start (p + 1) (d + 1)
EndingTurn s start p d (Ok Closing) =
    (d ≡ 0 → get_or (ends (tokens_from s start)) 0 0 ≡ p + 1) × ((d ≡ 0 → ⊥) → Ending s start (p + 1) (d - 1))
EndingTurn s start p d (Ok (Whole k b e)) = (p < e) × Ending s start e d
EndingTurn s start p d (Ok Unfinished) = ⊥
EndingTurn s start p d (Err r) = ⊥

module _ (s : List ℕ) (start p d : ℕ) (f : Ending s start p d) where
  -- a form that is open ends in the stream
  pub ending_inside : p < length s
  ending_inside = go (dec_le (length s) p)
    where
      go : Dec (length s ≤ p) → p < length s
      go (yes h) = absurd (omega (arith, right_end (rw (tokens_end s p h) at f.passes)))
      go (no h) = omega (arith, h)

  pub ending_turn : ((i : ℕ) → Fits w8 (get_or s i 0)) → (r : Result Answer Refusal) → told r ≡ shown (token_at s p) → EndingTurn s start p d (told r)
  unfolding ends
  ending_turn bytes r is = go (told r) (next s p r (all_bytes s (λ i. (bytes i).fits)) ending_inside is)
    where
      go : (r : Result Answer (ℕ × ℕ)) → Stands s p r → EndingTurn s start p d r
      go (Ok Opening) is = record {
        inside = omega (arith, ending_inside);
        shallow = omega (arith, f.shallow);
        rows = f.rows + 1;
        passes = (right_opening (rw is at f.passes)).2;
        same =
            f.same ∙ rw is (get_or-drop 1 (ends (tokens_from s (p + 1))) d 0 ∙ ap (λ (j : ℕ). get_or (ends (tokens_from s (p + 1))) j 0) (omega arith));
      }
      go (Ok Closing) is = (
        λ z. f.same ∙ rw (is, z),
        λ z. record {
          inside = omega (arith, ending_inside);
          shallow = omega (arith, f.shallow);
          rows = f.rows;
          passes = let less : d + 1 - 1 ≡ d - 1 + 1 = omega (arith, z) in rw less at (right_closing (rw is at f.passes)).1;
          same =
              let more : d ≡ suc (d - 1) = omega (arith, z) in
              f.same ∙ rw is (ap (λ (j : ℕ). get_or ((p + 1) ∷ ends (tokens_from s (p + 1))) j 0) more);
        },
      )
      go (Ok (Whole k b e)) w = (
        w.forward,
        record {
          inside = w.inside;
          shallow = omega (arith, f.shallow, w.forward);
          rows = f.rows + 1;
          passes = (right_whole (rw w.is at f.passes)).1;
          same = f.same ∙ rw w.is;
        },
      )
      go (Ok Unfinished) x = right_first (rw x.1 at f.passes)
      go (Err r) x = right_first (rw x.1 at f.passes)

-- The end of an expression

-- what the code has to know at each kind of token of the top level, and where the expression ends
abbrev pub TopTurn : List ℕ → ℕ → Result Answer (ℕ × ℕ) → Type 0
TopTurn s p (Ok Opening) = RightFrom s (p + 1) 1 × ((row_at (rows_of (tokens_from s p)) 0).end ≡ get_or (ends (tokens_from s (p + 1))) 0 0)
TopTurn s p (Ok Closing) = ⊥
TopTurn s p (Ok (Whole k b e)) = (row_at (rows_of (tokens_from s p)) 0).end ≡ e
TopTurn s p (Ok Unfinished) = ⊥
TopTurn s p (Err r) = ⊥

pub top_turn : (s : List ℕ) (p : ℕ) → ((i : ℕ) → Fits w8 (get_or s i 0)) → p < length s → RightFrom s p 0
    → (r : Result Answer Refusal) → told r ≡ shown (token_at s p) → TopTurn s p (told r)
unfolding rows_of
top_turn s p bytes inside passes r is = go (told r) (next s p r (all_bytes s (λ i. (bytes i).fits)) inside is)
  where
    well : Right (length s) (tokens_from s p) 0 passes.1
    well = right_tokens passes.0 (length s) (tokens_from s p) 0 passes.1 passes.2

    go : (r : Result Answer (ℕ × ℕ)) → Stands s p r → TopTurn s p r
    go (Ok Opening) is =
        let k = right_opening (rw is at well) in
        ((p, passes.1 + 1, right_room k.2 p (length s) (rows_room k.2 (omega (arith, k.1)))), rw is)
    go (Ok Closing) is = omega (arith, (right_closing (rw is at well)).0)
    go (Ok (Whole k b e)) w = rw w.is
    go (Ok Unfinished) x = right_first (rw x.1 at well)
    go (Err r) x = right_first (rw x.1 at well)

-- The expression asked for

pub spelled_some : (e : Expr) (x : List ℕ) → Spells e x → 0 < length x
spelled_some (atom a) x sp = omega (arith, ap length (front a x sp).is)
spelled_some (form es) x sp = omega (arith, ap length sp.1)

-- the expressions `left` can be read from place p on
pub record Readable (s : List ℕ) (p : ℕ) (left : Exprs) : Type 0 where
  pub short : length s ≤ 65536
  pub inside : p ≤ length s
  pub shallow : deepest left ≤ 64
  pub few : rows_all left ≤ length s

-- At place p the expressions `left` are left, of which number n is the one asked for.
pub record Finding (s : List ℕ) (k p n : ℕ) : Type 0 where
  pub left : Exprs
  pub bounds : Readable s p left
  pub spells : SpellsAll left (drop p s)
  pub same : (b : Buffer) → item b (rows_of (tokens 0 0 s)) k (meaning_of s) ≡ item b (rows_of (tokens_from s p)) n left

pub finding_start : (s : List ℕ) (k : ℕ) → ((i : ℕ) → Fits w8 (get_or s i 0)) → CanRead s → Finding s k 0 k
finding_start s k bytes can =
    let r = read_readable s (length s) _ _ can in
    let m = read_meant s (length s) _ _ (all_bytes s (λ i. (bytes i).fits)) r in
    record { left = meaning_of s; bounds = search rules; spells = read_spells s (length s) _ _ (all_bytes s (λ i. (bytes i).fits)) can; same = λ b. refl }

-- one expression more, from p up to e
pub record Passed (s : List ℕ) (k p n e : ℕ) : Type 0 where
  pub this : n ≡ 0 → (b : Buffer) → part b p e ≡ item b (rows_of (tokens 0 0 s)) k (meaning_of s)
  pub later : (n ≡ 0 → ⊥) → Finding s k e (n - 1)

module _ (s : List ℕ) (k p n : ℕ) (f : Finding s k p n) where
  -- the next expression may be asked for
  pub finding_right : (length s ≤ 65536) × (p ≤ length s) × RightFrom s p 0
  unfolding check tokens
  finding_right = (
    omega arith,
    omega arith,
    (
      0,
      0,
      ap (λ (x : List ℕ). check 0 (length s) (tokens p 0 x) 0 0) (sym (append-nil (drop p s)))
          ∙ check_all (length s) f.left (drop p s) f.spells 0 p 0 0 [] (omega arith) (omega arith),
    ),
  )

  pub finding_end : p ≡ length s → (b : Buffer) → no_part ≡ item b (rows_of (tokens 0 0 s)) k (meaning_of s)
  finding_end h b = sym (f.same b ∙ go f.left f.spells)
    where
      go : (es : Exprs) → SpellsAll es (drop p s) → item b (rows_of (tokens_from s p)) n es ≡ no_part
      go none sp = item_past b n none (rows_of (tokens_from s p)) (unfold size in omega arith)
      go (more e es) sp =
          let size = split_size s p sp.0 sp.1 sp.2 in
          absurd (omega (arith, spelled_some e sp.0 sp.3))

  pub finding_turn : (start e m : ℕ) → (p < length s) × (start ≡ p) × (e ≡ (row_at (rows_of (tokens_from s p)) 0).end) → m ≡ n → Passed s k start m e
  unfolding rows deepest item
  finding_turn start e m told same = rw (told.1, same) (go f.left f.spells f.bounds f.same)
    where
      at_end : e ≡ (row_at (rows_of (tokens_from s p)) 0).end
      at_end = told.2

      go : (es : Exprs) → SpellsAll es (drop p s) → Readable s p es
          → ((b : Buffer) → item b (rows_of (tokens 0 0 s)) k (meaning_of s) ≡ item b (rows_of (tokens_from s p)) n es) → Passed s k p n e
      go none sp bounds same = absurd (omega (arith, ap length sp, length-drop p s))
      go (more c es) sp bounds same =
          let x = sp.0 in
          let y = sp.1 in
          let q : ℕ = p + length x in
          let size = split_size s p x y sp.2 in
          let rest : y ≡ drop q s = split_rest s p x y sp.2 in
          let own = expr_rows c x sp.3 p in
          let split : rows_of (tokens_from s p) ≡ own ++ rows_of (tokens_from s q) =
          ap (λ (l : List ℕ). rows_of (tokens p 0 l)) sp.2
          ∙ rows_expr c x sp.3 p y
          ∙ ap (λ (l : List ℕ). own ++ rows_of (tokens q 0 l)) rest in
          let one = expr_first c x sp.3 p (rows_of (tokens_from s q)) in
          let start : (row_at (rows_of (tokens_from s p)) 0).start ≡ p = rw split one.0 in
          let end : e ≡ q = at_end ∙ rw split one.1 in
          let behind : drop (rows c) (rows_of (tokens_from s p)) ≡ rows_of (tokens_from s q) =
          ap (drop (rows c)) split ∙ drop_at own (rows_of (tokens_from s q)) (rows c) (expr_rows_count c x sp.3 p) in
          record {
            this = λ z b. sym (same b ∙ rw (z, start, ← at_end));
            later = λ z. rw end (record {
              left = es;
              bounds = search rules;
              spells = subst (SpellsAll es) rest sp.4;
              same =
                  λ b. let more_left : n ≡ suc (n - 1) = omega (arith, z) in same b
                  ∙ ap (λ (m : ℕ). item b (rows_of (tokens_from s p)) m (more c es)) more_left
                  ∙ rw behind;
            });
          }
