-- Where the rows of spelled expressions are: the row of an expression has its kind and goes from its first byte to one past its last. So
-- what Item gives spells the expression that was asked for. Document 01: "Table", "Item". Assumes nothing.
use Prim.Native.Nat.{ℕ, zero, suc, ◌+◌, ◌≤◌, ◌<◌}
use mathlib.Core.Path.{◌≡◌, refl, sym, ap, ◌∙◌}
use mathlib.Core.List.{List, [], ◌∷◌, ◌++◌, append_assoc, append-nil, map, map-append}
use native.Mathlib.Omega.{arith}
use lib.ListN.{length, drop, length-append}
use lib.Seq.{drop_at}
use Rattle.spec.specs.Expr.{Expr, atom, form, Exprs, none, more, size, first, without, rows, rows_all}
use Rattle.spec.specs.Reading.{Token, closing, tokens, Row, atom_kind, ends, rows_of}
use Rattle.spec.specs.Calls.{Buffer, no_part, row_at, item}
use Rattle.laws.specs.Grammar.{Spells, SpellsAll, SpellsItem, expr_rows, all_rows}
use Rattle.laws.proofs.Rows.{shifted}
use Rattle.laws.proofs.Reading.{form_end, expr_tokens, all_tokens, tokens_expr, tokens_all}

-- the ends of forms that are still open are not changed by whole expressions
mutual
  unfolding ends expr_tokens

  ends_expr : (e : Expr) (x : List ℕ) (sp : Spells e x) (p : ℕ) (ts : List Token) → ends (expr_tokens e x sp p ts) ≡ ends ts
  ends_expr (atom a) x sp p ts = refl
  ends_expr (form es) x sp p ts = ap (drop 1) (ends_all es sp.0 sp.2 (p + 1) _)

  ends_all : (es : Exprs) (x : List ℕ) (sp : SpellsAll es x) (p : ℕ) (ts : List Token) → ends (all_tokens es x sp p ts) ≡ ends ts
  ends_all none x sp p ts = refl
  ends_all (more e es) x sp p ts = ends_expr e sp.0 sp.3 p _ ∙ ends_all es sp.1 sp.4 _ ts

mutual
  unfolding expr_rows rows

  pub expr_rows_count : (e : Expr) (x : List ℕ) (sp : Spells e x) (p : ℕ) → length (expr_rows e x sp p) ≡ rows e
  expr_rows_count (atom a) x sp p = refl
  expr_rows_count (form es) x sp p = omega (arith, all_rows_count es sp.0 sp.2 (p + 1))

  pub all_rows_count : (es : Exprs) (x : List ℕ) (sp : SpellsAll es x) (p : ℕ) → length (all_rows es x sp p) ≡ rows_all es
  all_rows_count none x sp p = refl
  all_rows_count (more e es) x sp p =
      length-append (expr_rows e sp.0 sp.3 p) (all_rows es sp.1 sp.4 (p + length sp.0))
      ∙ omega (arith, expr_rows_count e sp.0 sp.3 p, all_rows_count es sp.1 sp.4 (p + length sp.0))

mutual
  unfolding rows_of expr_rows ends expr_tokens

  expr_tokens_rows : (e : Expr) (x : List ℕ) (sp : Spells e x) (p : ℕ) (ts : List Token) → rows_of (expr_tokens e x sp p ts) ≡ expr_rows e x sp p ++ rows_of ts
  expr_tokens_rows (atom a) x sp p ts = refl
  expr_tokens_rows (form es) x sp p ts =
      let y = sp.0 in
      let last : List Token = closing (p + 1 + length y) ∷ ts in
      let place : p + 1 + length y + 1 ≡ p + length x = form_end y p ∙ ap (λ (z : List ℕ). p + length z) (sym sp.1) in
      rw (ends_all es y sp.2 (p + 1) last, all_tokens_rows es y sp.2 (p + 1) last, place)

  all_tokens_rows : (es : Exprs) (x : List ℕ) (sp : SpellsAll es x) (p : ℕ) (ts : List Token) → rows_of (all_tokens es x sp p ts) ≡ all_rows es x sp p ++ rows_of ts
  all_tokens_rows none x sp p ts = refl
  all_tokens_rows (more e es) x sp p ts =
      let front = expr_rows e sp.0 sp.3 p in
      let back = all_rows es sp.1 sp.4 (p + length sp.0) in
      expr_tokens_rows e sp.0 sp.3 p _
      ∙ ap (λ (l : List Row). front ++ l) (all_tokens_rows es sp.1 sp.4 _ ts)
      ∙ sym (append_assoc front back (rows_of ts))

pub rows_expr : (e : Expr) (x : List ℕ) (sp : Spells e x) (p : ℕ) (s : List ℕ)
    → rows_of (tokens p 0 (x ++ s)) ≡ expr_rows e x sp p ++ rows_of (tokens (p + length x) 0 s)
rows_expr e x sp p s = rw (tokens_expr e x sp p s) (expr_tokens_rows e x sp p _)

pub rows_before : (es : Exprs) (x : List ℕ) (sp : SpellsAll es x) (p : ℕ) (s : List ℕ)
    → rows_of (tokens p 0 (x ++ s)) ≡ all_rows es x sp p ++ rows_of (tokens (p + length x) 0 s)
rows_before es x sp p s = rw (tokens_all es x sp p s) (all_tokens_rows es x sp p _)

-- the rows of bytes that spell expressions, from place p on
rows_from : (es : Exprs) (s : List ℕ) (sp : SpellsAll es s) (p : ℕ) → rows_of (tokens p 0 s) ≡ all_rows es s sp p
unfolding rows_of tokens
rows_from es s sp p =
    ap (λ (x : List ℕ). rows_of (tokens p 0 x)) (sym (append-nil s)) ∙ rows_before es s sp p [] ∙ append-nil (all_rows es s sp p)

pub spelled_rows : (es : Exprs) (s : List ℕ) (sp : SpellsAll es s) → rows_of (tokens 0 0 s) ≡ all_rows es s sp 0
spelled_rows es s sp = rows_from es s sp 0

-- they are those of the bytes alone, moved by p
mutual
  unfolding expr_rows

  expr_shifted : (e : Expr) (x : List ℕ) (sp : Spells e x) (p q : ℕ) → expr_rows e x sp (p + q) ≡ map (shifted p) (expr_rows e x sp q)
  expr_shifted (atom a) x sp p q = ap (λ (n : ℕ). record { kind = atom_kind a; start = p + q; end = n } ∷ []) (omega arith)
  expr_shifted (form es) x sp p q =
      let next : p + q + 1 ≡ p + (q + 1) = omega arith in
      let end : p + q + length x ≡ p + (q + length x) = omega arith in
      rw (next, end, all_shifted es sp.0 sp.2 p (q + 1))

  all_shifted : (es : Exprs) (x : List ℕ) (sp : SpellsAll es x) (p q : ℕ) → all_rows es x sp (p + q) ≡ map (shifted p) (all_rows es x sp q)
  all_shifted none x sp p q = refl
  all_shifted (more e es) x sp p q =
      let next : p + q + length sp.0 ≡ p + (q + length sp.0) = omega arith in
      rw (next, expr_shifted e sp.0 sp.3 p q, all_shifted es sp.1 sp.4 p (q + length sp.0))
      (sym (map-append (shifted p) (expr_rows e sp.0 sp.3 q) (all_rows es sp.1 sp.4 (q + length sp.0))))

pub rows_shifted : (es : Exprs) (s : List ℕ) → SpellsAll es s → (p : ℕ) → rows_of (tokens p 0 s) ≡ map (shifted p) (rows_of (tokens 0 0 s))
rows_shifted es s sp p =
    let place : p ≡ p + 0 = omega arith in
    rows_from es s sp p ∙ ap (all_rows es s sp) place ∙ all_shifted es s sp p 0 ∙ ap (map (shifted p)) (sym (spelled_rows es s sp))

-- Item

pub expr_first : (e : Expr) (x : List ℕ) (sp : Spells e x) (p : ℕ) (rs : List Row)
    → ((row_at (expr_rows e x sp p ++ rs) 0).start ≡ p) × ((row_at (expr_rows e x sp p ++ rs) 0).end ≡ p + length x)
unfolding expr_rows
expr_first (atom a) x sp p rs = (refl, refl)
expr_first (form es) x sp p rs = (refl, refl)

-- of a buffer that ends with bytes that spell expressions, behind `before`: the k-th, by the rows of these
find : (b : Buffer) (s : List ℕ) (k : ℕ) (es : Exprs) (x : List ℕ) (sp : SpellsAll es x) (before : List ℕ) → s ≡ before ++ x → k < size es
    → SpellsItem b s es k (item b (all_rows es x sp (length before)) k es)
unfolding item size first without expr_rows
find b s zero none x sp before q h = absurd (omega arith)
find b s (suc k) none x sp before q h = absurd (omega arith)
find b s zero (more e es) x sp before q h =
    let one = expr_first e sp.0 sp.3 (length before) (all_rows es sp.1 sp.4 (length before + length sp.0)) in record {
      expr = e;
      asked = refl;
      from = length before;
      to = length before + length sp.0;
      is = rw (one.0, one.1);
      bytes = sp.0;
      piece = record { before = before; behind = sp.1; is = q ∙ ap (λ (z : List ℕ). before ++ z) sp.2; start = refl; end = refl };
      spells = sp.3;
    }
find b s (suc k) (more e es) x sp before q h =
    let y = sp.0 in
    let front = expr_rows e y sp.3 (length before) in
    let place : length before + length y ≡ length (before ++ y) = sym (length-append before y) in
    let split : s ≡ (before ++ y) ++ sp.1 = q ∙ ap (λ (z : List ℕ). before ++ z) sp.2 ∙ sym (append_assoc before y sp.1) in
    let f = find b s k es sp.1 sp.4 (before ++ y) split (omega arith) in
    record {
      expr = f.expr;
      asked = f.asked;
      from = f.from;
      to = f.to;
      is = rw (drop_at front _ (rows e) (expr_rows_count e y sp.3 (length before)), place) f.is;
      bytes = f.bytes;
      piece = f.piece;
      spells = f.spells;
    }

pub item_spelled : (b : Buffer) (s : List ℕ) (es : Exprs) (k : ℕ) (rs : List Row) → SpellsAll es s → rs ≡ rows_of (tokens 0 0 s) → k < size es
    → SpellsItem b s es k (item b rs k es)
item_spelled b s es k rs sp e h = rw (e, spelled_rows es s sp) (find b s k es s sp [] refl h)

pub item_past : (b : Buffer) (k : ℕ) (es : Exprs) (rs : List Row) → size es ≤ k → item b rs k es ≡ no_part
unfolding item size
item_past b zero none rs h = refl
item_past b (suc k) none rs h = refl
item_past b zero (more e es) rs h = absurd (omega arith)
item_past b (suc k) (more e es) rs h = item_past b k es (drop (rows e) rs) (omega arith)
