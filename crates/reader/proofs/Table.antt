-- The second pass as a function of the tokens: what it leaves in the table, and that these are the rows. Document 01: "Table". Assumes nothing.
use Prim.Native.Nat.{ℕ, suc, ◌+◌, ◌-◌, ◌*◌, ◌≤◌, ◌<◌}
use mathlib.Core.Path.{◌≡◌, refl, sym, ap, ◌∙◌}
use mathlib.Core.List.{List, [], ◌∷◌}
use lib.ListN.{length, get_or, set, drop}
use lib.Seq.{set_comm, sets, sets-eq}
use borrow.Author.Tests.{lt-leb}
use native.Mathlib.Omega.{arith}
use native.Mathlib.Nat.{zero-add}
use native.Mathlib.Numerals.{add-one, towards_suc}
use Rattle.spec.specs.Reading.{Token, opening, closing, whole, unfinished, bad, tokens, atom_kind, Row, ends, rows_of, next_row, row_width, numbers}
use Rattle.spec.specs.Calls.{filled}
use Rattle.laws.specs.Demands.{Bytes}
use Rattle.laws.proofs.Tokens.{Right, right_end, right_opening, right_closing, right_whole, right_first, Laid}
use Rattle.laws.proofs.Rows.{rows_ordered, next_row_here, numbers_length}
use Rattle.laws.proofs.Reading.{stream_laid}
use Rattle.reader.specs.Passes.{row_started, row_ended}

-- the table after the tokens; before them n rows are taken, and `forms` are the rows of the open forms, the innermost first
unfoldable pub written : List Token → List ℕ → ℕ → List ℕ → List ℕ
written [] forms n t = t
written (opening p ∷ ts) forms n t = written ts (n ∷ forms) (n + 1) (row_started t n 1 p)
written (closing p ∷ ts) [] n t = t
written (closing p ∷ ts) (r ∷ forms) n t = written ts forms n (row_ended t r (p + 1) n)
written (whole a p e ∷ ts) forms n t = written ts forms (n + 1) (row_ended (row_started t n (atom_kind a) p) n e (n + 1))
written (unfinished p ∷ ts) forms n t = t
written (bad w p ∷ ts) forms n t = t

-- numbers that are below n
abbrev pub Below : ℕ → List ℕ → Type 0
Below n [] = Unit {0}
Below n (r ∷ rs) = (r < n) × Below n rs

pub below_more : (n : ℕ) (rs : List ℕ) → Below n rs → Below (n + 1) rs
below_more n [] b = tt
below_more n (r ∷ rs) b = (omega (arith, b.0), below_more n rs b.1)

-- Stores

-- a store before a run of stores may as well come after it
sets_before : (t : List ℕ) (x v i : ℕ) (vs : List ℕ) → x < i → sets (set t x v) i vs ≡ set (sets t i vs) x v
sets_before t x v i [] h = refl
sets_before t x v i (w ∷ vs) h = rw (set_comm t x i v w (λ e. omega arith)) (sets_before (set t i w) x v (suc i) vs (omega arith))

ended_before : (t : List ℕ) (r e m n : ℕ) (vs : List ℕ) → r < n
    → sets (row_ended t r e m) (row_width * n) vs ≡ row_ended (sets t (row_width * n) vs) r e m
ended_before t r e m n vs h =
    sets_before (set t (row_width * r + 2) e) (row_width * r + 3) m (row_width * n) vs (omega arith)
    ∙ ap (λ (y : List ℕ). set y (row_width * r + 3) m) (sets_before t (row_width * r + 2) e (row_width * n) vs (omega arith))

-- a row, then the numbers of others
row_then : (t : List ℕ) (n kind start end next : ℕ) (vs : List ℕ)
    → sets (row_ended (row_started t n kind start) n end next) (row_width * (n + 1)) vs ≡ sets t (row_width * n) (kind ∷ start ∷ end ∷ next ∷ vs)
row_then t n kind start end next vs =
    let after : row_width * (n + 1) ≡ suc (suc (suc (suc (row_width * n)))) = omega arith in rw after (simp towards_suc)

-- Next rows

next_row_past : (e n : ℕ) (r : Row) (rs : List Row) → r.start < e → n + next_row e (r ∷ rs) ≡ n + 1 + next_row e rs
unfolding next_row
next_row_past e n r rs h = rw (lt-leb e r.start h) (omega arith)

-- Tokens

-- a table with the last two numbers of open forms, whose ends come in the order of the forms
abbrev ended : List Row → List ℕ → List ℕ → List ℕ → List ℕ
ended all [] es t = t
ended all (r ∷ forms) es t = ended all forms (drop 1 es) (row_ended t r (get_or es 0 0) (next_row (get_or es 0 0) all))

module _ (end room : ℕ) (all : List Row) where
  -- of all rows, those from row n on are the tokens', and those before it start before p
  abbrev FirstLeft : ℕ → ℕ → List Token → Type 0
  FirstLeft p n ts = (e : ℕ) → p ≤ e → next_row e all ≡ n + next_row e (rows_of ts)

  next_left : (ts : List Token) (p d n : ℕ) → Laid p ts end → Right room ts d n → FirstLeft p n ts → next_row p all ≡ n
  next_left ts p d n l c h = omega (arith, h p (omega arith), next_row_here p (rows_of ts) (rows_ordered end c p l))

  -- the tokens' rows are written, and the open forms have their ends
  written_rows : (ts : List Token) (p : ℕ) (forms : List ℕ) (n : ℕ) (t : List ℕ) → Laid p ts end → Right room ts (length forms) n
      → Below n forms → FirstLeft p n ts
      → written ts forms n t ≡ ended all forms (ends ts) (sets t (row_width * n) (numbers all (rows_of ts)))
  unfolding written ends rows_of numbers
  written_rows [] p [] n t l c b h = refl
  written_rows [] p (r ∷ forms) n t l c b h = absurd (omega (arith, right_end c))
  written_rows (opening q ∷ ts) p forms n t l c b h =
      let k = rw (add-one (length forms)) at (right_opening c).2 in
      let left : FirstLeft (q + 1) (n + 1) ts = λ x g. h x (omega arith) ∙ next_row_past x n _ (rows_of ts) (omega arith) in
      let e = get_or (ends ts) 0 0 in
      let others = numbers all (rows_of ts) in
      written_rows ts (q + 1) (n ∷ forms) (n + 1) (row_started t n 1 q) l.1 k (omega arith, below_more n forms b) left
      ∙ ap (ended all forms (drop 1 (ends ts)))
      (sym (ended_before (row_started t n 1 q) n e (next_row e all) (n + 1) others (omega arith)) ∙ row_then t n 1 q e (next_row e all) others)
  written_rows (closing q ∷ ts) p [] n t l c b h = absurd (omega (arith, (right_closing c).0))
  written_rows (closing q ∷ ts) p (r ∷ forms) n t l c b h =
      let back : suc (length forms) - 1 ≡ length forms = omega arith in
      let k = rw back at (right_closing c).1 in
      let left : FirstLeft (q + 1) n ts = λ x g. h x (omega arith) in
      written_rows ts (q + 1) forms n (row_ended t r (q + 1) n) l.1 k b.1 left
      ∙ rw (next_left ts (q + 1) _ n l.1 k left)
      (ap (ended all forms (ends ts)) (ended_before t r (q + 1) n n (numbers all (rows_of ts)) b.0))
  written_rows (whole a q e ∷ ts) p forms n t l c b h =
      let k = (right_whole c).1 in
      let left : FirstLeft e (n + 1) ts = λ x g. h x (omega arith) ∙ next_row_past x n _ (rows_of ts) (omega arith) in
      written_rows ts e forms (n + 1) (row_ended (row_started t n (atom_kind a) q) n e (n + 1)) l.4 k (below_more n forms b) left
      ∙ rw (next_left ts e _ (n + 1) l.4 k left)
      (ap (ended all forms (ends ts)) (row_then t n (atom_kind a) q e (n + 1) (numbers all (rows_of ts))))
  written_rows (unfinished q ∷ ts) p forms n t l c b h = absurd (right_first c)
  written_rows (bad w q ∷ ts) p forms n t l c b h = absurd (right_first c)

pub written_filled : (s t : List ℕ) (room : ℕ) → Bytes s → Right room (tokens 0 0 s) 0 0
    → row_width * length (rows_of (tokens 0 0 s)) ≤ length t → written (tokens 0 0 s) [] 0 t ≡ filled (rows_of (tokens 0 0 s)) t
written_filled s t room b c h =
    let all = rows_of (tokens 0 0 s) in
    written_rows (length s) room all (tokens 0 0 s) 0 [] 0 t (stream_laid s b) c tt (λ e g. omega arith)
    ∙ simp zero-add at (sets-eq (numbers all all) t 0 (omega (arith, numbers_length all all)))
