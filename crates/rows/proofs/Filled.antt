-- The rows that reading leaves in a table are the nodes of what it read: the rows and the bytes of every expression, from the first to the
-- last. Document 01: "Table". Assumes nothing.
use Prim.Native.Nat.{ℕ, zero, suc, ◌+◌, ◌-◌, ◌*◌, ◌≤◌, ◌<◌}
use mathlib.Core.Path.{◌≡◌, refl, sym, ap, ◌∙◌}
use mathlib.Core.List.{List, [], ◌∷◌, ◌++◌, append_assoc, append-nil}
use mathlib.Core.Bool.{false}
use lib.ListN.{length, take, drop, get_or, length-append, length-drop, get_or-append}
use lib.Seq.{slice, take_at, get_or-drop, drop-drop}
use borrow.Author.Tests.{lt-leb, le-leb}
use native.Mathlib.Omega.{arith}
use Rattle.spec.specs.Expr.{Atom, nil, array, int, ref, Expr, atom, form, Exprs, none, more, rows, rows_all}
use Rattle.spec.specs.Reading.{Token, opening, closing, whole, unfinished, bad, tokens, atom_kind, Row, rows_of, next_row, row_width, numbers, readable, read}
use Rattle.spec.specs.Nodes.{number, number_all}
use Rattle.spec.specs.Calls.{filled, row_at}
use Rattle.laws.specs.Demands.{Bytes}
use Rattle.laws.specs.Sanity.{Inside}
use Rattle.laws.specs.Grammar.{Spells, SpellsAll, expr_rows, all_rows}
use Rattle.laws.proofs.Spelling.{front}
use Rattle.laws.proofs.Tokens.{tokens_few}
use Rattle.laws.proofs.Rows.{four, rows_few, rows_inside, numbers_at, numbers_length}
use Rattle.laws.proofs.Reading.{stream_laid, read_readable, read_meant}
use Rattle.laws.proofs.Parsing.{read_spells}
use Rattle.laws.proofs.Steps.{split_size, split_rest}
use Rattle.laws.proofs.Items.{spelled_rows}
use Rattle.rows.specs.Rows.{cell, kind, start, next, RowAt, WrittenAt, WrittenAll, NodesAt}
use Rattle.rows.proofs.Slices.{slice_take}
use Rattle.rows.proofs.Written.{written_nodes}

-- The table

filled_cell : (rs : List Row) (t : List ℕ) (r j : ℕ) → r < length rs → j < 4 → cell (filled rs t) r j ≡ get_or (four rs (row_at rs r)) j 0
filled_cell rs t r j h k =
    get_or-append (numbers rs rs) (drop (length (numbers rs rs)) t) 0 (row_width * r + j) (omega (arith, numbers_length rs rs))
    ∙ numbers_at (record { kind = 0; start = 0; end = 0 }) rs rs r j h k

pub filled_whole : (rs : List Row) (t : List ℕ) (r : ℕ) → r < length rs → row_width * r + row_width ≤ length (filled rs t)
filled_whole rs t r h =
    omega (arith, numbers_length rs rs, length-append (numbers rs rs) (drop (length (numbers rs rs)) t))

-- Its rows

atom_low : (a : Atom) → atom_kind a ≤ 4
atom_low nil = omega arith
atom_low (array bs) = omega arith
atom_low (int v) = omega arith
atom_low (ref m n) = omega arith

kinds_low : (ts : List Token) (i : ℕ) → (row_at (rows_of ts) i).kind < 256
unfolding rows_of
kinds_low [] i = omega arith
kinds_low (opening p ∷ ts) zero = omega arith
kinds_low (opening p ∷ ts) (suc i) = kinds_low ts i
kinds_low (closing p ∷ ts) i = kinds_low ts i
kinds_low (whole a p e ∷ ts) zero = omega (arith, atom_low a)
kinds_low (whole a p e ∷ ts) (suc i) = kinds_low ts i
kinds_low (unfinished p ∷ ts) i = kinds_low ts i
kinds_low (bad w p ∷ ts) i = kinds_low ts i

starts_low : (end : ℕ) (rs : List Row) → Inside end rs → (i : ℕ) → i < length rs → (row_at rs i).start < end
starts_low end [] h i l = absurd (omega arith)
starts_low end (r ∷ rs) h zero l = omega arith
starts_low end (r ∷ rs) h (suc i) l = starts_low end rs h.2 i (omega arith)

-- Rows from one on

-- no row starts before `lo`
abbrev From : ℕ → List Row → Type 0
From lo rs = (q : ℕ) → q ≤ lo → next_row q rs ≡ 0

from_expr : (e : Expr) (x : List ℕ) (sp : Spells e x) (p : ℕ) (back : List Row) → From p (expr_rows e x sp p ++ back)
unfolding expr_rows next_row
from_expr (atom a) x sp p back q h = rw (le-leb q p h)
from_expr (form es) x sp p back q h = rw (le-leb q p h)

from_all : (es : Exprs) (x : List ℕ) (sp : SpellsAll es x) (p : ℕ) (back : List Row) → From (p + length x) back → From p (all_rows es x sp p ++ back)
unfolding expr_rows
from_all none x sp p back h = λ q l. h q (omega arith)
from_all (more e es) x sp p back h = rw append_assoc (from_expr e sp.0 sp.3 p (all_rows es sp.1 sp.4 (p + length sp.0) ++ back))

module _ (s t : List ℕ) (all : List Row) (short : length s ≤ 65536) (few : length all ≤ 65536)
    (numbered : (r j : ℕ) → r < length all → j < 4 → cell t r j ≡ get_or (four all (row_at all r)) j 0)
    (whole : (r : ℕ) → r < length all → row_width * r + row_width ≤ length t) where
  -- at place p: `rest` are the rows from row r on, those before it start before p, and u are the bytes
  record At (p r : ℕ) (rest : List Row) (u : List ℕ) : Type 0 where
    is : drop r all ≡ rest
    left : (q : ℕ) → p ≤ q → next_row q all ≡ r + next_row q rest
    bytes : drop p s ≡ u

  -- past bytes, and past a row that starts before them
  on : {p q r k : ℕ} {rest : List Row} (x : List ℕ) {u : List ℕ} → q ≡ p + length x → k ≡ r → At p r rest (x ++ u) → At q k rest u
  on {p = p} x {u} h e a = record {
    is = rw e a.is;
    left = λ j g. rw e (a.left j (omega arith));
    bytes = rw h (sym (split_rest s p x u a.bytes));
  }

  past : {p r : ℕ} {row : Row} {rest : List Row} {u : List ℕ} → At p r (row ∷ rest) u → row.start < p → At p (r + 1) rest u
  unfolding next_row
  past {r = r} {row} a h = record {
    is = sym (drop-drop 1 r all) ∙ ap (drop 1) a.is;
    left = λ q g. a.left q g ∙ rw (lt-leb q row.start (omega arith)) (omega arith);
    bytes = a.bytes;
  }

  -- the row of an expression that the bytes x spell
  abbrev spelled_row : ℕ → ℕ → List ℕ → Row
  spelled_row kind p x = record { kind = kind; start = p; end = p + length x }

  -- what row r says
  stands : {p r : ℕ} (kind : ℕ) {rest : List Row} (x u : List ℕ) → kind < 256 → 1 ≤ length x → At p r (spelled_row kind p x ∷ rest) (x ++ u)
      → RowAt s t r kind × (slice (start t r) (cell t r 2) s ≡ x) × (next t r ≡ next_row (p + length x) all)
  stands {p} {r} kind x u low-kind some a =
      let low : r < length all = omega (arith, length-drop r all, ap length a.is) in
      let same : row_at all r ≡ spelled_row kind p x =
      ap (λ (k : ℕ). row_at all k) (omega arith) ∙ sym (get_or-drop r all 0 _) ∙ ap (λ (l : List Row). row_at l 0) a.is in
      let own : (j : ℕ) → j < 4 → cell t r j ≡ get_or (four all (spelled_row kind p x)) j 0 =
      λ j h. numbered r j low h ∙ ap (λ (y : Row). get_or (four all y) j 0) same in
      let of_kind = own 0 (omega arith) in
      let place = own 1 (omega arith) in
      let to = own 2 (omega arith) in
      let ends = split_size s p x u a.bytes in
      let from : start t r ≡ p = omega arith in (
        record { inside = whole r low; few = omega arith; kind_is = omega arith; starts = omega arith; ends = omega arith; short = short },
        rw (from, to) (slice_take p (p + length x) s ∙ ap (take (p + length x - p)) a.bytes ∙ take_at x u (p + length x - p) (omega arith)),
        own 3 (omega arith),
      )

  mutual
    unfolding expr_rows rows number WrittenAt

    node_at : (e : Expr) (x : List ℕ) (sp : Spells e x) (p r : ℕ) (back : List Row) (u : List ℕ) → From (p + length x) back
        → At p r (expr_rows e x sp p ++ back) (x ++ u)
        → At (p + length x) (r + rows e) back u × WrittenAt s t r (number r e) × (next t r ≡ r + rows e) × (1 ≤ rows e)
    node_at (atom c) x sp p r back u b a =
        let size = ap length (front c x sp).is in
        let row = stands (atom_kind c) x u (omega (arith, atom_low c)) (omega arith) a in
        let after = past (on x refl refl a) (omega arith) in
        let step : next t r ≡ r + 1 = omega (arith, row.2, after.left (p + length x) (omega arith), b (p + length x) (omega arith)) in
        (after, (refl, record { row = row.0; spells = rw row.1 sp; on = step }), step, omega arith)
    node_at (form es) x sp p r back u b a =
        let y = sp.0 in
        let size : length x ≡ 2 + length y = ap length sp.1 ∙ simp length-append (omega arith) in
        let row = stands 1 x u (omega arith) (omega arith) a in
        let begin = past (on (0x01 ∷ []) refl refl (rw (sp.1, append_assoc y (0x02 ∷ []) u) at a)) (omega arith) in
        let inner = nodes_at es y sp.2 (p + 1) (r + 1) back (0x02 ∷ u) (λ q l. b q (omega arith)) begin in
        let after : At (p + length x) (r + (1 + rows_all es)) back u = on (0x02 ∷ []) (omega arith) (omega arith) inner.0 in
        let step : next t r ≡ r + 1 + rows_all es =
        omega (arith, row.2, after.left (p + length x) (omega arith), b (p + length x) (omega arith)) in
        (after, (refl, row.0, rw step inner.1), omega arith, omega arith)

    nodes_at : (es : Exprs) (x : List ℕ) (sp : SpellsAll es x) (p r : ℕ) (back : List Row) (u : List ℕ) → From (p + length x) back
        → At p r (all_rows es x sp p ++ back) (x ++ u)
        → At (p + length x) (r + rows_all es) back u × WrittenAll s t r (r + rows_all es) (number_all r es)
    nodes_at none x sp p r back u b a = (on x refl (omega arith) a, omega arith)
    nodes_at (more e es) x sp p r back u b a =
        let y = sp.0 in
        let z = sp.1 in
        let size : length x ≡ length y + length z = ap length sp.2 ∙ length-append y z in
        let others = all_rows es z sp.4 (p + length y) in
        let here = rw (append_assoc (expr_rows e y sp.3 p) others back, sp.2, append_assoc y z u) at a in
        let from = from_all es z sp.4 (p + length y) back (λ q l. b q (omega arith)) in
        let first = node_at e y sp.3 p r (others ++ back) (z ++ u) from here in
        let rest = nodes_at es z sp.4 (p + length y) (r + rows e) back u (λ q l. b q (omega arith)) first.0 in
        let end : r + (rows e + rows_all es) ≡ r + rows e + rows_all es = omega arith in
        (on [] (omega arith) end rest.0, (omega arith, omega arith, first.1, rw (first.2, end) rest.1))

module _ (s t : List ℕ) (room : ℕ) (rs : List Row) (es : Exprs) (b : Bytes s) (h : read s room ≡ readable rs es) where
  pub filled_written : WrittenAll s (filled rs t) 0 (length rs) (number_all 0 es)
  filled_written =
      let r = read_readable s room rs es h in
      let sp = read_spells s room rs es b h in
      let few : length rs ≤ 65536 = omega (arith, ap length r.rows_are, rows_few (tokens 0 0 s), tokens_few s 0 0, r.short) in
      let own : rs ≡ all_rows es s sp 0 ++ [] = r.rows_are ∙ spelled_rows es s sp ∙ sym (append-nil (all_rows es s sp 0)) in
      let count : length rs ≡ 0 + rows_all es = omega (arith, (read_meant s room rs es b r).counted) in
      rw count
      (nodes_at s (filled rs t) rs r.short few (filled_cell rs t) (filled_whole rs t) es s sp 0 0 [] [] (λ q l. unfold next_row in refl)
      (record { is = own; left = λ q g. ap (next_row q) own ∙ omega arith; bytes = sym (append-nil s) })).1

  -- rows have no numbers besides
  pub filled_plain : (r : ℕ) → r < length rs → (cell (filled rs t) r 0 < 256) × (cell (filled rs t) r 1 < 65536)
  filled_plain r l =
      let k = read_readable s room rs es h in
      let low : (row_at rs r).kind < 256 = rw k.rows_are (kinds_low (tokens 0 0 s) r) in
      let inside : Inside (length s) rs = rw k.rows_are (rows_inside (length s) k.well 0 (stream_laid s b)) in (
        omega (arith, filled_cell rs t r 0 l (omega arith), low),
        omega (arith, filled_cell rs t r 1 l (omega arith), starts_low (length s) rs inside r l, k.short),
      )

  pub filled_starts : (r : ℕ) → r < length rs → start (filled rs t) r ≡ (row_at rs r).start
  filled_starts r l = omega (arith, filled_plain r l, filled_cell rs t r 1 l (omega arith))

  -- a stream that has no bytecode is evaluated as it is written
  pub filled_nodes : NodesAt s (filled rs t) false 0 (length rs) (number_all 0 es)
  filled_nodes = written_nodes s (filled rs t) 0 (length rs) (number_all 0 es) (λ r l. omega (arith, filled_plain r l)) filled_written
