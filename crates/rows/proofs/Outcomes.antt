-- Laws of what a bytecode form is transformed to, by its rows: the expressions of its flat list one after the other, and the result.
-- Document 02, §1. Assumes nothing.
use Prim.Native.Nat.{ℕ, ◌+◌, ◌≤◌, ◌<◌}
use mathlib.Core.Path.{◌≡◌, refl, ap}
use mathlib.Core.List.{List, [], ◌∷◌}
use mathlib.Core.Bool.{Bool, true, false}
use lib.ListN.{length, drop, get_or, length-drop}
use native.Mathlib.Omega.{arith}
use Rattle.spec.specs.Expr.{Atom}
use Rattle.spec.specs.Nodes.{plain, is as is_word, Node, leaf, branch, bytecode, Nodes, empty, cons, fails, becomes, row, head_word}
use Rattle.spec.proofs.Made.{each_row}
use Rattle.atoms.proofs.Places.{first_left}
use Rattle.rows.specs.Rows.{RowInside, mark, next, LeafAt, WrittenAt, WrittenAll, form_at, flat_first, flat_of, single, RowsAt, NodeAt, NodesAt, OutcomeAt, ResultAt}
use Rattle.rows.specs.Forms.{result_at, HeadInside, IsResult, is_leaf, is_branch}
use Rattle.rows.specs.declared.forms.Form.{Form}
use Rattle.rows.specs.declared.forms.Node.TheVariants.{Leaf, Branch}
use Rattle.rows.proofs.Nodes.{written_row, written_whole, opens_whole, nodes_more, more_whole}
use Rattle.rows.proofs.Parts.{form_unflat, leaf_element, opens_element}

-- The flat list

-- rows of which there is one more, row r
pub record MoreRows (t : List ℕ) (r end : ℕ) (qs : List ℕ) : Type 0 where
  pub rest : List ℕ
  pub is : qs ≡ r ∷ rest
  pub rows : RowsAt t (next t r) end rest
  pub whole : RowInside t r
  pub forward : r < next t r
  pub inside : next t r ≤ end

module _ (t : List ℕ) (r end : ℕ) where
  pub rows_done : (qs : List ℕ) → RowsAt t r end qs → end ≤ r → qs ≡ []
  unfolding RowsAt
  rows_done [] h l = refl
  rows_done (q ∷ qs) h l = absurd (omega (arith, h.2, h.3))

  pub rows_more : (qs : List ℕ) → RowsAt t r end qs → r < end → MoreRows t r end qs
  unfolding RowsAt
  rows_more [] h l = absurd (omega arith)
  rows_more (q ∷ qs) h l = record { rest = qs; is = rw h.0; rows = h.4; whole = h.1; forward = h.2; inside = h.3 }

-- n of the rows are passed, and the others are from row r on
pub record RowsFrom (t : List ℕ) (end : ℕ) (qs : List ℕ) (r n : ℕ) : Type 0 where
  pub rows : RowsAt t r end (drop n qs)
  pub few : n ≤ length qs

-- row r is the next of them
pub record NextRow (t : List ℕ) (end : ℕ) (qs : List ℕ) (r n : ℕ) : Type 0 where
  pub is : get_or qs n 0 ≡ r
  pub whole : RowInside t r
  pub forward : r < next t r
  pub inside : next t r ≤ end
  pub passed : RowsFrom t end qs (next t r) (n + 1)

module _ {t : List ℕ} {end : ℕ} {qs : List ℕ} where
  pub rows_from : {r : ℕ} → RowsAt t r end qs → RowsFrom t end qs r 0
  rows_from h = record { rows = h; few = omega arith }

  pub rows_past : {r n : ℕ} → RowsFrom t end qs r n → end ≤ r → n ≡ length qs
  rows_past {r} {n} f l = omega (arith, f.few, length-drop n qs, ap length (rows_done t r end (drop n qs) f.rows l))

  pub rows_left : {r n : ℕ} → RowsFrom t end qs r n → r < end → n < length qs
  rows_left {r} {n} f l = let m = rows_more t r end (drop n qs) f.rows l in omega (arith, length-drop n qs, ap length m.is)

  pub rows_next : {r n : ℕ} → RowsFrom t end qs r n → n < length qs → NextRow t end qs r n
  unfolding RowsAt
  rows_next {r} {n} f l =
      let h = rw (first_left qs n l) at f.rows in
      record { is = h.0; whole = h.1; forward = h.2; inside = h.3; passed = record { rows = h.4; few = omega arith } }

-- the rows of written expressions
pub written_rows : (s t : List ℕ) (r end : ℕ) (es : Nodes) → WrittenAll s t r end es → RowsAt t r end (each_row es)
unfolding WrittenAt RowsAt each_row
written_rows s t r end empty h = h
written_rows s t r end (cons e es) h =
    (written_row s t r e h.2, (written_whole s t r e h.2).0, h.0, h.1, written_rows s t (next t r) end es h.3)

-- The outcome

-- a form's flat list, and its result
pub record BecomesAt (s t : List ℕ) (place : ℕ) (f : Form) (rows : List ℕ) (e : Node) : Type 0 where
  pub marked : 0 < mark t f.first
  pub fine : mark t f.first ≤ 2
  pub list : mark t f.first ≡ 2 → RowInside t (f.first + 1)
  pub rows_at : RowsAt t (flat_first t f) f.end rows
  pub result : ResultAt s t place (flat_of t f) e

module _ (s t : List ℕ) (place : ℕ) (f : Form) where
  pub fails_at : (w : ℕ) → OutcomeAt s t place f (fails w) → (mark t f.first ≡ w) × (2 < w)
  unfolding NodeAt
  fails_at w h = h

  pub becomes_at : (rows : List ℕ) (e : Node) → OutcomeAt s t place f (becomes rows e) → BecomesAt s t place f rows e
  unfolding NodeAt
  becomes_at rows e h = record { marked = h.0; fine = h.1; list = h.2; rows_at = h.3; result = h.4 }

-- The result of a flat list

module _ (s t : List ℕ) (place : ℕ) (g : Form) where
  pub result_place : (e : Node) → ResultAt s t place g e → row e ≡ place
  unfolding NodeAt
  result_place (leaf q a) h = h.0
  result_place (branch q es) h = h.0
  result_place (bytecode q es o) h = absurd h

  pub result_inside : (e : Node) → ResultAt s t place g e → HeadInside t g
  unfolding NodeAt
  result_inside (leaf q a) h = λ l. (h.3.row.inside, h.3.row.few)
  result_inside (branch q es) h = go (single t g) refl
    where
      go : (b : Bool) → single t g ≡ b → HeadInside t g
      go true e = λ l. opens_whole (h.2 e).0
      go false e = λ l. more_whole s t true g.first (nodes_more s t true g.first g.end es (h.3 e) l)
  result_inside (bytecode q es o) h = absurd h

  pub result_is : g.flat ≡ true → (e : Node) → ResultAt s t place g e → IsResult s t g.first place (result_at t g) e
  unfolding NodeAt
  result_is f (leaf q a) h = rw (h.1, leaf_element s t true g.first a h.2 h.3, h.0) (is_leaf a h.3)
  result_is f (branch q es) h = go (single t g) refl
    where
      go : (b : Bool) → single t g ≡ b → IsResult s t g.first place (result_at t g) (branch q es)
      go true e =
          rw (e, opens_element s t true g.first (h.2 e).0, h.0)
          (is_branch (form_at t true g.first) es (rw (form_unflat s t true g.first) (h.2 e).1) h.1)
      go false e = rw (e, h.0) (is_branch g es (rw f (h.3 e)) h.1)
  result_is f (bytecode q es o) h = absurd h

-- a result that is a form
pub record ResultForm (s t : List ℕ) (place : ℕ) (f : Form) (e : Node) : Type 0 where
  pub nodes : Nodes
  pub is : e ≡ branch place nodes
  pub at : NodesAt s t f.flat f.first f.end nodes
  pub headed : is_word (head_word nodes) plain ≡ true

module _ {s t : List ℕ} {r place : ℕ} where
  pub result_form : {f : Form} {e : Node} → IsResult s t r place (Branch f) e → ResultForm s t place f e
  result_form (is_branch f es h p) = record { nodes = es; is = refl; at = h; headed = p }

  pub result_leaf : {e : Node} → IsResult s t r place Leaf e → (a : Atom) × (e ≡ leaf place a) × LeafAt s t r a
  result_leaf (is_leaf a l) = (a, refl, l)
