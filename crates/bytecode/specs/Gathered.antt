-- The flat list in the table: the heights of its forms, which rows are linked, and the expressions that it is gathered to. Document 02, §1.
-- Assumes nothing.
use Rattle.std.specs.Prelude.{ℕ, zero, suc, ◌+◌, ◌≤◌, ◌<◌, ◌≡◌, List, Bool, true, false, eqb, ltb, Result, Ok, Err}
use Rattle.spec.specs.Expr.{when◌then◌else◌, Atom}
use Rattle.spec.specs.Nodes.{Node, leaf, branch, Nodes, empty, cons, elements}
use Rattle.spec.specs.Bytecode.{Operator, led_by_name, if_operator, node_depth, nodes_deepest}
use Rattle.atoms.specs.Refusals.{number}
use Rattle.atoms.specs.declared.refusal.Reason.{Reason}
use Rattle.rows.specs.Rows.{kind, mark, link, next, ReferenceAt, WrittenAt, WrittenAll, is_made, behind}
use Rattle.rows.specs.declared.forms.Form.{Form}
use Rattle.rows.specs.declared.forms.Node.{Node as Ranged}
use Rattle.rows.specs.declared.forms.Node.TheVariants.{Leaf, Branch}
use Rattle.bytecode.specs.Numbers.{child, Changed, Unlinked}
use Rattle.bytecode.specs.Named.{Tree, Roles}
use Rattle.bytecode.specs.declared.arities.Arities.{Arities}

-- Heights

-- a table whose forms can be marked with their heights
pub record Measurable (t : List ℕ) (rows : ℕ) : Type 0 where
  pub stream : List ℕ
  pub nodes : Nodes
  pub written : WrittenAll stream t 0 rows nodes
  pub shallow : nodes_deepest nodes ≤ 64

-- the forms written at rows from one up to another are marked with their heights
pub record Measured (s t : List ℕ) (from to : ℕ) : Type 0 where
  pub marks : (r q : ℕ) (es : Nodes) → from ≤ r → r < to → WrittenAt s t r (branch q es) → mark t r ≡ node_depth (branch q es)

-- the height of what is written at a row, by its mark
abbrev pub height : List ℕ → ℕ → ℕ
height t r = when eqb (kind t r) 1 then mark t r else 0

-- only marks are put, or only links
abbrev pub SameLinks : List ℕ → List ℕ → Type 0
SameLinks t t' = (r : ℕ) → (link t' r ≡ link t r) × (child t' 1 r ≡ child t 1 r)

abbrev pub SameMarks : List ℕ → List ℕ → Type 0
SameMarks t t' = (r : ℕ) → (mark t' r ≡ mark t r) × (child t' 1 r ≡ child t 1 r)

-- only forms are marked
abbrev pub SameOthers : List ℕ → List ℕ → Type 0
SameOthers t t' = (r : ℕ) → (kind t r ≡ 1 → ⊥) → mark t' r ≡ mark t r

-- Links

-- the row behind n expressions that are written from row r on
unfoldable pub beyond : List ℕ → ℕ → ℕ → ℕ
beyond t zero r = r
beyond t (suc n) r = beyond t n (next t r)

-- whether there are fewer than n
unfoldable pub lacks : ℕ → Nodes → Bool
lacks zero es = false
lacks (suc n) empty = true
lacks (suc n) (cons e es) = lacks n es

-- each operator among the expressions from a row on is linked to the row behind its operands, nothing else is; the first k are operands
unfoldable pub GatheredAt : List ℕ → List Operator → ℕ → ℕ → Nodes → Type 0
GatheredAt t os k r empty = Unit {0}
GatheredAt t os zero r (cons e es) =
    (link t r ≡ if_operator os e (λ n. beyond t n (next t r)) 0) × Unlinked t (r + 1) (next t r)
    × GatheredAt t os (if_operator os e (λ n. n) 0) (next t r) es
GatheredAt t os (suc k) r (cons e es) = Unlinked t r (next t r) × GatheredAt t os k (next t r) es

-- the number of a refusal; 0 for none
abbrev pub refusal_of : Result Unit Reason → ℕ
refusal_of (Ok u) = 0
refusal_of (Err r) = number r

-- the tree that the code goes by tells these operators
pub record Tells (s t : List ℕ) (arities : Arities) (os : List Operator) : Type 0 where
  pub to : ℕ
  pub node : ℕ → ℕ
  pub tree : Tree s t arities.tree to node
  pub roles : Roles t node os

-- the flat list from a row up to another before it is gathered; what is put in its rows changes no arity list
pub record FlatAt (s t : List ℕ) (arities : Arities) (first end : ℕ) (os : List Operator) (es : Nodes) : Type 0 where
  pub tells : (t' : List ℕ) → Changed t t' first end → Tells s t' arities os
  pub written : WrittenAll s t first end es
  pub measured : Measured s t first end
  pub unlinked : Unlinked t first end

-- The result

-- an element of a list, flat or not, as it is written or made
pub data PieceAt (s t : List ℕ) (flat : Bool) (r : ℕ) : Node → Type 0 where
  as_written : (e : Node) → is_made t flat r ≡ false → WrittenAt s t r e → PieceAt s t flat r e
  as_made : (es : Nodes) → is_made t flat r ≡ true → ReferenceAt s t r → WrittenAll s t r (link t r) es → PieceAt s t flat r (branch r es)

-- one after the other, from a row up to another
unfoldable pub PiecesAt : List ℕ → List ℕ → Bool → ℕ → ℕ → Nodes → Type 0
PiecesAt s t flat r end empty = r ≡ end
PiecesAt s t flat r end (cons e es) =
    (r < behind t flat r) × (behind t flat r ≤ end) × PieceAt s t flat r e × PiecesAt s t flat (behind t flat r) end es

-- the code's node has these elements
pub data IsPiece (s t : List ℕ) : Ranged → Node → Type 0 where
  an_atom : (q : ℕ) (a : Atom) → IsPiece s t Leaf (leaf q a)
  a_form : (f : Form) (q : ℕ) (es : Nodes) → PiecesAt s t f.flat f.first f.end es → Measured s t f.first f.end
      → IsPiece s t (Branch f) (branch q es)

-- a form that is no flat list, by the code's node
abbrev pub Plain : Ranged → Type 0
Plain Leaf = Unit {0}
Plain (Branch f) = f.flat ≡ false

-- 22: "a result headed by a function or bytecode name"; "then 6, a result of over 64 forms one inside another"; 0 for none
abbrev pub judged : Node → ℕ
judged e = when led_by_name (elements e) then 22 else when ltb 64 (node_depth e) then 6 else 0
