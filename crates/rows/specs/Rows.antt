-- When the rows of a table, with their stream, are nodes: what a row has to say of the expression that it is of.
-- Document 01: "Table". Assumes nothing.
use Rattle.std.specs.Prelude.{ℕ, ◌+◌, ◌*◌, ◌/◌, ◌%◌, ◌≤◌, ◌<◌, ◌≡◌, List, [], ◌∷◌, Bool, true, false, not, ◌&&◌, length, get_or, eqb, ltb, leb}
use Rattle.std.proofs.Math.Seq.{slice}
use Rattle.spec.specs.Expr.{when◌then◌else◌, Atom, ref, if_ref}
use Rattle.spec.specs.Reading.{atom_kind, row_width}
use Rattle.spec.specs.Nodes.{plain, is, Node, leaf, branch, bytecode, Nodes, empty, cons, Outcome, fails, becomes, row, head_word}
use Rattle.laws.specs.Grammar.{SpellsAtom}
use Rattle.rows.specs.declared.forms.Form.{Form}
use Rattle.rows.specs.declared.forms.Operands.{Operands}
use Rattle.rows.specs.declared.forms.Operands.TheVariants.{Empty, Zero, One, Two, More}

-- Rows

-- row r is in the table
abbrev pub RowInside : List ℕ → ℕ → Type 0
RowInside t r = row_width * r + row_width ≤ length t

-- number j of row r of the table: 0 has its kind, 1 its start, 2 is its end, 3 the next row
abbrev pub cell : List ℕ → ℕ → ℕ → ℕ
cell t r j = get_or t (row_width * r + j) 0

abbrev pub kind : List ℕ → ℕ → ℕ
kind t r = cell t r 0 % 256

abbrev pub start : List ℕ → ℕ → ℕ
start t r = cell t r 1 % 65536

abbrev pub next : List ℕ → ℕ → ℕ
next t r = cell t r 3

-- While a stream with bytecode is evaluated, a row has more numbers: a mark and a link above its kind, and one above its start. Else they are 0.
abbrev pub mark : List ℕ → ℕ → ℕ
mark t r = cell t r 0 / 256 % 128

abbrev pub link : List ℕ → ℕ → ℕ
link t r = cell t r 0 / 32768

-- a row of the table, of an expression of that kind in the stream
pub record RowAt (s t : List ℕ) (r kind : ℕ) : Type 0 where
  pub inside : RowInside t r
  pub few : r < 65536
  pub kind_is : cell t r 0 % 256 ≡ kind
  pub starts : start t r < cell t r 2
  pub ends : cell t r 2 ≤ length s
  pub short : length s ≤ 65536

-- an atom's row; an atom has no more than its own
pub record LeafAt (s t : List ℕ) (r : ℕ) (a : Atom) : Type 0 where
  pub row : RowAt s t r (atom_kind a)
  pub spells : SpellsAtom a (slice (start t r) (cell t r 2) s)
  pub on : next t r ≡ r + 1

-- Nodes

-- Written: the nodes as they are read

unfoldable mutual
  -- a node at its row
  pub WrittenAt : List ℕ → List ℕ → ℕ → Node → Type 0
  WrittenAt s t r (leaf q a) = (q ≡ r) × LeafAt s t r a
  WrittenAt s t r (branch q es) = (q ≡ r) × RowAt s t r 1 × WrittenAll s t (r + 1) (next t r) es
  WrittenAt s t r (bytecode q es o) = ⊥

  -- nodes one after the other, from row r up to row `end`
  pub WrittenAll : List ℕ → List ℕ → ℕ → ℕ → Nodes → Type 0
  WrittenAll s t r end empty = r ≡ end
  WrittenAll s t r end (cons e es) = (r < next t r) × (next t r ≤ end) × WrittenAt s t r e × WrittenAll s t (next t r) end es

-- Transformed: the nodes as they are evaluated. In a flat list a row with a link is an operator; with its operands, up to the row that the link
-- tells, it makes a form.

abbrev pub is_made : List ℕ → Bool → ℕ → Bool
is_made t flat r = flat && not (eqb (link t r) 0)

-- the row behind the element at a row of a list
abbrev pub behind : List ℕ → Bool → ℕ → ℕ
behind t flat r = when is_made t flat r then link t r else next t r

-- the form that is written at a row, or that is made of the operator there
abbrev pub written : List ℕ → ℕ → Form
written t r = record { first = r + 1; end = next t r; flat = false }

abbrev pub form_at : List ℕ → Bool → ℕ → Form
form_at t flat r = when is_made t flat r then record { first = r; end = link t r; flat = false } else written t r

-- the row of a reference
pub record ReferenceAt (s t : List ℕ) (r : ℕ) : Type 0 where
  pub marker : ℕ
  pub name : ℕ
  pub leaf_at : LeafAt s t r (ref marker name)

-- a form begins at a row of a list, written or made
pub record Opens (s t : List ℕ) (flat : Bool) (r : ℕ) : Type 0 where
  pub by_row : is_made t flat r ≡ false → RowAt s t r 1
  pub by_operator : is_made t flat r ≡ true → ReferenceAt s t r

-- whether a form's head is a reference
abbrev pub led_by_reference : Nodes → Bool
led_by_reference empty = false
led_by_reference (cons (leaf r a) es) = if_ref a (λ m n. true) false
led_by_reference (cons (branch r fs) es) = false
led_by_reference (cons (bytecode r fs o) es) = false

-- A bytecode form's head has a mark: 1 if the flat list is what follows the head, 2 if it is what follows the arity list, else a refusal's
-- number. The head of another form has none.
abbrev pub Unmarked : List ℕ → ℕ → Nodes → Type 0
Unmarked t r es = led_by_reference es ≡ true → mark t r ≡ 0

abbrev pub flat_first : List ℕ → Form → ℕ
flat_first t f = when eqb (mark t f.first) 2 then next t (f.first + 1) else f.first + 1

-- the flat list of a bytecode form
abbrev pub flat_of : List ℕ → Form → Form
flat_of t f = record { first = flat_first t f; end = f.end; flat = true }

-- a flat list is one expression
abbrev pub single : List ℕ → Form → Bool
single t g = ltb g.first g.end && leb g.end (behind t true g.first)

-- the rows of the expressions that are written from row r up to row `end`
unfoldable pub RowsAt : List ℕ → ℕ → ℕ → List ℕ → Type 0
RowsAt t r end [] = r ≡ end
RowsAt t r end (q ∷ qs) =
    (q ≡ r) × RowInside t r × (r < next t r) × (next t r ≤ end) × RowsAt t (next t r) end qs

unfoldable mutual
  -- a node at its row, which is one of a list, flat or not
  pub NodeAt : List ℕ → List ℕ → Bool → ℕ → Node → Type 0
  NodeAt s t flat r (leaf q a) = (q ≡ r) × (is_made t flat r ≡ false) × LeafAt s t r a
  NodeAt s t flat r (branch q es) =
      (q ≡ r) × Opens s t flat r × Unmarked t (form_at t flat r).first es × NodesAt s t false (form_at t flat r).first (form_at t flat r).end es
  NodeAt s t flat r (bytecode q es o) =
      (q ≡ r) × Opens s t flat r × (led_by_reference es ≡ true) × (is (head_word es) plain ≡ true)
      × WrittenAll s t (form_at t flat r).first (form_at t flat r).end es × OutcomeAt s t r (form_at t flat r) o

  -- nodes one after the other, from row r up to row `end`
  pub NodesAt : List ℕ → List ℕ → Bool → ℕ → ℕ → Nodes → Type 0
  NodesAt s t flat r end empty = r ≡ end
  NodesAt s t flat r end (cons e es) =
      (r < behind t flat r) × (behind t flat r ≤ end) × NodeAt s t flat r e × NodesAt s t flat (behind t flat r) end es

  -- what a bytecode form with the place of a row is transformed to
  pub OutcomeAt : List ℕ → List ℕ → ℕ → Form → Outcome → Type 0
  OutcomeAt s t place f (fails w) = (mark t f.first ≡ w) × (2 < w)
  OutcomeAt s t place f (becomes rows e) =
      (0 < mark t f.first) × (mark t f.first ≤ 2) × (mark t f.first ≡ 2 → RowInside t (f.first + 1))
      × RowsAt t (flat_first t f) f.end rows × ResultAt s t place (flat_of t f) e

  -- the result of a flat list, with its form's place: one expression, or the form of all, not headed by a function name
  pub ResultAt : List ℕ → List ℕ → ℕ → Form → Node → Type 0
  ResultAt s t place g (leaf q a) = (q ≡ place) × (single t g ≡ true) × (is_made t true g.first ≡ false) × LeafAt s t g.first a
  ResultAt s t place g (branch q es) =
      (q ≡ place) × (is (head_word es) plain ≡ true)
      × (single t g ≡ true → Opens s t true g.first × NodesAt s t false (form_at t true g.first).first (form_at t true g.first).end es)
      × (single t g ≡ false → NodesAt s t true g.first g.end es)
  ResultAt s t place g (bytecode q es o) = ⊥

-- the rows of a form's elements behind its head, of more than two those of the first two
abbrev pub operands_of : Nodes → Operands
operands_of empty = Empty
operands_of (cons h empty) = Zero
operands_of (cons h (cons a empty)) = One (row a)
operands_of (cons h (cons a (cons b empty))) = Two (row a) (row b)
operands_of (cons h (cons a (cons b (cons c es)))) = More (row a) (row b)

-- Keys

-- a reference's marker and name in one number
abbrev pub key_of : ℕ → ℕ → ℕ
key_of m n = m * 256 + n
