-- What the code's words, forms and nodes are, in the definitions' terms. Document 01: "Names of the core namespace", "Table". Assumes nothing.
use Rattle.std.specs.Prelude.{ℕ, ◌+◌, ◌/◌, ◌%◌, ◌<◌, ◌≡◌, List, Bool, true, false, not, ◌&&◌, ◌||◌, eqb, ltb}
use Rattle.spec.specs.Expr.{when◌then◌else◌, some, Atom, if_ref}
use Rattle.spec.specs.Nodes.{core, Word, ns, define, concat, subst, arg, rest, plain, is, word, Node, leaf, branch, bytecode, Nodes, empty, cons, Outcome, head_word}
use Rattle.spec.specs.Bytecode.{bytecode_names, is_name}
use Rattle.rows.specs.Rows.{RowInside, kind, LeafAt, WrittenAll, is_made, written, form_at, single, NodesAt, led_by_reference, Unmarked, OutcomeAt, key_of}
use Rattle.rows.specs.declared.words.Word.{Word as Coded}
use Rattle.rows.specs.declared.words.Word.TheVariants.{Ns, Define, Concat, Subst, Arg, Rest, Plain}
use Rattle.rows.specs.declared.forms.Form.{Form}
use Rattle.rows.specs.declared.forms.Node.{Node as Ranged}
use Rattle.rows.specs.declared.forms.Node.TheVariants.{Leaf, Branch}

-- the word that a word of the code stands for
abbrev pub meant : Coded → Word
meant Ns = ns
meant Define = define
meant Concat = concat
meant Subst = subst
meant Arg = arg
meant Rest = rest
meant Plain = plain

-- whether a reference is a function name or a bytecode name, by its key
abbrev pub reserved : ℕ → Bool
reserved k = not (is (word (k / 256) (k % 256)) plain) || eqb (k / 256) core && some (eqb (k % 256)) bytecode_names

-- a form's elements from another row on
abbrev pub starting_at : ℕ → Form → Form
starting_at first f = record { first = first; end = f.end; flat = f.flat }

-- a form's elements from a row on, as a flat list
abbrev pub flattened : ℕ → Form → Form
flattened first f = record { first = first; end = f.end; flat = true }

-- the code's node for the element at a row of a list
abbrev pub element_at : List ℕ → Bool → ℕ → Ranged
element_at t flat r =
    when eqb (kind t r) 1 then Branch (written t r) else
    when is_made t flat r then Branch (form_at t flat r) else Leaf

-- the row behind an element at a row
abbrev pub past : ℕ → Ranged → ℕ
past r Leaf = r + 1
past r (Branch f) = f.end

-- the code's node for the result of a flat list
abbrev pub result_at : List ℕ → Form → Ranged
result_at t g = when single t g then element_at t true g.first else Branch g

-- whether a form's head is a reference, by the table
abbrev pub is_named : List ℕ → Form → Bool
is_named t f = ltb f.first f.end && not (is_made t f.flat f.first) && eqb (kind t f.first) 4

-- the head's row, if there is one, is in the table
abbrev pub HeadInside : List ℕ → Form → Type 0
HeadInside t f = f.first < f.end → RowInside t f.first × (f.first < 65536)

-- a form's head is that of these elements, written or transformed
unfoldable pub HeadAt : List ℕ → List ℕ → Form → Nodes → Type 0
HeadAt s t f empty = f.first ≡ f.end
HeadAt s t f (cons (leaf q a) es) = (f.first < f.end) × (is_made t f.flat f.first ≡ false) × LeafAt s t f.first a
HeadAt s t f (cons (branch q fs) es) = (f.first < f.end) × HeadInside t f × (is_named t f ≡ false)
HeadAt s t f (cons (bytecode q fs o) es) = (f.first < f.end) × HeadInside t f × (is_named t f ≡ false)

pub record SomeHead (s t : List ℕ) (f : Form) : Type 0 where
  pub nodes : Nodes
  pub at : HeadAt s t f nodes

-- the key of the reference that heads a form, 0 if none does
abbrev pub head_key : Nodes → ℕ
head_key empty = 0
head_key (cons (leaf r a) es) = if_ref a key_of 0
head_key (cons (branch r fs) es) = 0
head_key (cons (bytecode r fs o) es) = 0

-- whether a form is headed by a core name
abbrev pub leads : ℕ → Nodes → Bool
leads n empty = false
leads n (cons e es) = is_name n e

-- the code's node is the definition's: the element at a row of a list
pub data IsElement (s t : List ℕ) (r : ℕ) : Ranged → Node → Type 0 where
  an_atom : (a : Atom) → LeafAt s t r a → IsElement s t r Leaf (leaf r a)
  a_form : (f : Form) (es : Nodes) → f.flat ≡ false → Unmarked t f.first es → NodesAt s t false f.first f.end es → IsElement s t r (Branch f) (branch r es)
  a_bytecode : (f : Form) (es : Nodes) (o : Outcome) → f.flat ≡ false → led_by_reference es ≡ true → is (head_word es) plain ≡ true
      → WrittenAll s t f.first f.end es → OutcomeAt s t r f o → IsElement s t r (Branch f) (bytecode r es o)

-- the same of the result of a flat list from row r on, with a place: an atom, or a form that is not headed by a function name
pub data IsResult (s t : List ℕ) (r place : ℕ) : Ranged → Node → Type 0 where
  is_leaf : (a : Atom) → LeafAt s t r a → IsResult s t r place Leaf (leaf place a)
  is_branch : (f : Form) (es : Nodes) → NodesAt s t f.flat f.first f.end es → is (head_word es) plain ≡ true
      → IsResult s t r place (Branch f) (branch place es)

-- some nodes are a form's elements
pub record SomeNodes (s t : List ℕ) (f : Form) : Type 0 where
  pub nodes : Nodes
  pub at : NodesAt s t f.flat f.first f.end nodes
