-- Names and nodes. A node is an expression with its row number at every level. The numbers follow from the meaning alone: "in order
-- of first bytes", from 0. Evaluation speaks of row numbers; only the calls turn one into a place, the row's start.
-- Document 01: "Names of the core namespace", "Table". Assumes nothing.
use Rattle.std.specs.Prelude.{ℕ, ◌+◌, List, [], ◌∷◌, ◌++◌, Bool, eqb}
use Rattle.spec.specs.Expr.{when◌then◌else◌, Atom, if_ref, Expr, atom, form, Exprs, none, more, rows}

-- "Names of the core namespace, marker 0x20": the mixed list of drafts 04 and 05. `version` (00) is looked for at the stream's
-- beginning; it stands for itself, as `true` (01) and `false` (02) do: "All other core names stand for themselves."
abbrev pub core : ℕ
core = 0x20

abbrev pub version : ℕ
version = 0x00

-- "The last six from ns on are *function names*"; every other reference is plain
pub data Word : Type 0 where
  ns define concat subst arg rest : Word
  plain : Word

-- the words numbered in order, which only serves to compare them
abbrev pub order : Word → ℕ
order ns = 0
order define = 1
order concat = 2
order subst = 3
order arg = 4
order rest = 5
order plain = 6

abbrev pub is : Word → Word → Bool
is v w = eqb (order v) (order w)

-- a function name: its byte, and what it is
pub record Name : Type 0 where
  pub byte : ℕ
  pub word : Word

-- "ns 06, define 09 (all from 000); concat 0A, subst 0B, arg 0C, rest 0D (from 001)"
abbrev pub names : List Name
names =
    record { byte = 0x06; word = ns } ∷
    record { byte = 0x09; word = define } ∷
    record { byte = 0x0A; word = concat } ∷
    record { byte = 0x0B; word = subst } ∷
    record { byte = 0x0C; word = arg } ∷
    record { byte = 0x0D; word = rest } ∷
    []

-- the word of a name byte, by a table
unfoldable pub among : List Name → ℕ → Word
among [] n = plain
among (k ∷ ks) n = when eqb k.byte n then k.word else among ks n

-- the word of a reference's marker and name
unfoldable pub word : ℕ → ℕ → Word
word m n = when eqb m core then among names n else plain

mutual
  pub data Node : Type 0 where
    leaf : ℕ → Atom → Node
    branch : ℕ → Nodes → Node
    -- a bytecode form: its elements as they are written, and what it is transformed to (specs/Bytecode)
    bytecode : ℕ → Nodes → Outcome → Node

  pub data Nodes : Type 0 where
    empty : Nodes
    cons : Node → Nodes → Nodes

  pub data Outcome : Type 0 where
    -- a refusal's number, at the form
    fails : ℕ → Outcome
    -- the rows of the expressions taken from the flat list, and the result
    becomes : List ℕ → Node → Outcome

unfoldable mutual
  pub number : ℕ → Expr → Node
  number r (atom a) = leaf r a
  number r (form es) = branch r (number_all (r + 1) es)

  pub number_all : ℕ → Exprs → Nodes
  number_all r none = empty
  number_all r (more e es) = cons (number r e) (number_all (r + rows e) es)

-- an expression without its row numbers
unfoldable mutual
  pub unnumbered : Node → Expr
  unnumbered (leaf r a) = atom a
  unnumbered (branch r es) = form (unnumbered_all es)
  unnumbered (bytecode r es o) = form (unnumbered_all es)

  pub unnumbered_all : Nodes → Exprs
  unnumbered_all empty = none
  unnumbered_all (cons e es) = more (unnumbered e) (unnumbered_all es)

abbrev pub row : Node → ℕ
row (leaf r a) = r
row (branch r es) = r
row (bytecode r es o) = r

-- a form's elements, and what follows its head
abbrev pub elements : Node → Nodes
elements (leaf r a) = empty
elements (branch r es) = es
elements (bytecode r es o) = es

abbrev pub tail : Nodes → Nodes
tail empty = empty
tail (cons e es) = es

-- the word of the head, which is the first element as it is written
abbrev pub head_word : Nodes → Word
head_word empty = plain
head_word (cons (leaf r a) es) = if_ref a word plain
head_word (cons (branch r fs) es) = plain
head_word (cons (bytecode r fs o) es) = plain

-- whether an expression is a form headed by a word
abbrev pub headed_by : Word → Node → Bool
headed_by w e = is (head_word (elements e)) w

-- the markers that the references in an expression bear
unfoldable mutual
  pub markers : Node → List ℕ
  markers (leaf r a) = if_ref a (λ m n. m ∷ []) []
  markers (branch r es) = markers_all es
  markers (bytecode r es o) = markers_all es

  pub markers_all : Nodes → List ℕ
  markers_all empty = []
  markers_all (cons e es) = markers e ++ markers_all es
