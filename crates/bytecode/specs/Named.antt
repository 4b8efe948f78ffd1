-- Trees of references in the table, by the bits of their keys; the operators that an arity list names, and the lists around a row. Document 02,
-- §1. Assumes nothing.
use Rattle.std.specs.Prelude.{ℕ, ◌/◌, ◌%◌, ◌-◌, ◌*◌, ◌≤◌, ◌<◌, ◌≡◌, List, [], ◌∷◌, Bool, true, false, length, eqb, ltb, Result, Ok, Err, Option, Some, None}
use Rattle.spec.specs.Expr.{when◌then◌else◌, ref}
use Rattle.spec.specs.Reading.{row_width}
use Rattle.spec.specs.Nodes.{Node, Nodes}
use Rattle.spec.specs.Bytecode.{Operator, if_listed, Arities, listed, ill_formed, Around, all}
use Rattle.rows.specs.Rows.{RowInside, kind, mark, link, next, LeafAt, ReferenceAt, WrittenAt, WrittenAll, key_of}
use Rattle.bytecode.specs.Numbers.{child, Unlisted, Changed, Unlinked}
use Rattle.bytecode.specs.declared.tree.Vacancy.{Vacancy}

-- Arities: none of an operand

-- of a key's reference among these operators
abbrev pub arity_of : List Operator → ℕ → Option ℕ
arity_of os k = if_listed os (k / 256) (k % 256) (λ n. Some n) None

-- by a mark
abbrev pub arity_by : ℕ → Option ℕ
arity_by m = when ltb m 64 then None else Some (m - 64)

-- of the reference at a row, 0 for none
abbrev pub arity_at : List ℕ → ℕ → Option ℕ
arity_at t r = when eqb r 0 then None else arity_by (mark t r)

-- Trees

-- the key of the reference at a row
pub record KeyAt (s t : List ℕ) (r k : ℕ) : Type 0 where
  pub reference : ReferenceAt s t r
  pub is : (m n : ℕ) → LeafAt s t r (ref m n) → key_of m n ≡ k

-- a reference of a tree, between two rows
pub record MemberAt (s t : List ℕ) (last to row k : ℕ) : Type 0 where
  pub key : KeyAt s t row k
  pub behind : last < row
  pub before : row < to
  pub marked : 63 ≤ mark t row

-- A search for a key that has come from row `last` to a row, with these bits of the key left, the lowest first: the row where it finds the
-- key, 0 if nowhere. Rows ascend.
pub data Finds (s t : List ℕ) (to key : ℕ) : ℕ → ℕ → ℕ → ℕ → Type 0 where
  nothing : {bits last : ℕ} → Finds s t to key bits last 0 0
  here : {bits last row : ℕ} → MemberAt s t last to row key → Finds s t to key bits last row row
  onward : {bits last row k found : ℕ} → MemberAt s t last to row k → (k ≡ key → ⊥)
      → Finds s t to key (bits / 2) row (child t (bits % 2) row) found → Finds s t to key bits last row found

-- the tree of a row, of references before row `to`: where it has each key
pub record Tree (s t : List ℕ) (tree to : ℕ) (node : ℕ → ℕ) : Type 0 where
  pub finds : (k : ℕ) → Finds s t to k k tree (child t 1 tree) (node k)
  pub inside : RowInside t tree
  pub begins : tree < to

-- its references tell these operators
abbrev pub Roles : List ℕ → (ℕ → ℕ) → List Operator → Type 0
Roles t node os = (k : ℕ) → arity_of os k ≡ arity_at t (node k)

-- One arity list

-- it names these operators, by references in rows before `to`: its tree has each of them
pub record Lists (s t : List ℕ) (list to : ℕ) (os : List Operator) : Type 0 where
  pub node : ℕ → ℕ
  pub tree : Tree s t list to node
  pub roles : Roles t node os
  pub own : (r k : ℕ) → list < r → r < to → KeyAt s t r k → (node k ≡ r) × (64 ≤ mark t r)
  pub low : 0 < list
  pub ends : to ≤ next t list

-- The lists around a row

-- what a reference of a list inside those that name `outer` keeps: the tree of all has its key, not behind it; where it isn't that one itself,
-- its mark tells what the key is outside
abbrev pub Keeps : List ℕ → (ℕ → ℕ) → List Operator → ℕ → ℕ → Type 0
Keeps t node outer r k = (0 < node k) × (node k ≤ r) × (63 ≤ mark t r) × (arity_of outer k ≡ (when eqb (node k) r then None else arity_by (mark t r)))

-- such a list; each of its references keeps that
pub record Entered (s t : List ℕ) (node : ℕ → ℕ) (list : ℕ) (os outer : List Operator) : Type 0 where
  pub keeps : (r k : ℕ) → list < r → r < next t list → KeyAt s t r k → Keeps t node outer r k
  pub named : (k n : ℕ) → arity_of os k ≡ Some n → (r : ℕ) × (list < r) × (r < next t list) × KeyAt s t r k
  pub references : (r : ℕ) → list < r → r < next t list → kind t r ≡ 4 → ReferenceAt s t r
  pub inside : row_width * next t list ≤ length t
  pub low : 0 < list
  pub begins : list < next t list
  -- its form's head, and itself
  pub head : Unlisted t (list - 1)
  pub form : Unlisted t list

-- the lists around, by the row of the nearest, 0 for none; each has the row of the one around it, which ends before
pub data Nested (s t : List ℕ) (node : ℕ → ℕ) : ℕ → Around → Type 0 where
  outermost : Nested s t node 0 []
  inside : (list : ℕ) (os : List Operator) (around : Around) → Entered s t node list os (all around) → link t list < list
      → (0 < link t list → next t (link t list) ≤ list) → Nested s t node (link t list) around → Nested s t node list (os ∷ around)

-- The tree of row 0 has the references of all lists so far, before row `to`. Its marks tell the operators of those around.
pub record Arounds (s t : List ℕ) (to list : ℕ) (around : Around) : Type 0 where
  pub node : ℕ → ℕ
  pub tree : Tree s t 0 to node
  pub roles : Roles t node (all around)
  pub nested : Nested s t node list around
  pub ended : 0 < list → next t list ≤ to

-- What the code does

-- a search for a key has come from a tree's row to another, with these bits left, and is to go on to one of its children
pub data Way (s t : List ℕ) (tree key : ℕ) : ℕ → ℕ → ℕ → Type 0 where
  begin : Way s t tree key key tree 1
  pass : {bits last bit k : ℕ} → Way s t tree key bits last bit → 0 < child t bit last → KeyAt s t (child t bit last) k → (k ≡ key → ⊥)
      → Way s t tree key (bits / 2) (child t bit last) (bits % 2)

-- where it ends
pub data Sought (s t : List ℕ) (tree key : ℕ) : Result ℕ Vacancy → Type 0 where
  taken : {bits last bit row : ℕ} → Way s t tree key bits last bit → child t bit last ≡ row → 0 < row → KeyAt s t row key → Sought s t tree key (Ok row)
  vacant : {bits last bit : ℕ} → Way s t tree key bits last bit → child t bit last ≡ 0 → Sought s t tree key (Err (record { row = last; bit = bit }))

-- an arity list has named these operators, and goes on with these expressions, up to a row
pub record Naming (s t : List ℕ) (list row end : ℕ) (os : List Operator) (es : Nodes) : Type 0 where
  pub lists : Lists s t list row os
  pub written : WrittenAll s t row end es
  pub unlinked : Unlinked t row end
  pub within : end ≤ next t list

-- what is answered, by what the arity list gives
abbrev pub NamedBy : List ℕ → List ℕ → ℕ → ℕ → Arities → Bool → Type 0
NamedBy s t list to (listed os) r = (r ≡ true) × Lists s t list to os
NamedBy s t list to ill_formed r = r ≡ false

-- an expression that may be an arity list
pub record ListAt (s t : List ℕ) (list : ℕ) (e : Node) : Type 0 where
  pub written : WrittenAt s t list e
  pub low : 0 < list
  pub unlinked : Unlinked t list (next t list)

-- a list that has named these operators is to be entered, inside of others
pub record Entering (s t : List ℕ) (list : ℕ) (os : List Operator) (around : Around) : Type 0 where
  pub to : ℕ
  pub outer : Arounds s t to (link t list) around
  pub before : to ≤ list
  pub lists : Lists s t list (next t list) os
  pub references : (r : ℕ) → list < r → r < next t list → kind t r ≡ 4 → ReferenceAt s t r
  pub inside : row_width * next t list ≤ length t
  pub head : Unlisted t (list - 1)
  pub form : Unlisted t list

-- a list is to be entered, or it is the nearest and is to be left
pub data Switchable (s t : List ℕ) (list : ℕ) : Type 0 where
  entering : (os : List Operator) (around : Around) → Entering s t list os around → Switchable s t list
  leaving : (to : ℕ) (os : List Operator) (around : Around) → Arounds s t to list (os ∷ around) → Switchable s t list

-- only marks are changed
pub record Marked (t t' : List ℕ) : Type 0 where
  pub changed : Changed t t' 0 (length t)
  pub links : (r : ℕ) → link t' r ≡ link t r
  pub children : (b r : ℕ) → b < 2 → child t' b r ≡ child t b r

-- the marks of two rows change places; of one and the same, it tells no operator
pub record Exchanged (t t' : List ℕ) (first row : ℕ) : Type 0 where
  pub marked : Marked t t'
  pub first_is : mark t' first ≡ (when eqb first row then 63 else mark t row)
  pub row_is : mark t' row ≡ (when eqb first row then 63 else mark t first)
  pub others : (r : ℕ) → (r ≡ first → ⊥) → (r ≡ row → ⊥) → mark t' r ≡ mark t r

-- a reference is put below the last row of a search, with nothing below itself
pub record Joined (s t t' : List ℕ) (row last bit : ℕ) : Type 0 where
  pub changed : Changed t t' 0 (length t)
  pub marks : (r : ℕ) → mark t' r ≡ mark t r
  pub joined : child t' bit last ≡ row
  pub alone : (b : ℕ) → b < 2 → (bit ≡ b → last ≡ row → ⊥) → child t' b row ≡ 0
  pub others : (b r : ℕ) → b < 2 → (r ≡ row → ⊥) → (b ≡ bit → r ≡ last → ⊥) → child t' b r ≡ child t b r
  pub links : (r : ℕ) → (r ≡ row → ⊥) → (bit ≡ 0 → r ≡ last → ⊥) → link t' r ≡ link t r

-- what is done for one reference of a list, by where the tree of all has its key
pub data Switched (s t t' : List ℕ) (row : ℕ) : Type 0 where
  exchanged : {k first : ℕ} → KeyAt s t row k → Sought s t 0 k (Ok first) → Exchanged t t' first row → Switched s t t' row
  joined : {k last bit : ℕ} → KeyAt s t row k → Sought s t 0 k (Err (record { row = last; bit = bit })) → Joined s t t' row last bit → Switched s t t' row
