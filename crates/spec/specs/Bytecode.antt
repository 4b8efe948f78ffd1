-- Document 02, §1, "Prefix bytecode", over document 000, section 3.1.7: "transform it to an abstract syntax tree of its content and then
-- evaluate the resulting expression with the normal BULK evaluation rules". The transformation depends on the written stream alone.
-- Assumes nothing.
use Rattle.std.specs.Prelude.{ℕ, zero, suc, max, ◌+◌, List, [], ◌∷◌, ◌++◌, map, Bool, true, false, not, ◌&&◌, ◌||◌, length, take, eqb, ltb}
use Rattle.spec.specs.Expr.{when◌then◌else◌, some, if_ref, if_int}
use Rattle.spec.specs.Nodes.{core, plain, is, Node, leaf, branch, bytecode, Nodes, empty, cons, Outcome, fails, becomes, row, elements, head_word}

-- Names

-- "name 0x30 (mnemonic: prefix)", "name 0x31 (mnemonic: prefix*)"
abbrev pub prefix : ℕ
prefix = 0x30

abbrev pub prefix* : ℕ
prefix* = 0x31

-- "bytecode name (any of 3.1.7)": these two, postfix, postfix*, arity. They stand for themselves.
abbrev pub bytecode_names : List ℕ
bytecode_names = prefix ∷ prefix* ∷ 0x32 ∷ 0x33 ∷ 0x34 ∷ []

-- whether an expression is a reference of this core name
abbrev pub is_name : ℕ → Node → Bool
is_name n (leaf r a) = if_ref a (λ m k. eqb m core && eqb k n) false
is_name n (branch r es) = false
is_name n (bytecode r es o) = false

-- "headed by a function or bytecode name", by a form's elements
abbrev pub led_by_name : Nodes → Bool
led_by_name empty = false
led_by_name (cons e es) = not (is (head_word (cons e es)) plain) || some (λ n. is_name n e) bytecode_names

-- The arity list

-- "all references in this series are operators of arity {arity}"
pub record Operator : Type 0 where
  pub marker : ℕ
  pub name : ℕ
  pub arity : ℕ

-- one thing for a listed reference's arity, another for a reference that isn't listed
unfoldable pub if_listed : {A : Type 0} → List Operator → ℕ → ℕ → (ℕ → A) → A → A
if_listed [] m n f other = other
if_listed (o ∷ os) m n f other = when eqb o.marker m && eqb o.name n then f o.arity else if_listed os m n f other

-- "operators MUST be references"; "References not listed as operators are operands."
abbrev pub if_operator : {A : Type 0} → List Operator → Node → (ℕ → A) → A → A
if_operator os (leaf r a) f other = if_ref a (λ m n. if_listed os m n f other) other
if_operator os (branch r es) f other = other
if_operator os (bytecode r es o) f other = other

pub data Arities : Type 0 where
  listed : List Operator → Arities
  -- "an arity list that isn't a form of forms, each a small integer then references, or names a reference twice"
  ill_formed : Arities

-- what follows the small integer n, with the operators os before
unfoldable pub series : ℕ → Nodes → List Operator → Arities
series n empty os = listed os
series n (cons (leaf r a) es) os =
    if_ref a (λ m k.
    let on = series n es (os ++ (record { marker = m; name = k; arity = n } ∷ [])) in
    if_listed os m k (λ twice. ill_formed) on) ill_formed
series n (cons (branch r fs) es) os = ill_formed
series n (cons (bytecode r fs o) es) os = ill_formed

abbrev pub and_then : Arities → (List Operator → Arities) → Arities
and_then (listed os) f = f os
and_then ill_formed f = ill_formed

-- the forms of an arity list, with the operators os before
unfoldable pub arities : Nodes → List Operator → Arities
arities empty os = listed os
arities (cons (leaf r a) es) os = ill_formed
arities (cons (branch r empty) es) os = ill_formed
arities (cons (branch r (cons (leaf q a) fs)) es) os = if_int a (λ n. and_then (series n fs os) (arities es)) ill_formed
arities (cons (branch r (cons (branch q gs) fs)) es) os = ill_formed
arities (cons (branch r (cons (bytecode q gs o) fs)) es) os = ill_formed
arities (cons (bytecode r fs o) es) os = ill_formed

abbrev pub operators : Node → Arities
operators (leaf r a) = ill_formed
operators (branch r es) = arities es []
operators (bytecode r es o) = ill_formed

-- The operators of each `prefix*` form around, the nearest first: "the arities declared in the outside form still apply".
abbrev pub Around : Type 0
Around = List (List Operator)

-- all of them in one list, in that order
unfoldable pub all : Around → List Operator
all [] = []
all (os ∷ around) = os ++ all around

-- The flat list

-- 22: "an operator short of operands", in a flat list of which the first k belong to the operator before
unfoldable pub short : List Operator → ℕ → Nodes → Bool
short os zero empty = false
short os (suc k) empty = true
short os zero (cons e es) = short os (if_operator os e (λ n. n) 0) es
short os (suc k) (cons e es) = short os k es

-- "forms one inside another"
unfoldable mutual
  pub node_depth : Node → ℕ
  node_depth (leaf r a) = 0
  node_depth (branch r es) = 1 + nodes_deepest es
  node_depth (bytecode r es o) = 1 + nodes_deepest es

  pub nodes_deepest : Nodes → ℕ
  nodes_deepest empty = 0
  nodes_deepest (cons e es) = max (node_depth e) (nodes_deepest es)

-- An expression, written or made: itself, and with the bytecode in it transformed, where these `prefix*` forms are around.
pub record Part : Type 0 where
  pub node : Node
  pub transformed : Around → Node

unfoldable pub nodes : List Part → Nodes
nodes [] = empty
nodes (e ∷ es) = cons e.node (nodes es)

unfoldable pub transformed_all : Around → List Part → Nodes
transformed_all around [] = empty
transformed_all around (e ∷ es) = cons (e.transformed around) (transformed_all around es)

-- an element of a form: as it stands, and as an operator, the form that it makes with the next so many
pub record Element : Type 0 where
  pub alone : Part
  pub leading : ℕ → Part

abbrev pub parts : List Element → List Part
parts es = map (λ e. e.alone) es

-- The "alternate context": the flat list's operators with their operands, and its other operands. The first k belong to the operator before.
unfoldable pub gathered : List Operator → ℕ → List Element → List Part
gathered os k [] = []
gathered os zero (e ∷ es) =
    if_operator os e.alone.node e.leading e.alone ∷ gathered os (if_operator os e.alone.node (λ n. n) 0) es
gathered os (suc k) (e ∷ es) = gathered os k es

-- an expression at another row
abbrev pub placed : ℕ → Node → Node
placed r (leaf q a) = leaf r a
placed r (branch q es) = branch r es
placed r (bytecode q es o) = bytecode r es o

-- "if not one expression, they make a form"; "the result has the `prefix*` form's" place
abbrev pub result_of : ℕ → List Part → Part
result_of r [] = record { node = branch r empty; transformed = λ around. branch r empty }
result_of r (e ∷ []) = record { node = e.node; transformed = λ around. placed r (e.transformed around) }
result_of r (e ∷ f ∷ es) = record { node = branch r (nodes (e ∷ f ∷ es)); transformed = λ around. branch r (transformed_all around (e ∷ f ∷ es)) }

-- What the bytecode form at row r becomes. 22: "an operator short of operands", "a result headed by a function or bytecode name"; "then 6, a
-- result of over 64 forms one inside another".
abbrev pub outcome : ℕ → List Operator → Around → List Element → Outcome
outcome r os around flat =
    let e = result_of r (gathered os 0 flat) in
    when short os 0 (nodes (parts flat)) || led_by_name (elements e.node) then fails 22 else
    when ltb 64 (node_depth e.node) then fails 6 else
    becomes (map (λ x. row x.alone.node) flat) (e.transformed around)

-- "( prefix* {arities}:Expr {bytecode} )": by what its arity list gives, and by what follows its head
abbrev pub with_operators : ℕ → Around → List Element → Arities → Outcome
with_operators r around flat (listed os) = outcome r os (os ∷ around) flat
with_operators r around flat ill_formed = fails 22

abbrev pub with_arities : ℕ → Around → List Element → Outcome
with_arities r around [] = fails 22
with_arities r around (a ∷ flat) = with_operators r around flat (operators a.alone.node)

-- A form at row r, written or made, by its head and what follows it. "( prefix {bytecode} )": "Within the prefix bytecode of this form, if
-- there is a prefix form, the arities declared in the outside form still apply."
abbrev pub headed : ℕ → Part → List Element → Around → Node
headed r e es around =
    let ps = e ∷ parts es in
    when is_name prefix* e.node then bytecode r (nodes ps) (with_arities r around es) else
    when is_name prefix e.node && ltb 0 (length around) then bytecode r (nodes ps) (outcome r (all around) around es) else
    branch r (transformed_all around ps)

-- "a list is created with the operator as the first expression, then as many next expressions as its arity [..] appended at the end of this
-- list". "A made form has its operator's place"
abbrev pub made : Part → List Element → Part
made e es = record { node = branch (row e.node) (nodes (e ∷ parts es)); transformed = headed (row e.node) e es }

-- expressions as the elements of one form
unfoldable pub linked : List Part → List Element
linked [] = []
linked (e ∷ es) =
    let others = linked es in
    record { alone = e; leading = λ n. made e (take n others) } ∷ others

abbrev pub form_of : ℕ → List Part → Around → Node
form_of r [] around = branch r empty
form_of r (e ∷ es) around = headed r e (linked es) around

-- The expressions as they are evaluated

unfoldable mutual
  pub transform : Node → Around → Node
  transform (leaf r a) around = leaf r a
  transform (branch r es) around = form_of r (parts_of es) around
  transform (bytecode r es o) around = bytecode r es o

  pub parts_of : Nodes → List Part
  parts_of empty = []
  parts_of (cons e es) = record { node = e; transformed = λ around. transform e around } ∷ parts_of es

abbrev pub transform_all : Nodes → Nodes
transform_all es = transformed_all [] (parts_of es)
