-- The expressions of a flat list, one after the other, and what its bytecode form becomes. Document 02, §1. Assumes nothing.
use Prim.Native.Nat.{ℕ, zero, suc, ◌≤◌, ◌<◌}
use mathlib.Core.Path.{◌≡◌, refl, ap, ◌∙◌}
use mathlib.Core.List.{List, [], ◌∷◌}
use mathlib.Core.Bool.{Bool, true, false, ◌&&◌, ◌||◌}
use native.Mathlib.Omega.{arith}
use lib.ListN.{length, take}
use lib.Dec.{ltb, eqb}
use borrow.Author.Tests.{lt-ltb}
use Rattle.spec.specs.Expr.{when◌then◌else◌, nil, array, int, ref}
use Rattle.spec.specs.Nodes.{Node, leaf, branch, bytecode, Nodes, empty, cons, Outcome, fails, becomes, row, elements}
use Rattle.spec.specs.Bytecode.{prefix, prefix*, is_name, led_by_name, Operator, if_listed, if_operator, Arities, listed, ill_formed, operators, Around, all, short, node_depth, Part, nodes, gathered, placed, result_of, outcome, with_arities, made, linked, transform, parts_of}
use Rattle.spec.proofs.Made.{written, keep, each_row, parts_linked, nodes_parts, nodes_kept, rows_linked, made_written, result, outcome_written}

-- Roles

-- what an expression is in a flat list
pub data Role : Type 0 where
  operator : ℕ → Role
  operand : Role

abbrev pub role : List Operator → Node → Role
role os e = if_operator os e operator operand

abbrev pub by_role : {A : Type 0} → (ℕ → A) → A → Role → A
by_role f other (operator n) = f n
by_role f other operand = other

listed_role : {A : Type 0} (os : List Operator) (m n : ℕ) (f : ℕ → A) (other : A)
    → if_listed os m n f other ≡ by_role f other (if_listed os m n operator operand)
unfolding if_listed
listed_role [] m n f other = refl
listed_role (o ∷ os) m n f other = go (eqb o.marker m && eqb o.name n) (listed_role os m n f other)
  where
    go : (b : Bool) → if_listed os m n f other ≡ by_role f other (if_listed os m n operator operand)
        → (when b then f o.arity else if_listed os m n f other) ≡ by_role f other (when b then operator o.arity else if_listed os m n operator operand)
    go true t = refl
    go false t = t

pub by_its_role : {A : Type 0} (os : List Operator) (e : Node) (f : ℕ → A) (other : A) → if_operator os e f other ≡ by_role f other (role os e)
by_its_role os (leaf r nil) f other = refl
by_its_role os (leaf r (array bs)) f other = refl
by_its_role os (leaf r (int v)) f other = refl
by_its_role os (leaf r (ref m n)) f other = listed_role os m n f other
by_its_role os (branch r es) f other = refl
by_its_role os (bytecode r es o) f other = refl

pub by_operand : {A : Type 0} (os : List Operator) (e : Node) (f : ℕ → A) (other : A) → role os e ≡ operand → if_operator os e f other ≡ other
by_operand os e f other k = by_its_role os e f other ∙ ap (by_role f other) k

pub by_operator : {A : Type 0} (os : List Operator) (e : Node) (f : ℕ → A) (other : A) (n : ℕ) → role os e ≡ operator n → if_operator os e f other ≡ f n
by_operator os e f other n k = by_its_role os e f other ∙ ap (by_role f other) k

no_operator : (n : ℕ) → operand ≡ operator n → ⊥
no_operator n h = let z : ◌≡◌ {A = ℕ} 0 1 = ap (by_role (λ k. 1) 0) h in omega (arith, z)

-- only a reference is an operator
pub operator_leaf : (os : List Operator) (e : Node) (n : ℕ) → role os e ≡ operator n → (q : ℕ) × (m : ℕ) × (k : ℕ) × (e ≡ leaf q (ref m k))
operator_leaf os (leaf r nil) n h = absurd (no_operator n h)
operator_leaf os (leaf r (array bs)) n h = absurd (no_operator n h)
operator_leaf os (leaf r (int v)) n h = absurd (no_operator n h)
operator_leaf os (leaf r (ref m k)) n h = (r, m, k, refl)
operator_leaf os (branch r es) n h = absurd (no_operator n h)
operator_leaf os (bytecode r es o) n h = absurd (no_operator n h)

-- nothing is, where none is listed
pub none_listed : (e : Node) → role [] e ≡ operand
unfolding if_listed
none_listed (leaf r nil) = refl
none_listed (leaf r (array bs)) = refl
none_listed (leaf r (int v)) = refl
none_listed (leaf r (ref m n)) = refl
none_listed (branch r es) = refl
none_listed (bytecode r es o) = refl

-- The first expression, and those behind it

unfoldable pub without : ℕ → Nodes → Nodes
without zero es = es
without (suc n) empty = empty
without (suc n) (cons e es) = without n es

-- an operator with its operands, or an operand, as it would be written
abbrev pub foremost : List Operator → Node → Nodes → Node
foremost os e es = if_operator os e (λ n. branch (row e) (cons e (keep n es))) e

abbrev pub others : List Operator → Node → Nodes → Nodes
others os e es = if_operator os e (λ n. without n es) es

gathered_without : (os : List Operator) (k : ℕ) (es : Nodes) → gathered os k (linked (parts_of es)) ≡ gathered os 0 (linked (parts_of (without k es)))
unfolding gathered linked transform without
gathered_without os zero es = refl
gathered_without os (suc k) empty = refl
gathered_without os (suc k) (cons e es) = gathered_without os k es

-- the first expression of a flat list as a part
abbrev pub first_part : List Operator → Node → Nodes → Part
first_part os e es = if_operator os e (λ n. made (written e) (take n (linked (parts_of es)))) (written e)

pub first_part_written : (os : List Operator) (e : Node) (es : Nodes) (around : Around)
    → ((first_part os e es).node ≡ foremost os e es) × ((first_part os e es).transformed around ≡ transform (foremost os e es) around)
unfolding nodes
first_part_written os e es around = rw (by_its_role os e lead (written e), by_its_role os e form e) (go (role os e))
  where
    lead : ℕ → Part
    lead n = made (written e) (take n (linked (parts_of es)))

    form : ℕ → Node
    form n = branch (row e) (cons e (keep n es))

    go : (x : Role) → ((by_role lead (written e) x).node ≡ by_role form e x)
        × ((by_role lead (written e) x).transformed around ≡ transform (by_role form e x) around)
    go (operator n) = (rw (nodes_kept n es), made_written e n es around)
    go operand = (refl, refl)

pub gathered_cons : (os : List Operator) (e : Node) (es : Nodes)
    → gathered os 0 (linked (parts_of (cons e es))) ≡ first_part os e es ∷ gathered os 0 (linked (parts_of (others os e es)))
unfolding gathered linked transform
gathered_cons os e es = rw (by_its_role os e (λ n. n) 0, by_its_role os e (λ n. without n es) es) (ap (λ (ps : List Part). first_part os e es ∷ ps) (go (role os e)))
  where
    go : (x : Role) → gathered os (by_role (λ n. n) 0 x) (linked (parts_of es)) ≡ gathered os 0 (linked (parts_of (by_role (λ n. without n es) es x)))
    go (operator n) = gathered_without os n es
    go operand = refl

-- a list without operators, as one that is not flat
pub gathered_none : (es : Nodes) → gathered [] 0 (linked (parts_of es)) ≡ parts_of es
unfolding gathered linked transform
gathered_none empty = refl
gathered_none (cons e es) =
    rw (by_its_role [] e (λ n. made (written e) (take n (linked (parts_of es)))) (written e), by_its_role [] e (λ n. n) 0, none_listed e)
    (ap (λ (ps : List Part). written e ∷ ps) (gathered_none es))

-- An operator short of operands

pub short_none : (es : Nodes) → short [] 0 es ≡ false
unfolding short
short_none empty = refl
short_none (cons e es) = rw (by_its_role [] e (λ n. n) 0, none_listed e, short) (short_none es)

short_without : (os : List Operator) (k : ℕ) (es : Nodes) → short os k es ≡ false → short os 0 (without k es) ≡ false
unfolding short without
short_without os zero es h = h
short_without os (suc k) empty h = refl
short_without os (suc k) (cons e es) h = short_without os k es h

-- an operator has its operands behind it
pub short_operands : (os : List Operator) (e : Node) (es : Nodes) (n : ℕ) → role os e ≡ operator n → short os 0 (cons e es) ≡ false → short os n es ≡ false
unfolding short
short_operands os e es n k h = rw (by_operator os e (λ n. n) 0 n k, short) at h

-- The refusal of a bytecode form at row r with the flat list es; 0 if none

abbrev pub refusal : ℕ → List Operator → Nodes → ℕ
refusal r os es =
    when short os 0 es || led_by_name (elements (result r os es)) then 22 else
    when ltb 64 (node_depth (result r os es)) then 6 else 0

-- its row does not matter
pub refusal_any : (r q : ℕ) (os : List Operator) (es : Nodes) → refusal r os es ≡ refusal q os es
unfolding node_depth
refusal_any r q os es = go (gathered os 0 (linked (parts_of es)))
  where
    by_node : Node → ℕ
    by_node e = when short os 0 es || led_by_name (elements e) then 22 else when ltb 64 (node_depth e) then 6 else 0

    go : (ps : List Part) → by_node (result_of r ps).node ≡ by_node (result_of q ps).node
    go [] = refl
    go (p ∷ []) = refl
    go (p ∷ o ∷ ps) = refl

pub outcome_refused : (r : ℕ) (os : List Operator) (around : Around) (es : Nodes) (w : ℕ) → refusal r os es ≡ suc w
    → (outcome r os around (linked (parts_of es)) ≡ fails (suc w)) × (2 ≤ w)
outcome_refused r os around es w h = rw (outcome_written r os around es) (go (short os 0 es || led_by_name (elements (result r os es))) (ltb 64 (node_depth (result r os es))) h)
  where
    fine : Outcome
    fine = becomes (each_row es) (placed r (transform (result r os es) around))

    go : (b c : Bool) → (when b then 22 else when c then 6 else 0) ≡ suc w
        → ((when b then fails 22 else when c then fails 6 else fine) ≡ fails (suc w)) × (2 ≤ w)
    go true c h = (ap fails h, omega (arith, h))
    go false true h = (ap fails h, omega (arith, h))
    go false false h = absurd (omega (arith, h))

pub outcome_fine : (r : ℕ) (os : List Operator) (around : Around) (es : Nodes) → refusal r os es ≡ 0
    → (outcome r os around (linked (parts_of es)) ≡ becomes (each_row es) ((result_of r (gathered os 0 (linked (parts_of es)))).transformed around))
    × (short os 0 es ≡ false) × (led_by_name (elements (result r os es)) ≡ false)
outcome_fine r os around es h =
    rw (parts_linked (parts_of es), nodes_parts es, rows_linked es)
    (go (short os 0 es) (led_by_name (elements (result r os es))) (ltb 64 (node_depth (result r os es))) h)
  where
    fine : Outcome
    fine = becomes (each_row es) ((result_of r (gathered os 0 (linked (parts_of es)))).transformed around)

    go : (a b c : Bool) → ◌≡◌ {A = ℕ} (when a || b then 22 else when c then 6 else 0) 0
        → ((when a || b then fails 22 else when c then fails 6 else fine) ≡ fine) × (a ≡ false) × (b ≡ false)
    go true b c h = absurd (omega (arith, h))
    go false true c h = absurd (omega (arith, h))
    go false false true h = absurd (omega (arith, h))
    go false false false h = (refl, refl, refl)

-- Bytecode forms

-- the operators that the first of these, an arity list, gives
abbrev pub arity_list : Nodes → Arities
arity_list empty = ill_formed
arity_list (cons e es) = operators e

pub transform_star : (r : ℕ) (h : Node) (es : Nodes) (around : Around) → is_name prefix* h ≡ true
    → transform (branch r (cons h es)) around ≡ bytecode r (cons h es) (with_arities r around (linked (parts_of es)))
unfolding transform nodes
transform_star r h es around p = rw (p, parts_linked (parts_of es), nodes_parts es)

pub transform_nested : (r : ℕ) (h : Node) (es : Nodes) (around : Around) → is_name prefix* h ≡ false → is_name prefix h ≡ true → 0 < length around
    → transform (branch r (cons h es)) around ≡ bytecode r (cons h es) (outcome r (all around) around (linked (parts_of es)))
unfolding transform nodes
transform_nested r h es around p q l = rw (p, q, lt-ltb 0 (length around) l, parts_linked (parts_of es), nodes_parts es)

-- what follows the head of a `prefix*` form
pub star_ill_formed : (r : ℕ) (around : Around) (es : Nodes) → arity_list es ≡ ill_formed → with_arities r around (linked (parts_of es)) ≡ fails 22
unfolding linked transform
star_ill_formed r around empty a = refl
star_ill_formed r around (cons e es) a = rw a

pub star_listed : (r : ℕ) (around : Around) (e : Node) (es : Nodes) (os : List Operator) → operators e ≡ listed os
    → with_arities r around (linked (parts_of (cons e es))) ≡ outcome r os (os ∷ around) (linked (parts_of es))
unfolding linked transform
star_listed r around e es os a = rw a
