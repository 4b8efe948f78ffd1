-- A form that the transformation makes, and the result of bytecode, are transformed, and so evaluated, by the very rule that written ones are.
-- Assumes nothing.
use Prim.Native.Nat.{ℕ, zero, suc, ◌≤◌}
use mathlib.Core.Path.{◌≡◌, refl, ap, sym, ◌∙◌, fun_ext}
use mathlib.Core.List.{List, [], ◌∷◌, map}
use mathlib.Core.Bool.{Bool, true, false, not, ◌&&◌, ◌||◌}
use native.Mathlib.Omega.{arith}
use lib.ListN.{length, take, length-take}
use lib.Dec.{ltb, eqb}
use Rattle.spec.specs.Expr.{when◌then◌else◌, some, nil, array, int, ref}
use Rattle.spec.specs.Nodes.{Node, leaf, branch, bytecode, Nodes, empty, cons, Outcome, fails, becomes, row, elements, is, head_word, plain}
use Rattle.spec.specs.Bytecode.{prefix, prefix*, is_name, led_by_name, Operator, if_listed, if_operator, listed, ill_formed, Arities, operators, Around, all, short, node_depth, Part, nodes, transformed_all, Element, parts, gathered, placed, result_of, outcome, with_operators, with_arities, headed, made, linked, transform, parts_of}
use Rattle.spec.specs.Runs.{step, stop, after}
use Rattle.spec.specs.Plan.{Here}
use Rattle.spec.specs.Evaluation.{Call, rule, rule_bytecode, eval}

-- An expression as it is written; of several the first n; and the row of each

abbrev pub written : Node → Part
written e = record { node = e; transformed = λ around. transform e around }

unfoldable pub keep : ℕ → Nodes → Nodes
keep zero es = empty
keep (suc n) empty = empty
keep (suc n) (cons e es) = cons e (keep n es)

unfoldable pub each_row : Nodes → List ℕ
each_row empty = []
each_row (cons e es) = row e ∷ each_row es

-- What holds of an operator's answer and of another's holds of the one that is given

module _ (P : Part → Part → ℕ → Type 0) (f g : ℕ → Part) (p q : Part) (each : (n : ℕ) → P (f n) (g n) n) (other : P p q 0) where
  listed_holds : (os : List Operator) (m n : ℕ) → P (if_listed os m n f p) (if_listed os m n g q) (if_listed os m n (λ k. k) 0)
  unfolding if_listed
  listed_holds [] m n = other
  listed_holds (o ∷ os) m n = go (eqb o.marker m && eqb o.name n) (listed_holds os m n)
    where
      go : (b : Bool) → P (if_listed os m n f p) (if_listed os m n g q) (if_listed os m n (λ k. k) 0)
          → P (when b then f o.arity else if_listed os m n f p) (when b then g o.arity else if_listed os m n g q) (when b then o.arity else if_listed os m n (λ k. k) 0)
      go true t = each o.arity
      go false t = t

  operator_holds : (os : List Operator) (e : Node) → P (if_operator os e f p) (if_operator os e g q) (if_operator os e (λ n. n) 0)
  operator_holds os (leaf r nil) = other
  operator_holds os (leaf r (array bs)) = other
  operator_holds os (leaf r (int v)) = other
  operator_holds os (leaf r (ref m n)) = listed_holds os m n
  operator_holds os (branch r es) = other
  operator_holds os (bytecode r es o) = other

-- Elements that differ at most in what each makes with more than follow it

abbrev Similar : List Element → List Element → Type 0
Similar [] [] = Unit {0}
Similar [] (y ∷ ys) = ⊥
Similar (x ∷ xs) [] = ⊥
Similar (x ∷ xs) (y ∷ ys) = (x.alone ≡ y.alone) × ((n : ℕ) → n ≤ length xs → x.leading n ≡ y.leading n) × Similar xs ys

similar_map : {A : Type 0} (f : Part → A) (xs ys : List Element) → Similar xs ys
    → map (λ (x : Element). f x.alone) xs ≡ map (λ (x : Element). f x.alone) ys
similar_map f [] [] s = refl
similar_map f (x ∷ xs) (y ∷ ys) s = rw (s.0, similar_map f xs ys s.2)
similar_map {A = A} f [] (y ∷ ys) s = elim s [ ]
similar_map {A = A} f (x ∷ xs) [] s = elim s [ ]

similar_take : (m n : ℕ) (xs ys : List Element) → m ≤ length (take n xs) → Similar (take n xs) ys → Similar (take m xs) (take m ys)
similar_take zero n xs ys l s = tt
similar_take (suc m) zero xs ys l s = absurd (omega arith)
similar_take (suc m) (suc n) [] [] l s = tt
similar_take (suc m) (suc n) (x ∷ xs) (y ∷ ys) l s = (
  s.0,
  (λ k u. s.1 k (omega (arith, length-take m xs))),
  similar_take m n xs ys (omega arith) s.2,
)
similar_take (suc m) (suc n) [] (y ∷ ys) l s = elim l [ ]
similar_take (suc m) (suc n) (x ∷ xs) [] l s = elim s [ ]

-- an operator that is not short has its operands
enough : (os : List Operator) (k : ℕ) (xs : List Element) → short os k (nodes (parts xs)) ≡ false → k ≤ length xs
unfolding short nodes
enough os zero xs q = omega arith
enough os (suc k) [] q = let z : ◌≡◌ {A = ℕ} 0 1 = cc in absurd (omega arith)
enough os (suc k) (x ∷ xs) q = omega (arith, enough os k xs q)

gathered_similar : (os : List Operator) (k : ℕ) (xs ys : List Element) → Similar xs ys → short os k (nodes (parts xs)) ≡ false
    → gathered os k xs ≡ gathered os k ys
unfolding gathered short nodes
gathered_similar os k [] [] s q = refl
gathered_similar os zero (x ∷ xs) (y ∷ ys) s q =
    let one = operator_holds (λ p q n. n ≤ length xs → p ≡ q) x.leading y.leading x.alone x.alone s.1 (λ u. refl) os x.alone.node in
    rw (← s.0, one (enough os _ xs q), gathered_similar os _ xs ys s.2 q)
gathered_similar os (suc k) (x ∷ xs) (y ∷ ys) s q = gathered_similar os k xs ys s.2 q
gathered_similar os k [] (y ∷ ys) s q = elim s [ ]
gathered_similar os zero (x ∷ xs) [] s q = elim s [ ]
gathered_similar os (suc k) (x ∷ xs) [] s q = elim s [ ]

-- what is asked of the elements of bytecode: whether an operator is short, the rows, what they are gathered to
abbrev outcome_of : ℕ → Around → Bool → List ℕ → List Part → Outcome
outcome_of r around b rows ps =
    let e = result_of r ps in
    when b || led_by_name (elements e.node) then fails 22 else
    when ltb 64 (node_depth e.node) then fails 6 else
    becomes rows (e.transformed around)

outcome_similar : (r : ℕ) (os : List Operator) (around : Around) (xs ys : List Element) → Similar xs ys → outcome r os around xs ≡ outcome r os around ys
outcome_similar r os around xs ys s =
    go (short os 0 (nodes (parts xs))) refl ∙ rw (similar_map (λ p. p) xs ys s, similar_map (λ p. row p.node) xs ys s)
  where
    rows : List ℕ
    rows = map (λ (x : Element). row x.alone.node) xs

    go : (b : Bool) → short os 0 (nodes (parts xs)) ≡ b → outcome_of r around b rows (gathered os 0 xs) ≡ outcome_of r around b rows (gathered os 0 ys)
    go true q = refl
    go false q = ap (outcome_of r around false rows) (gathered_similar os 0 xs ys s q)

arities_similar : (r : ℕ) (around : Around) (xs ys : List Element) → Similar xs ys → with_arities r around xs ≡ with_arities r around ys
arities_similar r around [] [] s = refl
arities_similar r around (x ∷ xs) (y ∷ ys) s = rw (← s.0) (go (operators x.alone.node))
  where
    go : (a : Arities) → with_operators r around xs a ≡ with_operators r around ys a
    go (listed os) = outcome_similar r os _ xs ys s.2
    go ill_formed = refl
arities_similar r around [] (y ∷ ys) s = elim s [ ]
arities_similar r around (x ∷ xs) [] s = elim s [ ]

headed_similar : (r : ℕ) (around : Around) (e : Part) (xs ys : List Element) → Similar xs ys → headed r e xs around ≡ headed r e ys around
headed_similar r around e xs ys s =
    rw (arities_similar r around xs ys s, outcome_similar r (all around) around xs ys s, similar_map (λ p. p) xs ys s)

made_similar : (e : Part) (xs ys : List Element) → Similar xs ys → made e xs ≡ made e ys
made_similar e xs ys s =
    let f : headed (row e.node) e xs ≡ headed (row e.node) e ys = fun_ext λ around. headed_similar (row e.node) around e xs ys s in
    rw (f, similar_map (λ p. p) xs ys s)

-- the first n of what is linked, and the first n linked
linked_similar : (n : ℕ) (ps : List Part) → Similar (take n (linked ps)) (linked (take n ps))
unfolding linked
linked_similar zero ps = tt
linked_similar (suc n) [] = tt
linked_similar (suc n) (p ∷ ps) = (
  refl,
  (λ m l. made_similar p (take m (linked ps)) (take m (linked (take n ps))) (similar_take m n (linked ps) (linked (take n ps)) l (linked_similar n ps))),
  linked_similar n ps,
)

-- Parts that are transformed as their expressions are when written

abbrev Written : Part → Type 0
Written p = (around : Around) → p.transformed around ≡ transform p.node around

abbrev EachWritten : List Part → Type 0
EachWritten [] = Unit {0}
EachWritten (p ∷ ps) = Written p × EachWritten ps

pub parts_linked : (ps : List Part) → parts (linked ps) ≡ ps
unfolding linked
parts_linked [] = refl
parts_linked (p ∷ ps) = ap (λ (qs : List Part). p ∷ qs) (parts_linked ps)

pub nodes_parts : (es : Nodes) → nodes (parts_of es) ≡ es
unfolding nodes transform
nodes_parts empty = refl
nodes_parts (cons e es) = ap (cons e) (nodes_parts es)

pub nodes_kept : (n : ℕ) (es : Nodes) → nodes (parts (take n (linked (parts_of es)))) ≡ keep n es
unfolding nodes linked transform keep
nodes_kept zero es = refl
nodes_kept (suc n) empty = refl
nodes_kept (suc n) (cons e es) = ap (cons e) (nodes_kept n es)

parts_kept : (n : ℕ) (es : Nodes) → take n (parts_of es) ≡ parts_of (keep n es)
unfolding transform keep
parts_kept zero es = refl
parts_kept (suc n) empty = refl
parts_kept (suc n) (cons e es) = ap (λ (ps : List Part). written e ∷ ps) (parts_kept n es)

pub rows_linked : (es : Nodes) → map (λ (x : Element). row x.alone.node) (linked (parts_of es)) ≡ each_row es
unfolding linked transform each_row
rows_linked empty = refl
rows_linked (cons e es) = ap (λ (rs : List ℕ). row e ∷ rs) (rows_linked es)

-- a made form is transformed as the same form is when written
pub made_written : (e : Node) (n : ℕ) (es : Nodes) (around : Around)
    → (made (written e) (take n (linked (parts_of es)))).transformed around ≡ transform (branch (row e) (cons e (keep n es))) around
unfolding transform
made_written e n es around =
    headed_similar (row e) around (written e) (take n (linked (parts_of es))) (linked (take n (parts_of es))) (linked_similar n (parts_of es))
    ∙ rw (parts_kept n es)

-- so is what is gathered
gathered_written : (os : List Operator) (k : ℕ) (es : Nodes) → EachWritten (gathered os k (linked (parts_of es)))
unfolding gathered transform linked nodes
gathered_written os k empty = tt
gathered_written os zero (cons e es) =
    let lead : ℕ → Part = λ n. made (written e) (take n (linked (parts_of es))) in
    let each : (n : ℕ) → Written (lead n) = λ n around. made_written e n es around ∙ rw (nodes_kept n es) in
    (operator_holds (λ p q n. Written p) lead lead (written e) (written e) each (λ around. refl) os e, gathered_written os _ es)
gathered_written os (suc k) (cons e es) = gathered_written os k es

all_written : (around : Around) (ps : List Part) → EachWritten ps → transformed_all around ps ≡ transformed_all around (parts_of (nodes ps))
unfolding nodes transform transformed_all
all_written around [] w = refl
all_written around (p ∷ ps) w = rw (w.0 around, all_written around ps w.1)

-- a form that is no bytecode
pub transform_other : (r : ℕ) (e : Node) (es : Nodes) (around : Around) → is_name prefix* e ≡ false → is_name prefix e && ltb 0 (length around) ≡ false
    → transform (branch r (cons e es)) around ≡ branch r (transformed_all around (parts_of (cons e es)))
unfolding transform
transform_other r e es around p q = rw (p, q, parts_linked (parts_of es))

or_false : (a b : Bool) → a || b ≡ false → (a ≡ false) × (b ≡ false)
or_false true b q = let z : ◌≡◌ {A = ℕ} 0 1 = cc in absurd (omega arith)
or_false false b q = (refl, q)

-- the result of bytecode is transformed as the same expression is when written, and has the bytecode form's place
result_written : (r : ℕ) (ps : List Part) (around : Around) → EachWritten ps → led_by_name (elements (result_of r ps).node) ≡ false
    → (result_of r ps).transformed around ≡ placed r (transform (result_of r ps).node around)
unfolding nodes transform some
result_written r [] around w q = refl
result_written r (p ∷ []) around w q = ap (placed r) (w.0 around)
result_written r (p ∷ o ∷ ps) around w q =
    let names = (or_false (not (is (head_word (nodes (p ∷ o ∷ ps))) plain)) _ q).1 in
    let others = or_false (is_name prefix p.node) _ names in
    let no_prefix : is_name prefix p.node && ltb 0 (length around) ≡ false = rw others.0 in
    rw (all_written around (p ∷ o ∷ ps) w)
    (sym (ap (placed r) (transform_other r p.node (nodes (o ∷ ps)) around (or_false (is_name prefix* p.node) _ others.1).0 no_prefix)))

-- the result of the flat list es at row r, as it would be written
abbrev pub result : ℕ → List Operator → Nodes → Node
result r os es = (result_of r (gathered os 0 (linked (parts_of es)))).node

-- what a bytecode form with the flat list es becomes: at its place, what its result is transformed to where it is written there
pub outcome_written : (r : ℕ) (os : List Operator) (around : Around) (es : Nodes)
    → outcome r os around (linked (parts_of es))
    ≡ (when short os 0 es || led_by_name (elements (result r os es)) then fails 22 else
    when ltb 64 (node_depth (result r os es)) then fails 6 else
    becomes (each_row es) (placed r (transform (result r os es) around)))
outcome_written r os around es =
    rw (parts_linked (parts_of es), nodes_parts es, rows_linked es)
    (go (short os 0 es || led_by_name (elements (result r os es))) λ q. result_written r (gathered os 0 (linked (parts_of es))) around (gathered_written os 0 es) (or_false (short os 0 es) _ q).1)
  where
    e : Part
    e = result_of r (gathered os 0 (linked (parts_of es)))

    go : (b : Bool) → (b ≡ false → e.transformed around ≡ placed r (transform e.node around))
        → (when b then fails 22 else when ltb 64 (node_depth e.node) then fails 6 else becomes (each_row es) (e.transformed around))
        ≡ (when b then fails 22 else when ltb 64 (node_depth e.node) then fails 6 else becomes (each_row es) (placed r (transform e.node around)))
    go true w = refl
    go false w = rw (w refl)

-- As they are evaluated

pub made_evaluated : (call : Call) (e : Node) (n : ℕ) (es : Nodes) (around : Around) (h : Here)
    → eval call ((made (written e) (take n (linked (parts_of es)))).transformed around) h
    ≡ eval call (transform (branch (row e) (cons e (keep n es))) around) h
made_evaluated call e n es around h = rw (made_written e n es around)

pub bytecode_evaluated : (call : Call) (r : ℕ) (os : List Operator) (around : Around) (es : Nodes) (h : Here)
    → rule_bytecode call r (outcome r os around (linked (parts_of es))) h
    ≡ (when short os 0 es || led_by_name (elements (result r os es)) then stop 22 r else
    when ltb 64 (node_depth (result r os es)) then stop 6 r else
    after (map step (each_row es)) (rule call (placed r (transform (result r os es) around)) h))
unfolding rule
bytecode_evaluated call r os around es h =
    rw (outcome_written r os around es) (go (short os 0 es || led_by_name (elements (result r os es))) (ltb 64 (node_depth (result r os es))))
  where
    e : Node
    e = placed r (transform (result r os es) around)

    go : (b c : Bool) → rule_bytecode call r (when b then fails 22 else when c then fails 6 else becomes (each_row es) e) h
        ≡ (when b then stop 22 r else when c then stop 6 r else after (map step (each_row es)) (rule call e h))
    go true c = refl
    go false true = refl
    go false false = refl
