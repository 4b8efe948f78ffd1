-- Laws of the transformation of bytecode: what it keeps of an expression; that what it gives fits, if the expression did. A made form is no part of
-- a written one, so what is so of nodes is carried along the parts of which forms are made. Document 02, §1. Assumes nothing.
use Prim.Native.Nat.{ℕ, zero, suc, ◌<◌}
use mathlib.Core.Path.{◌≡◌, refl, ◌∙◌, subst}
use mathlib.Core.List.{List, [], ◌∷◌, map}
use mathlib.Core.Bool.{Bool, true, false, not, ◌&&◌, ◌||◌}
use native.Mathlib.Omega.{arith}
use lib.ListN.{length, take, get_or}
use lib.Dec.{eqb, ltb}
use borrow.Author.Tests.{not-false}
use Rattle.spec.specs.Expr.{some, Atom, nil, array, int, ref}
use Rattle.spec.specs.Nodes.{plain, is, Node, leaf, branch, bytecode, Nodes, empty, cons, Outcome, row, elements, head_word, markers, markers_all}
use Rattle.spec.specs.Runs.{step}
use Rattle.spec.specs.Bytecode.{prefix, prefix*, bytecode_names, is_name, led_by_name, Operator, if_listed, if_operator, Arities, listed, ill_formed, operators, Around, all, short, node_depth, Part, nodes, transformed_all, Element, parts, gathered, placed, result_of, outcome, with_operators, with_arities, headed, made, linked, form_of, transform, parts_of, transform_all}
use Rattle.laws.specs.Sanity.{RowsBelow}
use Rattle.laws.proofs.Basics.{by_test, both_false}
use Rattle.laws.proofs.Fits.{FitsNode, FitsNodes, FitsOutcome, row_below}

-- a form headed by no name has no function name for its head
pub unled_plain : (es : Nodes) → led_by_name es ≡ false → is (head_word es) plain ≡ true
unled_plain empty q = refl
unled_plain (cons e es) q = not-false (is (head_word (cons e es)) plain) (both_false _ (some (λ n. is_name n e) bytecode_names) q).0

-- What is kept

-- an expression, and the same with the bytecode in it transformed
mutual
  pub data Turned : Node → Node → Type 0 where
    same_leaf : {r : ℕ} {a : Atom} → Turned (leaf r a) (leaf r a)
    same_form : {r : ℕ} {es fs : Nodes} → TurnedAll es fs → Turned (branch r es) (branch r fs)
    to_bytecode : {r : ℕ} {es : Nodes} {o : Outcome} → Turned (branch r es) (bytecode r es o)
    same_bytecode : {r : ℕ} {es : Nodes} {o : Outcome} → Turned (bytecode r es o) (bytecode r es o)

  pub data TurnedAll : Nodes → Nodes → Type 0 where
    turned_none : TurnedAll empty empty
    turned_more : {e x : Node} {es fs : Nodes} → Turned e x → TurnedAll es fs → TurnedAll (cons e es) (cons x fs)

-- a form is headed by a name if it was so before
turned_led : {es fs : Nodes} → TurnedAll es fs → led_by_name fs ≡ led_by_name es
turned_led turned_none = refl
turned_led (turned_more same_leaf t) = refl
turned_led (turned_more (same_form u) t) = refl
turned_led (turned_more to_bytecode t) = refl
turned_led (turned_more same_bytecode t) = refl

turned_elements : {e x : Node} → Turned e x → led_by_name (elements x) ≡ led_by_name (elements e)
turned_elements same_leaf = refl
turned_elements (same_form t) = turned_led t
turned_elements to_bytecode = refl
turned_elements same_bytecode = refl

-- the references in it bear the same markers
mutual
  unfolding markers

  pub turned_markers : {e x : Node} → Turned e x → markers x ≡ markers e
  turned_markers same_leaf = refl
  turned_markers (same_form t) = turned_markers_all t
  turned_markers to_bytecode = refl
  turned_markers same_bytecode = refl

  pub turned_markers_all : {es fs : Nodes} → TurnedAll es fs → markers_all fs ≡ markers_all es
  turned_markers_all turned_none = refl
  turned_markers_all (turned_more t u) = rw (turned_markers t, turned_markers_all u)

headed_turned : (r : ℕ) (e : Part) (es : List Element) (around : Around) → let ps = e ∷ parts es in
    TurnedAll (nodes ps) (transformed_all around ps) → Turned (branch r (nodes ps)) (headed r e es around)
headed_turned r e es around t =
    let form : Node → Type 0 = Turned (branch r (nodes (e ∷ parts es))) in
    by_test form (is_name prefix* e.node) (λ q. to_bytecode) λ q.
    by_test form (is_name prefix e.node && ltb 0 (length around)) (λ q. to_bytecode) (λ q. same_form t)

-- the parts of a form are its elements
parts_linked : (ps : List Part) → parts (linked ps) ≡ ps
unfolding linked
parts_linked [] = refl
parts_linked (p ∷ ps) = rw (parts_linked ps)

form_turned : (r : ℕ) (ps : List Part) (around : Around) → TurnedAll (nodes ps) (transformed_all around ps) → Turned (branch r (nodes ps)) (form_of r ps around)
unfolding nodes transformed_all
form_turned r [] around t = same_form t
form_turned r (p ∷ ps) around t =
    subst (λ (qs : List Part). Turned (branch r (nodes (p ∷ qs))) (form_of r (p ∷ ps) around)) (parts_linked ps)
    (headed_turned r p (linked ps) around (rw (parts_linked ps) t))

nodes_parts : (es : Nodes) → nodes (parts_of es) ≡ es
unfolding nodes transform
nodes_parts empty = refl
nodes_parts (cons e es) = rw (nodes_parts es)

mutual
  unfolding transform nodes transformed_all

  pub transform_turned : (e : Node) (around : Around) → Turned e (transform e around)
  transform_turned (leaf r a) around = same_leaf
  transform_turned (branch r es) around =
      subst (λ (ns : Nodes). Turned (branch r ns) (form_of r (parts_of es) around)) (nodes_parts es) (form_turned r (parts_of es) around (parts_turned es around))
  transform_turned (bytecode r es o) around = same_bytecode

  parts_turned : (es : Nodes) (around : Around) → TurnedAll (nodes (parts_of es)) (transformed_all around (parts_of es))
  parts_turned empty around = turned_none
  parts_turned (cons e es) around = turned_more (transform_turned e around) (parts_turned es around)

-- Tests

or_true : (a b : Bool) → b ≡ true → (a || b) ≡ true
or_true true b q = refl
or_true false b q = q

some_at : (test : ℕ → Bool) (l : List ℕ) (i : ℕ) → i < length l → test (get_or l i 0) ≡ true → some test l ≡ true
unfolding some
some_at test [] i h q = absurd (omega arith)
some_at test (n ∷ l) zero h q = rw q
some_at test (n ∷ l) (suc i) h q = or_true (test n) (some test l) (some_at test l i (omega arith) q)

-- name number i of these: `prefix` is number 0, `prefix*` number 1
name_led : (i : ℕ) → i < length bytecode_names → (e : Node) (es : Nodes) → is_name (get_or bytecode_names i 0) e ≡ true → led_by_name (cons e es) ≡ true
name_led i h e es q = or_true (not (is (head_word (cons e es)) plain)) _ (some_at (λ n. is_name n e) bytecode_names i h q)

both_true : (a b : Bool) → (a && b) ≡ true → a ≡ true
both_true true b q = refl
both_true false b q = q

module _ {A : Type 0} (P : A → Type 0) {f : ℕ → A} {other : A} (p : (n : ℕ) → P (f n)) (q : P other) where
  if_listed_each : (os : List Operator) (m n : ℕ) → P (if_listed os m n f other)
  unfolding if_listed
  if_listed_each [] m n = q
  if_listed_each (o ∷ os) m n = by_test P (eqb o.marker m && eqb o.name n) (λ t. p o.arity) (λ t. if_listed_each os m n)

  if_operator_each : (os : List Operator) (e : Node) → P (if_operator os e f other)
  if_operator_each os (leaf r nil) = q
  if_operator_each os (leaf r (array bs)) = q
  if_operator_each os (leaf r (int v)) = q
  if_operator_each os (leaf r (ref m n)) = if_listed_each os m n
  if_operator_each os (branch r es) = q
  if_operator_each os (bytecode r es o) = q

-- What fits

module _ (bound : ℕ) where
  record FitsPart (p : Part) : Type 0 where
    written : FitsNode bound p.node
    fits : (around : Around) → FitsNode bound (p.transformed around)
    turned : (around : Around) → Turned p.node (p.transformed around)

  abbrev FitsParts : List Part → Type 0
  FitsParts [] = Unit {0}
  FitsParts (p ∷ ps) = FitsPart p × FitsParts ps

  nodes_fit : (ps : List Part) → FitsParts ps → FitsNodes bound (nodes ps)
  unfolding nodes
  nodes_fit [] f = tt
  nodes_fit (p ∷ ps) f = (f.0.written, nodes_fit ps f.1)

  module _ (around : Around) where
    transformed_fit : (ps : List Part) → FitsParts ps → FitsNodes bound (transformed_all around ps)
    unfolding transformed_all
    transformed_fit [] f = tt
    transformed_fit (p ∷ ps) f = (f.0.fits around, transformed_fit ps f.1)

    fit_turned : (ps : List Part) → FitsParts ps → TurnedAll (nodes ps) (transformed_all around ps)
    unfolding nodes transformed_all
    fit_turned [] f = turned_none
    fit_turned (p ∷ ps) f = turned_more (f.0.turned around) (fit_turned ps f.1)

  -- elements: each as it stands, and as an operator
  abbrev FitsElements : List Element → Type 0
  FitsElements [] = Unit {0}
  FitsElements (e ∷ es) = FitsPart e.alone × ((n : ℕ) → FitsPart (e.leading n)) × FitsElements es

  parts_fit : (es : List Element) → FitsElements es → FitsParts (parts es)
  parts_fit [] f = tt
  parts_fit (e ∷ es) f = (f.0, parts_fit es f.2)

  take_fits : (n : ℕ) (es : List Element) → FitsElements es → FitsElements (take n es)
  take_fits zero es f = tt
  take_fits (suc n) [] f = tt
  take_fits (suc n) (e ∷ es) f = (f.0, f.1, take_fits n es f.2)

  rows_fit : (es : List Element) → FitsElements es → RowsBelow bound (map step (map (λ x. row x.alone.node) es))
  rows_fit [] f = tt
  rows_fit (e ∷ es) f = (row_below bound e.alone.node f.0.written, rows_fit es f.2)

  gathered_fits : (os : List Operator) (k : ℕ) (es : List Element) → FitsElements es → FitsParts (gathered os k es)
  unfolding gathered
  gathered_fits os zero [] f = tt
  gathered_fits os (suc k) [] f = tt
  gathered_fits os zero (e ∷ es) f = (if_operator_each FitsPart f.1 f.0 os e.alone.node, gathered_fits os (if_operator os e.alone.node (λ n. n) 0) es f.2)
  gathered_fits os (suc k) (e ∷ es) f = gathered_fits os k es f.2

  -- the result, at the form's row
  placed_fits : (r : ℕ) → r < bound → {e x : Node} → FitsNode bound x → Turned e x
      → FitsNode bound (placed r x) × (led_by_name (elements (placed r x)) ≡ led_by_name (elements e))
  placed_fits r q {x = leaf s a} f t = ((q, f.1), turned_elements t)
  placed_fits r q {x = branch s es} f t = ((q, f.1), turned_elements t)
  placed_fits r q {x = bytecode s es o} f t = ((q, f.1, f.2, f.3), turned_elements t)

  result_fits : (r : ℕ) → r < bound → (around : Around) (ps : List Part) → FitsParts ps → let x = result_of r ps in
      FitsNode bound (x.transformed around) × (led_by_name (elements (x.transformed around)) ≡ led_by_name (elements x.node))
  result_fits r q around [] f = ((q, tt), refl)
  result_fits r q around (e ∷ []) f = placed_fits r q (f.0.fits around) (f.0.turned around)
  result_fits r q around (e ∷ p ∷ ps) f = ((q, transformed_fit around (e ∷ p ∷ ps) f), turned_led (fit_turned around (e ∷ p ∷ ps) f))

  module _ (r : ℕ) (q : r < bound) where
    outcome_fits : (os : List Operator) (around : Around) (flat : List Element) → FitsElements flat → FitsOutcome bound (outcome r os around flat)
    outcome_fits os around flat f =
        let ps = gathered os 0 flat in
        let x = result_fits r q around ps (gathered_fits os 0 flat f) in
        by_test (FitsOutcome bound) (short os 0 (nodes (parts flat)) || led_by_name (elements (result_of r ps).node)) (λ t. refl) λ t.
        by_test (FitsOutcome bound) (ltb 64 (node_depth (result_of r ps).node)) (λ u. refl) λ u.
        (rows_fit flat f, x.0, x.1 ∙ (both_false (short os 0 (nodes (parts flat))) _ t).1)

    with_arities_fits : (around : Around) (es : List Element) → FitsElements es → FitsOutcome bound (with_arities r around es)
    with_arities_fits around [] f = refl
    with_arities_fits around (a ∷ flat) f = go (operators a.alone.node)
      where
        go : (os : Arities) → FitsOutcome bound (with_operators r around flat os)
        go (listed os) = outcome_fits os (os ∷ around) flat f.2
        go ill_formed = refl

    headed_fits : (e : Part) (es : List Element) → FitsPart e → FitsElements es → (around : Around) → FitsNode bound (headed r e es around)
    unfolding nodes
    headed_fits e es f g around =
        let fs : FitsParts (e ∷ parts es) = (f, parts_fit es g) in
        let written = nodes_fit (e ∷ parts es) fs in
        by_test (FitsNode bound) (is_name prefix* e.node)
        (λ t. (q, written, name_led 1 (omega arith) e.node (nodes (parts es)) t, with_arities_fits around es g)) λ t.
        by_test (FitsNode bound) (is_name prefix e.node && ltb 0 (length around))
        (λ u. (q, written, name_led 0 (omega arith) e.node (nodes (parts es)) (both_true _ _ u), outcome_fits (all around) around es g)) λ u.
        (q, transformed_fit around (e ∷ parts es) fs)

  made_fits : (e : Part) (es : List Element) → FitsPart e → FitsElements es → FitsPart (made e es)
  made_fits e es f g =
      let r = row e.node in
      let q = row_below bound e.node f.written in
      let fs : FitsParts (e ∷ parts es) = (f, parts_fit es g) in
      record {
        written = (q, nodes_fit (e ∷ parts es) fs);
        fits = headed_fits r q e es f g;
        turned = λ around. headed_turned r e es around (fit_turned around (e ∷ parts es) fs);
      }

  linked_fits : (ps : List Part) → FitsParts ps → FitsElements (linked ps)
  unfolding linked
  linked_fits [] f = tt
  linked_fits (p ∷ ps) f =
      let others = linked_fits ps f.1 in
      (f.0, λ n. made_fits p (take n (linked ps)) f.0 (take_fits n (linked ps) others), others)

  form_fits : (r : ℕ) → r < bound → (ps : List Part) → FitsParts ps → (around : Around) → FitsNode bound (form_of r ps around)
  form_fits r q [] f around = (q, tt)
  form_fits r q (p ∷ ps) f around = headed_fits r q p (linked ps) f.0 (linked_fits ps f.1) around

  mutual
    unfolding transform

    transform_fits : (e : Node) → FitsNode bound e → (around : Around) → FitsNode bound (transform e around)
    transform_fits (leaf r a) f around = f
    transform_fits (branch r es) f around = form_fits r f.0 (parts_of es) (parts_of_fit es f.1) around
    transform_fits (bytecode r es o) f around = f

    parts_of_fit : (es : Nodes) → FitsNodes bound es → FitsParts (parts_of es)
    parts_of_fit empty f = tt
    parts_of_fit (cons e es) f =
        (record { written = f.0; fits = λ around. transform_fits e f.0 around; turned = transform_turned e }, parts_of_fit es f.1)

  pub transform_all_fits : (es : Nodes) → FitsNodes bound es → FitsNodes bound (transform_all es)
  transform_all_fits es f = transformed_fit [] (parts_of es) (parts_of_fit es f)
