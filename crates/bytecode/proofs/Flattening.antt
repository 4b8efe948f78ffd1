-- Bytecode forms in the table: by their heads, what they become. Document 02, §1. Assumes nothing.
use Prim.Native.Nat.{ℕ, ◌+◌, ◌≤◌, ◌<◌}
use mathlib.Core.Path.{◌≡◌, refl, ap, sym, ◌∙◌}
use mathlib.Core.List.{List, [], ◌∷◌}
use mathlib.Core.Bool.{Bool, true, false, not, ◌&&◌, ◌||◌}
use native.Mathlib.Omega.{arith}
use lib.ListN.{length}
use lib.Dec.{ltb, leb, eqb}
use borrow.Author.Tests.{eqb-true, lt-ltb, le-leb, leb-true, le-ltb}
use Rattle.spec.specs.Expr.{when◌then◌else◌, some, nil, array, int, ref}
use Rattle.spec.specs.Nodes.{core, plain as plain_word, is, among, word, Node, leaf, branch, bytecode, Nodes, empty, cons, becomes, row, elements, head_word}
use Rattle.spec.specs.Bytecode.{prefix, prefix*, is_name, led_by_name, Operator, listed, operators, Around, all, Part, nodes, transformed_all, gathered, placed, result_of, outcome, linked, transform, parts_of, short, node_depth}
use Rattle.spec.proofs.Made.{keep, each_row, transform_other, result}
use Rattle.spec.proofs.Flat.{refusal, Role, operator, operand, role, by_role, by_its_role, foremost, others, first_part, first_part_written, gathered_cons, transform_star, transform_nested, star_listed}
use Rattle.laws.proofs.Basics.{both_false}
use Rattle.laws.proofs.Bytecode.{unled_plain, Turned, same_leaf, same_form, to_bytecode, same_bytecode, transform_turned}
use Rattle.rows.specs.Rows.{RowInside, mark, next, WrittenAt, WrittenAll, behind, led_by_reference, NodeAt, NodesAt, OutcomeAt, ResultAt, single}
use Rattle.rows.specs.declared.forms.Form.{Form}
use Rattle.rows.proofs.Nodes.{written_whole}
use Rattle.rows.proofs.Outcomes.{written_rows}

both_true : (a b : Bool) → (a && b) ≡ true → (a ≡ true) × (b ≡ true)
both_true true b q = (refl, q)
both_true false b q = absurd (cc q)

-- What the transformation keeps of a form's head

head_turned : {e x : Node} (es fs : Nodes) → Turned e x
    → (head_word (cons x fs) ≡ head_word (cons e es)) × (led_by_reference (cons x fs) ≡ led_by_reference (cons e es))
head_turned es fs same_leaf = (refl, refl)
head_turned es fs (same_form t) = (refl, refl)
head_turned es fs to_bytecode = (refl, refl)
head_turned es fs same_bytecode = (refl, refl)

pub head_kept : (around : Around) (gs : Nodes)
    → (head_word (transformed_all around (parts_of gs)) ≡ head_word gs) × (led_by_reference (transformed_all around (parts_of gs)) ≡ led_by_reference gs)
unfolding transform transformed_all
head_kept around empty = (refl, refl)
head_kept around (cons h gs) = head_turned gs (transformed_all around (parts_of gs)) (transform_turned h around)

-- a form with these elements is no bytecode
abbrev pub NoBytecode : Around → Nodes → Type 0
NoBytecode around empty = Unit {0}
NoBytecode around (cons h es) = (is_name prefix* h ≡ false) × (is_name prefix h && ltb 0 (length around) ≡ false)

pub transform_plain : (q : ℕ) (gs : Nodes) (around : Around) → NoBytecode around gs → transform (branch q gs) around ≡ branch q (transformed_all around (parts_of gs))
unfolding transform transformed_all
transform_plain q empty around b = refl
transform_plain q (cons h gs) around b = transform_other q h gs around b.0 b.1

unled : (around : Around) (gs : Nodes) → led_by_name gs ≡ false → NoBytecode around gs
unfolding some
unled around empty h = tt
unled around (cons e gs) h =
    let names = both_false (is_name prefix e) _ (both_false (not (is (head_word (cons e gs)) plain_word)) _ h).1 in
    ((both_false (is_name prefix* e) _ names.1).0, rw names.0)

-- Bytecode forms

-- a form's head is a reference, and no function name
abbrev pub LedPlainly : Nodes → Type 0
LedPlainly es = (led_by_reference es ≡ true) × (is (head_word es) plain_word ≡ true)

-- a bytecode name is so
pub named_head : (n : ℕ) → is (word core n) plain_word ≡ true → (h : Node) (gs : Nodes) → is_name n h ≡ true → LedPlainly (cons h gs)
named_head n d (leaf r nil) gs p = absurd (cc p)
named_head n d (leaf r (array bs)) gs p = absurd (cc p)
named_head n d (leaf r (int v)) gs p = absurd (cc p)
named_head n d (leaf r (ref m k)) gs p =
    let same = both_true (eqb m core) (eqb k n) p in
    (refl, rw (eqb-true m core same.0, eqb-true k n same.1) d)
named_head n d (branch r fs) gs p = absurd (cc p)
named_head n d (bytecode r fs o) gs p = absurd (cc p)

named_next : (s t : List ℕ) (r n : ℕ) (h : Node) → is_name n h ≡ true → WrittenAt s t r h → next t r ≡ r + 1
unfolding WrittenAt
named_next s t r n (leaf q a) p w = w.1.on
named_next s t r n (branch q es) p w = absurd (cc p)
named_next s t r n (bytecode q es o) p w = absurd w

-- a bytecode form's head, and what follows it: its mark where it is fine, its operators, what is around its flat list, the flat list
pub data Flattens (around : Around) (h : Node) : Nodes → ℕ → List Operator → Around → Nodes → Type 0 where
  star : (a : Node) (es : Nodes) (os : List Operator) → is_name prefix* h ≡ true → operators a ≡ listed os
      → Flattens around h (cons a es) 2 os (os ∷ around) es
  nested : (es : Nodes) → is_name prefix* h ≡ false → is_name prefix h ≡ true → 0 < length around → Flattens around h es 1 (all around) around es

-- the row of the flat list, by the head's row and the mark
abbrev pub flat_from : List ℕ → ℕ → ℕ → ℕ
flat_from t r k = when eqb k 2 then next t (r + 1) else r + 1

pub flattens_to : (r : ℕ) (around : Around) (h : Node) {gs : Nodes} {k : ℕ} {os : List Operator} {around' : Around} {es : Nodes} → Flattens around h gs k os around' es
    → LedPlainly (cons h gs) × (transform (branch r (cons h gs)) around ≡ bytecode r (cons h gs) (outcome r os around' (linked (parts_of es))))
unfolding word among
flattens_to r around h (star a es os p l) = (
  named_head prefix* refl h (cons a es) p,
  transform_star r h (cons a es) around p ∙ ap (bytecode r (cons h (cons a es))) (star_listed r around a es os l),
)
flattens_to r around h (nested es p q l) = (named_head prefix refl h es q, transform_nested r h es around p q l)

-- the flat list's rows
flattens_written : (s t : List ℕ) (r end : ℕ) (around : Around) (h : Node) {gs : Nodes} {k : ℕ} {os : List Operator} {around' : Around} {es : Nodes}
    → Flattens around h gs k os around' es → WrittenAll s t r end (cons h gs)
    → (0 < k) × (k ≤ 2) × (k ≡ 2 → RowInside t (r + 1)) × WrittenAll s t (flat_from t r k) end es
unfolding WrittenAt
flattens_written s t r end around h (star a es os p l) w =
    let rest = rw (named_next s t r prefix* h p w.2) at w.3 in
    (omega arith, omega arith, (λ z. (written_whole s t (r + 1) a rest.2).0), rest.3)
flattens_written s t r end around h (nested es p q l) w =
    (omega arith, omega arith, (λ z. absurd (omega (arith, z))), rw (named_next s t r prefix h q w.2) at w.3)

-- The result

-- as nodes are read
abbrev IsRead : Node → Type 0
IsRead (leaf r a) = Unit {0}
IsRead (branch r es) = Unit {0}
IsRead (bytecode r es o) = ⊥

module _ (s t : List ℕ) (r first end : ℕ) (around : Around) where
  abbrev flat_form : Form
  flat_form = record { first = first; end = end; flat = true }

  one_result : (e : Node) → IsRead e → led_by_name (elements e) ≡ false → first < end → behind t true first ≡ end → NodeAt s t true first (transform e around)
      → ResultAt s t r flat_form (placed r (transform e around))
  unfolding NodeAt transform
  one_result (leaf q a) i h l b n = (refl, rw (lt-ltb first end l, b, le-leb end end (omega arith)), n.1, n.2)
  one_result (branch q gs) i h l b n =
      let single_true : single t flat_form ≡ true = rw (lt-ltb first end l, b, le-leb end end (omega arith)) in
      rw (transform_plain q gs around (unled around gs h)) (go single_true (rw (transform_plain q gs around (unled around gs h)) at n))
    where
      go : single t flat_form ≡ true → NodeAt s t true first (branch q (transformed_all around (parts_of gs)))
          → ResultAt s t r flat_form (branch r (transformed_all around (parts_of gs)))
      go z n = (
        refl,
        rw (head_kept around gs).0 (unled_plain gs h),
        (λ y. (n.1, n.3)),
        λ y. absurd (cc (sym y ∙ z)),
      )
  one_result (bytecode q gs o) i h l b n = absurd i

  -- the result of expressions of which e is the first
  parts_result : (p : Part) (ps : List Part) (e : Node) → p.node ≡ e → p.transformed around ≡ transform e around → IsRead e
      → led_by_name (elements (result_of r (p ∷ ps)).node) ≡ false → NodesAt s t true first end (transformed_all around (p ∷ ps))
      → ResultAt s t r flat_form ((result_of r (p ∷ ps)).transformed around)
  unfolding NodeAt nodes transformed_all
  parts_result p [] e q w i h n = rw w (one_result e i (rw q at h) (omega (arith, n.0, n.1)) n.3 (rw w at n.2))
  parts_result p (o ∷ ps) e q w i h n = (
    refl,
    rw (w, (head_turned (nodes (o ∷ ps)) (transformed_all around (o ∷ ps)) (transform_turned e around)).0) (unled_plain (cons e (nodes (o ∷ ps))) (rw q at h)),
    (λ y. absurd (leb_behind (both_true (ltb first end) (leb end (behind t true first)) y).1)),
    λ y. n,
  )
    where
      leb_behind : leb end (behind t true first) ≡ true → ⊥
      leb_behind y = omega (arith, leb-true end (behind t true first) y, n.3.0, n.3.1)

  read_first : (os : List Operator) (e : Node) (es : Nodes) → WrittenAt s t first e → IsRead (foremost os e es)
  unfolding WrittenAt
  read_first os e es w = rw (by_its_role os e (λ n. branch (row e) (cons e (keep n es))) e) (go (role os e) e w)
    where
      go : (x : Role) (e : Node) → WrittenAt s t first e → IsRead (by_role (λ n. branch (row e) (cons e (keep n es))) e x)
      go (operator n) e w = tt
      go operand (leaf q a) w = tt
      go operand (branch q gs) w = tt
      go operand (bytecode q gs o) w = w

  more_result : (os : List Operator) (e : Node) (es : Nodes) → WrittenAt s t first e → led_by_name (elements (result r os (cons e es))) ≡ false
      → NodesAt s t true first end (transformed_all around (gathered os 0 (linked (parts_of (cons e es)))))
      → ResultAt s t r flat_form ((result_of r (gathered os 0 (linked (parts_of (cons e es))))).transformed around)
  more_result os e es w h n =
      let first_is = first_part_written os e es around in
      let unled-result = sym (ap (λ (ps : List Part). led_by_name (elements (result_of r ps).node)) (gathered_cons os e es)) ∙ h in
      rw (gathered_cons os e es)
      (parts_result (first_part os e es) (gathered os 0 (linked (parts_of (others os e es)))) (foremost os e es) first_is.0 first_is.1
      (read_first os e es w) unled-result (rw (gathered_cons os e es) at n))

  -- the result of a flat list
  pub result_asked : (os : List Operator) (es : Nodes) → WrittenAll s t first end es → led_by_name (elements (result r os es)) ≡ false
      → NodesAt s t true first end (transformed_all around (gathered os 0 (linked (parts_of es))))
      → ResultAt s t r flat_form ((result_of r (gathered os 0 (linked (parts_of es)))).transformed around)
  unfolding NodeAt WrittenAt gathered linked transform transformed_all
  result_asked os empty w h n = (refl, refl, (λ y. absurd (none y)), λ y. n)
    where
      none : single t flat_form ≡ true → ⊥
      none y = let z : ◌≡◌ {A = ℕ} 0 1 = ap (λ (c : Bool). when c then 1 else 0) (rw (le-ltb first end (omega (arith, n))) at y) in omega (arith, z)
  result_asked os (cons e es) w h n = more_result os e es w.2 h n

-- what a bytecode form that is fine becomes
pub outcome_asked : (s t : List ℕ) (place : ℕ) (own : Form) (around : Around) (h : Node) {gs : Nodes} {k : ℕ} {os : List Operator} {around' : Around} {es : Nodes}
    → Flattens around h gs k os around' es → WrittenAll s t own.first own.end (cons h gs) → mark t own.first ≡ k
    → led_by_name (elements (result place os es)) ≡ false
    → NodesAt s t true (flat_from t own.first k) own.end (transformed_all around' (gathered os 0 (linked (parts_of es))))
    → OutcomeAt s t place own (becomes (each_row es) ((result_of place (gathered os 0 (linked (parts_of es)))).transformed around'))
unfolding NodeAt
outcome_asked s t place own around h {k = k} {os = os} {around' = around'} {es = es} flattens w m unled-result n =
    let first = flat_from t own.first k in
    let rows = flattens_written s t own.first own.end around h flattens w in
    rw m (rows.0, rows.1, rows.2, written_rows s t first own.end es rows.3, result_asked s t place first own.end around' os es rows.3 unled-result n)

-- no refusal is as high as a mark in an arity list
pub refusal_small : (r : ℕ) (os : List Operator) (es : Nodes) → refusal r os es < 63
refusal_small r os es = go (short os 0 es || led_by_name (elements (result r os es))) (ltb 64 (node_depth (result r os es)))
  where
    go : (b c : Bool) → (when b then 22 else when c then 6 else 0) < 63
    go true c = omega arith
    go false true = omega arith
    go false false = omega arith
