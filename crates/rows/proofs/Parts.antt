-- What code finds out of nodes by their rows: what is at a row, whether a reference leads them, and which they are if they are two or three.
-- Document 01: "elements in ns, define, concat, arg, rest, counted as written". Assumes nothing.
use Prim.Native.Nat.{ℕ, ◌≤◌, ◌<◌}
use mathlib.Core.Path.{◌≡◌, refl, sym, ap, ◌∙◌, subst}
use mathlib.Core.List.{List}
use mathlib.Core.Bool.{Bool, true, false, not, ◌&&◌, and-false}
use lib.Dec.{ltb, leb, eqb}
use borrow.Author.Tests.{leb-true, leb-false, lt-ltb, le-ltb, ne_eqb}
use native.Mathlib.Omega.{arith}
use Rattle.spec.specs.Expr.{when◌then◌else◌, some, Atom, nil, array, int, ref}
use Rattle.spec.specs.Nodes.{core, word, plain, is, Node, leaf, branch, bytecode, Nodes, empty, cons, Outcome, fails, becomes, row, elements, head_word}
use Rattle.spec.specs.Bytecode.{led_by_name}
use Rattle.laws.specs.Demands.{Bytes}
use Rattle.laws.proofs.Basics.{impossible}
use Rattle.rows.specs.Rows.{RowInside, kind, mark, link, next, LeafAt, WrittenAt, WrittenAll, is_made, behind, written, form_at, Opens, led_by_reference, NodeAt, NodesAt, OutcomeAt, operands_of, key_of}
use Rattle.rows.specs.Forms.{reserved, element_at, past, is_named, HeadInside, HeadAt, head_key, leads, IsElement, an_atom, a_form, a_bytecode}
use Rattle.rows.specs.declared.forms.Form.{Form}
use Rattle.rows.specs.declared.forms.Node.{Node as Ranged}
use Rattle.rows.specs.declared.forms.Node.TheVariants.{Leaf, Branch}
use Rattle.rows.specs.declared.forms.Operands.TheVariants.{Zero, One, Two, More}
use Rattle.rows.proofs.Nodes.{kind_ref, no_form, leaf_kind, leaf_fits, opens_whole, written_more, written_whole, written_leaf, nodes_done, nodes_more, nodes_first, node_row, more_whole, kind_leaf}
use Rattle.rows.proofs.Keys.{word_of, word_again, key_test, reserved_again}

-- References

-- a node that is a reference
pub record ReferenceNode (s t : List ℕ) (r : ℕ) (e : Node) : Type 0 where
  pub marker : ℕ
  pub name : ℕ
  pub is : e ≡ leaf r (ref marker name)
  pub here : LeafAt s t r (ref marker name)

module _ (s t : List ℕ) (r : ℕ) (e : Node) where
  reference_leaf : kind t r ≡ 4 → (a : Atom) × (e ≡ leaf r a) × LeafAt s t r a → ReferenceNode s t r e
  reference_leaf k l =
      let m = kind_ref l.0 (leaf_kind l.2 ∙ k) in
      record { marker = m.0; name = m.1; is = l.1 ∙ ap (leaf r) m.2; here = subst (LeafAt s t r) m.2 l.2 }

  pub reference_at : NodeAt s t false r e → kind t r ≡ 4 → ReferenceNode s t r e
  reference_at h k = reference_leaf k (kind_leaf s t r e h (λ z. omega arith))

  pub written_reference : WrittenAt s t r e → kind t r ≡ 4 → ReferenceNode s t r e
  written_reference h k = reference_leaf k (written_leaf s t r e h (λ z. omega arith))

-- what a test for the end of a range tells
module _ {first end : ℕ} {b : Bool} (e : b ≡ leb end first) where
  pub at_end : b ≡ true → end ≤ first
  at_end h = leb-true end first (sym e ∙ h)

  pub before_end : b ≡ false → first < end
  before_end h = leb-false end first (sym e ∙ h)

-- The head of a form

-- a head that is a reference
pub record LedBy (s t : List ℕ) (r : ℕ) (es : Nodes) : Type 0 where
  pub place : ℕ
  pub marker : ℕ
  pub name : ℕ
  pub rest : Nodes
  pub is : es ≡ cons (leaf place (ref marker name)) rest
  pub here : LeafAt s t r (ref marker name)

-- its key, and that of one that is none
pub led_key : {s t : List ℕ} {r : ℕ} {es : Nodes} → LedBy s t r es → (k : ℕ) → ((m n : ℕ) → LeafAt s t r (ref m n) → k ≡ key_of m n) → k ≡ head_key es
led_key l k f = f l.marker l.name l.here ∙ sym (ap head_key l.is)

pub unled_key : (es : Nodes) → false ≡ led_by_reference es → 0 ≡ head_key es
unled_key empty h = refl
unled_key (cons (leaf q nil) es) h = refl
unled_key (cons (leaf q (array bs)) es) h = refl
unled_key (cons (leaf q (int v)) es) h = refl
unled_key (cons (leaf q (ref m n)) es) h = impossible (cc)
unled_key (cons (branch q fs) es) h = refl
unled_key (cons (bytecode q fs o) es) h = refl

pub unnamed_kind : (t : List ℕ) (f : Form) → (kind t f.first ≡ 4 → ⊥) → is_named t f ≡ false
unnamed_kind t f h = rw (ne_eqb (kind t f.first) 4 h) (and-false (ltb f.first f.end && not (is_made t f.flat f.first)))

module _ (s t : List ℕ) (f : Form) where
  -- a head that is a form
  opened_head : f.first < f.end → Opens s t f.flat f.first → (f.first < f.end) × HeadInside t f × (is_named t f ≡ false)
  opened_head h o = (h, (λ l. opens_whole o), go (is_made t f.flat f.first) refl)
    where
      go : (b : Bool) → is_made t f.flat f.first ≡ b → ltb f.first f.end && not b && eqb (kind t f.first) 4 ≡ false
      go true e = rw (lt-ltb f.first f.end h)
      go false e = rw (lt-ltb f.first f.end h, (o.by_row e).kind_is)

  pub nodes_head : (es : Nodes) → NodesAt s t f.flat f.first f.end es → HeadAt s t f es
  unfolding NodeAt HeadAt
  nodes_head empty n = n
  nodes_head (cons (leaf q a) es) n = (omega (arith, n.0, n.1), n.2.1, n.2.2)
  nodes_head (cons (branch q fs) es) n = opened_head (omega (arith, n.0, n.1)) n.2.1
  nodes_head (cons (bytecode q fs o) es) n = opened_head (omega (arith, n.0, n.1)) n.2.1

  pub written_head : f.flat ≡ false → (es : Nodes) → WrittenAll s t f.first f.end es → HeadAt s t f es
  unfolding WrittenAt HeadAt
  written_head e empty n = n
  written_head e (cons (leaf q a) es) n = (omega (arith, n.0, n.1), rw e, n.2.1)
  written_head e (cons (branch q fs) es) n =
      opened_head (omega (arith, n.0, n.1)) (rw e (record { by_row = λ z. n.2.1; by_operator = λ z. impossible (cc) }))
  written_head e (cons (bytecode q fs o) es) n = absurd n.2

  pub written_inside : (es : Nodes) → WrittenAll s t f.first f.end es → HeadInside t f
  written_inside es n = λ l. let m = written_more s t f.first f.end es n l in written_whole s t f.first m.head m.node

  pub head_named : (es : Nodes) → HeadAt s t f es → is_named t f ≡ led_by_reference es
  unfolding HeadAt
  head_named empty h = rw (le-ltb f.first f.end (omega arith))
  head_named (cons (leaf q nil) es) h = rw (lt-ltb f.first f.end h.0, h.1, h.2.row.kind_is)
  head_named (cons (leaf q (array bs)) es) h = rw (lt-ltb f.first f.end h.0, h.1, h.2.row.kind_is)
  head_named (cons (leaf q (int v)) es) h = rw (lt-ltb f.first f.end h.0, h.1, h.2.row.kind_is)
  head_named (cons (leaf q (ref m n)) es) h = rw (lt-ltb f.first f.end h.0, h.1, h.2.row.kind_is)
  head_named (cons (branch q fs) es) h = h.2
  head_named (cons (bytecode q fs o) es) h = h.2

  pub head_inside : (es : Nodes) → HeadAt s t f es → HeadInside t f
  unfolding HeadAt
  head_inside empty h = λ l. absurd (omega arith)
  head_inside (cons (leaf q a) es) h = λ l. (h.2.row.inside, h.2.row.few)
  head_inside (cons (branch q fs) es) h = h.1
  head_inside (cons (bytecode q fs o) es) h = h.1

  pub head_led : (es : Nodes) → HeadAt s t f es → true ≡ led_by_reference es → LedBy s t f.first es
  unfolding HeadAt
  head_led empty h l = impossible (cc)
  head_led (cons (leaf q nil) es) h l = impossible (cc)
  head_led (cons (leaf q (array bs)) es) h l = impossible (cc)
  head_led (cons (leaf q (int v)) es) h l = impossible (cc)
  head_led (cons (leaf q (ref m n)) es) h l = record { place = q; marker = m; name = n; rest = es; is = refl; here = h.2 }
  head_led (cons (branch q fs) es) h l = impossible (cc)
  head_led (cons (bytecode q fs o) es) h l = impossible (cc)

  -- a bytecode form's mark
  pub outcome_marked : (place : ℕ) (o : Outcome) → OutcomeAt s t place f o → 0 < mark t f.first
  unfolding NodeAt
  outcome_marked place (fails w) h = omega (arith, h.0, h.1)
  outcome_marked place (becomes rows e) h = h.0

-- what a head's key tells: its word, whether it is a function name or a bytecode name, and which core name it is
module _ (s t : List ℕ) (f : Form) (b : Bytes s) where
  pub head_worded : (es : Nodes) → HeadAt s t f es → word_of (head_key es) ≡ head_word es
  unfolding HeadAt word
  head_worded empty h = refl
  head_worded (cons (leaf q nil) es) h = refl
  head_worded (cons (leaf q (array bs)) es) h = refl
  head_worded (cons (leaf q (int v)) es) h = refl
  head_worded (cons (leaf q (ref m n)) es) h = word_again m n (leaf_fits b h.2).2
  head_worded (cons (branch q fs) es) h = refl
  head_worded (cons (bytecode q fs o) es) h = refl

  pub head_reserved : (es : Nodes) → HeadAt s t f es → reserved (head_key es) ≡ led_by_name es
  unfolding HeadAt word some
  head_reserved empty h = refl
  head_reserved (cons (leaf q nil) es) h = refl
  head_reserved (cons (leaf q (array bs)) es) h = refl
  head_reserved (cons (leaf q (int v)) es) h = refl
  head_reserved (cons (leaf q (ref m n)) es) h = reserved_again q m n es (leaf_fits b h.2).2
  head_reserved (cons (branch q fs) es) h = refl
  head_reserved (cons (bytecode q fs o) es) h = refl

  pub head_core : (k : ℕ) → k < 256 → (es : Nodes) → HeadAt s t f es → eqb (head_key es) (key_of core k) ≡ leads k es
  unfolding HeadAt
  head_core k l empty h = ne_eqb 0 (key_of core k) (λ e. omega arith)
  head_core k l (cons (leaf q nil) es) h = ne_eqb 0 (key_of core k) (λ e. omega arith)
  head_core k l (cons (leaf q (array bs)) es) h = ne_eqb 0 (key_of core k) (λ e. omega arith)
  head_core k l (cons (leaf q (int v)) es) h = ne_eqb 0 (key_of core k) (λ e. omega arith)
  head_core k l (cons (leaf q (ref m n)) es) h = key_test m n core k (leaf_fits b h.2).2 l
  head_core k l (cons (branch q fs) es) h = ne_eqb 0 (key_of core k) (λ e. omega arith)
  head_core k l (cons (bytecode q fs o) es) h = ne_eqb 0 (key_of core k) (λ e. omega arith)

-- nodes led by a reference
pub record LedAt (s t : List ℕ) (flat : Bool) (r end : ℕ) (es : Nodes) : Type 0 where
  pub marker : ℕ
  pub name : ℕ
  pub rest : Nodes
  pub is : es ≡ cons (leaf r (ref marker name)) rest
  pub here : LeafAt s t r (ref marker name)
  pub nodes : NodesAt s t flat (next t r) end rest

module _ (s t : List ℕ) (flat : Bool) (r end : ℕ) where
  pub led_at : (es : Nodes) → NodesAt s t flat r end es → true ≡ led_by_reference es → LedAt s t flat r end es
  unfolding NodeAt
  led_at empty h l = impossible (cc)
  led_at (cons (leaf q nil) es) h l = impossible (cc)
  led_at (cons (leaf q (array bs)) es) h l = impossible (cc)
  led_at (cons (leaf q (int v)) es) h l = impossible (cc)
  led_at (cons (leaf q (ref m n)) es) h l =
      record { marker = m; name = n; rest = es; is = ap (λ (k : ℕ). cons (leaf k (ref m n)) es) h.2.0; here = h.2.2; nodes = rw h.2.1 at h.3 }
  led_at (cons (branch q fs) es) h l = impossible (cc)
  led_at (cons (bytecode q fs o) es) h l = impossible (cc)

-- Elements of a list

-- an element that is a form, and no bytecode form
pub record FormAt (s t : List ℕ) (r : ℕ) (f : Form) (e : Node) : Type 0 where
  pub nodes : Nodes
  pub is : e ≡ branch r nodes
  pub at : NodesAt s t false f.first f.end nodes

-- one that is a bytecode form
pub record BytecodeAt (s t : List ℕ) (r : ℕ) (f : Form) (e : Node) : Type 0 where
  pub nodes : Nodes
  pub outcome : Outcome
  pub is : e ≡ bytecode r nodes outcome
  pub at : OutcomeAt s t r f outcome

module _ {s t : List ℕ} {r : ℕ} where
  pub element_place : {n : Ranged} {e : Node} → IsElement s t r n e → row e ≡ r
  element_place (an_atom a l) = refl
  element_place (a_form f es z u h) = refl
  element_place (a_bytecode f es o z l p h x) = refl

  pub element_leaf : {e : Node} → IsElement s t r Leaf e → (a : Atom) × (e ≡ leaf r a) × LeafAt s t r a
  element_leaf (an_atom a l) = (a, refl, l)

  pub element_atom : {e : Node} → IsElement s t r Leaf e → plain ≡ head_word (elements e)
  element_atom (an_atom a l) = refl

  pub element_head : {f : Form} {e : Node} → IsElement s t r (Branch f) e → HeadAt s t f (elements e)
  element_head (a_form f es z u h) = nodes_head s t f es (rw z h)
  element_head (a_bytecode f es o z l p h x) = written_head s t f z es h

  pub element_unflat : {f : Form} {e : Node} → IsElement s t r (Branch f) e → f.flat ≡ false
  element_unflat (a_form f es z u h) = z
  element_unflat (a_bytecode f es o z l p h x) = z

  -- a bytecode form's head is a plain reference with a mark; that of another form is not

  pub element_worded : {f : Form} {e : Node} → IsElement s t r (Branch f) e → is (head_word (elements e)) plain ≡ false → FormAt s t r f e
  element_worded (a_form f es z u h) q = record { nodes = es; is = refl; at = h }
  element_worded (a_bytecode f es o z l p h x) q = impossible (cc)

  pub element_unled : {f : Form} {e : Node} → IsElement s t r (Branch f) e → led_by_reference (elements e) ≡ false → FormAt s t r f e
  element_unled (a_form f es z u h) q = record { nodes = es; is = refl; at = h }
  element_unled (a_bytecode f es o z l p h x) q = impossible (cc)

  pub element_unmarked : {f : Form} {e : Node} → IsElement s t r (Branch f) e → mark t f.first ≡ 0 → FormAt s t r f e
  element_unmarked (a_form f es z u h) q = record { nodes = es; is = refl; at = h }
  element_unmarked (a_bytecode f es o z l p h x) q = absurd (omega (arith, outcome_marked s t f r o x))

  pub element_marked : {f : Form} {e : Node} → IsElement s t r (Branch f) e → led_by_reference (elements e) ≡ true → (mark t f.first ≡ 0 → ⊥) → BytecodeAt s t r f e
  element_marked (a_form f es z u h) l q = absurd (q (u l))
  element_marked (a_bytecode f es o z l p h x) _ q = record { nodes = es; outcome = o; is = refl; at = x }

-- A row as the code's node

module _ (s t : List ℕ) (flat : Bool) (r : ℕ) where
  pub form_unflat : (form_at t flat r).flat ≡ false
  form_unflat = go (is_made t flat r)
    where
      go : (b : Bool) → (when b then record { first = r; end = link t r; flat = false } else written t r).flat ≡ false
      go true = refl
      go false = refl

  form_end : (form_at t flat r).end ≡ behind t flat r
  form_end = go (is_made t flat r)
    where
      go : (b : Bool) → (when b then record { first = r; end = link t r; flat = false } else written t r).end ≡ (when b then link t r else next t r)
      go true = refl
      go false = refl

  pub leaf_element : (a : Atom) → is_made t flat r ≡ false → LeafAt s t r a → element_at t flat r ≡ Leaf
  leaf_element a e l = rw (ne_eqb (kind t r) 1 (λ z. no_form a (leaf_kind l ∙ z)), e)

  pub made_element : {m n : ℕ} → is_made t flat r ≡ true → LeafAt s t r (ref m n) → element_at t flat r ≡ Branch (form_at t flat r)
  made_element e l = rw (e, l.row.kind_is)

  pub opens_element : Opens s t flat r → element_at t flat r ≡ Branch (form_at t flat r)
  opens_element o = go (is_made t flat r) refl
    where
      go : (b : Bool) → is_made t flat r ≡ b → element_at t flat r ≡ Branch (form_at t flat r)
      go true e = made_element e (o.by_operator e).leaf_at
      go false e = rw (e, (o.by_row e).kind_is)

  pub element_is : (e : Node) → NodeAt s t flat r e → IsElement s t r (element_at t flat r) e
  unfolding NodeAt
  element_is (leaf q a) n = rw (n.0, leaf_element a n.1 n.2) (an_atom a n.2)
  element_is (branch q es) n = rw (opens_element n.1, n.0) (a_form (form_at t flat r) es form_unflat n.2 n.3)
  element_is (bytecode q es o) n = rw (opens_element n.1, n.0) (a_bytecode (form_at t flat r) es o form_unflat n.2 n.3 n.4 n.5)

  -- where it ends
  pub element_past : (e : Node) → NodeAt s t flat r e → past r (element_at t flat r) ≡ behind t flat r
  unfolding NodeAt
  element_past (leaf q a) n = rw (leaf_element a n.1 n.2, n.1, n.2.on)
  element_past (branch q es) n = rw (opens_element n.1) form_end
  element_past (bytecode q es o) n = rw (opens_element n.1) form_end

-- A form's elements, from row to row

-- an element at row r, and what follows from row a on, which the row tells
pub record NextAt (s t : List ℕ) (r a end : ℕ) (es : Nodes) : Type 0 where
  pub head : Node
  pub rest : Nodes
  pub is : es ≡ cons head rest
  pub place : row head ≡ r
  pub whole : RowInside t r
  pub nodes : NodesAt s t false a end rest

pub next_at : {s t : List ℕ} {r a end : ℕ} {es : Nodes} → NodesAt s t false r end es → r < end → a ≡ next t r → NextAt s t r a end es
next_at {s = s} {t = t} {r = r} {end = end} {es = es} h l e =
    let f = nodes_more s t false r end es h l in
    record { head = f.head; rest = f.rest; is = f.is; place = node_row s t false r f.head f.node; whole = (more_whole s t false r f).0; nodes = rw e f.nodes }

-- its operands, if no element follows, or one, or two, or more
module _ {s t : List ℕ} {r a end : ℕ} {es : Nodes} (f : NextAt s t r a end es) where
  pub no_operand : end ≤ a → Zero ≡ operands_of es
  no_operand l = rw (f.is, nodes_done s t false a end f.rest f.nodes l)

  pub one_operand : {b : ℕ} → NextAt s t a b end f.rest → end ≤ b → One a ≡ operands_of es
  one_operand {b} g l = rw (f.is, g.is, nodes_done s t false b end g.rest g.nodes l, g.place)

  pub two_operands : {b c : ℕ} (g : NextAt s t a b end f.rest) → NextAt s t b c end g.rest → end ≤ c → Two a b ≡ operands_of es
  two_operands {b} {c} g k l = rw (f.is, g.is, k.is, nodes_done s t false c end k.rest k.nodes l, g.place, k.place)

  pub more_operands : {b c : ℕ} (g : NextAt s t a b end f.rest) → NextAt s t b c end g.rest → c < end → More a b ≡ operands_of es
  more_operands {b} {c} g k l = rw (f.is, g.is, k.is, (nodes_more s t false c end k.rest k.nodes l).is, g.place, k.place)

-- an operand or two, by the answer

-- a head and one more
pub record OneAt (s t : List ℕ) (a : ℕ) (es : Nodes) : Type 0 where
  pub head : Node
  pub first : Node
  pub is : es ≡ cons head (cons first empty)
  pub at : NodeAt s t false a first

-- a head and two more
pub record TwoAt (s t : List ℕ) (end a b : ℕ) (es : Nodes) : Type 0 where
  pub head : Node
  pub first : Node
  pub second : Node
  pub is : es ≡ cons head (cons first (cons second empty))
  pub one : NodeAt s t false a first
  pub two : NodeAt s t false b second
  pub from_one : NodesAt s t false a end (cons first (cons second empty))
  pub from_two : NodesAt s t false b end (cons second empty)

module _ (s t : List ℕ) (r end : ℕ) where
  pub one_at : (es : Nodes) (a : ℕ) → NodesAt s t false r end es → One a ≡ operands_of es → OneAt s t a es
  one_at empty a h e = impossible (cc)
  one_at (cons x empty) a h e = impossible (cc)
  one_at (cons x (cons y empty)) a h e =
      let one = nodes_first s t false (next t r) end y empty (nodes_first s t false r end x (cons y empty) h).2 in
      let first : a ≡ row y = cc in
      record { head = x; first = y; is = refl; at = rw (first ∙ node_row s t false (next t r) y one.1) one.1 }
  one_at (cons x (cons y (cons z empty))) a h e = impossible (cc)
  one_at (cons x (cons y (cons z (cons w es)))) a h e = impossible (cc)

  pub two_at : (es : Nodes) (a b : ℕ) → NodesAt s t false r end es → Two a b ≡ operands_of es → TwoAt s t end a b es
  two_at empty a b h e = impossible (cc)
  two_at (cons x empty) a b h e = impossible (cc)
  two_at (cons x (cons y empty)) a b h e = impossible (cc)
  two_at (cons x (cons y (cons z empty))) a b h e =
      let begin = nodes_first s t false r end x (cons y (cons z empty)) h in
      let one = nodes_first s t false (next t r) end y (cons z empty) begin.2 in
      let two = nodes_first s t false (next t (next t r)) end z empty one.2 in
      let first : a ≡ row y = cc in
      let second : b ≡ row z = cc in
      let here : a ≡ next t r = first ∙ node_row s t false (next t r) y one.1 in
      let there : b ≡ next t (next t r) = second ∙ node_row s t false (next t (next t r)) z two.1 in
      record {
        head = x;
        first = y;
        second = z;
        is = refl;
        one = rw here one.1;
        two = rw there two.1;
        from_one = rw here begin.2;
        from_two = rw there one.2;
      }
  two_at (cons x (cons y (cons z (cons w es)))) a b h e = impossible (cc)
