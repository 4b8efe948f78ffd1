-- The first expression of a list, as the code sees it: an atom, or a form, written or made. Document 02, §1. Assumes nothing.
use Prim.Native.Nat.{ℕ, ◌+◌, ◌≤◌, ◌<◌}
use mathlib.Core.Path.{◌≡◌, refl, ap, ◌∙◌}
use mathlib.Core.List.{List}
use mathlib.Core.Bool.{true, false, not}
use native.Mathlib.Omega.{arith}
use borrow.Author.Tests.{eq-eqb, ne_eqb}
use Rattle.spec.specs.Expr.{Atom, nil, array, int, ref}
use Rattle.spec.specs.Nodes.{Node, leaf, branch, bytecode, Nodes, empty, cons, row, tail}
use Rattle.spec.specs.Bytecode.{Operator}
use Rattle.spec.proofs.Made.{keep}
use Rattle.spec.proofs.Flat.{Role, operator, operand, role, by_operand, by_operator, operator_leaf, without, foremost, others}
use Rattle.rows.specs.Rows.{mark, link, next, ReferenceAt, WrittenAt, WrittenAll, is_made, written, form_at}
use Rattle.rows.specs.Forms.{element_at, leads}
use Rattle.rows.specs.declared.forms.Form.{Form}
use Rattle.rows.specs.declared.forms.Node.{Node as Ranged}
use Rattle.rows.specs.declared.forms.Node.TheVariants.{Leaf, Branch}
use Rattle.rows.proofs.Nodes.{written_order, written_row}
use Rattle.rows.proofs.Parts.{leaf_element, opens_element}
use Rattle.bytecode.specs.Frames.{operators_in, Frame, Goal, Holds, going_on, inside}
use Rattle.bytecode.specs.Scanned.{Fresh}
use Rattle.bytecode.proofs.Changing.{changed_none}
use Rattle.bytecode.proofs.Flattening.{NoBytecode}
use Rattle.bytecode.proofs.Goals.{FirstAt, first_at, form_first, goal_form, goal_made}
use Rattle.bytecode.proofs.Frames.{fresh_next, holds_next, holds_branch, holds_made}

-- an atom that is no operator
pub record AtomAt (s t : List ℕ) (f : Frame) (e : Node) (es : Nodes) : Type 0 where
  pub place : ℕ
  pub atom : Atom
  pub is : e ≡ leaf place atom
  pub alone : role (operators_in f.mode) e ≡ operand
  pub rest : Holds s t (going_on f (f.first + 1) es)

-- a form of these elements
pub record FormAt (s t : List ℕ) (f : Frame) (e : Node) (es : Nodes) (form : Form) : Type 0 where
  pub form_is : form ≡ form_at t true f.first
  pub elements : Nodes
  pub is : foremost (operators_in f.mode) e es ≡ branch f.first elements
  pub written : WrittenAll s t form.first form.end elements
  -- its rows
  pub low : f.first ≤ form.first
  pub near : form.first ≤ f.first + 1
  pub further : f.first < form.end
  pub made : form.first ≡ f.first → link t form.first ≡ form.end
  -- what is left inside it and behind it
  pub inner : Nodes
  pub fresh : Fresh s t (f.first + 1) form.end inner
  pub rest : Holds s t (going_on f form.end (others (operators_in f.mode) e es))
  -- what is behind its head, if that is a name
  pub headed : (n : ℕ) → leads n elements ≡ true → ReferenceAt s t form.first × Fresh s t (form.first + 1) form.end (tail elements)
  -- what is asked of it, if it is no bytecode
  pub plain : (u : List ℕ) → FirstAt s u f e es → next u f.first ≡ next t f.first → link u f.first ≡ link t f.first → (mark t f.first ≡ 0 → mark u f.first ≡ 0)
      → NoBytecode f.around elements → Goal s u (inside f (f.first + 1) form.end inner) → Goal s u (going_on f form.end (others (operators_in f.mode) e es)) → Goal s u f

pub data View (s t : List ℕ) (f : Frame) (e : Node) (es : Nodes) : Ranged → Type 0 where
  an_atom : AtomAt s t f e es → View s t f e es Leaf
  a_form : (form : Form) → FormAt s t f e es form → View s t f e es (Branch form)

-- behind a head that is a name
led_behind : (s t : List ℕ) (from to : ℕ) (gs : Nodes) (n : ℕ) → Fresh s t from to gs → leads n gs ≡ true
    → ReferenceAt s t from × Fresh s t (from + 1) to (tail gs)
unfolding WrittenAll
led_behind s t from to empty n h l = absurd (cc l)
led_behind s t from to (cons (leaf q nil) gs) n h l = absurd (cc l)
led_behind s t from to (cons (leaf q (array bs)) gs) n h l = absurd (cc l)
led_behind s t from to (cons (leaf q (int v)) gs) n h l = absurd (cc l)
led_behind s t from to (cons (leaf q (ref m k)) gs) n h l =
    let a = h.written.2.1 in (record { marker = m; name = k; leaf_at = a }, rw a.on at (fresh_next s t from to (leaf q (ref m k)) gs h))
led_behind s t from to (cons (branch q fs) gs) n h l = absurd (cc l)
led_behind s t from to (cons (bytecode q fs o) gs) n h l = absurd (cc l)

module _ (s t : List ℕ) (f : Frame) (e : Node) (es : Nodes) (h : Holds s t f) (is : f.elements ≡ cons e es) where
  abbrev os : List Operator
  os = operators_in f.mode

  here : FirstAt s t f e es
  here = first_at s (changed_none t 0 0) f e es h is refl

  unmade : role os e ≡ operand → is_made t true f.first ≡ false
  unfolding here
  unmade k = ap not (eq-eqb (link t f.first) 0 (here.linked ∙ by_operand os e _ 0 k))

  -- a written form
  branch_at : (q : ℕ) (gs : Nodes) → e ≡ branch q gs → FormAt s t f e es (written t f.first)
  unfolding WrittenAll here
  branch_at q gs i =
      let k : role os e ≡ operand = rw i in
      let w : WrittenAt s t f.first (branch q gs) = rw i at here.written.2 in
      let rest = by_operand os e (λ n. without n es) es k in
      record {
        form_is = rw (unmade k);
        elements = gs;
        is = by_operand os e (λ n. branch (row e) (cons e (keep n es))) e k ∙ i ∙ ap (λ (r : ℕ). branch r gs) w.0;
        written = w.2;
        low = omega arith;
        near = omega arith;
        further = here.written.0;
        made = λ z. absurd (omega (arith, z));
        inner = gs;
        fresh = holds_branch s t f e es h is q gs i;
        rest = rw rest (holds_next s t f e es h is k);
        headed = λ n l. led_behind s t (f.first + 1) (next t f.first) gs n (holds_branch s t f e es h is q gs i) l;
        plain = λ u at on l m b g z. goal_form s u f e es at q gs i b (rw on g) (rw on (rw rest at z));
      }

  -- a made one
  made_at : (n : ℕ) → role os e ≡ operator n → FormAt s t f e es (record { first = f.first; end = link t f.first; flat = false })
  unfolding WrittenAll here
  made_at n k =
      let l = operator_leaf os e n k in
      let w : WrittenAt s t f.first (leaf l.0 (ref l.1 l.2)) = rw l.3 at here.written.2 in
      let on : next t f.first ≡ f.first + 1 = w.1.on in
      let m = holds_made s t f e es h is n k in
      let past = written_order s t (f.first + 1) (link t f.first) (keep n es) m.fresh.written in
      let rest = by_operator os e (λ n. without n es) es n k in
      record {
        form_is = rw (ap not (ne_eqb (link t f.first) 0 (λ z. omega (arith, past))));
        elements = cons e (keep n es);
        is = by_operator os e (λ n. branch (row e) (cons e (keep n es))) e n k ∙ ap (λ (r : ℕ). branch r (cons e (keep n es))) (written_row s t f.first e here.written.2);
        written = (here.written.0, omega (arith, on), here.written.2, rw on m.fresh.written);
        low = omega arith;
        near = omega arith;
        further = omega (arith, past);
        made = λ z. refl;
        inner = keep n es;
        fresh = m.fresh;
        rest = rw rest m.rest;
        headed = λ n' l'. (record { marker = l.1; name = l.2; leaf_at = w.1 }, m.fresh);
        plain = λ u at on' link' mark' b g z. goal_made s u f e es at n k b (mark' (h.unmarked f.first (omega arith) (omega (arith, here.written.0, here.written.1)) w.1.row.kind_is))
            (rw link' g) (rw link' (rw rest at z));
      }

  atom_at : (q : ℕ) (a : Atom) → e ≡ leaf q a → role os e ≡ operand → AtomAt s t f e es
  unfolding WrittenAll here
  atom_at q a i k =
      let w : WrittenAt s t f.first (leaf q a) = rw i at here.written.2 in
      record { place = q; atom = a; is = i; alone = k; rest = rw w.1.on at (holds_next s t f e es h is k) }

  form_view : {form : Form} → FormAt s t f e es form → View s t f e es (element_at t true f.first)
  form_view a = rw (opens_element s t true f.first (form_first s t f e es here f.first a.elements a.is).opens, ← a.form_is) (a_form _ a)

  pub view : View s t f e es (element_at t true f.first)
  unfolding WrittenAll here
  view = go e refl (role os e) refl
    where
      go : (x : Node) → e ≡ x → (y : Role) → role os e ≡ y → View s t f e es (element_at t true f.first)
      go (leaf q a) i operand k =
          let w : WrittenAt s t f.first (leaf q a) = rw i at here.written.2 in
          rw (leaf_element s t true f.first a (unmade k) w.1) (an_atom (atom_at q a i k))
      go (leaf q a) i (operator n) k = form_view (made_at n k)
      go (branch q gs) i y k = form_view (branch_at q gs i)
      go (bytecode q gs o) i y k = absurd (rw i at here.written.2)
