-- What is asked of a list, from what is asked of the lists in it and of what is left behind its first expression. Document 02, §1.
-- Assumes nothing.
use Prim.Native.Nat.{ℕ, suc, ◌+◌, ◌≤◌, ◌<◌}
use mathlib.Core.Path.{◌≡◌, refl, ap, sym, ◌∙◌, fun_ext}
use mathlib.Core.List.{List, []}
use mathlib.Core.Bool.{Bool, true, false, not}
use native.Mathlib.Omega.{arith}
use borrow.Author.Tests.{eq-eqb, ne_eqb}
use Rattle.spec.specs.Expr.{Atom, nil, array, int, ref}
use Rattle.spec.specs.Reading.{atom_kind}
use Rattle.spec.specs.Nodes.{among, word, Node, leaf, branch, bytecode, Nodes, empty, cons, Outcome, fails, becomes, row, elements}
use Rattle.spec.specs.Bytecode.{prefix*, is_name, Operator, if_operator, ill_formed, Around, short, transformed_all, gathered, result_of, linked, transform, parts_of}
use Rattle.spec.proofs.Made.{keep, each_row}
use Rattle.spec.proofs.Flat.{Role, operator, operand, role, by_operand, by_operator, operator_leaf, none_listed, without, foremost, others, first_part_written, gathered_cons, short_operands, refusal, outcome_refused, outcome_fine, transform_star, arity_list, star_ill_formed}
use Rattle.laws.proofs.Basics.{both_false}
use Rattle.rows.specs.Rows.{kind, mark, link, next, WrittenAt, WrittenAll, is_made, behind, form_at, Opens, led_by_reference, Unmarked, NodeAt, NodesAt, OutcomeAt}
use Rattle.rows.proofs.Nodes.{written_order, written_row}
use Rattle.bytecode.specs.Numbers.{Changed}
use Rattle.bytecode.specs.Gathered.{beyond, lacks, GatheredAt}
use Rattle.bytecode.specs.Frames.{Mode, plain, flat, is_flat, operators_in, expressions, Frame, Goal, Holds, going_on, inside}
use Rattle.bytecode.proofs.Changing.{written_all_kept}
use Rattle.bytecode.proofs.Links.{short_lacks, beyond_kept, beyond_written, beyond_changed}
use Rattle.bytecode.proofs.Flattening.{NoBytecode, transform_plain, head_kept, Flattens, flat_from, LedPlainly, named_head, flattens_to, outcome_asked}

-- An element of a list that is not flat is as it would be in one that is, where it is no operator

module _ (s t : List ℕ) (r : ℕ) where
  opens_in : false ≡ is_made t true r → Opens s t true r → Opens s t false r
  opens_in p o = record { by_row = λ z. o.by_row (sym p); by_operator = λ z. absurd (cc z) }

  node_in : (b : Bool) → is_made t b r ≡ is_made t true r → (e : Node) → NodeAt s t true r e → NodeAt s t b r e
  unfolding NodeAt
  node_in true p e n = n
  node_in false p (leaf q a) n = (n.0, refl, n.2)
  node_in false p (branch q es) n = (n.0, opens_in p n.1, rw (sym p) at n.2, rw (sym p) at n.3)
  node_in false p (bytecode q es o) n = (n.0, opens_in p n.1, n.2, n.3, rw (sym p) at n.4, rw (sym p) at n.5)

  nodes_in : (b : Bool) → is_made t b r ≡ is_made t true r → (end : ℕ) (e : Node) (es : Nodes) → (r < behind t true r) × (behind t true r ≤ end) → NodeAt s t true r e
      → NodesAt s t b (behind t true r) end es → NodesAt s t b r end (cons e es)
  unfolding NodeAt
  nodes_in true p end e es l n ns = (l.0, l.1, n, ns)
  nodes_in false p end e es l n ns =
      let same : behind t true r ≡ next t r = rw (sym p) in
      (rw same at l.0, rw same at l.1, node_in false p e n, rw same at ns)

expressions_cons : (m : Mode) (e : Node) (es : Nodes) (around : Around) → transformed_all around (expressions m (cons e es))
    ≡ cons (transform (foremost (operators_in m) e es) around) (transformed_all around (expressions m (others (operators_in m) e es)))
unfolding transform transformed_all
expressions_cons plain e es around = rw (by_operand [] e (λ n. branch (row e) (cons e (keep n es))) e (none_listed e), by_operand [] e (λ n. without n es) es (none_listed e))
expressions_cons (flat os) e es around =
    ap (transformed_all around) (gathered_cons os e es)
    ∙ ap (λ (x : Node). cons x (transformed_all around (gathered os 0 (linked (parts_of (others os e es)))))) (first_part_written os e es around).1

-- Nothing is left of a list

none_left : (m : Mode) (around : Around) → transformed_all around (expressions m empty) ≡ empty
unfolding transform transformed_all gathered linked
none_left plain around = refl
none_left (flat os) around = refl

pub goal_done : (s t : List ℕ) (f : Frame) → f.elements ≡ empty → f.first ≡ f.end → Goal s t f
unfolding NodeAt
goal_done s t f q h = record { unmarked = λ b. rw q (λ l. absurd (cc l)); nodes = rw (q, none_left f.mode f.around) h }

-- The first expression of a list

-- the first element is e, and es follow
pub record FirstAt (s t : List ℕ) (f : Frame) (e : Node) (es : Nodes) : Type 0 where
  pub elements : f.elements ≡ cons e es
  pub written : WrittenAll s t f.first f.end (cons e es)
  pub linked : link t f.first ≡ if_operator (operators_in f.mode) e (λ n. beyond t n (next t f.first)) 0
  pub enough : short (operators_in f.mode) 0 (cons e es) ≡ false

-- so it is in a table with the same rows, if its link is the same
module _ (s : List ℕ) {t t' : List ℕ} {a b : ℕ} (c : Changed t t' a b) (f : Frame) (e : Node) (es : Nodes) where
  link_same : (os : List Operator) → if_operator os e (λ n. beyond t n (next t f.first)) 0 ≡ if_operator os e (λ n. beyond t' n (next t' f.first)) 0
  link_same os =
      rw (c.same_rows f.first).same_next (ap (λ (g : ℕ → ℕ). if_operator os e g 0) (fun_ext λ n. sym (beyond_changed c n (next t f.first))))

  pub first_at : Holds s t f → f.elements ≡ cons e es → link t' f.first ≡ link t f.first → FirstAt s t' f e es
  unfolding GatheredAt
  first_at h q l = record {
    elements = q;
    written = rw q at (written_all_kept s c f.elements f.first f.end h.written);
    linked = l ∙ (rw q at h.operators).0 ∙ link_same (operators_in f.mode);
    enough = rw q at h.enough;
  }

-- the first expression is a form, written or made, with the elements gs
pub record FormFirst (s t : List ℕ) (f : Frame) (e : Node) (es : Nodes) (q : ℕ) (gs : Nodes) : Type 0 where
  pub row_is : q ≡ f.first
  pub opens : Opens s t true f.first
  pub written : WrittenAll s t (form_at t true f.first).first (form_at t true f.first).end gs
  pub ends : behind t true f.first ≡ (form_at t true f.first).end
  pub left : WrittenAll s t (form_at t true f.first).end f.end (others (operators_in f.mode) e es)

module _ (s t : List ℕ) (f : Frame) (e : Node) (es : Nodes) (here : FirstAt s t f e es) where
  abbrev os : List Operator
  os = operators_in f.mode

  operand_first : role os e ≡ operand → (is_made t true f.first ≡ false) × (foremost os e es ≡ e) × (others os e es ≡ es)
  operand_first k = (
    ap not (eq-eqb (link t f.first) 0 (here.linked ∙ by_operand os e (λ n. beyond t n (next t f.first)) 0 k)),
    by_operand os e (λ n. branch (row e) (cons e (keep n es))) e k,
    by_operand os e (λ n. without n es) es k,
  )

  record OperatorFirst (n : ℕ) : Type 0 where
    made : is_made t true f.first ≡ true
    form : foremost os e es ≡ branch (row e) (cons e (keep n es))
    rest : others os e es ≡ without n es
    operands : WrittenAll s t f.first (link t f.first) (cons e (keep n es))
    left : WrittenAll s t (link t f.first) f.end (without n es)

  operator_first : (n : ℕ) → role os e ≡ operator n → OperatorFirst n
  unfolding WrittenAt
  operator_first n k =
      let r = f.first in
      let w = here.written in
      let is : link t r ≡ beyond t n (next t r) = here.linked ∙ by_operator os e (λ n. beyond t n (next t r)) 0 n k in
      let enough = (both_false (lacks n es) _ (sym (short_lacks os n es) ∙ short_operands os e es n k here.enough)).0 in
      let own = beyond_kept s t n (next t r) f.end es w.3 enough in
      let past = written_order s t (next t r) (beyond t n (next t r)) (keep n es) own in
      record {
        made = ap not (ne_eqb (link t r) 0 (λ z. omega (arith, z, is, past, w.0)));
        form = by_operator os e (λ n. branch (row e) (cons e (keep n es))) e n k;
        rest = by_operator os e (λ n. without n es) es n k;
        operands = (w.0, omega (arith, is, past), w.2, rw is own);
        left = rw is (beyond_written s t n (next t r) f.end es w.3 enough);
      }

  first_bounds : (f.first < behind t true f.first) × (behind t true f.first ≤ f.end)
  unfolding WrittenAt
  first_bounds = go (role os e) refl
    where
      go : (x : Role) → role os e ≡ x → (f.first < behind t true f.first) × (behind t true f.first ≤ f.end)
      go (operator n) k =
          let o = operator_first n k in
          rw o.made (omega (arith, o.operands.0, o.operands.1), written_order s t (link t f.first) f.end (without n es) o.left)
      go operand k = rw (operand_first k).0 (here.written.0, here.written.1)

  made_in : is_made t (is_flat f.mode) f.first ≡ is_made t true f.first
  made_in = go f.mode (λ k. (operand_first k).0)
    where
      go : (m : Mode) → (role (operators_in m) e ≡ operand → is_made t true f.first ≡ false) → is_made t (is_flat m) f.first ≡ is_made t true f.first
      go plain h = sym (h (none_listed e))
      go (flat os) h = refl

  goal_cons : (is_flat f.mode ≡ false → Unmarked t f.first (cons e es)) → NodeAt s t true f.first (transform (foremost os e es) f.around)
      → Goal s t (going_on f (behind t true f.first) (others os e es)) → Goal s t f
  goal_cons m n g = record {
    unmarked = rw here.elements m;
    nodes = rw (here.elements, expressions_cons f.mode e es f.around) (nodes_in s t f.first (is_flat f.mode) made_in f.end _ _ first_bounds n g.nodes);
  }

  -- Forms

  written_form : (q : ℕ) (gs : Nodes) → role os e ≡ operand → e ≡ branch q gs → FormFirst s t f e es q gs
  unfolding WrittenAt
  written_form q gs k i =
      let o = operand_first k in
      let w : WrittenAt s t f.first (branch q gs) = rw i at here.written.2 in
      record {
        row_is = w.0;
        opens = record { by_row = λ z. w.1; by_operator = λ z. absurd (cc (sym o.0 ∙ z)) };
        written = rw o.0 w.2;
        ends = rw o.0;
        left = rw (o.0, o.2) here.written.3;
      }

  made_form : (n q : ℕ) (gs : Nodes) → role os e ≡ operator n → branch (row e) (cons e (keep n es)) ≡ branch q gs → FormFirst s t f e es q gs
  unfolding WrittenAt
  made_form n q gs k i =
      let o = operator_first n k in
      let l = operator_leaf os e n k in
      let w : WrittenAt s t f.first (leaf l.0 (ref l.1 l.2)) = rw l.3 at here.written.2 in
      record {
        row_is = ap row (sym i) ∙ written_row s t f.first e here.written.2;
        opens = record {
          by_row = λ z. absurd (cc (sym z ∙ o.made));
          by_operator = λ z. record { marker = l.1; name = l.2; leaf_at = w.1 };
        };
        written = rw (o.made, sym (ap elements i)) o.operands;
        ends = rw o.made;
        left = rw (o.made, o.rest) o.left;
      }

  -- the rows of a form at the first row
  pub form_first : (q : ℕ) (gs : Nodes) → foremost (operators_in f.mode) e es ≡ branch q gs → FormFirst s t f e es q gs
  form_first q gs h = go (role os e) refl
    where
      go : (x : Role) → role os e ≡ x → FormFirst s t f e es q gs
      go (operator n) k = made_form n q gs k (sym (operator_first n k).form ∙ h)
      go operand k = written_form q gs k (sym (operand_first k).1 ∙ h)

  unmarked_form : (q : ℕ) (gs : Nodes) → foremost os e es ≡ branch q gs → is_flat f.mode ≡ false → Unmarked t f.first (cons e es)
  unmarked_form q gs = go f.mode
    where
      go : (m : Mode) → foremost (operators_in m) e es ≡ branch q gs → is_flat m ≡ false → Unmarked t f.first (cons e es)
      go plain h b l =
          let i : e ≡ branch q gs = sym (by_operand [] e (λ n. branch (row e) (cons e (keep n es))) e (none_listed e)) ∙ h in
          absurd (cc (rw i at l))
      go (flat os) h b l = absurd (cc (sym b))

  -- Goals

  goal_plain : (q : ℕ) (gs : Nodes) → foremost os e es ≡ branch q gs → NoBytecode f.around gs → (is_flat f.mode ≡ false → Unmarked t f.first (cons e es))
      → Goal s t (inside f (form_at t true f.first).first (form_at t true f.first).end gs)
      → Goal s t (going_on f (form_at t true f.first).end (others os e es)) → Goal s t f
  unfolding NodeAt
  goal_plain q gs h b m g rest =
      let form = form_first q gs h in
      let node : NodeAt s t true f.first (branch q (transformed_all f.around (parts_of gs)))
      = (form.row_is, form.opens, (λ z. g.unmarked refl (sym (head_kept f.around gs).1 ∙ z)), g.nodes) in
      goal_cons m (rw (h, transform_plain q gs f.around b) node) (rw form.ends rest)

  -- an atom that is no operator
  pub goal_leaf : (q : ℕ) (a : Atom) → e ≡ leaf q a → role (operators_in f.mode) e ≡ operand → (kind t f.first ≡ 4 → mark t f.first ≡ 0)
      → Goal s t (going_on f (f.first + 1) es) → Goal s t f
  unfolding NodeAt WrittenAt transform
  goal_leaf q a i k m rest =
      let o = operand_first k in
      let w : WrittenAt s t f.first (leaf q a) = rw i at here.written.2 in
      let node : NodeAt s t true f.first (leaf q a) = (w.0, o.0, w.1) in
      goal_cons (λ b l. m (reference_kind a w.1.row.kind_is (rw i at l))) (rw (o.1, i) node) (rw (o.0, w.1.on, o.2) rest)
    where
      reference_kind : (a : Atom) → kind t f.first ≡ atom_kind a → led_by_reference (cons (leaf q a) es) ≡ true → kind t f.first ≡ 4
      reference_kind nil z l = absurd (cc l)
      reference_kind (array bs) z l = absurd (cc l)
      reference_kind (int v) z l = absurd (cc l)
      reference_kind (ref m n) z l = z

  -- a written form that is no bytecode
  pub goal_form : (q : ℕ) (gs : Nodes) → e ≡ branch q gs → NoBytecode f.around gs
      → Goal s t (inside f (f.first + 1) (next t f.first) gs) → Goal s t (going_on f (next t f.first) es) → Goal s t f
  goal_form q gs i b g rest =
      let o = operand_first (rw i) in
      let h = o.1 ∙ i in
      goal_plain q gs h b (unmarked_form q gs h) (rw o.0 g) (rw (o.0, o.2) rest)

  -- of a made form those behind its head, and with it
  goal_head : (n : ℕ) → role os e ≡ operator n → mark t f.first ≡ 0 → Goal s t (inside f (f.first + 1) (link t f.first) (keep n es))
      → Goal s t (inside f f.first (link t f.first) (cons e (keep n es)))
  unfolding NodeAt WrittenAt transform transformed_all
  goal_head n k m g =
      let o = operator_first n k in
      let l = operator_leaf os e n k in
      let w : WrittenAt s t f.first (leaf l.0 (ref l.1 l.2)) = rw l.3 at o.operands.2 in
      let node : NodeAt s t false f.first (leaf l.0 (ref l.1 l.2)) = (w.0, refl, w.1) in
      record { unmarked = λ b z. m; nodes = (o.operands.0, o.operands.1, rw l.3 node, rw w.1.on g.nodes) }

  -- a made one
  pub goal_made : (n : ℕ) → role (operators_in f.mode) e ≡ operator n → NoBytecode f.around (cons e empty) → mark t f.first ≡ 0
      → Goal s t (inside f (f.first + 1) (link t f.first) (keep n es)) → Goal s t (going_on f (link t f.first) (without n es)) → Goal s t f
  goal_made n k b m g rest =
      let o = operator_first n k in
      goal_plain (row e) (cons e (keep n es)) o.form b (λ z y. m) (rw o.made (goal_head n k m g)) (rw (o.made, o.rest) rest)

  -- a bytecode form, written or made
  module _ (q : ℕ) (h : Node) (gs : Nodes) (form : foremost (operators_in f.mode) e es ≡ branch q (cons h gs))
      (rest : Goal s t (going_on f (form_at t true f.first).end (others (operators_in f.mode) e es))) where
    goal_bytecode : (o : Outcome) → LedPlainly (cons h gs)
        → transform (branch f.first (cons h gs)) f.around ≡ bytecode f.first (cons h gs) o
        → OutcomeAt s t f.first (form_at t true f.first) o → Goal s t f
    unfolding NodeAt
    goal_bytecode o l b a =
        let at = form_first q (cons h gs) form in
        let node : NodeAt s t true f.first (bytecode f.first (cons h gs) o) = (refl, at.opens, l.0, l.1, at.written, a) in
        goal_cons (unmarked_form q (cons h gs) form) (rw (form, at.row_is, b) node) (rw at.ends rest)

    -- one headed by `prefix*` without a well-formed arity list
    pub goal_ill_formed : is_name prefix* h ≡ true → arity_list gs ≡ ill_formed → mark t (form_at t true f.first).first ≡ 22 → Goal s t f
    unfolding NodeAt word among
    goal_ill_formed p a m =
        goal_bytecode (fails 22) (named_head prefix* refl h gs p)
        (transform_star f.first h gs f.around p ∙ ap (bytecode f.first (cons h gs)) (star_ill_formed f.first f.around gs a)) (m, omega arith)

    module _ (k : ℕ) (os' : List Operator) (around : Around) (flats : Nodes) (flattens : Flattens f.around h gs k os' around flats) where
      -- one that is refused
      pub goal_refused : (w : ℕ) → refusal f.first os' flats ≡ suc w → mark t (form_at t true f.first).first ≡ suc w → Goal s t f
      unfolding NodeAt
      goal_refused w z m =
          let to = flattens_to f.first f.around h flattens in
          let refused = outcome_refused f.first os' around flats w z in
          goal_bytecode (fails (suc w)) to.0 (to.1 ∙ ap (bytecode f.first (cons h gs)) refused.0) (m, omega (arith, refused.1))

      -- one that is fine
      pub goal_fine : (list : ℕ) → refusal f.first os' flats ≡ 0 → mark t (form_at t true f.first).first ≡ k
          → Goal s t (record { first = flat_from t (form_at t true f.first).first k; end = (form_at t true f.first).end; elements = flats; mode = flat os'; around = around; list = list })
          → Goal s t f
      unfolding NodeAt
      goal_fine list z m g =
          let at = form_first q (cons h gs) form in
          let own = form_at t true f.first in
          let to = flattens_to f.first f.around h flattens in
          let fine = outcome_fine f.first os' around flats z in
          let asked = outcome_asked s t f.first own f.around h flattens at.written m fine.2 g.nodes in
          goal_bytecode (becomes (each_row flats) ((result_of f.first (gathered os' 0 (linked (parts_of flats)))).transformed around)) to.0
          (to.1 ∙ ap (bytecode f.first (cons h gs)) fine.0) asked
