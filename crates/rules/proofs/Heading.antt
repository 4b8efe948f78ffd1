-- The rules for forms by their head, by what the code asks: what the head's key finds, or whether the head is headed by `subst`. Document 01: "A call
-- is a form whose head is a reference visible as a function or a form headed by `subst`", "Other forms are data forms". Assumes nothing.
use Prim.Native.Nat.{ℕ, ◌+◌, ◌-◌, ◌*◌, ◌≤◌, ◌<◌}
use mathlib.Core.Path.{◌≡◌, refl, sym, ◌∙◌}
use mathlib.Core.List.{List}
use mathlib.Core.Bool.{Bool, true, false}
use native.Mathlib.Omega.{arith}
use lib.ListN.{length, drop}
use borrow.Author.Tests.{eq-eqb, ne_eqb}
use Rattle.std.specs.Prelude.{Result, Ok, Option, Some}
use Rattle.spec.specs.Expr.{when◌then◌else◌, nil, array, int, ref}
use Rattle.spec.specs.Nodes.{Word, ns, define, concat, subst, arg, rest, plain, is, Node, leaf, branch, bytecode, Nodes, empty, cons, Outcome, fails, becomes, elements, tail, head_word, headed_by}
use Rattle.spec.specs.Reading.{row_width}
use Rattle.spec.specs.Plan.{Scope as Definitions, Found as Sought, element, inner, as_form, as_call, inside, data_form, plan_head, plan_other, plan_form, plan}
use Rattle.laws.specs.Holding.{skip}
use Rattle.laws.proofs.Basics.{impossible}
use Rattle.atoms.specs.declared.refusal.Reason.{Reason}
use Rattle.rows.specs.Rows.{mark, next, behind, led_by_reference, flat_of, NodeAt, NodesAt, OutcomeAt, ResultAt}
use Rattle.rows.specs.Forms.{starting_at, flattened, is_named, result_at, IsElement, IsResult, an_atom, a_form, a_bytecode}
use Rattle.rows.specs.declared.forms.Form.{Form}
use Rattle.rows.specs.declared.forms.Node.{Node as Ranged}
use Rattle.rows.specs.declared.forms.Node.TheVariants.{Leaf, Branch}
use Rattle.rows.proofs.Nodes.{nodes_first, node_whole}
use Rattle.rows.proofs.Parts.{FormAt, BytecodeAt, nodes_head, head_named, element_head, element_unflat, element_worded}
use Rattle.rows.proofs.Outcomes.{fails_at, becomes_at, result_is, ResultForm}
use Rattle.rules.specs.Scope.{View}
use Rattle.rules.specs.Settings.{CodeAt, Shows}
use Rattle.rules.specs.Planned.{Called, form_finishes, call_finishes, Planned, goes_inside, Answers as Planner, AnswersBytecode, fails_so, unfolds, AnswersElement}
use Rattle.rules.specs.declared.scope.Scope.{Scope}
use Rattle.rules.specs.declared.scope.Content.{Content}
use Rattle.rules.specs.declared.scope.Content.TheVariants.{Function}
use Rattle.rules.specs.declared.plan.Making.TheVariants.{Form as Wrap}
use Rattle.rules.specs.declared.plan.After.{After}
use Rattle.rules.specs.declared.plan.After.TheVariants.{Make}
use Rattle.rules.specs.declared.here.Here.{Here as Code}
use Rattle.rules.specs.declared.plan.Task.{Task}
use Rattle.rules.specs.declared.plan.Task.TheVariants.{Failed, Unfold, Inside}
use Rattle.rules.proofs.Shown.{Answers, no_answer, value_answer, function_answer}
use Rattle.rules.proofs.Expecting.{plain_other, bytecode_plain}

-- an answer is right for the form with these elements and the place of a row, by the rule of a word
abbrev pub PlansForm : List ℕ → List ℕ → List ℕ → View → Code → ℕ → ℕ → Word → Nodes → Result Task Reason → Type 0
PlansForm s t args v here r place w es task = Planner s t args v here r (branch place es) (plan_form w es) task

-- What is planned

module _ {s t w : List ℕ} {floor : ℕ} {v : View} {sc : Scope} {r q : ℕ} (f : Form) where
  pub data_planned : (es : Nodes) → NodesAt s t f.flat f.first f.end es → Planned s t w floor v sc r (branch q es) (Ok (Inside f (Make Wrap))) data_form
  unfolding skip
  data_planned es h = goes_inside f 0 element as_form (Make Wrap) h form_finishes

  pub call_planned : (e : Node) (es : Nodes) {after : After} {body : Nodes} {ds : Definitions} → NodesAt s t f.flat f.first f.end (cons e es)
      → Called s t w floor v sc after body ds
      → Planned s t w floor v sc r (branch q (cons e es)) (Ok (Inside (starting_at (behind t f.flat f.first) f) after)) (inside 1 inner (as_call body ds))
  unfolding skip
  call_planned e es {after} {body} {ds} h d =
      goes_inside (starting_at (behind t f.flat f.first) f) 1 inner (as_call body ds) after (nodes_first s t f.flat f.first f.end e es h).2 (call_finishes after body ds d)

-- A head that is a reference

-- the code that its key found
pub record FoundCode (s t w : List ℕ) (floor : ℕ) (es : List ℕ) (code visible : ℕ) (g : Sought) : Type 0 where
  pub body : Nodes
  pub behind : Definitions
  pub plans : plan_head g ≡ inside 1 inner (as_call body behind)
  pub at : CodeAt s t code body
  pub fewer : visible ≤ length es
  pub shows : Shows s t w floor (drop (length es - visible) es) behind

module _ {s t w : List ℕ} {floor : ℕ} {es : List ℕ} where
  pub found_code : {f : Option Content} {g : Sought} → Answers s t w floor es f g → (code visible : ℕ) → f ≡ Some (Function code visible) → FoundCode s t w floor es code visible g
  found_code no_answer code visible e = impossible (cc)
  found_code (value_answer from to vs behind stand order low) code visible e = impossible (cc)
  found_code (function_answer c u body behind at h sh) code visible e =
      let same : c ≡ code = cc in
      let same_visible : u ≡ visible = cc in
      record { body = body; behind = behind; plans = refl; at = rw same at at; fewer = omega arith; shows = rw same_visible at sh }

  pub found_no_code : {f : Option Content} {g : Sought} → Answers s t w floor es f g → ((code visible : ℕ) → f ≡ Some (Function code visible) → ⊥) → plan_head g ≡ data_form
  found_no_code no_answer h = refl
  found_no_code (value_answer from to vs behind stand order low) h = refl
  found_no_code (function_answer code visible body behind at l sh) h = absurd (h code visible refl)

-- A head that is none

module _ (s t : List ℕ) (flat : Bool) (r : ℕ) where
  pub unnamed_rule : (e : Node) (es : Nodes) (ds : Definitions) → NodeAt s t flat r e → led_by_reference (cons e es) ≡ false
      → plan_other (cons e es) ds ≡ (when headed_by subst e then inside 1 inner (as_call (tail (elements e)) ds) else data_form)
  unnamed_rule (leaf q nil) es ds n h = refl
  unnamed_rule (leaf q (array bs)) es ds n h = refl
  unnamed_rule (leaf q (int v)) es ds n h = refl
  unnamed_rule (leaf q (ref m k)) es ds n h = impossible (cc)
  unnamed_rule (branch q fs) es ds n h = refl
  unnamed_rule (bytecode q fs o) es ds n h = rw (plain_other (head_word fs) (bytecode_plain s t flat r q fs o n))

-- an atom is no form headed by `subst`
pub leaf_unheaded : {s t : List ℕ} {r : ℕ} {n : Ranged} {e : Node} → IsElement s t r n e → n ≡ Leaf → headed_by subst e ≡ false
leaf_unheaded (an_atom a l) is = refl
leaf_unheaded (a_form f es z u h) is = impossible (cc)
leaf_unheaded (a_bytecode f es o z l p h x) is = impossible (cc)

-- what follows the head of a form headed by `subst`
module _ {s t : List ℕ} {r : ℕ} where
  pub element_code : {f : Form} {e : Node} → IsElement s t r (Branch f) e → headed_by subst e ≡ true
      → (row_width * f.first + row_width ≤ length t) × NodesAt s t false (behind t f.flat f.first) f.end (tail (elements e))
  element_code (a_form f empty z u h) q = impossible (cc)
  element_code (a_form f (cons x es) z u h) q =
      let n = nodes_first s t false f.first f.end x es h in
      rw z ((node_whole s t false f.first x n.1).0, n.2)
  element_code (a_bytecode f es o z l p h x) q = impossible (cc (plain_other (head_word es) p, q))

-- Elements and results, by the word of their head

-- a word that is plain
plain_is : (w : Word) → is w plain ≡ true → w ≡ plain
plain_is ns h = impossible (cc)
plain_is define h = impossible (cc)
plain_is concat h = impossible (cc)
plain_is subst h = impossible (cc)
plain_is arg h = impossible (cc)
plain_is rest h = impossible (cc)
plain_is plain h = refl

-- an element that is a form
pub form_answers : {s t args : List ℕ} {v : View} {here : Code} {r : ℕ} {f : Form} {e : Node} {task : Result Task Reason} (w : Word) → FormAt s t r f e → w ≡ head_word (elements e)
    → ((es : Nodes) → NodesAt s t false f.first f.end es → head_word es ≡ w → PlansForm s t args v here r r w es task) → AnswersElement s t args v here e task
form_answers {s} {t} {args} {v} {here} {r} {task = task} w f led k =
    let same = rw f.is at (sym led) in
    rw f.is (λ u st h set. rw same (k f.nodes f.at same u st h set))

-- whether a reference leads the elements of a list, or those of an element, by the test for it
pub list_named : (s t : List ℕ) (f : Form) {b : Bool} → b ≡ is_named t f → (es : Nodes) → NodesAt s t f.flat f.first f.end es → led_by_reference es ≡ b
list_named s t f told es at = sym (told ∙ head_named s t f es (nodes_head s t f es at))

module _ {s t : List ℕ} {r : ℕ} {f : Form} {e : Node} (el : IsElement s t r (Branch f) e) where
  pub element_named : {b : Bool} → b ≡ is_named t f → led_by_reference (elements e) ≡ b
  element_named told = sym (told ∙ head_named s t f (elements e) (element_head el))

  -- a form of a list is not flat
  pub as_list : (es : Nodes) → NodesAt s t false f.first f.end es → NodesAt s t f.flat f.first f.end es
  as_list es at = rw (element_unflat el) at

-- one that a function name heads
module _ {s t : List ℕ} {r : ℕ} {f : Form} {e : Node} (w : Word) (named : is w plain ≡ false) where
  worded : IsElement s t r (Branch f) e → w ≡ head_word (elements e) → FormAt s t r f e
  worded el told = element_worded el (rw told at named)

  pub worded_nodes : IsElement s t r (Branch f) e → w ≡ head_word (elements e) → (es : Nodes) × NodesAt s t false f.first f.end es
  worded_nodes el told = let l = worded el told in (l.nodes, l.at)

  pub worded_answers : {args : List ℕ} {v : View} {here : Code} {task : Result Task Reason} → IsElement s t r (Branch f) e → w ≡ head_word (elements e)
      → ((es : Nodes) → NodesAt s t false f.first f.end es → head_word es ≡ w → PlansForm s t args v here r r w es task) → AnswersElement s t args v here e task
  worded_answers el told k = form_answers w (worded el told) told k

-- an element that is a bytecode form, and what its mark tells
pub bytecode_answers : {s t : List ℕ} (args : List ℕ) (v : View) (here : Code) {r : ℕ} {f : Form} {e : Node} {task : Result Task Reason} → BytecodeAt s t r f e
    → ((o : Outcome) → OutcomeAt s t r f o → AnswersBytecode s t r o task) → AnswersElement s t args v here e task
bytecode_answers args v here b k = rw b.is (k b.outcome b.at)

module _ (s t : List ℕ) (place : ℕ) (f : Form) where
  -- a refusal is told by the mark
  pub marked_fails : (o : Outcome) → OutcomeAt s t place f o → 2 < mark t f.first → AnswersBytecode s t place o (Ok (Failed (mark t f.first)))
  marked_fails (fails w) h l = rw (fails_at s t place f w h).0 (fails_so w)
  marked_fails (becomes rows e) h l = absurd (omega (arith, (becomes_at s t place f rows e h).fine))

  -- an arity list follows the head
  pub marked_list : (o : Outcome) → OutcomeAt s t place f o → mark t f.first ≡ 2 → row_width * (f.first + 1) + row_width ≤ length t
  marked_list (fails w) h e = absurd (omega (arith, (fails_at s t place f w h).0, (fails_at s t place f w h).1))
  marked_list (becomes rows x) h e = (becomes_at s t place f rows x h).list e

  marked_unfolds : (o : Outcome) → OutcomeAt s t place f o → mark t f.first ≤ 2 → AnswersBytecode s t place o (Ok (Unfold (flat_of t f)))
  marked_unfolds (fails w) h l = absurd (omega (arith, (fails_at s t place f w h).0, (fails_at s t place f w h).1))
  marked_unfolds (becomes rows e) h l = let b = becomes_at s t place f rows e h in unfolds (flat_of t f) rows e refl b.rows_at b.result

  pub unfolds_listed : (o : Outcome) → OutcomeAt s t place f o → mark t f.first ≡ 2 → AnswersBytecode s t place o (Ok (Unfold (flattened (next t (f.first + 1)) f)))
  unfolds_listed o h e = rw (eq-eqb (mark t f.first) 2 e) at (marked_unfolds o h (omega arith))

  pub unfolds_headed : (o : Outcome) → OutcomeAt s t place f o → mark t f.first ≤ 2 → (mark t f.first ≡ 2 → ⊥) → AnswersBytecode s t place o (Ok (Unfold (flattened (f.first + 1) f)))
  unfolds_headed o h l e = rw (ne_eqb (mark t f.first) 2 e) at (marked_unfolds o h l)

-- a result as the code's node: an atom, or a form
pub result_told : {s t : List ℕ} {place : ℕ} (g : Form) {n : Ranged} {e : Node} → n ≡ result_at t g → g.flat ≡ true → ResultAt s t place g e
    → IsResult s t g.first place n e
result_told {s} {t} {place} g {e = e} told flat at = rw told (result_is s t place g flat e at)

pub result_answers : {s t args : List ℕ} {v : View} {here : Code} {r place : ℕ} {f : Form} {e : Node} {task : Result Task Reason} → ResultForm s t place f e
    → ((es : Nodes) → NodesAt s t f.flat f.first f.end es → PlansForm s t args v here r place plain es task) → Planner s t args v here r e (plan e) task
result_answers f k =
    let word = plain_is (head_word f.nodes) f.headed in
    rw f.is (λ u st h set. rw word (k f.nodes f.at u st h set))
