-- Laws of an expression's step: what it leaves when its values are completed, its evaluation by its plan, and what each task leaves.
-- Document 01: "Steps", and "In one expression: 16, 13, 12, 11, 14, 15, 19 (for define, before its value), its contents, then 6, 17." Assumes nothing.
use Prim.Native.Nat.{ℕ, ◌+◌, ◌-◌, ◌≤◌, ◌<◌}
use mathlib.Core.Path.{◌≡◌, refl, ap, sym, ◌∙◌}
use mathlib.Core.List.{List}
use mathlib.Core.Bool.{false}
use lib.ListN.{length, get_or, set}
use lib.Dec.{eqb}
use borrow.Author.Tests.{eqb-true, eqb-false}
use native.Mathlib.Omega.{arith}
use Rattle.std.specs.Prelude.{Result, Ok, Err, IsErrAnd}
use Rattle.std.proofs.lemmas.Result.{err_from_is_err_and}
use Rattle.spec.specs.Expr.{when◌then◌else◌, Atom, atom, form, Exprs, none, only, deepest}
use Rattle.spec.specs.Nodes.{Node, leaf, branch, bytecode, Nodes, Outcome, fails, becomes, unnumbered_all, elements}
use Rattle.spec.specs.Runs.{Held, ceased, hold}
use Rattle.spec.specs.Plan.{Definition, Namespace, Within, Here, Finish, Plan, refuse, leave, associate, define_function, inside, plan}
use Rattle.spec.specs.Evaluation.{Left, add_namespace, add_definition, defining, complete, Call, perform, eval, eval_all}
use Rattle.laws.specs.Holding.{NoBytecode, skip}
use Rattle.laws.proofs.Basics.{impossible, by_test}
use Rattle.laws.proofs.Holding.{rule_plan, hold_eval_none, hold_give, hold_stop, hold_complete, hold_complete_deep, hold_complete_none}
use Rattle.laws.proofs.Values.{plan_sound}
use Rattle.rows.specs.Rows.{LeafAt, NodesAt}
use Rattle.rows.specs.Forms.{IsElement, an_atom, a_form, a_bytecode}
use Rattle.rows.specs.declared.forms.Form.{Form}
use Rattle.rows.specs.declared.forms.Node.{Node as Ranged}
use Rattle.rows.proofs.Parts.{element_place}
use Rattle.rows.proofs.Outcomes.{result_place}
use Rattle.atoms.specs.Refusals.{number, refused}
use Rattle.atoms.specs.declared.refusal.Reason.{Reason}
use Rattle.atoms.specs.declared.refusal.Reason.TheVariants.{NoSteps}
use Rattle.atoms.specs.declared.refusal.Refusal.{Refusal}
use Rattle.workspace.specs.Completed.{Fitting, Stand, Incomplete, too_deep, too_long, with_steps, stepped, Untouched, Atoms, Completed}
use Rattle.workspace.specs.declared.values.State.{State}
use Rattle.workspace.proofs.Areas.{stand_none, untouched_none}
use Rattle.rules.specs.Entries.{definition, association}
use Rattle.rules.specs.Scope.{View, view}
use Rattle.rules.specs.Associations.{AssociationAt}
use Rattle.rules.specs.Settings.{EntryAt, Sees, Setting}
use Rattle.rules.specs.Planned.{Finishes, Planned, refuses, owns, repeats, associates, defines, goes_inside, Answers, AnswersBytecode, fails_so, unfolds, AnswersElement}
use Rattle.rules.specs.declared.scope.Scope.{Scope}
use Rattle.rules.specs.declared.here.Here.{Here as Seen}
use Rattle.rules.specs.declared.plan.After.{After}
use Rattle.rules.specs.declared.plan.Task.{Task}
use Rattle.rules.specs.declared.plan.Task.TheVariants.{Own, Again, Ns, Function, Inside, Failed, Unfold}
use Rattle.rules.proofs.Latest.{latest_length, view_added, view_associated}
use Rattle.rules.proofs.Shown.{function_entry, sees_kept, sees_lower, sees_defined, sees_associated}
use Rattle.evaluator.specs.Listed.{Extends, LeftBy, Taken, GoesInside, Begun, Beginning, left_as}
use Rattle.evaluator.specs.Performed.{Performing, Decided, Unfolding}
use Rattle.evaluator.specs.declared.element.Decision.{Decision}
use Rattle.evaluator.specs.declared.element.Step.{Step}
use Rattle.evaluator.specs.declared.element.Step.TheVariants.{Leaves}
use Rattle.evaluator.proofs.Unfolds.{taken_itself, taken_result, bytecode_short}

-- A refusal that `?` passes on

pub passed_on : {A : Type 0} {e : Refusal} (r : Result A Refusal) → IsErrAnd r (λ x. x ≡ e) → r ≡ Err e
passed_on r on = let p = err_from_is_err_and r on in rw (p.1, p.2)

-- Values completed

-- they are refused
hold_incomplete : (st : State) (row : ℕ) (vs : Exprs) (h : Here) {n : ℕ} → Incomplete st vs n → hold st.steps st.room (complete row vs h) ≡ ceased n row
hold_incomplete st row vs h (too_deep deep) = hold_complete_deep st.steps st.room row vs h deep
hold_incomplete st row vs h (too_long shallow long) = hold_complete_none st.steps st.room row vs h shallow long

-- `from` is the state before all that the values replace
pub completed_left : (s t w w' : List ℕ) (see : Scope → View) (sc sc' : Scope) (from st : State) (row : ℕ) (vs : Exprs) (h : Here) (out : Result State Refusal)
    → from.floor ≡ st.floor → Fitting w st → from.top ≤ st.top → Extends sc sc' → Sees s t w st.floor (see sc') h
    → Completed w w' st from.top row vs out → LeftBy s t w w' see sc from (hold st.steps st.room (complete row vs h)) (left_as sc' out)
completed_left s t w w' see sc sc' from st row vs h (Ok st') floor fits order more sees k =
    rw k.state (
      record {
        left = record { values = vs; here = h };
        is = hold_complete st.steps st.room row vs h k.shallow k.charged;
        stand = k.stand;
        others = rw floor k.others;
        lower = omega (arith, floor);
        paid = omega (arith, fits.paid, k.charged);
        sees = sees_kept sees k.others;
      },
      more,
    )
completed_left s t w w' see sc sc' from st row vs h (Err r) floor fits order more sees (is, k) = rw is (hold_incomplete st row vs h k)

-- nothing more is visible
pub extends_none : (sc : Scope) → Extends sc sc
extends_none sc = record { defined = omega arith; associated = omega arith }

-- as a step
abbrev pub step_as : Scope → Result State Refusal → Result Step Refusal
step_as sc (Ok st) = Ok (Leaves (record { state = st; scope = sc }))
step_as sc (Err r) = Err r

begun_left : (s t : List ℕ) (bound : ℕ) (w w' : List ℕ) (v : View) (see : Scope → View) (sc sc' : Scope) (st : State) (e : Node) (h : Here) (held : Held Left)
    (out : Result State Refusal) → LeftBy s t w w' see sc st held (left_as sc' out) → Begun s t bound w w' v see sc st e h held (step_as sc' out)
begun_left s t bound w w' v see sc sc' st e h held (Ok st') l = l
begun_left s t bound w w' v see sc sc' st e h held (Err r) l = l

-- Nothing but a definition left

pub defined_left : (s t w w' associations definitions : List ℕ) (sc : Scope) (from st : State) (x : ℕ) (d : Definition) (h : Here) (steps room : ℕ)
    → st.steps ≡ steps → st.room ≡ room → length definitions ≡ 256 → from.top ≤ length w' → Untouched w w' from.top from.floor
    → st.top ≡ from.top → st.floor ≤ from.floor → st.top + st.room ≤ st.floor → EntryAt s t w' st.floor x d.marker d.name d.content → sc.defined < 256
    → Sees s t w from.floor (view associations definitions sc) h
    → LeftBy s t w w' (view associations (set definitions sc.defined x)) sc from (hold steps room (defining d h))
    (Ok (record { state = st; scope = record { defined = sc.defined + 1; associated = sc.associated } }))
defined_left s t w w' associations definitions sc from st x d h steps room q q' size ends others top lower paid entry few sees = (
  record {
    left = record { values = none; here = add_definition d h };
    is = rw (q, q') (hold_give steps room _);
    stand = rw top (stand_none from.top ends);
    others = others;
    lower = lower;
    paid = paid;
    sees =
        rw (view_added associations definitions sc x (omega arith))
        (sees_defined (sees_lower (sees_kept sees others) st.floor lower) x d entry (omega (arith, latest_length definitions sc.defined)));
  },
  record { defined = omega arith; associated = omega arith },
)

-- Tasks

module _ (s t w : List ℕ) (floor : ℕ) (v : View) (sc : Scope) (at : ℕ) (e : Node) where
  -- what a task says of the plan of the expression e, which is at a row if it is an atom
  abbrev pub Does : Result Task Reason → Plan → Type 0
  Does (Err n) q = q ≡ refuse (number n)
  Does (Ok Own) q = (a : Atom) × LeafAt s t at a × (q ≡ leave (only (atom a)))
  Does (Ok (Again from to)) q = (vs : Exprs) × Stand w from to vs × (q ≡ leave vs)
  Does (Ok (Ns f marker id)) q =
      (es : Nodes) × (k : Namespace) × NodesAt s t false f.first f.end es × Atoms es × AssociationAt s (association marker id) k
      × (length v.associations < 64) × (q ≡ associate (only (form (unnumbered_all es))) k)
  Does (Ok (Function key code)) q =
      (code < 65536) × (d : Definition) × EntryAt s t w floor (definition key code) d.marker d.name d.content × (length v.definitions < 256) × (q ≡ define_function d)
  Does (Ok (Inside f after)) q =
      (k : ℕ) × (p : Within) × (g : Finish) × NodesAt s t f.flat f.first f.end (skip k (elements e)) × Finishes s t w floor v sc (elements e) after k p g
      × (q ≡ inside k p g)
  Does (Ok (Failed mark)) q = ⊥
  Does (Ok (Unfold g)) q = ⊥

  does : {task : Result Task Reason} {q : Plan} → Planned s t w floor v sc at e task q → Does task q
  does (refuses n) = refl
  does (owns a l) = (a, l, refl)
  does (repeats from to vs stand) = (vs, stand, refl)
  does (associates f es marker id k nodes atoms entry few) = (es, k, nodes, atoms, entry, few, refl)
  does (defines m n code body fits few c) = (c.form.few, _, function_entry fits code c, few, refl)
  does (goes_inside f k p g after nodes finishes) = (k, p, g, nodes, finishes, refl)

-- what is left
module _ {s t : List ℕ} {bound : ℕ} {w : List ℕ} {v : View} {sc : Scope} {st : State} {left atom row : ℕ} {e e' : Node} {h : Here} where
  pub done_by : {task : Result Task Reason} → Performing s t bound w v sc st left task atom row e e' h → Does s t w st.floor v sc atom e' task (plan e' h)
  done_by p = does s t w st.floor v sc atom e' p.planned

  -- steps take no part in it
  fits_stepped : {task : Result Task Reason} → Performing s t bound w v sc st left task atom row e e' h → Fitting w (with_steps st left)
  fits_stepped p = record { paid = p.fitting.paid; below = p.fitting.below; short = p.fitting.short }

  module _ (run : Call) where
    performed : {task : Result Task Reason} → Performing s t bound w v sc st left task atom row e e' h
        → hold st.steps st.room (eval run e h) ≡ hold left st.room (perform run row (eval_all run (elements e')) h (plan e' h))
    performed p = p.taken.held run h st.room ∙ rw p.at (ap (hold left st.room) (rule_plan run h e' p.taken.no_bytecode))

    refuse_begun : {n : Reason} → Performing s t bound w v sc st left (Err n) atom row e e' h → hold st.steps st.room (eval run e h) ≡ ceased (number n) row
    refuse_begun {n} p = performed p ∙ rw (done_by p) (hold_stop left st.room (number n) row)

    pub inside_begun : {f : Form} {after : After} → Performing s t bound w v sc st left (Ok (Inside f after)) atom row e e' h
        → GoesInside s t bound w w v sc st (with_steps st left) f e h after
    inside_begun p =
        let d = done_by p in
        record {
          left = left;
          becomes = e';
          skipped = d.0;
          within = d.1;
          finish = d.2;
          taken = p.taken;
          state = refl;
          plan_is = d.5;
          nodes = d.3;
          finishes = d.4;
          same = refl;
        }

module _ {s t : List ℕ} {bound : ℕ} {w : List ℕ} {sc : Scope} {st : State} {left at row : ℕ} {e e' : Node} {h : Here} (run : Call) (associations definitions : List ℕ) where
  leave_begun : {task : Result Task Reason} {vs : Exprs} (w' : List ℕ) (out : Result State Refusal) → Performing s t bound w (view associations definitions sc) sc st left task at row e e' h → plan e' h ≡ leave vs
      → Completed w w' (with_steps st left) st.top row vs out
      → Begun s t bound w w' (view associations definitions sc) (view associations definitions) sc st e h (hold st.steps st.room (eval run e h)) (step_as sc out)
  leave_begun {vs = vs} w' out p is c =
      rw (performed run p, is)
      (begun_left s t bound w w' _ (view associations definitions) sc sc st e h _ out
      (completed_left s t w w' (view associations definitions) sc sc st (with_steps st left) row vs h out refl (fits_stepped p) (omega arith) (extends_none sc) p.sees c))

  pub own_begun : (w' : List ℕ) (out : Result State Refusal) → Performing s t bound w (view associations definitions sc) sc st left (Ok Own) at row e e' h
      → ((a : Atom) → LeafAt s t at a → Completed w w' (with_steps st left) st.top row (only (atom a)) out)
      → Begun s t bound w w' (view associations definitions sc) (view associations definitions) sc st e h (hold st.steps st.room (eval run e h)) (step_as sc out)
  own_begun w' out p done = let d = done_by p in leave_begun w' out p d.2 (done d.0 d.1)

  pub again_begun : {from to : ℕ} (w' : List ℕ) (out : Result State Refusal) → Performing s t bound w (view associations definitions sc) sc st left (Ok (Again from to)) at row e e' h
      → ((vs : Exprs) → Stand w from to vs → deepest vs ≤ 64 → Completed w w' (with_steps st left) st.top row vs out)
      → Begun s t bound w w' (view associations definitions sc) (view associations definitions) sc st e h (hold st.steps st.room (eval run e h)) (step_as sc out)
  again_begun w' out p done = let d = done_by p in leave_begun w' out p d.2 (done d.0 d.1 (p.shallow d.0 d.2))

  pub associate_begun : {f : Form} {marker id : ℕ} (w' : List ℕ) (out : Result State Refusal) → length associations ≡ 64
      → Performing s t bound w (view associations definitions sc) sc st left (Ok (Ns f marker id)) at row e e' h
      → ((es : Nodes) → NodesAt s t false f.first f.end es → Atoms es → Completed w w' (with_steps st left) st.top row (only (form (unnumbered_all es))) out)
      → Begun s t bound w w' (view associations definitions sc) (view (set associations sc.associated (association marker id)) definitions) sc st e h
      (hold st.steps st.room (eval run e h)) (step_as (record { defined = sc.defined; associated = sc.associated + 1 }) out)
  associate_begun {f} {marker} {id} w' out size p done =
      let d = done_by p in
      let vs = only (form (unnumbered_all d.0)) in
      let few : sc.associated < 64 = omega (arith, latest_length associations sc.associated, d.5) in
      let see = view (set associations sc.associated (association marker id)) definitions in
      let more : Scope = record { defined = sc.defined; associated = sc.associated + 1 } in
      rw (performed run p, d.6)
      (begun_left s t bound w w' _ see sc more st e h _ out
      (completed_left s t w w' see sc more st (with_steps st left) row vs (add_namespace d.1 h) out refl
      (fits_stepped p) (omega arith) (record { defined = omega arith; associated = omega arith })
      (rw (view_associated associations definitions sc (association marker id) (omega arith)) (sees_associated p.sees (association marker id) d.1 d.4 d.5))
      (done d.0 d.2 d.3)))

  pub function_begun : {key code : ℕ} → length definitions ≡ 256 → Performing s t bound w (view associations definitions sc) sc st left (Ok (Function key code)) at row e e' h
      → LeftBy s t w w (view associations (set definitions sc.defined (definition key code))) sc st (hold st.steps st.room (eval run e h))
      (Ok (record { state = with_steps st left; scope = record { defined = sc.defined + 1; associated = sc.associated } }))
  function_begun {key} {code} size p =
      let d = done_by p in
      let few : sc.defined < 256 = omega (arith, d.3, latest_length definitions sc.defined) in
      rw (performed run p, d.4)
      (defined_left s t w w associations definitions sc st (with_steps st left) (definition key code) d.1 h left st.room refl refl size
      (omega (arith, p.fitting.paid, p.fitting.below)) (untouched_none w st.top st.floor) refl (omega arith) p.fitting.paid d.2 few p.sees)

-- What is decided

-- a task that is planned, or a refusal at a row
abbrev pub decision_as : State → ℕ → ℕ → Result Task Reason → Result Decision Refusal
decision_as st at row (Ok task) = Ok (record { state = st; task = task; atom = at })
decision_as st at row (Err n) = Err (refused n row)

-- no task for a bytecode form
abbrev pub OtherTask : Result Task Reason → Type 0
OtherTask task = ((mark : ℕ) → task ≡ Ok (Failed mark) → ⊥) × ((g : Form) → task ≡ Ok (Unfold g) → ⊥)

bytecode_answered : {s t : List ℕ} {place : ℕ} {o : Outcome} {task : Result Task Reason} → AnswersBytecode s t place o task → OtherTask task → ⊥
bytecode_answered (fails_so w) other = other.0 w refl
bytecode_answered (unfolds g rows e flat at_rows result) other = other.1 g refl

module _ {s t w args : List ℕ} {bound : ℕ} {v : View} {st : State} {at : Seen} {node : Ranged} {place : ℕ} {h : Here} (some : 0 < st.steps) where
  -- the task of e', which was planned in its place
  decided : {e : Node} → Beginning s t bound w args v st at node place e h → {task : Result Task Reason} (r left : ℕ) (e' : Node) → Taken bound st left e e'
      → Planned s t w st.floor v at.scope r e' task (plan e' h) → Decided s t bound w v at.scope st place e h (decision_as (with_steps st left) r place task)
  decided {e} b {task} r left e' taken p = go task p
    where
      performing : (x : Result Task Reason) → Planned s t w st.floor v at.scope r e' x (plan e' h) → Performing s t bound w v at.scope st left x r place e e' h
      performing x p = record {
        taken = taken;
        at = sym (taken.same_row ∙ element_place b.is);
        planned = p;
        sees = b.setting.sees;
        fitting = b.fitting;
        shallow = λ vs q. (rw q at (plan_sound bound e' h taken.fit b.sound)).1;
      }

      go : (x : Result Task Reason) → Planned s t w st.floor v at.scope r e' x (plan e' h)
          → Decided s t bound w v at.scope st place e h (decision_as (with_steps st left) r place x)
      go (Ok task) p = (left, refl, (e', performing (Ok task) p))
      go (Err n) p = λ run. refuse_begun run (performing (Err n) p)

  -- an expression without bytecode
  decided_itself : {e : Node} → Beginning s t bound w args v st at node place e h → {task : Result Task Reason} → NoBytecode e
      → Planned s t w st.floor v at.scope place e task (plan e h) → Decided s t bound w v at.scope st place e h (decision_as (stepped st) place place task)
  decided_itself {e} b other p = decided b place (st.steps - 1) e (taken_itself bound st e other b.fit some) p

  -- an expression that is no bytecode form
  pub decided_as : {e : Node} {task : Result Task Reason} → Beginning s t bound w args v st at node place e h → AnswersElement s t args v at e task
      → OtherTask task → Decided s t bound w v at.scope st place e h (decision_as (stepped st) place place task)
  decided_as {e} {task} b answers other = go b.is b answers
    where
      go : {n : Ranged} {x : Node} → IsElement s t place n x → Beginning s t bound w args v st at node place x h → AnswersElement s t args v at x task
          → Decided s t bound w v at.scope st place x h (decision_as (stepped st) place place task)
      go (an_atom a l) b answers = decided_itself b tt (answers w st h b.setting)
      go (a_form f es z u n) b answers = decided_itself b tt (answers w st h b.setting)
      go (a_bytecode f es o z l p n x) b answers = absurd (bytecode_answered answers other)

  -- one that is
  module _ {es : Nodes} {rows : List ℕ} {e : Node} {g : Form} (u : Unfolding s t place g rows e)
      (b : Beginning s t bound w args v st at node place (bytecode place es (becomes rows e)) h) where
    pub decided_short : {r : ℕ} → st.steps - 1 < length rows → r ≡ get_or rows (st.steps - 1) 0
        → Decided s t bound w v at.scope st place (bytecode place es (becomes rows e)) h (Err (refused NoSteps r))
    decided_short short is = λ run. rw is (bytecode_short run h place es st.steps st.room some rows e short)

    pub decided_result : {task : Result Task Reason} → length rows ≤ st.steps - 1 → Answers s t args v at g.first e (plan e) task
        → Decided s t bound w v at.scope st place (bytecode place es (becomes rows e)) h (decision_as (with_steps st (st.steps - 1 - length rows)) g.first place task)
    decided_result enough answers =
        let own = result_place s t place g e u.result in
        decided b g.first (st.steps - 1 - length rows) e (taken_result bound st place es rows e b.fit own some enough)
        (answers w st h (rw own b.setting))

-- a bytecode form that is to be unfolded
pub record Unfoldable (s t : List ℕ) (place : ℕ) (g : Form) (e : Node) : Type 0 where
  pub elements : Nodes
  pub rows : List ℕ
  pub result : Node
  pub is : e ≡ bytecode place elements (becomes rows result)
  pub unfolded : Unfolding s t place g rows result

unfolded_outcome : {s t : List ℕ} {place : ℕ} {g : Form} {es : Nodes} {o : Outcome} {task : Result Task Reason} → AnswersBytecode s t place o task → task ≡ Ok (Unfold g) → Unfoldable s t place g (bytecode place es o)
unfolded_outcome (fails_so n) is = impossible (cc)
unfolded_outcome {g = g} {es} (unfolds f rows e flat rows_at result) is =
    let same : f ≡ g = cc in
    record { elements = es; rows = rows; result = e; is = refl; unfolded = rw (sym same) (record { is_flat = flat; rows_at = rows_at; result = result }) }

-- one that is refused
pub record Failing (place w : ℕ) (e : Node) : Type 0 where
  pub elements : Nodes
  pub is : e ≡ bytecode place elements (fails w)

failed_outcome : {s t : List ℕ} {place w : ℕ} {es : Nodes} {o : Outcome} {task : Result Task Reason} → AnswersBytecode s t place o task → task ≡ Ok (Failed w)
    → Failing place w (bytecode place es o)
failed_outcome {es = es} (fails_so n) is = record { elements = es; is = cc }
failed_outcome (unfolds f rows e flat rows_at result) is = impossible (cc)

module _ {s t w args : List ℕ} {v : View} {st : State} {at : Seen} {place : ℕ} {h : Here} (set : Setting s t w args st v at place h) {mark : ℕ} where
  pub failed_by : {node : Ranged} {e : Node} → IsElement s t place node e → AnswersElement s t args v at e (Ok (Failed mark)) → Failing place mark e
  failed_by (an_atom a l) answers = absurd (does s t w st.floor v at.scope place (leaf place a) (answers w st h set))
  failed_by (a_form f es z u n) answers = absurd (does s t w st.floor v at.scope place (branch place es) (answers w st h set))
  failed_by (a_bytecode f es o z l p n x) answers = failed_outcome answers refl

module _ {s t w args : List ℕ} {v : View} {st : State} {at : Seen} {place : ℕ} {h : Here} {g : Form} (set : Setting s t w args st v at place h) where
  pub unfolded_by : {node : Ranged} {e : Node} → IsElement s t place node e → AnswersElement s t args v at e (Ok (Unfold g)) → Unfoldable s t place g e
  unfolded_by (an_atom a l) answers = absurd (does s t w st.floor v at.scope place (leaf place a) (answers w st h set))
  unfolded_by (a_form f es z u n) answers = absurd (does s t w st.floor v at.scope place (branch place es) (answers w st h set))
  unfolded_by (a_bytecode f es o z l p n x) answers = unfolded_outcome answers refl

-- The step

module _ {s t w args : List ℕ} {bound : ℕ} {v : View} {st : State} {at : Seen} {node : Ranged} {place : ℕ} {e : Node} {h : Here}
    (b : Beginning s t bound w args v st at node place e h) where
  -- "16", at its start
  pub begin_none : (run : Call) (r : Refusal) → (when eqb st.steps 0 then Err (refused NoSteps place) else Ok (stepped st)) ≡ Err r
      → hold st.steps st.room (eval run e h) ≡ ceased (number r.reason) r.place
  begin_none run r =
      by_test (λ (out : Result State Refusal). out ≡ Err r → hold st.steps st.room (eval run e h) ≡ ceased (number r.reason) r.place) (eqb st.steps 0)
      (λ t (q : ◌≡◌ {A = Result State Refusal} (Err (refused NoSteps place)) (Err r)).
      let is : refused NoSteps place ≡ r = cc in
      rw (← is) (hold_eval_none run h e st.steps st.room (eqb-true st.steps 0 t) ∙ cc (element_place b.is))) (λ t q. impossible (cc))

-- it is taken
pub begin_some : (st : State) (place : ℕ) {st' : State} → (when eqb st.steps 0 then Err (refused NoSteps place) else Ok (stepped st)) ≡ Ok st' → (st' ≡ stepped st) × (0 < st.steps)
begin_some st place {st'} =
    by_test (λ (out : Result State Refusal). out ≡ Ok st' → (st' ≡ stepped st) × (0 < st.steps)) (eqb st.steps 0) (λ t q. impossible (cc))
    (λ t q. (cc, omega (arith, eqb-false st.steps 0 t)))
