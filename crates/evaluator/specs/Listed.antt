-- What the evaluator's functions know and answer, against `Evaluation` of the crate `spec`: the run held to the steps and the workspace that
-- are left. Document 01: "Evaluation", "Steps" and "Workspace". Assumes nothing.
use Rattle.std.specs.Prelude.{ℕ, ◌+◌, ◌≤◌, ◌<◌, ◌≡◌, List, Bool, true, false, Result, Ok, Err}
use Rattle.spec.specs.Expr.{ref, Expr, Exprs, more, only}
use Rattle.spec.specs.Nodes.{Node, Nodes, row, elements}
use Rattle.spec.specs.Runs.{Held, reached, ceased, hold}
use Rattle.spec.specs.Plan.{Scope as Definitions, Within, inner, passed, Here, Finish, as_form, as_definition, as_concat, as_call, inside, plan}
use Rattle.spec.specs.Evaluation.{Left, Call, finish, rule, eval, run_code}
use Rattle.laws.specs.Holding.{NotTop, NoBytecode, in_list, skip}
use Rattle.laws.proofs.Fits.{Fits, FitsNode, FitsNodes}
use Rattle.laws.proofs.Singles.{Single, SingleScope}
use Rattle.laws.proofs.Values.{Sound, SoundScope, SoundHere}
use Rattle.atoms.specs.Refusals.{number}
use Rattle.atoms.specs.declared.refusal.Refusal.{Refusal}
use Rattle.rows.specs.Rows.{NodesAt, key_of}
use Rattle.rows.specs.Forms.{IsElement}
use Rattle.rows.specs.declared.forms.Form.{Form}
use Rattle.rows.specs.declared.forms.Node.{Node as Ranged}
use Rattle.workspace.specs.Completed.{Fitting, Stand, with_top, with_steps, Untouched}
use Rattle.workspace.specs.declared.values.State.{State}
use Rattle.rules.specs.Scope.{View}
use Rattle.rules.specs.Settings.{Sees, Setting}
use Rattle.rules.specs.Planned.{Called, Finishes}
use Rattle.rules.specs.declared.scope.Scope.{Scope}
use Rattle.rules.specs.declared.here.Here.{Here as Seen}
use Rattle.rules.specs.declared.plan.Making.{Making}
use Rattle.rules.specs.declared.plan.Making.TheVariants.{Form as Wrap, Define, Concat}
use Rattle.rules.specs.declared.plan.After.{After}
use Rattle.rules.specs.declared.plan.After.TheVariants.{Make}
use Rattle.evaluator.specs.declared.element.Left.{Left as Answer}
use Rattle.evaluator.specs.declared.element.Step.{Step}
use Rattle.evaluator.specs.declared.element.Step.TheVariants.{Leaves, Inside}

-- Lists

-- the nodes es stand from one row up to another, and are evaluated under h, in a stream of so many rows, where so many codes more may be entered
pub record Ready (s t : List ℕ) (bound codes : ℕ) (w args : List ℕ) (v : View) (st : State) (at : Seen) (flat : Bool) (first end : ℕ) (es : Nodes) (h : Here) : Type 0 where
  pub nodes : NodesAt s t flat first end es
  -- a flat list is inside a form
  pub inside : flat ≡ true → NotTop h.within
  pub setting : Setting s t w args st v at first h
  pub fitting : Fitting w st
  pub fit : FitsNodes bound es
  pub sound : SoundHere bound h
  pub single : SingleScope bound h.scope
  pub entered : at.frame.depth + codes ≡ 32

-- some nodes do
pub record SomeReady (s t w args : List ℕ) (v : View) (st : State) (at : Seen) (flat : Bool) (first end : ℕ) : Type 0 where
  pub bound : ℕ
  pub codes : ℕ
  pub nodes : Nodes
  pub here : Here
  pub ready : Ready s t bound codes w args v st at flat first end nodes here

-- a list that was held to a state's steps and room: it is done, its values stand from the state's top on, and its definitions are given up
pub record Over (w w' : List ℕ) (st : State) (held : Held Left) (st' : State) : Type 0 where
  pub left : Left
  pub is : held ≡ reached left st'.steps st'.room
  pub stand : Stand w' st.top st'.top left.values
  pub others : Untouched w w' st.top st.floor
  pub floor : st'.floor ≡ st.floor
  pub paid : st'.top + st'.room ≤ st'.floor

abbrev pub Met : List ℕ → List ℕ → State → Held Left → Result State Refusal → Type 0
Met w w' st held (Ok st') = Over w w' st held st'
Met w w' st held (Err r) = held ≡ ceased (number r.reason) r.place

-- so it is for all nodes that may be listed
abbrev pub Answered : List ℕ → List ℕ → List ℕ → List ℕ → List ℕ → View → State → Seen → Form → Result State Refusal → Type 0
Answered s t w w' args v st at f out =
    (bound codes : ℕ) (es : Nodes) (h : Here) → Ready s t bound codes w args v st at f.flat f.first f.end es h
    → Met w w' st (hold st.steps st.room (in_list (run_code codes) es h)) out

-- One expression

-- its values stand from the state's top on, and what is visible to what follows is what the definition says
pub record LeftAt (s t w w' : List ℕ) (v' : View) (st : State) (held : Held Left) (st' : State) : Type 0 where
  pub left : Left
  pub is : held ≡ reached left st'.steps st'.room
  pub stand : Stand w' st.top st'.top left.values
  pub others : Untouched w w' st.top st.floor
  pub lower : st'.floor ≤ st.floor
  pub paid : st'.top + st'.room ≤ st'.floor
  pub sees : Sees s t w' st'.floor v' left.here

-- a scope that shows as much, or more
pub record Extends (sc sc' : Scope) : Type 0 where
  pub defined : sc.defined ≤ sc'.defined
  pub associated : sc.associated ≤ sc'.associated

-- `see` is what a scope shows of the arrays as they are then
abbrev pub LeftBy : List ℕ → List ℕ → List ℕ → List ℕ → (Scope → View) → Scope → State → Held Left → Result Answer Refusal → Type 0
LeftBy s t w w' see sc st held (Ok left) = LeftAt s t w w' (see left.scope) st held left.state × Extends sc left.scope
LeftBy s t w w' see sc st held (Err r) = held ≡ ceased (number r.reason) r.place

-- The steps of an expression e are taken, from a state on: so many are left, and e' is to be evaluated by its rule. It is e itself, or what the
-- bytecode form e is transformed to.
pub record Taken (bound : ℕ) (st : State) (left : ℕ) (e e' : Node) : Type 0 where
  pub fewer : left < st.steps
  pub no_bytecode : NoBytecode e'
  pub same_row : row e' ≡ row e
  pub fit : FitsNode bound e'
  pub held : (call : Call) (h : Here) (work : ℕ) → hold st.steps work (eval call e h) ≡ hold left work (rule call e' h)

-- what is inside it is evaluated first; the workspace is as it was
pub record GoesInside (s t : List ℕ) (bound : ℕ) (w w' : List ℕ) (v : View) (sc : Scope) (st st' : State) (f : Form) (e : Node) (h : Here) (after : After) : Type 0 where
  pub left : ℕ
  pub becomes : Node
  pub skipped : ℕ
  pub within : Within
  pub finish : Finish
  pub taken : Taken bound st left e becomes
  pub state : st' ≡ with_steps st left
  pub plan_is : plan becomes h ≡ inside skipped within finish
  pub nodes : NodesAt s t f.flat f.first f.end (skip skipped (elements becomes))
  pub finishes : Finishes s t w st.floor v sc (elements becomes) after skipped within finish
  pub same : w' ≡ w

-- after the step of an expression, held as a whole to `held`
abbrev pub Begun : List ℕ → List ℕ → ℕ → List ℕ → List ℕ → View → (Scope → View) → Scope → State → Node → Here → Held Left → Result Step Refusal → Type 0
Begun s t bound w w' v see sc st e h held (Ok (Leaves left)) = LeftAt s t w w' (see left.scope) st held left.state × Extends sc left.scope
Begun s t bound w w' v see sc st e h held (Ok (Inside st' f after)) = GoesInside s t bound w w' v sc st st' f e h after
Begun s t bound w w' v see sc st e h held (Err r) = held ≡ ceased (number r.reason) r.place

-- the code's node is an element of a list, at a row, that is evaluated under h
pub record Beginning (s t : List ℕ) (bound : ℕ) (w args : List ℕ) (v : View) (st : State) (at : Seen) (node : Ranged) (place : ℕ) (e : Node) (h : Here) : Type 0 where
  pub is : IsElement s t place node e
  pub setting : Setting s t w args st v at place h
  pub fitting : Fitting w st
  pub fit : FitsNode bound e
  pub sound : SoundHere bound h

pub record SomeBeginning (s t w args : List ℕ) (v : View) (st : State) (at : Seen) (node : Ranged) (place : ℕ) : Type 0 where
  pub bound : ℕ
  pub expression : Node
  pub here : Here
  pub begins : Beginning s t bound w args v st at node place expression here

-- it is evaluated as a whole, where so many codes more may be entered
pub record Evaluating (s t : List ℕ) (bound codes : ℕ) (w args : List ℕ) (v : View) (st : State) (at : Seen) (node : Ranged) (place : ℕ) (e : Node) (h : Here) : Type 0 where
  pub begins : Beginning s t bound w args v st at node place e h
  pub single : SingleScope bound h.scope
  pub entered : at.frame.depth + codes ≡ 32

pub record SomeEvaluating (s t w args : List ℕ) (v : View) (st : State) (at : Seen) (node : Ranged) (place : ℕ) : Type 0 where
  pub bound : ℕ
  pub codes : ℕ
  pub expression : Node
  pub here : Here
  pub evaluates : Evaluating s t bound codes w args v st at node place expression here

abbrev pub EvaluatedBy : List ℕ → List ℕ → List ℕ → List ℕ → List ℕ → View → (Scope → View) → State → Seen → Ranged → ℕ → Result Answer Refusal → Type 0
EvaluatedBy s t w w' args v see st at node place left =
    (bound codes : ℕ) (e : Node) (h : Here) → Evaluating s t bound codes w args v st at node place e h
    → LeftBy s t w w' see at.scope st (hold st.steps st.room (eval (run_code codes) e h)) left

-- what was completed, or refused, where nothing more is visible
abbrev pub left_as : Scope → Result State Refusal → Result Answer Refusal
left_as sc (Ok st) = Ok (record { state = st; scope = sc })
left_as sc (Err r) = Err r

-- Finishing

-- what is made of a list's values, by the code
pub data FinishedBy (sc : Scope) : Making → Finish → Type 0 where
  by_form : FinishedBy sc Wrap as_form
  by_define : (m n : ℕ) → Fits (ref m n) → sc.defined < 256 → FinishedBy sc (Define (key_of m n)) (as_definition m n)
  by_concat : FinishedBy sc Concat as_concat

-- the values of what is inside are as many as the rule made sure of
abbrev pub Finishable : Finish → Exprs → Type 0
Finishable as_form vs = Unit {0}
Finishable (as_definition m n) vs = Single vs
Finishable as_concat vs = (a : Expr) × (b : Expr) × (vs ≡ more a (only b))
Finishable (as_call code scope) vs = Unit {0}

-- they stand from `start` up to the top
pub record Finishing (w : List ℕ) (st : State) (start : ℕ) (f : Finish) (vs : Exprs) : Type 0 where
  pub fitting : Fitting w st
  pub stand : Stand w start st.top vs
  pub sound : Sound vs
  pub finishable : Finishable f vs

pub record SomeFinishing (w : List ℕ) (sc : Scope) (st : State) (making : Making) (start : ℕ) : Type 0 where
  pub finish : Finish
  pub values : Exprs
  pub by : FinishedBy sc making finish
  pub finishing : Finishing w st start finish values

-- Calls

-- the code was run, and its values stand from `from` up to the top
pub record Ran (w : List ℕ) (st : State) (start from : ℕ) (vs : Exprs) : Type 0 where
  pub fitting : Fitting w st
  pub order : start ≤ from
  pub stand : Stand w from st.top vs
  pub sound : Sound vs

-- where the code of a call is evaluated
abbrev pub in_body : Here → Definitions → Exprs → Here
in_body h behind vs = record { within = inner; scope = behind; namespaces = h.namespaces; arguments = passed vs }

-- a code that sees the definitions `behind` may be entered
pub record Enterable (bound codes : ℕ) (at : Seen) (body : Nodes) (behind : Definitions) : Type 0 where
  pub fit : FitsNodes bound body
  pub sound : SoundScope bound behind
  pub single : SingleScope bound behind
  pub entered : at.frame.depth + codes ≡ 32

-- The code in the rows of f is called, with the arguments vs. It sees v; u is what is visible where it is called.
pub record Calling (s t : List ℕ) (bound codes : ℕ) (w : List ℕ) (u v : View) (st : State) (at : Seen) (f : Form) (start : ℕ) (body : Nodes) (behind : Definitions) (h : Here) (vs : Exprs) : Type 0 where
  pub not_flat : f.flat ≡ false
  pub nodes : NodesAt s t false f.first f.end body
  pub body_sees : Sees s t w st.floor v (in_body h behind vs)
  pub sees : Sees s t w st.floor u h
  pub finishing : Finishing w st start (as_call body behind) vs
  pub enterable : Enterable bound codes at body behind

pub record SomeCalling (s t w : List ℕ) (v : View) (st : State) (at : Seen) (f : Form) (start : ℕ) : Type 0 where
  pub bound : ℕ
  pub codes : ℕ
  pub around : View
  pub body : Nodes
  pub behind : Definitions
  pub here : Here
  pub values : Exprs
  pub calls : Calling s t bound codes w around v st at f start body behind here values

-- what a call at a row leaves; what is visible behind it is what was
abbrev pub CalledBy : List ℕ → List ℕ → List ℕ → List ℕ → View → State → Seen → Form → ℕ → ℕ → Result State Refusal → Type 0
CalledBy s t w w' v st at f start row out =
    (bound codes : ℕ) (u : View) (body : Nodes) (behind : Definitions) (h : Here) (vs : Exprs) → Calling s t bound codes w u v st at f start body behind h vs
    → LeftBy s t w w' (λ (sc : Scope). u) at.scope (with_top st st.room start)
    (hold st.steps st.room (finish (run_code codes) row h (as_call body behind) vs)) (left_as at.scope out)

-- A form whose elements were evaluated

-- what becomes of their values: others, or the arguments of a code
pub data EndsBy (s t : List ℕ) (bound codes : ℕ) (w : List ℕ) (floor : ℕ) (v : View) (at : Seen) : After → Finish → Type 0 where
  by_making : (m : Making) (f : Finish) → FinishedBy at.scope m f → EndsBy s t bound codes w floor v at (Make m) f
  by_calling : (after : After) (body : Nodes) (behind : Definitions) → Called s t w floor v at.scope after body behind → Enterable bound codes at body behind
      → EndsBy s t bound codes w floor v at after (as_call body behind)

pub record Ending (s t : List ℕ) (bound codes : ℕ) (w : List ℕ) (v : View) (st : State) (at : Seen) (start : ℕ) (after : After) (h : Here) (vs : Exprs) (f : Finish) : Type 0 where
  pub by : EndsBy s t bound codes w st.floor v at after f
  pub finishing : Finishing w st start f vs
  pub sees : Sees s t w st.floor v h

pub record SomeEnding (s t w : List ℕ) (v : View) (st : State) (at : Seen) (start : ℕ) (after : After) : Type 0 where
  pub bound : ℕ
  pub codes : ℕ
  pub here : Here
  pub values : Exprs
  pub finish : Finish
  pub ends : Ending s t bound codes w v st at start after here values finish

-- what the form at a row leaves
abbrev pub EndedBy : List ℕ → List ℕ → List ℕ → List ℕ → View → (Scope → View) → Seen → State → ℕ → ℕ → After → Result Answer Refusal → Type 0
EndedBy s t w w' v see at st start row after left =
    (bound codes : ℕ) (h : Here) (vs : Exprs) (f : Finish) → Ending s t bound codes w v st at start after h vs f
    → LeftBy s t w w' see at.scope (with_top st st.room start) (hold st.steps st.room (finish (run_code codes) row h f vs)) left
