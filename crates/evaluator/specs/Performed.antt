-- What is known of an expression when its step is taken and its task is to be carried out. Document 01: "Steps". Assumes nothing.
use Rattle.std.specs.Prelude.{ℕ, ◌≤◌, ◌<◌, ◌≡◌, List, true, Result, Ok, Err}
use Rattle.spec.specs.Expr.{Exprs, deepest}
use Rattle.spec.specs.Nodes.{Node, bytecode, Nodes, becomes, row as row_of}
use Rattle.spec.specs.Runs.{ceased, hold}
use Rattle.spec.specs.Plan.{Here, leave, plan}
use Rattle.spec.specs.Evaluation.{Call, eval}
use Rattle.atoms.specs.Refusals.{number}
use Rattle.atoms.specs.declared.refusal.Reason.{Reason}
use Rattle.atoms.specs.declared.refusal.Refusal.{Refusal}
use Rattle.rows.specs.Rows.{RowsAt, ResultAt}
use Rattle.rows.specs.declared.forms.Form.{Form}
use Rattle.rows.specs.declared.forms.Node.{Node as Ranged}
use Rattle.workspace.specs.Completed.{Fitting, with_steps, stepped}
use Rattle.workspace.specs.declared.values.State.{State}
use Rattle.rules.specs.Scope.{View}
use Rattle.rules.specs.Settings.{Sees}
use Rattle.rules.specs.Planned.{Planned}
use Rattle.rules.specs.declared.scope.Scope.{Scope}
use Rattle.rules.specs.declared.here.Here.{Here as Seen}
use Rattle.rules.specs.declared.plan.Task.{Task}
use Rattle.evaluator.specs.Listed.{Taken, Beginning}
use Rattle.evaluator.specs.declared.element.Decision.{Decision}

-- The task that is planned for e', or why it is refused; e' is to be evaluated with the place of a row under h instead of e, where st was the
-- state before the steps. If e' is an atom, it is at the row `atom`.
pub record Performing (s t : List ℕ) (bound : ℕ) (w : List ℕ) (v : View) (sc : Scope) (st : State) (left : ℕ) (task : Result Task Reason) (atom row : ℕ) (e e' : Node) (h : Here) : Type 0 where
  pub taken : Taken bound st left e e'
  pub at : row ≡ row_of e'
  pub planned : Planned s t w st.floor v sc atom e' task (plan e' h)
  pub sees : Sees s t w st.floor v h
  pub fitting : Fitting w st
  pub shallow : (vs : Exprs) → plan e' h ≡ leave vs → deepest vs ≤ 64

-- some expression's task, in the place of e
abbrev pub Performs : List ℕ → List ℕ → ℕ → List ℕ → View → Scope → State → ℕ → Task → ℕ → ℕ → Node → Here → Type 0
Performs s t bound w v sc st left task atom row e h = (e' : Node) × Performing s t bound w v sc st left (Ok task) atom row e e' h

pub record SomePerforming (s t w : List ℕ) (v : View) (sc : Scope) (st' : State) (task : Task) (atom row : ℕ) : Type 0 where
  pub bound : ℕ
  pub state : State
  pub left : ℕ
  pub expression : Node
  pub here : Here
  pub is : st' ≡ with_steps state left
  pub performs : Performs s t bound w v sc state left task atom row expression here

-- what was decided when the step was taken
abbrev pub Decided : List ℕ → List ℕ → ℕ → List ℕ → View → Scope → State → ℕ → Node → Here → Result Decision Refusal → Type 0
Decided s t bound w v sc st row e h (Ok d) = (left : ℕ) × (d.state ≡ with_steps st left) × Performs s t bound w v sc st left d.task d.atom row e h
Decided s t bound w v sc st row e h (Err r) = (run : Call) → hold st.steps st.room (eval run e h) ≡ ceased (number r.reason) r.place

-- the flat list of a bytecode form with a place, by the rows of its expressions, and its result
pub record Unfolding (s t : List ℕ) (place : ℕ) (g : Form) (rows : List ℕ) (e : Node) : Type 0 where
  pub is_flat : g.flat ≡ true
  pub rows_at : RowsAt t g.first g.end rows
  pub result : ResultAt s t place g e

-- some bytecode form with that place, evaluated there, has it
pub record SomeUnfolding (s t : List ℕ) (v : View) (st' : State) (at : Seen) (g : Form) (place : ℕ) : Type 0 where
  pub args : List ℕ
  pub bound : ℕ
  pub work : List ℕ
  pub state : State
  pub node : Ranged
  pub elements : Nodes
  pub rows : List ℕ
  pub result : Node
  pub here : Here
  pub is : st' ≡ stepped state
  pub some : 0 < state.steps
  pub unfolds : Unfolding s t place g rows result
  pub begins : Beginning s t bound work args v state at node place (bytecode place elements (becomes rows result)) here
