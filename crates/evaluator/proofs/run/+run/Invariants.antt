-- The steps that are left fall, or are as many and the function called is a later one of `finish`, `function` and `code`, `call` and `entered`,
-- `list`, `expression`. Assumes nothing.
use Prim.Native.Nat.{ℕ, ◌+◌, ◌-◌, ◌*◌}
use mathlib.Core.Path.{◌≡◌}
use mathlib.Core.List.{List}
use Rattle.rows.specs.declared.forms.Form.{Form}
use Rattle.workspace.specs.declared.values.State.{State}
use Rattle.rules.specs.Scope.{view}
use Rattle.rules.specs.declared.here.Here.{Here as Seen}
use Rattle.evaluator.specs.Listed.{SomeReady, Extends}
use Rattle.evaluator.proofs.Turns.{held_list, Going}
use Rattle.evaluator.proofs.run.+run.Given as goal

abbrev pub decreases-call : goal.decreases-call
decreases-call l = 5 * l.values.state.steps + 2

abbrev pub decreases-code : goal.decreases-code
decreases-code l = 5 * l.values.state.steps + 3

abbrev pub decreases-entered : goal.decreases-entered
decreases-entered l = 5 * l.state.steps + 2

abbrev pub decreases-expression : goal.decreases-expression
decreases-expression l = 5 * l.state.steps

abbrev pub decreases-finish : goal.decreases-finish
decreases-finish l = 5 * l.values.state.steps + 4

abbrev pub decreases-function : goal.decreases-function
decreases-function l = 5 * l.values.state.steps + 3

abbrev pub decreases-list : goal.decreases-list
decreases-list l = 5 * l.state.steps + 1

-- what each turn of `list` keeps
pub record Turning (s table w₀ associations₀ args definitions₀ : List ℕ) (here₀ : Seen) (state₀ : State) (form : Form) (w associations definitions : List ℕ)
    (here : Seen) (state : State) (row : ℕ) : Type 0 where
  -- how the list goes on, for all nodes that may be listed
  pub going : (y : SomeReady s table w₀ args (view associations₀ definitions₀ here₀.scope) state₀ here₀ form.flat form.first form.end)
      → Going s table y.bound y.codes args form.flat form.end w₀ w (view associations definitions here.scope) state₀ state here row (held_list y)
  pub kept : view associations definitions here₀.scope ≡ view associations₀ definitions₀ here₀.scope
  pub extends : Extends here₀.scope here.scope

abbrev pub invariant-list-loop-row : goal.invariant-list-loop-row
invariant-list-loop-row l =
    Turning l.s l.table l.fn.w l.fn.associations l.args l.fn.definitions l.fn.here l.fn.state l.form l.w l.associations l.definitions l.here l.state l.row

abbrev pub decreases-list-loop-row : goal.decreases-list-loop-row
decreases-list-loop-row l = l.form.end - l.row
