-- Laws of a bytecode form's steps: its own, its refusal, those of its flat list, and what is left to be evaluated. Document 02, §1: "A step is one
-- expression taken from the flat list, added to the usual ones, all before the result's evaluation." Assumes nothing.
use Prim.Native.Nat.{ℕ, ◌-◌, ◌≤◌, ◌<◌}
use mathlib.Core.Path.{◌≡◌, refl, ◌∙◌}
use mathlib.Core.List.{List}
use native.Mathlib.Omega.{arith}
use lib.ListN.{length, get_or}
use Rattle.spec.specs.Nodes.{Node, bytecode, Nodes, row, fails, becomes}
use Rattle.spec.specs.Runs.{ceased, hold}
use Rattle.spec.specs.Plan.{Here}
use Rattle.spec.specs.Evaluation.{Call, eval}
use Rattle.laws.specs.Holding.{NoBytecode}
use Rattle.laws.proofs.Fits.{FitsNode, becomes_other}
use Rattle.laws.proofs.Holding.{hold_stop, hold_steps, hold_steps_none, rule_fails, rule_becomes, hold_eval}
use Rattle.workspace.specs.declared.values.State.{State}
use Rattle.evaluator.specs.Listed.{Taken}

-- an expression without bytecode takes its own step
pub taken_itself : (bound : ℕ) (st : State) (e : Node) → NoBytecode e → FitsNode bound e → 0 < st.steps → Taken bound st (st.steps - 1) e e
taken_itself bound st e other fit some = record {
  fewer = omega (arith, some);
  no_bytecode = other;
  same_row = refl;
  fit = fit;
  held = λ call h work. hold_eval call h e st.steps work some;
}

module _ (call : Call) (h : Here) (r : ℕ) (es : Nodes) (steps work : ℕ) (some : 0 < steps) where
  -- it is refused
  pub bytecode_fails : (w : ℕ) → hold steps work (eval call (bytecode r es (fails w)) h) ≡ ceased w r
  bytecode_fails w =
      hold_eval call h (bytecode r es (fails w)) steps work some ∙ rw (rule_fails call h r es w) (hold_stop (steps - 1) work w r)

  -- its flat list has more expressions than there are steps
  pub bytecode_short : (rows : List ℕ) (e : Node) → steps - 1 < length rows
      → hold steps work (eval call (bytecode r es (becomes rows e)) h) ≡ ceased 16 (get_or rows (steps - 1) 0)
  bytecode_short rows e short =
      hold_eval call h (bytecode r es (becomes rows e)) steps work some ∙ rw (rule_becomes call h r es rows e) (hold_steps_none _ rows (steps - 1) work short)

-- all steps are taken
pub taken_result : (bound : ℕ) (st : State) (r : ℕ) (es : Nodes) (rows : List ℕ) (e : Node) → FitsNode bound (bytecode r es (becomes rows e)) → row e ≡ r → 0 < st.steps
    → length rows ≤ st.steps - 1 → Taken bound st (st.steps - 1 - length rows) (bytecode r es (becomes rows e)) e
taken_result bound st r es rows e fit at some enough = record {
  fewer = omega (arith, some);
  no_bytecode = becomes_other bound rows e fit.3;
  same_row = at;
  fit = fit.3.1;
  held = λ call h work.
      hold_eval call h (bytecode r es (becomes rows e)) st.steps work some
      ∙ rw (rule_becomes call h r es rows e) (hold_steps _ rows (st.steps - 1) work enough);
}
