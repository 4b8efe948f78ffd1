-- The rule of concat, by what the code asks of its elements. Document 01: "( concat a b )", refusal 11: "a `rest` form is a wrong kind for [..]
-- concat's operand". Assumes nothing.
use Prim.Native.Nat.{ℕ}
use mathlib.Core.Path.{◌≡◌}
use mathlib.Core.List.{List}
use mathlib.Core.Bool.{true, false, or-true}
use Rattle.std.specs.Prelude.{Ok}
use Rattle.spec.specs.Nodes.{rest, branch, Nodes, headed_by}
use Rattle.spec.specs.Plan.{inner, as_concat, refuse, plan_concat}
use Rattle.laws.specs.Holding.{skip}
use Rattle.rows.specs.Forms.{starting_at}
use Rattle.rows.specs.declared.forms.Form.{Form}
use Rattle.rows.proofs.Parts.{TwoAt}
use Rattle.rules.specs.Scope.{View}
use Rattle.rules.specs.Planned.{two_more, concat_finishes, Planned, goes_inside}
use Rattle.rules.specs.declared.scope.Scope.{Scope}
use Rattle.rules.specs.declared.plan.Making.TheVariants.{Concat}
use Rattle.rules.specs.declared.plan.After.TheVariants.{Make}
use Rattle.rules.specs.declared.plan.Task.TheVariants.{Inside}

-- 11 if one of the operands is a `rest` form
module _ {s t : List ℕ} {end a b : ℕ} {es : Nodes} (g : TwoAt s t end a b es) where
  pub first_refused : headed_by rest g.first ≡ true → plan_concat es ≡ refuse 11
  first_refused h = rw (g.is, h)

  pub second_refused : headed_by rest g.second ≡ true → plan_concat es ≡ refuse 11
  second_refused h = rw (g.is, h, or-true (headed_by rest g.first))

-- else the operands are evaluated
pub concat_planned : {s t w : List ℕ} {floor r q : ℕ} {v : View} {sc : Scope} (f : Form) {a b : ℕ} {es : Nodes} → f.flat ≡ false → (g : TwoAt s t f.end a b es)
    → headed_by rest g.first ≡ false → headed_by rest g.second ≡ false
    → Planned s t w floor v sc r (branch q es) (Ok (Inside (starting_at a f) (Make Concat))) (plan_concat es)
unfolding skip
concat_planned f {a} unflat g first second =
    rw (g.is, first, second)
    (goes_inside (starting_at a f) 1 inner as_concat (Make Concat) (rw unflat g.from_one) (concat_finishes (two_more g.head g.first g.second first second)))
