-- `rules::plan::leaf` meets its contract. Assumes nothing.
use borrow.Author.Tests.{eqb-true, eqb-false}
use Rattle.std.proofs.Common.{◌≡◌, ℕ, List, Option, Some, sym, ap, ◌∙◌}
use Rattle.spec.specs.Expr.{Atom}
use Rattle.spec.specs.Nodes.{leaf}
use Rattle.spec.specs.Plan.{plan}
use Rattle.laws.proofs.Steps.{all_bytes}
use Rattle.rows.specs.Rows.{LeafAt}
use Rattle.rules.specs.Scope.{view}
use Rattle.rules.specs.Planned.{refuses, owns, Answers}
use Rattle.rules.specs.declared.scope.Content.{Content}
use Rattle.rules.proofs.Naming.{own_rule, ReferenceAt, reference_at, reference_small, reference_task, name_refused, name_planned}
use Rattle.rules.proofs.plan.leaf.Goals as goal
use Rattle.rules.proofs.plan.leaf.Goals.{After-key-key, After-look_up}

pub returns-then-not-has_kind : goal.returns-then-not-has_kind
returns-then-not-has_kind c associations args place a l w st h set =
    rw (own_rule a h.scope (λ k. eqb-false _ _ (sym c.if-not-has_kind.ensures) (l.row.kind_is ∙ k))) (owns a l)

-- a reference
reference : (c : After-key-key) → let i = c.args in (a : Atom) → LeafAt i.s.now i.table.now i.row a → ReferenceAt i.s.now i.table.now i.row c.key-key.result a
reference c a l =
    reference_at c.key-key.result a (all_bytes c.args.s.now (λ i. (c.type_inv.s i).fits)) (eqb-true _ _ (sym c.if-not-has_kind.ensures)) c.key-key.ensures l

-- what is done with what its key finds
done : (c : After-look_up) (f : Option Content) → c.look_up.result ≡ f → let i = c.args in
    ((a : Atom) → LeafAt i.s.now i.table.now i.row a → ReferenceAt i.s.now i.table.now i.row c.key-key.result a)
    → (associations args : List ℕ) (place : ℕ) (a : Atom) → LeafAt i.s.now i.table.now i.row a
    → Answers i.s.now i.table.now args (view associations i.definitions.now i.here.scope) i.here i.row (leaf place a) (plan (leaf place a)) (reference_task f)
done c f is named associations args place a l w st h set =
    name_planned (named a l) _ _ h.scope c.if-is_function.ensures (sym is ∙ c.look_up.ensures) set.sees.definitions

pub returns-then-is_function : goal.returns-then-is_function
returns-then-is_function c associations args place a l w st h set =
    rw (name_refused (reference (goal.at.returns-then-is_function c).After-key-key a l) h.scope c.if-is_function.ensures) (refuses _)

pub look_up-requires : goal.look_up-requires
look_up-requires c = let l = c.requires.1 in (c.requires.0, reference_small (reference (goal.at.look_up-requires c).After-key-key l.0 l.1))

pub returns-in-Some-Value : goal.returns-in-Some-Value
returns-in-Some-Value c =
    let at = goal.at.returns-in-Some-Value c in
    done at.After-look_up _ (c.in-Some-Value.is ∙ ap Some c.in-Some-Value.field-0-is) (reference at.After-key-key)

pub returns-in-Some-Function : goal.returns-in-Some-Function
returns-in-Some-Function c =
    let at = goal.at.returns-in-Some-Function c in
    done at.After-look_up _ (c.in-Some-Function.is ∙ ap Some c.in-Some-Function.field-0-is) (reference at.After-key-key)

pub returns-in-None : goal.returns-in-None
returns-in-None c =
    let at = goal.at.returns-in-None c in
    done at.After-look_up _ c.in-None.is (reference at.After-key-key)
