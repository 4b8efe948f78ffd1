-- `rules::plan::named` meets its contract. Assumes nothing.
use Rattle.std.proofs.Common.{◌≡◌, ℕ, List, Option, Some, refl, sym, ap, ◌∙◌, arith}
use Rattle.spec.specs.Nodes.{Nodes}
use Rattle.spec.specs.Plan.{Scope as Definitions, look_up}
use Rattle.laws.proofs.Basics.{impossible}
use Rattle.laws.proofs.Steps.{all_bytes}
use Rattle.rows.specs.Rows.{NodesAt}
use Rattle.rows.proofs.Nodes.{leaf_fits}
use Rattle.rows.proofs.Keys.{key_small}
use Rattle.rows.proofs.Parts.{LedAt, led_at}
use Rattle.rules.specs.Scope.{latest}
use Rattle.rules.specs.Settings.{Shows}
use Rattle.rules.specs.Planned.{calls_function}
use Rattle.rules.specs.declared.scope.Content.{Content}
use Rattle.rules.specs.declared.scope.Content.TheVariants.{Function}
use Rattle.rules.proofs.Latest.{latest_length}
use Rattle.rules.proofs.Shown.{Answers, answers}
use Rattle.rules.proofs.Naming.{some_defined}
use Rattle.rules.proofs.Heading.{data_planned, call_planned, found_code, found_no_code}
use Rattle.rules.proofs.plan.named.Goals as goal
use Rattle.rules.proofs.plan.named.Goals.{Start, After-look_up, in_default-via-in-Some+in_default, in_default-via-in_default}

-- the head
led : (c : Start) → let i = c.args in
    (es : Nodes) → NodesAt i.s.now i.table.now i.form.flat i.form.first i.form.end es → LedAt i.s.now i.table.now i.form.flat i.form.first i.form.end es
led c es at = led_at _ _ _ _ _ es at (sym (c.requires.some_nodes.1 es at))

-- what its key finds
found : (c : After-look_up) (f : Option Content) → c.look_up.result ≡ f → let i = c.args in
    (es : Nodes) (l : LedAt i.s.now i.table.now i.form.flat i.form.first i.form.end es) (w : List ℕ) (floor : ℕ) (ds : Definitions)
    → Shows i.s.now i.table.now w floor (latest i.definitions.now i.here.scope.defined) ds
    → Answers i.s.now i.table.now w floor (latest i.definitions.now i.here.scope.defined) f (look_up l.marker l.name ds)
found c f is es l w floor ds shows =
    let fits = leaf_fits (all_bytes c.args.s.now (λ k. (c.type_inv.s k).fits)) l.here in
    rw (← c.key-key.ensures _ _ l.here, ← c.look_up.ensures, is) at (answers _ _ w floor l.marker l.name fits _ ds shows)

pub key-key-requires : goal.key-key-requires
key-key-requires c =
    let some = c.requires.some_nodes.0 in
    let l = led (goal.at.key-key-requires c).Start some.nodes some.at in
    (l.marker, l.name, l.here)

pub look_up-requires : goal.look_up-requires
look_up-requires c =
    let some = c.requires.some_nodes.0 in
    let l = led (goal.at.look_up-requires c).Start some.nodes some.at in
    let f = leaf_fits (all_bytes c.args.s.now (λ k. (c.type_inv.s k).fits)) l.here in
    (some_defined _ _ c.requires.by_index.3, rw (c.key-key.ensures _ _ l.here) (key_small l.marker l.name f.1 f.2))

pub rest-requires : goal.rest-requires
rest-requires c = let some = c.requires.some_nodes.0 in (led (goal.at.rest-requires c).Start some.nodes some.at).here.row.inside

pub returns-in-Some-Function : goal.returns-in-Some-Function
returns-in-Some-Function c associations args r q es at w st h set =
    let i = c.args in
    let here = goal.at.returns-in-Some-Function c in
    let l = led here.Start es at in
    let f = found_code (found here.After-look_up _ (c.in-Some-Function.is ∙ ap Some c.in-Some-Function.field-0-is) es l w st.floor h.scope set.sees.definitions) _ _ refl in
    let all = latest_length i.definitions.now i.here.scope.defined in
    rw (l.is, f.plans, c.rest.ensures)
    (call_planned i.form _ l.rest (rw l.is at at) (calls_function _ _ f.body f.behind f.at (omega (arith, f.fewer)) (rw all at f.shows)))

pub returns-in_default : goal.returns-in_default
returns-in_default c associations args r q es at w st h set =
    let here = goal.at.returns-in_default c in
    let l = led here.Start es at in
    let none : (code visible : ℕ) → c.look_up.result ≡ Some (Function code visible) → ⊥ = λ code visible e.
    elim c.in_default.branch [
      | in_default-via-in-Some+in_default u ↦ impossible (cc)
      | in_default-via-in_default u ↦ impossible (cc)
    ] in
    let plain = found_no_code (found here.After-look_up _ refl es l w st.floor h.scope set.sees.definitions) none in
    rw (l.is, plain, c.make.ensures) (data_planned _ _ (rw l.is at at))
