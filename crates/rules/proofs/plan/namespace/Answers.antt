-- `rules::plan::namespace` meets its contract. Assumes nothing.
use borrow.Author.Tests.{eqb-true, eqb-false, le-leb, lt-leb}
use Rattle.std.proofs.Common.{rules, ◌≡◌, ◌≤◌, ℕ, List, Bool, true, false, refl, sym, ◌∙◌, arith, ◌-◌, ◌/◌, Ok, Err}
use Rattle.std.proofs.Math.Dec.{leb}
use Rattle.spec.specs.Expr.{when◌then◌else◌}
use Rattle.spec.specs.Nodes.{ns, branch, Nodes, head_word}
use Rattle.spec.specs.Plan.{plan_ns}
use Rattle.laws.proofs.Steps.{all_bytes}
use Rattle.atoms.specs.declared.refusal.Reason.TheVariants.{WrongMarker, TooMany}
use Rattle.rows.specs.Rows.{NodesAt}
use Rattle.rows.proofs.Nodes.{node_whole}
use Rattle.rows.proofs.Parts.{TwoAt, two_at}
use Rattle.rules.specs.Entries.{stream, id}
use Rattle.rules.specs.Scope.{view}
use Rattle.rules.specs.Planned.{Answers}
use Rattle.rules.specs.declared.plan.Task.TheVariants.{Ns}
use Rattle.rules.proofs.Associating.{NsAt, ns_at, ns_other, ns_refuses, array_part, some_linked, some_earlier, ns_answers}
use Rattle.rules.proofs.plan.namespace.Goals as goal
use Rattle.rules.proofs.plan.namespace.Goals.{In-Two, Else-not-has_kind-2, After-clash, then-not-has_kind-via-then-not-has_kind, then-not-has_kind-via-else-not-has_kind+then-not-has_kind-2}

-- a head and two operands
two : (c : In-Two) → let i = c.args in
    (es : Nodes) → NodesAt i.s.now i.table.now false i.form.first i.form.end es → TwoAt i.s.now i.table.now i.form.end c.in-Two.reference c.in-Two.array es
two c es at = two_at _ _ _ _ es _ _ at (c.in-Two.ensures _ es at)

-- a reference and an array
right : (c : Else-not-has_kind-2) → let i = c.args in
    (es : Nodes) → NodesAt i.s.now i.table.now false i.form.first i.form.end es → NsAt i.s.now i.table.now c.in-Two.reference c.in-Two.array es
right c es at =
    ns_at (two_at _ _ _ _ es _ _ at (c.in-Two.ensures _ es at)) (eqb-true _ _ (sym c.if-not-has_kind.ensures)) (eqb-true _ _ (sym c.if-not-has_kind-2.ensures))

-- what is answered for whether they clash with what is known, and whether no more can be
answered : (c : After-clash) (clashing full : Bool) → let i = c.args in
    ((es : Nodes) → NodesAt i.s.now i.table.now false i.form.first i.form.end es → NsAt i.s.now i.table.now c.in-Two.reference c.in-Two.array es)
    → c.clash.result ≡ clashing → leb 64 i.here.scope.associated ≡ full
    → (definitions args : List ℕ) (r : ℕ) (es : Nodes) → NodesAt i.s.now i.table.now false i.form.first i.form.end es → head_word es ≡ ns
    → Answers i.s.now i.table.now args (view i.associations.now definitions i.here.scope) i.here r (branch i.row es) (λ h. plan_ns h.within es h)
    (when clashing then Err WrongMarker else when full then Err TooMany else
    Ok (Ns i.form (c.key-marker.result / 256) (id stream c.body-from.result (c.end-to.result - c.body-from.result))))
answered c clashing full there is counted definitions args r es at led =
    let i = c.args in
    let g = there es at in
    let some_bytes : 1 ≤ c.end-to.result - c.body-from.result = search rules in
    let few_bytes : c.end-to.result - c.body-from.result ≤ 64 = search rules in
    ns_answers g (all_bytes i.s.now (λ k. (c.type_inv.s k).fits)) _ _ _ (c.key-marker.ensures _ _ g.reference) (c.body-from.ensures _ g.array_there) c.end-to.ensures
    some_bytes few_bytes i.form i.associations.now definitions i.here c.requires.within_value at led
    clashing full (λ ks fs earlier l e m. sym (c.clash.ensures ks fs earlier l e m) ∙ is) counted

pub returns-in_default : goal.returns-in_default
returns-in_default c definitions args r es at led = ns_other es c.requires.within_value (c.operands.ensures _ es at) c.in_default.not-Two

pub has_kind-requires : goal.has_kind-requires
has_kind-requires c = let pre = c.requires.nodes_at in (node_whole _ _ _ _ _ (two c pre.0 pre.1).one).0

pub has_kind-requires-else-not-has_kind : goal.has_kind-requires-else-not-has_kind
has_kind-requires-else-not-has_kind c =
    let pre = c.requires.nodes_at in
    (node_whole _ _ _ _ _ (two (goal.at.has_kind-requires-else-not-has_kind c).In-Two pre.0 pre.1).two).0

pub returns-then-not-has_kind : goal.returns-then-not-has_kind
returns-then-not-has_kind c definitions args r es at led =
    let g = two (goal.at.returns-then-not-has_kind c).In-Two es at in
    elim c.then-not-has_kind.branch [
      | then-not-has_kind-via-then-not-has_kind w ↦ ns_refuses g c.requires.within_value (λ k bs l low high. eqb-false _ _ (sym w.if-not-has_kind.ensures) k)
      | then-not-has_kind-via-else-not-has_kind+then-not-has_kind-2 w ↦
          ns_refuses g c.requires.within_value (λ k bs l low high. eqb-false _ _ (sym w.if-not-has_kind-2.ensures) l.row.kind_is)
    ]

pub end-to-requires : goal.end-to-requires
end-to-requires c =
    let pre = c.requires.nodes_at in
    (right c pre.0 pre.1).array_there.row.inside

pub body-from-requires : goal.body-from-requires
body-from-requires c =
    let at = goal.at.body-from-requires c in
    let pre = c.requires.nodes_at in
    let g = right at.Else-not-has_kind-2 pre.0 pre.1 in
    (g.id, g.array_there)

pub overflow_sub-size : goal.overflow_sub-size
overflow_sub-size c =
    let at = goal.at.overflow_sub-size c in
    let pre = c.requires.nodes_at in
    let g = right at.Else-not-has_kind-2 pre.0 pre.1 in
    (array_part g.array_there (c.body-from.ensures g.id g.array_there) c.end-to.ensures).0

pub returns-then-not-contains : goal.returns-then-not-contains
returns-then-not-contains c definitions args r es at led =
    let size : ℕ = c.end-to.result - c.body-from.result in
    let out : 1 ≤ size → size ≤ 64 → ⊥ = search rules in
    ns_refuses (two (goal.at.returns-then-not-contains c).In-Two es at) c.requires.within_value (λ k bs l low high.
    let part = array_part l (c.body-from.ensures bs l) c.end-to.ensures in
    out (omega (arith, part.1)) (omega (arith, part.1)))

pub key-marker-requires : goal.key-marker-requires
key-marker-requires c =
    let at = goal.at.key-marker-requires c in
    let pre = c.requires.nodes_at in
    let g = right at.Else-not-has_kind-2 pre.0 pre.1 in
    (g.marker, g.name, g.reference)

pub clash-requires : goal.clash-requires
clash-requires c =
    let at = goal.at.clash-requires c in
    let pre = c.requires in
    let known = pre.by_index.2 in
    let g = right at.Else-not-has_kind-2 pre.nodes_at.0 pre.nodes_at.1 in
    record {
      some_linked = some_linked _ _ known;
      nodes_at = some_earlier known pre.within_value;
      from_le_to = ((array_part g.array_there (c.body-from.ensures g.id g.array_there) c.end-to.ensures).0, omega (arith, c.end-to.ensures, g.array_there.row.ends));
    }

pub returns-then-clash : goal.returns-then-clash
returns-then-clash c =
    let at = goal.at.returns-then-clash c in
    answered at.After-clash true _ (right at.Else-not-has_kind-2) c.if-clash.true refl

pub returns-then-scope-ge64 : goal.returns-then-scope-ge64
returns-then-scope-ge64 c =
    let at = goal.at.returns-then-scope-ge64 c in
    answered at.After-clash false true (right at.Else-not-has_kind-2) c.if-clash.false (le-leb 64 _ c.if-scope-ge64.true)

pub id-id-requires : goal.id-id-requires
id-id-requires c =
    let pre = c.requires.nodes_at in
    let l = (right (goal.at.id-id-requires c).Else-not-has_kind-2 pre.0 pre.1).array_there in
    let some_bytes : 1 ≤ c.end-to.result - c.body-from.result = search rules in
    (omega arith, omega (arith, c.end-to.ensures, l.row.ends, l.row.short), some_bytes, search rules)

pub returns : goal.returns
returns c definitions args r es at led =
    let here = goal.at.returns c in
    rw c.id-id.ensures
    (answered here.After-clash false false (right here.Else-not-has_kind-2) c.if-clash.false (lt-leb 64 _ c.if-scope-ge64.false) definitions args r es at led)
