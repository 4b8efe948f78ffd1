-- `rules::plan::definition` meets its contract. Assumes nothing.
use borrow.Author.Tests.{eqb-true, eqb-false, le-leb, lt-leb}
use Rattle.std.proofs.Common.{◌≡◌, ◌+◌, ℕ, List, Bool, true, false, refl, sym, ◌∙◌, arith, Ok, Err}
use Rattle.std.proofs.Math.Dec.{leb}
use Rattle.spec.specs.Expr.{when◌then◌else◌}
use Rattle.spec.specs.Nodes.{subst, branch, Nodes, headed_by}
use Rattle.spec.specs.Plan.{plan_definition}
use Rattle.laws.proofs.Basics.{impossible}
use Rattle.laws.proofs.Steps.{all_bytes}
use Rattle.atoms.specs.declared.refusal.Reason.TheVariants.{WrongMarker, TooMany}
use Rattle.rows.specs.Rows.{NodesAt}
use Rattle.rows.specs.Forms.{starting_at}
use Rattle.rows.specs.declared.words.Word.TheVariants.{Rest, Subst}
use Rattle.rows.proofs.Nodes.{leaf_fits, node_whole}
use Rattle.rows.proofs.Keys.{key_small}
use Rattle.rows.proofs.Parts.{two_at}
use Rattle.rules.specs.Entries.{function_bit}
use Rattle.rules.specs.Scope.{view}
use Rattle.rules.specs.Planned.{refuses, Answers}
use Rattle.rules.specs.declared.plan.Making.TheVariants.{Define}
use Rattle.rules.specs.declared.plan.After.TheVariants.{Make}
use Rattle.rules.specs.declared.plan.Task.TheVariants.{Function, Inside}
use Rattle.rules.proofs.Expecting.{no_two, headed}
use Rattle.rules.proofs.Defining.{DefineAt, define_at, define_refused, define_answers}
use Rattle.rules.proofs.plan.definition.Goals as goal
use Rattle.rules.proofs.plan.definition.Goals.{Else-not-has_kind, After-undefinable}

-- a head, a reference and a value
right : (c : Else-not-has_kind) → let i = c.args in
    (es : Nodes) → NodesAt i.s.now i.table.now false i.form.first i.form.end es → DefineAt i.s.now i.table.now i.form.end c.in-Two.reference c.in-Two.value es
right c es at = define_at (two_at _ _ _ _ es _ _ at (c.in-Two.ensures _ es at)) (eqb-true _ _ (sym c.if-not-has_kind.ensures))

-- what is answered for whether it may be defined, whether no more can be, and whether it is code
answered : (c : After-undefinable) (unknown full code : Bool) (es : Nodes) → let i = c.args in
    (g : DefineAt i.s.now i.table.now i.form.end c.in-Two.reference c.in-Two.value es)
    → c.undefinable.result ≡ unknown → leb 256 i.here.scope.defined ≡ full → headed_by subst g.value ≡ code
    → (definitions args : List ℕ) (r q : ℕ)
    → Answers i.s.now i.table.now args (view i.associations.now definitions i.here.scope) i.here r (branch q es) (plan_definition es)
    (when unknown then Err WrongMarker else when full then Err TooMany else
    when code then Ok (Function (c.key-key.result + function_bit) c.in-Two.value) else Ok (Inside (starting_at c.in-Two.value i.form) (Make (Define c.key-key.result))))
answered c unknown full code es g is counted coded definitions args r q =
    let i = c.args in
    define_answers i.form c.requires.1 g (all_bytes i.s.now (λ k. (c.type_inv.s k).fits)) _ (c.key-key.ensures g.marker g.name g.reference)
    (headed c.word_at-word.result Rest g.value c.if-eq.ensures (c.word_at-word.ensures g.value g.there))
    i.associations.now definitions i.here r q unknown full code (λ ks l. sym (c.undefinable.ensures _ ks l) ∙ is) counted coded

pub returns-in_default : goal.returns-in_default
returns-in_default c definitions args r q es at w st h set = rw (no_two es _ (c.operands.ensures _ es at) c.in_default.not-Two) (refuses _)

pub has_kind-requires : goal.has_kind-requires
has_kind-requires c =
    let pre = c.requires.2 in
    (node_whole _ _ _ _ _ (two_at _ _ _ _ pre.0 _ _ pre.1 (c.in-Two.ensures _ pre.0 pre.1)).one).0

pub returns-then-not-has_kind : goal.returns-then-not-has_kind
returns-then-not-has_kind c definitions args r q es at w st h set =
    let g = two_at _ _ _ _ es _ _ at (c.in-Two.ensures _ es at) in
    rw (define_refused g h (λ k f. eqb-false _ _ (sym c.if-not-has_kind.ensures) k)) (refuses _)

pub word_at-word-requires : goal.word_at-word-requires
word_at-word-requires c = let pre = c.requires.2 in (_, (right c pre.0 pre.1).there)

pub returns-then-eq : goal.returns-then-eq
returns-then-eq c definitions args r q es at w st h set =
    let g = two_at _ _ _ _ es _ _ at (c.in-Two.ensures _ es at) in
    let rest = headed c.word_at-word.result Rest g.second c.if-eq.ensures (c.word_at-word.ensures g.second g.two) in
    rw (define_refused g h (λ k f. let z = sym rest ∙ f in impossible (cc))) (refuses _)

pub key-key-requires : goal.key-key-requires
key-key-requires c =
    let pre = c.requires.2 in
    let g = right (goal.at.key-key-requires c).Else-not-has_kind pre.0 pre.1 in
    (g.marker, g.name, g.reference)

pub returns-then-undefinable : goal.returns-then-undefinable
returns-then-undefinable c definitions args r q es at =
    let here = goal.at.returns-then-undefinable c in
    answered here.After-undefinable true _ _ es (right here.Else-not-has_kind es at) c.if-undefinable.true refl refl definitions args r q

pub returns-then-here-ge256 : goal.returns-then-here-ge256
returns-then-here-ge256 c definitions args r q es at =
    let here = goal.at.returns-then-here-ge256 c in
    answered here.After-undefinable false true _ es (right here.Else-not-has_kind es at) c.if-undefinable.false (le-leb 256 _ c.if-here-ge256.true) refl definitions args r q

pub overflow_add-result : goal.overflow_add-result
overflow_add-result c =
    let pre = c.requires.2 in
    let g = right (goal.at.overflow_add-result c).Else-not-has_kind pre.0 pre.1 in
    let f = leaf_fits (all_bytes c.args.s.now (λ k. (c.type_inv.s k).fits)) g.reference in
    omega (arith, c.key-key.ensures g.marker g.name g.reference, key_small g.marker g.name f.1 f.2)

pub returns-then-eq-2 : goal.returns-then-eq-2
returns-then-eq-2 c definitions args r q es at =
    let here = goal.at.returns-then-eq-2 c in
    let g = right here.Else-not-has_kind es at in
    answered here.After-undefinable false false true es g c.if-undefinable.false (lt-leb 256 _ c.if-here-ge256.false)
    (headed c.word_at-word.result Subst g.value c.if-eq-2.ensures (c.word_at-word.ensures g.value g.there)) definitions args r q

pub returns : goal.returns
returns c definitions args r q es at =
    let here = goal.at.returns c in
    let g = right here.Else-not-has_kind es at in
    rw (c.make.ensures, c.starting_at.ensures)
    (answered here.After-undefinable false false false es g c.if-undefinable.false (lt-leb 256 _ c.if-here-ge256.false)
    (headed c.word_at-word.result Subst g.value c.if-eq-2.ensures (c.word_at-word.ensures g.value g.there)) definitions args r q)
