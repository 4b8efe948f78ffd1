-- The functions of `evaluator::run` meet their contracts, by recursion on the steps that are left. Assumes nothing.
use Rattle.std.proofs.Common.{◌≡◌, ℕ, ◌-◌, List, Ok, Err, refl, ap, ◌∙◌, arith}
use Rattle.spec.specs.Evaluation.{run_code}
use Rattle.workspace.specs.declared.values.State.{State}
use Rattle.rules.specs.Scope.{View, view}
use Rattle.rules.specs.Settings.{showing}
use Rattle.rules.specs.declared.scope.Scope.{Scope}
use Rattle.rules.specs.declared.here.Here.{Here}
use Rattle.rules.specs.declared.plan.After.{After}
use Rattle.rows.proofs.Nodes.{more_whole}
use Rattle.rules.proofs.Latest.{latest_length, view_under}
use Rattle.evaluator.specs.Listed.{SomeReady, SomeEnding}
use Rattle.evaluator.proofs.Begins.{passed_on, extends_none}
use Rattle.evaluator.proofs.Turns.{going_start, going_over, going_more, going_evaluates, leaves_as, going_past, going_ceased, going_on}
use Rattle.evaluator.proofs.Insides.{can_make, making_ends, inside_fewer, inside_some, inside_ceased, inside_steps, inside_can_end, inside_ends}
use Rattle.evaluator.proofs.Calling.{call_kept, part_is, call_refused, ran, call_ready, call_stopped, call_returns, can_call, call_ends, function_code, function_found, code_found}
use Rattle.evaluator.proofs.run.+run.Goals as goal

-- Calls

pub call-returns-then-here-ge32 : goal.call-returns-then-here-ge32
call-returns-then-here-ge32 t c = (λ bound codes u body behind h vs z. rw c.new.ensures (call_refused z _ c.if-here-ge32.true), refl)

pub call-spread-count-requires-clause-values_value : goal.call-spread-count-requires-clause-values_value
call-spread-count-requires-clause-values_value t c =
    let z = c.requires.calls in
    (c.requires.values, part_is z, z.finishing.sound.0, z.finishing.sound.1)

pub call-list-requires : goal.call-list-requires
call-list-requires t c =
    let y = c.requires in (
      omega (arith, c.decreases),
      record {
        bound = y.bound;
        codes = y.codes - 1;
        nodes = _;
        here = _;
        ready = call_ready y.calls c.if-here-ge32.false _ _ c.spread-count.ensures c.called-inside.ensures (view c.args.associations.now c.args.definitions.now) refl;
      },
    )

pub call-returned-requires-clause-ran : goal.call-returned-requires-clause-ran
call-returned-requires-clause-ran t c =
    let y = c.requires.calls in
    let ready = call_ready y c.if-here-ge32.false _ _ c.spread-count.ensures c.called-inside.ensures (view c.args.associations.now c.args.definitions.now) refl in
    (_, ran y (c.in_ok-ran.ensures.0 _ _ _ _ ready))

pub call-returns-in_err-ran : goal.call-returns-in_err-ran
call-returns-in_err-ran t c =
    let seen : Scope → View = view c.args.associations.now c.args.definitions.now in
    let few = c.if-here-ge32.false in (
      λ bound codes u body behind h vs z.
          rw (passed_on c.from_residual.result c.from_residual.ensures.1)
          (call_stopped z few _ _ _ (c.in_err-ran.ensures.0 _ _ _ _ (call_ready z few _ _ c.spread-count.ensures c.called-inside.ensures seen refl))),
      call_kept _ _ _ _ c.args.here.scope c.args.here.scope refl (rw c.called-inside.ensures at c.list.ensures.1),
    )

pub call-returns : goal.call-returns
call-returns t c =
    let seen : Scope → View = view c.args.associations.now c.args.definitions.now in
    let few = c.if-here-ge32.false in (
      λ bound codes u body behind h vs z.
          let o = c.in_ok-ran.ensures.0 _ _ _ _ (call_ready z few _ _ c.spread-count.ensures c.called-inside.ensures seen refl) in
          call_returns z few c.args.values.row o _ _ c.returned.result (c.returned.ensures _ _ (ran z o) z.nodes),
      call_kept _ _ _ _ c.args.here.scope c.args.here.scope refl (rw c.called-inside.ensures at c.list.ensures.1),
    )

-- Codes

pub code-call-requires : goal.code-call-requires
code-call-requires t c = (omega (arith, c.decreases), can_call tt refl refl code_found c.requires)

pub code-returns-in_err-state : goal.code-returns-in_err-state
code-returns-in_err-state t c =
    let k = c.call in
    let see : Scope → View = view k.new.associations c.args.definitions.now in (
      rw (passed_on c.from_residual.result c.from_residual.ensures.1)
          (call_ends tt refl refl code_found k.new.w see c.args.values.row (Err _) k.ensures.1 c.in_err-state.ensures.0),
      k.ensures.1,
    )

pub code-returns : goal.code-returns
code-returns t c =
    let k = c.call in
    let see : Scope → View = view k.new.associations c.args.definitions.now in
    (call_ends tt refl refl code_found k.new.w see c.args.values.row (Ok _) k.ensures.1 c.in_ok-state.ensures.0, k.ensures.1)

pub function-code_at-body-requires : goal.function-code_at-body-requires
function-code_at-body-requires t c = let x = function_code c.requires in (_, x.0, x.1)

pub function-call-requires : goal.function-call-requires
function-call-requires t c = (
  omega (arith, c.decreases),
  rw (c.showing-at.ensures, c.up_to.ensures) (can_call tt refl refl (function_found _ _ c.args.here.scope (c.code_at-body.ensures _)) c.requires),
)

pub function-returns-in_err-state : goal.function-returns-in_err-state
function-returns-in_err-state t c =
    let k = c.call in
    let here = c.args.here in
    let there = c.showing-at.ensures ∙ ap (λ (x : Scope). showing x here) c.up_to.ensures in
    let see : Scope → View = view k.new.associations c.args.definitions.now in
    let kept = call_kept _ _ _ _ here.scope _ refl (rw there at k.ensures.1) in (
      rw (passed_on c.from_residual.result c.from_residual.ensures.1)
          (call_ends tt refl refl (function_found _ _ here.scope (c.code_at-body.ensures _)) k.new.w see c.args.values.row (Err _) kept
          (rw there at c.in_err-state.ensures.0)),
      kept,
    )

pub function-returns : goal.function-returns
function-returns t c =
    let k = c.call in
    let here = c.args.here in
    let there = c.showing-at.ensures ∙ ap (λ (x : Scope). showing x here) c.up_to.ensures in
    let see : Scope → View = view k.new.associations c.args.definitions.now in
    let kept = call_kept _ _ _ _ here.scope _ refl (rw there at k.ensures.1) in (
      call_ends tt refl refl (function_found _ _ here.scope (c.code_at-body.ensures _)) k.new.w see c.args.values.row (Ok _) kept
          (rw there at c.in_ok-state.ensures.0),
      kept,
    )

pub entered-list-requires : goal.entered-list-requires
entered-list-requires t c = (omega (arith, c.decreases), rw c.entering-at.ensures c.requires)

pub entered-returns : goal.entered-returns
entered-returns t c = rw c.entering-at.ensures at c.list.ensures

-- A form whose elements were evaluated

-- what becomes of their values, where this is known
becomes : {s t w : List ℕ} {v : View} {st : State} {at : Here} {start : ℕ} {after after' : After} → after ≡ after' → SomeEnding s t w v st at start after
    → SomeEnding s t w v st at start after'
becomes e x = rw (← e) x

pub finish-finish-requires : goal.finish-finish-requires
finish-finish-requires t c = can_make (becomes c.in-Make.is c.requires)

pub finish-function-requires : goal.finish-function-requires
finish-function-requires t c = (omega (arith, c.decreases), becomes c.in-Function.is c.requires)

pub finish-code-requires : goal.finish-code-requires
finish-code-requires t c = (omega (arith, c.decreases), becomes c.in-Code.is c.requires)

pub finish-returns-in-Make : goal.finish-returns-in-Make
finish-returns-in-Make t c =
    let a = c.args in
    let f = c.finish in
    let see : Scope → View = view a.associations.now f.new.definitions in (
      rw c.in-Make.is (making_ends a.values.state a.values.start f.new.w see a.values.row f.result (λ codes. f.ensures.0 _ _ _ (run_code codes))),
      f.ensures.1 _,
    )

-- One expression

pub expression-returns-in-Leaves : goal.expression-returns-in-Leaves
expression-returns-in-Leaves t c = (
  λ bound codes e h x. rw c.in-Leaves.is at (c.in_ok-step.ensures.0 bound (run_code codes) e h x.begins),
  c.begin.ensures.1,
)

pub expression-entered-requires : goal.expression-entered-requires
expression-entered-requires t c =
    let x = c.requires.evaluates in
    let b = rw c.in-Inside.is at (c.in_ok-step.ensures.0 c.requires.bound (run_code c.requires.codes) _ _ x.begins) in
    (omega (arith, inside_fewer x b, c.decreases), inside_some x b c.begin.ensures.1 c.within-within.ensures)

-- what is inside it was refused
pub expression-returns-in_err-state-in-Inside : goal.expression-returns-in_err-state-in-Inside
expression-returns-in_err-state-in-Inside t c =
    let n = c.entered in
    let kept = c.begin.ensures.1 in (
      λ bound codes e h x.
          let b = rw c.in-Inside.is at (c.in_ok-step.ensures.0 bound (run_code codes) e h x.begins) in
          rw (passed_on c.from_residual-in_err-state-in-Inside.result c.from_residual-in_err-state-in-Inside.ensures.1)
          (inside_ceased x b kept c.within-within.ensures n.new.w _ c.in_err-state-in-Inside.ensures.0),
      n.ensures.1 ∙ kept,
    )

-- what is inside it was evaluated
pub expression-finish-requires : goal.expression-finish-requires
expression-finish-requires t c =
    let x = c.requires.evaluates in
    let b = rw c.in-Inside.is at (c.in_ok-step.ensures.0 c.requires.bound (run_code c.requires.codes) _ _ x.begins) in
    let kept = c.begin.ensures.1 in
    let n = c.entered in
    let o = c.in_ok-state-in-Inside.ensures.0 in (
      omega (arith, inside_steps x b kept c.within-within.ensures n.new.w o, c.decreases),
      inside_can_end x b kept c.within-within.ensures n.new.w o (latest_length _ _) n.ensures.1,
    )

pub expression-returns-in_ok-state-in-Inside : goal.expression-returns-in_ok-state-in-Inside
expression-returns-in_ok-state-in-Inside t c =
    let f = c.finish in
    let n = c.entered in
    let kept = c.begin.ensures.1 in (
      λ bound codes e h x.
          let b = rw c.in-Inside.is at (c.in_ok-step.ensures.0 bound (run_code codes) e h x.begins) in
          inside_ends x b kept c.within-within.ensures n.new.w c.in_ok-state-in-Inside.ensures.0 (latest_length _ _) n.ensures.1 f.new.w
          (view f.new.associations f.new.definitions) f.result f.ensures.0,
      f.ensures.1 ∙ n.ensures.1 ∙ kept,
    )

-- Lists

pub list-loop-row-init : goal.list-loop-row-init
list-loop-row-init t c = record { going = λ y. going_start y.ready; kept = refl; extends = extends_none _ }

pub list-element-node-requires : goal.list-element-node-requires
list-element-node-requires t c = more_whole _ _ _ _ (going_more (c.loop-row.invariant.going c.requires) c.loop-row-test.true)

pub list-behind-behind-requires : goal.list-behind-behind-requires
list-behind-behind-requires t c = (more_whole _ _ _ _ (going_more (c.loop-row.invariant.going c.requires) c.loop-row-test.true)).1

pub list-expression-requires : goal.list-expression-requires
list-expression-requires t c =
    let g = c.loop-row.invariant.going c.requires in (
      omega (arith, g.fewer, c.decreases),
      record { bound = _; codes = _; expression = _; here = _; evaluates = going_evaluates g c.loop-row-test.true c.element-node.ensures },
    )

-- the expression was refused
pub list-returns-in_err-left : goal.list-returns-in_err-left
list-returns-in_err-left t c =
    let a = c.args in
    let l = c.loop-row in
    let on = c.loop-row-test.true in
    let left = c.expression in
    let see : Scope → View = view left.new.associations left.new.definitions in (
      λ bound codes es h r.
          let y : SomeReady a.s.now a.table.now a.w.now a.args.now (view a.associations.now a.definitions.now a.here.scope) a.state a.here a.form.flat a.form.first a.form.end =
          record { bound = bound; codes = codes; nodes = es; here = h; ready = r } in
          let g = l.invariant.going y in
          rw (passed_on c.from_residual.result c.from_residual.ensures.1)
          (going_ceased g on _ _ (leaves_as g on c.element-node.ensures left.new.w see (Err _) c.in_err-left.ensures.0)),
      view_under _ _ _ _ a.here.scope l.here.scope l.invariant.extends.defined l.invariant.extends.associated left.ensures.1 ∙ l.invariant.kept,
    )

-- it was evaluated
pub list-loop-row-smaller : goal.list-loop-row-smaller
list-loop-row-smaller t c =
    let g = c.loop-row.invariant.going c.requires in
    let on = c.loop-row-test.true in
    let e = going_more g on in
    omega (arith, going_past g on c.element-node.ensures c.behind-behind.ensures, e.forward, e.inside, on)

pub list-loop-row-preserved : goal.list-loop-row-preserved
list-loop-row-preserved t c =
    let a = c.args in
    let l = c.loop-row in
    let on = c.loop-row-test.true in
    let left = c.expression in
    let see : Scope → View = view left.new.associations left.new.definitions in
    let i = l.invariant.extends in
    let some = l.invariant.going c.requires in
    let past = going_past some on c.element-node.ensures c.behind-behind.ensures in
    let more = (leaves_as some on c.element-node.ensures left.new.w see (Ok _) c.in_ok-left.ensures.0).1 in
    rw c.showing-here.ensures (record {
      going = λ y.
          let g = l.invariant.going y in
          going_on g on _ past (leaves_as g on c.element-node.ensures left.new.w see (Ok _) c.in_ok-left.ensures.0).0;
      kept = view_under _ _ _ _ a.here.scope l.here.scope i.defined i.associated left.ensures.1 ∙ l.invariant.kept;
      extends = record { defined = omega (arith, more.defined, i.defined); associated = omega (arith, more.associated, i.associated) };
    })

pub list-returns : goal.list-returns
list-returns t c =
    let i = c.loop-row.invariant in (
      λ bound codes es h r.
          rw c.down_to.ensures (going_over (i.going (record { bound = bound; codes = codes; nodes = es; here = h; ready = r })) c.loop-row-test.false),
      i.kept,
    )
