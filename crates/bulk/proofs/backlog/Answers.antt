-- `bulk::backlog` meets its contract. Each stream's evaluation makes a turn. Assumes nothing.
use mathlib.Core.Path.{refl, sym, ◌∙◌}
use native.Mathlib.Nat.{add-zero}
use Rattle.std.proofs.Common.{◌+◌, ◌≤◌, Ok, length, arith}
use borrow.Author.Rules.{rules}
use Rattle.bulk.proofs.Turns.{turn_ends, turn_next, answered_23, turns, turns_answered}
use Rattle.bulk.proofs.backlog.Goals as goal
use Rattle.bulk.proofs.backlog.Goals.{in-Ok, in_default}

pub returns-then-is_23 : goal.returns-then-is_23
returns-then-is_23 c = rw c.new.ensures (answered_23 _ (sym c.is_23.ensures ∙ c.if-is_23.true))

-- 23 has not come
pub loop-i-init : goal.loop-i-init
loop-i-init c = turns _ (sym c.is_23.ensures ∙ c.if-is_23.false)

-- a stream is in the buffer
pub slice_bounds-evaluate-count : goal.slice_bounds-evaluate-count
slice_bounds-evaluate-count c = omega (arith, (turn_ends _ c.loop-i.invariant c.loop-i-test.true).0)

pub slice_bounds-evaluate-start : goal.slice_bounds-evaluate-start
slice_bounds-evaluate-start c = omega (arith, (turn_ends _ c.loop-i.invariant c.loop-i-test.true).0)

pub slice_bounds-evaluate-end : goal.slice_bounds-evaluate-end
slice_bounds-evaluate-end c = (turn_ends _ c.loop-i.invariant c.loop-i-test.true).1

pub overflow_add-used : goal.overflow_add-used
overflow_add-used c =
    let turn = turn_next _ c.loop-i.invariant c.loop-i-test.true (Ok c.in-Ok.evaluation) _ _ _ (rw c.loop-i.auto.workspace at c.in-Ok.ensures) refl in
    let few : c.loop-i.used + c.in-Ok.evaluation.length ≤ length c.args.output.now = omega (arith, turn.inside, turn.outputs) in
    search rules

pub loop-i-preserved : goal.loop-i-preserved
loop-i-preserved c =
    let turn = turn_next _ c.loop-i.invariant c.loop-i-test.true _ _ _ c.copy_from_slice.new.self (rw c.loop-i.auto.workspace at c.evaluate-answer.ensures)
    (c.copy_from_slice.ensures.after ∙ c.told.ensures) in
    elim c.match-answer.branch [
      | in-Ok w ↦ rw (w.start-is, w.used-is) (rw w.in-Ok.is at turn)
      | in_default w ↦ rw (w.start-is, w.used-is) (rw (w.in_default.is, add-zero) at turn)
    ]

pub returns : goal.returns
returns c = turns_answered _ (sym c.is_23.ensures ∙ c.if-is_23.false) c.loop-i.invariant c.loop-i-test.false
