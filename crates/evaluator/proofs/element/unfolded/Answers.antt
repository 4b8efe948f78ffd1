-- `evaluator::element::unfolded` meets its contract: a step for each expression of the flat list, or too few. Assumes nothing.
use Rattle.std.proofs.Common.{◌-◌, ◌≤◌, length, ap, arith}
use Rattle.workspace.specs.declared.values.State.{State}
use Rattle.evaluator.proofs.Begins.{decided_short, decided_result}
use Rattle.evaluator.proofs.element.unfolded.Goals as goal

-- too few steps
pub returns-then-steps-n : goal.returns-then-steps-n
returns-then-steps-n c associations args bound w st node es rows e h is some u b =
    let count = c.count-n.ensures rows u.rows_at in
    let steps = ap (λ (x : State). x.steps) is in
    rw c.new.ensures (decided_short some u b (omega (arith, count, steps)) (rw is at (c.row_of.ensures _ rows u.rows_at (omega (arith, count)))))

pub returns-in-Err : goal.returns-in-Err
returns-in-Err c associations args bound w st node es rows e h is some u b =
    let count = c.count-n.ensures rows u.rows_at in
    let steps = ap (λ (x : State). x.steps) is in
    let enough : length rows ≤ st.steps - 1 = omega (arith, count, steps) in
    rw c.new-in-Err.ensures (decided_result some u b enough (c.in-Err.ensures associations args c.args.row e u.result))

pub returns-in-Ok : goal.returns-in-Ok
returns-in-Ok c associations args bound w st node es rows e h is some u b =
    let count = c.count-n.ensures rows u.rows_at in
    let steps = ap (λ (x : State). x.steps) is in
    let enough : length rows ≤ st.steps - 1 = omega (arith, count, steps) in
    rw (c.less-left.ensures, is) (rw (← count) at (decided_result some u b enough (c.in-Ok.ensures associations args c.args.row e u.result)))
