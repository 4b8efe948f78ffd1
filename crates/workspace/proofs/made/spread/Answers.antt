-- `workspace::made::spread` meets its contract: each value that is passed keeps `Spreading`. Assumes nothing.
use Rattle.std.proofs.Common.{arith}
use Rattle.workspace.proofs.Spread.{values_right, Ended, spreading_start, spreading_end, spreading_turn}
use Rattle.workspace.proofs.made.spread.Goals as goal
use Rattle.workspace.proofs.made.spread.Goals.{After-expression_end-end}

pub loop-at-init : goal.loop-at-init
loop-at-init c =
    let v = c.requires.values_value in
    (c.told-args, v.0, v.0, spreading_start c.args.base c.args.args.now (record { is = v.1; fits = v.2; shallow = v.3 }))

pub expression_end-end-requires : goal.expression_end-end-requires
expression_end-end-requires c = (omega arith, omega arith, values_right c.args.values.now c.loop-at.at _ c.loop-at.invariant.3.others)

-- where the value ends
at_end : (c : After-expression_end-end) → let a = c.args in
    Ended a.values.now a.base c.loop-at.args c.loop-at.at c.loop-at.n c.loop-at.invariant.1 c.expression_end-end.result
at_end c =
    let f = c.loop-at.invariant in
    spreading_turn f.2 f.3 _ c.expression_end-end.ensures (λ h. omega (arith, f.0)) c.loop-at-test.true

pub overflow_add-base-in-loop-at : goal.overflow_add-base-in-loop-at
overflow_add-base-in-loop-at c = omega (arith, (at_end (goal.at.overflow_add-base-in-loop-at c).After-expression_end-end).inside)

pub put_argument-requires : goal.put_argument-requires
put_argument-requires c = let e = at_end (goal.at.put_argument-requires c).After-expression_end-end in omega (arith, e.forward, e.inside)

pub loop-at-smaller : goal.loop-at-smaller
loop-at-smaller c = omega (arith, (at_end (goal.at.loop-at-smaller c).After-expression_end-end).forward)

pub loop-at-preserved : goal.loop-at-preserved
loop-at-preserved c =
    let e = at_end (goal.at.loop-at-preserved c).After-expression_end-end in
    (c.put_argument.array_long, c.loop-at.invariant.1, e.left, rw c.put_argument.ensures e.next)

pub returns : goal.returns
returns c w vs here is fits shallow =
    let f = c.loop-at.invariant in
    spreading_end f.2 f.3 c.loop-at-test.false (omega arith) w vs (record { is = is; fits = fits; shallow = shallow }) here
