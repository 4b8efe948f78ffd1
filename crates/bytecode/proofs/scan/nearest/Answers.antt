-- `bytecode::scan::nearest` meets its contract. Assumes nothing.
use Rattle.std.proofs.Common.{arith}
use Rattle.bytecode.proofs.Lists.{reached_none, reached_lasts, reached_inside, reached_switchable, reached_lower, reached_on}
use Rattle.bytecode.proofs.scan.nearest.Goals as goal

pub loop-list-init : goal.loop-list-init
loop-list-init c out a = reached_none a

pub link-requires : goal.link-requires
link-requires c =
    let around = c.requires.1 in
    omega (arith, reached_inside around (c.loop-list.invariant _ around) (omega (arith, c.loop-list-test.true)), c.loop-list-test.true)

pub returns-then-row-link : goal.returns-then-row-link
returns-then-row-link c out a = reached_lasts a (c.loop-list.invariant out a) (λ h. rw (← c.link.ensures) c.if-row-link.true)

pub switch-requires : goal.switch-requires
switch-requires c = let around = c.requires.1 in reached_switchable around (c.loop-list.invariant _ around) (omega (arith, c.loop-list-test.true))

pub link-list-requires : goal.link-list-requires
link-list-requires c =
    let around = c.requires.1 in
    omega (arith, reached_inside around (c.loop-list.invariant _ around) (omega (arith, c.loop-list-test.true)), c.switch.ensures.0.same_length)

pub loop-list-smaller : goal.loop-list-smaller
loop-list-smaller c =
    let around = c.requires.1 in
    let w = c.switch.ensures in
    let ended = rw c.link.ensures at c.if-row-link.false in
    rw c.link-list.ensures (reached_lower around (c.loop-list.invariant _ around) (omega (arith, c.loop-list-test.true)) ended (w.0, w.2))

pub loop-list-preserved : goal.loop-list-preserved
loop-list-preserved c out a =
    let w = c.switch.ensures in
    let ended = rw c.link.ensures at c.if-row-link.false in
    reached_on a (c.loop-list.invariant out a) (omega (arith, c.loop-list-test.true)) ended (w.0, w.2) c.link-list.ensures

pub returns : goal.returns
returns c out a =
    let none = c.loop-list-test.false in
    rw (← none) (reached_lasts a (c.loop-list.invariant out a) (λ h. absurd (omega (arith, none))))
