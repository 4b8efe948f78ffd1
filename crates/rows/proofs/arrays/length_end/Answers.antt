-- `rows::arrays::length_end` meets its contract: the innermost length, and what stands around it. Assumes nothing.
use Prim.Native.Nat.{◌+◌}
use native.Mathlib.Omega.{arith}
use lib.ListN.{get_or}
use Rattle.rows.proofs.Bodies.{Innermost, innermost}
use Rattle.rows.proofs.arrays.length_end.Goals as goal
use Rattle.rows.proofs.arrays.length_end.Goals.{After-threes-depth, After-from-b}

-- what stands behind the bytes 03, and its first byte
there : (c : After-threes-depth) → let a = c.args in Innermost a.s.now a.at c.threes-depth.result (get_or a.s.now (a.at + c.threes-depth.result) 0)
there c = innermost _ _ _ _ c.requires.0 c.requires.1 c.threes-depth.ensures c.requires.2.1

told : (c : After-from-b) → Innermost c.args.s.now c.args.at c.threes-depth.result c.from-b.result
told c = rw c.from-b.ensures (innermost _ _ _ _ c.requires.0 c.requires.1 c.threes-depth.ensures c.requires.2.1)

pub overflow_add-p : goal.overflow_add-p
overflow_add-p c = omega (arith, (there c).inside)

pub bounds-s-p : goal.bounds-s-p
bounds-s-p c = (there (goal.at.bounds-s-p c).After-threes-depth).inside

pub overflow_add-q : goal.overflow_add-q
overflow_add-q c = omega (arith, (told c).inside)

pub overflow_sub-b : goal.overflow_sub-b
overflow_sub-b c = (told (goal.at.overflow_sub-b c).After-from-b).high

pub nested_end-requires : goal.nested_end-requires
nested_end-requires c =
    let i = told (goal.at.nested_end-requires c).After-from-b in
    let pre = c.requires in
    (pre.0, omega (arith, i.inside), (pre.2.0, rw (← i.int c.if-b-lt192.true) pre.2.1))

pub returns-then-b-lt192 : goal.returns-then-b-lt192
returns-then-b-lt192 c = rw ((told (goal.at.returns-then-b-lt192 c).After-from-b).int c.if-b-lt192.true) c.nested_end.ensures

pub short_number-requires : goal.short_number-requires
short_number-requires c =
    let q = (told (goal.at.short_number-requires c).After-from-b).array c.if-b-lt192.false in
    (omega arith, q.inside, q.short)

pub nested_end-requires-2 : goal.nested_end-requires-2
nested_end-requires-2 c =
    let q = (told (goal.at.nested_end-requires-2 c).After-from-b).array c.if-b-lt192.false in
    let pre = c.requires in
    (pre.0, q.inside, (pre.2.0, rw (c.short_number.ensures, ← q.is) pre.2.1))

pub returns : goal.returns
returns c =
    let q = (told (goal.at.returns c).After-from-b).array c.if-b-lt192.false in
    rw (q.is, ← c.short_number.ensures) c.nested_end-2.ensures
