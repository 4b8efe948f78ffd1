-- `rows::arrays::nested_end` meets its contract. Assumes nothing.
use Prim.Native.Nat.{◌+◌, ◌-◌}
use native.Mathlib.Omega.{arith}
use lib.ListN.{drop}
use Rattle.spec.specs.Reading.{taken}
use Rattle.atoms.specs.Tokens.{around}
use Rattle.rows.proofs.Bodies.{Counted, nested_next, nested_done}
use Rattle.rows.proofs.arrays.nested_end.Goals as goal
use Rattle.rows.proofs.arrays.nested_end.Goals.{In-loop}

-- one more is passed
passed : (c : In-loop) → let a = c.args in let l = c.loop in
    Counted a.s.now (around a.depth (taken a.value (drop a.from a.s.now))) (a.depth - (l.counter + 1)) l.at (l.at + l.v)
passed c = let i = c.loop.invariant in nested_next c.requires.0 c.requires.2.1 _ _ _ i.0 i.1 _ (omega arith)

pub overflow_add-end : goal.overflow_add-end
overflow_add-end c = omega (arith, (passed c).inside)

pub short_number-v-requires : goal.short_number-v-requires
short_number-v-requires c = let p = passed c in (omega arith, p.inside, p.short)

pub loop-preserved : goal.loop-preserved
loop-preserved c = let p = passed (goal.at.loop-preserved c).In-loop in (p.inside, rw c.short_number-v.ensures p.is)

pub returns : goal.returns
returns c = let i = c.loop.invariant in nested_done c.requires.0 c.requires.2.1 _ _ _ i.0 i.1 (omega arith)
