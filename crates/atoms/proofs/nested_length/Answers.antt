-- `atoms::nested_length`: one array outwards.
-- Assumes nothing.
use Rattle.std.proofs.Common.{◌≡◌, ◌+◌, ◌-◌, ◌∙◌, arith}
use Rattle.atoms.proofs.Places.{around_whole}
use Rattle.atoms.proofs.nested_length.Goals as goal

pub loop-preserved : goal.loop-preserved
loop-preserved c =
    let now = c.loop.length in
    let size : now.end + now.value - now.end ≡ now.value = omega arith in
    let left : c.args.depth - c.loop.counter - 1 ≡ c.args.depth - (c.loop.counter + 1) = omega arith in
    let number = rw size at c.number.ensures in
    record {
      inside = omega arith;
      small = omega (arith, number);
      same = c.loop.invariant.same
          ∙ around_whole _ _ now.value now.end (omega arith) (omega arith) (omega arith) c.if-s-from.false
          ∙ rw (left, ← number);
    }
