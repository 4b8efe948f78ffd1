-- `bytecode::numbers::clear` meets its contract. Assumes nothing.
use Rattle.std.proofs.Common.{arith}
use Rattle.bytecode.proofs.Changing.{changed_cleared, changed_nowhere}
use Rattle.bytecode.proofs.numbers.clear.Goals as goal

pub loop-row-preserved : goal.loop-row-preserved
loop-row-preserved c t h g =
    let l = c.loop-row-test.true in
    let small = g c.loop-row.row l in
    changed_cleared (c.loop-row.invariant t h g) l (omega arith) small.0 small.1

pub returns : goal.returns
returns c t h g = changed_nowhere (c.loop-row.invariant t h g) (omega arith)
