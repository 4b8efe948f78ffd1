-- `bytecode::scan::transform` meets its contract. Assumes nothing.
use Rattle.bytecode.proofs.Changing.{changed_then, written_all_kept}
use Rattle.bytecode.proofs.Transforms.{transforming_all, transforming_on, transforming_done}
use Rattle.bytecode.proofs.scan.transform.Goals as goal

pub loop-scan-init : goal.loop-scan-init
loop-scan-init c = let m = c.measure.ensures in transforming_all c.requires m.0 m.1 m.2 (m.3 _)

pub loop-scan-preserved : goal.loop-scan-preserved
loop-scan-preserved c = (transforming_on c.loop-scan.invariant c.visit-scan.ensures c.loop-scan-test.true).1

pub returns : goal.returns
returns c =
    let inv = c.loop-scan.invariant in
    let m = c.measure.ensures in
    (changed_then m.0 inv.changed, λ es w. transforming_done inv c.loop-scan-test.false es (written_all_kept _ m.0 es 0 _ w))
