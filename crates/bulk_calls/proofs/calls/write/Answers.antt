-- `bulk_calls::calls::write`: as many bytes are printed as Write gave, and these are there. Assumes nothing.
use Rattle.std.proofs.Common.{rules, ◌≤◌, length}
use Rattle.bulk.proofs.Given.{given_bytes}
use Rattle.bulk_calls.proofs.calls.write.Goals as goal

pub slice_bounds-written-end : goal.slice_bounds-written-end
slice_bounds-written-end g c =
    let fits : c.in-Ok.written ≤ length c.write.new.output = given_bytes _ _ _ _ _ c.in-Ok.is _ _ c.write.ensures in
    search rules
