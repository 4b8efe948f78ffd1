-- `bulk_write::rewrite`: as many bytes are written out as Write gave, and these are there. Assumes nothing.
use Rattle.std.proofs.Common.{rules, ◌≤◌, length, length-take, arith}
use Rattle.bulk.proofs.Given.{given_bytes}
use Rattle.bulk_write.proofs.rewrite.Goals as goal

pub slice_bounds-write_all-end : goal.slice_bounds-write_all-end
slice_bounds-write_all-end g c =
    let fits : c.in-Ok.length ≤ length c.write.new.output = given_bytes _ _ _ _ _ c.in-Ok.is _ _ c.write.ensures in search rules

pub slice_bounds-write_all-end-in-Ok : goal.slice_bounds-write_all-end-in-Ok
slice_bounds-write_all-end-in-Ok g c =
    let fits : c.in-Ok.length ≤ length c.write.new.output = given_bytes _ _ _ _ _ c.in-Ok.is _ _ c.write.ensures in
    omega (arith, fits, length-take c.in-Ok.length c.write.new.output)
