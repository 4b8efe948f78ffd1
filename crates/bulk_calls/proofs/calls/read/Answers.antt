-- `bulk_calls::calls::read`: as many rows are printed as Read gave, and these are there. Assumes nothing.
use Rattle.std.proofs.Common.{◌*◌, ◌≤◌, length, arith}
use Rattle.spec.specs.Reading.{row_width}
use Rattle.bulk.proofs.Given.{given_rows}
use Rattle.bulk_calls.proofs.calls.read.Goals as goal

pub rows-requires : goal.rows-requires
rows-requires g c =
    let fits : row_width * c.in-Ok.rows ≤ length c.read.new.table = given_rows _ _ _ _ _ c.in-Ok.is c.read.ensures in
    omega arith
