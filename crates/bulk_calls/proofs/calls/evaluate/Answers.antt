-- `bulk_calls::calls::evaluate`: as many bytes are printed as Evaluate gave, and these are there. Assumes nothing.
use Rattle.std.proofs.Common.{rules, ◌≤◌, length}
use Rattle.bulk.proofs.Given.{given_result}
use Rattle.bulk_calls.proofs.calls.evaluate.Goals as goal

pub slice_bounds-evaluated-end : goal.slice_bounds-evaluated-end
slice_bounds-evaluated-end g c =
    let fits : c.in-Ok.evaluation.length ≤ length c.evaluate.new.output = given_result _ _ _ _ _ _ _ _ _ c.in-Ok.is c.evaluate.ensures in
    search rules
