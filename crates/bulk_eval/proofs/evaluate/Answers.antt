-- `bulk_eval::evaluate`: as many bytes are written out as Evaluate gave, and these are there. Assumes nothing.
use Rattle.std.proofs.Common.{rules, ◌≤◌, length, length-take, arith}
use Rattle.bulk.proofs.Given.{given_result}
use Rattle.bulk_eval.proofs.evaluate.Goals as goal

pub slice_bounds-write_all-end : goal.slice_bounds-write_all-end
slice_bounds-write_all-end g c =
    let fits : c.in-Ok.evaluation.length ≤ length c.evaluate-answer.new.output = given_result _ _ _ _ _ _ _ _ _ c.in-Ok.is c.evaluate-answer.ensures in search rules

pub slice_bounds-write_all-end-in-Ok : goal.slice_bounds-write_all-end-in-Ok
slice_bounds-write_all-end-in-Ok g c =
    let fits : c.in-Ok.evaluation.length ≤ length c.evaluate-answer.new.output = given_result _ _ _ _ _ _ _ _ _ c.in-Ok.is c.evaluate-answer.ensures in
    omega (arith, fits, length-take c.in-Ok.evaluation.length c.evaluate-answer.new.output)
