-- `bulk_calls::calls::backlog`: as many bytes and numbers are printed as Backlog gave, and these are there. Assumes nothing.
use Rattle.std.proofs.Common.{rules, ◌*◌, ◌≤◌, length}
use Rattle.spec.specs.Backlog.{answer_width}
use Rattle.bulk.proofs.Given.{given_backlog}
use Rattle.bulk_calls.proofs.calls.backlog.Goals as goal

pub slice_bounds-told-end : goal.slice_bounds-told-end
slice_bounds-told-end g c =
    let fits : answer_width * length c.first-ends.result.now ≤ length c.backlog.new.answers =
    (given_backlog _ _ _ _ _ _ _ _ _ _ _ _ c.in-Ok.is c.backlog.ensures).1 in
    search rules

pub slice_bounds-backlog-end : goal.slice_bounds-backlog-end
slice_bounds-backlog-end g c =
    let fits : c.in-Ok.written ≤ length c.backlog.new.output = (given_backlog _ _ _ _ _ _ _ _ _ _ _ _ c.in-Ok.is c.backlog.ensures).0 in
    search rules
