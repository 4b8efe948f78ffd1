-- `bulk::evaluate` meets its contract: a stream that can't be read, or what the evaluation of its rows told, and the result put out if there is
-- room. Assumes nothing.
use Rattle.std.proofs.Common.{ℕ, Ok, arith}
use Rattle.std.proofs.lemmas.Result.{err_from_is_err_and}
use lib.ListN.{length-take}
use lib.Seq.{length-take-le}
use Rattle.spec.specs.Reading.{tokens, rows_of}
use Rattle.evaluator.specs.Evaluated.{Evaluated}
use Rattle.reader.proofs.Told.{WasRead, check_told, can_fill}
use Rattle.bulk.proofs.Answering.{read_right, kept_read, evaluate_refusal, has_read, rows_refusal, rows_short, rows_result}
use Rattle.bulk.proofs.evaluate.Goals as goal
use Rattle.bulk.proofs.evaluate.Goals.{After-fill, After-evaluate, In_ok-evaluation}

was_read : (c : After-fill) → let v = c.in_ok-rows.field-0 in WasRead c.args.stream.now c.args.table.now c.fill.new.table v.rows v.length
was_read c = read_right c.args.stream.now c.args.table.now c.type_inv.stream c.in_ok-rows.ensures c.fill.ensures

-- the rows are still in the table
kept : (c : After-evaluate) → let v = c.in_ok-rows.field-0 in WasRead c.args.stream.now c.args.table.now c.evaluate.new.table v.rows v.length
kept c = kept_read (was_read (goal.at.After-evaluate c).After-fill) c.evaluate.ensures.0

-- the result is in the workspace
ran : (c : In_ok-evaluation) → let s = c.args.stream.now in
    Evaluated s c.args.table.now c.args.workspace.now c.evaluate.new.work c.args.output.now c.args.steps (rows_of (tokens 0 0 s)) (Ok c.in_ok-evaluation.evaluation)
ran c = let read = was_read (goal.at.In_ok-evaluation c).After-fill in c.in_ok-evaluation.ensures.1 _ c.args.output.now _ _ read.right.is read.filled_in

pub returns-in_err-rows : goal.returns-in_err-rows
returns-in_err-rows c =
    let a = c.args in
    let p = err_from_is_err_and c.from_residual.result c.from_residual.ensures.1 in
    rw (p.1, p.2) (evaluate_refusal a.stream.now a.table.now _ c.type_inv.stream c.in_err-rows.ensures _ _ _)

pub fill-requires : goal.fill-requires
fill-requires c = can_fill c.args.table.now (check_told c.args.stream.now _ (Ok _) c.type_inv.stream c.in_ok-rows.ensures)

pub evaluate-requires : goal.evaluate-requires
evaluate-requires c = has_read (was_read (goal.at.evaluate-requires c).After-fill)

pub returns-in_err-evaluation : goal.returns-in_err-evaluation
returns-in_err-evaluation c =
    let read = was_read (goal.at.returns-in_err-evaluation c).After-fill in
    let p = err_from_is_err_and c.from_residual-in_err-evaluation.result c.from_residual-in_err-evaluation.ensures.1 in
    rw (p.1, p.2)
    (rows_refusal (kept (goal.at.returns-in_err-evaluation c).After-evaluate) _ _ _ (c.in_err-evaluation.ensures.1 _ c.args.output.now _ _ read.right.is read.filled_in))

pub returns-then-output-size : goal.returns-then-output-size
returns-then-output-size c =
    let at = goal.at.returns-then-output-size c in
    rw c.new.ensures (rows_short (kept at.After-evaluate) _ _ _ _ (ran at.In_ok-evaluation) c.if-output-size.true)

pub slice_bounds-copy_from_slice-end-3 : goal.slice_bounds-copy_from_slice-end-3
slice_bounds-copy_from_slice-end-3 c = omega (arith, (ran (goal.at.slice_bounds-copy_from_slice-end-3 c).In_ok-evaluation).0)

pub slice_bounds-copy_from_slice-end-4 : goal.slice_bounds-copy_from_slice-end-4
slice_bounds-copy_from_slice-end-4 c = omega (arith, length-take {A = ℕ}, (ran (goal.at.slice_bounds-copy_from_slice-end-4 c).In_ok-evaluation).0)

pub copy_from_slice-requires : goal.copy_from_slice-requires
copy_from_slice-requires c = omega (arith, length-take {A = ℕ}, c.if-output-size.false, (ran (goal.at.copy_from_slice-requires c).In_ok-evaluation).0)

pub returns : goal.returns
returns c =
    let at = goal.at.returns c in
    let h = ran at.In_ok-evaluation in
    let e = c.in_ok-evaluation.evaluation in
    rows_result (kept at.After-evaluate) _ _ c.evaluate.new.work e h _ c.if-output-size.false
    (rw (c.copy_from_slice.ensures.after, length-take-le e.length c.evaluate.new.work h.0))
