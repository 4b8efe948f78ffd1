-- `bulk::write` meets its contract: a stream that can't be read, or the canonical stream if there is room, which is the stream itself if both
-- have one length. Assumes nothing.
use Rattle.std.proofs.Common.{Ok, arith}
use Rattle.std.proofs.lemmas.Result.{err_from_is_err_and}
use Rattle.reader.proofs.Told.{WasRead, check_told, can_fill}
use Rattle.bulk.proofs.Answering.{read_right, write_refusal, write_short, write_acceptance, copied_whole}
use Rattle.bulk.proofs.write.Goals as goal
use Rattle.bulk.proofs.write.Goals.{After-fill}

was_read : (c : After-fill) → let v = c.in_ok-length.field-0 in WasRead c.args.stream.now c.args.table.now c.fill.new.table v.rows v.length
was_read c = read_right c.args.stream.now c.args.table.now c.type_inv.stream c.in_ok-length.ensures c.fill.ensures

pub returns-in_err-length : goal.returns-in_err-length
returns-in_err-length c =
    let a = c.args in
    let p = err_from_is_err_and c.from_residual.result c.from_residual.ensures.1 in
    rw (p.1, p.2) (write_refusal a.stream.now a.table.now _ c.type_inv.stream c.in_err-length.ensures _)

pub fill-requires : goal.fill-requires
fill-requires c = can_fill c.args.table.now (check_told c.args.stream.now _ (Ok _) c.type_inv.stream c.in_ok-length.ensures)

pub returns-then-output-length : goal.returns-then-output-length
returns-then-output-length c = rw c.new.ensures (write_short (was_read (goal.at.returns-then-output-length c).After-fill) _ c.if-output-length.true)

pub returns-then-length-stream : goal.returns-then-length-stream
returns-then-length-stream c =
    let read = was_read (goal.at.returns-then-length-stream c).After-fill in
    write_acceptance read _ _ c.if-output-length.false
    (rw c.copy_from_slice.ensures.after (copied_whole read (λ i. (c.type_inv.stream i).fits) c.if-length-stream.true c.args.output.now))

pub emit-requires : goal.emit-requires
emit-requires c =
    let read = was_read (goal.at.emit-requires c).After-fill in
    record { can_read = read.right.can; s_in_bounds = omega (arith, read.right.sized, c.if-output-length.false) }

pub returns-else-length-stream : goal.returns-else-length-stream
returns-else-length-stream c =
    write_acceptance (was_read (goal.at.returns-else-length-stream c).After-fill) _ _ c.if-output-length.false c.emit.ensures
