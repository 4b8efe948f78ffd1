-- `bulk::read` meets its contract: a stream that can't be read, or its rows. Assumes nothing.
use Rattle.std.proofs.Common.{Ok}
use Rattle.std.proofs.lemmas.Result.{err_from_is_err_and}
use Rattle.reader.proofs.Told.{check_told, can_fill}
use Rattle.bulk.proofs.Answering.{read_right, read_refusal, read_acceptance}
use Rattle.bulk.proofs.read.Goals as goal

pub returns-in_err-rows : goal.returns-in_err-rows
returns-in_err-rows c =
    let a = c.args in
    let p = err_from_is_err_and c.from_residual.result c.from_residual.ensures.1 in
    rw (p.1, p.2) (read_refusal a.stream.now a.table.now _ c.type_inv.stream c.in_err-rows.ensures)

pub fill-requires : goal.fill-requires
fill-requires c = can_fill c.args.table.now (check_told c.args.stream.now _ (Ok _) c.type_inv.stream c.in_ok-rows.ensures)

pub returns : goal.returns
returns c = read_acceptance (read_right c.args.stream.now c.args.table.now c.type_inv.stream c.in_ok-rows.ensures c.fill.ensures)
