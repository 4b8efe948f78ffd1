-- `workspace::made::join_at` meets its contract: refused if there is no room, else put together above the top and moved down.
-- Assumes nothing.
use Rattle.std.proofs.Common.{◌+◌, arith}
use Rattle.laws.proofs.Atoms.{head_bounds}
use Rattle.workspace.proofs.Areas.{moved_within}
use Rattle.workspace.proofs.Completing.{paid, refused_on}
use Rattle.workspace.proofs.Making.{join_sized, join_kept}
use Rattle.workspace.proofs.made.join_at.Goals as goal

pub overflow_add-start : goal.overflow_add-start
overflow_add-start c = omega (arith, c.atom_size-n.ensures, head_bounds (c.len-first.result + c.len.result))

pub returns-in_err-left : goal.returns-in_err-left
returns-in_err-left c =
    let a = c.args in
    let p = c.requires in
    refused_on (join_sized a.w.now a.state a.a a.b p.fitting.0 p.in_order.1 p.in_order.3 _ _ _ c.len-first.ensures.value c.len.ensures.value c.atom_size-n.ensures)
    _ _ _ _ c.from_residual.result c.from_residual.ensures.1 c.in_err-left.ensures

pub returns : goal.returns
returns c =
    let a = c.args in
    let p = c.requires in
    let few = paid a.state _ _ _ _ c.in_ok-left.ensures in
    join_kept a.w.now a.state a.a a.b p.fitting.0 p.in_order.1 p.in_order.3 _ _ _ c.len-first.ensures.value c.len.ensures.value c.atom_size-n.ensures
    _ p.fitting.1 c.in_ok-left.ensures c.put_head-at.ensures
    (moved_within _ _ _ _ (omega arith) c.copy_within.ensures.after)
    (moved_within _ _ _ _ (omega arith) c.copy_within-2.ensures.after)
    (moved_within _ _ _ _ (omega arith) c.copy_within-3.ensures.after)
