-- `workspace::values::copied` meets its contract: a move to where those before it end, if they are charged. Assumes nothing.
use Rattle.std.proofs.Common.{arith}
use Rattle.workspace.proofs.Areas.{moved_within}
use Rattle.workspace.proofs.Completing.{completed, refused_on, part_sized}
use Rattle.workspace.proofs.values.copied.Goals as goal

pub returns-in_err-left : goal.returns-in_err-left
returns-in_err-left c vs there shallow = refused_on (part_sized shallow there) _ _ _ _ c.from_residual.result c.from_residual.ensures.1 c.in_err-left.ensures

pub returns : goal.returns
returns c vs there shallow =
    completed (part_sized shallow there) _ _ _ _ c.requires.fitting (omega arith) c.in_ok-left.ensures
    (λ paid. rw there.bytes at (moved_within c.args.w.now c.args.from c.args.to c.args.start (omega arith) c.copy_within.ensures.after))
