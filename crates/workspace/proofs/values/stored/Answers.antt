-- `workspace::values::stored` meets its contract: a move to below the floor. Assumes nothing.
use Rattle.std.proofs.Common.{arith}
use Rattle.workspace.proofs.Areas.{moved_within}
use Rattle.workspace.proofs.Completing.{moved_below}
use Rattle.workspace.proofs.values.stored.Goals as goal

pub returns : goal.returns
returns c =
    let fits = c.requires.0 in
    moved_below _ fits c.requires.1 (moved_within c.args.w.now _ _ _ (omega (arith, fits.paid, fits.below)) c.copy_within.ensures.after)
