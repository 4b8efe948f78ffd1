-- `Nesting` holds at each token of the loop of `workspace::made::shallow`. Assumes nothing.
use Rattle.std.proofs.Common.{◌-◌, length}
use Rattle.workspace.proofs.Depths.{Nesting}
use Rattle.workspace.proofs.made.shallow.Given as goal

abbrev pub invariant-loop-at : goal.invariant-loop-at
invariant-loop-at l = Nesting l.values l.at l.depth

abbrev pub decreases-loop-at : goal.decreases-loop-at
decreases-loop-at l = length l.values - l.at
