-- The loop of `workspace::made::spread` keeps `Spreading`. Assumes nothing.
use Rattle.std.proofs.Common.{◌≡◌, ◌-◌, length}
use Rattle.spec.specs.Expr.{Exprs}
use Rattle.workspace.proofs.Spread.{Spreading}
use Rattle.workspace.proofs.made.spread.Given as goal

abbrev pub invariant-loop-at : goal.invariant-loop-at
invariant-loop-at l = (length l.args ≡ 64) × (all : Exprs) × (left : Exprs) × Spreading l.values l.base l.args l.at l.n all left

abbrev pub decreases-loop-at : goal.decreases-loop-at
decreases-loop-at l = length l.values - l.at
