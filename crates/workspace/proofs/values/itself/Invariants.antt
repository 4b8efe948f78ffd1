-- The loop of `workspace::values::itself` keeps `Upto`, of whichever atoms the form has. Assumes nothing.
use Rattle.std.proofs.Common.{◌≤◌, false}
use Rattle.spec.specs.Nodes.{Nodes}
use Rattle.rows.specs.Rows.{NodesAt}
use Rattle.workspace.specs.Completed.{Atoms}
use Rattle.workspace.proofs.Completing.{Upto}
use Rattle.workspace.proofs.values.itself.Given as goal

abbrev pub invariant-loop-row : goal.invariant-loop-row
invariant-loop-row l = record {
  some : 2 ≤ l.n;
  paid : l.n ≤ l.room;
  each : (es : Nodes) → NodesAt l.s l.table false l.fn.range.first l.fn.range.end es → Atoms es → Upto l.s l.table l.fn.w l.w l.top l.n l.row l.row-end es;
}
