-- The rows that are left bear the marker if any does. Assumes nothing.
use Rattle.std.proofs.Common.{false, eqb}
use Rattle.spec.specs.Expr.{some}
use Rattle.spec.specs.Nodes.{Nodes, markers_all}
use Rattle.rows.specs.Rows.{NodesAt}
use Rattle.rules.proofs.Borne.{Ahead}
use Rattle.rules.proofs.namespaces.borne.Given as goal

abbrev pub invariant-loop-r : goal.invariant-loop-r
invariant-loop-r l =
    (es : Nodes) → NodesAt l.s l.table false 0 l.fn.row es → Ahead l.marker l.s l.table l.r l.fn.row false (some (eqb l.marker) (markers_all es))
