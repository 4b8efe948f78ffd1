-- The invariant of the loop in `bytecode::heights::is_deep`: what is left, where none before is over 63 high. Assumes nothing.
use Rattle.std.proofs.Common.{ℕ, List, ◌-◌}
use Rattle.spec.specs.Nodes.{Node}
use Rattle.bytecode.proofs.Pieces.{FormPiece, LeftPieces}
use Rattle.bytecode.proofs.heights.is_deep.Given as goal

abbrev pub invariant-loop-row : goal.invariant-loop-row
invariant-loop-row l = (s : List ℕ) (e : Node) → FormPiece s l.table l.flat l.fn.form.first l.end e → LeftPieces s l.table l.flat l.fn.form.first l.end e l.row

abbrev pub decreases-loop-row : goal.decreases-loop-row
decreases-loop-row l = l.end - l.row
