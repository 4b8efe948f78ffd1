-- The invariant of the loop in `bytecode::flat::skip`: what is left of the expressions. Assumes nothing.
use Rattle.std.proofs.Common.{◌≡◌, ℕ, List, ◌+◌}
use Rattle.spec.specs.Nodes.{Nodes}
use Rattle.rows.specs.Rows.{WrittenAll}
use Rattle.bytecode.proofs.Links.{Passed}
use Rattle.bytecode.proofs.flat.skip.Given as goal

abbrev pub invariant-loop : goal.invariant-loop
invariant-loop l =
    (left : ℕ) → l.counter + left ≡ l.n → (s : List ℕ) (es : Nodes) → WrittenAll s l.table l.first l.end es → Passed s l.table l.first l.end l.n es l.row left
