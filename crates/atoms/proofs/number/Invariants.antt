-- `atoms::number`: the number so far, with the bytes left, is the whole number, held at 65,537.
-- Assumes nothing.
use Rattle.std.proofs.Common.{◌≡◌, ◌≤◌, min, drop}
use Rattle.spec.specs.Reading.{natural}
use Rattle.atoms.proofs.number.Given as goal

abbrev pub invariant-loop-b : goal.invariant-loop-b
invariant-loop-b l = record {
  small : l.v ≤ 65537;
  same : min (natural 0 l.b-items) 65537 ≡ min (natural l.v (drop l.b-index l.b-items)) 65537;
}
