-- `atoms::long_reference`: the sum so far, with the bytes left, gives the marker.
-- Assumes nothing.
use Rattle.std.proofs.Common.{◌≡◌, suc, ◌+◌, ◌*◌, ◌≤◌, drop}
use Rattle.spec.specs.Reading.{marker}
use Rattle.atoms.proofs.long_reference.Given as goal

abbrev pub invariant-loop-p : goal.invariant-loop-p
invariant-loop-p l = record {
  small : l.sum ≤ 127 + 255 * l.p;
  same : marker 0x7F (drop (suc l.at) l.s) ≡ marker l.sum (drop l.p l.s);
}
