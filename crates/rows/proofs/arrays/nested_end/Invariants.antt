-- As many arrays as are still to be passed stand around the length so far. Assumes nothing.
use Prim.Native.Nat.{◌-◌, ◌≤◌}
use mathlib.Core.Path.{◌≡◌}
use lib.ListN.{length, drop}
use Rattle.spec.specs.Reading.{taken}
use Rattle.atoms.specs.Tokens.{around}
use Rattle.rows.proofs.arrays.nested_end.Given as goal

abbrev pub invariant-loop : goal.invariant-loop
invariant-loop l =
    (l.at ≤ length l.s) × (around l.depth (taken l.value (drop l.from l.s)) ≡ around (l.depth - l.counter) (taken l.v (drop l.at l.s)))
