-- `atoms::nested_length`: as many arrays as are still to be read stand around the length so far.
-- Assumes nothing.
use Rattle.std.proofs.Common.{◌≡◌, ◌-◌, ◌≤◌, length, drop}
use Rattle.spec.specs.Reading.{taken}
use Rattle.atoms.specs.Tokens.{measured, around}
use Rattle.atoms.proofs.nested_length.Given as goal

abbrev pub invariant-loop : goal.invariant-loop
invariant-loop l = record {
  inside : l.length.end ≤ length l.s;
  small : l.length.value ≤ 65537;
  same : measured (length l.s) (around l.depth (taken l.fn.inner.value (drop l.fn.inner.end l.s)))
      ≡ measured (length l.s) (around (l.depth - l.counter) (taken l.length.value (drop l.length.end l.s)));
}
