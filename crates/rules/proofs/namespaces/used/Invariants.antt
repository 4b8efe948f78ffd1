-- None of the entries so far has the id. Assumes nothing.
use Rattle.std.proofs.Common.{◌≡◌, false, take}
use Rattle.std.proofs.Math.Seq.{slice}
use Rattle.std.specs.List.{list_any}
use Rattle.rules.proofs.Linking.{identifies}
use Rattle.rules.proofs.namespaces.used.Given as goal

abbrev pub invariant-loop-entry : goal.invariant-loop-entry
invariant-loop-entry l = list_any (identifies l.s (slice l.from l.to l.s)) (take l.entry-index l.entry-items) ≡ false
