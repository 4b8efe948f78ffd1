-- What is left to search finds what the whole does. Assumes nothing.
use Rattle.rules.specs.Scope.{find}
use Rattle.rules.proofs.Latest.{Searching}
use Rattle.rules.proofs.scope.Scope.look_up.Given as goal

abbrev pub invariant-loop-i : goal.invariant-loop-i
invariant-loop-i l = Searching (find l.key) l.definitions l.fn.self.defined l.i
