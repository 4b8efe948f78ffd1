-- The loop of `reader::find` keeps which expression was passed last, and how many are still to be (`proofs/Finding.antt`). Assumes nothing.
use Rattle.std.proofs.Common.{◌+◌, ◌-◌}
use Rattle.reader.proofs.Finding.{Passed}
use Rattle.reader.proofs.find.Given as goal

abbrev pub invariant-loop : goal.invariant-loop
invariant-loop l = Passed l.s l.k l.part.start (l.k + 1 - l.counter) l.part.end
