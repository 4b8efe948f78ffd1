-- The turns so far are those of a night's streams; the workspace keeps its length. Assumes nothing.
use Rattle.bulk.proofs.Turns.{night, Turn}
use Rattle.bulk.proofs.backlog.Given as goal

abbrev pub invariant-loop-i : goal.invariant-loop-i
invariant-loop-i l =
    Turn (night l.buffer l.ends l.fn.table l.fn.workspace l.fn.output l.steps l.fn.answers) l.table l.output l.answers l.start l.used l.i
