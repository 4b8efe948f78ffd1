-- `rules::namespaces::borne` meets its contract: the rows that are left bear the marker if any does. Assumes nothing.
use Rattle.rows.proofs.Nodes.{written_more}
use Rattle.rules.proofs.Borne.{ahead_next, ahead_none, ahead_all}
use Rattle.rules.proofs.namespaces.borne.Goals as goal

pub loop-r-init : goal.loop-r-init
loop-r-init c = ahead_all

pub bears-requires : goal.bears-requires
bears-requires c = (_, (written_more _ _ _ _ _ (c.loop-r.invariant _ c.requires.1).stand c.loop-r-test.true).node)

pub returns-then-bears : goal.returns-then-bears
returns-then-bears c es n = (ahead_next (c.loop-r.invariant es n) c.loop-r-test.true c.if-bears.ensures).tells

pub loop-r-preserved : goal.loop-r-preserved
loop-r-preserved c es n = ahead_next (c.loop-r.invariant es n) c.loop-r-test.true c.if-bears.ensures

pub returns : goal.returns
returns c es n = ahead_none (c.loop-r.invariant es n) c.loop-r-test.false
