-- `rules::plan::code_at` meets its contract. Assumes nothing.
use Rattle.std.proofs.Common.{refl, false}
use Rattle.rows.proofs.Nodes.{nodes_first, node_whole}
use Rattle.rules.proofs.plan.code_at.Goals as goal

pub rest-requires : goal.rest-requires
rest-requires c = rw c.written.ensures (node_whole _ _ _ _ _ (nodes_first _ _ _ _ _ _ _ c.requires.2.elements).1).0

pub returns : goal.returns
returns c s es code = rw (c.rest.ensures, c.written.ensures) (refl, (nodes_first s _ false _ _ _ es code.elements).2)
