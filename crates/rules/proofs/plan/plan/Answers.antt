-- `rules::plan::plan` meets its contract. Assumes nothing.
use Rattle.rows.proofs.Parts.{element_leaf}
use Rattle.rules.proofs.Naming.{some_defined}
use Rattle.rules.proofs.plan.plan.Goals as goal

pub leaf-requires : goal.leaf-requires
leaf-requires c =
    let pre = c.requires in
    let l = element_leaf (rw c.in-Leaf.is at pre.1.1) in
    (some_defined _ _ pre.0, (l.0, l.2))

pub returns-in-Leaf : goal.returns-in-Leaf
returns-in-Leaf c e el = let l = element_leaf (rw c.in-Leaf.is at el) in rw l.1 (c.leaf.ensures _ _ _ l.0 l.2)
