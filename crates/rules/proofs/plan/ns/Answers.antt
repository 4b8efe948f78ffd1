-- `rules::plan::ns` meets its contract. Assumes nothing.
use Rattle.rules.specs.Planned.{refuses}
use Rattle.rules.proofs.Associating.{ns_elsewhere}
use Rattle.rules.proofs.plan.ns.Goals as goal

pub returns-then-ne : goal.returns-then-ne
returns-then-ne c definitions args r es at led w st h set = rw (ns_elsewhere set.element_of c.if-ne.ensures es h) (refuses _)
