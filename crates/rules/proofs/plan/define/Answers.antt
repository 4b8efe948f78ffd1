-- `rules::plan::define` meets its contract. Assumes nothing.
use Rattle.rules.specs.Planned.{refuses}
use Rattle.rules.proofs.Defining.{define_elsewhere}
use Rattle.rules.proofs.plan.define.Goals as goal

pub returns-then-eq : goal.returns-then-eq
returns-then-eq c definitions args r q es at w st h set = rw (define_elsewhere set.element_of c.if-eq.ensures es h) (refuses _)
