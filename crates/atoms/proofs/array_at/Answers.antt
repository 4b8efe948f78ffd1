-- `atoms::array_at` meets its contract where two bytes give the length. Assumes nothing.
use Rattle.std.proofs.Common.{◌∙◌, arith}
use Rattle.atoms.proofs.Places.{array_two}
use Rattle.atoms.proofs.array_at.Goals as goal

pub returns-in-194 : goal.returns-in-194
returns-in-194 c =
    let a = c.args in
    let size = c.from-in-194.ensures ∙ c.from_be_bytes-size.ensures in
    rw (array_two a.s.now a.at (omega arith) _ size c.in-194.is) at (c.bytes_at-in-194.ensures a.at)
