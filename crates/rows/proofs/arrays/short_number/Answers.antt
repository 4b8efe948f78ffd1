-- `rows::arrays::short_number` meets its contract. Assumes nothing.
use native.Mathlib.Omega.{arith}
use Rattle.rows.proofs.Bodies.{last_three}
use Rattle.rows.proofs.arrays.short_number.Goals as goal

pub returns : goal.returns
returns c =
    let a = c.args in
    let pre = c.requires in
    omega (arith, c.number-2.ensures, last_three a.s.now a.from a.to (omega arith) pre.1 pre.2)
