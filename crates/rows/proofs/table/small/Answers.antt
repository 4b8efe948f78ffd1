-- `rows::table::small` meets its contract. Assumes nothing.
use native.Mathlib.Omega.{arith}
use Rattle.rows.proofs.Keys.{int_read}
use Rattle.rows.proofs.table.small.Goals as goal

pub overflow_sub-s : goal.overflow_sub-s
overflow_sub-s c = omega (arith, rw (← c.start-at.ensures) at (int_read _ _ _ _ c.requires.1))

pub returns : goal.returns
returns c v l = omega (arith, rw (← c.start-at.ensures) at (int_read _ _ _ v l), c.from.ensures)
