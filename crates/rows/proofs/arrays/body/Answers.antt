-- `rows::arrays::body` meets its contract. Assumes nothing.
use native.Mathlib.Omega.{arith}
use Rattle.rows.proofs.Bodies.{one_end, body_begins}
use Rattle.rows.proofs.arrays.body.Goals as goal

pub length_end-requires : goal.length_end-requires
length_end-requires c =
    let leaf = c.requires.1 in
    (leaf.row.short, omega (arith, leaf.row.starts, leaf.row.ends), (_, (body_begins c.start-at.ensures leaf).1 c.if-s-at-ne3.false))

pub returns-then-s-at-ne3 : goal.returns-then-s-at-ne3
returns-then-s-at-ne3 c bs leaf = (body_begins c.start-at.ensures leaf).0 c.if-s-at-ne3.true

pub returns : goal.returns
returns c bs leaf = one_end c.length_end.ensures ((body_begins c.start-at.ensures leaf).1 c.if-s-at-ne3.false)
