-- `rows::table::key` meets its contract: the bytes that it reads are those of `RefAt`. Assumes nothing.
use Prim.Native.Nat.{ℕ}
use native.Mathlib.Omega.{arith}
use Rattle.spec.specs.Expr.{ref}
use Rattle.rows.specs.Rows.{LeafAt}
use Rattle.rows.proofs.Keys.{RefAt, ref_read}
use Rattle.rows.proofs.table.key.Goals as goal
use Rattle.rows.proofs.table.key.Goals.{After-from-first}

-- the reference, when its first byte is read
reads : (c : After-from-first) (m n : ℕ) → LeafAt c.args.s.now c.args.table.now c.args.row (ref m n) → RefAt c.args.s.now c.start-from.result c.end-to.result m n
reads c m n l = rw (c.start-from.ensures, c.end-to.ensures) (ref_read _ _ _ m n l)

-- the one that is asked for
asked : (c : After-from-first) → RefAt c.args.s.now c.start-from.result c.end-to.result c.requires.0 c.requires.1
asked c = let given = c.requires in reads c _ _ given.2

pub returns-then-first-ne127 : goal.returns-then-first-ne127
returns-then-first-ne127 c m n l =
    let r = reads (goal.at.returns-then-first-ne127 c).After-from-first m n l in
    omega (arith, r.name, r.short)

pub overflow_sub-full-2 : goal.overflow_sub-full-2
overflow_sub-full-2 c = omega (arith, (asked (goal.at.overflow_sub-full-2 c).After-from-first).long)

pub overflow_sub-to-2 : goal.overflow_sub-to-2
overflow_sub-to-2 c = omega (arith, (asked (goal.at.overflow_sub-to-2 c).After-from-first).long)

pub returns : goal.returns
returns c m n l =
    let r = reads (goal.at.returns c).After-from-first m n l in
    omega (arith, r.name, r.long)
