-- `bytecode::flat::skip` meets its contract. Assumes nothing.
use Rattle.std.proofs.Common.{ℕ, suc, ◌+◌, ◌-◌, arith}
use Rattle.rows.proofs.Nodes.{written_whole}
use Rattle.bytecode.proofs.Links.{passed_all, passed_few, passed_more, passed_next}
use Rattle.bytecode.proofs.flat.skip.Goals as goal

pub returns-then-end-row : goal.returns-then-end-row
returns-then-end-row c s es h =
    let left : ℕ = c.args.n - (c.loop.counter + 1) in
    passed_few (c.loop.invariant (suc left) (omega arith) s es h) c.if-end-row.true

pub next-row-requires : goal.next-row-requires
next-row-requires c =
    let left : ℕ = c.args.n - (c.loop.counter + 1) in
    let m = passed_more (c.loop.invariant (suc left) (omega arith) _ _ c.requires.2) c.if-end-row.false in
    (written_whole _ _ _ m.head m.node).0

pub loop-preserved : goal.loop-preserved
loop-preserved c left n s es h = rw c.next-row.ensures (passed_next (c.loop.invariant (suc left) (omega arith) s es h) c.if-end-row.false)

pub returns : goal.returns
returns c s es h = passed_all (c.loop.invariant 0 (omega arith) s es h)
