-- `bytecode::heights::highest` meets its contract. Assumes nothing.
use Rattle.std.proofs.Common.{arith}
use Rattle.rows.proofs.Nodes.{written_whole}
use Rattle.bytecode.proofs.Depths.{height_small, left_next, left_none, left_more}
use Rattle.bytecode.proofs.heights.highest.Goals as goal

pub higher-height-requires : goal.higher-height-requires
higher-height-requires c = let m = left_more (c.loop-row.invariant.1 _ _ c.requires.2) c.loop-row-test.true in (written_whole _ _ _ m.head m.node).0

pub next-row-requires : goal.next-row-requires
next-row-requires c = let m = left_more (c.loop-row.invariant.1 _ _ c.requires.2) c.loop-row-test.true in (written_whole _ _ _ m.head m.node).0

pub loop-row-smaller : goal.loop-row-smaller
loop-row-smaller c =
    let m = left_more (c.loop-row.invariant.1 _ _ c.requires.2) c.loop-row-test.true in
    omega (arith, m.forward, m.inside, c.next-row.ensures)

pub loop-row-preserved : goal.loop-row-preserved
loop-row-preserved c = (
  omega (arith, c.higher-height.ensures, c.loop-row.invariant.0, height_small c.args.table.now c.loop-row.row),
  λ s es h. rw (c.next-row.ensures, c.higher-height.ensures) (left_next (c.loop-row.invariant.1 s es h) c.loop-row-test.true),
)

pub returns : goal.returns
returns c = (c.loop-row.invariant.0, λ s es h m. left_none (c.loop-row.invariant.1 s es h) c.loop-row-test.false m)
