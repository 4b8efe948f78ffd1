-- `bytecode::heights::is_deep` meets its contract. Assumes nothing.
use Rattle.std.proofs.Common.{arith}
use Rattle.bytecode.proofs.Pieces.{element_plain, form_piece, left_pieces, left_done, left_more, left_node, left_next, left_deep}
use Rattle.bytecode.proofs.heights.is_deep.Goals as goal

pub loop-row-init : goal.loop-row-init
loop-row-init c s e h = left_pieces h

pub element-requires : goal.element-requires
element-requires c = let m = left_more (c.loop-row.invariant _ _ (form_piece c.requires.2)) c.loop-row-test.true in (m.inside, m.few)

pub height_of-requires : goal.height_of-requires
height_of-requires c =
    let l = c.loop-row.invariant _ _ (form_piece c.requires.2) in
    rw c.element.ensures (element_plain c.args.table.now c.args.form.flat c.loop-row.row, (_, _, left_node l c.loop-row-test.true))

pub returns-then-height_of-gt63 : goal.returns-then-height_of-gt63
returns-then-height_of-gt63 c s e h =
    let l = c.loop-row.invariant s e (form_piece h) in
    let is = c.height_of.ensures s (left_more l c.loop-row-test.true).head (rw c.element.ensures (left_node l c.loop-row-test.true)) in
    left_deep l c.loop-row-test.true (omega (arith, c.if-height_of-gt63.true, is))

pub behind-row-requires : goal.behind-row-requires
behind-row-requires c = (left_more (c.loop-row.invariant _ _ (form_piece c.requires.2)) c.loop-row-test.true).inside

pub loop-row-smaller : goal.loop-row-smaller
loop-row-smaller c =
    let m = left_more (c.loop-row.invariant _ _ (form_piece c.requires.2)) c.loop-row-test.true in
    omega (arith, c.behind-row.ensures, m.forward, m.within)

pub loop-row-preserved : goal.loop-row-preserved
loop-row-preserved c s e h =
    let l = c.loop-row.invariant s e h in
    let is = c.height_of.ensures s (left_more l c.loop-row-test.true).head (rw c.element.ensures (left_node l c.loop-row-test.true)) in
    rw c.behind-row.ensures (left_next l c.loop-row-test.true (omega (arith, c.if-height_of-gt63.false, is)))

pub returns : goal.returns
returns c s e h = left_done (c.loop-row.invariant s e (form_piece h)) c.loop-row-test.false
