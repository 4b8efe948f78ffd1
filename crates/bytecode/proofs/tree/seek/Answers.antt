-- `bytecode::tree::seek` meets its contract. Assumes nothing.
use Rattle.std.proofs.Common.{sym, ◌∙◌, arith}
use Rattle.bytecode.specs.Named.{begin, taken, vacant}
use Rattle.bytecode.proofs.Named.{key_read, way_row, way_onward}
use Rattle.bytecode.proofs.tree.seek.Goals as goal

pub loop-at-init : goal.loop-at-init
loop-at-init c = begin

pub returns-then-row-eq0 : goal.returns-then-row-eq0
returns-then-row-eq0 c = vacant c.loop-at.invariant (sym c.child-row.ensures ∙ c.if-row-eq0.true)

pub key-requires : goal.key-requires
key-requires c =
    let x = (way_row c.requires.2 c.loop-at.invariant (sym c.child-row.ensures) c.if-row-eq0.false).2 in
    (x.marker, x.name, x.leaf_at)

pub returns-then-key : goal.returns-then-key
returns-then-key c =
    let is = sym c.child-row.ensures in
    let x = (way_row c.requires.2 c.loop-at.invariant is c.if-row-eq0.false).2 in
    taken c.loop-at.invariant is (omega (arith, c.if-row-eq0.false)) (rw c.if-key.true at (key_read x c.key.ensures))

pub loop-at-smaller : goal.loop-at-smaller
loop-at-smaller c =
    let next = way_row c.requires.2 c.loop-at.invariant (sym c.child-row.ensures) c.if-row-eq0.false in
    omega (arith, next.0, next.2.leaf_at.row.inside)

pub loop-at-preserved : goal.loop-at-preserved
loop-at-preserved c =
    let is = sym c.child-row.ensures in
    let x = (way_row c.requires.2 c.loop-at.invariant is c.if-row-eq0.false).2 in
    way_onward c.loop-at.invariant is c.if-row-eq0.false (key_read x c.key.ensures) c.if-key.false
