-- `bytecode::heights::measure` meets its contract. Assumes nothing.
use Rattle.std.proofs.Common.{sym, arith}
use borrow.Author.Tests.{eqb-true, eqb-false}
use Rattle.bytecode.proofs.Depths.{measured_within, marked_none, marked_inside, form_at, form_low, marked_other, marked_form}
use Rattle.bytecode.proofs.heights.measure.Goals as goal

pub loop-row-init : goal.loop-row-init
loop-row-init c = marked_none _ _

pub has_kind-requires : goal.has_kind-requires
has_kind-requires c = marked_inside c.requires c.loop-row.invariant c.loop-row-test.true

pub next-requires : goal.next-requires
next-requires c = marked_inside c.requires c.loop-row.invariant c.loop-row-test.true

pub highest-inside-requires : goal.highest-inside-requires
highest-inside-requires c =
    let f = form_at c.requires c.loop-row.invariant c.loop-row-test.true (eqb-true _ 1 (sym c.if-has_kind.ensures)) in
    (c.requires.stream, f.elements, rw c.next.ensures f.written)

pub put_mark-requires : goal.put_mark-requires
put_mark-requires c =
    let k = c.loop-row.invariant in
    let low = form_low c.requires k c.loop-row-test.true (eqb-true _ 1 (sym c.if-has_kind.ensures)) c.highest-inside.result (rw (← c.next.ensures) c.highest-inside.ensures.1) in
    (marked_inside c.requires k c.loop-row-test.true, omega (arith, low))

pub loop-row-preserved-then-has_kind : goal.loop-row-preserved-then-has_kind
loop-row-preserved-then-has_kind c =
    let put = c.put_mark.ensures in
    let is = eqb-true _ 1 (sym c.if-has_kind.ensures) in
    marked_form c.loop-row.invariant (omega (arith, c.loop-row-test.true)) c.highest-inside.result is
    (form_at c.requires c.loop-row.invariant c.loop-row-test.true is).within (rw (← c.next.ensures) c.highest-inside.ensures.1) put.0 put.1 (put.2, put.3)

pub loop-row-preserved : goal.loop-row-preserved
loop-row-preserved c = marked_other c.loop-row.invariant (omega (arith, c.loop-row-test.true)) (eqb-false _ 1 (sym c.if-has_kind.ensures))

pub returns : goal.returns
returns c =
    let k = c.loop-row.invariant in
    (k.changed, k.links, k.others, λ s. measured_within (k.measured s) (omega (arith, c.loop-row-test.false)) (omega arith))
