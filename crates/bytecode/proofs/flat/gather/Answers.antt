-- `bytecode::flat::gather` meets its contract. Assumes nothing.
use Rattle.std.proofs.Common.{◌≡◌, refl, arith}
use Rattle.std.proofs.lemmas.Result.{err_from_is_err_and}
use Rattle.atoms.specs.declared.refusal.Reason.TheVariants.{WrongBytecode}
use Rattle.bytecode.proofs.Gathering.{passing, held_more, held_inside, held_few, held_operand, held_short, held_operator, held_forward, gathering_done}
use Rattle.bytecode.proofs.flat.gather.Goals as goal

pub next-next-requires : goal.next-next-requires
next-next-requires c = held_inside c.loop-row.invariant c.loop-row-test.true

pub arity-requires : goal.arity-requires
arity-requires c = let h = c.loop-row.invariant in ((_, h.flat.tells _ h.changed), (_, (held_more h c.loop-row-test.true).node))

pub loop-row-smaller-in-None : goal.loop-row-smaller-in-None
loop-row-smaller-in-None c =
    let m = held_more c.loop-row.invariant c.loop-row-test.true in
    omega (arith, m.forward, m.inside, c.next-next.ensures)

pub loop-row-preserved-in-None : goal.loop-row-preserved-in-None
loop-row-preserved-in-None c = rw c.next-next.ensures (held_operand c.loop-row.invariant c.loop-row-test.true c.in-None.ensures)

pub skip-requires : goal.skip-requires
skip-requires c = let m = held_more c.loop-row.invariant c.loop-row-test.true in (c.args.s.now, m.rest, rw c.next-next.ensures m.nodes)

pub returns-in_err-behind-in-Some : goal.returns-in_err-behind-in-Some
returns-in_err-behind-in-Some c =
    let h = c.loop-row.invariant in
    let lacking = c.in_err-behind-in-Some.ensures in
    let x = passing c.in-Some.ensures c.next-next.ensures c.skip.ensures lacking.ok_part in
    let p = err_from_is_err_and c.from_residual.result c.from_residual.ensures.1 in
    let reason : c.in_err-behind-in-Some.field-0.0 ≡ WrongBytecode = cc (rw lacking.ok_part at lacking.value) in
    (h.changed, h.marks, λ os es f. rw (p.1, p.2, reason, held_short h c.loop-row-test.true x os es f) (refl, λ z. absurd (omega (arith, z))))

pub put_link-requires : goal.put_link-requires
put_link-requires c =
    let h = c.loop-row.invariant in
    let x = passing c.in-Some.ensures c.next-next.ensures c.skip.ensures c.in_ok-behind-in-Some.ensures.ok_part in
    (held_inside h c.loop-row-test.true, omega (arith, held_few h c.loop-row-test.true, held_forward h c.loop-row-test.true x))

pub loop-row-smaller : goal.loop-row-smaller
loop-row-smaller c =
    let x = passing c.in-Some.ensures c.next-next.ensures c.skip.ensures c.in_ok-behind-in-Some.ensures.ok_part in
    omega (arith, held_forward c.loop-row.invariant c.loop-row-test.true x)

pub loop-row-preserved : goal.loop-row-preserved
loop-row-preserved c =
    let put = c.put_link.ensures in
    let x = passing c.in-Some.ensures c.next-next.ensures c.skip.ensures c.in_ok-behind-in-Some.ensures.ok_part in
    held_operator c.loop-row.invariant c.loop-row-test.true x put.0 put.1 (put.2, put.3)

pub returns : goal.returns
returns c =
    let h = c.loop-row.invariant in
    (h.changed, h.marks, λ os es f. let d = gathering_done (h.each os es f) c.loop-row-test.false in (rw d.0, λ z. d.1))
