-- `writer::emit` meets its contract: a turn keeps what is written, whatever token there is. Assumes nothing.
use Rattle.std.proofs.Common.{◌≡◌, Ok, Err, arith}
use Rattle.laws.proofs.Steps.{all_bytes}
use Rattle.atoms.specs.declared.Token.{Token}
use Rattle.atoms.specs.declared.Token.TheVariants.{Opening, Closing, Unfinished}
use Rattle.writer.proofs.Emitted.{emitted_none, EmitTurn, emit_turn, emitted_all}
use Rattle.writer.proofs.emit.Goals as goal
use Rattle.writer.proofs.emit.Goals.{In-Ok, In-Opening, In-Closing, In-Atom}

pub loop-at-init : goal.loop-at-init
loop-at-init c = emitted_none _ _ (all_bytes _ (λ i. (c.type_inv.s i).fits)) c.requires.can_read c.requires.s_in_bounds

turn : (c : In-Ok) (t : Token) → c.in-Ok.token ≡ t → EmitTurn c.args.s.now c.args.out.now c.loop-at.out c.loop-at.at c.loop-at.to (Ok t)
turn c t is = emit_turn c.loop-at.invariant c.loop-at-test.true (Ok t) (rw is at c.in-Ok.ensures)

pub bounds-out-to : goal.bounds-out-to
bounds-out-to c = omega (arith, (turn (goal.at.bounds-out-to c).In-Ok Opening c.in-Opening.is).0)

pub loop-at-preserved-in-Opening : goal.loop-at-preserved-in-Opening
loop-at-preserved-in-Opening c = (turn (goal.at.loop-at-preserved-in-Opening c).In-Ok Opening c.in-Opening.is).1

pub bounds-out-to-in-Closing : goal.bounds-out-to-in-Closing
bounds-out-to-in-Closing c = omega (arith, (turn (goal.at.bounds-out-to-in-Closing c).In-Ok Closing c.in-Closing.is).0)

pub loop-at-preserved-in-Closing : goal.loop-at-preserved-in-Closing
loop-at-preserved-in-Closing c = (turn (goal.at.loop-at-preserved-in-Closing c).In-Ok Closing c.in-Closing.is).1

pub slice_bounds-put_atom-count : goal.slice_bounds-put_atom-count
slice_bounds-put_atom-count c = (turn (goal.at.slice_bounds-put_atom-count c).In-Ok _ c.in-Atom.is).ends

pub slice_bounds-put_atom-start : goal.slice_bounds-put_atom-start
slice_bounds-put_atom-start c = (turn (goal.at.slice_bounds-put_atom-start c).In-Ok _ c.in-Atom.is).ends

pub slice_bounds-put_atom-end : goal.slice_bounds-put_atom-end
slice_bounds-put_atom-end c = (turn (goal.at.slice_bounds-put_atom-end c).In-Ok _ c.in-Atom.is).inside

pub put_atom-to-requires-clause-body_len_bound : goal.put_atom-to-requires-clause-body_len_bound
put_atom-to-requires-clause-body_len_bound c = (turn (goal.at.put_atom-to-requires-clause-body_len_bound c).In-Ok _ c.in-Atom.is).few

pub put_atom-to-requires-clause-body_in_bounds : goal.put_atom-to-requires-clause-body_in_bounds
put_atom-to-requires-clause-body_in_bounds c = (turn (goal.at.put_atom-to-requires-clause-body_in_bounds c).In-Ok _ c.in-Atom.is).room

pub loop-at-smaller : goal.loop-at-smaller
loop-at-smaller c =
    let w = turn (goal.at.loop-at-smaller c).In-Ok _ c.in-Atom.is in omega (arith, w.forward, w.inside)

pub loop-at-preserved : goal.loop-at-preserved
loop-at-preserved c = (turn (goal.at.loop-at-preserved c).In-Ok _ c.in-Atom.is).on c.put_atom-to.ensures

pub returns-in-Unfinished : goal.returns-in-Unfinished
returns-in-Unfinished c = absurd (turn (goal.at.returns-in-Unfinished c).In-Ok Unfinished c.in-Unfinished.is)

pub returns-in_default : goal.returns-in_default
returns-in_default c = absurd (emit_turn c.loop-at.invariant c.loop-at-test.true (Err _) c.in_default.ensures)

pub returns : goal.returns
returns c = emitted_all c.loop-at.invariant c.loop-at-test.false
