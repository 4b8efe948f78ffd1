-- `reader::fill` meets its contract: what a turn keeps, whatever token there is, is `Filling` (`proofs/Filling.antt`). Assumes nothing.
use Rattle.std.proofs.Common.{◌≡◌, Ok, Err, length-set, lit≤, arith}
use Rattle.atoms.specs.declared.Token.{Token}
use Rattle.reader.proofs.Filling.{filling_start, filling_end, Turn, turn}
use Rattle.reader.proofs.fill.Goals as goal
use Rattle.reader.proofs.fill.Goals.{In-Ok}

pub loop-at-init : goal.loop-at-init
loop-at-init c = filling_start _ _ _ c.type_inv.s c.requires.0 (lit≤ tt) c.requires.1

-- what is known of the turn where the token is this one
at_token : (c : In-Ok) (t : Token) → c.in-Ok.token ≡ t
    → let l = c.loop-at in Turn c.args.s.now c.args.table.now l.table l.forms l.at l.depth l.rows (Ok t)
at_token c t is = rw is at (turn _ _ _ _ _ _ _ c.loop-at.invariant c.loop-at-test.true c.type_inv.s (Ok c.in-Ok.token) c.in-Ok.ensures)

pub returns-in_default : goal.returns-in_default
returns-in_default c =
    absurd (turn _ _ _ _ _ _ _ c.loop-at.invariant c.loop-at-test.true c.type_inv.s (Err c.in_default.field-0) c.in_default.ensures)

pub bounds-forms-depth : goal.bounds-forms-depth
bounds-forms-depth c = omega (arith, (at_token (goal.at.bounds-forms-depth c).In-Ok _ c.in-Opening.is).0)

pub start_row-requires : goal.start_row-requires
start_row-requires c = (at_token (goal.at.start_row-requires c).In-Ok _ c.in-Opening.is).1

pub loop-at-preserved-in-Opening : goal.loop-at-preserved-in-Opening
loop-at-preserved-in-Opening c = rw c.start_row.ensures (at_token (goal.at.loop-at-preserved-in-Opening c).In-Ok _ c.in-Opening.is).2

pub overflow_sub-depth : goal.overflow_sub-depth
overflow_sub-depth c = (at_token (goal.at.overflow_sub-depth c).In-Ok _ c.in-Closing.is).0

pub end_row-requires : goal.end_row-requires
end_row-requires c = (at_token (goal.at.end_row-requires c).In-Ok _ c.in-Closing.is).1

pub loop-at-preserved-in-Closing : goal.loop-at-preserved-in-Closing
loop-at-preserved-in-Closing c = rw c.end_row.ensures (at_token (goal.at.loop-at-preserved-in-Closing c).In-Ok _ c.in-Closing.is).2

pub start_row-requires-in-Atom : goal.start_row-requires-in-Atom
start_row-requires-in-Atom c = (at_token (goal.at.start_row-requires-in-Atom c).In-Ok _ c.in-Atom.is).2

pub overflow_cast-end : goal.overflow_cast-end
overflow_cast-end c = omega (arith, at_token (goal.at.overflow_cast-end c).In-Ok _ c.in-Atom.is)

pub end_row-requires-in-Atom : goal.end_row-requires-in-Atom
end_row-requires-in-Atom c =
    rw c.start_row-in-Atom.ensures (simp length-set (at_token (goal.at.end_row-requires-in-Atom c).In-Ok _ c.in-Atom.is).2)

pub loop-at-smaller : goal.loop-at-smaller
loop-at-smaller c = omega (arith, at_token (goal.at.loop-at-smaller c).In-Ok _ c.in-Atom.is)

pub loop-at-preserved : goal.loop-at-preserved
loop-at-preserved c =
    rw (c.end_row-in-Atom.ensures, c.start_row-in-Atom.ensures) (at_token (goal.at.loop-at-preserved c).In-Ok _ c.in-Atom.is).3

pub returns-in-Unfinished : goal.returns-in-Unfinished
returns-in-Unfinished c = absurd (at_token (goal.at.returns-in-Unfinished c).In-Ok _ c.in-Unfinished.is)

pub returns : goal.returns
returns c = filling_end _ _ _ _ _ _ _ c.loop-at.invariant c.loop-at-test.false
