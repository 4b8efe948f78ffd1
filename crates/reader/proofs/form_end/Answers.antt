-- `reader::form_end` meets its contract: what a turn keeps, whatever token there is, is `Ending` (`proofs/Finding.antt`). Assumes nothing.
use Rattle.std.proofs.Common.{◌≡◌, Ok, Err, refl, sym, arith}
use Rattle.laws.proofs.Tokens.{right_tokens}
use Rattle.atoms.specs.declared.Token.{Token}
use Rattle.reader.proofs.Finding.{ending_inside, EndingTurn, ending_turn}
use Rattle.reader.proofs.form_end.Goals as goal
use Rattle.reader.proofs.form_end.Goals.{In-Ok}

pub loop-at-init : goal.loop-at-init
loop-at-init c =
    let right = c.requires.2 in
    record { inside = omega arith; shallow = omega arith; rows = right.1; passes = right_tokens _ _ _ _ _ right.2; same = refl }

-- what holds where the token is this one
at_token : (c : In-Ok) (t : Token) → c.in-Ok.token ≡ t → EndingTurn c.args.s.now c.args.start c.loop-at.at c.loop-at.depth (Ok t)
at_token c t is = rw is at (ending_turn _ _ _ _ c.loop-at.invariant c.type_inv.s (Ok c.in-Ok.token) c.in-Ok.ensures)

pub returns-in_default : goal.returns-in_default
returns-in_default c = absurd (ending_turn _ _ _ _ c.loop-at.invariant c.type_inv.s (Err c.in_default.field-0) c.in_default.ensures)

pub loop-at-preserved-in-Opening : goal.loop-at-preserved-in-Opening
loop-at-preserved-in-Opening c = at_token (goal.at.loop-at-preserved-in-Opening c).In-Ok _ c.in-Opening.is

pub returns-then-depth-eq0 : goal.returns-then-depth-eq0
returns-then-depth-eq0 c = sym ((at_token (goal.at.returns-then-depth-eq0 c).In-Ok _ c.in-Closing.is).0 c.if-depth-eq0.true)

pub loop-at-preserved-in-Closing : goal.loop-at-preserved-in-Closing
loop-at-preserved-in-Closing c = (at_token (goal.at.loop-at-preserved-in-Closing c).In-Ok _ c.in-Closing.is).1 c.if-depth-eq0.false

pub loop-at-smaller : goal.loop-at-smaller
loop-at-smaller c = omega (arith, (at_token (goal.at.loop-at-smaller c).In-Ok _ c.in-Atom.is).0)

pub loop-at-preserved : goal.loop-at-preserved
loop-at-preserved c = (at_token (goal.at.loop-at-preserved c).In-Ok _ c.in-Atom.is).1

pub returns-in-Unfinished : goal.returns-in-Unfinished
returns-in-Unfinished c = absurd (at_token (goal.at.returns-in-Unfinished c).In-Ok _ c.in-Unfinished.is)

pub returns : goal.returns
returns c = absurd (omega (arith, ending_inside _ _ _ _ c.loop-at.invariant))
