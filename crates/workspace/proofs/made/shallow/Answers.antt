-- `workspace::made::shallow` meets its contract: each token keeps `Nesting`, and few bytes left decide. Assumes nothing.
use Rattle.std.proofs.Common.{◌≡◌, Ok, Err, arith}
use Rattle.laws.proofs.Steps.{all_bytes}
use Rattle.atoms.specs.declared.Token.{Token}
use Rattle.workspace.proofs.Depths.{nesting_start, nesting_end, NestingTurn, nesting_turn}
use Rattle.workspace.proofs.made.shallow.Goals as goal
use Rattle.workspace.proofs.made.shallow.Goals.{In-Ok}

pub loop-at-init : goal.loop-at-init
loop-at-init c = nesting_start c.args.values.now (all_bytes c.args.values.now (λ i. (c.type_inv.values i).fits)) c.requires.values_value

-- what holds where the token is this one
at_token : (c : In-Ok) (t : Token) → c.in-Ok.token ≡ t → NestingTurn c.args.values.now c.loop-at.at c.loop-at.depth (Ok t)
at_token c t is = rw is at (nesting_turn _ _ _ c.loop-at.invariant c.loop-at-test.true (Ok c.in-Ok.token) c.in-Ok.ensures)

pub returns-in_default : goal.returns-in_default
returns-in_default c = absurd (nesting_turn _ _ _ c.loop-at.invariant c.loop-at-test.true (Err c.in_default.field-0) c.in_default.ensures)

pub returns-then-depth-ge63 : goal.returns-then-depth-ge63
returns-then-depth-ge63 c = (at_token (goal.at.returns-then-depth-ge63 c).In-Ok _ c.in-Opening.is).0 (omega arith)

pub loop-at-preserved-in-Opening : goal.loop-at-preserved-in-Opening
loop-at-preserved-in-Opening c = (at_token (goal.at.loop-at-preserved-in-Opening c).In-Ok _ c.in-Opening.is).1 (omega arith)

pub overflow_sub-depth : goal.overflow_sub-depth
overflow_sub-depth c = (at_token (goal.at.overflow_sub-depth c).In-Ok _ c.in-Closing.is).0

pub loop-at-preserved-in-Closing : goal.loop-at-preserved-in-Closing
loop-at-preserved-in-Closing c = (at_token (goal.at.loop-at-preserved-in-Closing c).In-Ok _ c.in-Closing.is).1

pub loop-at-smaller : goal.loop-at-smaller
loop-at-smaller c =
    let ahead = (at_token (goal.at.loop-at-smaller c).In-Ok _ c.in-Atom.is).0 in
    omega (arith, c.loop-at-test.true, c.loop-at.invariant.few)

pub loop-at-preserved : goal.loop-at-preserved
loop-at-preserved c = (at_token (goal.at.loop-at-preserved c).In-Ok _ c.in-Atom.is).1

pub returns-in-Unfinished : goal.returns-in-Unfinished
returns-in-Unfinished c = absurd (at_token (goal.at.returns-in-Unfinished c).In-Ok _ c.in-Unfinished.is)

pub returns : goal.returns
returns c = nesting_end _ _ _ c.loop-at.invariant c.loop-at-test.false
