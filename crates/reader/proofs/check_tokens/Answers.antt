-- `reader::check_tokens` meets its contract: what a turn refuses or keeps, whatever token there is, is `CheckTurn` (`proofs/Checking.antt`).
-- Assumes nothing.
use Rattle.std.proofs.Common.{◌≡◌, Ok, Err, arith}
use Rattle.std.proofs.lemmas.Result.{err_from_is_err_and}
use Rattle.atoms.specs.declared.Token.{Token}
use Rattle.reader.proofs.Checking.{CheckTurn, check_turn, end_right, end_wrong}
use Rattle.reader.proofs.check_tokens.Goals as goal
use Rattle.reader.proofs.check_tokens.Goals.{In_ok-token_at}

-- what is known of the turn where the token is this one
at_token : (c : In_ok-token_at) (t : Token) → c.in_ok-token_at.field-0 ≡ t
    → let l = c.loop-at in CheckTurn c.args.s.now c.args.room l.at l.from l.depth l.rows l.saved (Ok t)
at_token c t is =
    rw is at (check_turn _ _ _ _ _ _ _ c.requires c.loop-at.invariant c.loop-at-test.true c.type_inv.s (Ok c.in_ok-token_at.field-0) c.in_ok-token_at.ensures)

pub returns-in_err-token_at : goal.returns-in_err-token_at
returns-in_err-token_at c =
    let p = err_from_is_err_and c.from_residual.result c.from_residual.ensures.1 in
    rw (p.1, p.2) (check_turn _ _ _ _ _ _ _ c.requires c.loop-at.invariant c.loop-at-test.true c.type_inv.s (Err _) c.in_err-token_at.ensures)

pub returns-then-depth-ge-FORM_LIMIT : goal.returns-then-depth-ge-FORM_LIMIT
returns-then-depth-ge-FORM_LIMIT c =
    rw c.new.ensures ((at_token (goal.at.returns-then-depth-ge-FORM_LIMIT c).In_ok-token_at _ c.in-Opening.is).0 (omega arith))

pub returns-in_err-rows-in-Opening : goal.returns-in_err-rows-in-Opening
returns-in_err-rows-in-Opening c =
    let p = err_from_is_err_and c.from_residual-in_err-rows-in-Opening.result c.from_residual-in_err-rows-in-Opening.ensures.1 in
    let full = c.in_err-rows-in-Opening.ensures in
    rw (p.1, p.2, full.1, full.2) ((at_token (goal.at.returns-in_err-rows-in-Opening c).In_ok-token_at _ c.in-Opening.is).1 (omega arith) full.0)

pub loop-at-preserved-in-Opening : goal.loop-at-preserved-in-Opening
loop-at-preserved-in-Opening c =
    let more = c.in_ok-rows-in-Opening.ensures in
    rw (c.began-from.ensures, more.1) ((at_token (goal.at.loop-at-preserved-in-Opening c).In_ok-token_at _ c.in-Opening.is).2 (omega arith) more.0)

pub returns-then-depth-eq0 : goal.returns-then-depth-eq0
returns-then-depth-eq0 c =
    rw c.new-then-depth-eq0.ensures ((at_token (goal.at.returns-then-depth-eq0 c).In_ok-token_at _ c.in-Closing.is).0 c.if-depth-eq0.true)

pub loop-at-preserved-in-Closing : goal.loop-at-preserved-in-Closing
loop-at-preserved-in-Closing c = (at_token (goal.at.loop-at-preserved-in-Closing c).In_ok-token_at _ c.in-Closing.is).1 c.if-depth-eq0.false

pub returns-in_err-rows-in-Atom : goal.returns-in_err-rows-in-Atom
returns-in_err-rows-in-Atom c =
    let p = err_from_is_err_and c.from_residual-in_err-rows-in-Atom.result c.from_residual-in_err-rows-in-Atom.ensures.1 in
    let full = c.in_err-rows-in-Atom.ensures in
    rw (p.1, p.2, full.1, full.2) ((at_token (goal.at.returns-in_err-rows-in-Atom c).In_ok-token_at _ c.in-Atom.is).4 full.0)

pub spared-saved-requires : goal.spared-saved-requires
spared-saved-requires c = let w = at_token (goal.at.spared-saved-requires c).In_ok-token_at _ c.in-Atom.is in (w.0, w.1)

pub loop-at-smaller : goal.loop-at-smaller
loop-at-smaller c = let w = at_token (goal.at.loop-at-smaller c).In_ok-token_at _ c.in-Atom.is in omega (arith, w.2, w.3)

pub loop-at-preserved : goal.loop-at-preserved
loop-at-preserved c =
    let more = c.in_ok-rows-in-Atom.ensures in
    rw more.1 ((at_token (goal.at.loop-at-preserved c).In_ok-token_at _ c.in-Atom.is).5 _ c.spared-saved.ensures more.0)

pub returns-in-Unfinished : goal.returns-in-Unfinished
returns-in-Unfinished c =
    rw (c.new-in-Unfinished.ensures, c.began.ensures) (at_token (goal.at.returns-in-Unfinished c).In_ok-token_at _ c.in-Unfinished.is)

pub returns-then-depth-gt0 : goal.returns-then-depth-gt0
returns-then-depth-gt0 c =
    rw c.new-then-depth-gt0.ensures (end_wrong _ _ _ _ _ _ _ c.requires c.loop-at.invariant c.loop-at-test.false c.if-depth-gt0.true)

pub returns : goal.returns
returns c = end_right _ _ _ _ _ _ _ c.requires c.loop-at.invariant c.loop-at-test.false (omega arith)
