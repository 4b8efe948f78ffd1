-- `reader::expression_end` meets its contract: a form's end is sought, an atom's was told, and no other token stands at the top level.
-- Assumes nothing.
use Rattle.std.proofs.Common.{◌≡◌, Ok, Err, inl, inr, sym, ◌∙◌, arith}
use Rattle.atoms.specs.declared.Token.{Token}
use Rattle.reader.proofs.Finding.{TopTurn, top_turn}
use Rattle.reader.proofs.expression_end.Goals as goal
use Rattle.reader.proofs.expression_end.Goals.{In-Ok}

-- what holds where the token is this one
at_token : (c : In-Ok) (t : Token) → c.in-Ok.token ≡ t → TopTurn c.args.s.now c.args.at (Ok t)
at_token c t is = rw is at (top_turn _ _ c.type_inv.s c.requires.1 c.requires.2 (Ok c.in-Ok.token) c.in-Ok.ensures)

pub returns-in_default : goal.returns-in_default
returns-in_default c = absurd (top_turn _ _ c.type_inv.s c.requires.1 c.requires.2 (Err c.in_default.field-0) c.in_default.ensures)

pub form_end-requires : goal.form_end-requires
form_end-requires c = (omega arith, omega arith, (at_token (goal.at.form_end-requires c).In-Ok _ c.in-Opening.is).0)

pub returns-in-Opening : goal.returns-in-Opening
returns-in-Opening c = c.form_end.ensures ∙ sym (at_token (goal.at.returns-in-Opening c).In-Ok _ c.in-Opening.is).1

pub returns-in-Atom : goal.returns-in-Atom
returns-in-Atom c = sym (at_token (goal.at.returns-in-Atom c).In-Ok _ c.in-Atom.is)

pub returns-in-Closing : goal.returns-in-Closing
returns-in-Closing c =
    let turn = at_token (goal.at.returns-in-Closing c).In-Ok in
    elim c.in-Closing.is [ inl is ↦ absurd (turn _ is) | inr is ↦ absurd (turn _ is) ]
