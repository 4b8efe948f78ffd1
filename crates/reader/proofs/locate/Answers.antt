-- `reader::locate` meets its contract: what was found in a stream that the first pass told to be right. Assumes nothing.
use Rattle.std.proofs.Common.{◌≡◌, Result, Ok, Err, Some, length}
use Rattle.std.specs.Result.{result_ok}
use Rattle.atoms.specs.declared.refusal.Refusal.{Refusal}
use Rattle.reader.specs.declared.Counts.{Counts}
use Rattle.reader.proofs.Told.{ToldRight, check_told}
use Rattle.reader.proofs.locate.Goals as goal
use Rattle.reader.proofs.locate.Goals.{In_ok-ok}

-- what `ok` kept
was_ok : (r : Result Counts Refusal) (v : Counts) → Some v ≡ result_ok r → r ≡ Ok v
was_ok (Ok w) v is = cc
was_ok (Err e) v is = cc

-- what the first pass told
told_right : (c : In_ok-ok) → let s = c.args.s.now in let v = c.in_ok-ok.field-0 in ToldRight s (length s) v.rows v.length
told_right c =
    check_told c.args.s.now _ (Ok _) c.type_inv.s (rw (was_ok _ _ c.in_ok-ok.ensures.value) at c.check.ensures)

pub find-requires : goal.find-requires
find-requires c = (told_right c).can

pub returns : goal.returns
returns c = λ b. rw (told_right (goal.at.returns c).In_ok-ok).is (c.find.ensures b)
