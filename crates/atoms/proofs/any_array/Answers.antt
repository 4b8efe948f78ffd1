-- `atoms::any_array` meets its contract: the array of as many bytes as were told.
-- Assumes nothing.
use Rattle.std.proofs.Common.{suc, sym, arith}
use Rattle.atoms.proofs.Places.{told_length, told_bytes}
use Rattle.laws.proofs.Steps.{all_bytes}
use Rattle.std.proofs.Common.{add-one}
use Rattle.atoms.proofs.any_array.Goals as goal

pub returns : goal.returns
returns c =
    let a = c.args in
    let l = c.in-Some.length in
    let stream = all_bytes a.s.now (λ i. (c.type_inv.s i).fits) in
    let t = told_length a.s.now (suc a.at) l.value l.end stream (omega arith) (rw (← add-one a.at) (sym (rw c.in-Some.is at c.in_ok-length.ensures))) in
    rw (told_bytes a.s.now _ _ _ (omega arith) t) at (c.bytes_at.ensures a.at)
