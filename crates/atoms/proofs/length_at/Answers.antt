-- `atoms::length_at` meets its contract: too many bytes 03; or the innermost length, and what stands around it.
-- Assumes nothing.
use Rattle.std.proofs.Common.{◌≡◌, ◌+◌, Ok, Err, Some, None, length, drop, sym, ap, ◌∙◌, arith}
use Rattle.std.proofs.lemmas.Result.{err_from_is_err_and}
use Rattle.spec.specs.Reading.{length_expr}
use Rattle.laws.proofs.Steps.{all_bytes}
use Rattle.atoms.specs.Tokens.{measured, plain}
use Rattle.atoms.specs.declared.Length.{Length}
use Rattle.atoms.proofs.Places.{Told, too_many_threes, BehindThrees, behind_threes, around_told, NoLength, ToldLength, told_plain, told_around}
use Rattle.atoms.proofs.length_at.Goals as goal
use Rattle.atoms.proofs.length_at.Goals.{Else-depth-eq8}

pub returns-then-depth-eq8 : goal.returns-then-depth-eq8
returns-then-depth-eq8 c =
    let a = c.args in
    rw c.new.ensures (sym (too_many_threes a.s.now a.at _ (omega arith) c.threes-depth.ensures c.if-depth-eq8.true))

-- what stands behind the bytes 03
behind : (c : Else-depth-eq8) → let a = c.args in BehindThrees a.s.now a.at c.threes-depth.result
behind c = let a = c.args in behind_threes a.s.now a.at _ (omega arith) c.threes-depth.ensures c.if-depth-eq8.false

pub overflow_add-at-2 : goal.overflow_add-at-2
overflow_add-at-2 c = omega (arith, (behind c).inside)

pub plain_length-requires : goal.plain_length-requires
plain_length-requires c = (behind c).inside

-- where there is no innermost length
no_inner : (c : Else-depth-eq8) (r : Told) → NoLength r → let a = c.args in
    r ≡ measured (length a.s.now) (plain (drop (a.at + c.threes-depth.result) a.s.now)) → r ≡ measured (length a.s.now) (length_expr 7 (drop a.at a.s.now))
no_inner c r none told =
    let s = c.args.s.now in sym (ap (measured (length s)) (behind c).is ∙ around_told (length s) _ _ r none (sym told))

pub returns-in_err-inner : goal.returns-in_err-inner
returns-in_err-inner c =
    let p = err_from_is_err_and c.from_residual.result c.from_residual.ensures.1 in
    rw (p.1, p.2) (no_inner (goal.at.returns-in_err-inner c).Else-depth-eq8 (Err _) tt c.in_err-inner.ensures)

pub returns-in_default : goal.returns-in_default
returns-in_default c =
    no_inner (goal.at.returns-in_default c).Else-depth-eq8 (Ok None) tt (rw c.in_default.is at c.in_ok-inner.ensures)

-- the innermost length
inner : (c : Else-depth-eq8) (l : Length) → let a = c.args in
    Ok (Some l) ≡ measured (length a.s.now) (plain (drop (a.at + c.threes-depth.result) a.s.now))
    → ToldLength a.s.now (plain (drop (a.at + c.threes-depth.result) a.s.now)) l.value l.end
inner c l told =
    let s = c.args.s.now in told_plain s _ l.value l.end (all_bytes s (λ i. (c.type_inv.s i).fits)) (behind c).inside (sym told)

pub returns : goal.returns
returns c =
    let now = (goal.at.returns c).Else-depth-eq8 in
    let t = inner now c.in-Some.inner (rw c.in-Some.is at c.in_ok-inner.ensures) in
    let s = c.args.s.now in
    c.nested_length.ensures ∙ told_around s _ _ _ _ (omega arith) t ∙ sym (ap (measured (length s)) (behind now).is)
