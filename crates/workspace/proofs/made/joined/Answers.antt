-- `workspace::made::joined` meets its contract: refused unless both values are arrays, else their join.
-- Assumes nothing.
use Rattle.std.proofs.Common.{◌≡◌, ℕ, Result, Err, Option, None, IfErr, IsErrAnd, refl, sym, ◌∙◌, arith}
use Rattle.std.specs.Option.{ok_or}
use Rattle.std.proofs.lemmas.Result.{err_from_is_err_and}
use Rattle.atoms.specs.Refusals.{refused}
use Rattle.atoms.specs.declared.refusal.Reason.TheVariants.{WrongElements}
use Rattle.atoms.specs.declared.refusal.Refusal.{Refusal}
use Rattle.workspace.specs.Completed.{joined, no_arrays}
use Rattle.std.specs.declared.ops.Range.{Range}
use Rattle.workspace.specs.declared.values.State.{State}
use Rattle.workspace.proofs.Making.{operands_end, first_operand, second_operand}
use Rattle.workspace.proofs.made.joined.Goals as goal

-- the refusal where no array was found
no_array : (r : Result State Refusal) (o : Option (Range ℕ)) (e f : Refusal) (row : ℕ) → IsErrAnd r (λ x. x ≡ e) → Err e ≡ ok_or o f → o ≡ None → f ≡ refused WrongElements row
    → r ≡ Err (refused WrongElements row)
no_array r o e f row on is none why =
    let p = err_from_is_err_and r on in
    let same : e ≡ refused WrongElements row = go (Err e) is in
    p.1 ∙ rw (p.2, same) refl
  where
    go : (x : Result (Range ℕ) Refusal) → x ≡ ok_or o f → IfErr x (λ y. y ≡ refused WrongElements row)
    go x is = rw (is, none, why) refl

pub returns-in_err-a : goal.returns-in_err-a
returns-in_err-a c a b there fits =
    let t = c.in_err-a.ensures in
    rw (no_array _ _ _ _ c.args.row c.from_residual.ensures.1 t.value t.ok_part c.new-no_array.ensures)
    (no_arrays (λ bs cs is is'. first_operand there fits (sym t.ok_part ∙ c.array_at.ensures) bs is))

pub returns-in_err-b : goal.returns-in_err-b
returns-in_err-b c a b there fits =
    let one = first_operand there fits (sym c.in_ok-a.ensures.ok_part ∙ c.array_at.ensures) in
    let t = c.in_err-b.ensures in
    rw (no_array _ _ _ _ c.args.row c.from_residual-in_err-b.ensures.1 t.value t.ok_part c.new-no_array.ensures)
    (no_arrays (λ bs cs is is'. second_operand there fits one.end (sym t.ok_part ∙ c.array_at-2.ensures) cs is'))

pub join_at-requires-clause-in_order : goal.join_at-requires-clause-in_order
join_at-requires-clause-in_order c =
    let v = c.requires.stand in
    let one = first_operand v.2 v.3 (sym c.in_ok-a.ensures.ok_part ∙ c.array_at.ensures) in
    let two = second_operand v.2 v.3 one.end (sym c.in_ok-b.ensures.ok_part ∙ c.array_at-2.ensures) in
    (one.order, omega (arith, one.end, operands_end v.2 v.3), two.order, omega (arith, two.end))

pub returns : goal.returns
returns c a b there fits =
    let one = first_operand there fits (sym c.in_ok-a.ensures.ok_part ∙ c.array_at.ensures) in
    let two = second_operand there fits one.end (sym c.in_ok-b.ensures.ok_part ∙ c.array_at-2.ensures) in
    joined one.own two.own one.is two.is (rw (one.part, two.part) at c.join_at.ensures)
