-- `reader::find` meets its contract: each expression that is passed leaves one fewer to pass (`proofs/Finding.antt`). Assumes nothing.
use Rattle.std.proofs.Common.{◌≡◌, ◌+◌, ◌-◌, refl, arith}
use Rattle.reader.proofs.Finding.{Finding, finding_start, finding_right, finding_end, finding_turn}
use Rattle.reader.proofs.find.Goals as goal
use Rattle.reader.proofs.find.Goals.{In-loop, In_ok-part}

pub loop-init : goal.loop-init
loop-init c =
    let n : c.args.k + 1 - 0 - 1 ≡ c.args.k = omega arith in
    record { this = λ z. absurd (omega (arith, z)); later = λ z. rw n (finding_start _ _ c.type_inv.s c.requires) }

-- what is left behind the expression that was passed
behind : (c : In-loop) → let l = c.loop in Finding c.args.s.now c.args.k l.part.end (c.args.k - l.counter)
behind c =
    let l = c.loop in
    let n : c.args.k + 1 - l.counter - 1 ≡ c.args.k - l.counter = omega arith in
    rw n at (l.invariant.later (λ z. omega (arith, c.loop-test.true, z)))

pub expression_at-requires : goal.expression_at-requires
expression_at-requires c = finding_right _ _ _ _ (behind (goal.at.expression_at-requires c).In-loop)

pub returns-in_err-part : goal.returns-in_err-part
returns-in_err-part c = rw c.from_residual.ensures (finding_end _ _ _ _ (behind (goal.at.returns-in_err-part c).In-loop) c.in_err-part.ensures)

pub loop-preserved : goal.loop-preserved
loop-preserved c = finding_turn _ _ _ _ (behind (goal.at.loop-preserved c).In-loop) _ _ _ c.in_ok-part.ensures (omega arith)

pub returns-in_ok-part : goal.returns-in_ok-part
returns-in_ok-part c =
    (finding_turn _ _ _ _ (behind (goal.at.returns-in_ok-part c).In-loop) _ _ 0 c.in_ok-part.ensures (omega arith)).this refl
