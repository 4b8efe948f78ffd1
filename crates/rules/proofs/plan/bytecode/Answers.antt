-- `rules::plan::bytecode` meets its contract. Assumes nothing.
use Rattle.std.proofs.Common.{sym, ◌∙◌, arith}
use Rattle.rules.proofs.Heading.{marked_fails, marked_list, unfolds_listed, unfolds_headed}
use Rattle.rules.proofs.plan.bytecode.Goals as goal
use Rattle.rules.proofs.plan.bytecode.Goals.{then-mark-eq2, else-mark-eq2}

pub returns-then-mark-gt2 : goal.returns-then-mark-gt2
returns-then-mark-gt2 c s place o at =
    rw c.requires.0 (marked_fails s _ place c.args.form o at (omega (arith, c.requires.0, c.if-mark-gt2.true)))

pub next-first-requires : goal.next-first-requires
next-first-requires c = let pre = c.requires in marked_list _ _ _ _ pre.2.2 pre.2.3 (sym pre.0 ∙ c.if-mark-eq2.true)

pub returns : goal.returns
returns c s place o at =
    elim c.if-mark-eq2.branch [
      | then-mark-eq2 w ↦ rw (c.flat_from.ensures, w.first-is, w.next-first.ensures) (unfolds_listed s _ place c.args.form o at (sym c.requires.0 ∙ w.if-mark-eq2.true))
      | else-mark-eq2 w ↦ rw (c.flat_from.ensures, w.first-is)
          (unfolds_headed s _ place c.args.form o at (omega (arith, c.requires.0, c.if-mark-gt2.false)) (λ e. w.if-mark-eq2.false (c.requires.0 ∙ e)))
    ]
