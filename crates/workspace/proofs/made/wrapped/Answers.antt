-- `workspace::made::wrapped` meets its contract: refused if too deep or if there is no room, else moved and closed in by 01 and 02.
-- Assumes nothing.
use Rattle.std.proofs.Common.{◌+◌, ◌-◌, sym, ◌∙◌, arith}
use borrow.Author.Tests.{leb-true, leb-false}
use Rattle.spec.specs.Expr.{form, Exprs, only, deepest}
use Rattle.laws.proofs.Fits.{FitsAll}
use Rattle.workspace.specs.Completed.{Stand}
use Rattle.workspace.proofs.Areas.{stand_size, stand_part, moved_within}
use Rattle.workspace.proofs.Completing.{Sized, completed, refused_on, form_deep, form_sized, form_written}
use Rattle.workspace.proofs.made.wrapped.Goals as goal
use Rattle.workspace.proofs.made.wrapped.Goals.{Else-not-shallow}

pub returns-then-not-shallow : goal.returns-then-not-shallow
returns-then-not-shallow c vs there fits =
    rw c.new.ensures (form_deep vs (leb-false (deepest vs) 63 (sym (c.shallow.ensures vs (stand_part there) fits) ∙ c.if-not-shallow.true)))

-- no deeper than they may be
sized : (c : Else-not-shallow) → let a = c.args in (vs : Exprs) → Stand a.w.now a.from a.state.top vs → FitsAll vs → Sized (only (form vs)) (a.state.top - a.from + 2)
sized c vs there fits =
    form_sized vs _ (omega (arith, stand_size there)) (leb-true (deepest vs) 63 (sym (c.shallow.ensures vs (stand_part there) fits) ∙ c.if-not-shallow.false))

pub returns-in_err-left : goal.returns-in_err-left
returns-in_err-left c vs there fits =
    refused_on (sized (goal.at.returns-in_err-left c).Else-not-shallow vs there fits) _ _ _ _ c.from_residual.result c.from_residual.ensures.1 c.in_err-left.ensures

pub returns : goal.returns
returns c vs there fits =
    let p = c.requires.fitting in
    let put = rw there.bytes at (moved_within c.args.w.now c.args.from c.args.state.top _ (omega arith) c.copy_within.ensures.after) in
    completed (sized (goal.at.returns c).Else-not-shallow vs there fits) _ _ _ _ p.0 (omega (arith, there.order)) c.in_ok-left.ensures
    (λ paid. form_written vs _ (omega (arith, stand_size there)) _ c.args.start (omega arith) put)
