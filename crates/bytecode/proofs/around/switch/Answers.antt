-- `bytecode::around::switch` meets its contract. Assumes nothing.
use Rattle.std.proofs.Common.{◌≡◌, ◌<◌, sym, ◌∙◌, arith}
use borrow.Author.Tests.{eqb-true, eqb-false}
use Rattle.rows.specs.Rows.{next}
use Rattle.bytecode.proofs.Switches.{switching_begins, switching_skip, switching_on, switching_aside, switching_tree, switching_reference, entry_ends, leave_ends}
use Rattle.bytecode.proofs.around.switch.Goals as goal
use Rattle.bytecode.proofs.around.switch.Goals.{then-has_kind, else-has_kind}

pub loop-row-init : goal.loop-row-init
loop-row-init c = switching_begins c.requires

pub switch_one-requires : goal.switch_one-requires
switch_one-requires c =
    let e = c.loop-row.invariant in
    let within : c.loop-row.row < next c.args.table.now c.args.list = omega (arith, c.loop-row-test.true, c.next-end.ensures) in
    (switching_tree e c.requires, switching_reference e c.requires within (eqb-true _ 4 (sym c.if-has_kind.ensures)))

pub loop-row-preserved : goal.loop-row-preserved
loop-row-preserved c =
    let e = c.loop-row.invariant in
    let within : c.loop-row.row < next c.args.table.now c.args.list = omega (arith, c.loop-row-test.true, c.next-end.ensures) in
    elim c.if-has_kind.branch [
      | then-has_kind w ↦ rw w.table-is (switching_on e within w.switch_one.ensures)
      | else-has_kind w ↦
          (let same = ((switching_aside e c.requires).same_rows c.loop-row.row).same_kind in
          rw w.table-is (switching_skip e within (λ k. eqb-false _ 4 (sym w.if-has_kind.ensures) (same ∙ k))))
    ]

pub returns : goal.returns
returns c =
    let e = c.loop-row.invariant in
    let ends : c.loop-row.row ≡ next c.args.table.now c.args.list = omega (arith, e.within, c.loop-row-test.false, c.next-end.ensures) in
    (switching_aside e c.requires, (λ os around g. entry_ends g (e.enters os around g) ends), λ to os around g. leave_ends g (e.leaves to os around g) ends)
