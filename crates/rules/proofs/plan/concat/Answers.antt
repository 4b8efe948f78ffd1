-- `rules::plan::concat` meets its contract. Assumes nothing.
use Rattle.rows.specs.declared.words.Word.TheVariants.{Rest}
use Rattle.rows.proofs.Parts.{two_at}
use Rattle.rules.specs.Planned.{refuses}
use Rattle.rules.proofs.Expecting.{no_two, headed}
use Rattle.rules.proofs.Joining.{first_refused, second_refused, concat_planned}
use Rattle.rules.proofs.plan.concat.Goals as goal
use Rattle.rules.proofs.plan.concat.Goals.{then-eq-via-then-eq, then-eq-via-else-eq+then-eq-2}

pub returns-in_default : goal.returns-in_default
returns-in_default c args v here r q es at w st h set = rw (no_two es _ (c.operands.ensures _ es at) c.in_default.not-Two) (refuses _)

pub word_at-requires : goal.word_at-requires
word_at-requires c = let pre = c.requires.1 in (_, (two_at _ _ _ _ pre.0 _ _ pre.1 (c.in-Two.ensures _ pre.0 pre.1)).one)

pub word_at-requires-else-eq : goal.word_at-requires-else-eq
word_at-requires-else-eq c = let pre = c.requires.1 in (_, (two_at _ _ _ _ pre.0 _ _ pre.1 (c.in-Two.ensures _ pre.0 pre.1)).two)

pub returns-then-eq : goal.returns-then-eq
returns-then-eq c args v here r q es at w st h set =
    let g = two_at _ _ _ _ es _ _ at (c.in-Two.ensures _ es at) in
    elim c.then-eq.branch [
      | then-eq-via-then-eq w ↦ rw (first_refused g (headed _ Rest g.first w.if-eq.ensures (c.word_at.ensures g.first g.one))) (refuses _)
      | then-eq-via-else-eq+then-eq-2 w ↦
          rw (second_refused g (headed _ Rest g.second w.if-eq-2.ensures (w.word_at-else-eq.ensures g.second g.two))) (refuses _)
    ]

pub returns : goal.returns
returns c args v here r q es at w st h set =
    let g = two_at _ _ _ _ es _ _ at (c.in-Two.ensures _ es at) in
    rw (c.make.ensures, c.starting_at.ensures)
    (concat_planned c.args.form c.requires.0 g (headed _ Rest g.first c.if-eq.ensures (c.word_at.ensures g.first g.one))
    (headed _ Rest g.second c.if-eq-2.ensures (c.word_at-else-eq.ensures g.second g.two)))
