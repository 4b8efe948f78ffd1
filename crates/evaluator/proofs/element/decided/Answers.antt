-- `evaluator::element::decided` meets its contract: the task that is planned, or a flat list unfolded. Assumes nothing.
use Rattle.std.proofs.Common.{rules, ◌≡◌}
use Rattle.laws.proofs.Basics.{impossible}
use Rattle.rules.specs.declared.plan.Task.TheVariants.{Failed, Unfold}
use Rattle.evaluator.proofs.Unfolds.{bytecode_fails}
use Rattle.evaluator.proofs.Begins.{decided_as, failed_by, unfolded_by}
use Rattle.evaluator.proofs.element.decided.Goals as goal

pub unfolded-requires : goal.unfolded-requires
unfolded-requires c =
    let some = c.requires in
    let k = some.4 in
    let b = k.begins in
    let u = unfolded_by b.setting b.is (rw c.in-Ok-Unfold.field-0-is at (c.in-Ok-Unfold.ensures k.expression b.is)) in (
      _,
      record {
        args = _;
        bound = k.bound;
        work = some.0;
        state = some.1;
        node = _;
        elements = u.elements;
        rows = u.rows;
        result = u.result;
        here = k.here;
        is = some.2;
        some = some.3;
        unfolds = u.unfolded;
        begins = rw u.is at b;
      },
    )

pub returns-in-Err : goal.returns-in-Err
returns-in-Err c bound w st e h is some b = rw c.new.ensures (decided_as some b (c.in-Err.ensures e b.is) (λ m q. impossible (cc), λ g q. impossible (cc)))

pub failed-requires : goal.failed-requires
failed-requires c =
    let b = c.requires.4.begins in
    let f = failed_by b.setting b.is (rw c.in-Ok-Failed.field-0-is at (c.in-Ok-Failed.ensures c.requires.4.expression b.is)) in
    (rw f.is at b.fit).3

pub returns-in-Ok-Failed : goal.returns-in-Ok-Failed
returns-in-Ok-Failed c bound w st e h is some b =
    let f = failed_by b.setting b.is (rw c.in-Ok-Failed.field-0-is at (c.in-Ok-Failed.ensures e b.is)) in
    rw c.new-in-Ok-Failed.ensures (λ run. rw (f.is, c.failed.ensures) (bytecode_fails run h _ f.elements st.steps st.room some _))

pub returns-in-Ok-Unfold : goal.returns-in-Ok-Unfold
returns-in-Ok-Unfold c bound w st e h is some b =
    let u = unfolded_by b.setting b.is (rw c.in-Ok-Unfold.field-0-is at (c.in-Ok-Unfold.ensures e b.is)) in
    rw u.is (c.unfolded.ensures _ _ bound w st _ u.elements u.rows u.result h is some u.unfolded (rw u.is at b))

pub returns-in-Ok : goal.returns-in-Ok
returns-in-Ok c bound w st e h is some b = rw is (decided_as some b (c.in-Ok.ensures e b.is) (λ m q. let is : c.in-Ok.task ≡ Failed m = cc q in search rules, λ g q. let is : c.in-Ok.task ≡ Unfold g = cc q in search rules))
