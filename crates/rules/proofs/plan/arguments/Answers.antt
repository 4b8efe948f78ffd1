-- `rules::plan::arguments` meets its contract. Assumes nothing.
use Rattle.rules.proofs.Passing.{passed_none, passed_rest, passed_one, passed_end, passed_past}
use Rattle.rules.proofs.plan.arguments.Goals as goal

pub returns-then-frame-eq0 : goal.returns-then-frame-eq0
returns-then-frame-eq0 c s t w floor top at v sc e xs a = passed_none c.args.rest a c.then-frame-eq0.either

pub returns-then-rest : goal.returns-then-rest
returns-then-rest c s t w floor top at v sc e xs a = rw c.packed_from-from.ensures (passed_rest c.if-frame-eq0.false a c.if-rest.true c.requires c.if-n-frame.true)

pub returns-else-rest : goal.returns-else-rest
returns-else-rest c s t w floor top at v sc e xs a =
    rw (c.packed_from-from.ensures, c.packed_to-to.ensures) (passed_one c.if-frame-eq0.false a c.if-rest.false c.requires c.if-n-frame.true)

pub returns-then-rest-2 : goal.returns-then-rest-2
returns-then-rest-2 c s t w floor top at v sc e xs a = passed_end c.if-frame-eq0.false a c.if-rest-2.true c.if-frame-n.false c.if-n-frame.false

pub returns : goal.returns
returns c s t w floor top at v sc e xs a = passed_past c.if-frame-eq0.false a c.if-rest-2.false c.if-n-frame.false
