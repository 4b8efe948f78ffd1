-- `rules::namespaces::used` meets its contract. Assumes nothing.
use Rattle.std.proofs.Common.{sym, ◌∙◌, arith, take, get_or}
use Rattle.std.proofs.lemmas.List.{take_all}
use Rattle.std.proofs.lemmas.List.Folds.{list_any_more, list_any_at}
use Rattle.rules.proofs.Linking.{entry_inside, compared, any_identified}
use Rattle.rules.proofs.namespaces.used.Goals as goal

pub returns : goal.returns
returns c ks l =
    let a = c.args in
    let all = rw (take_all _ _ c.loop-entry-test.false) at c.loop-entry.invariant in
    sym all ∙ any_identified a.s.now _ a.associations.now a.scope.associated ks (omega (arith, c.requires.some_linked.few, c.told-associations)) l

pub slice_bounds-eq-end : goal.slice_bounds-eq-end
slice_bounds-eq-end c =
    let known = c.requires.some_linked in
    let inside = entry_inside c.args.s.now c.args.associations.now c.loop-entry.entry-index c.args.scope.associated _ known.linked c.loop-entry-test.true in
    omega (arith, c.place_in-place.ensures, c.size_in.ensures, inside)

pub returns-then-eq : goal.returns-then-eq
returns-then-eq c ks l =
    let a = c.args in
    let same = compared _ a.from a.to (get_or (take a.scope.associated a.associations.now) c.loop-entry.entry-index 0) c.place_in-place.ensures c.size_in.ensures c.if-eq.ensures in
    sym (list_any_at _ _ _ _ c.loop-entry-test.true same)
    ∙ any_identified c.args.s.now _ _ _ ks (omega (arith, c.requires.some_linked.few, c.told-associations)) l

pub loop-entry-preserved : goal.loop-entry-preserved
loop-entry-preserved c =
    let a = c.args in
    let other = compared _ a.from a.to (get_or (take a.scope.associated a.associations.now) c.loop-entry.entry-index 0) c.place_in-place.ensures c.size_in.ensures c.if-eq.ensures in
    rw (list_any_more _ _ _ 0 c.loop-entry-test.true, c.loop-entry.invariant, other)
