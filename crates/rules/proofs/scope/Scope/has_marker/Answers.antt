-- `rules::scope::Scope::has_marker` meets its contract: the entries tell of the namespaces, in any order. Assumes nothing.
use borrow.Author.Tests.{tests}
use Rattle.std.proofs.Common.{rules, ◌∙◌, take, arith}
use Rattle.std.proofs.lemmas.Iterator.{YieldsList-from_slice}
use Rattle.std.proofs.lemmas.Iterator.Search.{any_from_yields_List}
use Rattle.rules.proofs.Linking.{marks, any_marked}
use Rattle.rules.proofs.scope.Scope.has_marker.Goals as goal

pub returns : goal.returns
returns c s ks l =
    let a = c.args in
    any_from_yields_List (marks a.marker) _ _ c.any.result c.any.ensures.ran (YieldsList-from_slice (take a.self.associated a.associations.now) cc) (λ x b q k. search (rules, tests))
    ∙ any_marked s a.marker a.associations.now a.self.associated ks (omega (arith, c.requires, c.told-associations)) l
