-- `atoms::threes` meets its contract: the bytes that the chain counts.
-- Assumes nothing.
use Rattle.std.proofs.Common.{◌-◌, length, take, drop, ◌∙◌, rules, tests, ap}
use Rattle.std.proofs.lemmas.Iterator.{YieldsList-from_slice, YieldsList-from_take}
use Rattle.std.proofs.lemmas.Iterator.Consumers.{count_from_yields_List}
use Rattle.std.proofs.lemmas.Iterator.Search.{YieldsList-from_take_while}
use Rattle.std.proofs.lemmas.List.Folds.{length-prefix_len}
use Rattle.std.proofs.lemmas.List.{take_rest}
use Rattle.atoms.proofs.Places.{is_three, threes_counted}
use Rattle.atoms.specs.Tokens.{leading_threes}
use Rattle.atoms.proofs.threes.Goals as goal

pub returns : goal.returns
returns c =
    let a = c.args in
    let l = take (length a.s.now - a.at) (drop a.at a.s.now) in
    let here = ap (λ t. t.iter.rest.now) c.take_while.ensures.source ∙ ap (λ i. i.rest.now) c.take.ensures.source ∙ c.iter.ensures.rest in
    let eight = ap (λ t. t.n) c.take_while.ensures.source ∙ c.take.ensures.count in
    count_from_yields_List c.take_while.result _ c.count.ensures.ran
    (YieldsList-from_take_while _ is_three (YieldsList-from_take 8 (YieldsList-from_slice l here) eight) c.take_while.ensures.closure c.take_while.ensures.done (λ x b q k. search (rules, tests)))
    ∙ length-prefix_len is_three (take 8 l)
    ∙ threes_counted 8 l
    ∙ ap (leading_threes 8) (take_rest a.s.now a.at)
