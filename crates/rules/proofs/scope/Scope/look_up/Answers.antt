-- `rules::scope::Scope::look_up` meets its contract: what is left to search finds what the whole does. Assumes nothing.
use borrow.Author.Tests.{eq-eqb, ne_eqb}
use Rattle.std.proofs.Common.{rules, sym, ◌∙◌}
use Rattle.rules.specs.Scope.{find}
use Rattle.rules.proofs.Latest.{latest_length, searched, searched_all}
use Rattle.rules.proofs.scope.Scope.look_up.Goals as goal

pub returns-then-k-key : goal.returns-then-k-key
unfolding find
returns-then-k-key c =
    let all = rw (eq-eqb _ _ (sym c.key_in-k.ensures ∙ c.if-k-key.true)) at (searched _ c.loop-i.invariant c.loop-i-test.true) in
    rw (c.packed_from.ensures, c.packed_to.ensures, c.content_in-part.ensures) all

pub returns-then-k-key-2 : goal.returns-then-k-key-2
unfolding find
returns-then-k-key-2 c =
    let is = c.key_in-k.ensures in
    let all = rw (ne_eqb _ _ (λ q. c.if-k-key.false (is ∙ q)), eq-eqb _ _ (sym is ∙ c.if-k-key-2.true)) at (searched _ c.loop-i.invariant c.loop-i-test.true) in
    rw c.content_in.ensures (rw latest_length at all)

pub loop-i-preserved : goal.loop-i-preserved
unfolding find
loop-i-preserved c =
    let is = c.key_in-k.ensures in
    let all = searched _ c.loop-i.invariant c.loop-i-test.true in
    record { fewer = search rules; tells = rw (ne_eqb _ _ (λ q. c.if-k-key.false (is ∙ q)), ne_eqb _ _ (λ q. c.if-k-key-2.false (is ∙ q))) at all }

pub returns : goal.returns
unfolding find
returns c = searched_all c.loop-i.invariant c.loop-i-test.false
