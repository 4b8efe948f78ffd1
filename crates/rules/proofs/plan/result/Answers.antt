-- `rules::plan::result` meets its contract. Assumes nothing.
use Rattle.spec.specs.Plan.{plan_form}
use Rattle.rows.proofs.Parts.{nodes_head, head_inside}
use Rattle.rows.proofs.Outcomes.{result_inside, result_form, result_leaf}
use Rattle.rules.proofs.Naming.{some_defined}
use Rattle.rules.proofs.Heading.{list_named, result_told, result_answers}
use Rattle.rules.proofs.plan.result.Goals as goal

pub result-requires : goal.result-requires
result-requires c = let flat = c.requires.flat_value in (flat.0, result_inside _ _ _ _ flat.1.1 flat.1.2)

pub leaf-requires : goal.leaf-requires
leaf-requires c =
    let flat = c.requires.flat_value in
    let l = result_leaf (result_told c.args.flat c.in-Leaf.ensures flat.0 flat.1.2) in
    (some_defined _ _ c.requires.by_index.3, (l.0, l.2))

pub returns-in-Leaf : goal.returns-in-Leaf
returns-in-Leaf c associations args place e at =
    let l = result_leaf (result_told c.args.flat c.in-Leaf.ensures c.requires.flat_value.0 at) in
    rw l.1 (c.leaf.ensures _ _ place l.0 l.2)

pub is_named-requires : goal.is_named-requires
is_named-requires c =
    let flat = c.requires.flat_value in
    let f = result_form (result_told c.args.flat c.in-Branch.ensures flat.0 flat.1.2) in
    head_inside _ _ _ f.nodes (nodes_head _ _ c.in-Branch.form f.nodes f.at)

pub named-requires-clause-some_nodes : goal.named-requires-clause-some_nodes
named-requires-clause-some_nodes c =
    let flat = c.requires.flat_value in
    let f = result_form (result_told c.args.flat c.in-Branch.ensures flat.0 flat.1.2) in
    (record { nodes = f.nodes; at = f.at }, list_named _ _ _ c.if-is_named.ensures)

pub returns-then-is_named : goal.returns-then-is_named
unfolding plan_form
returns-then-is_named c associations args place e at =
    result_answers (result_form (result_told c.args.flat c.in-Branch.ensures c.requires.flat_value.0 at)) (λ es nodes. c.named.ensures _ _ _ _ es nodes)

pub unnamed-requires : goal.unnamed-requires
unnamed-requires c =
    let flat = c.requires.flat_value in
    let f = result_form (result_told c.args.flat c.in-Branch.ensures flat.0 flat.1.2) in
    (record { nodes = f.nodes; at = f.at }, list_named _ _ _ c.if-is_named.ensures)

pub returns-else-is_named : goal.returns-else-is_named
unfolding plan_form
returns-else-is_named c associations args place e at =
    result_answers (result_form (result_told c.args.flat c.in-Branch.ensures c.requires.flat_value.0 at)) (λ es nodes. c.unnamed.ensures _ _ _ _ _ es nodes)
