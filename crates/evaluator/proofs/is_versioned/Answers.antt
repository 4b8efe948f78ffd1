-- `evaluator::is_versioned` meets its contract: no row, an atom, or the head of the first form. Assumes nothing.
use Rattle.std.proofs.Common.{ℕ, ap, ◌∙◌, arith}
use lib.Dec.{eqb}
use Rattle.spec.specs.Nodes.{core, version}
use Rattle.laws.proofs.Steps.{all_bytes}
use Rattle.rows.specs.Rows.{key_of}
use Rattle.rows.proofs.Nodes.{node_whole}
use Rattle.rows.proofs.Parts.{element_is, element_head, head_core}
use Rattle.evaluator.proofs.Evaluations.{versioned_none, versioned_leaf, read_once, stream_nodes, stream_first}
use Rattle.evaluator.proofs.is_versioned.Goals as goal

pub returns-then-rows-eq0 : goal.returns-then-rows-eq0
returns-then-rows-eq0 c t rs es reads =
    rw (read_once c.requires t rs es reads).1
    (versioned_none _ _ _ _ (stream_nodes _ _ _ (all_bytes _ (λ i. (c.type_inv.s i).fits)) c.requires) c.if-rows-eq0.true)

pub element-requires : goal.element-requires
element-requires c = node_whole _ _ _ _ _ (stream_first _ _ _ (all_bytes _ (λ i. (c.type_inv.s i).fits)) c.requires (omega arith)).1

pub head_key-requires : goal.head_key-requires
head_key-requires c =
    let f = stream_first _ _ _ (all_bytes _ (λ i. (c.type_inv.s i).fits)) c.requires (omega arith) in
    record { nodes = _; at = element_head (rw (← c.in-Branch.ensures) at (element_is _ _ _ _ _ f.1)) }

pub returns-in-Leaf : goal.returns-in-Leaf
returns-in-Leaf c t rs es reads =
    let f = stream_first _ _ _ (all_bytes _ (λ i. (c.type_inv.s i).fits)) c.requires (omega arith) in
    rw (read_once c.requires t rs es reads).1 (versioned_leaf (rw (← c.in-Leaf.ensures) at (element_is _ _ _ _ _ f.1)) ∙ f.2)

pub returns-in-Branch : goal.returns-in-Branch
returns-in-Branch c t rs es reads =
    let b = all_bytes _ (λ i. (c.type_inv.s i).fits) in
    let f = stream_first _ _ _ b c.requires (omega arith) in
    let h = element_head (rw (← c.in-Branch.ensures) at (element_is _ _ _ _ _ f.1)) in
    rw (read_once c.requires t rs es reads).1 (ap (λ (k : ℕ). eqb k (key_of core version)) (c.head_key.ensures _ h) ∙ head_core _ _ _ b version (omega arith) _ h ∙ f.2)
