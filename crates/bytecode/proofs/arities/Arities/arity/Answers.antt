-- `bytecode::arities::Arities::arity` meets its contract. Assumes nothing.
use Rattle.std.proofs.Common.{◌≡◌, List, ℕ, Some, None, sym, ap, ◌∙◌}
use borrow.Author.Tests.{eqb-true, eqb-false}
use Rattle.spec.specs.Expr.{ref}
use Rattle.spec.specs.Nodes.{Node}
use Rattle.spec.specs.Bytecode.{Operator, if_operator}
use Rattle.laws.specs.Demands.{Bytes}
use Rattle.laws.proofs.Steps.{all_bytes}
use Rattle.rows.specs.Rows.{kind, LeafAt, WrittenAt, key_of}
use Rattle.rows.proofs.Nodes.{written_whole}
use Rattle.rows.proofs.Parts.{written_reference}
use Rattle.bytecode.specs.Named.{arity_by, arity_at, arity_of}
use Rattle.bytecode.proofs.Roles.{written_operand, reference_arity}
use Rattle.bytecode.proofs.Named.{arity_some, sought_some, sought_ok, sought_found, sought_taken, sought_none}
use Rattle.bytecode.proofs.arities.Arities.arity.Goals as goal

-- a reference's arity, by its key as the code reads it
by_key : {s t : List ℕ} {row k : ℕ} (os : List Operator) (e : Node) → Bytes s → WrittenAt s t row e → kind t row ≡ 4
    → ((m n : ℕ) → LeafAt s t row (ref m n) → k ≡ key_of m n) → arity_of os k ≡ if_operator os e (λ k. Some k) None
by_key {s} {t} {row} os e bytes w is read =
    let x = written_reference s t row e w is in
    rw x.is (reference_arity s t row os bytes x.here (read x.marker x.name x.here))

pub has_kind-requires : goal.has_kind-requires
has_kind-requires c = (written_whole _ _ _ _ c.requires.1.1).0

pub returns-then-not-has_kind : goal.returns-then-not-has_kind
returns-then-not-has_kind c os e l w = written_operand _ _ _ os e _ _ w (eqb-false _ 4 (sym c.if-not-has_kind.ensures))

pub key-requires : goal.key-requires
key-requires c =
    let x = written_reference _ _ _ _ c.requires.1.1 (eqb-true _ 4 (sym c.if-not-has_kind.ensures)) in
    (x.marker, x.name, x.here)

pub mark-requires : goal.mark-requires
mark-requires c =
    let found = sought_ok c.seek.ensures (sym c.ok.ensures.value ∙ c.in_ok-named.was) in
    (sought_taken found).reference.leaf_at.row.inside

pub returns-in_err-named : goal.returns-in_err-named
returns-in_err-named c os e l w =
    let none = sought_none l.tree c.seek.ensures (sym c.ok.ensures.value ∙ c.in_err-named.was) in
    c.from_residual.ensures ∙ ap (arity_at c.args.table.now) (sym none) ∙ sym (l.roles c.key.result)
    ∙ by_key os e (all_bytes c.args.s.now (λ i. (c.type_inv.s i).fits)) w (eqb-true _ 4 (sym c.if-not-has_kind.ensures)) c.key.ensures

pub returns : goal.returns
returns c os e l w =
    let row = c.in_ok-named.named in
    let t = c.args.table.now in
    let found = sought_ok c.seek.ensures (sym c.ok.ensures.value ∙ c.in_ok-named.was) in
    c.arity_by.ensures ∙ ap arity_by c.mark.ensures ∙ sym (arity_some t row (sought_some found)) ∙ ap (arity_at t) (sym (sought_found l.tree found)) ∙ sym (l.roles c.key.result)
    ∙ by_key os e (all_bytes c.args.s.now (λ i. (c.type_inv.s i).fits)) w (eqb-true _ 4 (sym c.if-not-has_kind.ensures)) c.key.ensures
