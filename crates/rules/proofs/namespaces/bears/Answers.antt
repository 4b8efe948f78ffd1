-- `rules::namespaces::bears` meets its contract: only a reference's row is of kind 4, and its key has its marker. Assumes nothing.
use borrow.Author.Tests.{eqb-true, eqb-false}
use Rattle.std.proofs.Common.{sym, ◌∙◌, arith}
use Rattle.laws.proofs.Steps.{all_bytes}
use Rattle.rows.proofs.Nodes.{written_whole}
use Rattle.rows.proofs.Parts.{written_reference}
use Rattle.rules.proofs.Borne.{other_bears, reference_bears}
use Rattle.rules.proofs.namespaces.bears.Goals as goal

pub has_kind-requires : goal.has_kind-requires
has_kind-requires c = (written_whole _ _ _ _ c.requires.1).0

pub key-requires : goal.key-requires
key-requires c = let r = written_reference _ _ _ _ c.requires.1 (eqb-true _ _ (sym c.if-has_kind.ensures)) in (r.marker, r.name, r.here)

pub returns-then-has_kind : goal.returns-then-has_kind
returns-then-has_kind c =
    let is = eqb-true _ _ (sym c.if-has_kind.ensures) in
    (λ q a l. reference_bears _ _ q a (all_bytes c.args.s.now (λ i. (c.type_inv.s i).fits)) l is c.key.ensures, λ e. absurd (omega (arith, is, e)))

pub returns-else-has_kind : goal.returns-else-has_kind
returns-else-has_kind c =
    let none = eqb-false _ _ (sym c.if-has_kind.ensures) in
    (λ q a l. c.if-has_kind.false ∙ other_bears _ q a (λ h. none (l.row.kind_is ∙ h)), λ e. c.if-has_kind.false)
