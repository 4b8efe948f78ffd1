-- `bytecode::arities::name_all` meets its contract. Assumes nothing.
use Rattle.std.proofs.Common.{refl, sym, arith}
use borrow.Author.Tests.{eqb-true, eqb-false}
use Rattle.rows.proofs.Nodes.{written_whole}
use Rattle.bytecode.proofs.Changing.{changed_wider, changed_then}
use Rattle.bytecode.proofs.Naming.{series_folds, left_first, left_none, first_written, first_named, first_ill, first_refused, ill_named, one_reference, series_other}
use Rattle.bytecode.proofs.arities.name_all.Goals as goal

pub overflow_cast-arity : goal.overflow_cast-arity
overflow_cast-arity c = let number = c.requires.0 in omega (arith, c.small-arity.ensures number.0 number.1, number.1.spells.0)

pub has_kind-requires : goal.has_kind-requires
has_kind-requires c =
    let f = left_first (series_folds _) (c.loop-row.invariant.1 _ _ c.requires.1.2) c.loop-row-test.true in
    (written_whole _ _ _ _ (first_written f)).0

pub returns-then-not-has_kind : goal.returns-then-not-has_kind
returns-then-not-has_kind c = (
  c.loop-row.invariant.0,
  λ n es os l h.
      let f = left_first (series_folds _) (c.loop-row.invariant.1 es os h) c.loop-row-test.true in
      rw (← c.small-arity.ensures n l)
      (ill_named _ _ _ _ (first_ill f (series_other _ _ _ _ _ _ _ (first_written f) (eqb-false _ 4 (sym c.if-not-has_kind.ensures))))),
)

pub name-requires : goal.name-requires
name-requires c =
    let number = c.requires.0 in
    let f = left_first (series_folds _) (c.loop-row.invariant.1 _ _ c.requires.1.2) c.loop-row-test.true in
    ((f.node, f.operators, f.naming), eqb-true _ 4 (sym c.if-not-has_kind.ensures), omega (arith, c.small-arity.ensures number.0 number.1, number.1.spells.0))

pub returns-then-not-name : goal.returns-then-not-name
returns-then-not-name c =
    let inside = (left_first (series_folds _) (c.loop-row.invariant.1 _ _ c.requires.1.2) c.loop-row-test.true).inside in (
      changed_then c.loop-row.invariant.0 (changed_wider c.name.ensures.0 _ _ (omega arith) inside),
      λ n es os l h.
          let f = left_first (series_folds _) (c.loop-row.invariant.1 es os h) c.loop-row-test.true in
          rw (← c.small-arity.ensures n l) (ill_named _ _ _ _ (first_refused f _ _ (c.name.ensures.1 f.node f.operators f.naming) c.if-not-name.true)),
    )

pub loop-row-preserved : goal.loop-row-preserved
loop-row-preserved c =
    let inside = (left_first (series_folds _) (c.loop-row.invariant.1 _ _ c.requires.1.2) c.loop-row-test.true).inside in (
      changed_then c.loop-row.invariant.0 (changed_wider c.name.ensures.0 _ _ (omega arith) inside),
      λ es os h.
          let f = left_first (series_folds _) (c.loop-row.invariant.1 es os h) c.loop-row-test.true in
          first_named f _ c.name.ensures.0 (c.name.ensures.1 f.node f.operators f.naming) c.if-not-name.false
          (sym (one_reference f.naming (eqb-true _ 4 (sym c.if-not-has_kind.ensures))).here.on),
    )

pub returns : goal.returns
returns c = (
  c.loop-row.invariant.0,
  λ n es os l h. rw (← c.small-arity.ensures n l) (left_none (series_folds _) (c.loop-row.invariant.1 es os h) c.loop-row-test.false refl),
)
