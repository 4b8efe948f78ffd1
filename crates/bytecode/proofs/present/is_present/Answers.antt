-- `bytecode::present::is_present` meets its contract. Assumes nothing.
use Rattle.std.proofs.Common.{sym, ◌∙◌, arith}
use Rattle.rows.proofs.Written.{written_each}
use Rattle.bytecode.proofs.Stars.{all_unnamed}
use Rattle.bytecode.proofs.present.is_present.Goals as goal

pub is_star-requires : goal.is_star-requires
is_star-requires c = let e = written_each _ _ _ _ _ c.requires.1 c.loop-row.row c.loop-row.auto.row c.loop-row-test.true in (e.0, e.1)

pub returns-then-is_star : goal.returns-then-is_star
returns-then-is_star c =
    let e = written_each _ _ _ _ _ c.requires.1 c.loop-row.row c.loop-row.auto.row c.loop-row-test.true in (
      (λ _. record {
        row = c.loop-row.row;
        from = c.loop-row.auto.row;
        before = c.loop-row-test.true;
        node = e.0;
        written = e.1;
        is = sym (c.is_star.ensures e.0 e.1) ∙ c.if-is_star.true;
      }),
      λ es h z. absurd (cc),
    )

pub returns : goal.returns
returns c =
    ((λ z. absurd (cc)), λ es h z. all_unnamed _ _ _ _ es h (λ q e i g. c.loop-row.invariant q e i (omega (arith, c.loop-row-test.false))))
