-- `bytecode::flat::unflatten` meets its contract. Assumes nothing.
use Rattle.std.proofs.Common.{refl}
use Rattle.spec.proofs.Made.{result}
use Rattle.rows.proofs.Parts.{written_inside}
use Rattle.bytecode.proofs.Changing.{written_all_kept}
use Rattle.bytecode.proofs.Results.{none_short, flat_result}
use Rattle.bytecode.proofs.flat.unflatten.Goals as goal

pub result-requires : goal.result-requires
result-requires c =
    let w = written_all_kept _ c.gather.ensures.0 c.requires.1.1 _ _ c.requires.1.2.written in
    (c.requires.0, written_inside _ _ c.args.flat c.requires.1.1 w)

pub judge-requires : goal.judge-requires
judge-requires c =
    let g = c.in_ok-gather.ensures in
    let os = c.requires.1.0 in
    let es = c.requires.1.1 in
    let all = g.2 os es c.requires.1.2 in
    (result 0 os es, rw c.result.ensures (flat_result c.args.flat c.requires.0 c.requires.1.2 g.0 g.1 (none_short os es all.0) (all.1 refl) 0))

pub returns : goal.returns
returns c =
    let g = c.in_ok-gather.ensures in (
      g.0,
      g.1,
      λ place os es f.
          let all = g.2 os es f in
          let enough = none_short os es all.0 in
          let piece = flat_result c.args.flat c.requires.0 f g.0 g.1 enough (all.1 refl) place in
          (rw enough (c.judge.ensures (result place os es) (rw c.result.ensures piece)), λ z. all.1 refl),
    )
