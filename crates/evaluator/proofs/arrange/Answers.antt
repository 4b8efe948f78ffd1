-- `evaluator::arrange` meets its contract: there is no bytecode, or it is transformed. Assumes nothing.
use Rattle.std.proofs.Common.{refl}
use Rattle.laws.proofs.Basics.{impossible}
use Rattle.laws.proofs.Steps.{all_bytes}
use Rattle.bytecode.proofs.Changing.{changed_none}
use Rattle.evaluator.proofs.Evaluations.{read_once, stream_readable, stream_transformed, behind_version, stream_unnamed}
use Rattle.evaluator.proofs.arrange.Goals as goal

pub is_present-requires : goal.is_present-requires
is_present-requires c = (_, behind_version _ _ _ (all_bytes _ (λ i. (c.type_inv.s i).fits)) c.requires.0 c.requires.1)

pub returns-then-not-is_present : goal.returns-then-not-is_present
returns-then-not-is_present c =
    let has = c.requires.0 in (
      record { changed = changed_none _ _ _; same = λ z. refl },
      λ t rs es reads.
          rw (read_once has t rs es reads).1
          (stream_unnamed _ _ _ (all_bytes _ (λ i. (c.type_inv.s i).fits)) has c.requires.1 (λ ns w. c.is_present.ensures.1 ns w c.if-not-is_present.true)),
    )

pub transform-requires : goal.transform-requires
transform-requires c = stream_readable _ _ _ (all_bytes _ (λ i. (c.type_inv.s i).fits)) c.requires.0

pub returns : goal.returns
returns c =
    let has = c.requires.0 in (
      record { changed = c.transform.ensures.0; same = λ z. impossible (cc) },
      λ t rs es reads. rw (read_once has t rs es reads).1 (stream_transformed _ _ _ (all_bytes _ (λ i. (c.type_inv.s i).fits)) has c.transform.ensures.1),
    )
