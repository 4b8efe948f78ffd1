-- `evaluator::evaluate` meets its contract: no version, another version, or the run in the first bytes of the workspace. Assumes nothing.
use Rattle.std.proofs.Common.{refl, ap, arith}
use mathlib.Core.Bool.{not}
use Rattle.laws.proofs.Steps.{all_bytes}
use Rattle.rows.proofs.Filled.{filled_whole}
use Rattle.evaluator.proofs.Evaluations.{stream_plain, stream_room, read_once, answer_version, answer_done, answer_stopped}
use Rattle.evaluator.proofs.evaluate.Goals as goal

pub returns-then-not-has_version : goal.returns-then-not-has_version
returns-then-not-has_version c = (
  refl,
  λ t out rs es reads fills.
      rw c.new.ensures
      (answer_version _ t c.args.work.now out _ rs es reads (ap not (rw c.has_version.ensures at c.if-not-has_version.true)) _ (c.wrong_version.ensures t rs es reads)),
)

pub restore-requires : goal.restore-requires
restore-requires c =
    omega (arith, c.arrange-arranged.ensures.0.changed.same_length, stream_room _ _ _ (all_bytes _ (λ i. (c.type_inv.s i).fits)) c.requires)

-- the row of the refusal is one of the stream's
pub start-requires : goal.start-requires
start-requires c =
    let has = c.requires in
    let restored = c.restore.ensures _ c.arrange-arranged.ensures.0 (stream_plain _ _ _ (all_bytes _ (λ i. (c.type_inv.s i).fits)) has) in
    let stops = c.in-Err.ensures has.means (c.arrange-arranged.ensures.1 has.before has.rows has.means has.is) in
    rw (restored, has.filled_in) (filled_whole has.rows has.before _ (omega (arith, stops.0, has.counted)))

pub returns-in-Err : goal.returns-in-Err
returns-in-Err c =
    let has = c.requires in
    let b = all_bytes _ (λ i. (c.type_inv.s i).fits) in
    let restored = c.restore.ensures _ c.arrange-arranged.ensures.0 (stream_plain _ _ _ b has) in (
      restored,
      λ t out rs es reads fills.
          answer_stopped _ t _ out _ rs es reads b (ap not (rw c.has_version.ensures at c.if-not-has_version.false)) _ c.min-size.ensures _
          (rw (read_once has t rs es reads).0 has.counted) c.in-Err.refusal _ (c.in-Err.ensures es (c.arrange-arranged.ensures.1 t rs es reads))
          (rw (restored, fills) at c.start.ensures),
    )

pub returns-in-Ok : goal.returns-in-Ok
returns-in-Ok c =
    let b = all_bytes _ (λ i. (c.type_inv.s i).fits) in (
      c.restore.ensures _ c.arrange-arranged.ensures.0 (stream_plain _ _ _ b c.requires),
      λ t out rs es reads fills.
          answer_done _ t _ out _ rs es reads b (ap not (rw c.has_version.ensures at c.if-not-has_version.false)) _ c.min-size.ensures _ _
          (c.in-Ok.ensures es (c.arrange-arranged.ensures.1 t rs es reads)),
    )
