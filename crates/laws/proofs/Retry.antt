-- Two calls with one stream and with tables of equal length: with all else no smaller the second time, and with buffers that differ only in what
-- they held before. Demand 3. Assumes nothing.
use Prim.Native.Nat.{ℕ, ◌/◌, ◌≤◌}
use mathlib.Core.Path.{◌≡◌, refl, sym, ap, ◌∙◌}
use mathlib.Core.List.{List}
use lib.ListN.{length}
use native.Mathlib.Omega.{arith}
use Rattle.spec.specs.Expr.{Exprs, canonical}
use Rattle.spec.specs.Reading.{Row, row_width, read}
use Rattle.spec.specs.Runs.{End, done, stopped, steps_in}
use Rattle.spec.specs.Evaluation.{run, result}
use Rattle.spec.specs.Calls.{Answer, refusal, filled, put_out, reading, end_answer}
use Rattle.laws.specs.Demands.{Lent, evaluation, Final, Alike}
use Rattle.laws.proofs.Runs.{SameEnd, same_end, no_steps, no_work}
use Rattle.laws.proofs.Calls.{Put, too_short, fits, put_out_is, put_out_bytes, bounded, Way, unread, unversioned, wrong_version, runs, way, answered, evaluation_answered}

pub refusals_alike : {w p : ℕ} {t t' o o' : List ℕ} → Alike (refusal w p t o) (refusal w p t' o')
refusals_alike = record { number = refl; place = refl; given = refl; steps = refl; bytes = λ z. refl }

-- ends that are alike, put out with an output no smaller; if there was no room, with one of the same length
module _ (t t' o o' : List ℕ) (room : length o ≤ length o') where
  put_alike : (bs : List ℕ) (k : ℕ) {a b : Answer} → Put bs k t o a → Put bs k t' o' b → (a.number ≡ 18 → length o ≡ length o') → Alike a b
  put_alike bs k (too_short l) (too_short l') f = refusals_alike
  put_alike bs k (too_short l) (fits l') f = absurd (omega (arith, f refl))
  put_alike bs k (fits l) (too_short l') f = absurd (omega arith)
  put_alike bs k (fits l) (fits l') f =
      record { number = refl; place = refl; given = refl; steps = refl; bytes = λ z. put_out_bytes bs k t o ∙ sym (put_out_bytes bs k t' o') }

  pub put_out_alike : (bs : List ℕ) (k : ℕ) → ((put_out bs k t o).number ≡ 18 → length o ≡ length o') → Alike (put_out bs k t o) (put_out bs k t' o')
  put_out_alike bs k f = put_alike bs k (put_out_is bs k t o) (put_out_is bs k t' o') f

  pub end_alike : (rs : List Row) (k : ℕ) (e : End (List Exprs)) → ((end_answer rs k t o e).number ≡ 18 → length o ≡ length o')
      → Alike (end_answer rs k t o e) (end_answer rs k t' o' e)
  end_alike rs k (done ls) f = put_out_alike (canonical (result ls)) k f
  end_alike rs k (stopped w r) f = refusals_alike

  pub same_end_alike : (rs : List Row) (k : ℕ) (e e' : End (List Exprs)) → SameEnd e e' → Final (end_answer rs k t o e)
      → Alike (end_answer rs k t o e) (end_answer rs k t' o' e')
  same_end_alike rs k e e' (same_end h) f = rw (← h) (end_alike rs k e (λ z. absurd (f.output_fits z)))
  same_end_alike rs k e e' (no_steps r h) f = absurd (f.steps_suffice (rw h))
  same_end_alike rs k e e' (no_work r h) f = absurd (f.work_fits (rw h))

-- with tables of equal length the same is read
pub reads_same : (s t t' : List ℕ) → length t ≡ length t' → reading s t' ≡ reading s t
reads_same s t t' h = ap (λ (k : ℕ). read s (k / row_width)) (sym h)

-- what is answered when the run of what was read has come to its end
abbrev pub run_end : List Row → Exprs → Lent → Answer
run_end rs es l = end_answer rs (steps_in (run es).events) (filled rs l.table) l.output (bounded l es)

-- with tables of equal length, two evaluations are alike if their runs end alike
pub evaluations_alike : (s : List ℕ) (l m : Lent) → length l.table ≡ length m.table
    → ((rs : List Row) (es : Exprs) → evaluation s l ≡ run_end rs es l → Alike (run_end rs es l) (run_end rs es m)) → Alike (evaluation s l) (evaluation s m)
evaluations_alike s l m h f = rw (evaluation_answered s l (way s l.table)) (go (way s l.table))
  where
    again : reading s m.table ≡ reading s l.table
    again = reads_same s l.table m.table h

    go : (y : Way s l.table) → Alike (answered y l) (evaluation s m)
    go (unread v p e) = rw (evaluation_answered s m (unread v p (again ∙ e))) refusals_alike
    go (unversioned rs es e x) = rw (evaluation_answered s m (unversioned rs es (again ∙ e) x)) refusals_alike
    go (wrong_version rs es e x y) = rw (evaluation_answered s m (wrong_version rs es (again ∙ e) x y)) refusals_alike
    go (runs rs es e x y) = rw (evaluation_answered s m (runs rs es (again ∙ e) x y)) (f rs es (evaluation_answered s l (runs rs es e x y)))
