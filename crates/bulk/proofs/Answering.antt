-- What Read, Write and Evaluate answer once the stream was read into the table, or refused. Document 01: "Read", "Write", "Evaluate", and
-- "18 last of all". Assumes nothing.
use Prim.Native.Nat.{ℕ, ◌/◌, ◌≤◌, ◌<◌}
use mathlib.Core.Path.{◌≡◌, sym, ap, ◌∙◌}
use mathlib.Core.List.{List, []}
use native.Mathlib.Omega.{arith}
use lib.ListN.{length, take, get_or}
use lib.Seq.{length-take-le}
use mir.Syntax.{w8}
use mir.Val.{Fits}
use borrow.Author.Tests.{lt-ltb, le-ltb}
use Rattle.std.specs.Prelude.{Ok, Err}
use Rattle.spec.specs.Expr.{canonical}
use Rattle.spec.specs.Reading.{row_width, tokens, rows_of, refused, read}
use Rattle.spec.specs.Calls.{Answer, refusal, over, filled, put_out, reading, Read, Write, Evaluate}
use Rattle.laws.specs.Demands.{meaning_of}
use Rattle.laws.proofs.Steps.{all_bytes}
use Rattle.laws.proofs.Theorems.{canonical_only}
use Rattle.atoms.specs.Refusals.{number, refused as refusal_of, told}
use Rattle.atoms.specs.declared.refusal.Reason.TheVariants.{ShortOutput}
use Rattle.atoms.specs.declared.refusal.Refusal.{Refusal}
use Rattle.atoms.proofs.Reasons.{number_positive}
use Rattle.reader.specs.Passes.{checked}
use Rattle.reader.specs.declared.Counts.{Counts}
use Rattle.reader.proofs.Told.{WasRead, check_told, was_read}
use Rattle.evaluator.specs.Evaluated.{HasRead}
use Rattle.evaluator.specs.declared.Evaluation.{Evaluation}
use Rattle.bulk.specs.Answers.{Answered, AnsweredEvaluation}

-- a stream that the first pass refused
module _ (s t : List ℕ) (r : Refusal) (bytes : (i : ℕ) → Fits w8 (get_or s i 0))
    (told_so : told {A = Counts} (Err r) ≡ checked (read s (length t / row_width))) where
  wrong : (reading s t ≡ refused (number r.reason) r.place) × (1 ≤ number r.reason)
  wrong = check_told s _ (Err r) bytes told_so

  pub read_refusal : Answered (Read s t) (Err r) t []
  unfolding Read
  read_refusal = record { is = rw wrong.0; numbered = wrong.1 }

  pub write_refusal : (out : List ℕ) → Answered (Write s t out) (Err r) t out
  unfolding Write
  write_refusal out = record { is = rw wrong.0; numbered = wrong.1 }

  pub evaluate_refusal : (work : ℕ) (out : List ℕ) (steps : ℕ) → AnsweredEvaluation (Evaluate s t work out steps) (Err r) t out
  unfolding Evaluate
  evaluate_refusal work out steps = record { is = rw wrong.0; numbered = wrong.1 }

-- a stream that the first pass told is readable, and the second filled in
pub read_right : (s t : List ℕ) → ((i : ℕ) → Fits w8 (get_or s i 0)) → {t' : List ℕ} {counts : Counts}
    → told (Ok counts) ≡ checked (read s (length t / row_width))
    → t' ≡ filled (rows_of (tokens 0 0 s)) t → WasRead s t t' counts.rows counts.length
read_right s t bytes {counts = counts} e is = was_read t (check_told s _ (Ok counts) bytes e) is

-- a stream that was read
module _ {s t t' : List ℕ} {rows size : ℕ} (r : WasRead s t t' rows size) where
  pub read_acceptance : Answered (Read s t) (Ok rows) t' []
  unfolding Read
  read_acceptance = record { is = rw (r.right.is, r.filled_in, r.right.counted); numbered = tt }

  pub write_short : (out : List ℕ) → length out < size → Answered (Write s t out) (Err (refusal_of ShortOutput 0)) t' out
  unfolding Write put_out
  write_short out l = record {
    is = rw (r.right.is, r.filled_in, lt-ltb (length out) (length (canonical (meaning_of s))) (omega (arith, r.right.sized)));
    numbered = omega arith;
  }

  pub write_acceptance : (out out' : List ℕ) → size ≤ length out → out' ≡ over (canonical (meaning_of s)) out
      → Answered (Write s t out) (Ok size) t' out'
  unfolding Write put_out
  write_acceptance out out' l k = record {
    is = rw (r.right.is, r.filled_in, k, le-ltb (length out) (length (canonical (meaning_of s))) (omega (arith, r.right.sized)), r.right.sized);
    numbered = tt;
  }

  -- a stream that is as long as its canonical stream is copied
  pub copied_whole : ((i : ℕ) → get_or s i 0 < 256) → size ≡ length s → (out : List ℕ) → over s out ≡ over (canonical (meaning_of s)) out
  copied_whole bytes whole out =
      ap (λ (x : List ℕ). over x out) (canonical_only s _ _ _ (all_bytes s bytes) r.right.is (omega (arith, r.right.sized)))

  -- the rows are still in the table
  pub kept_read : {t'' : List ℕ} → t'' ≡ t' → WasRead s t t'' rows size
  kept_read e = record { right = r.right; filled_in = e ∙ r.filled_in }

  pub has_read : HasRead s t' rows
  has_read = record { before = t; rows = rows_of (tokens 0 0 s); means = meaning_of s; is = r.right.is; filled_in = r.filled_in; counted = r.right.counted }

  -- what the evaluation of its rows told: the definition's answer a is a refusal, or some bytes put out
  module _ (a : Answer) (out : List ℕ) where
    pub rows_refusal : (x : Refusal) → a ≡ refusal (number x.reason) x.place (filled (rows_of (tokens 0 0 s)) t) out → AnsweredEvaluation a (Err x) t' out
    rows_refusal x h = record { is = rw r.filled_in (sym h); numbered = number_positive x.reason }

    module _ (w : List ℕ) (e : Evaluation) (h : (e.length ≤ length w) × (a ≡ put_out (take e.length w) e.steps (filled (rows_of (tokens 0 0 s)) t) out)) where
      long : length (take e.length w) ≡ e.length
      long = length-take-le e.length w h.0

      pub rows_short : length out < e.length → AnsweredEvaluation a (Err (refusal_of ShortOutput 0)) t' out
      unfolding put_out
      rows_short l = record { is = rw (h.1, r.filled_in, lt-ltb (length out) (length (take e.length w)) (omega (arith, long))); numbered = omega arith }

      pub rows_result : (out' : List ℕ) → e.length ≤ length out → out' ≡ over (take e.length w) out → AnsweredEvaluation a (Ok e) t' out'
      unfolding put_out
      rows_result out' l is = record {
        is = rw (h.1, r.filled_in, is, le-ltb (length out) (length (take e.length w)) (omega (arith, long)), long);
        numbered = tt;
      }
