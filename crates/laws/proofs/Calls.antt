-- Laws of the calls: how they answer, and what follows from an answer and from an acceptance. Document 01: "The calls". Assumes nothing.
use Prim.Native.Nat.{ℕ, ◌*◌, ◌/◌, ◌≤◌, ◌<◌, min}
use mathlib.Core.Path.{◌≡◌, refl, ap}
use mathlib.Core.List.{List, []}
use mathlib.Core.Bool.{Bool, true, false, not}
use lib.ListN.{length, take, drop, length-append, length-drop}
use lib.Seq.{take-append_seam, drop-append_seam}
use lib.Dec.{ltb}
use borrow.Author.Tests.{ltb-true, ltb-false, le-ltb}
use native.Mathlib.Omega.{arith}
use Rattle.spec.specs.Expr.{same, Exprs, canonical}
use Rattle.spec.specs.Reading.{tokens, Row, rows_of, row_width, numbers, Reading, refused, readable}
use Rattle.spec.specs.Runs.{End, done, stopped, cut, steps_in}
use Rattle.spec.specs.Evaluation.{run, result}
use Rattle.spec.specs.Calls.{Answer, refusal, acceptance, over, filled, put_out, once_read, reading, Read, Write, is_versioned, version_bytes, row_at, end_answer, run_answer, Evaluate}
use Rattle.laws.specs.Demands.{Bytes, Kept, Lent, evaluation, result_bytes, meaning_of, values_of}
use Rattle.laws.specs.Sanity.{RuleNumber}
use Rattle.laws.proofs.Basics.{impossible, by_test}
use Rattle.laws.proofs.Fits.{FitsAll}
use Rattle.laws.proofs.Rows.{rows_room, numbers_length}
use Rattle.laws.proofs.Reading.{read_refused, read_readable, meant}
use Rattle.laws.proofs.Runs.{Enough, cut_done, StoppedBy, by_steps, by_work, by_rule, cut_stopped}
use Rattle.laws.proofs.Values.{Sound, not_rule, run_fits, run_proper}

-- put-out

pub data Put (bs : List ℕ) (k : ℕ) (t o : List ℕ) : Answer → Type 0 where
  too_short : length o < length bs → Put bs k t o (refusal 18 0 t o)
  fits : length bs ≤ length o → Put bs k t o (acceptance (length bs) k t (over bs o))

pub put_out_is : (bs : List ℕ) (k : ℕ) (t o : List ℕ) → Put bs k t o (put_out bs k t o)
unfolding put_out
put_out_is bs k t o =
    let short : Bool = ltb (length o) (length bs) in
    by_test (Put bs k t o) short (λ e. too_short (ltb-true (length o) (length bs) e)) (λ e. fits (ltb-false (length o) (length bs) e))

pub put_out_bytes : (bs : List ℕ) (k : ℕ) (t o : List ℕ) → result_bytes (acceptance (length bs) k t (over bs o)) ≡ bs
put_out_bytes bs k t o = take-append_seam bs (drop (length bs) o)

over_length : (new old : List ℕ) → length new ≤ length old → length (over new old) ≡ length old
over_length new old h = simp (length-append, length-drop) (omega arith)

-- the rows have room in the table

pub rows_fit : (s t : List ℕ) (rs : List Row) (es : Exprs) → reading s t ≡ readable rs es → row_width * length rs ≤ length t
rows_fit s t rs es e =
    let r = read_readable s (length t / row_width) rs es e in
    let size : length rs ≡ length (rows_of (tokens 0 0 s)) = ap length r.rows_are in
    omega (arith, rows_room r.well (omega arith))

pub filled_length : (s t : List ℕ) (rs : List Row) (es : Exprs) → reading s t ≡ readable rs es → length (filled rs t) ≡ length t
filled_length s t rs es e = over_length (numbers rs rs) t (omega (arith, numbers_length rs rs, rows_fit s t rs es e))

pub filled_numbers : (rs : List Row) (t : List ℕ) → take (row_width * length rs) (filled rs t) ≡ numbers rs rs
filled_numbers rs t = rw (← numbers_length rs rs) (take-append_seam (numbers rs rs) (drop (length (numbers rs rs)) t))

-- what holds of both answers of Read holds of its answer
pub read_cases : (P : Answer → Type 0) (s t : List ℕ) → ((v p : ℕ) → reading s t ≡ refused v p → P (refusal v p t []))
    → ((rs : List Row) (es : Exprs) → reading s t ≡ readable rs es → P (acceptance (length rs) 0 (filled rs t) [])) → P (Read s t)
unfolding Read
read_cases P s t f g = go (reading s t) refl
  where
    go : (r : Reading) → reading s t ≡ r → P (once_read t [] (λ rs es. acceptance (length rs) 0 (filled rs t) []) r)
    go (refused v p) e = f v p e
    go (readable rs es) e = g rs es e

-- How Write and Evaluate answer

-- with a stream, a table and an output: reading refuses; else there is a refusal of which W holds, or bytes are put out with a number of steps,
-- of which A holds
pub data Answers (s t o : List ℕ) (W : List Row → Exprs → ℕ → ℕ → Type 0) (A : List Row → Exprs → List ℕ → ℕ → Type 0) : Answer → Type 0 where
  not_read : (v p : ℕ) → reading s t ≡ refused v p → Answers s t o W A (refusal v p t o)
  refuses : {v p : ℕ} (rs : List Row) (es : Exprs) → reading s t ≡ readable rs es → W rs es v p → Answers s t o W A (refusal v p (filled rs t) o)
  accepts : {bs : List ℕ} {k : ℕ} (rs : List Row) (es : Exprs) → reading s t ≡ readable rs es → A rs es bs k → length bs ≤ length o
      → Answers s t o W A (acceptance (length bs) k (filled rs t) (over bs o))

module _ {s t o : List ℕ} {W : List Row → Exprs → ℕ → ℕ → Type 0} {A : List Row → Exprs → List ℕ → ℕ → Type 0} where
  put_answers : (rs : List Row) (es : Exprs) → reading s t ≡ readable rs es → {bs : List ℕ} {k : ℕ} {a : Answer}
      → (length o < length bs → W rs es 18 0) → A rs es bs k → Put bs k (filled rs t) o a → Answers s t o W A a
  put_answers rs es e w a (too_short l) = refuses rs es e (w l)
  put_answers rs es e w a (fits l) = accepts rs es e a l

  pub answers_kept : {a : Answer} → Answers s t o W A a → Kept t o a
  answers_kept (not_read v p e) = record { tables = refl; outputs = refl; past = refl; refused = λ z. refl }
  answers_kept (refuses rs es e w) = record { tables = filled_length s t rs es e; outputs = refl; past = refl; refused = λ z. refl }
  answers_kept (accepts {bs} rs es e w room) =
      record { tables = filled_length s t rs es e; outputs = over_length bs o room; past = drop-append_seam bs (drop (length bs) o); refused = λ z. absurd (z refl) }

  -- no more bytes are given than the output has
  pub answers_fit : {a : Answer} → Answers s t o W A a → a.given ≤ length o
  answers_fit (not_read v p e) = omega arith
  answers_fit (refuses rs es e w) = omega arith
  answers_fit (accepts rs es e w room) = room

  pub answers_table : {a : Answer} → Answers s t o W A a → (rs : List Row) (es : Exprs) → reading s t ≡ readable rs es → a.table ≡ filled rs t
  answers_table (not_read v p e) rs es q = impossible (cc)
  answers_table (refuses rs' es' e w) rs es q = let same : rs' ≡ rs = cc in rw same
  answers_table (accepts rs' es' e w room) rs es q = let same : rs' ≡ rs = cc in rw same

  -- a refusal counts nothing
  pub answers_counted : {a : Answer} → Answers s t o W A a → (a.number ≡ 0 → ⊥) → a.steps ≡ 0
  answers_counted (not_read v p e) h = refl
  answers_counted (refuses rs es e w) h = refl
  answers_counted (accepts rs es e w room) h = absurd (h refl)

  pub answers_place : {a : Answer} → Bytes s → ((rs : List Row) (es : Exprs) (v p : ℕ) → reading s t ≡ readable rs es → W rs es v p → p ≤ length s)
      → Answers s t o W A a → a.place ≤ length s
  answers_place b f (not_read v p e) = omega (arith, (read_refused s (length t / row_width) v p b e).2)
  answers_place b f (refuses {v} {p} rs es e w) = f rs es v p e w
  answers_place b f (accepts rs es e w room) = omega arith

-- Write

abbrev pub WriteRefuses : List Row → Exprs → ℕ → ℕ → Type 0
WriteRefuses rs es v p = (v ≡ 18) × (p ≡ 0)

abbrev pub WritePuts : List Row → Exprs → List ℕ → ℕ → Type 0
WritePuts rs es bs k = bs ≡ canonical es

pub write_answers : (s t o : List ℕ) → Answers s t o WriteRefuses WritePuts (Write s t o)
unfolding Write
write_answers s t o = go (reading s t) refl
  where
    go : (r : Reading) → reading s t ≡ r
        → Answers s t o WriteRefuses WritePuts (once_read t o (λ rs es. put_out (canonical es) 0 (filled rs t) o) r)
    go (refused v p) e = not_read v p e
    go (readable rs es) e = put_answers rs es e (λ l. (refl, refl)) refl (put_out_is (canonical es) 0 (filled rs t) o)

module _ (s t o : List ℕ) (rs : List Row) (es : Exprs) (reads : reading s t ≡ readable rs es) where
  pub write_out : length (canonical es) ≤ length o → Write s t o ≡ acceptance (length (canonical es)) 0 (filled rs t) (over (canonical es) o)
  unfolding Write put_out
  write_out h = rw (reads, le-ltb (length o) (length (canonical es)) h)

  pub write_room : (Write s t o).number ≡ 0 → length (canonical es) ≤ length o
  write_room = go (write_answers s t o)
    where
      go : {a : Answer} → Answers s t o WriteRefuses WritePuts a → a.number ≡ 0 → length (canonical es) ≤ length o
      go (not_read v p e) z = impossible (cc)
      go (refuses rs' es' e w) z = absurd (omega (arith, w.0))
      go (accepts rs' es' e w room) z = let same : es' ≡ es = cc in rw (← same, ← w) room

-- an acceptance
pub record Written (s t o : List ℕ) : Type 0 where
  pub rows : List Row
  pub meaning : Exprs
  pub reads : reading s t ≡ readable rows meaning
  pub is : Write s t o ≡ acceptance (length (canonical meaning)) 0 (filled rows t) (over (canonical meaning) o)

pub written : (s t o : List ℕ) → Bytes s → (Write s t o).number ≡ 0 → Written s t o
written s t o b h = go (write_answers s t o) h
  where
    go : {a : Answer} → Answers s t o WriteRefuses WritePuts a → a.number ≡ 0 → Written s t o
    go (not_read v p e) z = absurd (omega (arith, (read_refused s (length t / row_width) v p b e).0))
    go (refuses rs es e w) z = absurd (omega (arith, w.0))
    go (accepts rs es e w room) z = record { rows = rs; meaning = es; reads = e; is = write_out s t o rs es e (write_room s t o rs es e h) }

-- Evaluate

-- the end of the run of what was read, held to its bounds
abbrev pub bounded : Lent → Exprs → End (List Exprs)
bounded l es = cut l.steps (min l.work 65536) (run es).events (run es).end

-- how far it comes with a stream and a table: not past reading, the version's name, the version's bytes; or a run is begun
pub data Way (s t : List ℕ) : Type 0 where
  unread : (v p : ℕ) → reading s t ≡ refused v p → Way s t
  unversioned : (rs : List Row) (es : Exprs) → reading s t ≡ readable rs es → not (is_versioned es) ≡ true → Way s t
  wrong_version : (rs : List Row) (es : Exprs) → reading s t ≡ readable rs es → not (is_versioned es) ≡ false
      → not (same (take 6 s) version_bytes) ≡ true → Way s t
  runs : (rs : List Row) (es : Exprs) → reading s t ≡ readable rs es → not (is_versioned es) ≡ false
      → not (same (take 6 s) version_bytes) ≡ false → Way s t

pub way : (s t : List ℕ) → Way s t
way s t = go (reading s t) refl
  where
    by_version : (rs : List Row) (es : Exprs) → reading s t ≡ readable rs es → (a b : Bool) → not (is_versioned es) ≡ a
        → not (same (take 6 s) version_bytes) ≡ b → Way s t
    by_version rs es e true b h k = unversioned rs es e h
    by_version rs es e false true h k = wrong_version rs es e h k
    by_version rs es e false false h k = runs rs es e h k

    go : (r : Reading) → reading s t ≡ r → Way s t
    go (refused v p) e = unread v p e
    go (readable rs es) e = by_version rs es e (not (is_versioned es)) (not (same (take 6 s) version_bytes)) refl refl

-- what is answered then
abbrev pub answered : {s t : List ℕ} → Way s t → Lent → Answer
answered {s} {t} (unread v p e) l = refusal v p t l.output
answered {s} {t} (unversioned rs es e h) l = refusal 9 0 (filled rs t) l.output
answered {s} {t} (wrong_version rs es e h k) l = refusal 10 0 (filled rs t) l.output
answered {s} {t} (runs rs es e h k) l =
    end_answer rs (steps_in (run es).events) (filled rs t) l.output (bounded l es)

pub evaluation_answered : (s : List ℕ) (l : Lent) (y : Way s l.table) → evaluation s l ≡ answered y l
unfolding Evaluate run_answer
evaluation_answered s l (unread v p e) = rw e
evaluation_answered s l (unversioned rs es e h) = rw (e, h)
evaluation_answered s l (wrong_version rs es e h k) = rw (e, h, k)
evaluation_answered s l (runs rs es e h k) = rw (e, h, k)

-- a run is begun
abbrev pub Begun : List ℕ → Exprs → Type 0
Begun s es = (not (is_versioned es) ≡ false) × (not (same (take 6 s) version_bytes) ≡ false)

-- why Evaluate refuses what was read
pub data Why (s : List ℕ) (l : Lent) (rs : List Row) (es : Exprs) : ℕ → ℕ → Type 0 where
  no_version : Why s l rs es 9 0
  other_version : Why s l rs es 10 0
  stops : (v r : ℕ) → Begun s es → bounded l es ≡ stopped v r → Why s l rs es v (row_at rs r).start
  too_long : (ls : List Exprs) → bounded l es ≡ done ls → length l.output < length (canonical (result ls)) → Why s l rs es 18 0

-- what it puts out
pub data Leaves (s : List ℕ) (l : Lent) (rs : List Row) (es : Exprs) : List ℕ → ℕ → Type 0 where
  leaves : (ls : List Exprs) → Begun s es → bounded l es ≡ done ls → Leaves s l rs es (canonical (result ls)) (steps_in (run es).events)

abbrev pub Evaluates : List ℕ → Lent → Answer → Type 0
Evaluates s l = Answers s l.table l.output (Why s l) (Leaves s l)

pub evaluation_answers : (s : List ℕ) (l : Lent) → Evaluates s l (evaluation s l)
evaluation_answers s l = rw (evaluation_answered s l (way s l.table)) (go (way s l.table))
  where
    by_end : (rs : List Row) (es : Exprs) → reading s l.table ≡ readable rs es → Begun s es → (x : End (List Exprs)) → bounded l es ≡ x
        → Evaluates s l (end_answer rs (steps_in (run es).events) (filled rs l.table) l.output x)
    by_end rs es e b (done ls) q = put_answers rs es e (too_long ls q) (leaves ls b q) (put_out_is (canonical (result ls)) _ _ _)
    by_end rs es e b (stopped v r) q = refuses rs es e (stops v r b q)

    go : (y : Way s l.table) → Evaluates s l (answered y l)
    go (unread v p e) = not_read v p e
    go (unversioned rs es e h) = refuses rs es e no_version
    go (wrong_version rs es e h k) = refuses rs es e other_version
    go (runs rs es e h k) = by_end rs es e (h, k) (bounded l es) refl

-- what was read fits
pub reading_fits : (s t : List ℕ) (rs : List Row) (es : Exprs) → Bytes s → reading s t ≡ readable rs es → FitsAll es
reading_fits s t rs es b r = (meant s (length t / row_width) rs es b r).fits

-- a run that is cut is refused with 16, 17 or a rule's number
pub data CutNumber (v : ℕ) : Type 0 where
  for_steps : v ≡ 16 → CutNumber v
  for_work : v ≡ 17 → CutNumber v
  for_rule : RuleNumber v → CutNumber v

pub cut_refused : (es : Exprs) → FitsAll es → (n w v r : ℕ) → cut n w (run es).events (run es).end ≡ stopped v r → CutNumber v
cut_refused es f n w v r h = go (cut_stopped (run es).events (run es).end n w v r h)
  where
    go : StoppedBy (run es).end v r → CutNumber v
    go (by_steps k) = for_steps k
    go (by_work k) = for_work k
    go (by_rule k) = for_rule ((run_proper es f).stops v r k).0

pub not_accepted : (v : ℕ) → CutNumber v → v ≡ 0 → ⊥
not_accepted v (for_steps k) h = omega arith
not_accepted v (for_work k) h = omega arith
not_accepted v (for_rule k) h = not_rule {v = 0} refl k h

-- an acceptance: the run's own end, within steps, workspace and output
pub record Ran (s : List ℕ) (l : Lent) : Type 0 where
  pub rows : List Row
  pub meaning : Exprs
  pub left : List Exprs
  pub reads : reading s l.table ≡ readable rows meaning
  pub begun : Begun s meaning
  pub enough : Enough l.steps (min l.work 65536) (run meaning).events (run meaning).end left
  pub is : evaluation s l
      ≡ acceptance (length (canonical (result left))) (steps_in (run meaning).events) (filled rows l.table) (over (canonical (result left)) l.output)

pub evaluate_ran : (s : List ℕ) (l : Lent) → Bytes s → (evaluation s l).number ≡ 0 → Ran s l
evaluate_ran s l b h = go (evaluation_answers s l) refl h
  where
    refused : {v p : ℕ} (rs : List Row) (es : Exprs) → reading s l.table ≡ readable rs es → Why s l rs es v p → v ≡ 0 → ⊥
    refused rs es e no_version z = omega arith
    refused rs es e other_version z = omega arith
    refused rs es e (stops v r begun c) z = not_accepted v (cut_refused es (reading_fits s l.table rs es b e) l.steps (min l.work 65536) v r c) z
    refused rs es e (too_long ls c k) z = omega arith

    accepted : {bs : List ℕ} (rs : List Row) (es : Exprs) {k : ℕ} → reading s l.table ≡ readable rs es → Leaves s l rs es bs k
        → evaluation s l ≡ acceptance (length bs) k (filled rs l.table) (over bs l.output) → Ran s l
    accepted rs es e (leaves ls begun c) q = record {
      rows = rs;
      meaning = es;
      left = ls;
      reads = e;
      begun = begun;
      enough = cut_done (run es).events (run es).end l.steps (min l.work 65536) ls c;
      is = q;
    }

    go : {a : Answer} → Evaluates s l a → evaluation s l ≡ a → a.number ≡ 0 → Ran s l
    go (not_read v p e) q z = absurd (omega (arith, (read_refused s (length l.table / row_width) v p b e).0))
    go (refuses rs es e w) q z = absurd (refused rs es e w z)
    go (accepts rs es e w room) q z = accepted rs es e w q

-- what it has left

module _ (s : List ℕ) (l : Lent) (stream : Bytes s) (accepted : (evaluation s l).number ≡ 0) where
  pub ran : Ran s l
  ran = evaluate_ran s l stream accepted

  pub ran_means : ran.meaning ≡ meaning_of s
  ran_means = (read_readable s (length l.table / row_width) ran.rows ran.meaning ran.reads).means

  pub ran_ends : (run (meaning_of s)).end ≡ done ran.left
  ran_ends = rw (← ran_means) ran.enough.ends

  pub left_values : result ran.left ≡ values_of s
  left_values = rw ran_ends

  pub left_fits : Sound (values_of s) × (length (canonical (values_of s)) ≤ 65536)
  left_fits =
      let f = run_fits ran.meaning ran.left (reading_fits s l.table ran.rows ran.meaning stream ran.reads) ran.enough.ends in
      rw (← left_values) (f.0, omega (arith, f.1, ran.enough.work))
