-- What a backlog promises, as theorems over its definition, in the words of specs/Backlogs. Document 02, §2. Assumes nothing.
use Prim.Native.Nat.{ℕ, zero, suc, ◌+◌, ◌-◌, ◌*◌, ◌/◌, ◌≤◌, ◌<◌}
use mathlib.Core.Path.{◌≡◌, refl, sym, ap, ◌∙◌, subst}
use mathlib.Core.Logic.{◌↔◌}
use mathlib.Core.Bool.{true, false}
use mathlib.Core.List.{List, [], ◌∷◌, ◌++◌}
use native.Mathlib.Omega.{arith}
use lib.ListN.{length, take, drop, get_or, length-append, length-drop, get_or-append}
use lib.Seq.{length-take-le, take-take, take-append-le, drop-append-le, drop-append-add, drop-drop, drop-append_seam}
use borrow.Author.Tests.{ltb-false}
use Rattle.spec.specs.Calls.{Answer, refusal}
use Rattle.spec.specs.Backlog.{streams, misplaced, is_23, answer_width, four_numbers, Evaluations, in_turn, Backlogged, accepted, Backlog}
use Rattle.laws.specs.Demands.{Bytes, Begins, Lent, evaluation, result_bytes, NoSmaller, SameSizes, Final, Alike, SameFirst, bytes_of_first, all_steps, Counted}
use Rattle.laws.specs.Backlogs.{Night, backlog, evaluations, stream_at, lengths_before, left_by_lengths, left_to, said_of, said, alone, KeptNight, Two, Again}
use Rattle.laws.proofs.Basics.{by_test, both_false}
use Rattle.laws.proofs.Theorems as laws

-- Answers that are alike

alike_back : {a b : Answer} → Alike a b → Alike b a
alike_back h = record { number = sym h.number; place = sym h.place; given = sym h.given; steps = sym h.steps; bytes = λ z. sym (h.bytes (h.number ∙ z)) }

alike_on : {a b c : Answer} → Alike a b → Alike b c → Alike a c
alike_on h k = record {
  number = h.number ∙ k.number;
  place = h.place ∙ k.place;
  given = h.given ∙ k.given;
  steps = h.steps ∙ k.steps;
  bytes = λ z. h.bytes z ∙ k.bytes (sym h.number ∙ z);
}

-- An evaluation, and what comes behind its result

module _ (s : List ℕ) (l : Lent) where
  abbrev its : Answer
  its = evaluation s l

  result_size : length (result_bytes its) ≡ its.given
  result_size = length-take-le its.given its.output (omega (arith, (laws.evaluation_keeps s l).outputs, laws.evaluation_fits s l))

  behind : (k : ℕ) (rest : List ℕ) → drop (its.given + k) (result_bytes its ++ rest) ≡ drop k rest
  behind k rest = ap (λ (n : ℕ). drop (n + k) (result_bytes its ++ rest)) (sym result_size) ∙ drop-append-add (result_bytes its) rest k

  left_over : (k : ℕ) → drop k (drop its.given its.output) ≡ drop (its.given + k) l.output
  left_over k = ap (drop k) (laws.evaluation_keeps s l).past ∙ drop-drop k its.given l.output

-- One evaluation after another

-- the numbers from stream i + 1 on, of a list and behind its first four
drop_four : (i : ℕ) (l : List ℕ) → drop (answer_width * suc i) l ≡ drop (answer_width * i) (drop answer_width l)
drop_four i l =
    let more : answer_width * suc i ≡ answer_width + answer_width * i = omega arith in
    rw more (sym (drop-drop (answer_width * i) answer_width l))

module _ (work steps : ℕ) where
  abbrev with : List ℕ → List ℕ → Lent
  with t o = record { table = t; work = work; output = o; steps = steps }

  -- what the evaluations leave of table and output, and how many numbers they give
  record Left (ss : List (List ℕ)) (t o : List ℕ) (e : Evaluations) : Type 0 where
    pub tables : length e.table ≡ length t
    pub outputs : length e.output ≡ length o
    pub past : drop e.given e.output ≡ drop e.given o
    pub fits : e.given ≤ length o
    pub told : length e.answers ≡ answer_width * length ss
    pub total : lengths_before (length ss) e.answers ≡ e.given

  in_turn_left : (ss : List (List ℕ)) (t o : List ℕ) → Left ss t o (in_turn ss t work o steps)
  unfolding in_turn lengths_before
  in_turn_left [] t o = record { tables = refl; outputs = refl; past = refl; fits = omega arith; told = refl; total = refl }
  in_turn_left (s ∷ ss) t o =
      let a = evaluation s (with t o) in
      let keeps = laws.evaluation_keeps s (with t o) in
      let fit = laws.evaluation_fits s (with t o) in
      let others = in_turn ss a.table work (drop a.given a.output) steps in
      let left = in_turn_left ss a.table (drop a.given a.output) in
      let rest = length-drop a.given a.output in
      record {
        tables = left.tables ∙ keeps.tables;
        outputs = length-append (result_bytes a) others.output ∙ omega (arith, result_size s (with t o), rest, left.outputs, keeps.outputs, fit);
        past = behind s (with t o) others.given others.output ∙ left.past ∙ left_over s (with t o) others.given;
        fits = omega (arith, rest, left.fits, keeps.outputs, fit);
        told = omega (arith, left.told);
        total = ap (λ (n : ℕ). a.given + n) left.total;
      }

  -- what is said of stream i is what is said of it alone, with the output left to it; it does not matter what is in the table
  in_turn_alone : (ss : List (List ℕ)) (t t₀ o : List ℕ) (i : ℕ) → length t ≡ length t₀ → i < length ss
      → let e = in_turn ss t work o steps in
      Alike (said_of e.answers e.table e.output i) (evaluation (get_or ss i []) (with t₀ (drop (lengths_before i e.answers) o)))
  unfolding in_turn lengths_before
  in_turn_alone [] t t₀ o i h l = absurd (omega arith)
  in_turn_alone (s ∷ ss) t t₀ o zero h l =
      let a = evaluation s (with t o) in
      alike_on
      (record {
        number = refl;
        place = refl;
        given = refl;
        steps = refl;
        bytes = λ z. take-append-le a.given (result_bytes a) _ (omega (arith, result_size s (with t o))) ∙ take-take a.given a.given a.output (omega arith);
      })
      (laws.contents s (with t o) (with t₀ o) (record { tables = h; work = refl; outputs = refl; steps = refl }))
  in_turn_alone (s ∷ ss) t t₀ o (suc i) h l =
      let a = evaluation s (with t o) in
      let others = in_turn ss a.table work (drop a.given a.output) steps in
      let before = lengths_before i others.answers in
      rw (drop_four i (four_numbers a ++ others.answers), behind s (with t o) before others.output, ← left_over s (with t o) before)
      (in_turn_alone ss a.table t₀ (drop a.given a.output) i ((laws.evaluation_keeps s (with t o)).tables ∙ h) (omega arith))

-- The streams of a buffer

streams_count : (start : ℕ) (ends buffer : List ℕ) → length (streams start ends buffer) ≡ length ends
unfolding streams
streams_count start [] buffer = refl
streams_count start (end ∷ ends) buffer = ap suc (streams_count end ends buffer)

streams_at : (start : ℕ) (ends buffer : List ℕ) (i : ℕ) → i < length ends
    → let from = get_or (start ∷ ends) i 0 in get_or (streams start ends buffer) i [] ≡ take (get_or ends i 0 - from) (drop from buffer)
unfolding streams
streams_at start [] buffer i h = absurd (omega arith)
streams_at start (end ∷ ends) buffer zero h = refl
streams_at start (end ∷ ends) buffer (suc i) h = streams_at end ends buffer i (omega arith)

-- A list of answers

lengths_next : (i : ℕ) (answers : List ℕ) → lengths_before (suc i) answers ≡ lengths_before i answers + get_or (drop (answer_width * i) answers) 2 0
unfolding lengths_before
lengths_next zero answers = omega arith
lengths_next (suc i) answers = rw (drop_four i answers) (omega (arith, lengths_next i (drop answer_width answers)))

lengths_on : (i : ℕ) (answers more : List ℕ) → answer_width * i ≤ length answers → lengths_before i (answers ++ more) ≡ lengths_before i answers
unfolding lengths_before
lengths_on zero answers more h = refl
lengths_on (suc i) answers more h =
    rw (get_or-append answers more 0 2 (omega arith), drop-append-le answer_width answers more (omega arith))
    (ap (λ (n : ℕ). get_or answers 2 0 + n) (lengths_on i (drop answer_width answers) more (omega (arith, length-drop answer_width answers))))

said_on : (answers more table output : List ℕ) (i : ℕ) → answer_width * i + answer_width ≤ length answers
    → said_of (answers ++ more) table output i ≡ said_of answers table output i
said_on answers more table output i h =
    let own = drop (answer_width * i) answers in
    let size = length-drop (answer_width * i) answers in
    rw (
      drop-append-le (answer_width * i) answers more (omega arith),
      lengths_on i answers more (omega arith),
      get_or-append own more 0 0 (omega (arith, size)),
      get_or-append own more 0 1 (omega (arith, size)),
      get_or-append own more 0 2 (omega (arith, size)),
      get_or-append own more 0 3 (omega (arith, size)),
    )

-- The call

module _ (n : Night) where
  -- how a backlog answers: by 23, or by the evaluations
  data Answers : Backlogged → Type 0 where
    refuses : is_23 n.buffer n.ends n.answers ≡ true → Answers (record { own = refusal 23 0 n.lent.table n.lent.output; answers = n.answers })
    accepts : is_23 n.buffer n.ends n.answers ≡ false → Answers (accepted (evaluations n) n.answers)

  backlog_answers : Answers (backlog n)
  unfolding Backlog
  backlog_answers = by_test Answers (is_23 n.buffer n.ends n.answers) refuses accepts

  -- there is a place for each answer
  pub places : is_23 n.buffer n.ends n.answers ≡ false → answer_width * length n.ends ≤ length n.answers
  unfolding is_23
  places e = omega (arith, ltb-false (length n.answers / answer_width) (length n.ends) (both_false (misplaced n.ends (length n.buffer)) _ e).1)

  abbrev leaves : Left n.lent.work n.lent.steps (streams 0 n.ends n.buffer) n.lent.table n.lent.output (evaluations n)
  leaves = in_turn_left n.lent.work n.lent.steps (streams 0 n.ends n.buffer) n.lent.table n.lent.output

  -- four numbers for each end
  told_all : length (evaluations n).answers ≡ answer_width * length n.ends
  told_all = leaves.told ∙ ap (λ (k : ℕ). answer_width * k) (streams_count 0 n.ends n.buffer)

  -- "Refusals: 23, an end below the one before, a last end other than the buffer's length (no ends: buffer not empty), or fewer places for
  -- answers than ends, at 0, before all others, nothing written." Otherwise "the call itself gives number 0, place 0".

  pub backlog_refused : is_23 n.buffer n.ends n.answers ≡ true
      → backlog n ≡ record { own = refusal 23 0 n.lent.table n.lent.output; answers = n.answers }
  unfolding Backlog
  backlog_refused e = rw e

  pub backlog_accepted : is_23 n.buffer n.ends n.answers ≡ false → backlog n ≡ accepted (evaluations n) n.answers
  unfolding Backlog
  backlog_accepted e = rw e

  pub backlog_goes : (backlog n).own.number ≡ 0 → is_23 n.buffer n.ends n.answers ≡ false
  backlog_goes z = go backlog_answers z
    where
      go : {b : Backlogged} → Answers b → b.own.number ≡ 0 → is_23 n.buffer n.ends n.answers ≡ false
      go (refuses e) z = absurd (omega arith)
      go (accepts e) z = e

  -- "Numbers past the last stream's answer are unchanged." So are the bytes past the results.
  pub backlog_keeps : KeptNight n (backlog n)
  backlog_keeps = go backlog_answers
    where
      go : {b : Backlogged} → Answers b → KeptNight n b
      go (refuses e) = record { tables = refl; outputs = refl; lists = refl; past_answers = refl; past_results = refl }
      go (accepts e) =
          let told = (evaluations n).answers in
          let rest = drop (length told) n.answers in
          record {
            tables = leaves.tables;
            outputs = leaves.outputs;
            lists = length-append told rest ∙ omega (arith, length-drop (length told) n.answers, told_all, places e);
            past_answers = subst (λ (k : ℕ). drop k (told ++ rest) ≡ drop k n.answers) told_all (drop-append_seam told rest);
            past_results = leaves.past;
          }

  -- the results are there, and so is a place for each answer
  pub backlog_fits : (backlog n).own.given ≤ length n.lent.output
  backlog_fits = go backlog_answers
    where
      go : {b : Backlogged} → Answers b → b.own.given ≤ length n.lent.output
      go (refuses e) = omega arith
      go (accepts e) = leaves.fits

  module _ (goes : (backlog n).own.number ≡ 0) where
    pub backlog_places : answer_width * length n.ends ≤ length (backlog n).answers
    backlog_places = omega (arith, places (backlog_goes goes), backlog_keeps.lists)

    -- "results end to end": the total length is that of all streams' results
    pub backlog_total : (backlog n).own.given ≡ lengths_before (length n.ends) (backlog n).answers
    backlog_total = go backlog_answers goes
      where
        go : {b : Backlogged} → Answers b → b.own.number ≡ 0 → b.own.given ≡ lengths_before (length n.ends) b.answers
        go (refuses e) z = absurd (omega arith)
        go (accepts e) z =
            sym leaves.total
            ∙ ap (λ (k : ℕ). lengths_before k (evaluations n).answers) (streams_count 0 n.ends n.buffer)
            ∙ sym (lengths_on (length n.ends) (evaluations n).answers _ (omega (arith, told_all)))

    -- "It equals one evaluation after another": a stream's four numbers and its part of the output are those of Evaluate on that stream alone,
    -- with the output left to it.
    pub backlog_alone : (i : ℕ) → i < length n.ends → Alike (said n i) (alone n i)
    backlog_alone i h = go backlog_answers goes
      where
        go : {b : Backlogged} → Answers b → b.own.number ≡ 0
            → Alike (said_of b.answers b.own.table b.own.output i) (evaluation (stream_at n i) (left_by_lengths n b.answers i))
        go (refuses e) z = absurd (omega arith)
        go (accepts e) z =
            let count = streams_count 0 n.ends n.buffer in
            let stream = streams_at 0 n.ends n.buffer i h in
            rw (
              said_on (evaluations n).answers _ (evaluations n).table (evaluations n).output i (omega (arith, told_all)),
              lengths_on i (evaluations n).answers _ (omega (arith, told_all)),
              ← stream,
            )
            (in_turn_alone n.lent.work n.lent.steps _ n.lent.table n.lent.table n.lent.output i refl (omega (arith, count)))

    -- "Demand 3 is read per stream, where 23 doesn't arise, with the output left to it."

    module _ (i : ℕ) (h : i < length n.ends) (stream : Bytes (stream_at n i)) where
      -- "The count is always the one that document 01 defines, never above the steps given."
      pub backlog_count : Counted (stream_at n i) (left_to n i) (said n i)
      backlog_count =
          let same = backlog_alone i h in
          let c = laws.count (stream_at n i) (left_to n i) stream in
          record {
            accepted = λ z. same.steps ∙ c.accepted (sym same.number ∙ z);
            of_run = λ z. same.steps ∙ c.of_run (sym same.number ∙ z);
            refused = λ z. same.steps ∙ c.refused (λ y. z (same.number ∙ y));
            bounded = omega (arith, same.steps, c.bounded);
          }

      -- "and the refusal for steps comes exactly when document 01's rules would next take a step beyond them"
      pub backlog_sixteen : ((said n i).number ≡ 16) ↔ (n.lent.steps < length (all_steps (stream_at n i) (left_to n i)))
      backlog_sixteen =
          let same = backlog_alone i h in
          let s = laws.sixteen (stream_at n i) (left_to n i) stream in
          (λ z. s.0 (sym same.number ∙ z), λ l. same.number ∙ s.1 l)

      pub backlog_sixteen_place : (said n i).number ≡ 16 → (said n i).place ≡ get_or (all_steps (stream_at n i) (left_to n i)) n.lent.steps 0
      backlog_sixteen_place z = (backlog_alone i h).place ∙ laws.sixteen_place (stream_at n i) (left_to n i) (backlog_sixteen.0 z)

module _ (n m : Night) (i j : ℕ) (two : Two n m i j) where
  one : Alike (said n i) (alone n i)
  one = backlog_alone n two.first_goes i two.first

  other : Alike (said m j) (alone m j)
  other = backlog_alone m two.second_goes j two.second

  module _ (same : stream_at n i ≡ stream_at m j) where
    -- "with steps, workspace and output each no smaller the second time": the same stream in two backlogs, whatever else is in them
    pub backlog_retry : NoSmaller (left_to n i) (left_to m j) → Final (said n i) → Alike (said n i) (said m j)
    backlog_retry h f =
        let final : Final (alone n i) = rw (← one.number) (record { steps_suffice = f.steps_suffice; work_fits = f.work_fits; output_fits = f.output_fits }) in
        alike_on one (alike_on (laws.retry (stream_at n i) (left_to n i) (left_to m j) h final) (rw same (alike_back other)))

    -- "whatever table, workspace and output held before"
    pub backlog_contents : SameSizes (left_to n i) (left_to m j) → Alike (said n i) (said m j)
    backlog_contents h = alike_on one (alike_on (laws.contents (stream_at n i) (left_to n i) (left_to m j) h) (rw same (alike_back other)))

  -- "If their first q top-level expressions are equal in meaning, these give the same bytes in both, and the result bytes of every run that
  -- accepts either stream begin with them."
  pub backlog_prefix : (q : ℕ) → Bytes (stream_at n i) → Bytes (stream_at m j) → (said n i).number ≡ 0 → (said m j).number ≡ 0
      → SameFirst q (stream_at n i) (stream_at m j)
      → (bytes_of_first q (stream_at n i) ≡ bytes_of_first q (stream_at m j))
      × Begins (result_bytes (said n i)) (bytes_of_first q (stream_at n i)) × Begins (result_bytes (said m j)) (bytes_of_first q (stream_at n i))
  backlog_prefix q b b' z z' f =
      let first = sym one.number ∙ z in
      let second = sym other.number ∙ z' in
      let p = laws.prefix q _ _ b b' (record { lent = left_to n i; accepts = first }) (record { lent = left_to m j; accepts = second }) f in
      (p.same, rw (one.bytes z) (p.begins (left_to n i) first), rw (other.bytes z') (p.begins' (left_to m j) second))

-- A night given again: a stream whose answer, and those of all streams before it, are none of 16, 17 and 18 has the same output left, and gets
-- the same answer and bytes.
module _ (n m : Night) (again : Again n m) where
  -- where as much output is left
  left_again : (i : ℕ) → lengths_before i (backlog n).answers ≡ lengths_before i (backlog m).answers → Final (said n i) → i < length n.ends → Alike (said n i) (said m i)
  left_again i e f h =
      let count : length n.ends ≡ length m.ends = ap length again.ends in
      backlog_retry n m i i (record { first_goes = again.first_goes; second_goes = again.second_goes; first = h; second = omega (arith, count) })
      (rw (again.buffers, again.ends))
      (record {
        tables = again.lent.tables;
        work = again.lent.work;
        outputs = rw e (omega (arith, length-drop (lengths_before i (backlog m).answers) n.lent.output, length-drop (lengths_before i (backlog m).answers) m.lent.output, again.lent.outputs));
        steps = again.lent.steps;
      })
      f

  left_same : (i : ℕ) → ((k : ℕ) → k < i → Final (said n k)) → i ≤ length n.ends → lengths_before i (backlog n).answers ≡ lengths_before i (backlog m).answers
  unfolding lengths_before
  left_same zero final h = refl
  left_same (suc i) final h =
      let same = left_same i (λ k l. final k (omega arith)) (omega arith) in
      lengths_next i (backlog n).answers
      ∙ omega (arith, same, (left_again i same (final i (omega arith)) (omega arith)).given, lengths_next i (backlog m).answers)

  pub backlog_again : (i : ℕ) → ((k : ℕ) → k ≤ i → Final (said n k)) → i < length n.ends → Alike (said n i) (said m i)
  backlog_again i final h = left_again i (left_same i (λ k l. final k (omega arith)) (omega arith)) (final i (omega arith)) h
