-- What a backlog promises, as theorems about what a call of `backlog` answers and leaves in its buffers. Document 02, §2. They follow from the
-- theorems over the definition, since answer, list and buffers are the definition's. Assumes nothing.
use Prim.Native.Nat.{ℕ, ◌*◌, ◌≤◌, ◌<◌}
use mathlib.Core.Path.{◌≡◌, sym, ap, ◌∙◌}
use mathlib.Core.Logic.{◌↔◌}
use mathlib.Core.Bool.{true, false}
use mathlib.Core.List.{List}
use lib.ListN.{length, take, drop, get_or}
use Rattle.std.specs.Prelude.{Result, Ok, Err}
use Rattle.spec.specs.Calls.{Answer, acceptance}
use Rattle.spec.specs.Backlog.{is_23, answer_width}
use Rattle.laws.specs.Demands.{Bytes, Begins, evaluation, result_bytes, NoSmaller, SameSizes, Final, Alike, SameFirst, bytes_of_first, all_steps, Counted}
use Rattle.laws.specs.Backlogs.{Night, backlog, lengths_before, said, Two}
use Rattle.laws.proofs.Backlogs as laws
use Rattle.atoms.specs.Refusals.{told}
use Rattle.atoms.specs.declared.refusal.Refusal.{Refusal}
use Rattle.evaluator.specs.declared.Evaluation.{Evaluation}
use Rattle.bulk.specs.Answers.{stated}
use Rattle.bulk.specs.Promises.{Call, EvaluateCall, BacklogCall, said_by, InBacklog, stream_of, lent_to, said_in}
use Rattle.bulk.proofs.Demands.{decided, given_as, evaluation_by, decided_evaluation, is_accepted, left_bytes}

-- table and output are those of the definition's answer
left : (a : Answer) (r : Result ℕ Refusal) (t o : List ℕ) → stated r t o ≡ a → (t ≡ a.table) × (o ≡ a.output)
left a (Ok n) t o h = (ap (λ (x : Answer). x.table) h, ap (λ (x : Answer). x.output) h)
left a (Err r) t o h = (ap (λ (x : Answer). x.table) h, ap (λ (x : Answer). x.output) h)

module _ {n : Night} (x : BacklogCall n) where
  abbrev own : Call (backlog n).own
  own = record { answer = x.answer; table = x.table; output = x.output; told = x.told.own }

  abbrev buffers : (x.table ≡ (backlog n).own.table) × (x.output ≡ (backlog n).own.output)
  buffers = left _ x.answer x.table x.output x.told.own.is

  said_so : (i : ℕ) → said_by x i ≡ said n i
  said_so i = rw (x.told.list, buffers.0, buffers.1)

  -- "Refusals: 23, [..] at 0, before all others, nothing written." A caller whose ends don't fit its buffer, or whose list has too few places, is
  -- told so, and finds table, output and list as they were.
  pub backlog_unfit : is_23 n.buffer n.ends n.answers ≡ true
      → (told x.answer ≡ Err (23, 0)) × (x.table ≡ n.lent.table) × (x.output ≡ n.lent.output) × (x.answers ≡ n.answers)
  backlog_unfit e =
      let is = laws.backlog_refused n e in
      (decided own ∙ rw is, buffers.0 ∙ rw is, buffers.1 ∙ rw is, x.told.list ∙ rw is)

  -- Every other caller is given the length of all results.
  pub backlog_fit : is_23 n.buffer n.ends n.answers ≡ false → x.answer ≡ Ok (backlog n).own.given
  backlog_fit e = given_as own _ (rw (laws.backlog_accepted n e))

  goes : (total : ℕ) → x.answer ≡ Ok total → (backlog n).own.number ≡ 0
  goes total e = let is : acceptance total 0 x.table x.output ≡ (backlog n).own = rw e at x.told.own.is in ap (λ (a : Answer). a.number) (sym is)

  -- "Numbers past the last stream's answer are unchanged." So are the bytes past the results, and the length given is that of all results.
  pub backlog_past : (total : ℕ) → x.answer ≡ Ok total
      → (drop (answer_width * length n.ends) x.answers ≡ drop (answer_width * length n.ends) n.answers)
      × (drop total x.output ≡ drop total n.lent.output) × (total ≡ lengths_before (length n.ends) x.answers)
  backlog_past total e =
      let is : acceptance total 0 x.table x.output ≡ (backlog n).own = rw e at x.told.own.is in
      let given : total ≡ (backlog n).own.given = ap (λ (a : Answer). a.given) is in
      let keeps = laws.backlog_keeps n in
      (rw x.told.list keeps.past_answers, rw (given, buffers.1) keeps.past_results, rw x.told.list (given ∙ laws.backlog_total n (goes total e)))

-- Each stream

module _ {n : Night} (x : InBacklog n) where
  abbrev number_0 : (backlog n).own.number ≡ 0
  number_0 = goes x.call x.total x.accepts

  abbrev list : x.call.answers ≡ (backlog n).answers
  list = x.call.told.list

  said_here : said_in x ≡ said n x.i
  said_here = said_so x.call x.i

  -- "It equals one evaluation after another": what a caller is told of a stream, and its part of the output, is what `Evaluate` gives for that stream
  -- alone, with the output left to it.
  pub backlog_alone : Alike (said_in x) (evaluation (stream_of x) (lent_to x))
  backlog_alone = rw (said_here, list) (laws.backlog_alone n number_0 x.i x.there)

  -- So it is what a call of `evaluate` answers.
  pub backlog_evaluate : (y : EvaluateCall (stream_of x) (lent_to x))
      → (told y.answer ≡ evaluation_by (said_in x)) × ((e : Evaluation) → y.answer ≡ Ok e → take e.length y.output ≡ result_bytes (said_in x))
  backlog_evaluate y =
      let same = backlog_alone in (
        decided_evaluation y ∙ rw (same.number, same.place, same.given, same.steps),
        λ e is. left_bytes _ _ y e is ∙ sym (same.bytes (same.number ∙ is_accepted _ _ y e is)),
      )

  module _ (stream : Bytes (stream_of x)) where
    -- Demand 3, "read per stream": the count is document 01's, and 16 comes exactly when a step beyond those given would be taken, at its place.
    pub backlog_count : Counted (stream_of x) (lent_to x) (said_in x)
    backlog_count = rw (said_here, list) (laws.backlog_count n number_0 x.i x.there stream)

    pub backlog_sixteen : ((said_in x).number ≡ 16) ↔ (n.lent.steps < length (all_steps (stream_of x) (lent_to x)))
    backlog_sixteen = rw list (laws.backlog_sixteen n number_0 x.i x.there stream)

    pub backlog_sixteen_place : (said_in x).number ≡ 16 → (said_in x).place ≡ get_or (all_steps (stream_of x) (lent_to x)) n.lent.steps 0
    backlog_sixteen_place = rw list (laws.backlog_sixteen_place n number_0 x.i x.there stream)

-- Two streams, of one call or of two
module _ {n m : Night} (x : InBacklog n) (y : InBacklog m) where
  two : Two n m x.i y.i
  two = record { first_goes = number_0 x; second_goes = number_0 y; first = x.there; second = y.there }

  module _ (same : stream_of x ≡ stream_of y) where
    -- Demand 3: with tables of equal length, and with steps, workspace and output left each no smaller the second time, a stream whose answer is
    -- none of 16, 17 and 18 gets that answer again, and the same bytes, whatever else is in the two backlogs.
    pub backlog_retry : NoSmaller (lent_to x) (lent_to y) → Final (said_in x) → Alike (said_in x) (said_in y)
    backlog_retry = rw (said_here x, said_here y, list x, list y) (laws.backlog_retry n m x.i y.i two same)

    -- With as much of each it gets the same answer, whichever it is.
    pub backlog_contents : SameSizes (lent_to x) (lent_to y) → Alike (said_in x) (said_in y)
    backlog_contents = rw (said_here x, said_here y, list x, list y) (laws.backlog_contents n m x.i y.i two same)

  -- Demand 3: the first bytes of two accepted streams' results, where their first q expressions are equal in meaning
  pub backlog_prefix : (q : ℕ) → Bytes (stream_of x) → Bytes (stream_of y) → (said_in x).number ≡ 0 → (said_in y).number ≡ 0 → SameFirst q (stream_of x) (stream_of y)
      → (bytes_of_first q (stream_of x) ≡ bytes_of_first q (stream_of y))
      × Begins (result_bytes (said_in x)) (bytes_of_first q (stream_of x)) × Begins (result_bytes (said_in y)) (bytes_of_first q (stream_of x))
  backlog_prefix = rw (list x, list y, (buffers x.call).1, (buffers y.call).1) (laws.backlog_prefix n m x.i y.i two)

-- A night given again with steps, workspace and output each no smaller: a stream whose answer, and those of all streams before it, are none of 16,
-- 17 and 18 gets that answer again, and the same bytes.
module _ {n m : Night} (x : BacklogCall n) (y : BacklogCall m) (total total' : ℕ) (accepted : x.answer ≡ Ok total) (accepted' : y.answer ≡ Ok total') where
  pub backlog_again : n.buffer ≡ m.buffer → n.ends ≡ m.ends → NoSmaller n.lent m.lent → (i : ℕ) → ((k : ℕ) → k ≤ i → Final (said_by x k)) → i < length n.ends
      → Alike (said_by x i) (said_by y i)
  backlog_again b e l i final h =
      rw (said_so x i, said_so y i)
      (laws.backlog_again n m (record { buffers = b; ends = e; lent = l; first_goes = goes x total accepted; second_goes = goes y total' accepted' }) i
      (λ k j. rw (said_so x k) at (final k j)) h)
