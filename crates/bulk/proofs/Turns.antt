-- A backlog's streams, evaluated one by one: what was done before a turn, and what is left to do. Document 02, §2: "one evaluation after another".
-- Assumes nothing.
use Prim.Native.Nat.{ℕ, ◌+◌, ◌-◌, ◌*◌, ◌≤◌, ◌<◌}
use mathlib.Core.Path.{◌≡◌, refl, sym, ap, ◌∙◌}
use mathlib.Core.Bool.{true, false}
use mathlib.Core.List.{List, [], ◌++◌, append_assoc, append-nil}
use native.Mathlib.Omega.{arith}
use native.Mathlib.Nat.{zero-add, add_assoc, add-zero}
use lib.ListN.{length, take, drop, get_or, length-append, length-drop, take-append-drop}
use borrow.Author.Rules.{part_to_end}
use borrow.Rule.Slice.PartMut.{mid_of, mid_len, put_mid, same_len_mid, Post-is}
use lib.Seq.{take-append_seam, take-append-add, drop-append-add, drop-drop, drop-length, length-take-le}
use Rattle.std.specs.Prelude.{Result, Ok, Err}
use Rattle.spec.specs.Calls.{Answer, over, Evaluate}
use Rattle.spec.specs.Backlog.{streams, is_23, answer_width, four_numbers, Evaluations, followed, in_turn}
use Rattle.laws.specs.Demands.{Kept, Lent, evaluation}
use Rattle.laws.specs.Backlogs.{Night, backlog, evaluations}
use Rattle.laws.proofs.Steps.{none_left}
use Rattle.laws.proofs.Theorems.{evaluation_keeps, evaluation_fits}
use Rattle.laws.proofs.Backlogs.{places, backlog_refused, backlog_accepted}
use Rattle.atoms.specs.Refusals.{refused}
use Rattle.atoms.specs.declared.refusal.Reason.TheVariants.{WrongEnds}
use Rattle.atoms.specs.declared.refusal.Refusal.{Refusal}
use Rattle.evaluator.specs.declared.Evaluation.{Evaluation}
use Rattle.bulk.specs.Answers.{AnsweredEvaluation, AnsweredBacklog, told_numbers, told_length}
use Rattle.bulk.proofs.Ends.{here, Ordered, ordered_next, ordered_last, not_23}

-- Evaluations that gave these numbers and whose results are the first bytes of an output, then others that had the rest of it
abbrev preceded : List ℕ → ℕ → List ℕ → Evaluations → Evaluations
preceded done used output others = record {
  answers = done ++ others.answers;
  given = used + others.given;
  table = others.table;
  output = take used output ++ others.output;
}

preceded_followed : (done : List ℕ) (used : ℕ) (output : List ℕ) (a : Answer) (others : Evaluations) → used ≤ length output
    → preceded done used output (followed a others) ≡ preceded (done ++ four_numbers a) (used + a.given) (take used output ++ a.output) others
preceded_followed done used output a others h =
    rw (
      append_assoc done (four_numbers a) others.answers,
      add_assoc used a.given others.given,
      results,
      append_assoc (take used output) (take a.given a.output) others.output,
    )
  where
    results : take (used + a.given) (take used output ++ a.output) ≡ take used output ++ take a.given a.output
    results =
        ap (λ (n : ℕ). take (n + a.given) (take used output ++ a.output)) (sym (length-take-le used output h))
        ∙ take-append-add (take used output) a.output a.given

-- numbers put behind those that are there
put_on : (done vs list : List ℕ) (w : ℕ) → length vs ≡ w → length done + w ≤ length list
    → put_mid (length done) (length done + w - length done) (over done list) vs ≡ over (done ++ vs) list
put_on done vs list w size h =
    let rest = drop (length done) list in
    rw (
      Post-is (length done) (length done + w) (over done list) (omega arith),
      take-append_seam done rest,
      drop-append-add done rest w,
      length-append done vs,
      drop-drop w (length done) list,
      ← size,
      append_assoc done vs (drop (length done + length vs) list),
    )

-- a list with the numbers of stream i in their place
abbrev pub stored : List ℕ → ℕ → List ℕ → List ℕ
stored answers i = put_mid (answer_width * i) (answer_width * i + answer_width - answer_width * i) answers

-- what a call of `backlog` is given
abbrev pub night : List ℕ → List ℕ → List ℕ → List ℕ → List ℕ → ℕ → List ℕ → Night
night buffer ends table workspace output steps answers =
    record { buffer = buffer; ends = ends; lent = record { table = table; work = length workspace; output = output; steps = steps }; answers = answers }

module _ (n : Night) where
  -- the streams from end i on, the first of which starts at `start`, with what is left to them
  abbrev others : List ℕ → List ℕ → ℕ → ℕ → Evaluations
  others table left start i = in_turn (streams start (drop i n.ends) n.buffer) table n.lent.work left n.lent.steps

  -- before the turn of the stream that ends at end i and starts at `start`: so many bytes of the output are used, and these numbers are told
  pub record Turn (table output answers : List ℕ) (start used i : ℕ) : Type 0 where
    pub done : List ℕ
    pub told : length done ≡ answer_width * i
    pub answers_are : answers ≡ over done n.answers
    pub room : answer_width * length n.ends ≤ length n.answers
    pub lists : length answers ≡ length n.answers
    pub inside : used ≤ length output
    pub outputs : length output ≡ length n.lent.output
    pub tables : length table ≡ length n.lent.table
    pub ordered : Ordered start (drop i n.ends) (length n.buffer)
    pub whole : evaluations n ≡ preceded done used output (others table (drop used output) start i)

  pub turn_first : Ordered 0 n.ends (length n.buffer) → answer_width * length n.ends ≤ length n.answers → Turn n.lent.table n.lent.output n.answers 0 0 0
  turn_first h room = record {
    done = [];
    told = refl;
    answers_are = refl;
    room = room;
    lists = refl;
    inside = omega arith;
    outputs = refl;
    tables = refl;
    ordered = h;
    whole = rw (zero-add (evaluations n).given);
  }

  module _ {table output answers : List ℕ} {start used i : ℕ} (h : Turn table output answers start used i) where
    abbrev stream : List ℕ
    stream = take (get_or n.ends i 0 - start) (drop start n.buffer)

    abbrev lent : Lent
    lent = record { table = table; work = n.lent.work; output = drop used output; steps = n.lent.steps }

    -- its stream is in the buffer
    pub turn_ends : i < length n.ends → (start ≤ get_or n.ends i 0) × (get_or n.ends i 0 ≤ length n.buffer)
    turn_ends more =
        let next = ordered_next start _ _ _ (rw (here n.ends i more) at h.ordered) in
        (next.0, ordered_last _ _ _ next.1)

    turn_by : i < length n.ends → (a : Answer) → a ≡ evaluation stream lent
        → Turn a.table (take used output ++ a.output) (stored answers i (four_numbers a)) (get_or n.ends i 0) (used + a.given) (i + 1)
    unfolding streams in_turn
    turn_by more a e = record {
      done = h.done ++ four_numbers a;
      told = simp length-append (omega (arith, h.told));
      answers_are = rw (h.answers_are, ← h.told) (put_on h.done (four_numbers a) n.answers answer_width refl (omega (arith, h.told, h.room)));
      room = h.room;
      lists = same_len_mid (answer_width * i) _ answers (four_numbers a) (omega (arith, place)) ∙ h.lists;
      inside = omega (arith, long, fits);
      outputs = omega (arith, long, h.outputs);
      tables = rw e keeps.tables ∙ h.tables;
      ordered = (ordered_next start _ _ _ (rw (here n.ends i more) at h.ordered)).1;
      whole = h.whole ∙ ap (preceded h.done used output) step ∙ preceded_followed h.done used output a _ h.inside ∙ rw left;
    }
      where
        place : length (mid_of (answer_width * i) (answer_width * i + answer_width - answer_width * i) answers) ≡ answer_width * i + answer_width - answer_width * i
        place = mid_len (answer_width * i) (answer_width * i + answer_width) answers (omega (arith, h.lists, h.room))

        keeps : Kept lent.table lent.output (evaluation stream lent)
        keeps = evaluation_keeps stream lent

        long : length (take used output ++ a.output) ≡ length output
        long = rw (length-append (take used output) a.output, length-take-le used output h.inside, e) (omega (arith, keeps.outputs, length-drop used output, h.inside))

        fits : used + a.given ≤ length output
        fits = rw e (omega (arith, evaluation_fits stream lent, length-drop used output, h.inside))

        left : drop (used + a.given) (take used output ++ a.output) ≡ drop a.given a.output
        left =
            ap (λ (n : ℕ). drop (n + a.given) (take used output ++ a.output)) (sym (length-take-le used output h.inside))
            ∙ drop-append-add (take used output) a.output a.given

        step : others table (drop used output) start i
            ≡ followed a (others a.table (drop a.given a.output) (get_or n.ends i 0) (i + 1))
        step = rw (here n.ends i more, e)

    turn_told : i < length n.ends → (r : Result Evaluation Refusal) (table' left' : List ℕ) → AnsweredEvaluation (evaluation stream lent) r table' left'
        → Turn table' (take used output ++ left') (stored answers i (told_numbers r)) (get_or n.ends i 0) (used + told_length r) (i + 1)
    turn_told more (Ok e) table' left' x = turn_by more _ x.is
    turn_told more (Err r) table' left' x = turn_by more _ x.is

    -- The turn of a stream that is answered so, whose numbers are stored; the part of the output that it had has come back
    pub turn_next : i < length n.ends → (r : Result Evaluation Refusal) (table' left' numbers : List ℕ)
        → AnsweredEvaluation (Evaluate stream table n.lent.work (mid_of used (length output - used) output) n.lent.steps) r table' left' → numbers ≡ told_numbers r
        → Turn table' (put_mid used (length output - used) output left') (stored answers i numbers) (get_or n.ends i 0) (used + told_length r) (i + 1)
    turn_next more r table' left' numbers x e =
        rw (Post-is used (length output) output h.inside, drop-length output, append-nil left', e)
        (turn_told more r table' left' (rw (part_to_end output used) at x))

    -- after the last turn
    pub turn_last : length n.ends ≤ i → (evaluations n ≡ record { answers = h.done; given = used; table = table; output = output })
    unfolding streams in_turn
    turn_last l = h.whole ∙ rw (none_left n.ends i l, append-nil h.done, take-append-drop used output) (ap given_so (add-zero used))
      where
        given_so : ℕ → Evaluations
        given_so n = record { answers = h.done; given = n; table = table; output = output }

-- What the call answers

module _ (n : Night) where
  pub answered_23 : is_23 n.buffer n.ends n.answers ≡ true → AnsweredBacklog (backlog n) (Err (refused WrongEnds 0)) n.lent.table n.lent.output n.answers
  answered_23 e = let is = backlog_refused n e in record { own = record { is = rw is; numbered = omega arith }; list = rw is }

  module _ (fits : is_23 n.buffer n.ends n.answers ≡ false) where
    pub turns : Turn n n.lent.table n.lent.output n.answers 0 0 0
    turns = turn_first n (not_23 n.buffer n.ends n.answers fits) (places n fits)

    pub turns_answered : {table' output' answers' : List ℕ} {start used i : ℕ}
        → Turn n table' output' answers' start used i → length n.ends ≤ i
        → AnsweredBacklog (backlog n) (Ok used) table' output' answers'
    turns_answered h l =
        let is = backlog_accepted n fits in
        let all = turn_last n h l in
        record { own = record { is = rw (is, all); numbered = tt }; list = rw (is, all) h.answers_are }
