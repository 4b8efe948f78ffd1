-- What the public calls answer: document 01's number and values for each case of an answer that is an enum.
-- Document 01: "For any answer that is an enum, a definition gives this paper's number and values for each of its cases." Assumes nothing.
use Rattle.std.specs.Prelude.{ℕ, ◌+◌, ◌-◌, ◌≤◌, ◌≡◌, List, [], length, take, drop, Result, Ok, Err, Option, Some, None}
use Rattle.std.specs.Borrow.{Bor}
use Rattle.spec.specs.Calls.{Answer, refusal, acceptance, Buffer, of_stream, of_result, Part, part, no_part, chosen}
use Rattle.spec.specs.Backlog.{four_numbers, Backlogged}
use Rattle.atoms.specs.Refusals.{number}
use Rattle.atoms.specs.declared.refusal.Refusal.{Refusal}
use Rattle.reader.specs.declared.Part.{Part as Place}
use Rattle.evaluator.specs.declared.Evaluation.{Evaluation}
use Rattle.bulk.specs.declared.Buffer.{Buffer as Which}
use Rattle.bulk.specs.declared.Buffer.TheVariants.{Stream, Result as OfResult}

-- What Read and Write answer, with the table and the output afterwards. "Acceptance gives number 0 and place 0"; "A refusal gives number and
-- place, counts zero." Neither takes a step.
abbrev pub stated : Result ℕ Refusal → List ℕ → List ℕ → Answer
stated (Ok given) table output = acceptance given 0 table output
stated (Err r) table output = refusal (number r.reason) r.place table output

-- 0 is acceptance's number, so that no refusal has it
abbrev pub Numbered : {A : Type 0} → Result A Refusal → Type 0
Numbered (Ok a) = Unit {0}
Numbered (Err r) = 1 ≤ number r.reason

-- a call has answered as the definition does
pub record Answered (a : Answer) (r : Result ℕ Refusal) (table output : List ℕ) : Type 0 where
  pub is : stated r table output ≡ a
  pub numbered : Numbered r

-- What Evaluate answers: "gives length and steps taken". "The count is the steps taken on acceptance, else zero."
abbrev pub stated_evaluation : Result Evaluation Refusal → List ℕ → List ℕ → Answer
stated_evaluation (Ok e) table output = acceptance e.length e.steps table output
stated_evaluation (Err r) table output = refusal (number r.reason) r.place table output

-- Evaluate has answered as the definition does
pub record AnsweredEvaluation (a : Answer) (r : Result Evaluation Refusal) (table output : List ℕ) : Type 0 where
  pub is : stated_evaluation r table output ≡ a
  pub numbered : Numbered r

-- the four numbers that a backlog gives for a stream that `evaluate` answers so
abbrev pub told_numbers : Result Evaluation Refusal → List ℕ
told_numbers r = four_numbers (stated_evaluation r [] [])

-- the length of its result
abbrev pub told_length : Result Evaluation Refusal → ℕ
told_length r = (stated_evaluation r [] []).given

-- Backlog has answered as the definition does, and left that list of answers
pub record AnsweredBacklog (a : Backlogged) (r : Result ℕ Refusal) (table output answers : List ℕ) : Type 0 where
  pub own : Answered a.own r table output
  pub list : answers ≡ a.answers

-- "which of the two"
abbrev pub asked : Which → Buffer
asked Stream = of_stream
asked OfResult = of_result

-- a place in the buffer that was asked for
abbrev pub of_buffer : Buffer → Option Place → Part
of_buffer b (Some p) = part b p.start p.end
of_buffer b None = no_part

-- the bytes of "the part itself, of one lent buffer or the other"
abbrev pub part_bytes : Part → List ℕ → List ℕ → List ℕ
part_bytes (part b start end) stream result = take (end - start) (drop start (chosen b stream result))
part_bytes no_part stream result = []

-- "of one lent buffer or the other"
abbrev pub lent : Buffer → Bor (List ℕ) → Bor (List ℕ) → Bor (List ℕ)
lent of_stream stream result = stream
lent of_result stream result = result

-- x lies in a buffer from `start` to `end`: in the buffer's block, `start` further on than the buffer itself, and with as many bytes
pub record Lies (buffer x : Bor (List ℕ)) (start end : ℕ) : Type 0 where
  pub block : x.ref_ptr.0 ≡ buffer.ref_ptr.0
  pub offset : x.ref_ptr.1 ≡ buffer.ref_ptr.1 + start
  pub size : start + length x.now ≡ end

-- Where the part that Item gives lies. Of an item that is not there document 01 says that "the part is empty", and nothing else: no place is decided
-- for it. (An item that is there has a byte at least.)
abbrev pub PartLies : Part → Bor (List ℕ) → Bor (List ℕ) → Bor (List ℕ) → Type 0
PartLies (part b start end) stream result x = Lies (lent b stream result) x start end
PartLies no_part stream result x = Unit {0}

-- x is "the part itself, of one lent buffer or the other": it has the part's bytes, and lies where they do
pub record PartItself (it : Part) (stream result x : Bor (List ℕ)) : Type 0 where
  pub bytes : x.now ≡ part_bytes it stream.now result.now
  pub place : PartLies it stream result x
