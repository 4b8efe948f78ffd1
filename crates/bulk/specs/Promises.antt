-- The words in which the demands are stated of the public calls. A call stands here as its contract has it: the code's answer, and table and
-- output afterwards, that have answered as the definition does. Assumes nothing.
use Rattle.std.specs.Prelude.{ℕ, ◌+◌, ◌*◌, ◌≤◌, ◌<◌, ◌≡◌, List, ◌++◌, length, take, drop, Result, Ok, Err}
use Rattle.std.specs.Borrow.{Bor}
use Rattle.spec.specs.Expr.{Exprs, append, size}
use Rattle.spec.specs.Reading.{Row, row_width, refused, readable, read}
use Rattle.spec.specs.Calls.{Answer, Read, Item}
use Rattle.laws.specs.Demands.{Begins, Lent, evaluation, meaning_of, bytes_of_first}
use Rattle.laws.specs.Parts.{moved}
use Rattle.laws.specs.Backlogs.{Night, backlog, stream_at, left_by_lengths, said_of}
use Rattle.atoms.specs.Refusals.{number}
use Rattle.atoms.specs.declared.refusal.Refusal.{Refusal}
use Rattle.evaluator.specs.declared.Evaluation.{Evaluation}
use Rattle.bulk.specs.Answers.{Answered, AnsweredEvaluation, AnsweredBacklog, asked, PartItself}
use Rattle.bulk.specs.declared.Buffer.{Buffer as Which}

-- a call of `read` or of `write`; a is what the definition answers to it, Read s t or Write s t o
pub record Call (a : Answer) : Type 0 where
  pub answer : Result ℕ Refusal
  pub table : List ℕ
  pub output : List ℕ
  pub told : Answered a answer table output

-- a call of `evaluate` with a stream and what it was lent. Of the workspace only the length is in it: what it held before can't count.
pub record EvaluateCall (s : List ℕ) (l : Lent) : Type 0 where
  pub answer : Result Evaluation Refusal
  pub table : List ℕ
  pub output : List ℕ
  pub told : AnsweredEvaluation (evaluation s l) answer table output

-- a call of `backlog` with what it was given
pub record BacklogCall (n : Night) : Type 0 where
  pub answer : Result ℕ Refusal
  pub table : List ℕ
  pub output : List ℕ
  pub answers : List ℕ
  pub told : AnsweredBacklog (backlog n) answer table output answers

-- what a call says of stream i
abbrev pub said_by : {n : Night} → BacklogCall n → ℕ → Answer
said_by x i = said_of x.answers x.table x.output i

-- a stream of a backlog in which 23 didn't arise
pub record InBacklog (n : Night) : Type 0 where
  pub call : BacklogCall n
  pub total : ℕ
  pub accepts : call.answer ≡ Ok total
  pub i : ℕ
  pub there : i < length n.ends

module _ {n : Night} (x : InBacklog n) where
  abbrev pub stream_of : List ℕ
  stream_of = stream_at n x.i

  -- "with the output left to it", as the list of answers tells
  abbrev pub lent_to : Lent
  lent_to = left_by_lengths n x.call.answers x.i

  -- what the call says of it
  abbrev pub said_in : Answer
  said_in = said_by x.call x.i

-- "it is refused by 2 at p alone or it can be read": an answer to a stream that is not wrong so far
abbrev pub ReadOrUnfinished : Result ℕ Refusal → Type 0
ReadOrUnfinished (Ok given) = Unit {0}
ReadOrUnfinished (Err r) = number r.reason ≡ 2

-- how many bytes of a stream its caller may pass on after that answer
abbrev pub passes_on : List ℕ → Result ℕ Refusal → ℕ
passes_on s (Ok given) = length s
passes_on s (Err r) = r.place

-- what was accepted in one call with n rows, read in two: the first p bytes of s; and its others, with the bytes that follow. The rows of the one call are
-- those of the two, the second's moved
pub record ReadInTurn (s next table : List ℕ) (x : Call (Read (s ++ next) table)) (n p : ℕ) : Type 0 where
  pub first : ℕ
  pub others : ℕ
  pub counts : n ≡ first + others
  pub front : (y : Call (Read (take p s) table))
      → (y.answer ≡ Ok first) × (take (row_width * first) y.table ≡ take (row_width * first) x.table)
  pub back : (z : Call (Read (drop p s ++ next) table))
      → (z.answer ≡ Ok others) × (moved p first (take (row_width * others) z.table) ≡ take (row_width * others) (drop (row_width * first) x.table))
  pub means : meaning_of (s ++ next) ≡ append (meaning_of (take p s)) (meaning_of (drop p s ++ next))

-- a call of `item` with two lent buffers, and the part that it gave
pub record ItemCall (stream result : Bor (List ℕ)) (which : Which) (k : ℕ) : Type 0 where
  pub given : Bor (List ℕ)
  pub told : PartItself (Item stream.now result.now (asked which) k) stream result given

-- "that buffer can't be read [..] or has no such item"
pub data NoSuchItem (s : List ℕ) (k : ℕ) : Type 0 where
  unread : (w p : ℕ) → read s (length s) ≡ refused w p → NoSuchItem s k
  absent : (rs : List Row) (es : Exprs) → read s (length s) ≡ readable rs es → size es ≤ k → NoSuchItem s k

-- "accepts, or refuses for a reason other than steps, workspace or output room"
abbrev pub FinalAnswer : Result Evaluation Refusal → Type 0
FinalAnswer (Ok e) = Unit {0}
FinalAnswer (Err r) = (number r.reason ≡ 16 → ⊥) × (number r.reason ≡ 17 → ⊥) × (number r.reason ≡ 18 → ⊥)

-- "the second gives the same number, place, length and step count, and on acceptance the same result bytes"
pub record SameStory {s : List ℕ} {l m : Lent} (x : EvaluateCall s l) (y : EvaluateCall s m) : Type 0 where
  pub answers : x.answer ≡ y.answer
  pub bytes : (e : Evaluation) → x.answer ≡ Ok e → take e.length x.output ≡ take e.length y.output

-- a call of `evaluate` that accepts a stream
pub record Accepting (s : List ℕ) : Type 0 where
  pub lent : Lent
  pub call : EvaluateCall s lent
  pub gives : Evaluation
  pub accepts : call.answer ≡ Ok gives

-- "these give the same bytes in both, and the result bytes of every run that accepts either stream begin with them"
pub record SameBeginning (q : ℕ) (s s' : List ℕ) : Type 0 where
  pub same : bytes_of_first q s ≡ bytes_of_first q s'
  pub begins : (x : Accepting s) → Begins (take x.gives.length x.call.output) (bytes_of_first q s)
  pub begins' : (x : Accepting s') → Begins (take x.gives.length x.call.output) (bytes_of_first q s)
