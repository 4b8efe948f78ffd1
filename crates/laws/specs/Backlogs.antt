-- Document 02, §2: the words in which what a backlog promises is stated. Assumes nothing.
use Rattle.std.specs.Prelude.{ℕ, zero, suc, ◌+◌, ◌-◌, ◌*◌, ◌<◌, ◌≡◌, List, ◌∷◌, length, take, drop, get_or}
use Rattle.spec.specs.Calls.{Answer}
use Rattle.spec.specs.Backlog.{streams, answer_width, Evaluations, in_turn, Backlogged, Backlog}
use Rattle.laws.specs.Demands.{Lent, evaluation, NoSmaller}

-- what a backlog is given: a buffer of streams, their ends, what they are evaluated with, and a list for the answers
pub record Night : Type 0 where
  pub buffer : List ℕ
  pub ends : List ℕ
  pub lent : Lent
  pub answers : List ℕ

abbrev pub backlog : Night → Backlogged
backlog n = Backlog n.buffer n.ends n.lent.table n.lent.work n.lent.output n.lent.steps n.answers

-- what its evaluations leave, one after another
abbrev pub evaluations : Night → Evaluations
evaluations n = in_turn (streams 0 n.ends n.buffer) n.lent.table n.lent.work n.lent.output n.lent.steps

-- where stream i starts: at the end of the one before
abbrev pub start_of : List ℕ → ℕ → ℕ
start_of ends i = get_or (0 ∷ ends) i 0

-- stream i
abbrev pub stream_at : Night → ℕ → List ℕ
stream_at n i = let start = start_of n.ends i in take (get_or n.ends i 0 - start) (drop start n.buffer)

-- the lengths in the answers of the first i streams, added
unfoldable pub lengths_before : ℕ → List ℕ → ℕ
lengths_before zero answers = 0
lengths_before (suc i) answers = get_or answers 2 0 + lengths_before i (drop answer_width answers)

-- "with the output left to it": what stream i is evaluated with, as the lengths in a list of answers tell
abbrev pub left_by_lengths : Night → List ℕ → ℕ → Lent
left_by_lengths n answers i = record {
  table = n.lent.table;
  work = n.lent.work;
  output = drop (lengths_before i answers) n.lent.output;
  steps = n.lent.steps;
}

abbrev pub left_to : Night → ℕ → Lent
left_to n i = left_by_lengths n (backlog n).answers i

-- what is said of stream i by its four numbers in a list of answers, with the output from its result on
abbrev pub said_of : List ℕ → List ℕ → List ℕ → ℕ → Answer
said_of answers table output i = let own = drop (answer_width * i) answers in record {
  number = get_or own 0 0;
  place = get_or own 1 0;
  given = get_or own 2 0;
  steps = get_or own 3 0;
  table = table;
  output = drop (lengths_before i answers) output;
}

-- what a backlog says of stream i
abbrev pub said : Night → ℕ → Answer
said n i = let b = backlog n in said_of b.answers b.own.table b.own.output i

-- what Evaluate says of stream i alone, with the output left to it
abbrev pub alone : Night → ℕ → Answer
alone n i = evaluation (stream_at n i) (left_to n i)

-- the lent buffers after an answer: as long as they were; "Numbers past the last stream's answer are unchanged", and so are the bytes past the
-- results' total length
pub record KeptNight (n : Night) (b : Backlogged) : Type 0 where
  pub tables : length b.own.table ≡ length n.lent.table
  pub outputs : length b.own.output ≡ length n.lent.output
  pub lists : length b.answers ≡ length n.answers
  pub past_answers : drop (answer_width * length n.ends) b.answers ≡ drop (answer_width * length n.ends) n.answers
  pub past_results : drop b.own.given b.own.output ≡ drop b.own.given n.lent.output

-- where 23 doesn't arise: two streams, i of the first backlog and j of the second
pub record Two (n m : Night) (i j : ℕ) : Type 0 where
  pub first_goes : (backlog n).own.number ≡ 0
  pub second_goes : (backlog m).own.number ≡ 0
  pub first : i < length n.ends
  pub second : j < length m.ends

-- a night given again, with steps, workspace and output each no smaller; 23 arises neither time
pub record Again (n m : Night) : Type 0 where
  pub buffers : n.buffer ≡ m.buffer
  pub ends : n.ends ≡ m.ends
  pub lent : NoSmaller n.lent m.lent
  pub first_goes : (backlog n).own.number ≡ 0
  pub second_goes : (backlog m).own.number ≡ 0
