-- Document 01, "For demand 3" and "Step count": the words in which the demands are stated. Assumes nothing.
use Rattle.std.specs.Prelude.{ℕ, ◌-◌, ◌*◌, ◌≤◌, ◌<◌, min, ◌≡◌, List, [], ◌∷◌, ◌++◌, map, not, length, take, drop, ltb}
use Rattle.spec.specs.Expr.{when◌then◌else◌, same, Exprs, size, first, canonical}
use Rattle.spec.specs.Reading.{tokens, meaning, rows_of, row_width, Reading, refused, readable, read}
use Rattle.spec.specs.Runs.{Event, step, charge, End, done, stopped, steps_in}
use Rattle.spec.specs.Evaluation.{run, result}
use Rattle.spec.specs.Calls.{Answer, Evaluate, reading, is_versioned, version_bytes, row_at}

-- a list of bytes
abbrev pub Bytes : List ℕ → Type 0
Bytes [] = Unit {0}
Bytes (b ∷ s) = (b < 256) × Bytes s

-- s is `front`, then `back`
pub record Begins (s front : List ℕ) : Type 0 where
  pub back : List ℕ
  pub is : s ≡ front ++ back

-- "the output buffer is then unchanged": an answer to a call with this table and output leaves both as long as they were, past the bytes
-- given the output as it was, and on a refusal all of it
pub record Kept (table output : List ℕ) (a : Answer) : Type 0 where
  pub tables : length a.table ≡ length table
  pub outputs : length a.output ≡ length output
  pub past : drop a.given a.output ≡ drop a.given output
  pub refused : (a.number ≡ 0 → ⊥) → a.output ≡ output

-- what a stream is evaluated with; of the workspace its length
pub record Lent : Type 0 where
  pub table : List ℕ
  pub work : ℕ
  pub output : List ℕ
  pub steps : ℕ

abbrev pub evaluation : List ℕ → Lent → Answer
evaluation s l = Evaluate s l.table l.work l.output l.steps

-- the same with another number of steps
abbrev pub with_steps : ℕ → Lent → Lent
with_steps n l = record { table = l.table; work = l.work; output = l.output; steps = n }

-- "result bytes are the output's first bytes, as many as the length given"
abbrev pub result_bytes : Answer → List ℕ
result_bytes a = take a.given a.output

-- the numbers of the rows that Read has given
abbrev pub row_numbers : Answer → List ℕ
row_numbers a = take (row_width * a.given) a.table

-- "with tables of equal length, and with steps, workspace and output each no smaller the second time"
pub record NoSmaller (l m : Lent) : Type 0 where
  pub tables : length l.table ≡ length m.table
  pub work : l.work ≤ m.work
  pub outputs : length l.output ≤ length m.output
  pub steps : l.steps ≤ m.steps

-- "whatever table, workspace and output held before": two lendings that differ in nothing else
pub record SameSizes (l m : Lent) : Type 0 where
  pub tables : length l.table ≡ length m.table
  pub work : l.work ≡ m.work
  pub outputs : length l.output ≡ length m.output
  pub steps : l.steps ≡ m.steps

-- "accepts, or refuses for a reason other than steps, workspace or output room": an answer that a retry does not change
pub record Final (a : Answer) : Type 0 where
  pub steps_suffice : a.number ≡ 16 → ⊥
  pub work_fits : a.number ≡ 17 → ⊥
  pub output_fits : a.number ≡ 18 → ⊥

-- "the same number, place, length and step count, and on acceptance the same result bytes"
pub record Alike (a b : Answer) : Type 0 where
  pub number : a.number ≡ b.number
  pub place : a.place ≡ b.place
  pub given : a.given ≡ b.given
  pub steps : a.steps ≡ b.steps
  pub bytes : a.number ≡ 0 → result_bytes a ≡ result_bytes b

-- "A stream is accepted if Evaluate gives number 0 for it with some table, workspace, output and steps."
pub record Accepted (s : List ℕ) : Type 0 where
  pub lent : Lent
  pub accepts : (evaluation s lent).number ≡ 0

-- the meaning that `read` gives, if it gives one
abbrev pub meaning_of : List ℕ → Exprs
meaning_of s = meaning (tokens 0 0 s)

-- a stream that can be read, rows apart: there are no more rows than bytes
abbrev pub CanRead : List ℕ → Type 0
CanRead s = read s (length s) ≡ readable (rows_of (tokens 0 0 s)) (meaning_of s)

-- "The first q top-level expressions of two streams are equal in meaning if each stream has at least q and the two lists of these q
-- are equal"
pub record SameFirst (q : ℕ) (s t : List ℕ) : Type 0 where
  pub enough : q ≤ size (meaning_of s)
  pub enough' : q ≤ size (meaning_of t)
  pub equal : first q (meaning_of s) ≡ first q (meaning_of t)

-- what each expression of the top level left; nothing, if the run stopped
abbrev pub left_by : End (List Exprs) → List Exprs
left_by (done ls) = ls
left_by (stopped w r) = []

-- the values that a stream leaves, if it is accepted
abbrev pub values_of : List ℕ → Exprs
values_of s = result (left_by (run (meaning_of s)).end)

-- "The bytes that they give are the canonical bytes of the values that they leave in the result, in order"
abbrev pub bytes_of_first : ℕ → List ℕ → List ℕ
bytes_of_first q s = canonical (result (take q (left_by (run (meaning_of s)).end)))

-- the rows of the steps that a run takes with a workspace "and no bound on steps"
unfoldable pub step_rows : ℕ → List Event → List ℕ
step_rows work [] = []
step_rows work (step r ∷ es) = r ∷ step_rows work es
step_rows work (charge r n ∷ es) = when ltb work n then [] else step_rows (work - n) es

-- the places of the expressions that take a step when "these rules, reading first," are run "with the table, workspace [..] given and no
-- bound on steps"
abbrev pub step_places_once_read : List ℕ → ℕ → Reading → List ℕ
step_places_once_read s work (refused w p) = []
step_places_once_read s work (readable rows es) =
    when not (is_versioned es) then [] else
    when not (same (take 6 s) version_bytes) then [] else
    map (λ r. (row_at rows r).start) (step_rows (min work 65536) (run es).events)

unfoldable pub step_places : List ℕ → List ℕ → ℕ → List ℕ
step_places s table work = step_places_once_read s work (reading s table)

-- of an evaluation; the output plays no part, since 18 comes "last of all"
abbrev pub all_steps : List ℕ → Lent → List ℕ
all_steps s l = step_places s l.table l.work

-- "The count is always the one that document 01 defines, never above the steps given": "the steps taken on acceptance, else zero"; of an
-- answer to the evaluation of a stream
pub record Counted (s : List ℕ) (l : Lent) (a : Answer) : Type 0 where
  pub accepted : a.number ≡ 0 → a.steps ≡ length (all_steps s l)
  pub of_run : a.number ≡ 0 → a.steps ≡ steps_in (run (meaning_of s)).events
  pub refused : (a.number ≡ 0 → ⊥) → a.steps ≡ 0
  pub bounded : a.steps ≤ l.steps

-- "these give the same bytes in both, and the result bytes of every run that accepts either stream begin with them"
pub record SamePrefix (q : ℕ) (s t : List ℕ) : Type 0 where
  pub same : bytes_of_first q s ≡ bytes_of_first q t
  pub begins : (l : Lent) → (evaluation s l).number ≡ 0 → Begins (result_bytes (evaluation s l)) (bytes_of_first q s)
  pub begins' : (l : Lent) → (evaluation t l).number ≡ 0 → Begins (result_bytes (evaluation t l)) (bytes_of_first q s)
