-- A call with its answer, and parts of streams, for tables whose answers are computed. Assumes nothing.
use Prim.Native.Nat.{ℕ, zero, suc, ◌+◌}
use mathlib.Core.List.{List, [], ◌∷◌, ◌++◌, map}
use lib.ListN.{length, replicate}
use Rattle.spec.specs.Expr.{same, some, Exprs, append, size, first, without, rows, depth, array_head, marker_bytes, atom_bytes, bytes}
use Rattle.spec.specs.Reading.{take_bytes, natural, plain_length, length_expr, marker, name, read_atom, token, tokens, check, lists, ends, rows_of, next_row, numbers, Reading, refused, readable, read}
use Rattle.spec.specs.Nodes.{among, word, number, unnumbered, markers}
use Rattle.spec.specs.Bytecode.{if_listed, series, arities, all, short, node_depth, nodes, transformed_all, gathered, linked, transform}
use Rattle.spec.specs.Runs.{hold_events, steps_in}
use Rattle.spec.specs.Plan.{look_up, plan_form, plan_atom}
use Rattle.spec.specs.Evaluation.{join, in_order, rule, run_code, top_level, run, result}
use Rattle.spec.specs.Calls.{Answer, put_out, run_answer, Read, Write, Evaluate, Buffer, Part, item, Item}
use Rattle.spec.specs.Backlog.{streams, some_below, last_end, is_23, in_turn, Backlogged, Backlog}

-- A call. Every buffer but those of streams and of ends is given by its length, and holds EE before.
pub data Request : Type 0 where
  -- stream, table
  reads : List ℕ → ℕ → Request
  -- stream: its meaning, with rows enough
  means : List ℕ → Request
  -- stream, table, output
  writes : List ℕ → ℕ → ℕ → Request
  -- stream, workspace, output, steps; the table has 1,050 rows
  evaluates : List ℕ → ℕ → ℕ → ℕ → Request
  -- stream, table, output: the table that Write leaves
  rewrites : List ℕ → ℕ → ℕ → Request
  -- stream, table, workspace, output, steps: the table that Evaluate leaves
  fills : List ℕ → ℕ → ℕ → ℕ → ℕ → Request
  -- stream, result, which, k
  items : List ℕ → List ℕ → Buffer → ℕ → Request
  -- streams, ends, table, workspace, output, steps, answers: the answers and the output that Backlog leaves
  backlogs : List ℕ → List ℕ → ℕ → ℕ → ℕ → ℕ → ℕ → Request
  -- the same: the answers and the table that it leaves
  backlog_fills : List ℕ → List ℕ → ℕ → ℕ → ℕ → ℕ → ℕ → Request

pub data Told : Type 0 where
  -- number, place, rows or length, steps; and afterwards the table or the output
  told : ℕ → ℕ → ℕ → ℕ → List ℕ → Told
  meaning : Exprs → Told
  item_is : Part → Told
  -- number, place, total length; and afterwards the answers, and the output or the table
  told_each : ℕ → ℕ → ℕ → List ℕ → List ℕ → Told

infix 5 ◌gives◌
pub data Case : Type 0 where
  ◌gives◌ : Request → Told → Case

abbrev pub before : ℕ → List ℕ
before n = replicate n 0xEE

abbrev pub with_table : Answer → Told
with_table a = told a.number a.place a.given a.steps a.table

abbrev pub with_output : Answer → Told
with_output a = told a.number a.place a.given a.steps a.output

abbrev pub each_with_table : Backlogged → Told
each_with_table b = told_each b.own.number b.own.place b.own.given b.answers b.own.table

abbrev pub each_with_output : Backlogged → Told
each_with_output b = told_each b.own.number b.own.place b.own.given b.answers b.own.output

abbrev pub meant : Reading → Told
meant (refused w p) = told w p 0 0 []
meant (readable rows es) = meaning es

abbrev pub answer : Request → Told
answer (reads s t) = with_table (Read s (before t))
answer (means s) = meant (read s (length s))
answer (writes s t o) = with_output (Write s (before t) (before o))
answer (evaluates s w o n) = with_output (Evaluate s (before 4200) w (before o) n)
answer (rewrites s t o) = with_table (Write s (before t) (before o))
answer (fills s t w o n) = with_table (Evaluate s (before t) w (before o) n)
answer (items s r b k) = item_is (Item s r b k)
answer (backlogs s es t w o n a) = each_with_output (Backlog s es (before t) w (before o) n (before a))
answer (backlog_fills s es t w o n a) = each_with_table (Backlog s es (before t) w (before o) n (before a))

abbrev pub asked : Case → Told
asked (q gives a) = answer q

abbrev pub expected : Case → Told
expected (q gives a) = a

-- all that a table's answers are computed by
unfoldable pub answers : List Case → List Told
unfolding same some append size first without rows depth array_head marker_bytes atom_bytes bytes take_bytes natural plain_length length_expr marker name read_atom token tokens check lists ends rows_of next_row numbers read among word number unnumbered markers if_listed series arities all short node_depth nodes transformed_all gathered linked transform hold_events steps_in look_up plan_form plan_atom join in_order rule run_code top_level run result put_out run_answer Read Write Evaluate item Item streams some_below last_end is_23 in_turn Backlog
answers cases = map asked cases

-- Parts of answers and of streams

-- a refusal, with the buffer of so many numbers unchanged
abbrev pub refusal : ℕ → ℕ → ℕ → Told
refusal w p n = told w p 0 0 (before n)

-- an evaluation's result and steps
abbrev pub result_is : List ℕ → ℕ → Told
result_is bs n = told 0 0 (length bs) n bs

-- "V is the six bytes"
abbrev pub version_form : List ℕ
version_form = 0x01 ∷ 0x20 ∷ 0x00 ∷ 0x81 ∷ 0x80 ∷ 0x02 ∷ []

-- the marker 28 with an id
abbrev pub ns_form : List ℕ
ns_form = 0x01 ∷ 0x20 ∷ 0x06 ∷ 0x28 ∷ 0x00 ∷ 0xC1 ∷ 0x41 ∷ 0x02 ∷ []

-- a form, and one that a core name heads
abbrev pub in_form : List ℕ → List ℕ
in_form s = 0x01 ∷ (s ++ (0x02 ∷ []))

abbrev pub core_form : ℕ → List ℕ → List ℕ
core_form n s = in_form (0x20 ∷ n ∷ s)

-- the reference 28 n, and its definition
abbrev pub word_28 : ℕ → List ℕ
word_28 n = 0x28 ∷ n ∷ []

abbrev pub defines : ℕ → List ℕ → List ℕ
defines n s = core_form 0x09 (word_28 n ++ s)

-- an ns form with an id of one byte
abbrev pub space : ℕ → ℕ → List ℕ
space m id = core_form 0x06 (m ∷ 0x00 ∷ 0xC1 ∷ id ∷ [])

abbrev pub joins : List ℕ → List ℕ → List ℕ
joins s u = core_form 0x0A (s ++ u)

-- a subst form, and the forms that speak of arguments
abbrev pub code : List ℕ → List ℕ
code s = core_form 0x0B s

abbrev pub arg_form : ℕ → List ℕ
arg_form n = core_form 0x0C ((0x80 + n) ∷ [])

abbrev pub rest_form : ℕ → List ℕ
rest_form n = core_form 0x0D ((0x80 + n) ∷ [])

-- what is 12 wherever it is evaluated
abbrev pub function_name : List ℕ
function_name = 0x20 ∷ 0x09 ∷ []

-- a function 28 02 that gives its first argument
abbrev pub identity : List ℕ
identity = defines 2 (code (arg_form 0))

-- functions 28 00 to 28 n: the first has this code, each other calls the one before
abbrev pub chain : List ℕ → ℕ → List ℕ
chain s zero = defines 0 (code s)
chain s (suc n) = chain s n ++ defines (suc n) (code (in_form (word_28 n)))

-- the bytes of n forms one inside another, around some others
abbrev pub nested : ℕ → List ℕ → List ℕ
nested n s = replicate n 0x01 ++ s ++ replicate n 0x02

-- V and the ns form, 14 bytes and 5 steps, and after them what is refused, or what leaves some bytes
abbrev pub refuses : List ℕ → ℕ → ℕ → Case
refuses s w p = evaluates (version_form ++ ns_form ++ s) 65536 9 999 gives refusal w p 9

abbrev pub leaves : List ℕ → List ℕ → ℕ → Case
leaves s bs n = evaluates (version_form ++ ns_form ++ s) 65536 (14 + length bs) 999 gives result_is (version_form ++ ns_form ++ bs) n
