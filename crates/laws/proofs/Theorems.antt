-- The demands, as theorems over the definitions of the crate `spec`, in the words of specs/Demands. Above each stands what was demanded. A
-- stream is a list of bytes (`Bytes`); whatever is said of a table or an output is said for all lengths and contents. Assumes nothing.
use Prim.Native.Nat.{ℕ, ◌+◌, ◌*◌, ◌/◌, ◌≤◌, ◌<◌, min}
use mathlib.Core.Path.{◌≡◌, refl, sym, ap, ◌∙◌}
use mathlib.Core.Logic.{◌↔◌}
use mathlib.Core.List.{List, []}
use lib.ListN.{length, take, drop, get_or}
use native.Mathlib.Omega.{arith}
use native.Mathlib.Decide.{ℕ_discrete}
use Rattle.spec.specs.Expr.{Exprs, size, first, rows_all, canonical}
use Rattle.spec.specs.Reading.{tokens, Row, rows_of, row_width, numbers, Reading, refused, readable, read}
use Rattle.spec.specs.Runs.{stopped, steps_in}
use Rattle.spec.specs.Evaluation.{run, result}
use Rattle.spec.specs.Calls.{Answer, refusal, acceptance, filled, put_out, once_read, reading, row_at, Read, Write, Evaluate, Buffer, no_part, chosen, Item}
use Rattle.laws.specs.Demands.{Bytes, Begins, Kept, Lent, evaluation, result_bytes, row_numbers, NoSmaller, SameSizes, Final, Alike, Accepted, meaning_of, SameFirst, left_by, values_of, bytes_of_first, all_steps, with_steps, Counted, SamePrefix}
use Rattle.laws.specs.Grammar.{SpellsAll, all_rows, WellFormed, item_reading, SpellsItem}
use Rattle.laws.specs.Sanity.{Inside, FirstFrom, Proper}
use Rattle.laws.proofs.Canonical.{canonical_append, canonical_bytes}
use Rattle.laws.proofs.Tokens.{tokens_few, check_room}
use Rattle.laws.proofs.Rows.{rows_ordered, rows_inside, ordered_starts, inside_start, next_row_first, numbers_fourth}
use Rattle.laws.proofs.Reading.{stream_laid, read_readable, read_refusal, read_refused, read_enough, meant, read_spelled, read_canonical}
use Rattle.laws.proofs.Parsing.{read_spells}
use Rattle.laws.proofs.Shortest.{all_shortest}
use Rattle.laws.proofs.Items.{spelled_rows, item_spelled, item_past}
use Rattle.laws.proofs.Runs.{cut_more, cut_done}
use Rattle.laws.proofs.Values.{not_rule, run_fits, run_proper}
use Rattle.laws.proofs.Prefix.{run_first, result_split}
use Rattle.laws.proofs.Calls.{put_out_bytes, rows_fit, filled_length, filled_numbers, read_cases, not_read, refuses, accepts, answers_kept, answers_fit, answers_table, answers_counted, answers_place, write_answers, write_out, write_room, Written, written, bounded, Way, way, evaluation_answered, Why, no_version, other_version, stops, too_long, Evaluates, evaluation_answers, reading_fits, CutNumber, for_steps, for_work, for_rule, cut_refused, ran, ran_means, ran_ends, left_values, left_fits}
use Rattle.laws.proofs.Retry.{refusals_alike, put_out_alike, end_alike, same_end_alike, reads_same, evaluations_alike}
use Rattle.laws.proofs.Count.{stepped, steps_stepped, way_enough, OutOfSteps, way_short, stopped_short, ran_all_steps}

-- Demand 1: "Every public call ends and answers for all inputs": the calls are functions on all lists. "Bad input gets the refusal number and
-- place from document 01's table, [..] and the output buffer is then unchanged."

-- a stream that can't be read gets reading's number and place from all three calls, with every buffer as it was
pub unreadable : (s : List ℕ) (l : Lent) (w p : ℕ) → reading s l.table ≡ refused w p
    → (Read s l.table ≡ refusal w p l.table []) × (Write s l.table l.output ≡ refusal w p l.table l.output) × (evaluation s l ≡ refusal w p l.table l.output)
unfolding Read Write Evaluate
unreadable s l w p h = (rw h, rw h, rw h)

-- "The table is unchanged on 1 to 8 given in reading and holds the rows otherwise, also on evaluation's 6."

pub read_table : (s t : List ℕ) (rs : List Row) (es : Exprs) → reading s t ≡ readable rs es → Read s t ≡ acceptance (length rs) 0 (filled rs t) []
unfolding Read
read_table s t rs es h = rw h

pub write_table : (s t o : List ℕ) (rs : List Row) (es : Exprs) → reading s t ≡ readable rs es → (Write s t o).table ≡ filled rs t
write_table s t o = answers_table (write_answers s t o)

pub evaluation_table : (s : List ℕ) (l : Lent) (rs : List Row) (es : Exprs) → reading s l.table ≡ readable rs es
    → (evaluation s l).table ≡ filled rs l.table
evaluation_table s l = answers_table (evaluation_answers s l)

pub read_keeps : (s t : List ℕ) → Kept t [] (Read s t)
read_keeps s t =
    read_cases (Kept t []) s t (λ v p e. record { tables = refl; outputs = refl; past = refl; refused = λ z. refl })
    (λ rs es e. record { tables = filled_length s t rs es e; outputs = refl; past = refl; refused = λ z. refl })

pub write_keeps : (s t o : List ℕ) → Kept t o (Write s t o)
write_keeps s t o = answers_kept (write_answers s t o)

-- what is given of a table or an output is there
pub read_fits : (s t : List ℕ) → row_width * (Read s t).given ≤ length t
read_fits s t = read_cases (λ (a : Answer). row_width * a.given ≤ length t) s t (λ v p e. omega arith) (rows_fit s t)

pub write_fits : (s t o : List ℕ) → (Write s t o).given ≤ length o
write_fits s t o = answers_fit (write_answers s t o)

pub evaluation_fits : (s : List ℕ) (l : Lent) → (evaluation s l).given ≤ length l.output
evaluation_fits s l = answers_fit (evaluation_answers s l)

pub evaluation_keeps : (s : List ℕ) (l : Lent) → Kept l.table l.output (evaluation s l)
evaluation_keeps s l = answers_kept (evaluation_answers s l)

-- Demand 2: "Given table and room enough, two readable streams of equal meaning are written to equal bytes, two of different meaning
-- never, and reading what was written gives the meaning back."

module _ (s : List ℕ) (room : ℕ) (rs : List Row) (es : Exprs) (reads : read s room ≡ readable rs es) where
  -- what is meant does not depend on the number of rows
  pub read_means : es ≡ meaning_of s
  read_means = (read_readable s room rs es reads).means

  -- "Given table [..] enough": as many rows as there are
  pub read_roomy : (room' : ℕ) → length rs ≤ room' → read s room' ≡ readable rs es
  read_roomy = read_enough s room rs es reads

module _ (s : List ℕ) (room : ℕ) (rs : List Row) (es : Exprs) (stream : Bytes s) (reads : read s room ≡ readable rs es) where
  -- given at least as many rows, the canonical bytes of what was read are read as it
  pub read_back : (room' : ℕ) → length rs ≤ room' → read (canonical es) room' ≡ readable (rows_of (tokens 0 0 (canonical es))) es
  read_back room' h =
      let m = meant s room rs es stream reads in
      read_canonical es room' m.fits m.shallow m.short (omega (arith, m.counted))

  -- canonical bytes are never more than the stream's
  pub canonical_shorter : length (canonical es) ≤ length s
  canonical_shorter = (meant s room rs es stream reads).shorter

  -- a stream that is as long as its canonical stream is that stream
  pub canonical_only : length s ≤ length (canonical es) → s ≡ canonical es
  canonical_only = (all_shortest es s stream (read_spells s room rs es stream reads)).only

  -- a canonical stream is written to itself
  pub write_self : (t o : List ℕ) → length rs ≤ length t / row_width → length (canonical es) ≤ length o
      → ((Write (canonical es) t o).number ≡ 0) × (result_bytes (Write (canonical es) t o) ≡ canonical es)
  write_self t o h k =
      let w = write_out (canonical es) t o (rows_of (tokens 0 0 (canonical es))) es (read_back (length t / row_width) h) k in
      (ap (λ (a : Answer). a.number) w, ap result_bytes w ∙ put_out_bytes (canonical es) 0 (filled (rows_of (tokens 0 0 (canonical es))) t) o)

-- canonical bytes are equal exactly when the meanings are
pub canonical_equal : (s s' : List ℕ) (room room' : ℕ) (rs rs' : List Row) (es es' : Exprs) → Bytes s → Bytes s'
    → read s room ≡ readable rs es → read s' room' ≡ readable rs' es' → (canonical es ≡ canonical es') ↔ (es ≡ es')
canonical_equal s s' room room' rs rs' es es' b b' r r' = (same, λ h. ap canonical h)
  where
    same : canonical es ≡ canonical es' → es ≡ es'
    same h =
        let k : ℕ = length rs + length rs' in
        let one = read_back s room rs es b r k (omega arith) in
        let other = read_back s' room' rs' es' b' r' k (omega arith) in
        let both : read (canonical es) k ≡ read (canonical es') k = ap (λ (x : List ℕ). read x k) h in
        cc

-- "and room enough": a readable stream is written exactly if the output has room for its canonical bytes
pub write_accepts : (s t o : List ℕ) (rs : List Row) (es : Exprs) → reading s t ≡ readable rs es
    → ((Write s t o).number ≡ 0) ↔ (length (canonical es) ≤ length o)
write_accepts s t o rs es r = (write_room s t o rs es r, λ h. ap (λ (a : Answer). a.number) (write_out s t o rs es r h))

module _ (s t o : List ℕ) (stream : Bytes s) (accepted : (Write s t o).number ≡ 0) where
  abbrev writing : Written s t o
  writing = written s t o stream accepted

  written_means : writing.meaning ≡ meaning_of s
  written_means = (read_readable s (length t / row_width) writing.rows writing.meaning writing.reads).means

  -- what is written is the canonical stream, and its length is given
  pub write_canonical : result_bytes (Write s t o) ≡ canonical (meaning_of s)
  write_canonical = ap result_bytes writing.is ∙ put_out_bytes (canonical writing.meaning) 0 (filled writing.rows t) o ∙ ap canonical written_means

  pub write_length : (Write s t o).given ≡ length (canonical (meaning_of s))
  write_length = ap (λ (a : Answer). a.given) writing.is ∙ ap (λ (es : Exprs). length (canonical es)) written_means

  pub write_stream : Bytes (result_bytes (Write s t o))
  write_stream =
      let m = meant s (length t / row_width) writing.rows writing.meaning stream writing.reads in
      rw (write_canonical, ← written_means)
      (canonical_bytes writing.meaning m.fits m.short)

  -- "reading what was written gives the meaning back", with the same table
  pub write_read_back : reading (result_bytes (Write s t o)) t ≡ readable (rows_of (tokens 0 0 (result_bytes (Write s t o)))) (meaning_of s)
  write_read_back =
      let m = meant s (length t / row_width) writing.rows writing.meaning stream writing.reads in
      rw (write_canonical, ← written_means)
      (read_back s (length t / row_width) writing.rows writing.meaning stream writing.reads (length t / row_width) (omega (arith, m.counted, m.roomy)))

-- "two readable streams of equal meaning are written to equal bytes, two of different meaning never"
pub write_same : (s s' t t' o o' : List ℕ) → Bytes s → Bytes s' → (Write s t o).number ≡ 0 → (Write s' t' o').number ≡ 0
    → (meaning_of s ≡ meaning_of s') ↔ (result_bytes (Write s t o) ≡ result_bytes (Write s' t' o'))
write_same s s' t t' o o' b b' a a' =
    let m = written_means s t o b a in
    let m' = written_means s' t' o' b' a' in
    let c = write_canonical s t o b a in
    let c' = write_canonical s' t' o' b' a' in
    let same = (canonical_equal s s' (length t / row_width) (length t' / row_width) _ _ _ _ b b' (writing s t o b a).reads (writing s' t' o' b' a').reads).0 in
    (λ h. c ∙ ap canonical h ∙ sym c', λ h. sym m ∙ same (ap canonical m ∙ sym c ∙ h ∙ c' ∙ ap canonical (sym m')) ∙ m')

-- Reading is exactly document 01's: `read` is the parser of the grammar in specs/Grammar, and the rows are those of the spelled expressions.

pub read_grammar : (s : List ℕ) (room : ℕ) (es : Exprs) → Bytes s → ((rs : List Row) × (read s room ≡ readable rs es)) ↔ WellFormed s room es
read_grammar s room es b = (
  λ r. let m = meant s room r.0 es b r.1 in
      record { spells = read_spells s room r.0 es b r.1; shallow = m.shallow; short = (read_readable s room r.0 es r.1).short; roomy = m.roomy },
  λ w. (rows_of (tokens 0 0 s), read_spelled es s room w.spells w.shallow w.short w.roomy),
)

pub read_rows : (s : List ℕ) (room : ℕ) (rs : List Row) (es : Exprs) (spells : SpellsAll es s) → read s room ≡ readable rs es
    → rs ≡ all_rows es s spells 0
read_rows s room rs es sp r = (read_readable s room rs es r).rows_are ∙ spelled_rows es s sp

-- Every result is a stream that can be read, and means the values that were left.

module _ (s : List ℕ) (l : Lent) (stream : Bytes s) (accepted : (evaluation s l).number ≡ 0) where
  pub result_canonical : result_bytes (evaluation s l) ≡ canonical (values_of s)
  result_canonical =
      let r = ran s l stream accepted in
      ap result_bytes r.is
      ∙ put_out_bytes (canonical (result r.left)) (steps_in (run r.meaning).events) (filled r.rows l.table) l.output
      ∙ ap canonical (left_values s l stream accepted)

  pub result_length : (evaluation s l).given ≡ length (canonical (values_of s))
  result_length =
      ap (λ (a : Answer). a.given) (ran s l stream accepted).is ∙ ap (λ (es : Exprs). length (canonical es)) (left_values s l stream accepted)

  pub result_stream : Bytes (result_bytes (evaluation s l))
  result_stream = let f = left_fits s l stream accepted in rw result_canonical (canonical_bytes (values_of s) f.0.0 f.1)

  pub result_readable : (room : ℕ) → rows_all (values_of s) ≤ room
      → read (result_bytes (evaluation s l)) room ≡ readable (rows_of (tokens 0 0 (result_bytes (evaluation s l)))) (values_of s)
  result_readable room h =
      let f = left_fits s l stream accepted in
      rw result_canonical (read_canonical (values_of s) room f.0.0 f.0.1 f.1 h)

  result_begins : (q : ℕ) → Begins (result_bytes (evaluation s l)) (bytes_of_first q s)
  result_begins q =
      let ls = left_by (run (meaning_of s)).end in record {
        back = canonical (result (drop q ls));
        is = result_canonical ∙ ap canonical (result_split q ls) ∙ canonical_append (result (take q ls)) (result (drop q ls));
      }

-- Demand 3: "Take any stream and evaluate it twice, with tables of equal length, and with steps, workspace and output each no smaller the
-- second time, whatever table, workspace and output held before. If the first run accepts, or refuses for a reason other than steps, workspace
-- or output room, the second gives the same number, place, length and step count, and on acceptance the same result bytes."

pub retry : (s : List ℕ) (l m : Lent) → NoSmaller l m → Final (evaluation s l) → Alike (evaluation s l) (evaluation s m)
retry s l m h f =
    evaluations_alike s l m h.tables
    (λ rs es q. same_end_alike (filled rs l.table) (filled rs m.table) l.output m.output h.outputs rs (steps_in (run es).events) _ _
    (cut_more (run es).events (run es).end l.steps m.steps (min l.work 65536) (min m.work 65536) h.steps (omega (arith, h.work))) (rw q at f))

-- an output as long as the workspace that counts is long enough for every result
pub output_enough : (s : List ℕ) (l : Lent) → Bytes s → min l.work 65536 ≤ length l.output → (evaluation s l).number ≡ 18 → ⊥
output_enough s l b long = go (evaluation_answers s l)
  where
    cut_so : {v : ℕ} → CutNumber v → v ≡ 18 → ⊥
    cut_so (for_steps k) z = omega arith
    cut_so (for_work k) z = omega arith
    cut_so (for_rule k) z = not_rule {v = 18} refl k z

    why : {v p : ℕ} (rs : List Row) (es : Exprs) → reading s l.table ≡ readable rs es → Why s l rs es v p → v ≡ 18 → ⊥
    why rs es e no_version z = omega arith
    why rs es e other_version z = omega arith
    why rs es e (stops v r begun c) z = cut_so (cut_refused es (reading_fits s l.table rs es b e) l.steps (min l.work 65536) v r c) z
    why rs es e (too_long ls c h) z =
        let enough = cut_done (run es).events (run es).end l.steps (min l.work 65536) ls c in
        omega (arith, (run_fits es ls (reading_fits s l.table rs es b e) enough.ends).1, enough.work)

    go : {a : Answer} → Evaluates s l a → a.number ≡ 18 → ⊥
    go (not_read v p e) z = omega (arith, (read_refused s (length l.table / row_width) v p b e).1)
    go (refuses rs es e w) z = why rs es e w z
    go (accepts rs es e w room) z = omega arith

-- "whatever table, workspace and output held before": no answer depends on it, whichever it is, 16, 17 and 18 too. Of the workspace only the
-- length counts.

pub contents : (s : List ℕ) (l m : Lent) → SameSizes l m → Alike (evaluation s l) (evaluation s m)
contents s l m h =
    evaluations_alike s l m h.tables
    (λ rs es q. rw (h.steps, h.work)
    (end_alike (filled rs l.table) (filled rs m.table) l.output m.output (omega (arith, h.outputs)) rs (steps_in (run es).events)
    (bounded m es) (λ z. h.outputs)))

pub write_contents : (s t t' o o' : List ℕ) → length t ≡ length t' → length o ≡ length o' → Alike (Write s t o) (Write s t' o')
unfolding Write
write_contents s t t' o o' h k = rw (reads_same s t t' h) (go (reading s t))
  where
    go : (x : Reading)
        → Alike (once_read t o (λ rs es. put_out (canonical es) 0 (filled rs t) o) x) (once_read t' o' (λ rs es. put_out (canonical es) 0 (filled rs t') o') x)
    go (refused w p) = refusals_alike
    go (readable rs es) = put_out_alike (filled rs t) (filled rs t') o o' (omega arith) (canonical es) 0 (λ z. k)

pub read_contents : (s t t' : List ℕ) → length t ≡ length t' → Alike (Read s t) (Read s t') × (row_numbers (Read s t) ≡ row_numbers (Read s t'))
unfolding Read
read_contents s t t' h = rw (reads_same s t t' h) (go (reading s t))
  where
    after : List ℕ → Reading → Answer
    after t x = once_read t [] (λ rs es. acceptance (length rs) 0 (filled rs t) []) x

    go : (x : Reading) → Alike (after t x) (after t' x) × (row_numbers (after t x) ≡ row_numbers (after t' x))
    go (refused w p) = (refusals_alike, refl)
    go (readable rs es) = (record { number = refl; place = refl; given = refl; steps = refl; bytes = λ z. refl }, filled_numbers rs t ∙ sym (filled_numbers rs t'))

-- "The count is always the one that document 01 defines, never above the steps given."

pub count : (s : List ℕ) (l : Lent) → Bytes s → Counted s l (evaluation s l)
count s l b = record {
  accepted = λ h. taken h ∙ ran_all_steps s l (ran s l b h);
  of_run = λ h. taken h ∙ ap (λ (es : Exprs). steps_in (run es).events) (ran_means s l b h);
  refused = answers_counted (evaluation_answers s l);
  bounded = go (ℕ_discrete (evaluation s l).number 0);
}
  where
    taken : (h : (evaluation s l).number ≡ 0) → (evaluation s l).steps ≡ steps_in (run (ran s l b h).meaning).events
    taken h = ap (λ (a : Answer). a.steps) (ran s l b h).is

    go : Dec ((evaluation s l).number ≡ 0) → (evaluation s l).steps ≤ l.steps
    go (yes h) = omega (arith, taken h, (ran s l b h).enough.steps)
    go (no h) = omega (arith, answers_counted (evaluation_answers s l) h)

-- "and the refusal for steps comes exactly when document 01's rules would next take a step beyond them", at the expression that would take it:
-- `all_steps` lists the places of the steps that the rules take with this table and workspace and no bound on steps

module _ (s : List ℕ) (l : Lent) where
  abbrev its_way : Way s l.table
  its_way = way s l.table

  steps_are : all_steps s l ≡ stepped its_way l.work
  steps_are = steps_stepped s l.table its_way l.work

  short_refused : l.steps < length (all_steps s l) → OutOfSteps (evaluation s l) (get_or (all_steps s l) l.steps 0)
  short_refused h = rw (evaluation_answered s l its_way, steps_are) (way_short s l.table its_way l (rw steps_are at h))

  pub sixteen : Bytes s → ((evaluation s l).number ≡ 16) ↔ (l.steps < length (all_steps s l))
  sixteen b = (go (evaluation_answers s l), λ h. (short_refused h).0)
    where
      why : {v p : ℕ} (rs : List Row) (es : Exprs) → reading s l.table ≡ readable rs es → Why s l rs es v p → v ≡ 16 → l.steps < length (all_steps s l)
      why rs es e no_version z = absurd (omega arith)
      why rs es e other_version z = absurd (omega arith)
      why rs es e (stops v r begun c) z = stopped_short s l rs es b e begun r (c ∙ ap (λ (k : ℕ). stopped k r) z)
      why rs es e (too_long ls c h) z = absurd (omega arith)

      go : {a : Answer} → Evaluates s l a → a.number ≡ 16 → l.steps < length (all_steps s l)
      go (not_read v p e) z = absurd (omega (arith, (read_refused s (length l.table / row_width) v p b e).1))
      go (refuses rs es e w) z = why rs es e w z
      go (accepts rs es e w room) z = absurd (omega arith)

  pub sixteen_place : l.steps < length (all_steps s l) → (evaluation s l).place ≡ get_or (all_steps s l) l.steps 0
  sixteen_place h = (short_refused h).1

  -- "If they accept or refuse within the steps given, that is the answer": with steps enough, how many makes no difference
  pub steps_enough : (n : ℕ) → length (all_steps s l) ≤ l.steps → length (all_steps s l) ≤ n → evaluation s l ≡ evaluation s (with_steps n l)
  steps_enough n h k =
      evaluation_answered s l its_way
      ∙ way_enough s l.table its_way l n (rw steps_are at h) (rw steps_are at k)
      ∙ sym (evaluation_answered s (with_steps n l) its_way)

-- "And take any two accepted streams and any number q. If their first q top-level expressions are equal in meaning, these give the same
-- bytes in both, and the result bytes of every run that accepts either stream begin with them."

pub prefix : (q : ℕ) (s s' : List ℕ) → Bytes s → Bytes s' → Accepted s → Accepted s' → SameFirst q s s' → SamePrefix q s s'
prefix q s s' b b' a a' f = record { same = same; begins = λ l h. result_begins s l b h q; begins' = λ l h. rw same (result_begins s' l b' h q) }
  where
    same : bytes_of_first q s ≡ bytes_of_first q s'
    same =
        let e = ran_ends s a.lent b a.accepts in
        let e' = ran_ends s' a'.lent b' a'.accepts in
        let one = run_first q (meaning_of s) _ e in
        let other = run_first q (meaning_of s') _ e' in
        let equal : (run (first q (meaning_of s))).end ≡ (run (first q (meaning_of s'))).end = ap (λ (es : Exprs). (run es).end) f.equal in
        let taken : take q (ran s a.lent b a.accepts).left ≡ take q (ran s' a'.lent b' a'.accepts).left = cc in
        rw (e, e') (ap (λ x. canonical (result x)) taken)

-- Laws that a wrong definition would not meet, in the words of specs/Sanity

module _ (s : List ℕ) (room : ℕ) (rs : List Row) (es : Exprs) (stream : Bytes s) (reads : read s room ≡ readable rs es) where
  -- there is a row for each expression
  pub rows_counted : length rs ≡ rows_all es
  rows_counted = (meant s room rs es stream reads).counted

  -- rows stand in the order of their starts
  pub rows_in_order : (i j : ℕ) → i < j → j < length rs → (row_at rs i).start < (row_at rs j).start
  rows_in_order i j h k =
      let r = read_readable s room rs es reads in
      ordered_starts _ 0 rs (rw r.rows_are (rows_ordered (length s) r.well 0 (stream_laid s stream))) i j h k

  -- each starts before it ends, and ends in the stream
  pub rows_in_stream : Inside (length s) rs
  rows_in_stream =
      let r = read_readable s room rs es reads in
      rw r.rows_are (rows_inside (length s) r.well 0 (stream_laid s stream))

  -- a row's fourth number is the first row that starts at or after its end
  pub row_fourth : (i : ℕ) → i < length rs → FirstFrom (row_at rs i).end rs (row_at [] 0) (get_or (numbers rs rs) (row_width * i + 3) 0)
  row_fourth i h = rw (numbers_fourth (row_at [] 0) rs rs i h) (next_row_first (row_at [] 0) (row_at rs i).end rs)

  -- a run names only rows of the table, and its own refusals are 6, 11 to 15, 19 and 22
  pub run_names_rows : Proper (length rs) (run es)
  run_names_rows = rw rows_counted (run_proper es (meant s room rs es stream reads).fits)

-- a refusal's place is at most the stream's length; of a stream that can't be read it is a byte of the stream

pub unread_place : (s t : List ℕ) (w p : ℕ) → Bytes s → reading s t ≡ refused w p → p < length s
unread_place s t w p b h = (read_refused s (length t / row_width) w p b h).2

pub read_place : (s t : List ℕ) → Bytes s → (Read s t).place ≤ length s
read_place s t b =
    read_cases (λ (a : Answer). a.place ≤ length s) s t (λ v p e. omega (arith, unread_place s t v p b e)) (λ rs es e. omega arith)

pub write_place : (s t o : List ℕ) → Bytes s → (Write s t o).place ≤ length s
write_place s t o b = answers_place b (λ rs es v p e w. omega (arith, w.1)) (write_answers s t o)

pub evaluation_place : (s : List ℕ) (l : Lent) → Bytes s → (evaluation s l).place ≤ length s
evaluation_place s l b = answers_place b go (evaluation_answers s l)
  where
    go : (rs : List Row) (es : Exprs) (v p : ℕ) → reading s l.table ≡ readable rs es → Why s l rs es v p → p ≤ length s
    go rs es _ _ e no_version = omega arith
    go rs es _ _ e other_version = omega arith
    go rs es _ _ e (stops v r begun c) =
        inside_start (row_at [] 0) (length s) rs (rows_in_stream s (length l.table / row_width) rs es b e) (omega arith) r
    go rs es _ _ e (too_long ls c h) = omega arith

-- Item: the part of the buffer asked for that spells expression k; no part, if there is no such expression or the buffer can't be read

module _ (stream result : List ℕ) (b : Buffer) (k : ℕ) where
  pub item_given : (rs : List Row) (es : Exprs) → Bytes (chosen b stream result) → item_reading stream result b ≡ readable rs es → k < size es
      → SpellsItem b (chosen b stream result) es k (Item stream result b k)
  unfolding Item
  item_given rs es bytes r h =
      let s = chosen b stream result in
      rw r (item_spelled b s es k rs (read_spells s (length s) rs es bytes r) (read_readable s (length s) rs es r).rows_are h)

  pub item_absent : (rs : List Row) (es : Exprs) → item_reading stream result b ≡ readable rs es → size es ≤ k → Item stream result b k ≡ no_part
  unfolding Item
  item_absent rs es r h = rw r (item_past b k es rs h)

  pub item_unread : (w p : ℕ) → item_reading stream result b ≡ refused w p → Item stream result b k ≡ no_part
  unfolding Item
  item_unread w p r = rw r

-- Item reads with as many rows as bytes: more make no difference, and 8 does not arise
pub item_rows : (s : List ℕ) (room : ℕ) → length s ≤ room → read s room ≡ read s (length s)
unfolding read
item_rows s room h =
    let few = tokens_few s 0 0 in
    rw (check_room 0 room (length s) (tokens 0 0 s) 0 0 (omega arith) (omega arith))

pub item_eight : (s : List ℕ) (w p : ℕ) → Bytes s → read s (length s) ≡ refused w p → w ≤ 7
item_eight s w p b h = omega (arith, read_refusal s (length s) w p b h)
