-- The demands, as theorems about what the public calls answer and leave in their buffers. Above each stands what was demanded, and what it says
-- for a caller. They follow from the theorems over the definitions, since an answer and its buffers are decided by what the definition answers.
-- Assumes nothing.
use Prim.Native.Nat.{ℕ, ◌*◌, ◌/◌, ◌≤◌, ◌<◌}
use mathlib.Core.Path.{◌≡◌, refl, sym, ap, ◌∙◌}
use mathlib.Core.Logic.{◌↔◌}
use mathlib.Core.List.{List, []}
use lib.ListN.{length, take, get_or}
use denote.Ref.{Bor}
use lib.Dec.{eqb}
use borrow.Author.Tests.{ne_eqb}
use native.Mathlib.Omega.{arith}
use Rattle.std.specs.Prelude.{Result, Ok, Err}
use Rattle.spec.specs.Expr.{when◌then◌else◌, rows_all, canonical}
use Rattle.spec.specs.Reading.{tokens, rows_of, row_width, refused, readable, read}
use Rattle.spec.specs.Runs.{steps_in}
use Rattle.spec.specs.Evaluation.{run}
use Rattle.spec.specs.Calls.{Answer, refusal, acceptance, reading, Read, Write, Evaluate, Buffer, part, chosen}
use Rattle.atoms.specs.Refusals.{number, told}
use Rattle.atoms.specs.declared.refusal.Refusal.{Refusal}
use Rattle.laws.specs.Demands.{Bytes, Kept, Lent, evaluation, result_bytes, row_numbers, NoSmaller, SameSizes, Final, Alike, meaning_of, CanRead, SameFirst, values_of, all_steps, with_steps, SamePrefix}
use Rattle.laws.proofs.Reading.{read_refused}
use Rattle.laws.proofs.Calls.{write_out}
use Rattle.laws.proofs.Theorems as laws
use Rattle.reader.proofs.Finding.{spelled_some}
use Rattle.evaluator.specs.declared.Evaluation.{Evaluation}
use Rattle.bulk.specs.Answers.{stated, Numbered, stated_evaluation, AnsweredEvaluation, asked, PartItself}
use Rattle.bulk.specs.Promises.{Call, EvaluateCall, ItemCall, NoSuchItem, unread, absent, FinalAnswer, SameStory, Accepting, SameBeginning}
use Rattle.bulk.specs.declared.Buffer.{Buffer as Which}
use Rattle.atoms.proofs.Reasons.{number_positive}
use Rattle.bulk.proofs.Telling.{told_number, told_place, told_one}
use Rattle.bulk.proofs.Items.{ItemIs, nothing, something, item_is}

-- A call of `evaluate`, from what its contract says; w is what the workspace held. (Of `read` and `write` the contract is the record's last field.)
pub evaluate_call : (s t w o : List ℕ) (steps : ℕ) (r : Result Evaluation Refusal) (t' o' : List ℕ) → AnsweredEvaluation (Evaluate s t (length w) o steps) r t' o'
    → EvaluateCall s (record { table = t; work = length w; output = o; steps = steps })
evaluate_call s t w o steps r t' o' h = record { answer = r; table = t'; output = o'; told = h }

-- What a call answers is decided by the definition's number, place, length and count.

abbrev pub given_by : Answer → Result ℕ (ℕ × ℕ)
given_by a = when eqb a.number 0 then Ok a.given else Err (a.number, a.place)

abbrev pub evaluation_by : Answer → Result Evaluation (ℕ × ℕ)
evaluation_by a = when eqb a.number 0 then Ok (record { length = a.given; steps = a.steps }) else Err (a.number, a.place)

given_decided : (r : Result ℕ Refusal) (t o : List ℕ) → Numbered r → told r ≡ given_by (stated r t o)
given_decided (Ok n) t o h = refl
given_decided (Err r) t o h = rw (ne_eqb (number r.reason) 0 (λ e. omega arith))

evaluation_decided : (r : Result Evaluation Refusal) (t o : List ℕ) → Numbered r → told r ≡ evaluation_by (stated_evaluation r t o)
evaluation_decided (Ok e) t o h = refl
evaluation_decided (Err r) t o h = rw (ne_eqb (number r.reason) 0 (λ e. omega arith))

refusal_told : (r : Result ℕ Refusal) (w p : ℕ) (t o : List ℕ) → told r ≡ Err (w, p) → stated r t o ≡ refusal w p t o
refusal_told (Ok n) w p t o e = cc
refusal_told (Err r) w p t o e = rw (told_number r w p e, told_place r w p e)

evaluation_told : (r : Result Evaluation Refusal) (w p : ℕ) (t o : List ℕ) → told r ≡ Err (w, p) → stated_evaluation r t o ≡ refusal w p t o
evaluation_told (Ok a) w p t o e = cc
evaluation_told (Err r) w p t o e = rw (told_number r w p e, told_place r w p e)

module _ {a : Answer} (x : Call a) where
  pub decided : told x.answer ≡ given_by a
  decided = given_decided x.answer x.table x.output x.told.numbered ∙ ap given_by x.told.is

  -- the answer itself, where it is an acceptance
  pub given_as : (n : ℕ) → given_by a ≡ Ok n → x.answer ≡ Ok n
  given_as n h = told_one x.answer (Ok n) (decided ∙ h)

  pub accepted_as : (n : ℕ) → x.answer ≡ Ok n → acceptance n 0 x.table x.output ≡ a
  accepted_as n h = rw h at x.told.is

  pub refused_as : (w p : ℕ) → told x.answer ≡ Err (w, p) → refusal w p x.table x.output ≡ a
  refused_as w p h = sym (refusal_told x.answer w p x.table x.output h) ∙ x.told.is

module _ {s : List ℕ} {l : Lent} (x : EvaluateCall s l) where
  pub decided_evaluation : told x.answer ≡ evaluation_by (evaluation s l)
  decided_evaluation = evaluation_decided x.answer x.table x.output x.told.numbered ∙ ap evaluation_by x.told.is

  result_as : (e : Evaluation) → x.answer ≡ Ok e → acceptance e.length e.steps x.table x.output ≡ evaluation s l
  result_as e h = rw h at x.told.is

  evaluation_refused : (w p : ℕ) → told x.answer ≡ Err (w, p) → refusal w p x.table x.output ≡ evaluation s l
  evaluation_refused w p h = sym (evaluation_told x.answer w p x.table x.output h) ∙ x.told.is

-- the number 0, of an answer that is an acceptance
pub is_zero : {a : Answer} (n k : ℕ) (t o : List ℕ) → acceptance n k t o ≡ a → a.number ≡ 0
is_zero n k t o e = ap (λ (a : Answer). a.number) (sym e)

-- Demand 1: "Every public call ends and answers for all inputs, with buffers of all lengths": the contracts ask nothing of a caller. "Bad input
-- gets the refusal number and place from document 01's table, [..] and the output buffer is then unchanged. No caller must check first."

-- a refusal leaves the output as it was
unchanged : {a : Answer} (t o : List ℕ) → Kept t o a → (w p : ℕ) (t' o' : List ℕ) → 1 ≤ w → refusal w p t' o' ≡ a → o' ≡ o
unchanged {a} t o keeps w p t' o' h e =
    ap (λ (x : Answer). x.output) e ∙ keeps.refused (λ z. let n : w ≡ a.number = ap (λ (x : Answer). x.number) e in omega arith)

-- A caller of `write` that is refused finds in its output what it had put there.
pub write_refused : (s t o : List ℕ) (x : Call (Write s t o)) (r : Refusal) → x.answer ≡ Err r → x.output ≡ o
write_refused s t o x r h =
    unchanged t o (laws.write_keeps s t o) (number r.reason) r.place x.table x.output (number_positive r.reason) (rw h at x.told.is)

-- So does a caller of `evaluate`.
pub evaluate_refused : (s : List ℕ) (l : Lent) (x : EvaluateCall s l) (r : Refusal) → x.answer ≡ Err r → x.output ≡ l.output
evaluate_refused s l x r h =
    unchanged l.table l.output (laws.evaluation_keeps s l) (number r.reason) r.place x.table x.output (number_positive r.reason) (rw h at x.told.is)

-- A stream that can't be read gets reading's number and place from every call.
module _ (s : List ℕ) (l : Lent) (w p : ℕ) (stream : Bytes s) (bad : reading s l.table ≡ refused w p) where
  some : w ≡ 0 → ⊥
  some e = omega (arith, (read_refused s (length l.table / row_width) w p stream bad).0)

  pub read_unreadable : (x : Call (Read s l.table)) → told x.answer ≡ Err (w, p)
  read_unreadable x = decided x ∙ rw ((laws.unreadable s l w p bad).0, ne_eqb w 0 some)

  pub write_unreadable : (x : Call (Write s l.table l.output)) → told x.answer ≡ Err (w, p)
  write_unreadable x = decided x ∙ rw ((laws.unreadable s l w p bad).1, ne_eqb w 0 some)

  pub evaluate_unreadable : (x : EvaluateCall s l) → told x.answer ≡ Err (w, p)
  evaluate_unreadable x = decided_evaluation x ∙ rw ((laws.unreadable s l w p bad).2, ne_eqb w 0 some)

-- Demand 2: "Given table and room enough, two readable streams of equal meaning are written to equal bytes, two of different meaning never,
-- and reading what was written gives the meaning back."

-- "Given table and room enough": `write` accepts a stream that can be read, if the table has as many rows as there are expressions and the output
-- has room for the canonical bytes, and gives their number.
pub write_enough : (s t o : List ℕ) → CanRead s → length (rows_of (tokens 0 0 s)) ≤ length t / row_width → length (canonical (meaning_of s)) ≤ length o
    → (x : Call (Write s t o)) → x.answer ≡ Ok (length (canonical (meaning_of s)))
write_enough s t o can rows room x =
    let reads = laws.read_roomy s (length s) (rows_of (tokens 0 0 s)) (meaning_of s) can (length t / row_width) rows in
    given_as x _ (ap given_by (write_out s t o (rows_of (tokens 0 0 s)) (meaning_of s) reads room))

module _ (s t o : List ℕ) (x : Call (Write s t o)) (n : ℕ) (accepted : x.answer ≡ Ok n) where
  is_written : (Write s t o).number ≡ 0
  is_written = is_zero n 0 x.table x.output (accepted_as x n accepted)

  written_bytes : take n x.output ≡ result_bytes (Write s t o)
  written_bytes = ap result_bytes (accepted_as x n accepted)

  -- What `write` leaves in the output, as many bytes as it gives, is the canonical stream of what the stream means.
  pub write_canonical : Bytes s → take n x.output ≡ canonical (meaning_of s)
  write_canonical b = written_bytes ∙ laws.write_canonical s t o b is_written

  -- "reading what was written gives the meaning back": with a table no shorter than `write` had, the bytes written are read as what the stream
  -- means, and `read` accepts them.
  module _ (stream : Bytes s) (u : List ℕ) (table : length t ≤ length u) where
    pub write_read_back : reading (take n x.output) u ≡ readable (rows_of (tokens 0 0 (take n x.output))) (meaning_of s)
    write_read_back =
        let w : List ℕ = result_bytes (Write s t o) in
        let back = laws.write_read_back s t o stream is_written in
        let size : (Read w t).given ≡ length (rows_of (tokens 0 0 w)) = ap (λ (a : Answer). a.given) (laws.read_table w t (rows_of (tokens 0 0 w)) (meaning_of s) back) in
        rw written_bytes (laws.read_roomy w (length t / row_width) (rows_of (tokens 0 0 w)) (meaning_of s) back (length u / row_width) (omega (arith, size, laws.read_fits w t)))

    pub write_read_accepted : (y : Call (Read (take n x.output) u)) → y.answer ≡ Ok (length (rows_of (tokens 0 0 (take n x.output))))
    write_read_accepted y =
        given_as y _ (ap given_by (laws.read_table (take n x.output) u (rows_of (tokens 0 0 (take n x.output))) (meaning_of s) write_read_back))

-- "two readable streams of equal meaning are written to equal bytes, two of different meaning never": of two calls of `write` that accept, each with
-- its own table and output, the bytes written are equal exactly when the streams mean the same.
pub write_same : (s s' t t' o o' : List ℕ) → Bytes s → Bytes s' → (x : Call (Write s t o)) (y : Call (Write s' t' o')) (n n' : ℕ)
    → x.answer ≡ Ok n → y.answer ≡ Ok n' → (meaning_of s ≡ meaning_of s') ↔ (take n x.output ≡ take n' y.output)
write_same s s' t t' o o' b b' x y n n' a a' =
    rw (written_bytes s t o x n a, written_bytes s' t' o' y n' a') (laws.write_same s s' t t' o o' b b' (is_written s t o x n a) (is_written s' t' o' y n' a'))

module _ (s : List ℕ) (l : Lent) (x : EvaluateCall s l) (e : Evaluation) (accepted : x.answer ≡ Ok e) where
  pub is_accepted : (evaluation s l).number ≡ 0
  is_accepted = is_zero e.length e.steps x.table x.output (result_as x e accepted)

  pub left_bytes : take e.length x.output ≡ result_bytes (evaluation s l)
  left_bytes = ap result_bytes (result_as x e accepted)

  -- What `evaluate` leaves in the output, as many bytes as it gives, is the canonical stream of the values left.
  pub result_canonical : Bytes s → take e.length x.output ≡ canonical (values_of s)
  result_canonical b = left_bytes ∙ laws.result_canonical s l b is_accepted

  -- It can be read as these values, with a row for each expression in them.
  pub result_readable : Bytes s → (room : ℕ) → rows_all (values_of s) ≤ room
      → read (take e.length x.output) room ≡ readable (rows_of (tokens 0 0 (take e.length x.output))) (values_of s)
  result_readable b room h = rw left_bytes (laws.result_readable s l b is_accepted room h)

-- Demand 3: "Take any stream and evaluate it twice, with tables of equal length, and with steps, workspace and output each no smaller the
-- second time, whatever table, workspace and output held before. If the first run accepts, or refuses for a reason other than steps, workspace
-- or output room, the second gives the same number, place, length and step count, and on acceptance the same result bytes."

alike_story : (s : List ℕ) (l m : Lent) (x : EvaluateCall s l) (y : EvaluateCall s m) → Alike (evaluation s l) (evaluation s m) → SameStory x y
alike_story s l m x y h = record {
  answers = same;
  bytes = λ e is. let one = result_as x e is in let other = result_as y e (sym same ∙ is) in
      ap result_bytes one ∙ h.bytes (is_zero e.length e.steps x.table x.output one) ∙ sym (ap result_bytes other);
}
  where
    same : x.answer ≡ y.answer
    same = told_one x.answer y.answer (decided_evaluation x ∙ rw (h.number, h.place, h.given, h.steps) (sym (decided_evaluation y)))

is_final : (r : Result Evaluation Refusal) (t o : List ℕ) → FinalAnswer r → Final (stated_evaluation r t o)
is_final (Ok e) t o f = record { steps_suffice = λ z. omega arith; work_fits = λ z. omega arith; output_fits = λ z. omega arith }
is_final (Err r) t o f = record { steps_suffice = f.0; work_fits = f.1; output_fits = f.2 }

-- A caller that is answered anything but 16, 17 or 18 gets that answer again from every later call with as long a table, and no less of anything
-- else; and the same bytes.
pub retry : (s : List ℕ) (l m : Lent) (x : EvaluateCall s l) (y : EvaluateCall s m) → NoSmaller l m → FinalAnswer x.answer → SameStory x y
retry s l m x y h f = alike_story s l m x y (laws.retry s l m h (rw x.told.is at (is_final x.answer x.table x.output f)))

-- "whatever table, workspace and output held before": a caller need not clear its buffers. With buffers as long and as many steps every answer is
-- the same, and so are the bytes or the rows.

pub evaluate_contents : (s : List ℕ) (l m : Lent) (x : EvaluateCall s l) (y : EvaluateCall s m) → SameSizes l m → SameStory x y
evaluate_contents s l m x y h = alike_story s l m x y (laws.contents s l m h)

given_alike : {a b : Answer} (x : Call a) (y : Call b) → Alike a b → x.answer ≡ y.answer
given_alike x y h = told_one x.answer y.answer (decided x ∙ rw (h.number, h.place, h.given) (sym (decided y)))

pub write_contents : (s t t' o o' : List ℕ) (x : Call (Write s t o)) (y : Call (Write s t' o')) → length t ≡ length t' → length o ≡ length o'
    → (x.answer ≡ y.answer) × ((n : ℕ) → x.answer ≡ Ok n → take n x.output ≡ take n y.output)
write_contents s t t' o o' x y h k =
    let alike = laws.write_contents s t t' o o' h k in
    let same = given_alike x y alike in
    (same, λ n e. written_bytes s t o x n e ∙ alike.bytes (is_written s t o x n e) ∙ sym (written_bytes s t' o' y n (sym same ∙ e)))

pub read_contents : (s t t' : List ℕ) (x : Call (Read s t)) (y : Call (Read s t')) → length t ≡ length t'
    → (x.answer ≡ y.answer) × ((n : ℕ) → x.answer ≡ Ok n → take (row_width * n) x.table ≡ take (row_width * n) y.table)
read_contents s t t' x y h =
    let alike = laws.read_contents s t t' h in
    let same = given_alike x y alike.0 in
    (same, λ n e. ap row_numbers (accepted_as x n e) ∙ alike.1 ∙ sym (ap row_numbers (accepted_as y n (sym same ∙ e))))

-- "The count is always the one that document 01 defines, never above the steps given." The count that a caller gets is the number of steps in
-- the run of what the stream means; so many are taken with this table and workspace and no bound on steps. A refusal has no count.
pub count : (s : List ℕ) (l : Lent) → Bytes s → (x : EvaluateCall s l) (e : Evaluation) → x.answer ≡ Ok e
    → (e.steps ≡ steps_in (run (meaning_of s)).events) × (e.steps ≡ length (all_steps s l)) × (e.steps ≤ l.steps)
count s l b x e h =
    let c = laws.count s l b in
    let accepted = is_accepted s l x e h in
    let is : e.steps ≡ (evaluation s l).steps = ap (λ (a : Answer). a.steps) (result_as x e h) in
    (is ∙ c.of_run accepted, is ∙ c.accepted accepted, omega (arith, is, c.bounded))

-- "and the refusal for steps comes exactly when document 01's rules would next take a step beyond them": a caller is told 16 exactly if with this
-- table and workspace, and no bound on steps, more steps would be taken than it gave; the place is that of the expression next to start.
pub sixteen : (s : List ℕ) (l : Lent) → Bytes s → (x : EvaluateCall s l) (p : ℕ)
    → (told x.answer ≡ Err (16, p)) ↔ ((l.steps < length (all_steps s l)) × (p ≡ get_or (all_steps s l) l.steps 0))
sixteen s l b x p = (
  λ h. let is : refusal 16 p x.table x.output ≡ evaluation s l = evaluation_refused x 16 p h in
      let short = (laws.sixteen s l b).0 (ap (λ (a : Answer). a.number) (sym is)) in
      (short, ap (λ (a : Answer). a.place) is ∙ laws.sixteen_place s l short),
  λ h. decided_evaluation x ∙ rw ((laws.sixteen s l b).1 h.0, laws.sixteen_place s l h.0, h.1),
)

-- With steps enough, more of them make no difference, whatever the answer.
pub steps_enough : (s : List ℕ) (l : Lent) (n : ℕ) (x : EvaluateCall s l) (y : EvaluateCall s (with_steps n l))
    → length (all_steps s l) ≤ l.steps → length (all_steps s l) ≤ n → SameStory x y
steps_enough s l n x y h k =
    alike_story s l (with_steps n l) x y
    (rw (laws.steps_enough s l n h k) (record { number = refl; place = refl; given = refl; steps = refl; bytes = λ z. refl }))

-- "And take any two accepted streams and any number q. If their first q top-level expressions are equal in meaning, these give the same
-- bytes in both, and the result bytes of every run that accepts either stream begin with them." What a caller has read of a result does not
-- depend on what came after it in the stream.
pub prefix : (q : ℕ) (s s' : List ℕ) → Bytes s → Bytes s' → Accepting s → Accepting s' → SameFirst q s s' → SameBeginning q s s'
prefix q s s' b b' x x' f = record {
  same = laws_prefix.same;
  begins = λ y. rw (left_bytes s y.lent y.call y.gives y.accepts) (laws_prefix.begins y.lent (is_zero_of y));
  begins' = λ y. rw (left_bytes s' y.lent y.call y.gives y.accepts) (laws_prefix.begins' y.lent (is_zero_of y));
}
  where
    is_zero_of : {s : List ℕ} (x : Accepting s) → (evaluation s x.lent).number ≡ 0
    is_zero_of {s} x = is_accepted s x.lent x.call x.gives x.accepts

    laws_prefix : SamePrefix q s s'
    laws_prefix = laws.prefix q s s' b b' (record { lent = x.lent; accepts = is_zero_of x }) (record { lent = x'.lent; accepts = is_zero_of x' }) f

-- Item: "If that buffer can't be read [..] or has no such item, the part is empty": then, and only then. What a caller gets otherwise has a byte at least.
pub item_empty : (stream result : Bor (List ℕ)) (which : Which) (k : ℕ) (x : ItemCall stream result which k)
    → Bytes (chosen (asked which) stream.now result.now) → (x.given.now ≡ []) ↔ NoSuchItem (chosen (asked which) stream.now result.now) k
item_empty stream result which k x bytes = (λ e. found e (item_is b s r k bytes), none)
  where
    b : Buffer
    b = asked which

    s : List ℕ
    s = stream.now

    r : List ℕ
    r = result.now

    found : x.given.now ≡ [] → ItemIs b s r k → NoSuchItem (chosen b s r) k
    found e (nothing n h) = n
    found e (something es i) =
        let it : PartItself (part b i.from i.to) stream result x.given = rw i.is at x.told in
        absurd (omega (arith, ap length e, it.place.size, i.piece.end, spelled_some i.expr i.bytes i.spells))

    none : NoSuchItem (chosen b s r) k → x.given.now ≡ []
    none (unread w p h) = rw (laws.item_unread s r b k w p h) at x.told.bytes
    none (absent rs es h l) = rw (laws.item_absent s r b k rs es h l) at x.told.bytes
