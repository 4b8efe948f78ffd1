-- What an answer gives is there: for callers that go on to use the rows, the bytes or the part. Document 01: "The calls". Assumes nothing.
use Prim.Native.Nat.{ℕ, ◌+◌, ◌*◌, ◌≤◌}
use mathlib.Core.Path.{◌≡◌, sym, ap}
use mathlib.Core.List.{List, []}
use native.Mathlib.Omega.{arith}
use lib.ListN.{length}
use denote.Ref.{Bor}
use Rattle.std.specs.Prelude.{Result, Ok, Option, Some}
use Rattle.spec.specs.Reading.{row_width}
use Rattle.spec.specs.Calls.{Answer, acceptance, Read, Write, Evaluate, Buffer, part, Item}
use Rattle.spec.specs.Backlog.{answer_width, Backlog}
use Rattle.laws.specs.Demands.{Kept, Lent}
use Rattle.laws.specs.Backlogs.{Night, backlog}
use Rattle.laws.proofs.Theorems.{read_keeps, write_keeps, read_fits, write_fits, evaluation_keeps, evaluation_fits}
use Rattle.laws.proofs.Backlogs.{backlog_keeps, backlog_fits, backlog_places}
use Rattle.atoms.specs.declared.refusal.Refusal.{Refusal}
use Rattle.reader.specs.declared.Part.{Part as Place}
use Rattle.evaluator.specs.declared.Evaluation.{Evaluation}
use Rattle.bulk.specs.Answers.{Answered, AnsweredEvaluation, AnsweredBacklog, of_buffer, PartItself}

-- an acceptance leaves in table and output what it gives
module _ {a : Answer} (t o t' o' : List ℕ) (n k : ℕ) (is : acceptance n k t' o' ≡ a) (keeps : Kept t o a) where
  rows_there : row_width * a.given ≤ length t → row_width * n ≤ length t'
  rows_there fits = let n-fits = rw (← is) at fits in let kept = rw (← is) at keeps in omega (arith, kept.tables)

  bytes_there : a.given ≤ length o → n ≤ length o'
  bytes_there fits = let n-fits = rw (← is) at fits in let kept = rw (← is) at keeps in omega (arith, kept.outputs)

module _ (r : Result ℕ Refusal) (n : ℕ) (s t t' : List ℕ) (accepted : r ≡ Ok n) where
  pub given_rows : Answered (Read s t) r t' [] → row_width * n ≤ length t'
  given_rows h = rows_there t [] t' [] n 0 (rw accepted at h.is) (read_keeps s t) (read_fits s t)

  pub given_bytes : (o o' : List ℕ) → Answered (Write s t o) r t' o' → n ≤ length o'
  given_bytes o o' h = bytes_there t o t' o' n 0 (rw accepted at h.is) (write_keeps s t o) (write_fits s t o)

pub given_result : (r : Result Evaluation Refusal) (e : Evaluation) (s t t' o o' : List ℕ) (work steps : ℕ) → r ≡ Ok e
    → AnsweredEvaluation (Evaluate s t work o steps) r t' o' → e.length ≤ length o'
given_result r e s t t' o o' work steps accepted h =
    let l : Lent = record { table = t; work = work; output = o; steps = steps } in
    bytes_there t o t' o' e.length e.steps (rw accepted at h.is) (evaluation_keeps s l) (evaluation_fits s l)

-- a backlog's results are in the output, and four numbers for each stream are in the list of answers
pub given_backlog : (r : Result ℕ Refusal) (n : ℕ) (b ends t t' o o' list list' : List ℕ) (work steps : ℕ) → r ≡ Ok n → AnsweredBacklog (Backlog b ends t work o steps list) r t' o' list'
    → (n ≤ length o') × (answer_width * length ends ≤ length list')
given_backlog r n b ends t t' o o' list list' work steps accepted h =
    let night : Night = record { buffer = b; ends = ends; lent = record { table = t; work = work; output = o; steps = steps }; answers = list } in
    let is : acceptance n 0 t' o' ≡ (backlog night).own = rw accepted at h.own.is in
    let total : n ≡ (backlog night).own.given = ap (λ (a : Answer). a.given) is in
    let left : length o' ≡ length (backlog night).own.output = ap (λ (a : Answer). length a.output) is in
    let goes : (backlog night).own.number ≡ 0 = ap (λ (a : Answer). a.number) (sym is) in
    (omega (arith, total, left, backlog_fits night, (backlog_keeps night).outputs), rw h.list (backlog_places night goes))

-- Item's part goes from its place's start to its end
pub given_part : (b : Buffer) (stream result x : Bor (List ℕ)) (k : ℕ) (place : Option Place) (p : Place) → of_buffer b place ≡ Item stream.now result.now b k
    → place ≡ Some p → PartItself (Item stream.now result.now b k) stream result x → p.start + length x.now ≡ p.end
given_part b stream result x k place p told at part_is =
    let it : PartItself (part b p.start p.end) stream result x = rw (← told, at) at part_is in
    it.place.size
