-- What a call's answer gives, and what it leaves in the buffers, is the definition's. Document 01: "For any answer that is an enum". Assumes nothing.
use mathlib.Core.Path.{◌≡◌, ap, ◌∙◌}
use mathlib.Core.List.{List}
use Prim.Native.Nat.{ℕ}
use lib.ListN.{length}
use denote.Ref.{Bor}
use native.Mathlib.Omega.{arith}
use Rattle.std.specs.Prelude.{Result, Ok, Err}
use Rattle.spec.specs.Calls.{Answer, Part, part, no_part}
use Rattle.spec.specs.Backlog.{Backlogged}
use Rattle.bulk.specs.declared.Refusal.{Refusal}
use Rattle.bulk.specs.declared.Evaluation.{Evaluation}
use Rattle.bulk.specs.Answers.{Answered, AnsweredEvaluation, AnsweredBacklog, PartItself}
use Rattle.bulk_bench.specs.Given.{given, result, size, Gives, GivesBacklog}

-- an answer's parts, where it is as stated
parts : (a b : Answer) (r : ℕ) → r ≡ b.given → b ≡ a → Gives a r b.table b.output
parts a b r e h = record {
  number = e ∙ ap (λ (x : Answer). x.given) h;
  rows = ap (λ (x : Answer). x.table) h;
  bytes = ap (λ (x : Answer). x.output) h;
}

pub given_is : (a : Answer) (r : Result ℕ Refusal) (n : ℕ) (t o : List ℕ) → n ≡ given r → Answered a r t o → Gives a n t o
given_is a (Ok k) n t o e h = parts a _ n e h.is
given_is a (Err r) n t o e h = parts a _ n e h.is

pub result_is : (a : Answer) (r : Result Evaluation Refusal) (n : ℕ) (t o : List ℕ) → n ≡ result r → AnsweredEvaluation a r t o → Gives a n t o
result_is a (Ok v) n t o e h = parts a _ n e h.is
result_is a (Err r) n t o e h = parts a _ n e h.is

pub backlog_is :
    (a : Backlogged) (r : Result ℕ Refusal) (n : ℕ) (t o l : List ℕ) → n ≡ given r → AnsweredBacklog a r t o l → GivesBacklog a n t o l
backlog_is a r n t o l e h = record { own = given_is a.own r n t o e h.own; list = h.list }

pub item_is : (it : Part) (stream result x : Bor (List ℕ)) → PartItself it stream result x → length x.now ≡ size it
item_is (part b start end) stream result x h = let e = h.place.size in omega arith
item_is no_part stream result x h = ap length h.bytes
