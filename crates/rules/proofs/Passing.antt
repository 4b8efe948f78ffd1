-- The rules of arg and rest, by what the code asks: of the form's elements, of the nearest code and of the number of its arguments.
-- Document 01: "( arg n ): argument n", "( rest n ): the arguments without the first n", refusals 11 and 15. Assumes nothing.
use Prim.Native.Nat.{ℕ, zero, suc, ◌≤◌, ◌<◌}
use mathlib.Core.Path.{◌≡◌, refl}
use mathlib.Core.List.{List}
use mathlib.Core.Bool.{Bool, true, false}
use mathlib.Core.Logic.{◌⊎◌, inl, inr}
use native.Mathlib.Omega.{arith}
use lib.ListN.{get_or}
use borrow.Author.Tests.{le-leb, lt-leb, lt-ltb, le-ltb}
use Rattle.std.specs.Prelude.{Ok, Err}
use Rattle.spec.specs.Expr.{int, Exprs, none, more, size, without}
use Rattle.spec.specs.Nodes.{Node, leaf, Nodes}
use Rattle.spec.specs.Plan.{Arguments, outside, passed, Plan, refuse, expect_one, expect_int}
use Rattle.atoms.specs.declared.refusal.Reason.TheVariants.{NoArgument}
use Rattle.rows.specs.Rows.{kind, LeafAt}
use Rattle.rows.proofs.Nodes.{kind_int}
use Rattle.rows.proofs.Parts.{OneAt}
use Rattle.workspace.specs.Packed.{packed_from, packed_to}
use Rattle.workspace.proofs.Areas.{stand_none}
use Rattle.workspace.proofs.Spread.{argument_at}
use Rattle.rules.specs.Scope.{View}
use Rattle.rules.specs.Settings.{ArgumentsOf, no_code, in_code}
use Rattle.rules.specs.Planned.{passing, Planned, refuses, repeats}
use Rattle.rules.specs.declared.scope.Scope.{Scope}
use Rattle.rules.specs.declared.here.Frame.{Frame}
use Rattle.rules.specs.declared.plan.Task.TheVariants.{Again}
use Rattle.rules.proofs.Expecting.{refused_int, of_kind}

-- The elements

-- 11, unless the one operand is a small integer
pub number_refused : {s t : List ℕ} {a : ℕ} {es : Nodes} → OneAt s t a es → (rule : ℕ → Plan) → (kind t a ≡ 3 → ⊥) → expect_one es (λ a. expect_int a rule) ≡ refuse 11
number_refused {s} {t} {a} g rule right = rw g.is (refused_int s t a g.first rule g.at (λ v l. absurd (right l.row.kind_is)))

-- which it is if its row is of that kind
pub number_at : {s t : List ℕ} {a : ℕ} {es : Nodes} → (g : OneAt s t a es) → kind t a ≡ 3 → (v : ℕ) × (g.first ≡ leaf a (int v)) × LeafAt s t a (int v)
number_at {s} {t} {a} g is = of_kind s t a 3 int kind_int (λ z. omega arith) g.first g.at is

-- The arguments

without_all : (n : ℕ) (vs : Exprs) → n ≡ size vs → without n vs ≡ none
unfolding size without
without_all zero none h = refl
without_all zero (more v vs) h = absurd (omega arith)
without_all (suc n) none h = absurd (omega arith)
without_all (suc n) (more v vs) h = without_all n vs (omega arith)

outside_code : (all : Bool) (n : ℕ) → passing all n outside ≡ refuse 15
outside_code true n = refl
outside_code false n = refl

above_all : (all : Bool) (n : ℕ) (vs : Exprs) → size vs < n → passing all n (passed vs) ≡ refuse 15
above_all true n vs h = rw (lt-leb n (size vs) h)
above_all false n vs h = rw (le-ltb n (size vs) (omega arith))

module _ {s t w : List ℕ} {floor : ℕ} {v : View} {sc : Scope} {r : ℕ} {e : Node} {args : List ℕ} {frame : Frame} {n : ℕ} where
  -- 15 outside code, or above their number
  pub passed_none : {above : ℕ} {xs : Arguments} (all : Bool) → ArgumentsOf w args frame above xs → (frame.depth ≡ 0) ⊎ ((frame.depth ≡ 0 → ⊥) × (frame.count < n))
      → Planned s t w floor v sc r e (Err NoArgument) (passing all n xs)
  passed_none all (no_code d) h = rw (outside_code all n) (refuses NoArgument)
  passed_none all (in_code {vs} from d c l i g a) (inl z) = absurd (omega arith)
  passed_none all (in_code {vs} from d c l i g a) (inr h) = rw (above_all all n vs (omega arith)) (refuses NoArgument)

  module _ (inside : frame.depth ≡ 0 → ⊥) {all : Bool} where
    -- below their number, it stands there
    pub passed_rest : {above : ℕ} {xs : Arguments} → ArgumentsOf w args frame above xs → all ≡ true → n < 64 → n < frame.count
        → Planned s t w floor v sc r e (Ok (Again (packed_from (get_or args n 0)) frame.end)) (passing all n xs)
    passed_rest (no_code d) is few h = absurd (inside d)
    passed_rest (in_code {vs} from d c l i g a) is few h =
        rw (is, le-leb n (size vs) (omega arith)) (repeats _ _ _ (argument_at w args 0 from frame.end vs n n i g a (omega arith) (omega arith) few).all)

    pub passed_one : {above : ℕ} {xs : Arguments} → ArgumentsOf w args frame above xs → all ≡ false → n < 64 → n < frame.count
        → Planned s t w floor v sc r e (Ok (Again (packed_from (get_or args n 0)) (packed_to (get_or args n 0)))) (passing all n xs)
    passed_one (no_code d) is few h = absurd (inside d)
    passed_one (in_code {vs} from d c l i g a) is few h =
        rw (is, lt-ltb n (size vs) (omega arith)) (repeats _ _ _ (argument_at w args 0 from frame.end vs n n i g a (omega arith) (omega arith) few).own)

    -- at their number, none is left
    pub passed_end : {above : ℕ} {xs : Arguments} → ArgumentsOf w args frame above xs → all ≡ true → n ≤ frame.count → frame.count ≤ n
        → Planned s t w floor v sc r e (Ok (Again frame.end frame.end)) (passing all n xs)
    passed_end (no_code d) is h h' = absurd (inside d)
    passed_end (in_code {vs} from d c l i g a) is h h' =
        rw (is, le-leb n (size vs) (omega arith), without_all n vs (omega arith)) (repeats _ _ _ (stand_none frame.end i))

    pub passed_past : {above : ℕ} {xs : Arguments} → ArgumentsOf w args frame above xs → all ≡ false → frame.count ≤ n → Planned s t w floor v sc r e (Err NoArgument) (passing all n xs)
    passed_past (no_code d) is h = absurd (inside d)
    passed_past (in_code {vs} from d c l i g a) is h = rw (is, le-ltb n (size vs) (omega arith)) (refuses NoArgument)
