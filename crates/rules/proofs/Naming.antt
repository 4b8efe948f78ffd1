-- The rule for atoms, by what the code asks: whether it is a reference, whether that is a function name, and what its key finds. Document 01: "A
-- reference has the value of the latest visible definition of that marker and name", refusal 12. Assumes nothing.
use Prim.Native.Nat.{ℕ, ◌≤◌, ◌<◌}
use mathlib.Core.Path.{◌≡◌, refl, ◌∙◌}
use mathlib.Core.List.{List}
use mathlib.Core.Bool.{Bool, true, false, not}
use native.Mathlib.Omega.{arith}
use Rattle.std.specs.Prelude.{Result, Ok, Err, Option, Some, None}
use Rattle.spec.specs.Expr.{when◌then◌else◌, Atom, nil, array, int, ref, atom, only}
use Rattle.spec.specs.Nodes.{plain, is, word, Node}
use Rattle.spec.specs.Plan.{Scope as Definitions, Found as Sought, look_up, Plan, refuse, leave, plan_reference, plan_atom}
use Rattle.spec.specs.Reading.{atom_kind}
use Rattle.laws.specs.Demands.{Bytes}
use Rattle.laws.proofs.Basics.{impossible}
use Rattle.laws.proofs.Fits.{Fits}
use Rattle.atoms.specs.declared.refusal.Reason.{Reason}
use Rattle.atoms.specs.declared.refusal.Reason.TheVariants.{NoValue}
use Rattle.rows.specs.Rows.{kind, LeafAt, key_of}
use Rattle.rows.proofs.Nodes.{kind_ref, leaf_kind, leaf_fits}
use Rattle.rows.proofs.Keys.{word_of, word_again, key_small}
use Rattle.rules.specs.Entries.{function_bit}
use Rattle.rules.specs.Scope.{View, view, find}
use Rattle.rules.specs.Settings.{Shows}
use Rattle.rules.specs.Planned.{Planned, refuses, owns, repeats, Planning}
use Rattle.rules.specs.declared.scope.Scope.{Scope}
use Rattle.rules.specs.declared.scope.Content.{Content}
use Rattle.rules.specs.declared.scope.Content.TheVariants.{Value, Function}
use Rattle.rules.specs.declared.here.Here.{Here}
use Rattle.rules.specs.declared.plan.Task.{Task}
use Rattle.rules.specs.declared.plan.Task.TheVariants.{Own, Again}
use Rattle.rules.proofs.Latest.{latest_length}
use Rattle.rules.proofs.Shown.{Answers, no_answer, value_answer, function_answer, answers}

-- how many definitions are visible where something is evaluated
pub some_defined : {s t : List ℕ} (associations definitions : List ℕ) {args : List ℕ} {here : Here} {place : ℕ}
    → Planning s t args (view associations definitions here.scope) here place → here.scope.defined ≤ 256
some_defined associations definitions {here = here} p = omega (arith, p.setting.sees.few, latest_length definitions here.scope.defined)

-- no reference
pub own_rule : (a : Atom) (ds : Definitions) → (atom_kind a ≡ 4 → ⊥) → plan_atom a ds ≡ leave (only (atom a))
unfolding plan_atom
own_rule nil ds h = refl
own_rule (array bs) ds h = refl
own_rule (int v) ds h = refl
own_rule (ref m n) ds h = absurd (h refl)

-- a reference, and its key
pub record ReferenceAt (s t : List ℕ) (r k : ℕ) (a : Atom) : Type 0 where
  pub marker : ℕ
  pub name : ℕ
  pub is : a ≡ ref marker name
  pub here : LeafAt s t r (ref marker name)
  pub fits : Fits (ref marker name)
  pub key : k ≡ key_of marker name

pub reference_at : {s t : List ℕ} {r : ℕ} (k : ℕ) (a : Atom) → Bytes s → kind t r ≡ 4 → ((m n : ℕ) → LeafAt s t r (ref m n) → k ≡ key_of m n) → LeafAt s t r a
    → ReferenceAt s t r k a
reference_at k a bytes is keyed l =
    let n = kind_ref a (leaf_kind l ∙ is) in
    let here = rw n.2 at l in
    record { marker = n.0; name = n.1; is = n.2; here = here; fits = leaf_fits bytes here; key = keyed n.0 n.1 here }

pub reference_small : {s t : List ℕ} {r k : ℕ} {a : Atom} → ReferenceAt s t r k a → k < function_bit
reference_small n = omega (arith, n.key, key_small n.marker n.name n.fits.1 n.fits.2)

-- what is done with what the key found
abbrev pub reference_task : Option Content → Result Task Reason
reference_task (Some (Value from to)) = Ok (Again from to)
reference_task (Some (Function code visible)) = Err NoValue
reference_task None = Ok Own

reference_planned : {s t w : List ℕ} {floor r : ℕ} {v : View} {sc : Scope} (e : Node) (a : Atom) {es : List ℕ} {f : Option Content} {g : Sought} → LeafAt s t r a
    → Answers s t w floor es f g → Planned s t w floor v sc r e (reference_task f) (plan_reference g a)
reference_planned e a l no_answer = owns a l
reference_planned e a l (value_answer from to vs behind stand order low) = repeats from to vs stand
reference_planned e a l (function_answer code visible body behind at h sh) = refuses NoValue

-- 12 for a function name
pub name_refused : {s t : List ℕ} {r k : ℕ} {a : Atom} → ReferenceAt s t r k a → (ds : Definitions) → true ≡ not (is (word_of k) plain) → plan_atom a ds ≡ refuse 12
unfolding plan_atom
name_refused n ds e =
    let named = rw (n.key, word_again n.marker n.name n.fits.2) at e in
    rw n.is (go (is (word n.marker n.name) plain) (plan_reference (look_up n.marker n.name ds) (ref n.marker n.name)) named)
  where
    go : (b : Bool) (p : Plan) → true ≡ not b → (when b then p else refuse 12) ≡ refuse 12
    go true p h = impossible (cc)
    go false p h = refl

-- another has what its key finds
pub name_planned : {s t w : List ℕ} {floor r k : ℕ} {a : Atom} → ReferenceAt s t r k a → {v : View} {sc : Scope} (e : Node) (es : List ℕ) (ds : Definitions) {f : Option Content}
    → false ≡ not (is (word_of k) plain) → f ≡ find k es → Shows s t w floor es ds → Planned s t w floor v sc r e (reference_task f) (plan_atom a ds)
unfolding plan_atom
name_planned {s} {t} {w} {floor} n e es ds told found shows =
    let named = rw (n.key, word_again n.marker n.name n.fits.2) at told in
    let plain_is : is (word n.marker n.name) plain ≡ true = go (is (word n.marker n.name) plain) named in
    rw (n.is, plain_is, found, n.key) (reference_planned e (ref n.marker n.name) n.here (answers s t w floor n.marker n.name n.fits es ds shows))
  where
    go : (b : Bool) → false ≡ not b → b ≡ true
    go true h = refl
    go false h = impossible (cc)
