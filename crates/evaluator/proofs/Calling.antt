-- A call: where its code is run, and what it leaves when the code was run.
-- Document 01: "The arguments are, in order; then the code, with the function's definitions [..] and these arguments." Assumes nothing.
use Prim.Native.Nat.{ℕ, suc, ◌+◌, ◌-◌, ◌≤◌, ◌<◌}
use mathlib.Core.Path.{◌≡◌, refl, ap, ◌∙◌}
use mathlib.Core.List.{List}
use mathlib.Core.Bool.{false}
use native.Mathlib.Omega.{arith}
use lib.ListN.{length, take, drop}
use lib.Seq.{slice}
use Rattle.std.specs.Prelude.{Result, Ok, Err}
use Rattle.spec.specs.Expr.{when◌then◌else◌, form, Exprs, only, size, deepest, canonical}
use Rattle.spec.specs.Nodes.{Nodes}
use Rattle.spec.specs.Runs.{Held, ceased, hold}
use Rattle.spec.specs.Plan.{Scope as Definitions, Here, Finish, as_call}
use Rattle.spec.specs.Evaluation.{Left, complete, one_value, finish, run_code}
use Rattle.laws.specs.Holding.{and_hold, in_list}
use Rattle.laws.proofs.Fits.{FitsAll}
use Rattle.laws.proofs.Values.{in_list_left}
use Rattle.laws.proofs.Holding.{hold_reached, hold_code_none, hold_code}
use Rattle.rows.specs.Rows.{NodesAt}
use Rattle.rows.specs.declared.forms.Form.{Form}
use Rattle.rows.proofs.Slices.{slice_take}
use Rattle.atoms.specs.declared.refusal.Refusal.{Refusal}
use Rattle.workspace.specs.Completed.{with_top, Completed, ArgumentsAt}
use Rattle.workspace.specs.declared.values.State.{State}
use Rattle.workspace.proofs.Areas.{stand_size, stand_part, untouched_less}
use Rattle.rules.specs.Scope.{latest, View, view}
use Rattle.rules.specs.Settings.{in_code_of, CodeAt, Shows, in_code, of_other}
use Rattle.rules.specs.Planned.{Called, calls_function, calls_code}
use Rattle.rules.specs.declared.scope.Scope.{Scope}
use Rattle.rules.specs.declared.here.Here.{Here as Seen}
use Rattle.rules.specs.declared.plan.After.{After}
use Rattle.rules.specs.declared.plan.After.TheVariants.{Make, Function, Code}
use Rattle.rules.proofs.Latest.{latest_length, latest_fewer}
use Rattle.rules.proofs.Shown.{sees_kept}
use Rattle.evaluator.specs.Listed.{Ready, Over, LeftBy, left_as, Finishing, Ran, in_body, Calling, SomeCalling, CalledBy, EndsBy, by_making, by_calling, Ending, SomeEnding, EndedBy}
use Rattle.evaluator.proofs.Begins.{completed_left, extends_none}
use Rattle.evaluator.proofs.Insides.{left_from}

-- what a code associates and defines is not visible behind its call
pub call_kept : (associations definitions associations' definitions' : List ℕ) (sc sc' : Scope) → sc'.associated ≡ sc.associated
    → view associations' definitions' sc' ≡ view associations definitions sc' → view associations' definitions sc ≡ view associations definitions sc
call_kept associations definitions associations' definitions' sc sc' e same =
    let associated : latest associations' sc.associated ≡ latest associations sc.associated = rw e at (ap (λ (v : View). v.associations) same) in
    rw associated

module _ {s t : List ℕ} {bound codes : ℕ} {w : List ℕ} {u v : View} {st : State} {at : Seen} {f : Form} {start : ℕ} {body : Nodes} {behind : Definitions}
    {h : Here} {vs : Exprs} (k : Calling s t bound codes w u v st at f start body behind h vs) where
  -- the arguments' bytes
  abbrev part : List ℕ
  part = take (st.top - start) (drop start w)

  pub part_is : part ≡ canonical vs
  part_is = stand_part k.finishing.stand

  pub part_size : start + length part ≡ st.top
  part_size = omega (arith, ap length part_is ∙ stand_size k.finishing.stand, k.finishing.stand.order)

  -- what the code answers, and what the call at a row does
  abbrev pub body_held : Held Left
  body_held = hold st.steps st.room (in_list (run_code (codes - 1)) body (in_body h behind vs))

  abbrev call_held : ℕ → Held Left
  call_held row = hold st.steps st.room (finish (run_code codes) row h (as_call body behind) vs)

  -- "more than [..] 32 codes in progress"
  pub call_refused : (row : ℕ) → 32 ≤ at.frame.depth → call_held row ≡ ceased 19 row
  call_refused row deep =
      let no_more : codes ≡ 0 = omega (arith, k.enterable.entered) in
      rw no_more (hold_code_none row body (in_body h behind vs) _ st.steps st.room)

  -- the code was run
  pub ran : {w₁ : List ℕ} {st₁ : State} (o : Over w w₁ st body_held st₁) → Ran w₁ st₁ start st.top o.left.values
  ran {st₁ = st₁} o =
      let size = o.others.size in
      let fits = k.finishing.fitting in
      record {
        fitting = record { paid = o.paid; below = omega (arith, o.floor, fits.below); short = omega (arith, fits.short) };
        order = k.finishing.stand.order;
        stand = o.stand;
        sound = (in_list_left bound (codes - 1) body (in_body h behind vs) o.left k.enterable.fit (k.enterable.sound, k.finishing.sound)
            (hold_reached st.steps st.room _ o.left st₁.steps st₁.room o.is).0).0;
      }

  -- fewer are, and where the arguments stand is packed
  module _ (some : at.frame.depth < 32) where
    pub call_ready : (args : List ℕ) (count : ℕ) → ((u : List ℕ) (us : Exprs) → slice start (start + length part) u ≡ part → part ≡ canonical us → FitsAll us → deepest us ≤ 64
        → (count ≡ size us) × ArgumentsAt u args 0 start (start + length part) us)
        → {there : Seen} → there ≡ in_code_of at.scope count st.top at → (see : Scope → View) → see at.scope ≡ v
        → Ready s t bound (codes - 1) w args (see there.scope) st there f.flat f.first f.end body (in_body h behind vs)
    call_ready args count spread e see shown =
        let fits = k.finishing.fitting in
        let stand : slice start (start + length part) w ≡ part = ap (λ (n : ℕ). slice start n w) part_size ∙ slice_take start st.top w in
        let sound = k.finishing.sound in
        let given = rw part_size at (spread w vs stand part_is sound.0 sound.1) in
        rw (e, shown) (record {
          nodes = rw k.not_flat k.nodes;
          inside = λ is. tt;
          setting = record {
            sees = k.body_sees;
            arguments = in_code start (omega arith) given.0 (omega arith) (omega (arith, fits.paid, fits.below)) fits.short given.1;
            element_of = of_other;
          };
          fitting = fits;
          fit = k.enterable.fit;
          sound = (k.enterable.sound, sound);
          single = k.enterable.single;
          entered = omega (arith, k.enterable.entered);
        })

    module _ (row : ℕ) where
      call_held_is : call_held row ≡ and_hold body_held (λ left steps work. hold steps work (complete row (when one_value body then left.values else only (form left.values)) h))
      call_held_is =
          let fewer : codes ≡ suc (codes - 1) = omega (arith, k.enterable.entered) in
          ap (λ (n : ℕ). hold st.steps st.room (finish (run_code n) row h (as_call body behind) vs)) fewer
          ∙ hold_code (codes - 1) row body (in_body h behind vs) refl (λ (us : Exprs). complete row (when one_value body then us else only (form us)) h) st.steps st.room

      pub call_stopped : (n r : ℕ) → body_held ≡ ceased n r → call_held row ≡ ceased n r
      call_stopped n r e = call_held_is ∙ rw e

      pub call_returns : {w₁ : List ℕ} {st₁ : State} (o : Over w w₁ st body_held st₁) (w₂ : List ℕ) (sc : Scope) (out : Result State Refusal)
          → Completed w₁ w₂ st₁ start row (when one_value body then o.left.values else only (form o.left.values)) out
          → LeftBy s t w w₂ (λ (x : Scope). u) sc (with_top st st.room start) (call_held row) (left_as sc out)
      call_returns {w₁} {st₁} o w₂ sc out done =
          let us : Exprs = o.left.values in
          left_from s t w w₁ w₂ (λ (x : Scope). u) sc (with_top st st.room start) st₁ (left_as sc out)
          (untouched_less start st.floor k.finishing.stand.order (omega arith) o.others) o.floor (call_held_is ∙ rw o.is)
          (completed_left s t w₁ w₂ (λ (x : Scope). u) sc sc (with_top st₁ st₁.room start) st₁ row (when one_value body then us else only (form us)) h out
          refl (ran o).fitting (omega (arith, k.finishing.stand.order, o.stand.order)) (extends_none sc) (rw o.floor (sees_kept k.sees o.others)) done)

-- A form's values as the arguments of a code

abbrev Calls : After → Type 0
Calls (Make m) = ⊥
Calls (Function code visible) = Unit {0}
Calls (Code first end) = Unit {0}

-- the code stands in the rows of f, and sees v; u is what is visible where it is called
pub record Found (s t w : List ℕ) (floor : ℕ) (u v : View) (f : Form) (body : Nodes) (behind : Definitions) : Type 0 where
  pub not_flat : f.flat ≡ false
  pub nodes : NodesAt s t false f.first f.end body
  pub shows : Shows s t w floor v.definitions behind
  pub fewer : length v.definitions ≤ length u.definitions

module _ {s t w : List ℕ} {u v : View} {st : State} {at at' : Seen} {f : Form} {start : ℕ} {after : After} (calls : Calls after) (same : v.associations ≡ u.associations)
    (frame : at'.frame ≡ at.frame) (found : (body : Nodes) (behind : Definitions) → Called s t w st.floor u at.scope after body behind → Found s t w st.floor u v f body behind) where
  calling : {bound codes : ℕ} {h : Here} {vs : Exprs} {g : Finish} → Ending s t bound codes w u st at start after h vs g
      → (body : Nodes) × (behind : Definitions) × (g ≡ as_call body behind) × Calling s t bound codes w u v st at' f start body behind h vs
  calling {bound} {codes} {h} {vs} x = go calls found x.by x.finishing
    where
      go : {a : After} {g : Finish} → Calls a → ((body : Nodes) (behind : Definitions) → Called s t w st.floor u at.scope a body behind → Found s t w st.floor u v f body behind)
          → EndsBy s t bound codes w st.floor u at a g → Finishing w st start g vs
          → (body : Nodes) × (behind : Definitions) × (g ≡ as_call body behind) × Calling s t bound codes w u v st at' f start body behind h vs
      go c find (by_making m g by) fin = absurd c
      go c find (by_calling a body behind called enter) fin =
          let y = find body behind called in (
            body,
            behind,
            refl,
            record {
              not_flat = y.not_flat;
              nodes = y.nodes;
              body_sees = record {
                definitions = y.shows;
                few = omega (arith, y.fewer, x.sees.few);
                associations = rw same x.sees.associations;
                most = rw same x.sees.most;
              };
              sees = x.sees;
              finishing = fin;
              enterable = record { fit = enter.fit; sound = enter.sound; single = enter.single; entered = rw frame enter.entered };
            },
          )

  pub can_call : SomeEnding s t w u st at start after → SomeCalling s t w v st at' f start
  can_call x =
      let c = calling x.ends in
      record { bound = x.bound; codes = x.codes; around = u; body = c.0; behind = c.1; here = x.here; values = x.values; calls = c.3 }

  pub call_ends : (w' : List ℕ) (see : Scope → View) (row : ℕ) (out : Result State Refusal) → see at.scope ≡ u → CalledBy s t w w' v st at' f start row out
      → EndedBy s t w w' u see at st start row after (left_as at.scope out)
  call_ends w' see row out kept called bound codes h vs g x =
      let c = calling x in rw c.2 (go _ out (called bound codes u c.0 c.1 h vs c.3))
    where
      go : (held : Held Left) (o : Result State Refusal) → LeftBy s t w w' (λ (sc : Scope). u) at'.scope (with_top st st.room start) held (left_as at'.scope o)
          → LeftBy s t w w' see at.scope (with_top st st.room start) held (left_as at.scope o)
      go held (Ok st') (l, _) = (rw kept l, extends_none _)
      go held (Err r) e = e

-- the code of a function
pub function_code : {s t w : List ℕ} {v : View} {st : State} {at : Seen} {start code visible : ℕ} → SomeEnding s t w v st at start (Function code visible)
    → (es : Nodes) × CodeAt s t code es
function_code {s} {t} {w} {v} {st} {at} {start} {code} {visible} x = go x.ends.by
  where
    go : {f : Finish} → EndsBy s t x.bound x.codes w st.floor v at (Function code visible) f → (es : Nodes) × CodeAt s t code es
    go (by_calling _ body behind (calls_function _ _ _ _ is fewer shows) enter) = (body, is)

-- a function sees the definitions before its own
pub function_found : {s t w : List ℕ} {floor : ℕ} (associations definitions : List ℕ) (sc : Scope) {code visible : ℕ} {f : Form}
    → ((es : Nodes) → CodeAt s t code es → (f.flat ≡ false) × NodesAt s t false f.first f.end es)
    → (body : Nodes) (behind : Definitions) → Called s t w floor (view associations definitions sc) sc (Function code visible) body behind
    → Found s t w floor (view associations definitions sc) (view associations definitions (record { defined = visible; associated = sc.associated })) f body behind
function_found associations definitions sc find _ _ (calls_function code visible body behind at fewer shows) = record {
  not_flat = (find body at).0;
  nodes = (find body at).1;
  shows = rw (latest_fewer definitions _ _ fewer) shows;
  fewer = omega (arith, fewer, latest_length definitions visible, latest_length definitions sc.defined);
}

-- a code that is written in its call sees all
pub code_found : {s t w : List ℕ} {floor : ℕ} {v : View} {sc : Scope} {first end : ℕ} (body : Nodes) (behind : Definitions)
    → Called s t w floor v sc (Code first end) body behind → Found s t w floor v v (record { first = first; end = end; flat = false }) body behind
code_found _ _ (calls_code first end body behind at shows) = record { not_flat = refl; nodes = at; shows = shows; fewer = omega arith }
