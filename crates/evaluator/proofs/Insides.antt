-- What is inside an expression, evaluated first: what is known there, and what the expression leaves when what was inside is finished.
-- Document 01: "Evaluation goes depth first". Assumes nothing.
use Prim.Native.Nat.{ℕ, zero, suc, ◌<◌}
use mathlib.Core.Path.{◌≡◌, refl, ap, ◌∙◌}
use mathlib.Core.List.{List}
use native.Mathlib.Omega.{arith}
use lib.ListN.{length}
use Rattle.std.specs.Prelude.{Result, Ok, Err}
use Rattle.spec.specs.Expr.{Exprs}
use Rattle.spec.specs.Nodes.{Node, Nodes, empty, cons, elements}
use Rattle.spec.specs.Runs.{done, Held, ceased, hold}
use Rattle.spec.specs.Plan.{Scope as Definitions, Within, Here, Finish, inside, plan}
use Rattle.spec.specs.Evaluation.{Left, entering, finish, eval, run_code}
use Rattle.laws.specs.Holding.{and_hold, NotTop, in_list, skip}
use Rattle.laws.proofs.Singles.{SingleScope, call_single, in_list_single, in_list_pair}
use Rattle.laws.proofs.Fits.{FitsNodes, elements_fit}
use Rattle.laws.proofs.Values.{call_sound, in_list_left}
use Rattle.laws.proofs.Holding.{rule_plan, hold_reached, hold_inside}
use Rattle.rows.specs.declared.forms.Form.{Form}
use Rattle.rows.specs.declared.forms.Node.{Node as Ranged}
use Rattle.rows.proofs.Parts.{element_place}
use Rattle.atoms.specs.Refusals.{number}
use Rattle.atoms.specs.declared.refusal.Refusal.{Refusal}
use Rattle.workspace.specs.Completed.{with_top, Untouched}
use Rattle.workspace.specs.declared.values.State.{State}
use Rattle.workspace.proofs.Areas.{untouched_then}
use Rattle.rules.specs.Scope.{View}
use Rattle.rules.specs.Settings.{in_list_of, Sees, ElementOf, of_data, of_other}
use Rattle.rules.specs.Planned.{within_of, one_more, two_more, Called, calls_function, calls_code, Finishes, form_finishes, define_finishes, concat_finishes, call_finishes}
use Rattle.rules.specs.declared.scope.Scope.{Scope}
use Rattle.rules.specs.declared.here.Within.{Within as Kind}
use Rattle.rules.specs.declared.here.Here.{Here as Seen}
use Rattle.rules.specs.declared.plan.Making.{Making}
use Rattle.rules.specs.declared.plan.After.{After}
use Rattle.rules.specs.declared.plan.After.TheVariants.{Make}
use Rattle.rules.proofs.Shown.{shows_kept, sees_kept}
use Rattle.evaluator.specs.Listed.{Ready, SomeReady, Over, Met, Answered, LeftBy, GoesInside, Evaluating, FinishedBy, by_form, by_define, by_concat, Finishable, Finishing, SomeFinishing, EndsBy, by_making, by_calling, Ending, SomeEnding, EndedBy}
use Rattle.evaluator.specs.declared.element.Left.{Left as Answer}
use Rattle.evaluator.proofs.Turns.{sees_in}

fits_skip : (bound k : ℕ) (es : Nodes) → FitsNodes bound es → FitsNodes bound (skip k es)
unfolding skip
fits_skip bound zero es f = f
fits_skip bound (suc k) empty f = f
fits_skip bound (suc k) (cons e es) f = fits_skip bound k es f.1

-- what list it is
inside_list : {s t w : List ℕ} {floor : ℕ} {v : View} {sc : Scope} {es : Nodes} {after : After} {k : ℕ} {p : Within} {f : Finish} (row : ℕ)
    → Finishes s t w floor v sc es after k p f → ElementOf s t row (within_of after) p × NotTop p
inside_list row form_finishes = (of_data, tt)
inside_list row (define_finishes m n fits few more) = (of_other, tt)
inside_list row (concat_finishes more) = (of_other, tt)
inside_list row (call_finishes after body behind (calls_function code visible _ _ at fewer shows)) = (of_other, tt)
inside_list row (call_finishes after body behind (calls_code first end _ _ at shows)) = (of_other, tt)

-- its values are as many as the rule made sure of
finishable : {s t w : List ℕ} {floor : ℕ} {v : View} {sc : Scope} {es : Nodes} {after : After} {k : ℕ} {p : Within} {f : Finish} (bound codes : ℕ) (h : Here) (left : Left)
    → Finishes s t w floor v sc es after k p f → FitsNodes bound es → SingleScope bound h.scope → (in_list (run_code codes) (skip k es) (entering p h)).end ≡ done left
    → Finishable f left.values
unfolding skip
finishable bound codes h left form_finishes fit single e = tt
finishable bound codes h left (define_finishes m n fits few (one_more a b x plain)) fit single e = in_list_single bound codes x (entering _ h) left fit.1.1.0 plain refl single e
finishable bound codes h left (concat_finishes (two_more a b x plain plain')) fit single e =
    in_list_pair bound codes b x (entering _ h) left fit.1.0 fit.1.1.0 plain plain' refl single e
finishable bound codes h left (call_finishes after body behind called) fit single e = tt

-- A form whose elements were evaluated

-- their values are made into others
module _ {s t w : List ℕ} {v : View} {at : Seen} {m : Making} where
  made_by : {bound codes floor : ℕ} {f : Finish} → EndsBy s t bound codes w floor v at (Make m) f → FinishedBy at.scope m f
  made_by (by_making _ f by) = by
  made_by (by_calling _ body behind called enters) = elim called [ ]

  pub can_make : {st : State} {start : ℕ} → SomeEnding s t w v st at start (Make m) → SomeFinishing w at.scope st m start
  can_make x = record { finish = x.finish; values = x.values; by = made_by x.ends.by; finishing = x.ends.finishing }

  pub making_ends : (st : State) (start : ℕ) (w' : List ℕ) (see : Scope → View) (row : ℕ) (left : Result Answer Refusal) → ((codes : ℕ) (h : Here) (f : Finish) (vs : Exprs)
      → FinishedBy at.scope m f → Finishing w st start f vs → Sees s t w st.floor v h
      → LeftBy s t w w' see at.scope (with_top st st.room start) (hold st.steps st.room (finish (run_code codes) row h f vs)) left)
      → EndedBy s t w w' v see at st start row (Make m) left
  making_ends st start w' see row left makes bound codes h vs f x = makes codes h f vs (made_by x.by) x.finishing x.sees

-- What is inside

-- what an expression leaves, counted from where its inside was done
pub left_from : (s t w w₁ w₂ : List ℕ) (see : Scope → View) (sc : Scope) (st st₁ : State) {held held₁ : Held Left} (left : Result Answer Refusal)
    → Untouched w w₁ st.top st.floor → st₁.floor ≡ st.floor → held ≡ held₁
    → LeftBy s t w₁ w₂ see sc (with_top st₁ st₁.room st.top) held₁ left → LeftBy s t w w₂ see sc st held left
left_from s t w w₁ w₂ see sc st st₁ (Ok left) u floor same (l, extends) = (
  record {
    left = l.left;
    is = same ∙ l.is;
    stand = l.stand;
    others = untouched_then u (rw floor at l.others);
    lower = rw floor at l.lower;
    paid = l.paid;
    sees = l.sees;
  },
  extends,
)
left_from s t w w₁ w₂ see sc st st₁ (Err r) u floor same l = same ∙ l

module _ {s t : List ℕ} {bound codes : ℕ} {w args : List ℕ} {v : View} {st : State} {at : Seen} {node : Ranged} {row : ℕ} {e : Node} {h : Here}
    (x : Evaluating s t bound codes w args v st at node row e h) where
  -- what it answers
  abbrev whole : Held Left
  whole = hold st.steps st.room (eval (run_code codes) e h)

  module _ {w' : List ℕ} {st' : State} {f : Form} {after : After} (i : GoesInside s t bound w w' v at.scope st st' f e h after) where
    abbrev inner_nodes : Nodes
    inner_nodes = skip i.skipped (elements i.becomes)

    abbrev inner_here : Here
    inner_here = entering i.within h

    fits_itself : FitsNodes bound (elements i.becomes)
    fits_itself = elements_fit bound i.becomes i.taken.fit

    fits_inside : FitsNodes bound inner_nodes
    fits_inside = fits_skip bound i.skipped (elements i.becomes) fits_itself

    pub inside_fewer : st'.steps < st.steps
    inside_fewer = rw i.state (omega (arith, i.taken.fewer))

    -- what the inside answers
    abbrev inner_held : Held Left
    inner_held = hold st'.steps st'.room (in_list (run_code codes) inner_nodes inner_here)

    held_is : whole ≡ and_hold inner_held (λ left steps work. hold steps work (finish (run_code codes) row h i.finish left.values))
    held_is =
        i.taken.held (run_code codes) h st.room
        ∙ ap (hold i.left st.room) (rule_plan (run_code codes) h i.becomes i.taken.no_bytecode)
        ∙ rw (i.plan_is, i.state, i.taken.same_row, element_place x.begins.is)
        (hold_inside (run_code codes) i.within (inside_list row i.finishes).1 i.skipped (elements i.becomes) h
        (finish (run_code codes) row h i.finish) i.left st.room)

    -- it was evaluated, and its values are to be finished
    module _ (few : length v.definitions ≡ at.scope.defined) {w₁ : List ℕ} {st₁ : State} (o : Over w w₁ st' inner_held st₁) where
      ends_inside : (in_list (run_code codes) inner_nodes inner_here).end ≡ done o.left
      ends_inside = (hold_reached st'.steps st'.room _ o.left st₁.steps st₁.room o.is).0

      floor_inside : st₁.floor ≡ st.floor
      floor_inside = o.floor ∙ rw i.state

      others_inside : Untouched w w₁ st.top st.floor
      others_inside = rw i.state at o.others

      finishing : Finishing w₁ st₁ st.top i.finish o.left.values
      finishing =
          let r = x.begins in
          let size = o.others.size in
          record {
            fitting = record { paid = o.paid; below = omega (arith, floor_inside, r.fitting.below); short = omega (arith, r.fitting.short) };
            stand = rw i.state at o.stand;
            sound = (in_list_left bound codes inner_nodes inner_here o.left fits_inside r.sound ends_inside).0;
            finishable = finishable bound codes h o.left i.finishes fits_itself x.single ends_inside;
          }

      ends_by : EndsBy s t bound codes w₁ st.floor v at after i.finish
      ends_by = go i.finishes i.plan_is
        where
          kept : {a : After} {body : Nodes} {behind : Definitions} → Called s t w st.floor v at.scope a body behind → Called s t w₁ st.floor v at.scope a body behind
          kept (calls_function code visible body behind is fewer shows) =
              calls_function code visible body behind is fewer (shows_kept s t w st.floor others_inside _ behind shows)
          kept (calls_code first end body behind is shows) = calls_code first end body behind is (shows_kept s t w st.floor others_inside _ behind shows)

          go : {a : After} {k : ℕ} {p : Within} {y : Finish} → Finishes s t w st.floor v at.scope (elements i.becomes) a k p y → plan i.becomes h ≡ inside k p y
              → EndsBy s t bound codes w₁ st.floor v at a y
          go form_finishes is = by_making _ _ by_form
          go (define_finishes m n fits fewer more) is = by_making _ _ (by_define m n fits (omega (arith, few, fewer)))
          go (concat_finishes more) is = by_making _ _ by_concat
          go {k = k} {p} (call_finishes a body behind called) is =
              let sound = call_sound bound i.becomes h k p body behind is i.taken.fit x.begins.sound in
              by_calling a body behind (kept called) (record {
                fit = sound.0;
                sound = sound.1;
                single = call_single bound i.becomes h k p body behind is x.single;
                entered = x.entered;
              })

      ending : Ending s t bound codes w₁ v st₁ at st.top after h o.left.values i.finish
      ending = record { by = rw floor_inside ends_by; finishing = finishing; sees = rw floor_inside (sees_kept x.begins.setting.sees others_inside) }

    -- the nodes inside are evaluated there, in a list of its kind
    module _ {v' : View} {kind : Kind} (same : v' ≡ v) (q : kind ≡ within_of after) where
      inside_ready : Ready s t bound codes w' args v' st' (in_list_of kind at) f.flat f.first f.end inner_nodes inner_here
      inside_ready =
          let r = x.begins in
          let set = r.setting in
          rw (same, q, i.same, i.state) (record {
            nodes = i.nodes;
            inside = λ is. (inside_list f.first i.finishes).1;
            setting = record { sees = sees_in i.within set.sees; arguments = set.arguments; element_of = (inside_list f.first i.finishes).0 };
            fitting = record { paid = r.fitting.paid; below = r.fitting.below; short = r.fitting.short };
            fit = fits_inside;
            sound = r.sound;
            single = x.single;
            entered = x.entered;
          })

      pub inside_some : SomeReady s t w' args v' st' (in_list_of kind at) f.flat f.first f.end
      inside_some = record { bound = bound; codes = codes; nodes = inner_nodes; here = inner_here; ready = inside_ready }

      -- where they were evaluated
      module _ (w₁ : List ℕ) where
        met : (out : Result State Refusal) → Answered s t w' w₁ args v' st' (in_list_of kind at) f out → Met w w₁ st' inner_held out
        met out answered = rw i.same at (answered bound codes inner_nodes inner_here inside_ready)

        -- it was refused there
        pub inside_ceased : (r : Refusal) → Answered s t w' w₁ args v' st' (in_list_of kind at) f (Err r) → whole ≡ ceased (number r.reason) r.place
        inside_ceased r answered = held_is ∙ rw (met (Err r) answered)

        -- it was done
        module _ {st₁ : State} (answered : Answered s t w' w₁ args v' st' (in_list_of kind at) f (Ok st₁)) where
          over : Over w w₁ st' inner_held st₁
          over = met (Ok st₁) answered

          pub inside_steps : st₁.steps < st.steps
          inside_steps = omega (arith, inside_fewer, (hold_reached st'.steps st'.room _ over.left st₁.steps st₁.room over.is).1)

          module _ (few : length v.definitions ≡ at.scope.defined) {v₁ : View} (kept : v₁ ≡ v') where
            pub inside_can_end : SomeEnding s t w₁ v₁ st₁ at st.top after
            inside_can_end =
                rw (kept, same) (record { bound = bound; codes = codes; here = h; values = over.left.values; finish = i.finish; ends = ending few over })

            pub inside_ends : (w₂ : List ℕ) (see : Scope → View) (left : Result Answer Refusal) → EndedBy s t w₁ w₂ v₁ see at st₁ st.top row after left
                → LeftBy s t w w₂ see at.scope st whole left
            inside_ends w₂ see left ended =
                left_from s t w w₁ w₂ see at.scope st st₁ left (others_inside few over) (floor_inside few over) (held_is ∙ rw over.is)
                ((rw (kept, same) at ended) bound codes h over.left.values i.finish (ending few over))
