-- How a list goes on: what is known before each of its expressions, and what one expression leaves of it, on lists and numbers alone.
-- Document 01: "Evaluation goes depth first, left to right, over a list of definitions". Assumes nothing.
use Prim.Native.Nat.{ℕ, ◌≤◌, ◌<◌}
use mathlib.Core.Path.{◌≡◌, refl, sym, ap, ◌∙◌, subst}
use mathlib.Core.List.{List, ◌++◌, append-nil}
use mathlib.Core.Bool.{Bool, true, false, or_comm}
use native.Mathlib.Omega.{arith}
use lib.Dec.{eqb}
use Rattle.std.specs.Prelude.{Result}
use Rattle.spec.specs.Expr.{some, Exprs, none, append}
use Rattle.spec.specs.Nodes.{Node, Nodes, empty, cons, markers, markers_all}
use Rattle.spec.specs.Runs.{Held, reached, ceased, hold}
use Rattle.spec.specs.Plan.{Within, top, element, inner, Here}
use Rattle.spec.specs.Evaluation.{Left, entering, eval, run_code}
use Rattle.laws.specs.Holding.{and_hold, beyond, onward, NotTop, together, in_list}
use Rattle.laws.proofs.Prefix.{append_append}
use Rattle.laws.proofs.Singles.{append_none, eval_within, eval_stays, eval_scope}
use Rattle.laws.proofs.Fits.{FitsNode, FitsNodes}
use Rattle.laws.proofs.Values.{eval_sound, run_code_sound}
use Rattle.laws.proofs.Holding.{and_hold_same, and_hold_twice, hold_reached, hold_list_empty, hold_list}
use Rattle.rows.specs.Rows.{next, behind, NodeAt, NodesAt}
use Rattle.rows.specs.Forms.{element_at, past as past_of}
use Rattle.rows.specs.declared.forms.Node.{Node as Ranged}
use Rattle.rows.proofs.Nodes.{MoreAt, append_nodes, markers_append, nodes_done, nodes_more, nodes_append, node_next_in}
use Rattle.rows.proofs.Parts.{element_is, element_past}
use Rattle.atoms.specs.declared.refusal.Refusal.{Refusal}
use Rattle.workspace.specs.Completed.{Stand, with_floor, Untouched}
use Rattle.workspace.specs.declared.values.State.{State}
use Rattle.workspace.proofs.Areas.{stand_none, stand_append, untouched_none, untouched_less, untouched_then, stand_below}
use Rattle.rules.specs.Scope.{View}
use Rattle.rules.specs.Settings.{showing, Sees, ArgumentsOf, ElementOf, of_top, of_data, of_other}
use Rattle.rules.specs.declared.scope.Scope.{Scope}
use Rattle.rules.specs.declared.here.Within.{Within as Kind}
use Rattle.rules.specs.declared.here.Here.{Here as Seen}
use Rattle.rules.proofs.Borne.{some_append}
use Rattle.rules.proofs.Shown.{arguments_kept}
use Rattle.evaluator.specs.declared.element.Left.{Left as Answer}
use Rattle.evaluator.specs.Listed.{Ready, SomeReady, Over, LeftAt, LeftBy, Evaluating, EvaluatedBy}

-- Where the next expression is evaluated

module _ (s t : List ℕ) (row : ℕ) (e : Node) where
  alone : NodeAt s t false row e → NodesAt s t false row (next t row) (cons e empty)
  unfolding NodeAt
  alone node = (node_next_in s t row e node, omega arith, node, refl)

  element_beyond : (flat : Bool) → NodeAt s t flat row e → (kind : Kind) (p : Within) → (flat ≡ true → NotTop p) → ElementOf s t row kind p
      → ElementOf s t (behind t flat row) kind (beyond e p)
  unfolding markers
  element_beyond true node kind (top earlier) inside x = absurd (inside refl)
  element_beyond false node kind (top earlier) inside (of_top es nodes same) =
      of_top {earlier = markers e ++ earlier} (append_nodes es (cons e empty)) (nodes_append s t false 0 row (next t row) es (cons e empty) nodes (alone node))
      λ m. rw (some_append (eqb m) (markers e) earlier, same m, markers_append es (cons e empty), append-nil (markers e), some_append (eqb m) (markers_all es) (markers e))
      (or_comm (some (eqb m) (markers e)) (some (eqb m) (markers_all es)))
  element_beyond flat node kind element inside of_data = of_data
  element_beyond flat node kind inner inside of_other = of_other

  inside_beyond : (p : Within) → NotTop p → NotTop (beyond e p)
  inside_beyond element x = tt
  inside_beyond inner x = tt
  inside_beyond (top earlier) x = absurd x

-- what is visible is so in any list
pub sees_in : {s t w : List ℕ} {floor : ℕ} {v : View} {h : Here} (p : Within) → Sees s t w floor v h → Sees s t w floor v (entering p h)
sees_in p x = record { definitions = x.definitions; few = x.few; associations = x.associations; most = x.most }

-- The list

-- what the nodes that are listed answer as a whole
abbrev pub held_list : {s t w args : List ℕ} {v : View} {st : State} {at : Seen} {flat : Bool} {first end : ℕ} → SomeReady s t w args v st at flat first end → Held Left
held_list {st = st} y = hold st.steps st.room (in_list (run_code y.codes) y.nodes y.here)

-- what a list leaves, behind values that it left before
abbrev pub left_of : Exprs → Held Left → Held Left
left_of passed x = and_hold x λ later steps work. reached (record { values = append passed later.values; here = later.here }) steps work

left_of_none : (x : Held Left) → x ≡ left_of none x
unfolding append
left_of_none (reached a steps work) = refl
left_of_none (ceased v r) = refl

-- `held` is what the list answers as a whole; before the expression at a row, the values `passed` stand, and the rest is to be evaluated
pub record Going (s t : List ℕ) (bound codes : ℕ) (args : List ℕ) (flat : Bool) (end : ℕ) (w₀ w : List ℕ) (v : View) (st₀ st : State) (at : Seen) (row : ℕ) (held : Held Left) : Type 0 where
  pub rest : Nodes
  pub here : Here
  pub passed : Exprs
  pub is : held ≡ left_of passed (hold st.steps st.room (in_list (run_code codes) rest here))
  pub ready : Ready s t bound codes w args v st at flat row end rest here
  pub stand : Stand w st₀.top st.top passed
  pub others : Untouched w₀ w st₀.top st₀.floor
  pub lower : st.floor ≤ st₀.floor
  pub fewer : st.steps ≤ st₀.steps

module _ {s t : List ℕ} {bound codes : ℕ} {args : List ℕ} {flat : Bool} {end : ℕ} where
  pub going_start : {w : List ℕ} {v : View} {st : State} {at : Seen} {first : ℕ} {es : Nodes} {h : Here} → Ready s t bound codes w args v st at flat first end es h
      → Going s t bound codes args flat end w w v st st at first (hold st.steps st.room (in_list (run_code codes) es h))
  going_start {w} {st = st} {es = es} {h = h} r = record {
    rest = es;
    here = h;
    passed = none;
    is = left_of_none _;
    ready = r;
    stand = stand_none st.top (omega (arith, r.fitting.paid, r.fitting.below));
    others = untouched_none w st.top st.floor;
    lower = omega arith;
    fewer = omega arith;
  }

  module _ {w₀ w : List ℕ} {v : View} {st₀ st : State} {at : Seen} {row : ℕ} {held : Held Left} (g : Going s t bound codes args flat end w₀ w v st₀ st at row held) where
    -- no expression is left
    pub going_over : end ≤ row → Over w₀ w st₀ held (with_floor st st₀.floor)
    going_over h =
        let r = g.ready in
        record {
          left = record { values = g.passed; here = g.here };
          is = g.is ∙ rw (nodes_done s t flat row end g.rest r.nodes h, hold_list_empty (run_code codes) g.here st.steps st.room, append_none g.passed);
          stand = g.stand;
          others = g.others;
          floor = refl;
          paid = omega (arith, r.fitting.paid, g.lower);
        }

    -- one is next
    module _ (on : row < end) where
      pub going_more : MoreAt s t flat row end g.rest
      going_more = nodes_more s t flat row end g.rest g.ready.nodes on

      -- what it answers
      abbrev pub held_next : Held Left
      held_next = hold st.steps st.room (eval (run_code codes) going_more.head g.here)

      -- what those behind it answer, after what it left
      abbrev held_rest : Left → ℕ → ℕ → Held Left
      held_rest one steps work = hold steps work (in_list (run_code codes) going_more.rest (onward going_more.head one.here))

      fits_next : FitsNode bound going_more.head × FitsNodes bound going_more.rest
      fits_next = subst (λ (es : Nodes). FitsNodes bound es) going_more.is g.ready.fit

      going_fits : FitsNode bound going_more.head
      going_fits = fits_next.0

      pub going_evaluates : {node : Ranged} → node ≡ element_at t flat row → Evaluating s t bound codes w args v st at node row going_more.head g.here
      going_evaluates e =
          let r = g.ready in
          rw e (record {
            begins = record {
              is = element_is s t flat row going_more.head going_more.node;
              setting = r.setting;
              fitting = r.fitting;
              fit = going_fits;
              sound = r.sound;
            };
            single = r.single;
            entered = r.entered;
          })

      -- what it leaves
      pub leaves_as : {node : Ranged} → node ≡ element_at t flat row → (w' : List ℕ) (see : Scope → View) (left : Result Answer Refusal) → EvaluatedBy s t w w' args v see st at node row left
          → LeftBy s t w w' see at.scope st held_next left
      leaves_as e w' see left by = by _ _ _ _ (going_evaluates e)

      -- where it ends
      pub going_past : {node : Ranged} {past : ℕ} → node ≡ element_at t flat row → past ≡ past_of row node → past ≡ behind t flat row
      going_past e e' = e' ∙ rw e (element_past s t flat row going_more.head going_more.node)

      held_first : held ≡ left_of g.passed (and_hold held_next (λ one steps work.
          and_hold (held_rest one steps work) (λ others steps' work'. reached (together one others) steps' work')))
      held_first =
          g.is
          ∙ ap (λ (es : Nodes). left_of g.passed (hold st.steps st.room (in_list (run_code codes) es g.here))) going_more.is
          ∙ ap (left_of g.passed) (hold_list (run_code codes) going_more.head going_more.rest g.here st.steps st.room)

      -- it is refused, and so is the list
      pub going_ceased : (n r : ℕ) → held_next ≡ ceased n r → held ≡ ceased n r
      going_ceased n r h = rw h at held_first

      held_on : (one : Left) (steps work : ℕ) → held_next ≡ reached one steps work → held ≡ left_of (append g.passed one.values) (held_rest one steps work)
      held_on one steps work h =
          (rw h at held_first)
          ∙ and_hold_twice (held_rest one steps work) (λ others steps' work'. reached (together one others) steps' work') _
          ∙ and_hold_same (held_rest one steps work) λ others steps' work' e.
          ap (λ (vs : Exprs). reached (record { values = vs; here = others.here }) steps' work') (sym (append_append g.passed one.values others.values))

      -- it leaves something, and the list goes on
      pub going_on : {w' : List ℕ} {v' : View} {st' : State} (sc' : Scope) {past : ℕ} → past ≡ behind t flat row → LeftAt s t w w' v' st held_next st'
          → Going s t bound codes args flat end w₀ w' v' st₀ st' (showing sc' at) past held
      going_on {w'} {v'} {st'} sc' e l =
          let r = g.ready in
          let run = run_code codes in
          let e₁ = going_more.head in
          let one = l.left in
          let order = g.stand.order in
          let size = l.others.size in
          let ends = hold_reached st.steps st.room _ one st'.steps st'.room l.is in
          let same-list = eval_within run e₁ g.here one ends.0 in
          let sound = rw ends.0 at (eval_sound bound run (run_code_sound bound codes) e₁ going_fits g.here r.sound).holds in
          rw e (record {
            rest = going_more.rest;
            here = onward e₁ one.here;
            passed = append g.passed one.values;
            is = held_on one st'.steps st'.room l.is;
            ready = record {
              nodes = going_more.nodes;
              inside = λ is. subst (λ (p : Within). NotTop (beyond e₁ p)) (sym same-list) (inside_beyond s t row e₁ g.here.within (r.inside is));
              setting = record {
                sees = sees_in _ l.sees;
                arguments = subst (λ x. ArgumentsOf w' args at.frame st'.top x) (sym (eval_stays run e₁ g.here one ends.0).arguments)
                    (arguments_kept l.others args at.frame st'.top g.here.arguments r.setting.arguments l.stand.order);
                element_of = subst (λ (p : Within). ElementOf s t (behind t flat row) at.within (beyond e₁ p)) (sym same-list)
                    (element_beyond s t row e₁ flat going_more.node at.within g.here.within r.inside r.setting.element_of);
              };
              fitting = record { paid = l.paid; below = omega (arith, l.lower, r.fitting.below); short = omega (arith, r.fitting.short) };
              fit = fits_next.1;
              sound = sound.1;
              single = eval_scope bound codes e₁ g.here one going_fits r.single ends.0;
              entered = r.entered;
            };
            stand = stand_append (stand_below l.others (omega arith) g.stand) l.stand;
            others = untouched_then g.others (untouched_less st₀.top st₀.floor order g.lower l.others);
            lower = omega (arith, g.lower, l.lower);
            fewer = omega (arith, ends.1, g.fewer);
          })
