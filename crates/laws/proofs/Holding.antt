-- Laws of `hold`: how a run in two parts is held, and what one event costs. And how a list of nodes is held: a form's
-- elements, a call's code, the top level. Document 01: "Steps", "Workspace". Assumes nothing.
use Prim.Native.Nat.{ℕ, zero, suc, ◌+◌, ◌-◌, ◌≤◌, ◌<◌}
use mathlib.Core.Path.{◌≡◌, refl, sym, ap, ◌∙◌}
use mathlib.Core.List.{List, [], ◌∷◌, ◌++◌, map}
use mathlib.Core.Bool.{Bool, true, false}
use lib.ListN.{length, drop, get_or}
use lib.Dec.{ltb, eqb}
use borrow.Author.Tests.{lt-ltb, le-ltb, ne_eqb}
use native.Mathlib.Omega.{arith}
use Rattle.spec.specs.Expr.{when◌then◌else◌, Exprs, none, append, deepest, canonical}
use Rattle.spec.specs.Nodes.{Node, leaf, branch, bytecode, Nodes, empty, cons, fails, becomes, number_all, row, elements, markers}
use Rattle.spec.specs.Bytecode.{transform_all}
use Rattle.spec.specs.Runs.{Event, step, charge, End, done, stopped, Run, give, stop, before, after, follow, bind, Held, reached, ceased, hold_events, hold, steps_in}
use Rattle.spec.specs.Plan.{Within, top, element, inner, Here, plan}
use Rattle.spec.specs.Evaluation.{Left, entering, complete, Call, in_order, perform, rule, eval_all, eval, run_code, top_level, start, run, result}
use Rattle.laws.specs.Holding.{and_hold, beyond, onward, NotTop, NoBytecode, together, in_list, skip}
use Rattle.laws.specs.Sanity.{RowsBelow, Proper}
use Rattle.laws.proofs.Basics.{impossible, by_test}
use Rattle.laws.proofs.Runs.{bind_same, bind_assoc, charges, Holds, ends, lacks_step, lacks_work, holds}
use Rattle.laws.proofs.Singles.{eval_within}

-- and-hold

module _ {A B : Type 0} where
  -- the same, if what follows is the same
  pub and_hold_same : (x : Held A) {f g : A → ℕ → ℕ → Held B} → ((a : A) (s w : ℕ) → x ≡ reached a s w → f a s w ≡ g a s w)
      → and_hold x f ≡ and_hold x g
  and_hold_same (reached a s w) h = h a s w refl
  and_hold_same (ceased v r) h = refl

  pub and_hold_twice : {C : Type 0} (x : Held A) (f : A → ℕ → ℕ → Held B) (g : B → ℕ → ℕ → Held C)
      → and_hold (and_hold x f) g ≡ and_hold x (λ a s w. and_hold (f a s w) g)
  and_hold_twice (reached a s w) f g = refl
  and_hold_twice (ceased v r) f g = refl

  and_hold_if : (b : Bool) (v r : ℕ) (x : Held A) {y : Held B} (f : A → ℕ → ℕ → Held B) → y ≡ and_hold x f
      → (when b then ceased v r else y) ≡ and_hold (when b then ceased v r else x) f
  and_hold_if true v r x f h = refl
  and_hold_if false v r x f h = h

  -- a run, then what follows from its result

  hold_follow : (es : List Event) (e : End A) (f : A → Run B) (s w : ℕ)
      → hold s w (follow es e f) ≡ and_hold (hold_events s w es e) (λ a s' w'. hold s' w' (f a))
  unfolding hold_events
  hold_follow [] (done a) f s w = refl
  hold_follow [] (stopped v r) f s w = refl
  hold_follow (step r ∷ es) (done a) f s w = and_hold_if (eqb s 0) 16 r _ _ (hold_follow es (done a) f (s - 1) w)
  hold_follow (step r ∷ es) (stopped v q) f s w = and_hold_if (eqb s 0) 16 r _ _ (hold_follow es (stopped v q) f (s - 1) w)
  hold_follow (charge r n ∷ es) (done a) f s w = and_hold_if (ltb w n) 17 r _ _ (hold_follow es (done a) f s (w - n))
  hold_follow (charge r n ∷ es) (stopped v q) f s w = and_hold_if (ltb w n) 17 r _ _ (hold_follow es (stopped v q) f s (w - n))

  pub hold_bind : (s w : ℕ) (run : Run A) (f : A → Run B) → hold s w (bind run f) ≡ and_hold (hold s w run) (λ a s' w'. hold s' w' (f a))
  hold_bind s w run f = hold_follow run.events run.end f s w

-- hold, by a run's beginning

module _ {A : Type 0} (s w : ℕ) where
  pub hold_give : (a : A) → hold s w (give a) ≡ reached a s w
  unfolding hold_events
  hold_give a = refl

  pub hold_stop : (v r : ℕ) → hold s w (stop {A = A} v r) ≡ ceased v r
  unfolding hold_events
  hold_stop v r = refl

  module _ (r : ℕ) (run : Run A) where
    -- "if they would take one more, it is 16"
    pub hold_step_none : s ≡ 0 → hold s w (before (step r) run) ≡ ceased 16 r
    unfolding hold_events
    hold_step_none h = rw h

    pub hold_step : 0 < s → hold s w (before (step r) run) ≡ hold (s - 1) w run
    unfolding hold_events
    hold_step h = rw (ne_eqb s 0 (λ e. omega arith))

-- steps one after the other, as many as there are, or the first that there is none for
module _ {A : Type 0} (run : Run A) where
  pub hold_steps : (rows : List ℕ) (s w : ℕ) → length rows ≤ s → hold s w (after (map step rows) run) ≡ hold (s - length rows) w run
  hold_steps [] s w h = let all : s - 0 ≡ s = omega arith in rw all
  hold_steps (r ∷ rows) s w h =
      let fewer : s - 1 - length rows ≡ s - length (r ∷ rows) = omega arith in
      hold_step s w r (after (map step rows) run) (omega arith) ∙ hold_steps rows (s - 1) w (omega arith) ∙ ap (λ (k : ℕ). hold k w run) fewer

  pub hold_steps_none : (rows : List ℕ) (s w : ℕ) → s < length rows → hold s w (after (map step rows) run) ≡ ceased 16 (get_or rows s 0)
  hold_steps_none [] s w h = absurd (omega arith)
  hold_steps_none (r ∷ rows) zero w h = hold_step_none 0 w r (after (map step rows) run) refl
  hold_steps_none (r ∷ rows) (suc s) w h =
      let less : suc s - 1 ≡ s = omega arith in
      hold_step (suc s) w r (after (map step rows) run) (omega arith) ∙ rw less (hold_steps_none rows s w (omega arith))

module _ (s w r : ℕ) (vs : Exprs) (h : Here) where
  pub hold_complete_deep : 64 < deepest vs → hold s w (complete r vs h) ≡ ceased 6 r
  unfolding hold_events
  hold_complete_deep d = rw (lt-ltb 64 (deepest vs) d)

  -- 17: "workspace charge doesn't fit"
  pub hold_complete_none : deepest vs ≤ 64 → w < length (canonical vs) → hold s w (complete r vs h) ≡ ceased 17 r
  unfolding hold_events
  hold_complete_none d l = rw (le-ltb 64 (deepest vs) d, lt-ltb w (length (canonical vs)) l)

  pub hold_complete : deepest vs ≤ 64 → length (canonical vs) ≤ w
      → hold s w (complete r vs h) ≡ reached (record { values = vs; here = h }) s (w - length (canonical vs))
  unfolding hold_events
  hold_complete d l = rw (le-ltb 64 (deepest vs) d, le-ltb w (length (canonical vs)) l)

-- hold, by its answer

module _ {A : Type 0} where
  pub hold_reached : (s w : ℕ) (run : Run A) (a : A) (s' w' : ℕ) → hold s w run ≡ reached a s' w'
      → (run.end ≡ done a) × (s' + steps_in run.events ≡ s) × (w' + charges run.events ≡ w)
  hold_reached s w run a s' w' = go run.end (holds run.events run.end s w)
    where
      go : (e : End A) {x : Held A} → Holds s w run.events e x → x ≡ reached a s' w'
          → (e ≡ done a) × (s' + steps_in run.events ≡ s) × (w' + charges run.events ≡ w)
      go (done b) (ends n m p q l) h = let t : n ≡ s' = cc in let u : m ≡ w' = cc in (cc, omega arith, omega arith)
      go (stopped v r) (ends n m p q l) h = impossible (cc)
      go e (lacks_step r p l q) h = impossible (cc)
      go e (lacks_work r p l q) h = impossible (cc)

  -- the row named is one of the run's
  module _ (n : ℕ) (e : End A) (stops : (v r : ℕ) → e ≡ stopped v r → r < n) where
    hold_events_row : (es : List Event) (s w v r : ℕ) → RowsBelow n es → hold_events s w es e ≡ ceased v r → r < n
    unfolding hold_events
    hold_events_row [] s w v r b h = go e refl h
      where
        go : (x : End A) → e ≡ x → hold_events s w [] x ≡ ceased v r → r < n
        go (done a) p h = impossible (cc)
        go (stopped u q) p h = stops v r (cc)
    hold_events_row (step q ∷ es) s w v r b h =
        by_test (λ (x : Held A). x ≡ ceased v r → r < n) (eqb s 0) (λ t k. let p : q ≡ r = cc in omega arith)
        (λ t k. hold_events_row es (s - 1) w v r b.1 k) h
    hold_events_row (charge q m ∷ es) s w v r b h =
        by_test (λ (x : Held A). x ≡ ceased v r → r < n) (ltb w m) (λ t k. let p : q ≡ r = cc in omega arith)
        (λ t k. hold_events_row es s (w - m) v r b.1 k) h

  pub hold_ceased_row : (n s w : ℕ) (run : Run A) (v r : ℕ) → Proper n run → hold s w run ≡ ceased v r → r < n
  hold_ceased_row n s w run v r p h = hold_events_row n run.end (λ v r q. (p.stops v r q).1) run.events s w v r p.rows_below h

-- One expression

module _ (call : Call) (h : Here) where
  -- no bytecode form: by its plan
  pub rule_plan : (e : Node) → NoBytecode e → rule call e h ≡ perform call (row e) (eval_all call (elements e)) h (plan e h)
  unfolding rule
  rule_plan (leaf r a) n = refl
  rule_plan (branch r es) n = refl
  rule_plan (bytecode r es o) n = absurd n

  module _ (r : ℕ) (es : Nodes) where
    pub rule_fails : (v : ℕ) → rule call (bytecode r es (fails v)) h ≡ stop v r
    unfolding rule
    rule_fails v = refl

    -- the flat list's steps, then what it becomes
    pub rule_becomes : (rows : List ℕ) (e : Node) → rule call (bytecode r es (becomes rows e)) h ≡ after (map step rows) (rule call e h)
    unfolding rule
    rule_becomes rows e = refl

  -- its step, then the rule
  module _ (e : Node) (s w : ℕ) where
    pub hold_eval_none : s ≡ 0 → hold s w (eval call e h) ≡ ceased 16 (row e)
    hold_eval_none q = hold_step_none s w (row e) (rule call e h) q

    pub hold_eval : 0 < s → hold s w (eval call e h) ≡ hold (s - 1) w (rule call e h)
    hold_eval l = hold_step s w (row e) (rule call e h) l

-- Lists of nodes

onward_same : (e : Node) (h : Here) → NotTop h.within → onward e h ≡ h
onward_same e h t = go h.within refl t
  where
    go : (p : Within) → h.within ≡ p → NotTop p → entering (beyond e p) h ≡ h
    go element q t = rw (← q)
    go inner q t = rw (← q)
    go (top ns) q t = absurd t

module _ (call : Call) where
  pub hold_list_empty : (h : Here) (s w : ℕ) → hold s w (in_list call empty h) ≡ reached (record { values = none; here = h }) s w
  unfolding in_list hold_events
  hold_list_empty h s w = refl

  -- the first of a list, then the others
  pub hold_list : (e : Node) (es : Nodes) (h : Here) (s w : ℕ) → hold s w (in_list call (cons e es) h)
      ≡ and_hold (hold s w (eval call e h)) (λ one s' w'.
      and_hold (hold s' w' (in_list call es (onward e one.here))) (λ others s'' w''. reached (together one others) s'' w''))
  unfolding in_list hold_events
  hold_list e es h s w =
      let ls : Left → Run Left = λ one. in_list call es (onward e one.here) in
      rw (hold_bind s w (eval call e h) (λ one. bind (ls one) λ others. give (together one others)))
      (and_hold_same (hold s w (eval call e h)) λ one s' w' q. hold_bind s' w' (ls one) (λ others. give (together one others)))

  drop_skip : (k : ℕ) (es : Nodes) → drop k (eval_all call es) ≡ eval_all call (skip k es)
  unfolding rule skip
  drop_skip zero es = refl
  drop_skip (suc k) empty = refl
  drop_skip (suc k) (cons e es) = drop_skip k es

  -- `in_order` is `in_list`, but at the top level
  in_order_list : (es : Nodes) (h : Here) → NotTop h.within → in_order (eval_all call es) h ≡ in_list call es h
  unfolding in_order in_list rule
  in_order_list empty h t = refl
  in_order_list (cons e es) h t = bind_same (eval call e h) λ one q.
      let inside : NotTop one.here.within = rw (eval_within call e h one q) t in
      rw (onward_same e one.here inside, in_order_list es one.here inside)

  -- the elements of a form, without the first so many, then what follows from their values
  pub hold_inside : {B : Type 0} (p : Within) → NotTop p → (k : ℕ) (es : Nodes) (h : Here) (f : Exprs → Run B) (s w : ℕ)
      → hold s w (bind (in_order (drop k (eval_all call es)) (entering p h)) (λ left. f left.values))
      ≡ and_hold (hold s w (in_list call (skip k es) (entering p h))) (λ left s' w'. hold s' w' (f left.values))
  hold_inside p t k es h f s w =
      rw (drop_skip k es, in_order_list (skip k es) (entering p h) t) (hold_bind s w (in_list call (skip k es) (entering p h)) (λ left. f left.values))

-- 19: "more than [..] 32 codes in progress"
pub hold_code_none : {B : Type 0} (r : ℕ) (code : Nodes) (h : Here) (f : Left → Run B) (s w : ℕ)
    → hold s w (bind (run_code zero r code h) f) ≡ ceased 19 r
unfolding run_code hold_events
hold_code_none r code h f s w = refl

-- the code of a call, then what follows from its values
pub hold_code : {B : Type 0} (k r : ℕ) (code : Nodes) (h : Here) → h.within ≡ inner → (f : Exprs → Run B) (s w : ℕ)
    → hold s w (bind (run_code (suc k) r code h) (λ left. f left.values))
    ≡ and_hold (hold s w (in_list (run_code k) code h)) (λ left s' w'. hold s' w' (f left.values))
unfolding run_code
hold_code k r code h q f s w =
    rw (in_order_list (run_code k) code h (rw q tt)) (hold_bind s w (in_list (run_code k) code h) (λ left. f left.values))

-- the top level, and its values
top_level_list : (es : Nodes) (earlier : List ℕ) (h : Here)
    → bind (top_level earlier es h) (λ ls. give (result ls)) ≡ bind (in_list (run_code 32) es (entering (top earlier) h)) (λ left. give left.values)
unfolding top_level result in_list
top_level_list empty earlier h = refl
top_level_list (cons e es) earlier h =
    let ev : Run Left = eval (run_code 32) e (entering (top earlier) h) in
    bind_assoc ev _ _
    ∙ bind_same ev (λ one q.
    let level = top_level (markers e ++ earlier) es one.here in
    let list = in_list (run_code 32) es (onward e one.here) in
    let next : Exprs → Run Exprs = λ vs. give (append one.values vs) in
    let same : bind level (λ ls. give (result ls)) ≡ bind list (λ left. give left.values) =
    top_level_list es (markers e ++ earlier) one.here
    ∙ ap (λ (p : Within). bind (in_list (run_code 32) es (entering (beyond e p) one.here)) (λ left. give left.values))
    (sym (eval_within (run_code 32) e (entering (top earlier) h) one q)) in
    bind_assoc level _ _
    ∙ sym (bind_assoc level (λ ls. give (result ls)) next)
    ∙ ap (λ (run : Run Exprs). bind run next) same
    ∙ bind_assoc list _ _
    ∙ sym (bind_assoc list _ _))
    ∙ sym (bind_assoc ev _ _)

pub hold_run : (es : Exprs) (s w : ℕ) → hold s w (bind (run es) (λ ls. give (result ls)))
    ≡ and_hold (hold s w (in_list (run_code 32) (transform_all (number_all 0 es)) start)) (λ left s' w'. reached left.values s' w')
unfolding run hold_events
hold_run es s w =
    let nodes = transform_all (number_all 0 es) in
    rw (top_level_list nodes [] start) (hold_bind s w (in_list (run_code 32) nodes start) _)
