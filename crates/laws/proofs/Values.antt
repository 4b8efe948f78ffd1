-- An invariant of evaluation. If the stream's expressions fit, so do those of the result, none has over 64 forms one inside another, and their
-- canonical bytes have been charged; every row that the run names is a row of the stream, and it stops only with the numbers of the rules.
-- Document 01: "a value with over 64 forms one inside another", "Workspace", "Its value is itself". Assumes nothing.
use Prim.Native.Nat.{ℕ, zero, suc, ◌+◌, ◌≤◌, ◌<◌}
use mathlib.Core.Path.{◌≡◌, refl, ap}
use mathlib.Core.List.{List, [], ◌∷◌, ◌++◌, map}
use mathlib.Core.Bool.{false}
use native.Mathlib.Omega.{arith}
use lib.ListN.{length, drop, length-append}
use Rattle.spec.specs.Expr.{when◌then◌else◌, Atom, nil, array, int, ref, Expr, atom, form, Exprs, none, more, only, append, first, without, rows, rows_all, depth, deepest, canonical}
use Rattle.spec.specs.Nodes.{Word, Node, leaf, branch, bytecode, Nodes, empty, cons, Outcome, fails, becomes, number, number_all, unnumbered, unnumbered_all, elements, markers}
use Rattle.spec.specs.Bytecode.{transform_all}
use Rattle.spec.specs.Runs.{Event, step, charge, End, done, stopped, Run, stop, give, before, after, follow, bind}
use Rattle.spec.specs.Plan.{Defined, value, function, Scope, Within, top, Arguments, outside, passed, Here, Finish, as_form, as_definition, as_concat, as_call, Plan, refuse, leave, associate, define_function, inside, plan}
use Rattle.spec.specs.Evaluation.{Left, entering, complete, join, one_value, Call, finish, Meaning, in_order, perform, rule, rule_bytecode, eval_all, eval, run_code, top_level, start, run, result}
use Rattle.laws.specs.Demands.{Bytes}
use Rattle.laws.specs.Holding.{onward, in_list}
use Rattle.laws.specs.Sanity.{RowsBelow, rule_number, RuleNumber, Proper}
use Rattle.laws.proofs.Basics.{impossible, by_test}
use Rattle.laws.proofs.Fits.{bytes_append, Fits, FitsExpr, FitsAll, FitsNode, FitsNodes, FitsOutcome, row_below, tail_fits, elements_fit}
use Rattle.laws.proofs.Canonical.{canonical_append}
use Rattle.laws.proofs.Runs.{charges, charges_append}
use Rattle.laws.proofs.Walk.{Rule, refuses, own, defined, argument, others, associates, defines_function, defines_value, joins, forms, calls, calls_subst, as_written, rule_is}
use Rattle.laws.proofs.Bytecode.{transform_all_fits}
use Rattle.laws.proofs.Singles.{EachDefined, look_up_each, complete_cases}

-- values that fit and have at most 64 forms one inside another
abbrev pub Sound : Exprs → Type 0
Sound vs = FitsAll vs × (deepest vs ≤ 64)

none_sound : Sound none
unfolding depth
none_sound = (tt, omega arith)

atom_sound : (a : Atom) → Fits a → Sound (only (atom a))
unfolding depth
atom_sound a f = ((f, tt), omega arith)

append_sound : (vs ws : Exprs) → Sound vs → Sound ws → Sound (append vs ws)
unfolding append depth
append_sound none ws s t = t
append_sound (more v vs) ws s t =
    let both : Sound (append vs ws) = append_sound vs ws (s.0.1, omega arith) t in
    ((s.0.0, both.0), omega arith)

without_sound : (n : ℕ) (vs : Exprs) → Sound vs → Sound (without n vs)
unfolding without depth
without_sound zero vs s = s
without_sound (suc n) none s = s
without_sound (suc n) (more v vs) s = without_sound n vs (s.0.1, omega arith)

first_sound : (n : ℕ) (vs : Exprs) → Sound vs → Sound (first n vs)
unfolding first depth
first_sound zero vs s = none_sound
first_sound (suc n) none s = s
first_sound (suc n) (more v vs) s =
    let others : Sound (first n vs) = first_sound n vs (s.0.1, omega arith) in
    ((s.0.0, others.0), omega arith)

-- Rows and refusals

-- 16, 17 and 18 are no rule's numbers: `not_rule refl`
pub not_rule : {v w : ℕ} → rule_number v ≡ false → RuleNumber w → w ≡ v → ⊥
not_rule n p q = impossible (cc)

-- what holds of a result, or of a refusal
abbrev Ends : {A : Type 0} → (ℕ → ℕ → Type 0) → (A → Type 0) → End A → Type 0
Ends S P (done a) = P a
Ends S P (stopped w r) = S w r

-- "Its value is itself": without its row numbers, an expression is as it was before it had them
mutual
  unfolding number unnumbered

  pub unnumbered_number : (r : ℕ) (e : Expr) → unnumbered (number r e) ≡ e
  unnumbered_number r (atom a) = refl
  unnumbered_number r (form es) = ap form (unnumbered_number_all (r + 1) es)

  pub unnumbered_number_all : (r : ℕ) (es : Exprs) → unnumbered_all (number_all r es) ≡ es
  unnumbered_number_all r none = refl
  unnumbered_number_all r (more e es) = rw (unnumbered_number r e, unnumbered_number_all (r + rows e) es)

-- What is so in a stream of so many rows
module _ (bound : ℕ) where
  -- a rule's number, at a row of the stream
  abbrev Stops : ℕ → ℕ → Type 0
  Stops w r = RuleNumber w × (r < bound)

  -- a run that names rows of the stream and stops only as a rule says; P holds of its events and its result
  pub record Goes {A : Type 0} (P : List Event → A → Type 0) (run : Run A) : Type 0 where
    pub rows_below : RowsBelow bound run.events
    pub holds : Ends Stops (P run.events) run.end

  rows_append : (es fs : List Event) → RowsBelow bound es → RowsBelow bound fs → RowsBelow bound (es ++ fs)
  rows_append [] fs p q = q
  rows_append (step r ∷ es) fs p q = (p.0, rows_append es fs p.1 q)
  rows_append (charge r m ∷ es) fs p q = (p.0, rows_append es fs p.1 q)

  bind_goes : {A B : Type 0} {P : List Event → A → Type 0} {Q : List Event → B → Type 0} {run : Run A} {f : A → Run B} → Goes P run →
      ((a : A) → P run.events a → Goes (λ es. Q (run.events ++ es)) (f a)) → Goes Q (bind run f)
  bind_goes {A} {P = P} {Q = Q} {run = run} {f = f} p q = go run.end p.holds
    where
      go : (e : End A) → Ends Stops (P run.events) e → Goes Q (follow run.events e f)
      go (done a) h = record {
        rows_below = rows_append run.events (f a).events p.rows_below (q a h).rows_below;
        holds = (q a h).holds;
      }
      go (stopped w r) h = record { rows_below = p.rows_below; holds = h }

  module _ {A : Type 0} {P : List Event → A → Type 0} where
    stop_goes : {w r : ℕ} → RuleNumber w → r < bound → Goes P (stop w r)
    stop_goes p q = record { rows_below = tt; holds = (p, q) }

    give_goes : {a : A} → P [] a → Goes P (give a)
    give_goes p = record { rows_below = tt; holds = p }

  goes_proper : {A : Type 0} {P : List Event → A → Type 0} {run : Run A} → Goes P run → Proper bound run
  goes_proper g = record { rows_below = g.rows_below; stops = λ w r p. rw p at g.holds }

  mutual
    unfolding number rows

    number_fits : (r : ℕ) (e : Expr) → r + rows e ≤ bound → FitsExpr e → FitsNode bound (number r e)
    number_fits r (atom a) h f = (omega arith, f)
    number_fits r (form es) h f = (omega arith, number_all_fits (r + 1) es (omega arith) f)

    pub number_all_fits : (r : ℕ) (es : Exprs) → r + rows_all es ≤ bound → FitsAll es → FitsNodes bound (number_all r es)
    number_all_fits r none h f = tt
    number_all_fits r (more e es) h f = (number_fits r e (omega arith) f.0, number_all_fits (r + rows e) es (omega arith) f.1)

  -- the expressions of a stream, as they are evaluated
  pub stream_fits : (es : Exprs) → rows_all es ≤ bound → FitsAll es → FitsNodes bound (transform_all (number_all 0 es))
  stream_fits es h f = transform_all_fits bound (number_all 0 es) (number_all_fits 0 es (omega arith) f)

  mutual
    unfolding unnumbered

    unnumbered_fits : (e : Node) → FitsNode bound e → FitsExpr (unnumbered e)
    unnumbered_fits (leaf r a) f = f.1
    unnumbered_fits (branch r es) f = unnumbered_all_fits es f.1
    unnumbered_fits (bytecode r es o) f = unnumbered_all_fits es f.1

    pub unnumbered_all_fits : (es : Nodes) → FitsNodes bound es → FitsAll (unnumbered_all es)
    unnumbered_all_fits empty f = tt
    unnumbered_all_fits (cons e es) f = (unnumbered_fits e f.0, unnumbered_all_fits es f.1)

  written_fits : (e : Node) → FitsNode bound e → FitsNode bound (as_written e)
  written_fits (leaf r a) f = f
  written_fits (branch r es) f = f
  written_fits (bytecode r es o) f = (f.0, f.1)

  -- Where an expression is evaluated: values and arguments are sound, and code fits

  abbrev SoundDefined : Defined → Type 0
  SoundDefined (value vs) = Sound vs
  SoundDefined (function es) = FitsNodes bound es

  abbrev pub SoundScope : Scope → Type 0
  SoundScope = EachDefined SoundDefined

  abbrev SoundArguments : Arguments → Type 0
  SoundArguments outside = Unit {0}
  SoundArguments (passed vs) = Sound vs

  abbrev pub SoundHere : Here → Type 0
  SoundHere h = SoundScope h.scope × SoundArguments h.arguments

  -- Plans: what is to be done for an expression that fits

  abbrev SoundFinish : Finish → Type 0
  SoundFinish as_form = Unit {0}
  SoundFinish (as_definition m n) = Unit {0}
  SoundFinish as_concat = Unit {0}
  SoundFinish (as_call code scope) = FitsNodes bound code × SoundScope scope

  abbrev SoundPlan : Plan → Type 0
  SoundPlan (refuse w) = RuleNumber w
  SoundPlan (leave vs) = Sound vs
  SoundPlan (associate vs k) = FitsAll vs
  SoundPlan (define_function d) = SoundDefined d.content
  SoundPlan (inside k p f) = SoundFinish f

  rule_sound : (h : Here) {w : Word} {e : Node} {p : Plan} → Rule h w e p → FitsNode bound e → SoundHere h → SoundPlan p
  rule_sound h (refuses n) f s = n
  rule_sound h (own {a = a}) f s = atom_sound a f.1
  rule_sound h (defined {m = m} {n} t) f s = (rw t at (look_up_each SoundDefined m n h.scope s.0)).0
  rule_sound h (argument {n = n} {vs = vs} t l) f s = first_sound 1 (without n vs) (without_sound n vs (rw t at s.1))
  rule_sound h (others {n = n} {vs = vs} t l) f s = without_sound n vs (rw t at s.1)
  rule_sound h (associates {es = es} may) f s = (unnumbered_all_fits es f.1, tt)
  rule_sound h (defines_function {v = v} may t) f s = tail_fits bound (elements v) (elements_fit bound v f.1.1.1.0)
  rule_sound h (defines_value may t) f s = tt
  rule_sound h (joins t u) f s = tt
  rule_sound h forms f s = tt
  rule_sound h (calls {m = m} {n} t) f s = rw t at (look_up_each SoundDefined m n h.scope s.0)
  rule_sound h (calls_subst {fs = fs} t) f s = (tail_fits bound fs f.1.0.1, s.0)

  pub plan_sound : (e : Node) (h : Here) → FitsNode bound e → SoundHere h → SoundPlan (plan e h)
  plan_sound e h f s = rule_sound h (rule_is h e) (written_fits e f) s

  -- a call's code, and the definitions that it sees
  pub call_sound : (e : Node) (h : Here) (k : ℕ) (p : Within) (code : Nodes) (scope : Scope) → plan e h ≡ inside k p (as_call code scope)
      → FitsNode bound e → SoundHere h → FitsNodes bound code × SoundScope scope
  call_sound e h k p code scope q f s = rw q at (plan_sound e h f s)

  -- Evaluation: an expression that fits leaves sound values, and what follows is evaluated where all is sound too

  abbrev SoundLeft : List Event → Left → Type 0
  SoundLeft es left = Sound left.values × SoundHere left.here × (length (canonical left.values) ≤ charges es)

  -- what comes before doesn't matter
  after_goes : {A : Type 0} {P : List Event → A → Type 0} {run : Run A} {f : A → Run Left} → Goes P run →
      ((a : A) → P run.events a → Goes SoundLeft (f a)) → Goes SoundLeft (bind run f)
  after_goes {run = run} {f} p q = bind_goes p λ a h. let g = q a h in record { rows_below = g.rows_below; holds = go (f a).end (f a).events g.holds }
    where
      go : (e : End Left) (es : List Event) → Ends Stops (SoundLeft es) e → Ends Stops (SoundLeft (run.events ++ es)) e
      go (done left) es h = (h.0, h.1, omega (arith, h.2, charges_append run.events es))
      go (stopped w r) es h = h

  step_goes : {r : ℕ} {run : Run Left} → r < bound → Goes SoundLeft run → Goes SoundLeft (before (step r) run)
  unfolding charges
  step_goes p g = record { rows_below = (p, g.rows_below); holds = g.holds }

  steps_go : (rows : List ℕ) {run : Run Left} → RowsBelow bound (map step rows) → Goes SoundLeft run → Goes SoundLeft (after (map step rows) run)
  steps_go [] p g = g
  steps_go (r ∷ rows) p g = step_goes p.0 (steps_go rows p.1 g)

  -- the first of a list, then the others: their charges add up
  both_paid : (es fs : List Event) (vs ws : Exprs) → length (canonical vs) ≤ charges es → length (canonical ws) ≤ charges fs
      → length (canonical (append vs ws)) ≤ charges (es ++ (fs ++ []))
  unfolding charges
  both_paid es fs vs ws p q = simp (canonical_append, length-append, charges_append) (omega arith)

  abbrev SoundMeaning : Meaning → Type 0
  SoundMeaning m = (h : Here) → SoundHere h → Goes SoundLeft (m h)

  abbrev SoundMeanings : List Meaning → Type 0
  SoundMeanings [] = Unit {0}
  SoundMeanings (m ∷ ms) = SoundMeaning m × SoundMeanings ms

  drop_sound : (k : ℕ) (ms : List Meaning) → SoundMeanings ms → SoundMeanings (drop k ms)
  drop_sound zero ms s = s
  drop_sound (suc k) [] s = s
  drop_sound (suc k) (m ∷ ms) s = drop_sound k ms s.1

  complete_sound : (r : ℕ) (vs : Exprs) (h : Here) → r < bound → FitsAll vs → SoundHere h → Goes SoundLeft (complete r vs h)
  unfolding charges
  complete_sound r vs h q f s =
      complete_cases (Goes SoundLeft) r vs h (stop_goes refl q) λ d. record { rows_below = (q, tt); holds = ((f, d), s, omega arith) }

  join_sound : (r : ℕ) (bs : List ℕ) (vs : Exprs) (h : Here) → r < bound → Bytes bs → FitsAll vs → SoundHere h →
      Goes SoundLeft (join r bs vs h)
  unfolding join
  join_sound r bs none h q g f s = complete_sound r (only (atom (array bs))) h q (g, tt) s
  join_sound r bs (more (atom nil) vs) h q g f s = stop_goes refl q
  join_sound r bs (more (atom (array cs)) vs) h q g f s = join_sound r (bs ++ cs) vs h q (bytes_append bs cs g f.0) f.1 s
  join_sound r bs (more (atom (int v)) vs) h q g f s = stop_goes refl q
  join_sound r bs (more (atom (ref m n)) vs) h q g f s = stop_goes refl q
  join_sound r bs (more (form es) vs) h q g f s = stop_goes refl q

  in_order_sound : (ms : List Meaning) (h : Here) → SoundMeanings ms → SoundHere h → Goes SoundLeft (in_order ms h)
  unfolding in_order canonical
  in_order_sound [] h m s = give_goes (none_sound, s, omega arith)
  in_order_sound (e ∷ es) h m s =
      bind_goes (m.0 h s) λ left l. bind_goes (in_order_sound es left.here m.1 l.1)
      λ later k. give_goes (append_sound left.values later.values l.0 k.0, k.1, both_paid _ _ left.values later.values l.2 k.2)

  abbrev SoundCall : Call → Type 0
  SoundCall call = (r : ℕ) (code : Nodes) (h : Here) → r < bound → FitsNodes bound code → SoundHere h → Goes SoundLeft (call r code h)

  module _ (call : Call) (calls : SoundCall call) where
    finish_sound : (r : ℕ) (h : Here) (f : Finish) (vs : Exprs) → r < bound → SoundFinish f → Sound vs → SoundHere h →
        Goes SoundLeft (finish call r h f vs)
    unfolding canonical
    finish_sound r h as_form vs q f v s = complete_sound r (only (form vs)) h q (v.0, tt) s
    finish_sound r h (as_definition m n) vs q f v s = give_goes (none_sound, ((v, s.0), s.1), omega arith)
    finish_sound r h as_concat vs q f v s = join_sound r [] vs h q tt v.0 s
    finish_sound r h (as_call code scope) vs q f v s =
        after_goes (calls r code _ q f.0 (f.1, v))
        λ left l. complete_sound r (when one_value code then left.values else only (form left.values)) h q
        (by_test FitsAll (one_value code) (λ e. l.0.0) (λ e. (l.0.0, tt))) s

    perform_sound : (r : ℕ) (ms : List Meaning) (h : Here) (p : Plan) → r < bound → SoundPlan p → SoundMeanings ms → SoundHere h →
        Goes SoundLeft (perform call r ms h p)
    unfolding canonical
    perform_sound r ms h (refuse w) q v m s = stop_goes v q
    perform_sound r ms h (leave vs) q v m s = complete_sound r vs h q v.0 s
    perform_sound r ms h (associate vs k) q v m s = complete_sound r vs _ q v s
    perform_sound r ms h (define_function d) q v m s = give_goes (none_sound, ((v, s.0), s.1), omega arith)
    perform_sound r ms h (inside k p f) q v m s =
        after_goes (in_order_sound (drop k ms) (entering p h) (drop_sound k ms m) s) λ left l. finish_sound r h f left.values q v l.0 s

    mutual
      unfolding rule

      rule_goes : (e : Node) → FitsNode bound e → SoundMeaning (rule call e)
      rule_goes (leaf r a) f h s = perform_sound r [] h (plan (leaf r a) h) f.0 (plan_sound (leaf r a) h f s) tt s
      rule_goes (branch r es) f h s =
          perform_sound r (eval_all call es) h (plan (branch r es) h) f.0 (plan_sound (branch r es) h f s) (eval_all_sound es f.1) s
      rule_goes (bytecode r es o) f h s = bytecode_goes r o f.0 f.3 h s

      bytecode_goes : (r : ℕ) (o : Outcome) → r < bound → FitsOutcome bound o → SoundMeaning (rule_bytecode call r o)
      bytecode_goes r (fails w) q f h s = stop_goes f q
      bytecode_goes r (becomes rows e) q f h s = steps_go rows f.0 (rule_goes e f.1 h s)

      eval_all_sound : (es : Nodes) → FitsNodes bound es → SoundMeanings (eval_all call es)
      eval_all_sound empty f = tt
      eval_all_sound (cons e es) f = (λ h s. step_goes (row_below bound e f.0) (rule_goes e f.0 h s), eval_all_sound es f.1)

    pub eval_sound : (e : Node) → FitsNode bound e → SoundMeaning (eval call e)
    eval_sound e f h s = step_goes (row_below bound e f) (rule_goes e f h s)

  pub run_code_sound : (k : ℕ) → SoundCall (run_code k)
  unfolding run_code
  run_code_sound zero r code h q f s = stop_goes refl q
  run_code_sound (suc k) r code h q f s =
      in_order_sound (eval_all (run_code k) code) h (eval_all_sound (run_code k) (run_code_sound k) code f) s

  module _ (k : ℕ) where
    in_list_sound : (es : Nodes) (h : Here) → FitsNodes bound es → SoundHere h → Goes SoundLeft (in_list (run_code k) es h)
    unfolding in_list canonical
    in_list_sound empty h f s = give_goes (none_sound, s, omega arith)
    in_list_sound (cons e es) h f s =
        bind_goes (eval_sound (run_code k) (run_code_sound k) e f.0 h s)
        λ left l. bind_goes (in_list_sound es (onward e left.here) f.1 l.1)
        λ later m. give_goes (append_sound left.values later.values l.0 m.0, m.1, both_paid _ _ left.values later.values l.2 m.2)

    pub in_list_left : (es : Nodes) (h : Here) (left : Left) → FitsNodes bound es → SoundHere h → (in_list (run_code k) es h).end ≡ done left
        → Sound left.values × SoundHere left.here
    in_list_left es h left f s q = let l = rw q at (in_list_sound es h f s).holds in (l.0, l.1)

  -- the result of the top level, too
  abbrev SoundResult : List Event → List Exprs → Type 0
  SoundResult es ls = Sound (result ls) × (length (canonical (result ls)) ≤ charges es)

  top_level_sound : (earlier : List ℕ) (es : Nodes) (h : Here) → FitsNodes bound es → SoundHere h → Goes SoundResult (top_level earlier es h)
  unfolding top_level result canonical
  top_level_sound earlier empty h f s = give_goes (none_sound, omega arith)
  top_level_sound earlier (cons e es) h f s =
      bind_goes (eval_sound (run_code 32) (run_code_sound 32) e f.0 (entering (top earlier) h) s)
      λ left l. bind_goes (top_level_sound (markers e ++ earlier) es left.here f.1 l.1)
      λ ls k. give_goes (append_sound left.values (result ls) l.0 k.0, both_paid _ _ left.values (result ls) l.2 k.1)

run_goes : (es : Exprs) → FitsAll es → Goes (rows_all es) (SoundResult (rows_all es)) (run es)
unfolding run
run_goes es f =
    let all : ℕ = rows_all es in
    top_level_sound all [] (transform_all (number_all 0 es)) start (stream_fits all es (omega arith) f) (tt, tt)

-- what a run that ends leaves
pub run_fits : (es : Exprs) (ls : List Exprs) → FitsAll es → (run es).end ≡ done ls
    → Sound (result ls) × (length (canonical (result ls)) ≤ charges (run es).events)
run_fits es ls f p = rw p at (run_goes es f).holds

pub run_proper : (es : Exprs) → FitsAll es → Proper (rows_all es) (run es)
run_proper es f = goes_proper (rows_all es) (run_goes es f)
