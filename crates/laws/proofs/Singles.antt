-- What evaluation leaves of where it happens: in which lists the namespaces and the definitions stay the same. And an invariant: a
-- definition that is no function has one value.
-- Document 01: "The definition is visible to what follows in the same list [..] and ends with that list." Assumes nothing.
use Prim.Native.Nat.{ℕ, zero, suc, ◌≤◌, ◌<◌}
use mathlib.Core.Path.{◌≡◌, refl, ap, ◌∙◌}
use mathlib.Core.List.{List, [], ◌∷◌, ◌++◌}
use mathlib.Core.Bool.{true, false, ◌&&◌}
use native.Mathlib.Omega.{arith}
use lib.ListN.{length, drop}
use lib.Dec.{ltb, eqb}
use borrow.Author.Tests.{ltb-false, not-true}
use Rattle.spec.specs.Expr.{when◌then◌else◌, nil, array, int, ref, Expr, atom, form, Exprs, none, more, only, append, size, first, without, deepest, canonical}
use Rattle.spec.specs.Nodes.{Word, rest, plain, is, Node, leaf, branch, bytecode, Nodes, empty, cons, Outcome, fails, becomes, elements, tail, head_word, headed_by}
use Rattle.spec.specs.Runs.{charge, done, Run, give, stop, before}
use Rattle.spec.specs.Plan.{Defined, value, function, Definition, Scope, Found, latest, nothing, look_up, Namespace, Within, element, inner, top, passed, Here, as_form, as_concat, as_call, Plan, associate, inside, plan}
use Rattle.spec.specs.Evaluation.{Left, entering, add_namespace, add_definition, complete, join, one_value, Call, Meaning, in_order, perform, rule, rule_bytecode, eval_all, eval, run_code}
use Rattle.laws.specs.Holding.{beyond, onward, NotTop, together, in_list}
use Rattle.laws.proofs.Basics.{impossible, by_test}
use Rattle.laws.proofs.Fits.{FitsNode, FitsNodes, FitsOutcome, tail_fits, elements_fit}
use Rattle.laws.proofs.Bytecode.{unled_plain}
use Rattle.laws.proofs.Runs.{bind_done}
use Rattle.laws.proofs.Walk.{Rule, refuses, own, defined, argument, others, associates, defines_function, defines_value, joins, forms, calls, calls_subst, rule_is}

-- What is so of each definition that is visible

abbrev pub EachDefined : (Defined → Type 0) → Scope → Type 0
EachDefined P [] = Unit {0}
EachDefined P (d ∷ ds) = P d.content × EachDefined P ds

abbrev pub EachFound : (Defined → Type 0) → Found → Type 0
EachFound P (latest d behind) = P d × EachDefined P behind
EachFound P nothing = Unit {0}

pub look_up_each : (P : Defined → Type 0) (m n : ℕ) (ds : Scope) → EachDefined P ds → EachFound P (look_up m n ds)
unfolding look_up
look_up_each P m n [] s = tt
look_up_each P m n (d ∷ ds) s = by_test (EachFound P) (eqb d.marker m && eqb d.name n) (λ t. s) (λ t. look_up_each P m n ds s.1)

-- one value, and no more
pub record Single (vs : Exprs) : Type 0 where
  pub value : Expr
  pub is : vs ≡ only value

-- a value is one, and a function's code fits, in a stream of so many rows
module _ (bound : ℕ) where
  abbrev SingleDefined : Defined → Type 0
  SingleDefined (value vs) = Single vs
  SingleDefined (function es) = FitsNodes bound es

  abbrev pub SingleScope : Scope → Type 0
  SingleScope = EachDefined SingleDefined

-- argument n
argument_single : (n : ℕ) (vs : Exprs) → n < size vs → Single (first 1 (without n vs))
unfolding first without size
argument_single n none l = absurd (omega arith)
argument_single zero (more v vs) l = record { value = v; is = refl }
argument_single (suc n) (more v vs) l = argument_single n vs (omega arith)

abbrev NotInner : Within → Type 0
NotInner p = p ≡ inner → ⊥

-- the definitions that a call's code sees
pub call_single : (bound : ℕ) (e : Node) (h : Here) (k : ℕ) (p : Within) (code : Nodes) (scope : Scope) → plan e h ≡ inside k p (as_call code scope)
    → SingleScope bound h.scope → SingleScope bound scope
call_single bound e h k p code scope q s = go (rw q at (rule_is h e))
  where
    go : {w : Word} {e : Node} {k : ℕ} {p : Within} {code : Nodes} {scope : Scope} → Rule h w e (inside k p (as_call code scope)) → SingleScope bound scope
    go (calls {m = m} {n} t) = (rw t at (look_up_each (SingleDefined bound) m n h.scope s)).1
    go (calls_subst t) = s

-- 19: "more than [..] 64 namespaces"
pub plan_counted : (e : Node) (h : Here) (vs : Exprs) (k : Namespace) → plan e h ≡ associate vs k → length h.namespaces < 64
plan_counted e h vs k q = go (rw q at (rule_is h e))
  where
    go : {w : Word} {e : Node} {vs : Exprs} {k : Namespace} → Rule h w e (associate vs k) → length h.namespaces < 64
    go (associates may) = may.few

-- Evaluation

pub append_none : (vs : Exprs) → append vs none ≡ vs
unfolding append
append_none none = refl
append_none (more v vs) = ap (more v) (append_none vs)

-- a value that is complete has at most 64 forms one inside another, and is charged
pub complete_cases : (P : Run Left → Type 0) (r : ℕ) (vs : Exprs) (h : Here) → P (stop 6 r) →
    (deepest vs ≤ 64 → P (before (charge r (length (canonical vs))) (give (record { values = vs; here = h })))) → P (complete r vs h)
complete_cases P r vs h p q = by_test P (ltb 64 (deepest vs)) (λ e. p) (λ e. q (ltb-false 64 (deepest vs) e))

complete_done : (r : ℕ) (vs : Exprs) (h : Here) (left : Left) → (complete r vs h).end ≡ done left → left ≡ record { values = vs; here = h }
complete_done r vs h left =
    complete_cases (λ run. run.end ≡ done left → left ≡ record { values = vs; here = h }) r vs h (λ e. impossible (cc)) λ d e. cc

join_done : (r : ℕ) (bs : List ℕ) (vs : Exprs) (h : Here) (left : Left) → (join r bs vs h).end ≡ done left
    → (cs : List ℕ) × (left ≡ record { values = only (atom (array cs)); here = h })
unfolding join
join_done r bs none h left e = (bs, complete_done r _ h left e)
join_done r bs (more (atom nil) vs) h left e = impossible (cc)
join_done r bs (more (atom (array cs)) vs) h left e = join_done r (bs ++ cs) vs h left e
join_done r bs (more (atom (int v)) vs) h left e = impossible (cc)
join_done r bs (more (atom (ref m n)) vs) h left e = impossible (cc)
join_done r bs (more (form es) vs) h left e = impossible (cc)

-- where the code of a call is evaluated
abbrev in_code : Here → Scope → Exprs → Here
in_code h scope vs = record { within = inner; scope = scope; namespaces = h.namespaces; arguments = passed vs }

-- a form's elements are evaluated, then what is made of them: a form, a joined array, a call's value
module _ (call : Call) (r : ℕ) (ms : List Meaning) (h : Here) (left : Left) where
  form_done : (perform call r ms h (inside 0 element as_form)).end ≡ done left
      → (vs : Exprs) × (left ≡ record { values = only (form vs); here = h })
  form_done e = let a = bind_done (in_order ms (entering element h)) _ left e in (a.0.values, complete_done r _ h left a.2)

  concat_done : (perform call r ms h (inside 1 inner as_concat)).end ≡ done left
      → (bs : List ℕ) × (left ≡ record { values = only (atom (array bs)); here = h })
  concat_done e = let a = bind_done (in_order (drop 1 ms) (entering inner h)) _ left e in join_done r [] a.0.values h left a.2

  call_done : (code : Nodes) (scope : Scope) → (perform call r ms h (inside 1 inner (as_call code scope))).end ≡ done left
      → (vs : Exprs) × (l : Left) × ((call r code (in_code h scope vs)).end ≡ done l)
      × (left ≡ record { values = when one_value code then l.values else only (form l.values); here = h })
  call_done code scope e =
      let a = bind_done (in_order (drop 1 ms) (entering inner h)) _ left e in
      let b = bind_done (call r code (in_code h scope a.0.values)) _ left a.2 in
      (a.0.values, b.0, b.1, complete_done r _ h left b.2)

-- where what follows the expression e is evaluated
data Moves (call : Call) (h : Here) (e : Node) : Here → Type 0 where
  stays : Moves call h e h
  adds_namespace : {n : Namespace} → (NotTop h.within → ⊥) → Moves call h e (add_namespace n h)
  adds_function : {m n : ℕ} {code : Nodes} → ((bound : ℕ) → FitsNode bound e → FitsNodes bound code) → NotInner h.within
      → Moves call h e (add_definition (record { marker = m; name = n; content = function code }) h)
  adds_value : {m n : ℕ} (v : Node) → ((bound : ℕ) → FitsNode bound e → FitsNode bound v) → headed_by rest v ≡ false → NotInner h.within → (a : Left)
      → (in_order (eval_all call (cons v empty)) (entering inner h)).end ≡ done a
      → Moves call h e (add_definition (record { marker = m; name = n; content = value a.values }) h)

module _ (call : Call) where
  perform_moves : (r : ℕ) (h : Here) {w : Word} {e : Node} {p : Plan} → Rule h w e p → (left : Left)
      → (perform call r (eval_all call (elements e)) h p).end ≡ done left → Moves call h e left.here
  unfolding rule
  perform_moves r h (refuses n) left e = impossible (cc)
  perform_moves r h own left e = rw (complete_done r _ h left e) stays
  perform_moves r h (defined t) left e = rw (complete_done r _ h left e) stays
  perform_moves r h (argument t l) left e = rw (complete_done r _ h left e) stays
  perform_moves r h (others t l) left e = rw (complete_done r _ h left e) stays
  perform_moves r h (associates may) left e = rw (complete_done r _ _ left e) (adds_namespace (λ t. rw may.within at t))
  perform_moves r h (defines_function {m = m} {n} {v = v} may t) left e =
      let d : Definition = record { marker = m; name = n; content = function (tail (elements v)) } in
      let k : left ≡ record { values = none; here = add_definition d h } = cc in
      rw k (adds_function (λ bound f. tail_fits bound (elements v) (elements_fit bound v f.1.1.1.0)) may.within)
  perform_moves r h (defines_value {m = m} {n} {v = v} may t) left e =
      let a = bind_done (in_order (eval_all call (cons v empty)) (entering inner h)) _ left e in
      let d : Definition = record { marker = m; name = n; content = value a.0.values } in
      let k : left ≡ record { values = none; here = add_definition d h } = cc a.2 in
      rw k (adds_value v (λ bound f. f.1.1.1.0) may.no_rest may.within a.0 a.1)
  perform_moves r h (joins {x = x} {a} {b} t u) left e = rw (concat_done call r (eval_all call (cons x (cons a (cons b empty)))) h left e).1 stays
  perform_moves r h (forms {es = es}) left e = rw (form_done call r (eval_all call es) h left e).1 stays
  perform_moves r h (calls {q = q} {m} {n} {es} t) left e = rw (call_done call r (eval_all call (cons (leaf q (ref m n)) es)) h left _ _ e).3 stays
  perform_moves r h (calls_subst {q = q} {fs} {es} t) left e = rw (call_done call r (eval_all call (cons (branch q fs) es)) h left _ _ e).3 stays

  -- the expression itself, or what it becomes
  mutual
    unfolding rule

    rule_moves : (e : Node) (h : Here) (left : Left) → (rule call e h).end ≡ done left → (x : Node) × Moves call h x left.here
    rule_moves (leaf r a) h left e = (leaf r a, perform_moves r h (rule_is h (leaf r a)) left e)
    rule_moves (branch r es) h left e = (branch r es, perform_moves r h (rule_is h (branch r es)) left e)
    rule_moves (bytecode r es o) h left e = bytecode_moves r o h left e

    bytecode_moves : (r : ℕ) (o : Outcome) (h : Here) (left : Left) → (rule_bytecode call r o h).end ≡ done left → (x : Node) × Moves call h x left.here
    bytecode_moves r (fails w) h left e = impossible (cc)
    bytecode_moves r (becomes rows x) h left e = rule_moves x h left e

  pub eval_within : (e : Node) (h : Here) (left : Left) → (eval call e h).end ≡ done left → left.here.within ≡ h.within
  eval_within e h left q = go (rule_moves e h left q).1
    where
      go : {x : Node} {g : Here} → Moves call h x g → g.within ≡ h.within
      go stays = refl
      go (adds_namespace t) = refl
      go (adds_function f t) = refl
      go (adds_value v f r t a w) = refl

-- what evaluation leaves as it was: the arguments; the namespaces, but at the top level; the definitions, where none is allowed
pub record Stays (h g : Here) : Type 0 where
  pub arguments : g.arguments ≡ h.arguments
  pub namespaces : NotTop h.within → g.namespaces ≡ h.namespaces
  pub scope : h.within ≡ inner → g.scope ≡ h.scope

pub eval_stays : (call : Call) (e : Node) (h : Here) (left : Left) → (eval call e h).end ≡ done left → Stays h left.here
eval_stays call e h left q = go (rule_moves call e h left q).1
  where
    go : {x : Node} {g : Here} → Moves call h x g → Stays h g
    go stays = record { arguments = refl; namespaces = λ t. refl; scope = λ q. refl }
    go (adds_namespace t) = record { arguments = refl; namespaces = λ u. absurd (t u); scope = λ q. refl }
    go (adds_function f t) = record { arguments = refl; namespaces = λ u. refl; scope = λ q. absurd (t q) }
    go (adds_value v f r t a w) = record { arguments = refl; namespaces = λ u. refl; scope = λ q. absurd (t q) }

-- Lists of nodes

beyond_inside : (e : Node) (p : Within) → NotTop p → NotTop (beyond e p)
beyond_inside e element t = t
beyond_inside e inner t = t
beyond_inside e (top ns) t = absurd t

beyond_inner : (e : Node) (p : Within) → p ≡ inner → beyond e p ≡ inner
beyond_inner e p q = rw q

-- what the first of a list leaves, and what the others do
pub record Split (call : Call) (e : Node) (es : Nodes) (h : Here) (left : Left) : Type 0 where
  pub one : Left
  pub others : Left
  pub evaluates : (eval call e h).end ≡ done one
  pub continues : (in_list call es (onward e one.here)).end ≡ done others
  pub is : left ≡ together one others

module _ (call : Call) where
  in_list_none : (h : Here) (left : Left) → (in_list call empty h).end ≡ done left → left ≡ record { values = none; here = h }
  unfolding in_list
  in_list_none h left q = cc

  in_list_split : (e : Node) (es : Nodes) (h : Here) (left : Left) → (in_list call (cons e es) h).end ≡ done left → Split call e es h left
  unfolding in_list
  in_list_split e es h left q =
      let a = bind_done (eval call e h) _ left q in
      let b = bind_done (in_list call es (onward e a.0.here)) _ left a.2 in
      record { one = a.0; others = b.0; evaluates = a.1; continues = b.1; is = cc b.2 }

  pub in_list_stays : (es : Nodes) (h : Here) (left : Left) → (in_list call es h).end ≡ done left → Stays h left.here
  in_list_stays empty h left q = rw (in_list_none h left q) (record { arguments = refl; namespaces = λ t. refl; scope = λ t. refl })
  in_list_stays (cons e es) h left q =
      let s = in_list_split e es h left q in
      let w = eval_within call e h s.one s.evaluates in
      let a = eval_stays call e h s.one s.evaluates in
      let b = in_list_stays es (onward e s.one.here) s.others s.continues in
      rw s.is (record {
        arguments = b.arguments ∙ a.arguments;
        namespaces = λ t. b.namespaces (rw w (beyond_inside e h.within t)) ∙ a.namespaces t;
        scope = λ t. b.scope (rw w (beyond_inner e h.within t)) ∙ a.scope t;
      })

-- One value

-- an expression with this head has one value and defines nothing
data Valued (h : Here) (w : Word) : Type 0 where
  in_value : h.within ≡ inner → is w rest ≡ false → Valued h w
  no_function : is w plain ≡ true → Valued h w

not_valued_rest : {h : Here} → Valued h rest → ⊥
not_valued_rest (in_value i k) = impossible (cc)
not_valued_rest (no_function k) = impossible (cc)

valued_inner : {h : Here} {w : Word} → is w plain ≡ false → Valued h w → h.within ≡ inner
valued_inner n (in_value i k) = i
valued_inner n (no_function k) = impossible (cc)

-- it leaves one value, and what follows is evaluated where it was
abbrev pub LeavesOne : Here → Left → Type 0
LeavesOne h left = Single left.values × (left.here ≡ h)

module _ (bound : ℕ) where
  -- a call whose code is to give one value gives one
  abbrev SingleCall : Call → Type 0
  SingleCall call = (r : ℕ) (code : Nodes) (h : Here) (left : Left) → one_value code ≡ true → FitsNodes bound code → h.within ≡ inner
      → SingleScope bound h.scope → (call r code h).end ≡ done left → Single left.values

  module _ (call : Call) (call_single : SingleCall call) where
    call_value : (r : ℕ) (code : Nodes) (h : Here) (left : Left) → FitsNodes bound code → h.within ≡ inner → SingleScope bound h.scope
        → (call r code h).end ≡ done left → Single (when one_value code then left.values else only (form left.values))
    call_value r code h left f i s e =
        by_test Single (one_value code) (λ q. call_single r code h left q f i s e) (λ q. record { value = form left.values; is = refl })

    perform_single : (r : ℕ) (ms : List Meaning) (h : Here) {w : Word} {e : Node} {p : Plan} → Rule h w e p → FitsNode bound e → Valued h w → (left : Left)
        → SingleScope bound h.scope → (perform call r ms h p).end ≡ done left → LeavesOne h left
    perform_single r ms h (refuses n) f k left s e = impossible (cc)
    perform_single r ms h (own {a = a}) f k left s e = rw (complete_done r _ h left e) (record { value = atom a; is = refl }, refl)
    perform_single r ms h (defined {m = m} {n} t) f k left s e =
        rw (complete_done r _ h left e) ((rw t at (look_up_each (SingleDefined bound) m n h.scope s)).0, refl)
    perform_single r ms h (argument {n = n} {vs = vs} t l) f k left s e = rw (complete_done r _ h left e) (argument_single n vs l, refl)
    perform_single r ms h (others t l) f k left s e = absurd (not_valued_rest k)
    perform_single r ms h (associates may) f k left s e = impossible (cc (may.within, valued_inner refl k))
    perform_single r ms h (defines_function may t) f k left s e = absurd (may.within (valued_inner refl k))
    perform_single r ms h (defines_value may t) f k left s e = absurd (may.within (valued_inner refl k))
    perform_single r ms h (joins t u) f k left s e =
        let a = concat_done call r ms h left e in rw a.1 (record { value = atom (array a.0); is = refl }, refl)
    perform_single r ms h forms f k left s e = let a = form_done call r ms h left e in rw a.1 (record { value = form a.0; is = refl }, refl)
    perform_single r ms h (calls {m = m} {n} t) f k left s e =
        let a = call_done call r ms h left _ _ e in
        let d = rw t at (look_up_each (SingleDefined bound) m n h.scope s) in
        rw a.3 (call_value r _ _ a.1 d.0 refl d.1 a.2, refl)
    perform_single r ms h (calls_subst {fs = fs} t) f k left s e =
        let a = call_done call r ms h left _ _ e in rw a.3 (call_value r _ _ a.1 (tail_fits bound fs f.1.0.1) refl s a.2, refl)

    -- a bytecode form, too: what it becomes is headed by no name
    mutual
      unfolding rule

      rule_single : (e : Node) (h : Here) (left : Left) → FitsNode bound e → Valued h (head_word (elements e)) → SingleScope bound h.scope
          → (rule call e h).end ≡ done left → LeavesOne h left
      rule_single (leaf r a) h left f k s e = perform_single r [] h (rule_is h (leaf r a)) f k left s e
      rule_single (branch r es) h left f k s e = perform_single r (eval_all call es) h (rule_is h (branch r es)) f k left s e
      rule_single (bytecode r es o) h left f k s e = bytecode_single r o h left f.3 s e

      bytecode_single : (r : ℕ) (o : Outcome) (h : Here) (left : Left) → FitsOutcome bound o → SingleScope bound h.scope
          → (rule_bytecode call r o h).end ≡ done left → LeavesOne h left
      bytecode_single r (fails w) h left f s e = impossible (cc)
      bytecode_single r (becomes rows x) h left f s e = rule_single x h left f.1 (no_function (unled_plain (elements x) f.2)) s e

    -- an expression that is no `rest` form, where no definition is allowed, leaves one value
    eval_single : (e : Node) (h : Here) (left : Left) → FitsNode bound e → headed_by rest e ≡ false → h.within ≡ inner → SingleScope bound h.scope
        → (eval call e h).end ≡ done left → Single left.values
    eval_single e h left f q i s t = (rule_single e h left f (in_value i q) s t).0

    -- the only one of a list
    one_single : (e : Node) (h : Here) (left : Left) → FitsNode bound e → headed_by rest e ≡ false → h.within ≡ inner → SingleScope bound h.scope
        → (in_order (eval_all call (cons e empty)) h).end ≡ done left → Single left.values
    unfolding rule in_order
    one_single e h left f q i s t =
        let a = bind_done (eval call e h) _ left t in
        let k : left ≡ record { values = append a.0.values none; here = a.0.here } = cc a.2 in
        rw (k, append_none a.0.values) (eval_single e h a.0 f q i s a.1)

    moves_scope : (e : Node) (h : Here) {g : Here} → Moves call h e g → FitsNode bound e → SingleScope bound h.scope → SingleScope bound g.scope
    moves_scope e h stays f s = s
    moves_scope e h (adds_namespace t) f s = s
    moves_scope e h (adds_function c t) f s = (c bound f, s)
    moves_scope e h (adds_value v c r t a w) f s = (one_single v (entering inner h) a (c bound f) r refl s w, s)

    eval_scope_if : (e : Node) (h : Here) (left : Left) → FitsNode bound e → SingleScope bound h.scope → (eval call e h).end ≡ done left
        → SingleScope bound left.here.scope
    unfolding rule
    eval_scope_if (leaf r a) h left f s q = moves_scope (leaf r a) h (perform_moves call r h (rule_is h (leaf r a)) left q) f s
    eval_scope_if (branch r es) h left f s q = moves_scope (branch r es) h (perform_moves call r h (rule_is h (branch r es)) left q) f s
    eval_scope_if (bytecode r es o) h left f s q = rw (bytecode_single r o h left f.3 s q).1 s

  run_code_single : (k : ℕ) → SingleCall (run_code k)
  unfolding run_code
  run_code_single zero r code h left o f i s e = impossible (cc)
  run_code_single (suc k) r empty h left o f i s e = impossible (cc)
  run_code_single (suc k) r (cons e empty) h left o f i s q =
      one_single (run_code k) (run_code_single k) e h left f.0 (not-true (headed_by rest e) o) i s q
  run_code_single (suc k) r (cons e (cons x es)) h left o f i s q = impossible (cc)

pair : (us vs ws : Exprs) → Single vs → Single ws → us ≡ append vs ws → (x : Expr) × (y : Expr) × (us ≡ more x (only y))
unfolding append
pair us vs ws x y q = (x.value, y.value, q ∙ rw (x.is, y.is))

module _ (bound k : ℕ) where
  -- definitions that have one value each are kept so
  pub eval_scope : (e : Node) (h : Here) (left : Left) → FitsNode bound e → SingleScope bound h.scope → (eval (run_code k) e h).end ≡ done left
      → SingleScope bound left.here.scope
  eval_scope e h left f s t = eval_scope_if bound (run_code k) (run_code_single bound k) e h left f s t

  pub in_list_single : (e : Node) (h : Here) (left : Left) → FitsNode bound e → headed_by rest e ≡ false → h.within ≡ inner → SingleScope bound h.scope
      → (in_list (run_code k) (cons e empty) h).end ≡ done left → Single left.values
  in_list_single e h left f q i s t =
      let a = in_list_split (run_code k) e empty h left t in
      let b = in_list_none (run_code k) (onward e a.one.here) a.others a.continues in
      rw (a.is, b, append_none a.one.values) (eval_single bound (run_code k) (run_code_single bound k) e h a.one f q i s a.evaluates)

  pub in_list_pair : (e e' : Node) (h : Here) (left : Left) → FitsNode bound e → FitsNode bound e' → headed_by rest e ≡ false → headed_by rest e' ≡ false
      → h.within ≡ inner → SingleScope bound h.scope → (in_list (run_code k) (cons e (cons e' empty)) h).end ≡ done left
      → (x : Expr) × (y : Expr) × (left.values ≡ more x (only y))
  in_list_pair e e' h left f f' q t i s u =
      let a = in_list_split (run_code k) e (cons e' empty) h left u in
      let x = eval_single bound (run_code k) (run_code_single bound k) e h a.one f q i s a.evaluates in
      let w = beyond_inner e a.one.here.within (eval_within (run_code k) e h a.one a.evaluates ∙ i) in
      let y = in_list_single e' (onward e a.one.here) a.others f' t w (eval_scope e h a.one f s a.evaluates) a.continues in
      pair left.values a.one.values a.others.values x y (ap (λ (l : Left). l.values) a.is)
