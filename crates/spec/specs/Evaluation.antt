-- Document 01, "Evaluation": "depth first, left to right, over a list of definitions that are visible at each place", as a run. Assumes nothing.
use Rattle.std.specs.Prelude.{ℕ, zero, suc, List, [], ◌∷◌, ◌++◌, map, Bool, false, not, length, drop, ltb}
use Rattle.spec.specs.Expr.{when◌then◌else◌, array, if_array, atom, form, Exprs, none, more, only, append, canonical, deepest}
use Rattle.spec.specs.Nodes.{rest, Node, leaf, branch, bytecode, Nodes, empty, cons, Outcome, fails, becomes, number_all, row, headed_by, markers}
use Rattle.spec.specs.Bytecode.{transform_all}
use Rattle.spec.specs.Runs.{step, charge, Run, give, stop, before, after, bind}
use Rattle.spec.specs.Plan.{Definition, value, Namespace, Within, top, inner, outside, passed, Here, Finish, as_form, as_definition, as_concat, as_call, Plan, refuse, leave, associate, define_function, inside, plan}

-- What an evaluated expression leaves: values (one; of `define` none, of `rest` any number), and where what follows in the same list is
-- evaluated.
pub record Left : Type 0 where
  pub values : Exprs
  pub here : Here

-- the same, in another list
abbrev pub entering : Within → Here → Here
entering p h = record { within = p; scope = h.scope; namespaces = h.namespaces; arguments = h.arguments }

-- "associates ref's marker with id"
abbrev pub add_namespace : Namespace → Here → Here
add_namespace n h = record { within = h.within; scope = h.scope; namespaces = n ∷ h.namespaces; arguments = h.arguments }

-- "The definition is visible to what follows in the same list, at all depths"
abbrev pub add_definition : Definition → Here → Here
add_definition d h = record { within = h.within; scope = d ∷ h.scope; namespaces = h.namespaces; arguments = h.arguments }

-- "It leaves nothing in the result."
abbrev pub defining : Definition → Here → Run Left
defining d h = give (record { values = none; here = add_definition d h })

-- "when an expression's value is complete, its canonical length is charged (`rest`: its items together; `define`: nothing beyond its
-- value)". 6: "a value with over 64 forms one inside another"; "then 6, 17".
abbrev pub complete : ℕ → Exprs → Here → Run Left
complete r vs h =
    when ltb 64 (deepest vs) then stop 6 r else
    before (charge r (length (canonical vs))) (give (record { values = vs; here = h }))

-- "both arrays; their bytes joined": bs of the operands before. "Concat's 11 for an operand whose value is no array comes after both
-- operands".
unfoldable pub join : ℕ → List ℕ → Exprs → Here → Run Left
join r bs none h = complete r (only (atom (array bs))) h
join r bs (more (atom a) vs) h = if_array a (λ cs. join r (bs ++ cs) vs h) (stop 11 r)
join r bs (more (form es) vs) h = stop 11 r

-- "If the code is one expression other than a `rest` form, its value is the call's; else the call's value is the form of all its values."
abbrev pub one_value : Nodes → Bool
one_value empty = false
one_value (cons e empty) = not (headed_by rest e)
one_value (cons e (cons f es)) = false

-- how the code of the call at a row runs
abbrev pub Call : Type 0
Call = ℕ → Nodes → Here → Run Left

-- what the values of a form's elements become. A data form: "The value is the form of the values." A call: "The arguments are, in order; then
-- the code, with the function's definitions [..] and these arguments."
abbrev pub finish : Call → ℕ → Here → Finish → Exprs → Run Left
finish call r h as_form vs = complete r (only (form vs)) h
finish call r h (as_definition m n) vs = defining (record { marker = m; name = n; content = value vs }) h
finish call r h as_concat vs = join r [] vs h
finish call r h (as_call code scope) vs =
    bind (call r code (record { within = inner; scope = scope; namespaces = h.namespaces; arguments = passed vs }))
    λ left. complete r (when one_value code then left.values else only (form left.values)) h

-- an expression's evaluation, where it is evaluated
abbrev pub Meaning : Type 0
Meaning = Here → Run Left

-- the expressions of a list, one after the other
unfoldable pub in_order : List Meaning → Here → Run Left
in_order [] h = give (record { values = none; here = h })
in_order (e ∷ es) h =
    bind (e h) λ left. bind (in_order es left.here)
    λ later. give (record { values = append left.values later.values; here = later.here })

-- a plan carried out for the expression at row r, whose elements' evaluations are ms; a definition "ends with that list"
abbrev pub perform : Call → ℕ → List Meaning → Here → Plan → Run Left
perform call r ms h (refuse w) = stop w r
perform call r ms h (leave vs) = complete r vs h
perform call r ms h (associate vs k) = complete r vs (add_namespace k h)
perform call r ms h (define_function d) = defining d h
perform call r ms h (inside k p f) = bind (in_order (drop k ms) (entering p h)) λ left. finish call r h f left.values

-- the rule for a form at a row, with these elements and their evaluations
abbrev pub formed : Call → ℕ → Nodes → List Meaning → Meaning
formed call r es ms h = perform call r ms h (plan (branch r es) h)

-- "Steps: one for each expression evaluated, at its start. Unevaluated heads, the insides of `ns`, a define's ref, n, and a `subst` form as head
-- or as a define's value cost none."
abbrev pub stepped : Node → Meaning → Meaning
stepped e m h = before (step (row e)) (m h)

-- What follows an expression's step. Document 02, §1: 22 and 6 are "both at the form, before its list's first step"; "A step is one expression
-- taken from the flat list, added to the usual ones, all before the result's evaluation"; the result "costs no second step or charge".
unfoldable mutual
  pub rule : Call → Node → Meaning
  rule call (leaf r a) h = perform call r [] h (plan (leaf r a) h)
  rule call (branch r es) h = formed call r es (eval_all call es) h
  rule call (bytecode r es o) h = rule_bytecode call r o h

  pub rule_bytecode : Call → ℕ → Outcome → Meaning
  rule_bytecode call r (fails w) h = stop w r
  rule_bytecode call r (becomes rows e) h = after (map step rows) (rule call e h)

  pub eval_all : Call → Nodes → List Meaning
  eval_all call empty = []
  eval_all call (cons e es) = stepped e (λ h. rule call e h) ∷ eval_all call es

abbrev pub eval : Call → Node → Meaning
eval call e h = stepped e (rule call e) h

-- 19: "more than [..] 32 codes in progress", at the call, "after its arguments"; here k more may be
unfoldable pub run_code : ℕ → Call
run_code zero r code h = stop 19 r
run_code (suc k) r code h = in_order (eval_all (run_code k) code) h

-- the top level: what each expression leaves, where references before it bear the markers `earlier`
unfoldable pub top_level : List ℕ → Nodes → Here → Run (List Exprs)
top_level earlier empty h = give []
top_level earlier (cons e es) h =
    bind (eval (run_code 32) e (entering (top earlier) h))
    λ left. bind (top_level (markers e ++ earlier) es left.here) λ ls. give (left.values ∷ ls)

-- before the first expression
abbrev pub start : Here
start = record { within = top []; scope = []; namespaces = []; arguments = outside }

-- the run of a stream's meaning
unfoldable pub run : Exprs → Run (List Exprs)
run es = top_level [] (transform_all (number_all 0 es)) start

-- "Result: the top-level values in order."
unfoldable pub result : List Exprs → Exprs
result [] = none
result (vs ∷ ls) = append vs (result ls)
