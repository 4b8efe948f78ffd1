-- Document 01, "Evaluation": what an expression's rule says is to be done once its step is taken, or which refusal it is given: "In one
-- expression: 16, 13, 12, 11, 14, 15, 19 (for define, before its value)". Nothing here evaluates; a call's 19 follows its arguments. Assumes nothing.
use Rattle.std.specs.Prelude.{ℕ, List, [], ◌∷◌, Bool, not, ◌&&◌, ◌||◌, length, ltb, leb, eqb}
use Rattle.spec.specs.Expr.{when◌then◌else◌, same, some, Atom, if_ref, if_array, if_int, atom, form, Exprs, only, size, first, without}
use Rattle.spec.specs.Nodes.{core, Word, ns, define, concat, subst, arg, rest, plain, is, word, Node, leaf, branch, bytecode, Nodes, empty, cons, unnumbered_all, elements, tail, head_word, headed_by}

-- Where an expression is evaluated

-- what its value left; of a function, its code
pub data Defined : Type 0 where
  value : Exprs → Defined
  function : Nodes → Defined

pub record Definition : Type 0 where
  pub marker : ℕ
  pub name : ℕ
  pub content : Defined

-- The visible definitions, the latest first. "its code, with the definitions visible here": those behind a function's own entry.
abbrev pub Scope : Type 0
Scope = List Definition

-- "the latest visible definition of that marker and name", and those behind it
pub data Found : Type 0 where
  latest : Defined → Scope → Found
  nothing : Found

unfoldable pub look_up : ℕ → ℕ → Scope → Found
look_up m n [] = nothing
look_up m n (d ∷ ds) = when eqb d.marker m && eqb d.name n then latest d.content ds else look_up m n ds

-- a marker with the id that it is associated with
pub record Namespace : Type 0 where
  pub marker : ℕ
  pub id : List ℕ

-- what list an expression is an element of
pub data Within : Type 0 where
  -- the top level, with the markers borne by references earlier in the stream
  top : List ℕ → Within
  -- a data form
  element : Within
  -- another: code, arguments, operands, a define's value
  inner : Within

-- the arguments of "the nearest enclosing code"
pub data Arguments : Type 0 where
  outside : Arguments
  passed : Exprs → Arguments

pub record Here : Type 0 where
  pub within : Within
  pub scope : Scope
  pub namespaces : List Namespace
  pub arguments : Arguments

-- What is to be done

-- with the values of a form's elements
pub data Finish : Type 0 where
  as_form : Finish
  -- the marker and name that are defined
  as_definition : ℕ → ℕ → Finish
  as_concat : Finish
  -- the code, and the definitions that it sees
  as_call : Nodes → Scope → Finish

pub data Plan : Type 0 where
  -- a refusal's number, at the expression
  refuse : ℕ → Plan
  -- these are its values
  leave : Exprs → Plan
  -- these are its values, and a marker is associated
  associate : Exprs → Namespace → Plan
  -- a define that makes a function
  define_function : Definition → Plan
  -- evaluate the elements without the first so many, as those of such a list, then finish
  inside : ℕ → Within → Finish → Plan

-- 11: "wrong number or kind of elements in ns, define, concat, arg, rest, counted as written"

abbrev pub expect_one : Nodes → (Node → Plan) → Plan
expect_one empty f = refuse 11
expect_one (cons h empty) f = refuse 11
expect_one (cons h (cons a empty)) f = f a
expect_one (cons h (cons a (cons b es))) f = refuse 11

abbrev pub expect_two : Nodes → (Node → Node → Plan) → Plan
expect_two empty f = refuse 11
expect_two (cons h empty) f = refuse 11
expect_two (cons h (cons a empty)) f = refuse 11
expect_two (cons h (cons a (cons b empty))) f = f a b
expect_two (cons h (cons a (cons b (cons c es)))) f = refuse 11

abbrev pub expect_ref : Node → (ℕ → ℕ → Plan) → Plan
expect_ref (leaf r a) f = if_ref a f (refuse 11)
expect_ref (branch r es) f = refuse 11
expect_ref (bytecode r es o) f = refuse 11

abbrev pub expect_array : Node → (List ℕ → Plan) → Plan
expect_array (leaf r a) f = if_array a f (refuse 11)
expect_array (branch r es) f = refuse 11
expect_array (bytecode r es o) f = refuse 11

-- "n is a written small integer"
abbrev pub expect_int : Node → (ℕ → Plan) → Plan
expect_int (leaf r a) f = if_int a f (refuse 11)
expect_int (branch r es) f = refuse 11
expect_int (bytecode r es o) f = refuse 11

-- The rules

-- 14: "ns: marker 0x20, marker borne by a reference earlier in the stream, or id used before"
abbrev pub clash : ℕ → List ℕ → List ℕ → List Namespace → Bool
clash m id earlier known = eqb m core || some (eqb m) earlier || some (λ k. same k.id id) known

-- "( ns ref id ), top level only: associates ref's marker with id, an array of 1 to 64 bytes. Its value is itself; nothing inside is
-- evaluated." 13: "ns or define elsewhere than allowed". 19: "more than [..] 64 namespaces".
abbrev pub plan_ns : Within → Nodes → Here → Plan
plan_ns element es h = refuse 13
plan_ns inner es h = refuse 13
plan_ns (top earlier) es h =
    expect_two es λ a b. expect_ref a λ m n. expect_array b λ id.
    when ltb (length id) 1 || ltb 64 (length id) then refuse 11 else
    when clash m id earlier h.namespaces then refuse 14 else
    when leb 64 (length h.namespaces) then refuse 19 else
    associate (only (form (unnumbered_all es))) (record { marker = m; id = id })

-- 14: "define: marker 0x20 or not yet associated"
abbrev pub undefinable : ℕ → List Namespace → Bool
undefinable m known = eqb m core || not (some (λ k. eqb k.marker m) known)

-- "( define ref value ) [..]. The value is evaluated where it stands, so it can't see itself. If it is a form headed by `subst`, ref becomes a
-- function: its code". 11: "a `rest` form is a wrong kind for define's value". 19: "more than 256 definitions visible (shadowed ones count)".
abbrev pub plan_definition : Nodes → Here → Plan
plan_definition es h =
    expect_two es λ a v. expect_ref a λ m n.
    when headed_by rest v then refuse 11 else
    when undefinable m h.namespaces then refuse 14 else
    when leb 256 (length h.scope) then refuse 19 else
    when headed_by subst v then define_function (record { marker = m; name = n; content = function (tail (elements v)) }) else
    inside 2 inner (as_definition m n)

-- "as an element of the top level or of a data form"; else 13
abbrev pub plan_define : Within → Nodes → Here → Plan
plan_define (top earlier) es h = plan_definition es h
plan_define element es h = plan_definition es h
plan_define inner es h = refuse 13

-- "( concat a b )". 11: "a `rest` form is a wrong kind for [..] concat's operand"
abbrev pub plan_concat : Nodes → Plan
plan_concat es = expect_two es λ a b. when headed_by rest a || headed_by rest b then refuse 11 else inside 1 inner as_concat

-- 15: "arg or rest outside code"
abbrev pub in_code : Arguments → (Exprs → Plan) → Plan
in_code outside f = refuse 15
in_code (passed vs) f = f vs

-- "( arg n ): argument n." 15: "n not below [..] the number of arguments"
abbrev pub plan_arg : ℕ → Arguments → Plan
plan_arg n args = in_code args λ vs. when ltb n (size vs) then leave (first 1 (without n vs)) else refuse 15

-- "( rest n ): the arguments without the first n, put in place one by one." 15: "n [..] above [..] the number of arguments"
abbrev pub plan_rest : ℕ → Arguments → Plan
plan_rest n args = in_code args λ vs. when leb n (size vs) then leave (without n vs) else refuse 15

-- "Other forms are data forms: every element is evaluated, the head too."
abbrev pub data_form : Plan
data_form = inside 0 element as_form

-- "A call is a form whose head is a reference visible as a function [..]. The head isn't evaluated." The code runs "with the function's
-- definitions".
abbrev pub plan_head : Found → Plan
plan_head (latest (value vs) behind) = data_form
plan_head (latest (function es) behind) = inside 1 inner (as_call es behind)
plan_head nothing = data_form

-- "or a form headed by `subst`"; its code runs with "those visible at the call"
abbrev pub plan_other : Nodes → Scope → Plan
plan_other empty scope = data_form
plan_other (cons (leaf r a) es) scope = if_ref a (λ m n. plan_head (look_up m n scope)) data_form
plan_other (cons (branch r fs) es) scope = when is (head_word fs) subst then inside 1 inner (as_call (tail fs) scope) else data_form
plan_other (cons (bytecode r fs o) es) scope = data_form

-- 12: "`subst` form where a value is wanted"
unfoldable pub plan_form : Word → Nodes → Here → Plan
plan_form ns es h = plan_ns h.within es h
plan_form define es h = plan_define h.within es h
plan_form concat es h = plan_concat es
plan_form subst es h = refuse 12
plan_form arg es h = expect_one es λ a. expect_int a λ n. plan_arg n h.arguments
plan_form rest es h = expect_one es λ a. expect_int a λ n. plan_rest n h.arguments
plan_form plain es h = plan_other es h.scope

-- "A reference has the value of the latest visible definition of that marker and name, and that value isn't evaluated again; with none,
-- itself." 12: "function name, function reference [..] where a value is wanted"
abbrev pub plan_reference : Found → Atom → Plan
plan_reference (latest (value vs) behind) a = leave vs
plan_reference (latest (function es) behind) a = refuse 12
plan_reference nothing a = leave (only (atom a))

-- "An atom that is no reference is its own value."
unfoldable pub plan_atom : Atom → Scope → Plan
plan_atom a scope =
    if_ref a (λ m n. when is (word m n) plain then plan_reference (look_up m n scope) a else refuse 12)
    (leave (only (atom a)))

-- the rule for an expression, a bytecode form taken as it is written
abbrev pub plan : Node → Here → Plan
plan (leaf r a) h = plan_atom a h.scope
plan (branch r es) h = plan_form (head_word es) es h
plan (bytecode r es o) h = plan_form (head_word es) es h
