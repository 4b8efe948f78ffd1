-- Document 02, §1: "Only such streams' results change". A stream in which no form is headed by `prefix*` is evaluated as written, by document
-- 01's rules alone. Assumes nothing.
use Prim.Native.Nat.{ℕ}
use mathlib.Core.Path.{◌≡◌, refl, ap, ◌∙◌}
use mathlib.Core.List.{[]}
use mathlib.Core.Bool.{Bool, true, false, ◌&&◌}
use Rattle.spec.specs.Expr.{Atom, Exprs}
use Rattle.spec.specs.Nodes.{Node, leaf, branch, bytecode, Nodes, empty, cons, number_all}
use Rattle.spec.specs.Bytecode.{prefix, prefix*, is_name, transformed_all, transform, parts_of, transform_all}
use Rattle.spec.specs.Runs.{step, before}
use Rattle.spec.specs.Plan.{Here, plan}
use Rattle.spec.specs.Evaluation.{Call, perform, rule, eval_all, eval, top_level, start, run}
use Rattle.spec.proofs.Made.{transform_other}

-- whether the first of a form's elements is `prefix*`
abbrev pub headed_prefix* : Nodes → Bool
headed_prefix* empty = false
headed_prefix* (cons e es) = is_name prefix* e

-- no form in an expression is headed by `prefix*`
abbrev mutual
  pub Unheaded : Node → Type 0
  Unheaded (leaf r a) = Unit {0}
  Unheaded (branch r es) = (headed_prefix* es ≡ false) × UnheadedAll es
  Unheaded (bytecode r es o) = Unit {0}

  pub UnheadedAll : Nodes → Type 0
  UnheadedAll empty = Unit {0}
  UnheadedAll (cons e es) = Unheaded e × UnheadedAll es

and_false : (b : Bool) → b && false ≡ false
and_false true = refl
and_false false = refl

transform_branch : (r : ℕ) (es : Nodes) → headed_prefix* es ≡ false → transform (branch r es) [] ≡ branch r (transformed_all [] (parts_of es))
unfolding transform transformed_all
transform_branch r empty q = refl
transform_branch r (cons e es) q = transform_other r e es [] q (and_false (is_name prefix e))

mutual
  unfolding transform transformed_all

  pub transform_unheaded : (e : Node) → Unheaded e → transform e [] ≡ e
  transform_unheaded (leaf r a) u = refl
  transform_unheaded (branch r es) u = transform_branch r es u.0 ∙ ap (branch r) (transform_all_unheaded es u.1)
  transform_unheaded (bytecode r es o) u = refl

  pub transform_all_unheaded : (es : Nodes) → UnheadedAll es → transform_all es ≡ es
  transform_all_unheaded empty u = refl
  transform_all_unheaded (cons e es) u = rw (transform_unheaded e u.0, transform_all_unheaded es u.1)

pub run_unheaded : (es : Exprs) → UnheadedAll (number_all 0 es) → run es ≡ top_level [] (number_all 0 es) start
unfolding run
run_unheaded es u = rw (transform_all_unheaded (number_all 0 es) u)

-- where there is no bytecode form, an expression's evaluation is its step and its plan

pub eval_leaf : (call : Call) (r : ℕ) (a : Atom) (h : Here) → eval call (leaf r a) h ≡ before (step r) (perform call r [] h (plan (leaf r a) h))
unfolding rule
eval_leaf call r a h = refl

pub eval_branch : (call : Call) (r : ℕ) (es : Nodes) (h : Here)
    → eval call (branch r es) h ≡ before (step r) (perform call r (eval_all call es) h (plan (branch r es) h))
unfolding rule
eval_branch call r es h = refl

-- no reference in an expression is `prefix*`
abbrev mutual
  pub Unnamed : Node → Type 0
  Unnamed (leaf r a) = is_name prefix* (leaf r a) ≡ false
  Unnamed (branch r es) = UnnamedAll es
  Unnamed (bytecode r es o) = Unit {0}

  pub UnnamedAll : Nodes → Type 0
  UnnamedAll empty = Unit {0}
  UnnamedAll (cons e es) = Unnamed e × UnnamedAll es

head_unnamed : (es : Nodes) → UnnamedAll es → headed_prefix* es ≡ false
head_unnamed empty u = refl
head_unnamed (cons (leaf r a) es) u = u.0
head_unnamed (cons (branch r fs) es) u = refl
head_unnamed (cons (bytecode r fs o) es) u = refl

mutual
  pub unnamed_unheaded : (e : Node) → Unnamed e → Unheaded e
  unnamed_unheaded (leaf r a) u = tt
  unnamed_unheaded (branch r es) u = (head_unnamed es u, unnamed_unheaded_all es u)
  unnamed_unheaded (bytecode r es o) u = tt

  pub unnamed_unheaded_all : (es : Nodes) → UnnamedAll es → UnheadedAll es
  unnamed_unheaded_all empty u = tt
  unnamed_unheaded_all (cons e es) u = (unnamed_unheaded e u.0, unnamed_unheaded_all es u.1)

pub transform_all_unnamed : (es : Nodes) → UnnamedAll es → transform_all es ≡ es
transform_all_unnamed es u = transform_all_unheaded es (unnamed_unheaded_all es u)
