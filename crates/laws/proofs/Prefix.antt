-- The first q expressions of the top level leave the same whatever follows them: the run of these alone ends as the whole run does. And
-- laws of `result`. Document 01: "For demand 3". Assumes nothing.
use Prim.Native.Nat.{ℕ, zero, suc, ◌+◌}
use mathlib.Core.Path.{◌≡◌, refl, ap, ◌∙◌}
use mathlib.Core.List.{List, [], ◌∷◌, ◌++◌}
use lib.ListN.{take, drop}
use Rattle.spec.specs.Expr.{Exprs, none, more, append, first, rows}
use Rattle.spec.specs.Nodes.{number, number_all, markers}
use Rattle.spec.specs.Bytecode.{transformed_all, transform, transform_all}
use Rattle.spec.specs.Runs.{done}
use Rattle.spec.specs.Plan.{top, Here}
use Rattle.spec.specs.Evaluation.{entering, eval, run_code, top_level, run, result}
use Rattle.laws.proofs.Runs.{bind_end, bind_done}

top_level_first : (q : ℕ) (es : Exprs) (r : ℕ) (earlier : List ℕ) (h : Here) (ls : List Exprs)
    → (top_level earlier (transform_all (number_all r es)) h).end ≡ done ls
    → (top_level earlier (transform_all (number_all r (first q es))) h).end ≡ done (take q ls)
unfolding top_level transform transformed_all number first
top_level_first zero es r earlier h ls e = refl
top_level_first (suc q) none r earlier h ls e = let nothing : [] ≡ ls = cc in rw (← nothing)
top_level_first (suc q) (more x es) r earlier h ls e =
    let here = entering (top earlier) h in
    let node = transform (number r x) [] in
    let a = bind_done (eval (run_code 32) node here) _ ls e in
    let b = bind_done (top_level (markers node ++ earlier) (transform_all (number_all (r + rows x) es)) a.0.here) _ ls a.2 in
    let split : a.0.values ∷ b.0 ≡ ls = cc in
    rw (← split)
    (bind_end (eval (run_code 32) node here) _ a.0 a.1
    ∙ bind_end (top_level (markers node ++ earlier) (transform_all (number_all (r + rows x) (first q es))) a.0.here) _ (take q b.0)
    (top_level_first q es (r + rows x) (markers node ++ earlier) a.0.here b.0 b.1))

pub run_first : (q : ℕ) (es : Exprs) (ls : List Exprs) → (run es).end ≡ done ls → (run (first q es)).end ≡ done (take q ls)
unfolding run
run_first q es ls e = top_level_first q es 0 [] _ ls e

pub append_append : (es fs gs : Exprs) → append (append es fs) gs ≡ append es (append fs gs)
unfolding append
append_append none fs gs = refl
append_append (more e es) fs gs = ap (more e) (append_append es fs gs)

-- the result in two parts
pub result_split : (q : ℕ) (ls : List Exprs) → result ls ≡ append (result (take q ls)) (result (drop q ls))
unfolding result append
result_split zero ls = refl
result_split (suc q) [] = refl
result_split (suc q) (vs ∷ ls) = rw (append_append vs (result (take q ls)) (result (drop q ls))) (ap (append vs) (result_split q ls))
