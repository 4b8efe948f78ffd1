-- Document 02, §1, "Prefix bytecode": streams with the answers that its sentences and those of document 000, section 3.1.7, demand. Tables for
-- its examples; for names and arity lists; for flat lists and their results; for the refusals with their limits, for which of two comes first, and
-- for places, steps and charges; for `prefix` forms and made forms; and for what stands in the result. Assumes nothing.
use Prim.Native.Nat.{ℕ, suc, ◌+◌}
use mathlib.Core.Path.{◌≡◌, refl}
use mathlib.Core.List.{List, [], ◌∷◌, ◌++◌, map}
use lib.ListN.{length, replicate}
use Rattle.spec.proofs.Cases.{evaluates, fills, told, Case, ◌gives◌, expected, answers, refusal, result_is, version_form, in_form, core_form, word_28, defines, space, joins, code, arg_form, rest_form, function_name, identity, chain, nested, refuses, leaves}

-- Parts of streams

-- a small integer, a core name
abbrev int : ℕ → List ℕ
int n = (0x80 + n) ∷ []

abbrev name : ℕ → List ℕ
name n = 0x20 ∷ n ∷ []

-- a prefix* form by its arity list's forms and its flat list, and one of these forms; a prefix form
abbrev prefix*_form : List ℕ → List ℕ → List ℕ
prefix*_form arities flat = core_form 0x31 (in_form arities ++ flat)

abbrev arity : ℕ → List ℕ → List ℕ
arity n refs = in_form (int n ++ refs)

abbrev prefix_form : List ℕ → List ℕ
prefix_form flat = core_form 0x30 flat

-- V, 6 bytes and 4 steps, and after it what is refused, or what leaves some bytes
abbrev refused : List ℕ → ℕ → ℕ → Case
refused s w p = evaluates (version_form ++ s) 65536 9 999 gives refusal w p 9

abbrev becomes : List ℕ → List ℕ → ℕ → Case
becomes s bs n = evaluates (version_form ++ s) 65536 (6 + length bs) n gives result_is (version_form ++ bs) n

-- the places of 16, with n steps and more
abbrev sixteen : List ℕ → ℕ → List ℕ → List Case
sixteen s n [] = []
sixteen s n (p ∷ ps) = (evaluates (version_form ++ s) 65536 9 n gives refusal 16 p 9) ∷ sixteen s (suc n) ps

-- the places of 17, with these workspaces
abbrev seventeen : List ℕ → List ℕ → List ℕ → List Case
seventeen s [] ps = []
seventeen s (w ∷ ws) [] = []
seventeen s (w ∷ ws) (p ∷ ps) = (evaluates (version_form ++ s) w 9 999 gives refusal 17 p 9) ∷ seventeen s ws ps

-- The examples of the papers

-- ( prefix* ( ( 82 28 02 ) ) 28 01 28 02 81 82 )
abbrev moved : List ℕ
moved = prefix*_form (arity 2 (word_28 2)) (word_28 1 ++ word_28 2 ++ int 1 ++ int 2)

abbrev moved_result : List ℕ
moved_result = in_form (word_28 1 ++ in_form (word_28 2 ++ int 1 ++ int 2))

examples : List Case
examples =
    -- 000's own: game is 28 01, black 28 02
    becomes (prefix*_form (arity 2 (word_28 2)) (word_28 1 ++ word_28 2 ++ int 1 ++ int 2 ++ word_28 2 ++ int 3 ++ int 4 ++ word_28 2 ++ int 5 ++ int 6))
    (in_form (word_28 1 ++ in_form (word_28 2 ++ int 1 ++ int 2) ++ in_form (word_28 2 ++ int 3 ++ int 4) ++ in_form (word_28 2 ++ int 5 ++ int 6))) 28 ∷
    -- an operator among the operands is an operand
    becomes (prefix*_form (arity 2 (word_28 2) ++ arity 1 (word_28 3)) (word_28 2 ++ word_28 3 ++ int 4 ++ int 5))
    (in_form (in_form (word_28 2 ++ word_28 3 ++ int 4) ++ int 5)) 14 ∷
    -- one expression is the result, none make a form
    becomes (prefix*_form [] (int 1)) (int 1) 6 ∷
    becomes (prefix*_form [] []) (in_form []) 5 ∷
    -- a bare name is no form
    refused (prefix*_form [] (name 0x0A)) 12 6 ∷
    becomes (prefix*_form [] (name 0x31)) (name 0x31) 6 ∷
    -- 14 steps, 32 charged
    becomes moved moved_result 14 ∷
    (evaluates (version_form ++ moved) 32 16 14 gives result_is (version_form ++ moved_result) 14) ∷
    -- 17 at the result's place
    (evaluates (version_form ++ prefix*_form [] (0xC1 ∷ 0x41 ∷ [])) 10 9 99 gives refusal 17 6 9) ∷
    -- a prefix form inside
    becomes (prefix*_form (arity 1 (word_28 2)) (word_28 1 ++ prefix_form (word_28 2 ++ int 5))) (in_form (word_28 1 ++ in_form (word_28 2 ++ int 5))) 13 ∷
    []

examples_hold : answers examples ≡ map expected examples
unfolding answers examples
examples_hold = refl

-- Steps and charges: the form's own step, one for each of the flat list, then the result's evaluation

counts : List Case
counts =
    sixteen moved 4 (6 ∷ 16 ∷ 18 ∷ 20 ∷ 21 ∷ 16 ∷ 18 ∷ 18 ∷ 20 ∷ 21 ∷ [])
    -- 28 01, 28 02, 81, 82; the made form at its operator; the result at the form
    ++ seventeen moved (11 ∷ 13 ∷ 14 ∷ 15 ∷ 16 ∷ 21 ∷ 22 ∷ 31 ∷ []) (16 ∷ 18 ∷ 20 ∷ 21 ∷ 18 ∷ 18 ∷ 6 ∷ 6 ∷ [])

counts_hold : answers counts ≡ map expected counts
unfolding answers counts
counts_hold = refl

-- Names and arity lists

-- 22: "an arity list that isn't a form of forms, each a small integer then references, or names a reference twice"
ill_formed : List (List ℕ)
ill_formed =
    int 1 ∷
    word_28 1 ∷
    (0x00 ∷ []) ∷
    (0xC0 ∷ []) ∷
    in_form (int 1) ∷
    in_form (word_28 1) ∷
    in_form (in_form []) ∷
    in_form (in_form (word_28 1)) ∷
    in_form (in_form (in_form [])) ∷
    in_form (in_form (0xC1 ∷ 0x01 ∷ 0x28 ∷ 0x01 ∷ [])) ∷
    in_form (arity 1 (int 2)) ∷
    in_form (arity 1 (word_28 1 ++ (0x00 ∷ []))) ∷
    in_form (arity 1 (word_28 1 ++ in_form [])) ∷
    in_form (arity 1 (word_28 1) ++ word_28 2) ∷
    -- twice in one form, in two with equal arity, and with another
    in_form (arity 1 (word_28 1 ++ word_28 1)) ∷
    in_form (arity 1 (word_28 1) ++ arity 1 (word_28 1)) ∷
    in_form (arity 1 (word_28 1 ++ word_28 2) ++ arity 2 (word_28 3 ++ word_28 1)) ∷
    -- a bytecode form is not evaluated there
    prefix*_form [] (arity 1 (word_28 1)) ∷
    []

ill_formed_refused : List (List ℕ) → List Case
ill_formed_refused [] = []
ill_formed_refused (a ∷ l) = refused (core_form 0x31 (a ++ int 1)) 22 6 ∷ ill_formed_refused l

arity_lists : List Case
arity_lists =
    ill_formed_refused ill_formed ++
    -- no arity list; a reference that is defined to one
    refused (core_form 0x31 []) 22 6 ∷
    refuses (defines 1 (in_form []) ++ core_form 0x31 (word_28 1 ++ int 1)) 22 22 ∷
    -- no references; several forms; equal names of two markers
    becomes (prefix*_form (arity 2 []) (int 1)) (int 1) 6 ∷
    becomes (prefix*_form (arity 1 (word_28 1) ++ arity 0 (word_28 2 ++ 0x29 ∷ 0x01 ∷ [])) (word_28 2 ++ word_28 1 ++ int 5 ++ 0x29 ∷ 0x01 ∷ []))
    (in_form (in_form (word_28 2) ++ in_form (word_28 1 ++ int 5) ++ in_form (0x29 ∷ 0x01 ∷ []))) 16 ∷
    -- bytecode names stand for themselves
    becomes (name 0x30 ++ name 0x31 ++ name 0x32 ++ name 0x33 ++ name 0x34) (name 0x30 ++ name 0x31 ++ name 0x32 ++ name 0x33 ++ name 0x34) 9 ∷
    -- postfix* is data; arity forms play no part
    becomes (core_form 0x33 (in_form (arity 1 (word_28 2)) ++ int 1 ++ word_28 2)) (core_form 0x33 (in_form (arity 1 (word_28 2)) ++ int 1 ++ word_28 2)) 12 ∷
    becomes (core_form 0x34 (int 1 ++ word_28 2) ++ prefix*_form [] (core_form 0x34 (int 1 ++ word_28 2) ++ word_28 2 ++ int 5))
    (core_form 0x34 (int 1 ++ word_28 2) ++ in_form (core_form 0x34 (int 1 ++ word_28 2) ++ word_28 2 ++ int 5)) 18 ∷
    []

arity_lists_hold : answers arity_lists ≡ map expected arity_lists
unfolding answers ill_formed ill_formed_refused arity_lists
arity_lists_hold = refl

-- Flat lists

flat_lists : List Case
flat_lists =
    -- 22: short of one operand; the last operator short of all
    refused (prefix*_form (arity 2 (word_28 2)) (word_28 2 ++ int 1)) 22 6 ∷
    refused (prefix*_form (arity 2 (word_28 2)) (int 1 ++ word_28 2 ++ int 1 ++ int 2 ++ word_28 2)) 22 6 ∷
    -- an arity of 0, and of 63; one operand less
    becomes (prefix*_form (arity 0 (word_28 1)) (word_28 1)) (in_form (word_28 1)) 7 ∷
    becomes (prefix*_form (arity 0 (word_28 1)) (word_28 1 ++ word_28 1)) (in_form (in_form (word_28 1) ++ in_form (word_28 1))) 11 ∷
    becomes (prefix*_form (arity 63 (word_28 2)) (word_28 2 ++ replicate 63 0x85)) (in_form (word_28 2 ++ replicate 63 0x85)) 133 ∷
    refused (prefix*_form (arity 63 (word_28 2)) (word_28 2 ++ replicate 62 0x85)) 22 6 ∷
    -- other markers and names are operands; so are forms, as they stand
    becomes (prefix*_form (arity 1 (word_28 2)) (0x29 ∷ 0x02 ∷ 0x28 ∷ 0x03 ∷ [])) (in_form (0x29 ∷ 0x02 ∷ 0x28 ∷ 0x03 ∷ [])) 9 ∷
    becomes (prefix*_form (arity 1 (word_28 2)) (int 1 ++ in_form (word_28 2 ++ int 2 ++ int 3) ++ int 4))
    (in_form (int 1 ++ in_form (word_28 2 ++ int 2 ++ int 3) ++ int 4)) 14 ∷
    -- operators: a function name; a function, which is called; a word with a value, which is evaluated
    becomes (prefix*_form (arity 2 (name 0x0A)) (int 1 ++ name 0x0A ++ 0xC1 ∷ 0x41 ∷ 0xC1 ∷ 0x42 ∷ [])) (in_form (0x81 ∷ 0xC2 ∷ 0x41 ∷ 0x42 ∷ [])) 13 ∷
    leaves (identity ++ prefix*_form (arity 1 (word_28 2)) (int 1 ++ word_28 2 ++ int 6)) (in_form (int 1 ++ int 6)) 14 ∷
    leaves (defines 2 (int 5) ++ prefix*_form (arity 1 (word_28 2)) (int 1 ++ word_28 2 ++ int 6)) (in_form (int 1 ++ in_form (int 5 ++ int 6))) 15 ∷
    -- a value is never an operator, and a rest form is one operand
    leaves (defines 1 (word_28 2) ++ prefix*_form (arity 1 (word_28 2)) (word_28 1 ++ int 5)) (in_form (word_28 2 ++ int 5)) 12 ∷
    leaves (defines 1 (in_form (word_28 2 ++ int 1)) ++ prefix*_form (arity 1 (word_28 2)) (word_28 1 ++ word_28 2 ++ int 5))
    (in_form (in_form (word_28 2 ++ int 1) ++ in_form (word_28 2 ++ int 5))) 17 ∷
    becomes (in_form (code (prefix*_form (arity 1 (word_28 2)) (int 1 ++ word_28 2 ++ rest_form 0)) ++ int 3 ++ int 4))
    (in_form (int 1 ++ in_form (word_28 2 ++ int 3 ++ int 4))) 15 ∷
    refused (in_form (code (prefix*_form (arity 2 (word_28 2)) (int 1 ++ word_28 2 ++ rest_form 0)) ++ int 3 ++ int 4)) 22 10 ∷
    []

flat_lists_hold : answers flat_lists ≡ map expected flat_lists
unfolding answers flat_lists
flat_lists_hold = refl

-- Results

-- 22: "a result headed by a function or bytecode name": a made form, a written one, a form of several
named_refused : List ℕ → List Case
named_refused [] = []
named_refused (n ∷ ns) =
    refused (prefix*_form (arity 1 (name n)) (name n ++ int 1)) 22 6 ∷
    refused (prefix*_form [] (core_form n (int 1))) 22 6 ∷
    refused (prefix*_form [] (name n ++ int 1)) 22 6 ∷
    named_refused ns

results : List Case
results =
    named_refused (0x06 ∷ 0x09 ∷ 0x0A ∷ 0x0B ∷ 0x0C ∷ 0x0D ∷ 0x30 ∷ 0x31 ∷ 0x32 ∷ 0x33 ∷ 0x34 ∷ []) ++
    refused (prefix*_form (arity 0 (name 0x0A)) (name 0x0A)) 22 6 ∷
    refused (prefix*_form [] (prefix*_form [] (int 1))) 22 6 ∷
    -- other names may head it, and those names elsewhere
    becomes (prefix*_form [] (name 0x01 ++ int 1)) (in_form (name 0x01 ++ int 1)) 9 ∷
    becomes (prefix*_form [] ((0x29 ∷ 0x0A ∷ []) ++ name 0x31)) (in_form ((0x29 ∷ 0x0A ∷ []) ++ name 0x31)) 9 ∷
    becomes (prefix*_form [] (in_form (core_form 0x30 []))) (in_form (in_form [])) 7 ∷
    -- a call: by a function, of several, made and written; by a subst form, of several, in one written and made
    leaves (identity ++ prefix*_form [] (word_28 2 ++ int 5)) (int 5) 11 ∷
    leaves (identity ++ prefix*_form (arity 1 (word_28 2)) (word_28 2 ++ int 5)) (int 5) 11 ∷
    leaves (identity ++ prefix*_form [] (in_form (word_28 2 ++ int 5))) (int 5) 10 ∷
    becomes (prefix*_form [] (code (int 5) ++ int 1)) (int 5) 9 ∷
    becomes (prefix*_form [] (in_form (code (int 5)))) (int 5) 7 ∷
    becomes (prefix*_form (arity 1 (name 0x0B)) (name 0x0B ++ int 5 ++ int 6)) (int 5) 10 ∷
    -- a bare function is evaluated, as a word with a value is
    refuses (identity ++ prefix*_form [] (word_28 2)) 12 29 ∷
    leaves (defines 1 (int 5) ++ prefix*_form [] (word_28 1)) (int 5) 9 ∷
    -- it is a define's value, an operand, an argument, code of one expression
    leaves (defines 1 (prefix*_form [] (int 1)) ++ word_28 1) (int 1) 9 ∷
    becomes (joins (prefix*_form [] (0xC1 ∷ 0x41 ∷ [])) (0xC1 ∷ 0x42 ∷ [])) (0xC2 ∷ 0x41 ∷ 0x42 ∷ []) 8 ∷
    becomes (in_form (code (arg_form 0) ++ prefix*_form [] (int 5))) (int 5) 8 ∷
    becomes (in_form (code (prefix*_form [] (arg_form 0 ++ arg_form 0)) ++ int 5)) (in_form (int 5 ++ int 5)) 11 ∷
    -- it is no ns's id, no define's word, no number of an argument, no head that is called
    refuses (core_form 0x06 ((0x29 ∷ 0x00 ∷ []) ++ prefix*_form [] (0xC1 ∷ 0x42 ∷ []))) 11 14 ∷
    refuses (core_form 0x09 (prefix*_form [] (word_28 1) ++ int 5)) 11 14 ∷
    refused (in_form (code (core_form 0x0C (prefix*_form [] (int 0))) ++ int 5)) 11 10 ∷
    refuses (identity ++ in_form (prefix*_form [] (word_28 2) ++ int 5)) 12 30 ∷
    becomes (in_form (prefix*_form [] (code (int 5) ++ int 1) ++ int 6)) (in_form (int 5 ++ int 6)) 11 ∷
    []

results_hold : answers results ≡ map expected results
unfolding answers named_refused results
results_hold = refl

-- Limits and orders

-- an operator with one operand, and with 63 forms one inside another as its operand
abbrev one_operand : List ℕ → List ℕ
one_operand flat = prefix*_form (arity 1 (word_28 2)) flat

abbrev with_63 : List ℕ
with_63 = word_28 2 ++ nested 63 []

-- what is refused with these steps
abbrev refused_in : ℕ → List ℕ → ℕ → ℕ → Case
refused_in n s w p = evaluates (version_form ++ s) 65536 9 n gives refusal w p 9

limits : List Case
limits =
    -- 6: a result of 64 forms one inside another, and of 65; of several with 64
    becomes (one_operand with_63) (in_form with_63) 71 ∷
    refused (one_operand (int 1 ++ with_63)) 6 6 ∷
    becomes (one_operand (int 1 ++ nested 63 [])) (in_form (int 1 ++ nested 63 [])) 71 ∷
    becomes (prefix*_form [] (nested 63 [])) (nested 63 []) 68 ∷
    -- unevaluated code counts, and a bytecode form inside as it is written
    refused (one_operand (int 1 ++ word_28 2 ++ code (nested 61 []))) 12 19 ∷
    refused (one_operand (int 1 ++ word_28 2 ++ code (nested 62 []))) 6 6 ∷
    refused (one_operand (int 1 ++ word_28 2 ++ prefix_form (word_28 2 ++ nested 62 []))) 6 6 ∷
    -- forms around don't count, but in evaluation's own 6
    becomes (in_form (one_operand (word_28 2 ++ nested 62 []))) (in_form (in_form (word_28 2 ++ nested 62 []))) 71 ∷
    refused (in_form (one_operand (int 1 ++ word_28 2 ++ nested 62 []))) 6 6 ∷
    -- the form's own 16 first, then 22, then 6, all before the list's first step
    refused_in 4 (one_operand (word_28 2)) 16 6 ∷
    refused_in 5 (one_operand (word_28 2)) 22 6 ∷
    refused_in 4 (core_form 0x31 (int 1)) 16 6 ∷
    refused_in 5 (core_form 0x31 (int 1 ++ int 1)) 22 6 ∷
    refused_in 4 (prefix*_form [] (function_name ++ int 1)) 16 6 ∷
    refused_in 5 (prefix*_form [] (function_name ++ int 1)) 22 6 ∷
    refused_in 4 (one_operand (int 1 ++ with_63)) 16 6 ∷
    refused_in 5 (one_operand (int 1 ++ with_63)) 6 6 ∷
    refused (one_operand (with_63 ++ word_28 2)) 22 6 ∷
    refused (one_operand (function_name ++ with_63)) 22 6 ∷
    refused (core_form 0x31 (int 1 ++ nested 63 [])) 22 6 ∷
    -- all steps of the list before the result's evaluation
    refused_in 5 (prefix*_form [] function_name) 16 11 ∷
    refused_in 6 (prefix*_form [] function_name) 12 6 ∷
    refused_in 6 (prefix*_form [] (int 1 ++ function_name)) 16 12 ∷
    refused_in 7 (prefix*_form [] (int 1 ++ function_name)) 16 11 ∷
    refused_in 8 (prefix*_form [] (int 1 ++ function_name)) 16 12 ∷
    refused_in 9 (prefix*_form [] (int 1 ++ function_name)) 12 12 ∷
    -- of a form inside: its 22 when it is its turn
    refused (prefix*_form [] (int 1 ++ function_name ++ prefix*_form [] (function_name ++ int 1))) 12 12 ∷
    refused (prefix*_form [] (int 1 ++ prefix*_form [] (function_name ++ int 1) ++ function_name)) 22 12 ∷
    -- the table holds the rows
    (fills (version_form ++ core_form 0x31 []) 25 65536 9 99
    gives told 22 6 0 0 (1 ∷ 0 ∷ 6 ∷ 4 ∷ 4 ∷ 1 ∷ 3 ∷ 2 ∷ 3 ∷ 3 ∷ 4 ∷ 3 ∷ 3 ∷ 4 ∷ 5 ∷ 4 ∷ 1 ∷ 6 ∷ 10 ∷ 6 ∷ 4 ∷ 7 ∷ 9 ∷ 6 ∷ 0xEE ∷ [])) ∷
    []

limits_hold : answers limits ≡ map expected limits
unfolding answers limits
limits_hold = refl

-- Places

places : List Case
places =
    -- what is given at the result has the form's: 17, 12, a call's 19, 6
    (evaluates (version_form ++ prefix*_form [] (0xC1 ∷ 0x41 ∷ [])) 11 9 99 gives refusal 17 6 9) ∷
    (evaluates (version_form ++ prefix*_form [] (0xC1 ∷ 0x41 ∷ [])) 12 8 6 gives result_is (version_form ++ (0xC1 ∷ 0x41 ∷ [])) 6) ∷
    (evaluates (version_form ++ prefix*_form [] (in_form (int 1))) 13 9 99 gives refusal 17 6 9) ∷
    (evaluates (version_form ++ prefix*_form [] (in_form (int 1))) 14 9 7 gives result_is (version_form ++ in_form (int 1)) 7) ∷
    refuses (identity ++ prefix*_form [] (word_28 2)) 12 29 ∷
    refuses (chain (prefix*_form [] (in_form (code []))) 31 ++ in_form (word_28 31)) 19 22 ∷
    refuses (defines 1 (nested 33 []) ++ prefix*_form [] (nested 32 (word_28 1))) 6 86 ∷
    -- what is given inside keeps its own
    refuses (defines 1 (nested 33 []) ++ prefix*_form [] (int 1 ++ nested 32 (word_28 1))) 6 92 ∷
    refused (prefix*_form [] (int 1 ++ arg_form 0)) 15 12 ∷
    refused (prefix*_form [] (in_form (int 1 ++ function_name))) 12 13 ∷
    -- a made form has its operator's: 11, 12, 13, 15, 6 (17 above), a call's 19; its operands have their own
    refused (prefix*_form (arity 1 (name 0x0A)) (int 1 ++ name 0x0A ++ int 2)) 11 17 ∷
    refused (prefix*_form (arity 1 (name 0x0B)) (int 1 ++ name 0x0B ++ int 2)) 12 17 ∷
    refused (prefix*_form (arity 2 (name 0x06)) (int 1 ++ name 0x06 ++ (0x28 ∷ 0x01 ∷ 0xC1 ∷ 0x41 ∷ []))) 13 17 ∷
    refused (prefix*_form (arity 1 (name 0x0C)) (int 1 ++ name 0x0C ++ int 0)) 15 17 ∷
    refuses (defines 1 (nested 63 []) ++ one_operand (int 1 ++ word_28 2 ++ in_form (word_28 1))) 6 157 ∷
    refuses (identity ++ chain (one_operand (int 1 ++ word_28 2 ++ int 5)) 31 ++ in_form (word_28 31)) 19 48 ∷
    refused (one_operand (int 1 ++ word_28 2 ++ function_name)) 12 19 ∷
    []

places_hold : answers places ≡ map expected places
unfolding answers places
places_hold = refl

-- `prefix` forms inside, and made forms that are bytecode

-- two prefix* forms, in the inner one a prefix form
abbrev twice : List ℕ → List ℕ → List ℕ
twice arities flat = one_operand (int 1 ++ prefix*_form arities (int 1 ++ prefix_form flat))

-- a function 28 03
abbrev function : List ℕ → List ℕ
function s = defines 3 (code s)

inside : List Case
inside =
    -- in a form, in an operand, in another prefix form; with no operators at all; with one expression, with none
    becomes (one_operand (int 1 ++ in_form (int 2 ++ prefix_form (word_28 2 ++ int 5 ++ int 6))))
    (in_form (int 1 ++ in_form (int 2 ++ in_form (in_form (word_28 2 ++ int 5) ++ int 6)))) 18 ∷
    becomes (one_operand (int 1 ++ prefix_form (int 2 ++ prefix_form (word_28 2 ++ int 5 ++ int 6))))
    (in_form (int 1 ++ in_form (int 2 ++ in_form (in_form (word_28 2 ++ int 5) ++ int 6)))) 20 ∷
    becomes (one_operand (int 1 ++ word_28 2 ++ prefix_form (word_28 2 ++ int 5 ++ int 6)))
    (in_form (int 1 ++ in_form (word_28 2 ++ in_form (in_form (word_28 2 ++ int 5) ++ int 6)))) 19 ∷
    becomes (one_operand (in_form (int 1 ++ prefix_form (word_28 2 ++ int 5 ++ int 6))))
    (in_form (int 1 ++ in_form (in_form (word_28 2 ++ int 5) ++ int 6))) 15 ∷
    becomes (prefix*_form [] (int 1 ++ prefix_form (word_28 2 ++ int 5))) (in_form (int 1 ++ in_form (word_28 2 ++ int 5))) 13 ∷
    becomes (prefix*_form [] (int 1 ++ prefix_form (int 5) ++ prefix_form [])) (in_form (int 1 ++ int 5 ++ in_form [])) 12 ∷
    -- outside it is a data form, after a prefix* form too
    becomes (prefix_form (word_28 2 ++ int 5)) (prefix_form (word_28 2 ++ int 5)) 8 ∷
    becomes (in_form (one_operand (int 1 ++ word_28 2 ++ int 2) ++ prefix_form (word_28 2 ++ int 1)))
    (in_form (in_form (int 1 ++ in_form (word_28 2 ++ int 2)) ++ prefix_form (word_28 2 ++ int 1))) 17 ∷
    -- an inner prefix* form has its own arities only; a prefix form in it the nearest first, then the outer ones
    becomes (one_operand (int 1 ++ prefix*_form (arity 2 (word_28 3)) (word_28 2 ++ int 1 ++ word_28 3 ++ int 3 ++ int 4)))
    (in_form (int 1 ++ in_form (word_28 2 ++ int 1 ++ in_form (word_28 3 ++ int 3 ++ int 4)))) 20 ∷
    becomes (twice (arity 2 (word_28 3)) (word_28 2 ++ int 1 ++ word_28 3 ++ int 3 ++ int 4))
    (in_form (int 1 ++ in_form (int 1 ++ in_form (in_form (word_28 2 ++ int 1) ++ in_form (word_28 3 ++ int 3 ++ int 4))))) 25 ∷
    becomes (twice (arity 2 (word_28 2)) (word_28 2 ++ int 1 ++ int 2))
    (in_form (int 1 ++ in_form (int 1 ++ in_form (word_28 2 ++ int 1 ++ int 2)))) 19 ∷
    -- all of the rules apply to it, at its place: 22, 12, 17, 16
    refused (one_operand (int 1 ++ prefix_form (word_28 2))) 22 17 ∷
    refused (one_operand (int 1 ++ prefix_form (function_name ++ int 1))) 22 17 ∷
    refused (one_operand (int 1 ++ prefix_form function_name)) 12 17 ∷
    seventeen (one_operand (int 1 ++ prefix_form (word_28 2 ++ int 5))) (12 ∷ 13 ∷ 18 ∷ 26 ∷ []) (20 ∷ 22 ∷ 17 ∷ 6 ∷ []) ++
    sixteen (one_operand (int 1 ++ prefix_form (word_28 2 ++ int 5))) 4 (6 ∷ 16 ∷ 17 ∷ 16 ∷ 17 ∷ 20 ∷ 22 ∷ 20 ∷ 22 ∷ []) ++
    -- made: at its operator; 22 there; one is around what is in it
    becomes (prefix*_form (arity 3 (name 0x31)) (int 1 ++ name 0x31 ++ in_form (arity 1 (word_28 2)) ++ word_28 2 ++ int 5))
    (in_form (int 1 ++ in_form (word_28 2 ++ int 5))) 16 ∷
    becomes (prefix*_form (arity 2 (name 0x30) ++ arity 1 (word_28 2)) (int 1 ++ name 0x30 ++ word_28 2 ++ int 5)) (in_form (int 1 ++ in_form (word_28 2 ++ int 5))) 15 ∷
    refused (prefix*_form (arity 2 (name 0x31)) (int 1 ++ name 0x31 ++ int 2 ++ int 3)) 22 17 ∷
    refused (prefix*_form (arity 0 (name 0x31)) (int 1 ++ name 0x31)) 22 17 ∷
    refused (prefix*_form (arity 1 (name 0x30) ++ arity 1 (word_28 2)) (int 1 ++ name 0x30 ++ word_28 2 ++ int 5)) 22 22 ∷
    refused (prefix*_form (arity 3 (name 0x31)) (int 1 ++ name 0x31 ++ in_form (arity 2 (word_28 2)) ++ word_28 2 ++ int 5 ++ int 6)) 22 17 ∷
    becomes (prefix*_form (arity 3 (name 0x31) ++ arity 1 (word_28 2)) (int 1 ++ name 0x31 ++ in_form (arity 2 (word_28 3)) ++ int 1 ++ prefix_form (word_28 3 ++ int 1 ++ int 2 ++ word_28 2 ++ int 3)))
    (in_form (int 1 ++ in_form (int 1 ++ in_form (in_form (word_28 3 ++ int 1 ++ int 2) ++ in_form (word_28 2 ++ int 3))))) 28 ∷
    -- in code that is written inside; a function's code has what is around its own place: nothing, or the outer form
    becomes (one_operand (code (prefix_form (word_28 2 ++ arg_form 0 ++ int 4)) ++ int 5)) (in_form (in_form (word_28 2 ++ int 5) ++ int 4)) 16 ∷
    leaves (one_operand (function (prefix_form (word_28 2 ++ arg_form 0)) ++ in_form (word_28 3 ++ int 5))) (in_form (in_form (word_28 2 ++ int 5))) 16 ∷
    leaves (function (prefix_form (word_28 2 ++ int 1)) ++ one_operand (int 1 ++ in_form (word_28 3))) (in_form (int 1 ++ prefix_form (word_28 2 ++ int 1))) 15 ∷
    leaves (one_operand (function (prefix_form (word_28 2 ++ int 1 ++ int 2)) ++ int 1 ++ prefix*_form (arity 2 (word_28 2)) (int 1 ++ in_form (word_28 3) ++ prefix_form (word_28 2 ++ int 1 ++ int 2))))
    (in_form (int 1 ++ in_form (int 1 ++ in_form (in_form (word_28 2 ++ int 1) ++ int 2) ++ in_form (word_28 2 ++ int 1 ++ int 2)))) 32 ∷
    []

inside_hold : answers inside ≡ map expected inside
unfolding answers inside
inside_hold = refl

-- What stands in the result

contents : List Case
contents =
    -- define, made and written: visible to what follows in it, and not after it; a function; not among a call's arguments
    leaves (prefix*_form (arity 2 (name 0x09)) (name 0x09 ++ word_28 1 ++ int 5 ++ word_28 1) ++ word_28 1) (in_form (int 5) ++ word_28 1) 14 ∷
    leaves (prefix*_form [] (defines 1 (int 5) ++ word_28 1)) (in_form (int 5)) 11 ∷
    leaves (prefix*_form (arity 2 (name 0x09)) (name 0x09 ++ word_28 2 ++ code (arg_form 0) ++ in_form (word_28 2 ++ int 6))) (in_form (int 6)) 14 ∷
    refuses (identity ++ prefix*_form [] (word_28 2 ++ defines 1 (int 5))) 13 36 ∷
    -- rest, made: spliced. ns, made and written: 13
    becomes (in_form (code (prefix*_form (arity 1 (name 0x0D)) (int 1 ++ name 0x0D ++ int 0)) ++ int 3 ++ int 4)) (in_form (int 1 ++ int 3 ++ int 4)) 13 ∷
    refuses (prefix*_form (arity 2 (name 0x06)) (int 1 ++ name 0x06 ++ (0x29 ∷ 0x00 ∷ 0xC1 ∷ 0x42 ∷ []))) 13 25 ∷
    refuses (prefix*_form [] (int 1 ++ space 0x29 0x42)) 13 20 ∷
    -- a value that looks like bytecode is data, by a definition and by an argument
    leaves (defines 1 (name 0x31) ++ in_form (word_28 1 ++ in_form [] ++ int 1)) (core_form 0x31 (in_form [] ++ int 1)) 11 ∷
    becomes (in_form (code (in_form (arg_form 0 ++ in_form [] ++ int 1)) ++ name 0x31)) (core_form 0x31 (in_form [] ++ int 1)) 10 ∷
    -- bytecode in code that doesn't run is not judged; in code that runs twice its steps count twice
    leaves (function (core_form 0x31 (int 1))) [] 6 ∷
    leaves (function (one_operand (int 1 ++ word_28 2 ++ arg_form 0)) ++ in_form (word_28 3 ++ int 5) ++ in_form (word_28 3 ++ int 6))
    (in_form (int 1 ++ in_form (word_28 2 ++ int 5)) ++ in_form (int 1 ++ in_form (word_28 2 ++ int 6))) 26 ∷
    -- 14: a marker borne in an arity list, in a flat list, in bytecode that doesn't run
    refused (prefix*_form (arity 1 (0x2A ∷ 0x02 ∷ [])) (int 1) ++ space 0x2A 0x41) 14 18 ∷
    refused (prefix*_form [] (0x2A ∷ 0x02 ∷ []) ++ space 0x2A 0x41) 14 14 ∷
    refuses (function (core_form 0x31 (in_form (0x2A ∷ 0x02 ∷ []))) ++ space 0x2A 0x42) 14 32 ∷
    []

contents_hold : answers contents ≡ map expected contents
unfolding answers contents
contents_hold = refl
