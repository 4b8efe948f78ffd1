-- Document 02, §2, "A night's backlog at once": backlogs with the answers that its sentences demand. Tables for the answers of several streams and
-- their places; for the output left; for steps, workspace and what is defined; for the table afterwards; and for 23. Assumes nothing.
use Prim.Native.Nat.{ℕ}
use mathlib.Core.Path.{◌≡◌, refl}
use mathlib.Core.List.{List, [], ◌∷◌, ◌++◌, map}
use lib.ListN.{length, replicate}
use Rattle.spec.proofs.Cases.{backlogs, backlog_fills, Request, told_each, Told, Case, ◌gives◌, before, expected, answers, version_form, ns_form, defines, word_28, function_name}

-- Parts of backlogs

-- V alone, 6 bytes: 4 steps, 10 charged; and with 85, 7 bytes: 5 steps, 11 charged. Both leave themselves
abbrev six : List ℕ
six = version_form

abbrev seven : List ℕ
seven = six ++ 0x85 ∷ []

-- 23 bytes that leave 15, 8 steps, 20 charged
abbrev N : List ℕ
N = six ++ ns_form ++ defines 1 (0x85 ∷ []) ++ word_28 1

abbrev N_left : List ℕ
N_left = six ++ ns_form ++ 0x85 ∷ []

-- 2 bytes: 3 at 1; and 8 bytes: 12 at 6
abbrev unreadable : List ℕ
unreadable = 0x00 ∷ 0x02 ∷ []

abbrev valueless : List ℕ
valueless = six ++ function_name

-- "each one's answer, place, length and steps": of one that is accepted, and of one that is refused
abbrev took : ℕ → ℕ → List ℕ
took n k = 0 ∷ 0 ∷ n ∷ k ∷ []

abbrev failed : ℕ → ℕ → List ℕ
failed w p = w ∷ p ∷ 0 ∷ 0 ∷ []

-- streams, ends, output and answers; table, workspace and steps are enough
abbrev night : List ℕ → List ℕ → ℕ → ℕ → Request
night s es o a = backlogs s es 80 65536 o 99 a

-- acceptance: the answers, the results end to end, and so many bytes of output as they were
abbrev leaves : List ℕ → List ℕ → ℕ → Told
leaves ns bs o = told_each 0 0 (length bs) ns (bs ++ before o)

-- "give each one's answer, place, length and steps in a lent list, four 64-bit numbers a stream, results end to end"

several : List Case
several =
    -- no ends and an empty buffer; with no place for answers and no output
    (night [] [] 3 5 gives leaves (before 5) [] 3) ∷
    (night [] [] 0 0 gives leaves [] [] 0) ∷
    -- one, two and three streams
    (night N (23 ∷ []) 16 5 gives leaves (took 15 8 ++ before 1) N_left 1) ∷
    (night (seven ++ six) (7 ∷ 13 ∷ []) 13 8 gives leaves (took 7 5 ++ took 6 4) (seven ++ six) 0) ∷
    (night (six ++ N ++ seven) (6 ∷ 29 ∷ 36 ∷ []) 30 13 gives leaves (took 6 4 ++ took 15 8 ++ took 7 5 ++ before 1) (six ++ N_left ++ seven) 2) ∷
    []

several_hold : answers several ≡ map expected several
unfolding answers several
several_hold = refl

-- "It equals one evaluation after another": a refused stream is followed by the others, and takes no output

refused : List Case
refused =
    -- first, between others and last; all of them
    (night (valueless ++ seven) (8 ∷ 15 ∷ []) 9 8 gives leaves (failed 12 6 ++ took 7 5) seven 2) ∷
    (night (six ++ unreadable ++ seven) (6 ∷ 8 ∷ 15 ∷ []) 15 12 gives leaves (took 6 4 ++ failed 3 1 ++ took 7 5) (six ++ seven) 2) ∷
    (night (seven ++ valueless) (7 ∷ 15 ∷ []) 15 8 gives leaves (took 7 5 ++ failed 12 6) seven 8) ∷
    (night (unreadable ++ valueless) (2 ∷ 10 ∷ []) 9 10 gives leaves (failed 3 1 ++ failed 12 6 ++ before 2) [] 9) ∷
    []

refused_hold : answers refused ≡ map expected refused
unfolding answers refused
refused_hold = refl

-- "streams end to end with a list of their ends": each is a stream of its own

parted : List Case
parted =
    -- a place is counted from its stream's own first byte, in reading and in evaluation
    (night (unreadable ++ unreadable) (2 ∷ 4 ∷ []) 1 8 gives leaves (failed 3 1 ++ failed 3 1) [] 1) ∷
    (night (six ++ valueless ++ valueless) (6 ∷ 14 ∷ 22 ∷ []) 6 12 gives leaves (took 6 4 ++ failed 12 6 ++ failed 12 6) six 0) ∷
    -- equal ends: an empty stream, first, between others and last; nothing but empty ones
    (night six (0 ∷ 6 ∷ []) 6 8 gives leaves (failed 9 0 ++ took 6 4) six 0) ∷
    (night (six ++ seven) (6 ∷ 6 ∷ 6 ∷ 13 ∷ []) 13 16 gives leaves (took 6 4 ++ failed 9 0 ++ failed 9 0 ++ took 7 5) (six ++ seven) 0) ∷
    (night six (6 ∷ 6 ∷ []) 6 8 gives leaves (took 6 4 ++ failed 9 0) six 0) ∷
    (night [] (0 ∷ []) 1 4 gives leaves (failed 9 0) [] 1) ∷
    (night [] (0 ∷ 0 ∷ []) 1 8 gives leaves (failed 9 0 ++ failed 9 0) [] 1) ∷
    -- the ends part the streams, whatever the bytes are
    (night six (3 ∷ 6 ∷ []) 6 8 gives leaves (failed 2 0 ++ failed 3 2) [] 6) ∷
    (night (six ++ six) (12 ∷ []) 12 4 gives leaves (took 12 8) (six ++ six) 0) ∷
    -- 2 at the first byte of what its stream leaves unfinished (02, §4)
    (night (six ++ six) (8 ∷ 12 ∷ []) 12 8 gives leaves (failed 2 6 ++ failed 3 3) [] 12) ∷
    []

parted_hold : answers parted ≡ map expected parted
unfolding answers parted
parted_hold = refl

-- "the output left by those before"

outputs : List Case
outputs =
    -- enough for all; one byte less; nothing for the last, nothing at all
    (night (six ++ seven ++ six) (6 ∷ 13 ∷ 19 ∷ []) 19 12 gives leaves (took 6 4 ++ took 7 5 ++ took 6 4) (six ++ seven ++ six) 0) ∷
    (night (six ++ seven ++ six) (6 ∷ 13 ∷ 19 ∷ []) 18 12 gives leaves (took 6 4 ++ took 7 5 ++ failed 18 0) (six ++ seven) 5) ∷
    (night (six ++ seven ++ six) (6 ∷ 13 ∷ 19 ∷ []) 13 12 gives leaves (took 6 4 ++ took 7 5 ++ failed 18 0) (six ++ seven) 0) ∷
    (night (six ++ seven ++ six) (6 ∷ 13 ∷ 19 ∷ []) 0 12 gives leaves (failed 18 0 ++ failed 18 0 ++ failed 18 0) [] 0) ∷
    []

outputs_hold : answers outputs ≡ map expected outputs
unfolding answers outputs
outputs_hold = refl

unfitting : List Case
unfitting =
    -- one that doesn't fit takes no output, so that a smaller one after it may fit
    (night (six ++ N ++ six) (6 ∷ 29 ∷ 35 ∷ []) 20 12 gives leaves (took 6 4 ++ failed 18 0 ++ took 6 4) (six ++ six) 8) ∷
    (night (six ++ N ++ six) (6 ∷ 29 ∷ 35 ∷ []) 12 12 gives leaves (took 6 4 ++ failed 18 0 ++ took 6 4) (six ++ six) 0) ∷
    (night (six ++ N ++ six) (6 ∷ 29 ∷ 35 ∷ []) 21 12 gives leaves (took 6 4 ++ took 15 8 ++ failed 18 0) (six ++ N_left) 0) ∷
    (night (N ++ six) (23 ∷ 29 ∷ []) 14 8 gives leaves (failed 18 0 ++ took 6 4) six 8) ∷
    -- it is the result that takes output, not the stream
    (night (N ++ six) (23 ∷ 29 ∷ []) 21 8 gives leaves (took 15 8 ++ took 6 4) (N_left ++ six) 0) ∷
    -- 18 comes last of all, in each stream
    (night (six ++ valueless ++ six) (6 ∷ 14 ∷ 20 ∷ []) 6 12 gives leaves (took 6 4 ++ failed 12 6 ++ failed 18 0) six 0) ∷
    []

unfitting_hold : answers unfitting ≡ map expected unfitting
unfolding answers unfitting
unfitting_hold = refl

-- "each with the same [..] steps and workspace"

bounds : List Case
bounds =
    -- 4 steps, 10 bytes of workspace
    (backlogs (six ++ seven ++ six) (6 ∷ 13 ∷ 19 ∷ []) 80 65536 19 4 12 gives leaves (took 6 4 ++ failed 16 6 ++ took 6 4) (six ++ six) 7) ∷
    (backlogs (six ++ seven ++ six) (6 ∷ 13 ∷ 19 ∷ []) 80 10 19 99 12 gives leaves (took 6 4 ++ failed 17 6 ++ took 6 4) (six ++ six) 7) ∷
    -- 5 steps and 11 bytes, of which each refused stream would need one more
    (backlogs (seven ++ six ++ (0x85 ∷ 0x85 ∷ []) ++ six ++ (0xC1 ∷ 0x41 ∷ []) ++ seven) (7 ∷ 15 ∷ 23 ∷ 30 ∷ []) 80 11 14 5 16
    gives leaves (took 7 5 ++ failed 16 7 ++ failed 17 6 ++ took 7 5) (seven ++ seven) 0) ∷
    (backlogs six (6 ∷ []) 80 65536 6 0 4 gives leaves (failed 16 0) [] 6) ∷
    []

bounds_hold : answers bounds ≡ map expected bounds
unfolding answers bounds
bounds_hold = refl

-- "one evaluation after another": each starts anew

anew : List Case
anew =
    -- a word that one stream defines has no value in the next; its marker is not associated there, and its id is free
    (night (N ++ six ++ ns_form ++ word_28 1) (23 ∷ 39 ∷ []) 31 8 gives leaves (took 15 8 ++ took 16 6) (N_left ++ six ++ ns_form ++ word_28 1) 0) ∷
    (night (N ++ six ++ defines 1 (0x85 ∷ [])) (23 ∷ 36 ∷ []) 21 8 gives leaves (took 15 8 ++ failed 14 6) N_left 6) ∷
    (night (N ++ N) (23 ∷ 46 ∷ []) 30 8 gives leaves (took 15 8 ++ took 15 8) (N_left ++ N_left) 0) ∷
    -- each has its own version form
    (night (six ++ 0x85 ∷ []) (6 ∷ 7 ∷ []) 7 8 gives leaves (took 6 4 ++ failed 9 0) six 1) ∷
    []

anew_hold : answers anew ≡ map expected anew
unfolding answers anew
anew_hold = refl

-- "each with the same table"

-- the rows of the stream of 6 bytes, and the one more that the stream of 7 bytes has
six_rows : List ℕ
six_rows = 1 ∷ 0 ∷ 6 ∷ 4 ∷ 4 ∷ 1 ∷ 3 ∷ 2 ∷ 3 ∷ 3 ∷ 4 ∷ 3 ∷ 3 ∷ 4 ∷ 5 ∷ 4 ∷ []

last_row : List ℕ
last_row = 3 ∷ 6 ∷ 7 ∷ 5 ∷ []

-- streams, ends, table and answers; workspace, output and steps are enough
abbrev fills : List ℕ → List ℕ → ℕ → ℕ → Request
fills s es t a = backlog_fills s es t 65536 20 99 a

-- acceptance: the total length, the answers, and the table
abbrev table_is : ℕ → List ℕ → List ℕ → Told
table_is n ns t = told_each 0 0 n ns t

tables : List Case
tables =
    -- none, one
    (fills [] [] 5 0 gives table_is 0 [] (before 5)) ∷
    (fills six (6 ∷ []) 17 4 gives table_is 6 (took 6 4) (six_rows ++ before 1)) ∷
    -- the last one's rows over those before, with places of their own streams; a longer one after a shorter one
    (fills (seven ++ 0x00 ∷ 0x00 ∷ []) (7 ∷ 9 ∷ []) 21 8
    gives table_is 7 (took 7 5 ++ failed 9 0) (0 ∷ 0 ∷ 1 ∷ 1 ∷ 0 ∷ 1 ∷ 2 ∷ 2 ∷ 3 ∷ 3 ∷ 4 ∷ 3 ∷ 3 ∷ 4 ∷ 5 ∷ 4 ∷ last_row ++ before 1)) ∷
    (fills ((0x00 ∷ 0x00 ∷ []) ++ seven) (2 ∷ 9 ∷ []) 21 8 gives table_is 7 (failed 9 0 ++ took 7 5) (six_rows ++ last_row ++ before 1)) ∷
    -- unchanged by a stream that can't be read, first, last and between others
    (fills (unreadable ++ six) (2 ∷ 8 ∷ []) 17 8 gives table_is 6 (failed 3 1 ++ took 6 4) (six_rows ++ before 1)) ∷
    (fills (six ++ unreadable) (6 ∷ 8 ∷ []) 17 8 gives table_is 6 (took 6 4 ++ failed 3 1) (six_rows ++ before 1)) ∷
    (fills (seven ++ unreadable ++ 0x00 ∷ []) (7 ∷ 9 ∷ 10 ∷ []) 20 12
    gives table_is 7 (took 7 5 ++ failed 3 1 ++ failed 9 0) (0 ∷ 0 ∷ 1 ∷ 1 ∷ 4 ∷ 1 ∷ 3 ∷ 2 ∷ 3 ∷ 3 ∷ 4 ∷ 3 ∷ 3 ∷ 4 ∷ 5 ∷ 4 ∷ last_row)) ∷
    -- an empty one has no rows
    (fills six (6 ∷ 6 ∷ []) 16 8 gives table_is 6 (took 6 4 ++ failed 9 0) six_rows) ∷
    -- 8: four rows, of which each stream has all
    (fills (six ++ seven ++ six) (6 ∷ 13 ∷ 19 ∷ []) 19 12 gives table_is 12 (took 6 4 ++ failed 8 6 ++ took 6 4) (six_rows ++ before 3)) ∷
    (fills (0x00 ∷ seven) (1 ∷ 8 ∷ []) 16 8 gives table_is 0 (failed 9 0 ++ failed 8 6) (0 ∷ 0 ∷ 1 ∷ 1 ∷ before 12)) ∷
    []

tables_hold : answers tables ≡ map expected tables
unfolding answers tables six_rows last_row
tables_hold = refl

-- "23, an end below the one before, a last end other than the buffer's length (no ends: buffer not empty), or fewer places for answers than ends, at
-- 0, before all others, nothing written"

-- 23 with these streams, ends and answers, after which answers, output and table are as they were
abbrev twenty_three : List ℕ → List ℕ → ℕ → List Case
twenty_three s es a =
    (backlogs s es 16 65536 12 99 a gives told_each 23 0 0 (before a) (before 12)) ∷
    (backlog_fills s es 16 65536 12 99 a gives told_each 23 0 0 (before a) (before 16)) ∷
    []

unordered : List Case
unordered =
    -- the second, a later one, the last; by one and by more; below the buffer's length, and after one above it
    twenty_three (six ++ six) (6 ∷ 5 ∷ 12 ∷ []) 12
    ++ twenty_three (six ++ six) (6 ∷ 0 ∷ 12 ∷ []) 12
    ++ twenty_three (six ++ six ++ six) (6 ∷ 12 ∷ 11 ∷ 18 ∷ []) 16
    ++ twenty_three (six ++ six) (6 ∷ 13 ∷ 12 ∷ []) 12
    ++ twenty_three (six ++ six) (18446744073709551615 ∷ 12 ∷ []) 8

unordered_hold : answers unordered ≡ map expected unordered
unfolding answers unordered
unordered_hold = refl

last_ends : List Case
last_ends =
    -- one below the buffer's length and one above it; with an earlier end that is the length; zero
    twenty_three (six ++ six) (6 ∷ 11 ∷ []) 8
    ++ twenty_three (six ++ six) (6 ∷ 13 ∷ []) 8
    ++ twenty_three (six ++ six) (12 ∷ 13 ∷ []) 8
    ++ twenty_three six (0 ∷ []) 4
    ++ twenty_three [] (1 ∷ []) 4
    -- no ends, and a buffer that isn't empty
    ++ twenty_three six [] 4
    ++ twenty_three (0x00 ∷ []) [] 0

last_ends_hold : answers last_ends ≡ map expected last_ends
unfolding answers last_ends
last_ends_hold = refl

places : List Case
places =
    -- places for all ends but one, one number less than enough, none
    twenty_three (six ++ six) (6 ∷ 12 ∷ []) 4
    ++ twenty_three (six ++ six) (6 ∷ 12 ∷ []) 7
    ++ twenty_three six (6 ∷ []) 3
    ++ twenty_three six (6 ∷ []) 0
    ++ twenty_three [] (0 ∷ []) 3
    -- enough; three numbers more; a place more
    ++ (night (six ++ six) (6 ∷ 12 ∷ []) 12 8 gives leaves (took 6 4 ++ took 6 4) (six ++ six) 0) ∷
    (night (six ++ six) (6 ∷ 12 ∷ []) 12 11 gives leaves (took 6 4 ++ took 6 4 ++ before 3) (six ++ six) 0) ∷
    (night (six ++ six) (6 ∷ 12 ∷ []) 12 12 gives leaves (took 6 4 ++ took 6 4 ++ before 4) (six ++ six) 0) ∷
    []

places_hold : answers places ≡ map expected places
unfolding answers places
places_hold = refl

first_of_all : List Case
first_of_all =
    -- 23, and not 3, 9, 12 or 8
    twenty_three (unreadable ++ six) (2 ∷ 7 ∷ []) 8
    ++ twenty_three six (0 ∷ 6 ∷ 5 ∷ []) 12
    ++ twenty_three valueless (8 ∷ []) 3
    ++ twenty_three (N ++ six) (23 ∷ 28 ∷ []) 8
    -- nor 16, 17 or 18
    ++ (backlogs six (5 ∷ []) 16 65536 6 0 4 gives told_each 23 0 0 (before 4) (before 6)) ∷
    (backlogs six (5 ∷ []) 16 0 6 99 4 gives told_each 23 0 0 (before 4) (before 6)) ∷
    (backlogs six (5 ∷ []) 16 65536 0 99 4 gives told_each 23 0 0 (before 4) []) ∷
    []

first_of_all_hold : answers first_of_all ≡ map expected first_of_all
unfolding answers first_of_all
first_of_all_hold = refl

-- 1 is for each stream, the buffer may be longer; and 23 comes before 1

long : List Case
long =
    (night (replicate 65537 0x00 ++ six) (65537 ∷ 65543 ∷ []) 6 8 gives leaves (failed 1 0 ++ took 6 4) six 0) ∷
    twenty_three (replicate 65537 0x00) (65537 ∷ []) 3

long_hold : answers long ≡ map expected long
unfolding answers long
long_hold = refl
