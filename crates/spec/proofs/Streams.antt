-- Document 01, "Streams to try": the starred ones, each call with its answer, in one table under one claim. And further tables, with the
-- answers that its sentences demand: for "Errors that come easily", whose answers a definition with such an error does not give; for
-- reading, and for where an unfinished part began (document 02, §4); for what is visible where; for names and namespaces; for the rules
-- as written wrongly; for the refusals with their limits, and for which of two comes first; and for what the buffers hold afterwards.
-- Assumes nothing.
use Prim.Native.Nat.{ℕ, zero, suc, ◌+◌}
use mathlib.Core.Path.{◌≡◌, refl}
use mathlib.Core.List.{List, [], ◌∷◌, ◌++◌, map}
use lib.ListN.{length, take, drop, replicate}
use Rattle.spec.specs.Expr.{array, int, ref, atom, form, Exprs, none, only}
use Rattle.spec.specs.Calls.{Read, of_stream, of_result, part, no_part}
use Rattle.spec.proofs.Cases.{reads, means, writes, evaluates, rewrites, fills, items, told, meaning, item_is, Case, ◌gives◌, before, expected, answers, refusal, result_is, version_form, ns_form, in_form, core_form, word_28, defines, space, joins, code, arg_form, rest_form, function_name, identity, chain, nested, refuses, leaves}

-- the parts of N
define_85 : List ℕ
define_85 = 0x01 ∷ 0x20 ∷ 0x09 ∷ 0x28 ∷ 0x01 ∷ 0x85 ∷ 0x02 ∷ []

define_89 : List ℕ
define_89 = 0x01 ∷ 0x20 ∷ 0x09 ∷ 0x28 ∷ 0x01 ∷ 0x89 ∷ 0x02 ∷ []

word_28_01 : List ℕ
word_28_01 = 0x28 ∷ 0x01 ∷ []

-- "N = V, [..]"
N : List ℕ
N = version_form ++ ns_form ++ define_85 ++ word_28_01

-- the call of stream l
call_l : List ℕ
call_l = 0x01 ∷ 0x01 ∷ 0x20 ∷ 0x0B ∷ 0x81 ∷ 0x01 ∷ 0x20 ∷ 0x0D ∷ 0x80 ∷ 0x02 ∷ 0x82 ∷ 0x02 ∷ 0x83 ∷ 0x84 ∷ 0x02 ∷ []

starred : List Case
starred =
    -- a* empty stream: read, 0 rows; evaluated, 9
    (reads [] 4 gives told 0 0 0 0 (before 4)) ∷
    (evaluates [] 65536 4 9 gives refusal 9 0 4) ∷
    -- b* 02: 3 at 0. c* 01: 2 at 0, by document 02, §4. d* 04: 4 at 0. e* 03 00: 5 at 1
    (reads (0x02 ∷ []) 4 gives refusal 3 0 4) ∷
    (reads (0x01 ∷ []) 4 gives refusal 2 0 4) ∷
    (reads (0x04 ∷ []) 4 gives refusal 4 0 4) ∷
    (reads (0x03 ∷ 0x00 ∷ []) 4 gives refusal 5 1 4) ∷
    -- f* 7F FF 8C 1A: marker 522, name 26. 7F 00 1A: marker 127
    (means (0x7F ∷ 0xFF ∷ 0x8C ∷ 0x1A ∷ []) gives meaning (only (atom (ref 522 26)))) ∷
    (means (0x7F ∷ 0x00 ∷ 0x1A ∷ []) gives meaning (only (atom (ref 127 26)))) ∷
    -- g* 03 81 AA is written C1 AA. h* 03 03 81 02 AA BB is written C2 AA BB
    (writes (0x03 ∷ 0x81 ∷ 0xAA ∷ []) 4 2 gives told 0 0 2 0 (0xC1 ∷ 0xAA ∷ [])) ∷
    (writes (0x03 ∷ 0x03 ∷ 0x81 ∷ 0x02 ∷ 0xAA ∷ 0xBB ∷ []) 4 3 gives told 0 0 3 0 (0xC2 ∷ 0xAA ∷ 0xBB ∷ [])) ∷
    -- i* N: result V, the ns form, 85; 15 bytes, 8 steps, 20 charged. 7 steps: 16 at 21. Workspace 19: 17 at 21. Output 14: 18
    (evaluates N 20 15 8 gives result_is (version_form ++ ns_form ++ (0x85 ∷ [])) 8) ∷
    (evaluates N 20 15 7 gives refusal 16 21 15) ∷
    (evaluates N 19 15 8 gives refusal 17 21 15) ∷
    (evaluates N 20 14 8 gives refusal 18 0 14) ∷
    -- j* N, then define 28 01 as 89, then 28 01: result ends 85 89
    (evaluates (N ++ define_89 ++ word_28_01) 65536 16 11 gives result_is (version_form ++ ns_form ++ (0x85 ∷ 0x89 ∷ [])) 11) ∷
    -- k* In N, put 28 01 directly before the define too: that one stays 28 01
    (evaluates (version_form ++ ns_form ++ word_28_01 ++ define_85 ++ word_28_01) 65536 17 9
    gives result_is (version_form ++ ns_form ++ word_28_01 ++ (0x85 ∷ [])) 9) ∷
    -- l* result V, 01 81 83 84 82 02; 10 steps, 22 charged
    (evaluates (version_form ++ call_l) 22 12 10 gives result_is (version_form ++ (0x01 ∷ 0x81 ∷ 0x83 ∷ 0x84 ∷ 0x82 ∷ 0x02 ∷ [])) 10) ∷
    (evaluates (version_form ++ call_l) 22 12 9 gives refusal 16 16 12) ∷
    (evaluates (version_form ++ call_l) 21 12 10 gives refusal 17 6 12) ∷
    -- m* V, 01 20 0A C1 41 81 02: 11 at 6. With C1 42 for the 81: C2 41 42
    (evaluates (version_form ++ (0x01 ∷ 0x20 ∷ 0x0A ∷ 0xC1 ∷ 0x41 ∷ 0x81 ∷ 0x02 ∷ [])) 65536 9 99 gives refusal 11 6 9) ∷
    (evaluates (version_form ++ (0x01 ∷ 0x20 ∷ 0x0A ∷ 0xC1 ∷ 0x41 ∷ 0xC1 ∷ 0x42 ∷ 0x02 ∷ [])) 65536 9 7
    gives result_is (version_form ++ (0xC2 ∷ 0x41 ∷ 0x42 ∷ [])) 7) ∷
    []

starred_hold : answers starred ≡ map expected starred
unfolding answers starred define_85 define_89 word_28_01 N call_l
starred_hold = refl

-- Leaving 7F out of the sum is ruled out by f*.
errors : List Case
errors =
    -- the listing's example
    (reads (0x01 ∷ 0x20 ∷ 0x00 ∷ 0x81 ∷ 0x80 ∷ 0x02 ∷ 0x00 ∷ []) 20
    gives told 0 0 5 0 (1 ∷ 0 ∷ 6 ∷ 4 ∷ 4 ∷ 1 ∷ 3 ∷ 2 ∷ 3 ∷ 3 ∷ 4 ∷ 3 ∷ 3 ∷ 4 ∷ 5 ∷ 4 ∷ 0 ∷ 6 ∷ 7 ∷ 5 ∷ [])) ∷
    -- running a function's code with the definitions at the call
    (evaluates (version_form ++ ns_form ++ define_85 ++ (0x01 ∷ 0x20 ∷ 0x09 ∷ 0x28 ∷ 0x02 ∷ 0x01 ∷ 0x20 ∷ 0x0B ∷ 0x28 ∷ 0x01 ∷ 0x02 ∷ 0x02 ∷ []) ++ define_89 ++ (0x01 ∷ 0x28 ∷ 0x02 ∷ 0x02 ∷ [])) 65536 15 99
    gives result_is (version_form ++ ns_form ++ (0x85 ∷ [])) 12) ∷
    -- letting a nested define outlive its form
    (evaluates (version_form ++ ns_form ++ (0x01 ∷ []) ++ define_85 ++ word_28_01 ++ (0x02 ∷ []) ++ word_28_01) 65536 19 99
    gives result_is (version_form ++ ns_form ++ (0x01 ∷ 0x85 ∷ 0x02 ∷ []) ++ word_28_01) 10) ∷
    -- evaluating a defined value again
    (evaluates (version_form ++ ns_form ++ (0x01 ∷ 0x20 ∷ 0x09 ∷ 0x28 ∷ 0x02 ∷ 0x28 ∷ 0x01 ∷ 0x02 ∷ []) ++ define_85 ++ (0x28 ∷ 0x02 ∷ [])) 65536 16 99
    gives result_is (version_form ++ ns_form ++ word_28_01) 10) ∷
    -- giving half a result when steps run out
    (evaluates N 65536 99 5 gives refusal 16 14 99) ∷
    -- writing a 5-byte array back with its 03
    (writes (0x03 ∷ 0x85 ∷ 0x01 ∷ 0x02 ∷ 0x03 ∷ 0x04 ∷ 0x05 ∷ []) 4 9
    gives told 0 0 6 0 (0xC5 ∷ 0x01 ∷ 0x02 ∷ 0x03 ∷ 0x04 ∷ 0x05 ∷ 0xEE ∷ 0xEE ∷ 0xEE ∷ [])) ∷
    []

errors_ruled_out : answers errors ≡ map expected errors
unfolding answers errors define_85 define_89 word_28_01 N
errors_ruled_out = refl

-- Parts of streams to be evaluated

-- an ns form with an id of n bytes
named : ℕ → List ℕ
named n = core_form 0x06 ((0x29 ∷ 0x00 ∷ 0x03 ∷ 0xC1 ∷ n ∷ []) ++ replicate n 0x41)

-- some bytes n times
again : ℕ → List ℕ → List ℕ
again zero s = []
again (suc n) s = s ++ again n s

-- n ns forms
spaces : ℕ → List ℕ
spaces zero = []
spaces (suc n) = spaces n ++ space (0x28 + n) n

-- n forms one inside another
form_in : ℕ → Exprs
form_in zero = none
form_in (suc n) = only (form (form_in n))

-- a value with 65 forms one inside another: 4,244 bytes are charged before it
deep : List ℕ
deep = version_form ++ ns_form ++ defines 1 (nested 33 []) ++ nested 32 word_28_01

-- a byte, and 14 times what was defined before joined with itself
doubled : List ℕ
doubled = version_form ++ ns_form ++ defines 0 (0xC1 ∷ 0x42 ∷ []) ++ again 14 (defines 0 (joins (word_28 0) (word_28 0)))

-- "Bytes to expressions", and reading's refusals in their order

-- what a stream is written as
written : List ℕ → List ℕ → Case
written s bs = writes s 4 (length bs) gives told 0 0 (length bs) 0 bs

-- 7F and n bytes FF
long_marker : ℕ → List ℕ → List ℕ
long_marker n s = 0x7F ∷ (replicate n 0xFF ++ s)

readings : List Case
readings =
    -- the kinds of the four atoms and of a form; forms inside forms; a length expression has no row
    (reads (0x00 ∷ 0xC1 ∷ 0xAA ∷ 0x81 ∷ 0x28 ∷ 0x00 ∷ 0x01 ∷ 0x02 ∷ []) 20
    gives told 0 0 5 0 (0 ∷ 0 ∷ 1 ∷ 1 ∷ 2 ∷ 1 ∷ 3 ∷ 2 ∷ 3 ∷ 3 ∷ 4 ∷ 3 ∷ 4 ∷ 4 ∷ 6 ∷ 4 ∷ 1 ∷ 6 ∷ 8 ∷ 5 ∷ [])) ∷
    (reads (0x01 ∷ 0x01 ∷ 0x00 ∷ 0x02 ∷ 0x00 ∷ 0x02 ∷ 0x00 ∷ []) 20
    gives told 0 0 5 0 (1 ∷ 0 ∷ 6 ∷ 4 ∷ 1 ∷ 1 ∷ 4 ∷ 3 ∷ 0 ∷ 2 ∷ 3 ∷ 3 ∷ 0 ∷ 4 ∷ 5 ∷ 4 ∷ 0 ∷ 6 ∷ 7 ∷ 5 ∷ [])) ∷
    (reads (0x03 ∷ 0x03 ∷ 0x81 ∷ 0x01 ∷ 0xAA ∷ []) 5 gives told 0 0 1 0 (2 ∷ 0 ∷ 5 ∷ 1 ∷ 0xEE ∷ [])) ∷
    -- low six bits; a small integer is not the array of its byte
    (means (0xBF ∷ []) gives meaning (only (atom (int 63)))) ∷
    (means (0x81 ∷ []) gives meaning (only (atom (int 1)))) ∷
    (means (0xC1 ∷ 0x01 ∷ []) gives meaning (only (atom (array (1 ∷ []))))) ∷
    -- big-endian; no bytes: 0; leading zeros; a small array as the length of an inner array; eight bytes 03
    (means ((0x03 ∷ 0xC2 ∷ 0x01 ∷ 0x00 ∷ []) ++ replicate 256 0xAA) gives meaning (only (atom (array (replicate 256 0xAA))))) ∷
    written (0x03 ∷ 0xC0 ∷ []) (0xC0 ∷ []) ∷
    written (0x03 ∷ 0xC3 ∷ 0x00 ∷ 0x00 ∷ 0x01 ∷ 0xAA ∷ []) (0xC1 ∷ 0xAA ∷ []) ∷
    written (0x03 ∷ 0x03 ∷ 0xC1 ∷ 0x01 ∷ 0x01 ∷ 0xAA ∷ []) (0xC1 ∷ 0xAA ∷ []) ∷
    written (replicate 8 0x03 ++ (0x80 ∷ [])) (0xC0 ∷ []) ∷
    -- eight nested lengths; the last cut off; an inner one that is too long
    written (replicate 8 0x03 ++ (0x81 ∷ replicate 7 0x01) ++ (0xAA ∷ [])) (0xC1 ∷ 0xAA ∷ []) ∷
    (reads (replicate 8 0x03 ++ (0x81 ∷ replicate 6 0x01)) 4 gives refusal 2 0 4) ∷
    (reads (replicate 8 0x03 ++ (0x81 ∷ 0xFF ∷ replicate 6 0x01) ++ (0xAA ∷ [])) 4 gives refusal 2 0 4) ∷
    -- canonical: 63, 64, 255 and 256 bytes
    written ((0x03 ∷ 0xC1 ∷ 63 ∷ []) ++ replicate 63 0xAA) (0xFF ∷ replicate 63 0xAA) ∷
    written ((0x03 ∷ 0xC2 ∷ 0x00 ∷ 64 ∷ []) ++ replicate 64 0xAA) ((0x03 ∷ 0xC1 ∷ 64 ∷ []) ++ replicate 64 0xAA) ∷
    written ((0x03 ∷ 0xC2 ∷ 0x00 ∷ 255 ∷ []) ++ replicate 255 0xAA) ((0x03 ∷ 0xC1 ∷ 255 ∷ []) ++ replicate 255 0xAA) ∷
    written ((0x03 ∷ 0xC3 ∷ 0x00 ∷ 0x01 ∷ 0x00 ∷ []) ++ replicate 256 0xAA) ((0x03 ∷ 0xC2 ∷ 0x01 ∷ 0x00 ∷ []) ++ replicate 256 0xAA) ∷
    -- a reference is written as it was, of the markers 127, 381 and 382 too
    written (long_marker 0 (0x00 ∷ 0x1A ∷ [])) (long_marker 0 (0x00 ∷ 0x1A ∷ [])) ∷
    written (long_marker 0 (0xFE ∷ 0x1A ∷ [])) (long_marker 0 (0xFE ∷ 0x1A ∷ [])) ∷
    written (long_marker 1 (0x00 ∷ 0x1A ∷ [])) (long_marker 1 (0x00 ∷ 0x1A ∷ [])) ∷
    -- the first markers and the last
    (means (0x10 ∷ 0x00 ∷ []) gives meaning (only (atom (ref 16 0)))) ∷
    (means (0x7E ∷ 0x00 ∷ []) gives meaning (only (atom (ref 126 0)))) ∷
    (means (long_marker 256 (0x80 ∷ 0x00 ∷ [])) gives meaning (only (atom (ref 65535 0)))) ∷
    -- 1: a byte too many. 3: after a form. 4: the last reserved byte. 5: a length that begins with 02, 04 or 7F, or inside another
    (reads (replicate 65537 0x00) 4 gives refusal 1 0 4) ∷
    (reads (0x01 ∷ 0x02 ∷ 0x02 ∷ []) 4 gives refusal 3 2 4) ∷
    (reads (0x0F ∷ []) 4 gives refusal 4 0 4) ∷
    (reads (0x03 ∷ 0x02 ∷ []) 4 gives refusal 5 1 4) ∷
    (reads (0x03 ∷ 0x04 ∷ []) 4 gives refusal 5 1 4) ∷
    (reads (0x03 ∷ 0x03 ∷ 0x7F ∷ []) 4 gives refusal 5 2 4) ∷
    -- 2: in a length, in an array, in a marker, before a name; a length that is longer than any stream
    (reads (0x03 ∷ 0xC2 ∷ 0x01 ∷ []) 4 gives refusal 2 0 4) ∷
    (reads (0xC2 ∷ 0xAA ∷ []) 4 gives refusal 2 0 4) ∷
    (reads (long_marker 1 []) 4 gives refusal 2 0 4) ∷
    (reads (0x28 ∷ []) 4 gives refusal 2 0 4) ∷
    (reads ((0x03 ∷ 0xC9 ∷ []) ++ replicate 9 0xFF) 4 gives refusal 2 0 4) ∷
    -- 6: 64 forms and one more; nine bytes 03. 7: a marker of 65,536
    (means (nested 64 []) gives meaning (form_in 64)) ∷
    (reads (replicate 65 0x01) 400 gives refusal 6 64 400) ∷
    (reads (replicate 9 0x03) 4 gives refusal 6 8 4) ∷
    (reads (0x00 ∷ long_marker 256 (0x81 ∷ 0x00 ∷ [])) 8 gives refusal 7 1 8) ∷
    -- 8: table length divided by 4, rounded down
    (reads (0x00 ∷ 0x00 ∷ []) 7 gives refusal 8 1 7) ∷
    -- an atom: 2 before 7, 7 before 8; 4, 3, 5 and 2 before 8. A form's opening: 6 before 8
    (reads (long_marker 257 (0x00 ∷ [])) 4 gives refusal 2 0 4) ∷
    (reads (long_marker 257 (0x00 ∷ 0x00 ∷ [])) 0 gives refusal 7 0 0) ∷
    (reads (0x04 ∷ []) 0 gives refusal 4 0 0) ∷
    (reads (0x02 ∷ []) 0 gives refusal 3 0 0) ∷
    (reads (0x03 ∷ 0x00 ∷ []) 0 gives refusal 5 1 0) ∷
    (reads (0xC1 ∷ []) 0 gives refusal 2 0 0) ∷
    (reads (replicate 65 0x01) 256 gives refusal 6 64 256) ∷
    (reads (replicate 65 0x01) 252 gives refusal 8 63 252) ∷
    []

readings_hold : answers readings ≡ map expected readings
unfolding answers readings written long_marker form_in
readings_hold = refl

-- Document 02, §4: 2 at "the first byte of the unfinished top-level expression"

unfinished_streams : List Case
unfinished_streams =
    -- the two streams of the request's readings: 00 01 01 C2 41; V 81 03 03 C1, read, written and evaluated
    (reads (0x00 ∷ 0x01 ∷ 0x01 ∷ 0xC2 ∷ 0x41 ∷ []) 16 gives refusal 2 1 16) ∷
    (reads (version_form ++ (0x81 ∷ 0x03 ∷ 0x03 ∷ 0xC1 ∷ [])) 32 gives refusal 2 7 32) ∷
    (writes (version_form ++ (0x81 ∷ 0x03 ∷ 0x03 ∷ 0xC1 ∷ [])) 32 9 gives refusal 2 7 9) ∷
    (evaluates (version_form ++ (0x81 ∷ 0x03 ∷ 0x03 ∷ 0xC1 ∷ [])) 65536 9 99 gives refusal 2 7 9) ∷
    -- an atom of the top level: its own first byte, behind an atom and behind a form
    (reads (0x00 ∷ 0xC2 ∷ 0x41 ∷ []) 16 gives refusal 2 1 16) ∷
    (reads (0x01 ∷ 0x00 ∷ 0x02 ∷ 0x28 ∷ []) 16 gives refusal 2 3 16) ∷
    -- an open form: the outermost, whether its last form is finished or not, and whatever came before it
    (reads (0x01 ∷ 0x00 ∷ 0x01 ∷ 0x02 ∷ []) 16 gives refusal 2 0 16) ∷
    (reads (0x01 ∷ 0x02 ∷ 0x01 ∷ 0x01 ∷ []) 16 gives refusal 2 2 16) ∷
    (reads (0x01 ∷ 0x02 ∷ 0x01 ∷ 0x00 ∷ 0x00 ∷ []) 16 gives refusal 2 2 16) ∷
    -- an atom inside, behind a finished form: the outermost open form, not the atom
    (reads (0x00 ∷ 0x01 ∷ 0x01 ∷ 0x02 ∷ 0x03 ∷ []) 16 gives refusal 2 1 16) ∷
    -- 64 forms deep
    (reads (0x00 ∷ replicate 64 0x01) 260 gives refusal 2 1 260) ∷
    (reads (0x00 ∷ (replicate 64 0x01 ++ (0x7F ∷ 0xFF ∷ []))) 260 gives refusal 2 1 260) ∷
    -- 8 where no row is left before the end is seen; an atom's own 2 comes first
    (reads (0x01 ∷ 0x01 ∷ []) 4 gives refusal 8 1 4) ∷
    (reads (0x01 ∷ 0xC1 ∷ []) 4 gives refusal 2 0 4) ∷
    -- of the stream N a byte fewer; the bytes before; those held back, with the one that was missing
    (reads (take 22 N) 100 gives refusal 2 21 100) ∷
    (writes (take 21 N) 100 21 gives told 0 0 21 0 (version_form ++ ns_form ++ define_85)) ∷
    (writes (drop 21 (take 22 N) ++ drop 22 N) 100 2 gives told 0 0 2 0 word_28_01) ∷
    -- Item gives no part
    (items (0x00 ∷ 0x01 ∷ []) [] of_stream 0 gives item_is no_part) ∷
    []

unfinished_hold : answers unfinished_streams ≡ map expected unfinished_streams
unfolding answers unfinished_streams define_85 word_28_01 N
unfinished_hold = refl

-- The rules: what is visible, calls and arguments, names and namespaces

-- version, true, false, string encodings, package, import, a name that is not given; in document 000's numbers concat and rest, which are
-- others here; arithmetic; of bytecode all but prefix*
plain_names : List ℕ
plain_names = 0x00 ∷ 0x01 ∷ 0x02 ∷ 0x03 ∷ 0x05 ∷ 0x07 ∷ 0x08 ∷ 0x0E ∷ 0x10 ∷ 0x13 ∷ 0x27 ∷ 0x30 ∷ 0x32 ∷ 0x33 ∷ 0x34 ∷ []

-- for each name a form that it heads
headed : List ℕ → List ℕ → List ℕ
headed [] s = []
headed (n ∷ ns) s = core_form n s ++ headed ns s

rules : List Case
rules =
    -- a definition is visible at all depths, to code of a subst form too; of that marker and name; to what follows
    leaves (define_85 ++ in_form (in_form word_28_01)) (in_form (in_form (0x85 ∷ []))) 10 ∷
    leaves (define_85 ++ in_form (code word_28_01)) (0x85 ∷ []) 9 ∷
    leaves (space 0x29 0x42 ++ define_85 ++ (0x29 ∷ 0x01 ∷ [])) (space 0x29 0x42 ++ (0x29 ∷ 0x01 ∷ [])) 9 ∷
    leaves (in_form (define_85 ++ word_28_01 ++ define_89 ++ word_28_01)) (in_form (0x85 ∷ 0x89 ∷ [])) 12 ∷
    -- its value can't see it, but sees one before; nor can a function's code
    leaves (defines 1 (in_form word_28_01) ++ word_28_01) (in_form word_28_01) 9 ∷
    leaves (define_85 ++ defines 1 (in_form word_28_01) ++ word_28_01) (in_form (0x85 ∷ [])) 11 ∷
    leaves (defines 2 (code (in_form (word_28 2))) ++ in_form (word_28 2)) (in_form (word_28 2)) 9 ∷
    -- a value hides a function
    leaves (identity ++ defines 2 (0x85 ∷ []) ++ in_form (word_28 2 ++ (0x89 ∷ []))) (in_form (0x85 ∷ 0x89 ∷ [])) 11 ∷
    -- a value that is a reference is neither looked up nor called, though it is a function by then
    leaves (defines 1 (word_28 2) ++ identity ++ word_28_01) (word_28 2) 9 ∷
    leaves (defines 1 (word_28 2) ++ identity ++ in_form (word_28_01 ++ (0x83 ∷ []))) (in_form (word_28 2 ++ (0x83 ∷ []))) 11 ∷
    -- code is judged when it runs
    leaves (defines 2 (code function_name)) [] 6 ∷
    -- define in a data form: as its head, after a concat, a form and a call, in a define's value, in code
    leaves (in_form (define_85 ++ word_28_01)) (in_form (0x85 ∷ [])) 9 ∷
    leaves (in_form (joins (0xC0 ∷ []) (0xC0 ∷ []) ++ in_form [] ++ in_form (code []) ++ define_85 ++ word_28_01))
    (in_form ((0xC0 ∷ []) ++ in_form [] ++ in_form [] ++ (0x85 ∷ []))) 14 ∷
    leaves (defines 1 (in_form (defines 2 (0x86 ∷ []) ++ word_28 2)) ++ word_28_01 ++ word_28 2) (in_form (0x86 ∷ []) ++ word_28 2) 12 ∷
    leaves (in_form (code (in_form (defines 1 (arg_form 0) ++ word_28_01)) ++ (0x86 ∷ []))) (in_form (0x86 ∷ [])) 11 ∷
    -- 13: define as an operand, an argument of a function and of a subst form, a define's value, and in code; ns in a form, as an operand, in code
    refuses (joins define_85 (0xC0 ∷ [])) 13 17 ∷
    refuses (identity ++ in_form (word_28 2 ++ define_85)) 13 32 ∷
    refuses (in_form (code [] ++ define_85)) 13 19 ∷
    refuses (defines 1 define_85) 13 19 ∷
    refuses (in_form (code define_85)) 13 18 ∷
    refuses (in_form (space 0x29 0x42)) 13 15 ∷
    refuses (joins (space 0x29 0x42) (0xC0 ∷ [])) 13 17 ∷
    refuses (in_form (code (space 0x29 0x42))) 13 18 ∷
    -- the call's value: of code with no expression, with one, with two; of a function
    leaves (in_form (code [])) (in_form []) 6 ∷
    leaves (in_form (code (0x85 ∷ []))) (0x85 ∷ []) 7 ∷
    leaves (in_form (code (0x85 ∷ 0x86 ∷ []))) (in_form (0x85 ∷ 0x86 ∷ [])) 8 ∷
    leaves (identity ++ in_form (word_28 2 ++ (0x83 ∷ []))) (0x83 ∷ []) 9 ∷
    -- arguments belong to the nearest enclosing code, and those of a call there to the code around it; a function has only its own
    leaves (in_form (code (in_form (code (arg_form 0) ++ (0x85 ∷ []))) ++ (0x86 ∷ []))) (0x85 ∷ []) 10 ∷
    leaves (in_form (code (in_form (code (arg_form 0) ++ arg_form 0)) ++ (0x86 ∷ []))) (0x86 ∷ []) 10 ∷
    refuses (identity ++ in_form (code (in_form (word_28 2)) ++ (0x86 ∷ []))) 15 22 ∷
    -- rest among arguments, in a data form, and as the first of its elements; without as many arguments as there are, and without one more
    leaves (in_form (code (in_form (code (arg_form 1) ++ rest_form 0)) ++ (0x85 ∷ 0x86 ∷ []))) (0x86 ∷ []) 11 ∷
    leaves (in_form (code (in_form ((0x81 ∷ []) ++ rest_form 1)) ++ (0x85 ∷ 0x86 ∷ 0x87 ∷ []))) (in_form (0x81 ∷ 0x86 ∷ 0x87 ∷ [])) 12 ∷
    leaves (in_form (code (in_form (rest_form 0 ++ (0x83 ∷ []))) ++ (0x85 ∷ 0x86 ∷ []))) (in_form (0x85 ∷ 0x86 ∷ 0x83 ∷ [])) 11 ∷
    leaves (in_form (code (rest_form 1) ++ (0x83 ∷ []))) (in_form []) 8 ∷
    refuses (in_form (code (rest_form 2) ++ (0x83 ∷ []))) 15 18 ∷
    -- one expression as code is charged, and the call again; a rest of no items fits where nothing is left
    (evaluates (version_form ++ in_form (code (0x85 ∷ []))) 12 7 6 gives result_is (version_form ++ (0x85 ∷ [])) 6) ∷
    (evaluates (version_form ++ in_form (code (0x85 ∷ []))) 11 7 6 gives refusal 17 6 7) ∷
    (evaluates (version_form ++ in_form (code (rest_form 0 ++ function_name))) 10 9 99 gives refusal 12 15 9) ∷
    -- core names that are no function names stand for themselves, and head data forms; so do all names of other namespaces
    leaves (define_85 ++ headed plain_names word_28_01) (headed plain_names (0x85 ∷ [])) 52 ∷
    leaves (headed (0x00 ∷ []) (0x20 ∷ 0x07 ∷ 0x20 ∷ 0x08 ∷ 0x20 ∷ 0x0E ∷ [])) (headed (0x00 ∷ []) (0x20 ∷ 0x07 ∷ 0x20 ∷ 0x08 ∷ 0x20 ∷ 0x0E ∷ [])) 10 ∷
    leaves (in_form (word_28 11 ++ word_28 6)) (in_form (word_28 11 ++ word_28 6)) 8 ∷
    -- 12: a function name, a function, a subst form
    refuses (0x20 ∷ 0x06 ∷ []) 12 14 ∷
    refuses (0x20 ∷ 0x09 ∷ []) 12 14 ∷
    refuses (0x20 ∷ 0x0A ∷ []) 12 14 ∷
    refuses (0x20 ∷ 0x0B ∷ []) 12 14 ∷
    refuses (0x20 ∷ 0x0C ∷ []) 12 14 ∷
    refuses (0x20 ∷ 0x0D ∷ []) 12 14 ∷
    refuses (identity ++ word_28 2) 12 29 ∷
    refuses (code []) 12 14 ∷
    refuses (defines 1 function_name) 12 19 ∷
    -- the id's bytes count, not how its length was written; one in code that does not run is not used; ids of 64 and 65 bytes
    leaves (core_form 0x06 (0x29 ∷ 0x00 ∷ 0x03 ∷ 0x81 ∷ 0x42 ∷ [])) (space 0x29 0x42) 6 ∷
    leaves (defines 2 (code (space 0x2B 0x42)) ++ space 0x29 0x42) (space 0x29 0x42) 7 ∷
    (evaluates (version_form ++ named 64) 65536 79 5 gives result_is (version_form ++ named 64) 5) ∷
    (evaluates (version_form ++ named 65) 65536 80 5 gives refusal 11 6 80) ∷
    -- 14: an id used before, a marker borne before: by a reference, in a form, in code that does not run; the core's; a marker not associated
    refuses (space 0x29 0x41) 14 14 ∷
    refuses (core_form 0x06 (0x29 ∷ 0x00 ∷ 0x03 ∷ 0x81 ∷ 0x41 ∷ [])) 14 14 ∷
    refuses ((0x2A ∷ 0x01 ∷ []) ++ space 0x2A 0x42) 14 16 ∷
    refuses (in_form (0x2A ∷ 0x01 ∷ []) ++ space 0x2A 0x42) 14 18 ∷
    refuses (defines 2 (code (0x2A ∷ 0x01 ∷ [])) ++ space 0x2A 0x42) 14 26 ∷
    refuses (core_form 0x06 (function_name ++ (0xC1 ∷ 0x42 ∷ []))) 14 14 ∷
    refuses (core_form 0x09 (function_name ++ (0x80 ∷ []))) 14 14 ∷
    refuses (core_form 0x09 (0x2A ∷ 0x01 ∷ 0x80 ∷ [])) 14 14 ∷
    -- 15: arg and rest outside code, an argument that isn't there
    refuses (arg_form 0) 15 14 ∷
    refuses (rest_form 0) 15 14 ∷
    refuses (in_form (code (arg_form 0))) 15 18 ∷
    []

rules_hold : answers rules ≡ map expected rules
unfolding answers rules define_85 define_89 word_28_01 named plain_names headed
rules_hold = refl

-- 11: "wrong number or kind of elements in ns, define, concat, arg, rest, counted as written"

elements : List Case
elements =
    -- ns: a marker, no id; an id of no bytes, no array for an id; one element too many; no reference
    refuses (core_form 0x06 (0x2A ∷ 0x00 ∷ [])) 11 14 ∷
    refuses (core_form 0x06 (0x29 ∷ 0x00 ∷ 0xC0 ∷ [])) 11 14 ∷
    refuses (core_form 0x06 (0x29 ∷ 0x00 ∷ 0x80 ∷ [])) 11 14 ∷
    refuses (core_form 0x06 ((0x29 ∷ 0x00 ∷ []) ++ in_form [])) 11 14 ∷
    refuses (core_form 0x06 (0x29 ∷ 0x00 ∷ 0xC1 ∷ 0x42 ∷ 0x00 ∷ [])) 11 14 ∷
    refuses (core_form 0x06 (0x80 ∷ 0xC1 ∷ 0x42 ∷ [])) 11 14 ∷
    -- define: no value, two values; no reference; a rest form
    refuses (defines 1 []) 11 14 ∷
    refuses (defines 1 (0x80 ∷ 0x80 ∷ [])) 11 14 ∷
    refuses (core_form 0x09 (0x80 ∷ 0x80 ∷ [])) 11 14 ∷
    refuses (core_form 0x09 (in_form [] ++ (0x80 ∷ []))) 11 14 ∷
    refuses (defines 1 (rest_form 0)) 11 14 ∷
    -- concat: no operand, one, three; a rest form; no array
    refuses (joins [] []) 11 14 ∷
    refuses (joins (0xC0 ∷ []) []) 11 14 ∷
    refuses (joins (0xC0 ∷ []) (0xC0 ∷ 0xC0 ∷ [])) 11 14 ∷
    refuses (joins (rest_form 0) (0xC0 ∷ [])) 11 14 ∷
    refuses (joins (0xC0 ∷ []) (rest_form 0)) 11 14 ∷
    refuses (joins (0xC0 ∷ []) (in_form [])) 11 14 ∷
    refuses (joins (0x00 ∷ []) (0xC0 ∷ [])) 11 14 ∷
    -- arg and rest: none, two; no small integer
    refuses (core_form 0x0C []) 11 14 ∷
    refuses (core_form 0x0C (0x80 ∷ 0x80 ∷ [])) 11 14 ∷
    refuses (core_form 0x0C (0x00 ∷ [])) 11 14 ∷
    refuses (core_form 0x0C (0xC0 ∷ [])) 11 14 ∷
    refuses (core_form 0x0C word_28_01) 11 14 ∷
    refuses (core_form 0x0C (in_form [])) 11 14 ∷
    refuses (core_form 0x0D []) 11 14 ∷
    refuses (core_form 0x0D (0x80 ∷ 0x80 ∷ [])) 11 14 ∷
    refuses (core_form 0x0D (0xC1 ∷ 0x00 ∷ [])) 11 14 ∷
    []

elements_hold : answers elements ≡ map expected elements
unfolding answers elements word_28_01
elements_hold = refl

-- The limits of evaluation

limits : List Case
limits =
    -- 6: a value with 65 forms one inside another, and one with 64
    (evaluates deep 65536 9 999 gives refusal 6 86 9) ∷
    leaves (nested 64 []) (nested 64 []) 69 ∷
    leaves (in_form (in_form [] ++ nested 63 [])) (in_form (in_form [] ++ nested 63 [])) 70 ∷
    -- 17: of a larger workspace 65,536 bytes count: 49,275 are charged before the last join, of 16,384 bytes
    (evaluates doubled 131072 9 999 gives refusal 17 209 9) ∷
    -- 19: 32 codes in progress, and one more
    leaves (chain (0x85 ∷ []) 31 ++ in_form (word_28 31)) (0x85 ∷ []) 70 ∷
    refuses (chain (0x85 ∷ []) 32 ++ in_form (word_28 32)) 19 33 ∷
    -- 19: 64 namespaces, and one more
    (evaluates (version_form ++ spaces 64) 65536 518 999 gives result_is (version_form ++ spaces 64) 68) ∷
    (evaluates (version_form ++ spaces 65) 65536 526 999 gives refusal 19 518 526) ∷
    -- 19: 256 definitions, and one more; functions count, and those of a form that is over don't
    leaves (again 256 define_85) [] 517 ∷
    refuses (again 257 define_85) 19 1806 ∷
    refuses (again 256 define_85 ++ identity) 19 1806 ∷
    leaves (again 255 define_85 ++ again 2 (in_form define_85)) (again 2 (in_form [])) 521 ∷
    []

limits_hold : answers limits ≡ map expected limits
unfolding answers limits define_85 word_28_01 again spaces deep doubled
limits_hold = refl

-- "the first that arises, in reading order and then in evaluation order, wins"

orders : List Case
orders =
    -- reading ends before 9; 9 and 10 come before the first step
    (evaluates (0x00 ∷ 0x02 ∷ []) 65536 9 0 gives refusal 3 1 9) ∷
    (evaluates (0x00 ∷ []) 65536 9 0 gives refusal 9 0 9) ∷
    (evaluates (0x20 ∷ 0x00 ∷ []) 65536 9 0 gives refusal 9 0 9) ∷
    (evaluates (in_form []) 65536 9 0 gives refusal 9 0 9) ∷
    (evaluates (in_form version_form) 65536 9 0 gives refusal 9 0 9) ∷
    (evaluates (in_form (0x28 ∷ 0x00 ∷ 0x81 ∷ 0x80 ∷ [])) 65536 9 0 gives refusal 9 0 9) ∷
    (evaluates (core_form 0x01 (0x81 ∷ 0x80 ∷ [])) 65536 9 0 gives refusal 9 0 9) ∷
    (evaluates (core_form 0x00 []) 65536 9 0 gives refusal 10 0 9) ∷
    (evaluates (core_form 0x00 (0x81 ∷ 0x81 ∷ [])) 65536 9 0 gives refusal 10 0 9) ∷
    (evaluates (core_form 0x00 (0x81 ∷ 0x80 ∷ 0x80 ∷ [])) 65536 9 0 gives refusal 10 0 9) ∷
    (evaluates version_form 65536 9 0 gives refusal 16 0 9) ∷
    -- 16 before 13, 13 before 11
    (evaluates (version_form ++ in_form (space 0x29 0x42)) 65536 9 5 gives refusal 16 7 9) ∷
    (evaluates (version_form ++ in_form (space 0x29 0x42)) 65536 9 6 gives refusal 13 7 9) ∷
    refuses (in_form (core_form 0x06 [])) 13 15 ∷
    refuses (joins (core_form 0x09 []) (0xC0 ∷ [])) 13 17 ∷
    -- 11 before 14, and before 15
    refuses (core_form 0x09 ((0x20 ∷ 0x00 ∷ []) ++ rest_form 0)) 11 14 ∷
    refuses (core_form 0x06 (0x20 ∷ 0x00 ∷ 0xC0 ∷ [])) 11 14 ∷
    refuses (core_form 0x0D []) 11 14 ∷
    -- 14 before 19, and both before define's value
    (evaluates (version_form ++ spaces 64 ++ space 0x20 0x80) 65536 9 999 gives refusal 14 518 9) ∷
    refuses (again 256 define_85 ++ core_form 0x09 (0x2A ∷ 0x01 ∷ 0x80 ∷ [])) 14 1806 ∷
    refuses (core_form 0x09 ((0x2A ∷ 0x01 ∷ []) ++ function_name)) 14 14 ∷
    refuses (again 256 define_85 ++ defines 1 function_name) 19 1806 ∷
    -- concat: 11 for what is written, then the operands, then 11 for their values
    refuses (joins function_name []) 11 14 ∷
    refuses (joins (rest_form 0) function_name) 11 14 ∷
    refuses (joins (0x81 ∷ []) function_name) 12 18 ∷
    -- depth first, left to right; the arguments before the code, and before the call's 19
    refuses (in_form (in_form ((0x00 ∷ []) ++ function_name) ++ code [])) 12 17 ∷
    refuses (in_form (code (code []) ++ function_name ++ code [])) 12 23 ∷
    refuses (chain (in_form (code [])) 31 ++ in_form (word_28 31)) 19 22 ∷
    refuses (chain (in_form (code [] ++ function_name)) 31 ++ in_form (word_28 31)) 12 27 ∷
    -- 6 before 17, the 17 of the contents before both
    (evaluates deep 4244 9 999 gives refusal 6 86 9) ∷
    (evaluates deep 4243 9 999 gives refusal 17 87 9) ∷
    -- 18 last of all
    (evaluates N 20 0 7 gives refusal 16 21 0) ∷
    (evaluates N 19 0 8 gives refusal 17 21 0) ∷
    (evaluates (N ++ function_name) 65536 0 999 gives refusal 12 23 0) ∷
    []

orders_hold : answers orders ≡ map expected orders
unfolding answers orders define_85 word_28_01 N again spaces deep
orders_hold = refl

-- The buffers afterwards, and Item

-- the table of V's rows, with one number more
version_table : List ℕ
version_table = 1 ∷ 0 ∷ 6 ∷ 4 ∷ 4 ∷ 1 ∷ 3 ∷ 2 ∷ 3 ∷ 3 ∷ 4 ∷ 3 ∷ 3 ∷ 4 ∷ 5 ∷ 4 ∷ 0xEE ∷ []

buffers : List Case
buffers =
    -- Evaluate's table holds the rows on acceptance, on 16, 17, 18, 9, 10, 12 and on evaluation's 6
    (fills version_form 17 10 6 4 gives told 0 0 6 4 version_table) ∷
    (fills version_form 17 10 6 3 gives told 16 4 0 0 version_table) ∷
    (fills version_form 17 9 6 4 gives told 17 0 0 0 version_table) ∷
    (fills version_form 17 10 5 4 gives told 18 0 0 0 version_table) ∷
    (fills (0x00 ∷ []) 5 10 6 4 gives told 9 0 0 0 (0 ∷ 0 ∷ 1 ∷ 1 ∷ 0xEE ∷ [])) ∷
    (fills (core_form 0x00 []) 9 10 6 4 gives told 10 0 0 0 (1 ∷ 0 ∷ 4 ∷ 2 ∷ 4 ∷ 1 ∷ 3 ∷ 2 ∷ 0xEE ∷ [])) ∷
    (fills (version_form ++ function_name) 20 65536 8 9
    gives told 12 6 0 0 (1 ∷ 0 ∷ 6 ∷ 4 ∷ 4 ∷ 1 ∷ 3 ∷ 2 ∷ 3 ∷ 3 ∷ 4 ∷ 3 ∷ 3 ∷ 4 ∷ 5 ∷ 4 ∷ 4 ∷ 6 ∷ 8 ∷ 5 ∷ [])) ∷
    (fills deep 400 65536 9 999 gives told 6 86 0 0 (Read deep (before 400)).table) ∷
    -- Write's on acceptance and on 18
    (rewrites (0x00 ∷ []) 5 1 gives told 0 0 1 0 (0 ∷ 0 ∷ 1 ∷ 1 ∷ 0xEE ∷ [])) ∷
    (rewrites (0x00 ∷ []) 5 0 gives told 18 0 0 0 (0 ∷ 0 ∷ 1 ∷ 1 ∷ 0xEE ∷ [])) ∷
    -- both unchanged when reading refuses
    (rewrites (0x00 ∷ 0x02 ∷ []) 8 2 gives refusal 3 1 8) ∷
    (fills (0x00 ∷ 0x02 ∷ []) 8 10 2 9 gives refusal 3 1 8) ∷
    -- the output past the length
    (evaluates version_form 10 8 4 gives told 0 0 6 4 (version_form ++ before 2)) ∷
    -- Item: the first expression and the last; none behind it; the other buffer, whatever the one holds; a buffer that can't be read
    (items N [] of_stream 0 gives item_is (part of_stream 0 6)) ∷
    (items N [] of_stream 3 gives item_is (part of_stream 21 23)) ∷
    (items N [] of_stream 4 gives item_is no_part) ∷
    (items (0x02 ∷ []) N of_result 1 gives item_is (part of_result 6 14)) ∷
    (items (N ++ (0x02 ∷ [])) N of_stream 0 gives item_is no_part) ∷
    []

buffers_hold : answers buffers ≡ map expected buffers
unfolding answers buffers define_85 word_28_01 N deep version_table
buffers_hold = refl
