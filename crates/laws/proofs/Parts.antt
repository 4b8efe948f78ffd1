-- What a queue does with the place of refusal 2, as theorems over the definitions, in the words of specs/Parts. Above each stands what was asked
-- for. Document 02, §4: "When a queue part ends in mid-expression I must know what to hold back." Assumes nothing.
use Prim.Native.Nat.{ℕ, ◌+◌, ◌*◌, ◌/◌, ◌≤◌, ◌<◌, max}
use mathlib.Core.Path.{◌≡◌, refl, sym, ap, ◌∙◌, subst}
use mathlib.Core.Logic.{◌⊎◌, inl, inr}
use mathlib.Core.List.{List, [], ◌∷◌, ◌++◌, append_assoc, append-nil, map}
use lib.ListN.{length, take, drop, length-append, take-append-drop}
use lib.Seq.{take-length, take_at, drop_at}
use native.Mathlib.Omega.{arith}
use native.Mathlib.Nat.{zero-add}
use Rattle.spec.specs.Expr.{Exprs, none, more, append, rows_all, deepest}
use Rattle.spec.specs.Reading.{tokens, right, wrong, check, lists, Row, rows_of, row_width, numbers, refused, readable, read}
use Rattle.spec.specs.Calls.{Answer, refusal, acceptance, filled, reading, Read}
use Rattle.laws.specs.Demands.{Bytes, row_numbers, meaning_of, CanRead}
use Rattle.laws.specs.Grammar.{SpellsAll}
use Rattle.laws.specs.Parts.{LongestFront, RightSoFar, passed_on, moved, InTwoParts, joined, passed, held_back, AllAnswered, PassedInOrder}
use Rattle.laws.proofs.Fits.{bytes_front, bytes_back, bytes_append, bytes_drop}
use Rattle.laws.proofs.Tokens.{tokens_few}
use Rattle.laws.proofs.Rows.{rows_few, rows_inside, shifted, numbers_joined}
use Rattle.laws.proofs.Reading.{stream_laid, read_readable, readable_read, read_refused, read_enough, meant, read_spelled}
use Rattle.laws.proofs.Parsing.{read_spells}
use Rattle.laws.proofs.Steps.{none_left}
use Rattle.laws.proofs.Items.{rows_before, spelled_rows, rows_shifted}
use Rattle.laws.proofs.Prefixes.{Parted, parted}
use Rattle.laws.proofs.Unfinished.{read_wrong, wrong_read, read_before, read_longest}
use Rattle.laws.proofs.Calls.{read_cases, filled_numbers}
use Rattle.laws.proofs.Theorems.{read_table}

-- Expressions one list behind the other

rows_append : (es fs : Exprs) → rows_all (append es fs) ≡ rows_all es + rows_all fs
unfolding append rows_all
rows_append none fs = omega arith
rows_append (more e es) fs = omega (arith, rows_append es fs)

deepest_append : (es fs : Exprs) → deepest (append es fs) ≡ max (deepest es) (deepest fs)
unfolding append deepest
deepest_append none fs = omega arith
deepest_append (more e es) fs = omega (arith, deepest_append es fs)

spells_append : (es fs : Exprs) (x y : List ℕ) → SpellsAll es x → SpellsAll fs y → SpellsAll (append es fs) (x ++ y)
unfolding append
spells_append none fs x y sp tp = rw sp tp
spells_append (more e es) fs x y sp tp =
    (sp.0, sp.1 ++ y, rw sp.2 (append_assoc sp.0 sp.1 y), sp.3, spells_append es fs sp.1 y sp.4 tp)

-- Readings

-- a stream can be read with so many rows
abbrev Reads : List ℕ → ℕ → Type 0
Reads s room = read s room ≡ readable (rows_of (tokens 0 0 s)) (meaning_of s)

-- bytes that spell some expressions, as readings
reads_spelled : (es : Exprs) (s : List ℕ) (room : ℕ) → SpellsAll es s → deepest es ≤ 64 → length s ≤ 65536 → rows_all es ≤ room → Reads s room × (es ≡ meaning_of s)
reads_spelled es s room sp h l r =
    let is = read_spelled es s room sp h l r in
    let means = (read_readable s room _ es is).means in
    (is ∙ ap (readable (rows_of (tokens 0 0 s))) means, means)

-- two streams that can be read, one behind the other
reads_joined : (x y : List ℕ) (room room' k : ℕ) → Bytes x → Bytes y → Reads x room → Reads y room' → length (x ++ y) ≤ 65536
    → rows_all (meaning_of x) + rows_all (meaning_of y) ≤ k → Reads (x ++ y) k × (meaning_of (x ++ y) ≡ append (meaning_of x) (meaning_of y))
reads_joined x y room room' k b c r q l h =
    let es = meaning_of x in
    let fs = meaning_of y in
    let m = meant x room _ es b r in
    let n = meant y room' _ fs c q in
    let sp = spells_append es fs x y (read_spells x room _ es b r) (read_spells y room' _ fs c q) in
    let whole = reads_spelled (append es fs) (x ++ y) k sp (omega (arith, deepest_append es fs, m.shallow, n.shallow)) l (omega (arith, rows_append es fs)) in
    (whole.0, sym whole.1)

-- the numbers of its rows
abbrev row_numbers_of : List ℕ → List ℕ
row_numbers_of s = numbers (rows_of (tokens 0 0 s)) (rows_of (tokens 0 0 s))

-- of two streams that can be read, one behind the other
rows_joined : (x y : List ℕ) (room : ℕ) → Bytes x → Bytes y → Reads x room → Reads y room
    → row_numbers_of (x ++ y) ≡ row_numbers_of x ++ moved (length x) (length (rows_of (tokens 0 0 x))) (row_numbers_of y)
rows_joined x y room b c r q =
    let es = meaning_of x in
    let sp = read_spells x room _ es b r in
    let own = rows_of (tokens 0 0 x) in
    let others = rows_of (tokens 0 0 y) in
    let split : rows_of (tokens 0 0 (x ++ y)) ≡ own ++ map (shifted (length x)) others =
    (simp zero-add at (rows_before es x sp 0 y))
    ∙ rw (← spelled_rows es x sp) (ap (λ (l : List Row). own ++ l) (rows_shifted (meaning_of y) y (read_spells y room _ (meaning_of y) c q) (length x))) in
    rw split (numbers_joined (length x) own others (rows_inside (length x) (read_readable x room _ _ r).well 0 (stream_laid x b)))

-- a stream is read with so many rows, and all of its bytes with it, or refused by 2 at p
abbrev AnsweredAt : List ℕ → ℕ → ℕ → Type 0
AnsweredAt s room p = ((p ≡ length s) × Reads s room) ⊎ ((p < length s) × (read s room ≡ refused 2 p))

-- a stream s to which u is added, read in two parts: the bytes x, and with u the bytes y, which are left of s
record ReadParts (s u : List ℕ) (room : ℕ) (x y : List ℕ) : Type 0 where
  is : s ≡ x ++ y
  answer : AnsweredAt s room (length x)
  front : Reads x room
  back : Reads (y ++ u) room
  means : meaning_of (s ++ u) ≡ append (meaning_of x) (meaning_of (y ++ u))
  rows : row_numbers_of (s ++ u) ≡ row_numbers_of x ++ moved (length x) (length (rows_of (tokens 0 0 x))) (row_numbers_of (y ++ u))
  counts : length (rows_of (tokens 0 0 (s ++ u))) ≡ length (rows_of (tokens 0 0 x)) + length (rows_of (tokens 0 0 (y ++ u)))

module _ (s u : List ℕ) (room : ℕ) (stream : Bytes (s ++ u)) (reads : Reads (s ++ u) room) where
  abbrev es : Exprs
  es = meaning_of (s ++ u)

  cut_up : Parted room 0 0 0 es s u
  cut_up =
      let m = meant (s ++ u) room _ es stream reads in
      parted room es (s ++ u) (read_spells (s ++ u) room _ es stream reads) s u refl 0 0 0 m.shallow (omega (arith, m.roomy))

  abbrev first_bytes : List ℕ
  first_bytes = cut_up.first

  abbrev left_bytes : List ℕ
  left_bytes = cut_up.left

  abbrev place : ℕ
  place = length first_bytes

  own_size : length s ≡ place + length left_bytes
  own_size = ap length cut_up.is ∙ length-append first_bytes left_bytes

  all_is : s ++ u ≡ first_bytes ++ (left_bytes ++ u)
  all_is = ap (λ (l : List ℕ). l ++ u) cut_up.is ∙ append_assoc first_bytes left_bytes u

  short : place + length (left_bytes ++ u) ≤ 65536
  short = omega (arith, (read_readable (s ++ u) room _ es reads).short, ap length all_is ∙ length-append first_bytes (left_bytes ++ u))

  short_front : length s ≤ 65536
  short_front = omega (arith, short, own_size, length-append left_bytes u)

  its_answer : AnsweredAt s room place
  its_answer = go cut_up.verdict
    where
      go : ((left_bytes ≡ []) × (check 0 room (tokens 0 0 s) 0 0 ≡ right)) ⊎ ((0 < length left_bytes) × (check 0 room (tokens 0 0 s) 0 0 ≡ wrong 2 (0 + place)))
          → AnsweredAt s room place
      go (inl (e, k)) = inl (omega (arith, own_size, ap length e), readable_read s room short_front k)
      go (inr (some, k)) = inr (omega (arith, own_size), wrong_read s room 2 place short_front (simp zero-add at k))

  read_parts : ReadParts s u room first_bytes left_bytes
  read_parts =
      let c = cut_up in
      let m = meant (s ++ u) room _ es stream reads in
      let bytes : Bytes (first_bytes ++ (left_bytes ++ u)) = subst Bytes all_is stream in
      let front_Bytes = bytes_front first_bytes (left_bytes ++ u) bytes in
      let back-bytes = bytes_back first_bytes (left_bytes ++ u) bytes in
      let deep = sym (deepest_append c.es_first c.es_left) ∙ ap deepest (sym c.are) in
      let few = sym (rows_append c.es_first c.es_left) ∙ ap rows_all (sym c.are) in
      let front = reads_spelled c.es_first first_bytes room c.spells_first (omega (arith, m.shallow)) (omega (arith, short)) (omega (arith, m.roomy)) in
      let back = reads_spelled c.es_left (left_bytes ++ u) room c.spells_left (omega (arith, m.shallow)) (omega (arith, short)) (omega (arith, m.roomy)) in
      let means : es ≡ append (meaning_of first_bytes) (meaning_of (left_bytes ++ u)) = c.are ∙ rw (front.1, back.1) in
      record {
        is = c.is;
        answer = its_answer;
        front = front.0;
        back = back.0;
        means = means;
        rows = rw all_is (rows_joined first_bytes (left_bytes ++ u) room front_Bytes back-bytes front.0 back.0);
        counts = omega (
          arith,
          m.counted,
          ap rows_all means ∙ rows_append (meaning_of first_bytes) (meaning_of (left_bytes ++ u)),
          (meant first_bytes room _ _ front_Bytes front.0).counted,
          (meant (left_bytes ++ u) room _ _ back-bytes back.0).counted,
        );
      }

-- Read's own answers

module _ (s t : List ℕ) where
  accepted_reads : Bytes s → (Read s t).number ≡ 0 → Reads s (length t / row_width)
  accepted_reads b =
      read_cases (λ (a : Answer). a.number ≡ 0 → Reads s (length t / row_width)) s t
      (λ v p e z. absurd (omega (arith, (read_refused s (length t / row_width) v p b e).0)))
      (λ rs es e z. let r = read_readable s (length t / row_width) rs es e in e ∙ rw (r.rows_are, r.means))

  read_unread : (w p : ℕ) → reading s t ≡ refused w p → Read s t ≡ refusal w p t []
  unfolding Read
  read_unread w p h = rw h

  refused_by : (Read s t).number ≡ 2 → reading s t ≡ refused 2 (Read s t).place
  refused_by =
      read_cases (λ (a : Answer). a.number ≡ 2 → reading s t ≡ refused 2 a.place) s t
      (λ v p e z. e ∙ ap (λ (w : ℕ). refused w p) z) (λ rs es e z. absurd (omega arith))

  module _ (reads : Reads s (length t / row_width)) where
    accepts : Read s t ≡ acceptance (length (rows_of (tokens 0 0 s))) 0 (filled (rows_of (tokens 0 0 s)) t) []
    accepts = read_table s t _ _ reads

    accepts_rows : row_numbers (Read s t) ≡ numbers (rows_of (tokens 0 0 s)) (rows_of (tokens 0 0 s))
    accepts_rows = ap row_numbers accepts ∙ filled_numbers (rows_of (tokens 0 0 s)) t

-- "if a stream is refused by 2 at p, then its first p bytes alone can be read (rows apart), and they are whole top-level expressions"; with the
-- same table, and p is the last such place

pub part_held : (s t : List ℕ) → Bytes s → (Read s t).number ≡ 2 → LongestFront s t (Read s t).place
part_held s t b two =
    let room : ℕ = length t / row_width in
    let p : ℕ = (Read s t).place in
    let e = refused_by s t two in
    let r = read_before s room p b e in
    let front : Bytes (take p s) = bytes_front (take p s) (drop p s) (subst Bytes (sym (take-append-drop p s)) b) in
    record {
      inside = r.0;
      accepted = ap (λ (a : Answer). a.number) (accepts (take p s) t r.1);
      whole = read_spells (take p s) room _ _ front r.1;
      longest = read_longest s room p b e;
    }

-- "and for every stream, if it can be read when some bytes are added, then it is refused by 2 at p alone or it can be read, and what is before p is
-- read as before (the same rows and the same meaning come first)"

module _ (s next t : List ℕ) where
  abbrev rows_there : ℕ
  rows_there = length t / row_width

  two_parts : (x y : List ℕ) → ReadParts s next rows_there x y → Reads (s ++ next) rows_there → InTwoParts s next t (length x)
  two_parts x y r reads =
      let first_is : take (length x) s ≡ x = ap (take (length x)) r.is ∙ take_at x y (length x) refl in
      let left_is : drop (length x) s ≡ y = ap (drop (length x)) r.is ∙ drop_at x y (length x) refl in
      let whole-rows = accepts_rows (s ++ next) t reads ∙ r.rows in
      record {
        front = rw first_is (ap (λ (a : Answer). a.number) (accepts x t r.front));
        back = rw left_is (ap (λ (a : Answer). a.number) (accepts (y ++ next) t r.back));
        rows = rw (first_is, left_is, accepts_rows x t r.front, accepts_rows (y ++ next) t r.back, accepts x t r.front) whole-rows;
        counts = rw (first_is, left_is, accepts (s ++ next) t reads, accepts x t r.front, accepts (y ++ next) t r.back) r.counts;
        means = rw (first_is, left_is) r.means;
      }

  pub part_continued : Bytes (s ++ next) → (Read (s ++ next) t).number ≡ 0 → RightSoFar (Read s t) × InTwoParts s next t (passed_on s (Read s t))
  part_continued b h = go (read_parts s next rows_there b (accepted_reads (s ++ next) t b h))
    where
      reads : Reads (s ++ next) rows_there
      reads = accepted_reads (s ++ next) t b h

      go : {x y : List ℕ} → ReadParts s next rows_there x y → RightSoFar (Read s t) × InTwoParts s next t (passed_on s (Read s t))
      go {x} {y} r = by_answer r.answer
        where
          by_answer : AnsweredAt s rows_there (length x) → RightSoFar (Read s t) × InTwoParts s next t (passed_on s (Read s t))
          by_answer (inl (e, k)) = rw (accepts s t k) (inl refl, rw (← e) (two_parts x y r reads))
          by_answer (inr (e, k)) = rw (read_unread s t 2 (length x) k) (inr refl, two_parts x y r reads)

-- and back: two streams that can be read make one, with bytes and rows enough

module _ (x y t : List ℕ) (b : Bytes x) (c : Bytes y) (front : (Read x t).number ≡ 0) (back : (Read y t).number ≡ 0) (short : length (x ++ y) ≤ 65536) where
  pub parts_joined : row_width * ((Read x t).given + (Read y t).given) ≤ length t
      → ((Read (x ++ y) t).number ≡ 0) × (meaning_of (x ++ y) ≡ append (meaning_of x) (meaning_of y))
      × (row_numbers (Read (x ++ y) t) ≡ row_numbers (Read x t) ++ moved (length x) (Read x t).given (row_numbers (Read y t)))
  parts_joined room =
      let rows_there : ℕ = length t / row_width in
      let r = accepted_reads x t b front in
      let q = accepted_reads y t c back in
      let given = rw (accepts x t r, accepts y t q) at room in
      let m = meant x rows_there _ _ b r in
      let n = meant y rows_there _ _ c q in
      let j = reads_joined x y rows_there rows_there rows_there b c r q short (omega (arith, given, m.counted, n.counted)) in (
        ap (λ (a : Answer). a.number) (accepts (x ++ y) t j.0),
        j.1,
        rw (accepts_rows (x ++ y) t j.0, accepts_rows x t r, accepts_rows y t q, accepts x t r) (rows_joined x y rows_there b c r q),
      )

-- "So a queue can hold back the bytes from p on and give them to the next part": in however many parts a stream that can be read is given, what is
-- passed on is its meaning, and nothing is held back at last.

-- rows apart
can_read : (s : List ℕ) (room : ℕ) → Reads s room → CanRead s
can_read s room r = read_enough s room _ _ r (length s) (omega (arith, rows_few (tokens 0 0 s), tokens_few s 0 0))

-- what is held back can't be read, unless it is nothing
abbrev NotWhole : List ℕ → Type 0
NotWhole held = CanRead held → held ≡ []

meaning_none : none ≡ meaning_of ([] ++ [])
unfolding tokens lists
meaning_none = refl

module _ (t : List ℕ) where
  still_held : (s : List ℕ) → Bytes s → RightSoFar (Read s t) → NotWhole (drop (passed_on s (Read s t)) s)
  still_held s b (inl zero) can = rw zero (none_left s (length s) (omega arith))
  still_held s b (inr two) can =
      let p : ℕ = (Read s t).place in
      let f = part_held s t b two in
      let split = take-append-drop p s in
      let bytes : Bytes (take p s ++ drop p s) = subst Bytes (sym split) b in
      let front = accepted_reads (take p s) t (bytes_front (take p s) (drop p s) bytes) f.accepted in
      let back : CanRead (drop p s) = rw two at can in
      let rows : ℕ = rows_all (meaning_of (take p s)) + rows_all (meaning_of (drop p s)) in
      let whole = reads_joined (take p s) (drop p s) _ _ rows (bytes_front (take p s) (drop p s) bytes) (bytes_back (take p s) (drop p s) bytes) front back
      (rw split (read_wrong s (length t / row_width) 2 p (λ z. omega arith) (refused_by s t two)).0) (omega arith) in
      absurd (omega (arith, f.inside, f.longest (length s) (omega arith) (rw (take-length s) (can_read s _ (rw split at whole.0)))))

  queue_from : (held : List ℕ) (xs : List (List ℕ)) → NotWhole held → Bytes (held ++ joined xs) → (Read (held ++ joined xs) t).number ≡ 0
      → (passed t held xs ≡ meaning_of (held ++ joined xs)) × (held_back t held xs ≡ [])
  unfolding joined passed held_back
  queue_from held [] some b h =
      let r = can_read (held ++ []) _ (accepted_reads (held ++ []) t b h) in
      let nothing : held ≡ [] = some (rw (append-nil held) at r) in
      (rw nothing (meaning_none), nothing)
  queue_from held (x ∷ xs) some b h =
      let s : List ℕ = held ++ x in
      let p : ℕ = passed_on s (Read s t) in
      let all : held ++ (x ++ joined xs) ≡ s ++ joined xs = sym (append_assoc held x (joined xs)) in
      let bytes : Bytes (s ++ joined xs) = rw all at b in
      let c = part_continued s (joined xs) t bytes (rw all at h) in
      let rest : Bytes (drop p s ++ joined xs) = bytes_append (drop p s) (joined xs) (bytes_drop p s (bytes_front s (joined xs) bytes)) (bytes_back s (joined xs) bytes) in
      let on = queue_from (drop p s) xs (still_held s (bytes_front s (joined xs) bytes) c.0) rest c.1.back in
      (ap (append (meaning_of (take p s))) on.0 ∙ sym c.1.means ∙ ap (λ (l : List ℕ). meaning_of l) (sym all), on.1)

  pub parts_queue : (xs : List (List ℕ)) → Bytes (joined xs) → (Read (joined xs) t).number ≡ 0 → (passed t [] xs ≡ meaning_of (joined xs)) × (held_back t [] xs ≡ [])
  parts_queue xs b h = queue_from [] xs (λ c. refl) b h

  -- and of any bytes, however many: as long as every answer is 0 or 2, what is passed on is what they spell, but for those held back

  front_spelled : (s : List ℕ) → Bytes s → RightSoFar (Read s t) → let p = passed_on s (Read s t) in SpellsAll (meaning_of (take p s)) (take p s)
  front_spelled s b (inl zero) = rw (zero, take-length s) (read_spells s (length t / row_width) _ _ b (accepted_reads s t b zero))
  front_spelled s b (inr two) = rw two (part_held s t b two).whole

  pub parts_in_order : (held : List ℕ) (xs : List (List ℕ)) → Bytes (held ++ joined xs) → AllAnswered t held xs → PassedInOrder t held xs
  unfolding joined passed held_back AllAnswered append
  parts_in_order held [] b all = record { bytes = []; is = append-nil held; spells = refl }
  parts_in_order held (x ∷ xs) b all =
      let s : List ℕ = held ++ x in
      let p : ℕ = passed_on s (Read s t) in
      let whole : held ++ (x ++ joined xs) ≡ s ++ joined xs = sym (append_assoc held x (joined xs)) in
      let bytes : Bytes (s ++ joined xs) = rw whole at b in
      let front = bytes_front s (joined xs) bytes in
      let on = parts_in_order (drop p s) xs (bytes_append (drop p s) (joined xs) (bytes_drop p s front) (bytes_back s (joined xs) bytes)) all.1 in
      record {
        bytes = take p s ++ on.bytes;
        is = whole
            ∙ ap (λ (l : List ℕ). l ++ joined xs) (sym (take-append-drop p s))
            ∙ append_assoc (take p s) (drop p s) (joined xs)
            ∙ ap (λ (l : List ℕ). take p s ++ l) on.is
            ∙ sym (append_assoc (take p s) on.bytes _);
        spells = spells_append (meaning_of (take p s)) (passed t (drop p s) xs) (take p s) on.bytes (front_spelled s front all.0) on.spells;
      }
