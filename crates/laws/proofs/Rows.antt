-- Laws of `rows_of`, for tokens that are right and laid out: how many rows there are, that they stand in the order of their starts, and
-- that each starts before it ends and ends in the stream. And laws of `next_row` and `numbers`, for any rows. Document 01: "Table". Assumes nothing.
use Prim.Native.Nat.{ℕ, zero, suc, ◌+◌, ◌-◌, ◌*◌, ◌≤◌, ◌<◌}
use mathlib.Core.Path.{◌≡◌, refl, ◌∙◌}
use mathlib.Core.List.{List, [], ◌∷◌, ◌++◌, map}
use mathlib.Core.Bool.{Bool, true, false}
use lib.ListN.{length, drop, get_or, length-drop, get_or-append}
use lib.Dec.{leb}
use borrow.Author.Tests.{leb-true, leb-false, le-leb, lt-leb, ne_eqb}
use native.Mathlib.Omega.{arith}
use Rattle.spec.specs.Expr.{Expr, atom, form, Exprs, rows, rows_all}
use Rattle.spec.specs.Reading.{Token, opening, closing, whole, unfinished, bad, right, began, check, put, wrap, lists, Row, ends, rows_of, row_width, next_row, numbers}
use Rattle.laws.specs.Sanity.{Inside, FirstFrom}
use Rattle.laws.specs.Parts.{moved}
use Rattle.laws.proofs.Basics.{by_test}
use Rattle.laws.proofs.Tokens.{Right, at_end, opens, closes, stands, Laid}

-- How many

-- the rows of all expressions of all lists
abbrev pub rows_in : List Exprs → ℕ
rows_in [] = 0
rows_in (es ∷ ls) = rows_all es + rows_in ls

put_adds : (e : Expr) (ls : List Exprs) → 1 ≤ length ls → (rows_in (put e ls) ≡ rows e + rows_in ls) × (length (put e ls) ≡ length ls)
unfolding rows_all
put_adds e [] h = absurd (omega arith)
put_adds e (es ∷ ls) h = (omega arith, refl)

wrap_adds : (ls : List Exprs) → 2 ≤ length ls → (rows_in (wrap ls) ≡ 1 + rows_in ls) × (1 + length (wrap ls) ≡ length ls)
unfolding rows
wrap_adds [] h = absurd (omega arith)
wrap_adds (es ∷ ls) h = let a = put_adds (form es) ls (omega arith) in omega arith

-- Order

-- rows that start at `lo` or after it, each after the start of the one before
abbrev pub Ordered : ℕ → List Row → Type 0
Ordered lo [] = Unit {0}
Ordered lo (r ∷ rs) = (lo ≤ r.start) × Ordered (r.start + 1) rs

ordered_from_lower : (lo hi : ℕ) (rs : List Row) → lo ≤ hi → Ordered hi rs → Ordered lo rs
ordered_from_lower lo hi [] l o = tt
ordered_from_lower lo hi (r ∷ rs) l o = (omega arith, o.1)

-- Places

-- numbers above `lo`, each above the one before, and none above `hi`
abbrev Rising : ℕ → List ℕ → ℕ → Type 0
Rising lo [] hi = lo ≤ hi
Rising lo (e ∷ es) hi = (lo < e) × Rising e es hi

rising_from_lower : (lo mid : ℕ) (es : List ℕ) (hi : ℕ) → lo ≤ mid → Rising mid es hi → Rising lo es hi
rising_from_lower lo mid [] hi l o = omega arith
rising_from_lower lo mid (e ∷ es) hi l o = (omega arith, o.1)

rising_low : (lo : ℕ) (es : List ℕ) (hi : ℕ) → Rising lo es hi → lo ≤ hi
rising_low lo [] hi o = o
rising_low lo (e ∷ es) hi o = let z = rising_low e es hi o.1 in omega arith

rising_first : (lo : ℕ) (es : List ℕ) (hi : ℕ) → 0 < length es → Rising lo es hi → (lo < get_or es 0 0) × (get_or es 0 0 ≤ hi)
rising_first lo [] hi h o = absurd (omega arith)
rising_first lo (e ∷ es) hi h o = (o.0, rising_low e es hi o.1)

rising_but_first : (lo : ℕ) (es : List ℕ) (hi : ℕ) → Rising lo es hi → Rising lo (drop 1 es) hi
rising_but_first lo [] hi o = o
rising_but_first lo (e ∷ es) hi o = rising_from_lower lo e es hi (omega arith) o.1

pub rows_few : (ts : List Token) → length (rows_of ts) ≤ length ts
unfolding rows_of
rows_few [] = omega arith
rows_few (opening p ∷ ts) = omega (arith, rows_few ts)
rows_few (closing p ∷ ts) = omega (arith, rows_few ts)
rows_few (whole x p e ∷ ts) = omega (arith, rows_few ts)
rows_few (unfinished p ∷ ts) = omega (arith, rows_few ts)
rows_few (bad w p ∷ ts) = omega (arith, rows_few ts)

pub rows_count : {room : ℕ} {ts : List Token} {d n : ℕ} → Right room ts d n
    → (length (rows_of ts) ≡ rows_in (lists ts)) × (length (lists ts) ≡ d + 1)
unfolding rows_of lists rows rows_all
rows_count at_end = omega arith
rows_count (opens {ts} h k c) = let a = rows_count c in let b = wrap_adds (lists ts) (omega arith) in omega arith
rows_count (closes c) = let a = rows_count c in omega arith
rows_count (stands {ts} {a} h c) = let k = rows_count c in let b = put_adds (atom a) (lists ts) (omega arith) in omega arith

pub rows_room : {room : ℕ} {ts : List Token} {d n : ℕ} → Right room ts d n → n ≤ room → n + length (rows_of ts) ≤ room
unfolding rows_of
rows_room at_end h = omega arith
rows_room (opens l k c) h = omega (arith, rows_room c (omega arith))
rows_room (closes c) h = rows_room c h
rows_room (stands k c) h = omega (arith, rows_room c (omega arith))

-- with as many rows as there are, more or fewer make no difference
pub right_room : {room : ℕ} {ts : List Token} {d n : ℕ} → Right room ts d n → (from room' : ℕ) → n + length (rows_of ts) ≤ room'
    → check from room' ts d n ≡ right
unfolding check rows_of
right_room at_end from room' h = refl
right_room (opens {q = q} {d = d} {n} l k c) from room' h =
    rw (lt-leb 64 d l, lt-leb room' n (omega arith)) (right_room c (began d from q) room' (omega arith))
right_room (closes {d = d} c) from room' h =
    let back : suc d - 1 ≡ d = omega arith in rw (ne_eqb (suc d) 0 (λ e. omega arith), back) (right_room c from room' h)
right_room (stands {n = n} k c) from room' h = rw (lt-leb room' n (omega arith)) (right_room c from room' (omega arith))

module _ {room : ℕ} (end : ℕ) where
  pub rows_ordered : {ts : List Token} {d n : ℕ} → Right room ts d n → (p : ℕ) → Laid p ts end → Ordered p (rows_of ts)
  unfolding rows_of
  rows_ordered at_end p l = tt
  rows_ordered (opens {q = q} h k c) p l = (l.0, rows_ordered c (q + 1) l.1)
  rows_ordered (closes {ts} {q} c) p l = ordered_from_lower p (q + 1) (rows_of ts) (omega arith) (rows_ordered c (q + 1) l.1)
  rows_ordered (stands {ts} {q = q} {e} k c) p l = (l.0, ordered_from_lower (q + 1) e (rows_of ts) (omega arith) (rows_ordered c e l.4))

  -- each open form has its end
  ends_rising : {ts : List Token} {d n : ℕ} → Right room ts d n → (p : ℕ) → Laid p ts end → (length (ends ts) ≡ d) × Rising p (ends ts) end
  unfolding ends
  ends_rising at_end p l = (refl, l)
  ends_rising (opens {ts} {q} h k c) p l =
      let a = ends_rising c (q + 1) l.1 in
      (simp length-drop (omega arith), rising_from_lower p (q + 1) (drop 1 (ends ts)) end (omega arith) (rising_but_first (q + 1) (ends ts) end a.1))
  ends_rising (closes {q = q} c) p l = let a = ends_rising c (q + 1) l.1 in (omega arith, (omega arith, a.1))
  ends_rising (stands {ts} {e = e} k c) p l = let a = ends_rising c e l.4 in (a.0, rising_from_lower p e (ends ts) end (omega arith) a.1)

  pub rows_inside : {ts : List Token} {d n : ℕ} → Right room ts d n → (p : ℕ) → Laid p ts end → Inside end (rows_of ts)
  unfolding rows_of
  rows_inside at_end p l = tt
  rows_inside (opens {ts} {q} h k c) p l =
      let a = ends_rising c (q + 1) l.1 in
      let b = rising_first (q + 1) (ends ts) end (omega arith) a.1 in
      (omega arith, b.1, rows_inside c (q + 1) l.1)
  rows_inside (closes {q = q} c) p l = rows_inside c (q + 1) l.1
  rows_inside (stands {ts} {e = e} k c) p l = (l.1, rising_low e (ends ts) end (ends_rising c e l.4).1, rows_inside c e l.4)

-- a row behind all others that start no earlier is the first of them
pub next_row_here : (e : ℕ) (rs : List Row) → Ordered e rs → next_row e rs ≡ 0
unfolding next_row
next_row_here e [] o = refl
next_row_here e (r ∷ rs) o = rw (le-leb e r.start o.0)

-- Rows behind others

-- a row as it is behind p bytes
abbrev pub shifted : ℕ → Row → Row
shifted p r = record { kind = r.kind; start = p + r.start; end = p + r.end }

leb_shifted : (p a b : ℕ) → leb (p + a) (p + b) ≡ leb a b
leb_shifted p a b = go (leb a b) refl
  where
    go : (c : Bool) → leb a b ≡ c → leb (p + a) (p + b) ≡ leb a b
    go true e = rw e (le-leb (p + a) (p + b) (omega (arith, leb-true a b e)))
    go false e = rw e (lt-leb (p + a) (p + b) (omega (arith, leb-false a b e)))

next_row_shifted : (p e : ℕ) (qs : List Row) → next_row (p + e) (map (shifted p) qs) ≡ next_row e qs
unfolding next_row
next_row_shifted p e [] = refl
next_row_shifted p e (r ∷ qs) = rw (leb_shifted p e r.start, next_row_shifted p e qs)

-- rows of the first p bytes, and the others
module _ (p : ℕ) (qs : List Row) where
  next_row_before : (x : ℕ) (rs : List Row) → x ≤ p → next_row x (rs ++ map (shifted p) qs) ≡ next_row x rs
  unfolding next_row
  next_row_before x [] h = go qs
    where
      go : (qs : List Row) → next_row x (map (shifted p) qs) ≡ 0
      go [] = refl
      go (r ∷ qs) = rw (le-leb x (p + r.start) (omega arith))
  next_row_before x (r ∷ rs) h = rw (next_row_before x rs h)

  next_row_behind : (e : ℕ) (rs : List Row) → Inside p rs → next_row (p + e) (rs ++ map (shifted p) qs) ≡ length rs + next_row e qs
  unfolding next_row
  next_row_behind e [] i = next_row_shifted p e qs ∙ omega arith
  next_row_behind e (r ∷ rs) i = rw (lt-leb (p + e) r.start (omega (arith, i.0, i.1))) (omega (arith, next_row_behind e rs i.2))

  numbers_before : (all rs : List Row) → Inside p rs → numbers (all ++ map (shifted p) qs) rs ≡ numbers all rs
  unfolding numbers
  numbers_before all [] i = refl
  numbers_before all (r ∷ rs) i = rw (next_row_before r.end all i.1, numbers_before all rs i.2)

  numbers_behind : (all rs : List Row) → Inside p all → numbers (all ++ map (shifted p) qs) (map (shifted p) rs) ≡ moved p (length all) (numbers qs rs)
  unfolding numbers moved
  numbers_behind all [] i = refl
  numbers_behind all (r ∷ rs) i = rw (next_row_behind r.end all i, numbers_behind all rs i)

numbers_append : (all rs qs : List Row) → numbers all (rs ++ qs) ≡ numbers all rs ++ numbers all qs
unfolding numbers
numbers_append all [] qs = refl
numbers_append all (r ∷ rs) qs = rw (numbers_append all rs qs)

-- the numbers of both
pub numbers_joined : (p : ℕ) (rs qs : List Row) → Inside p rs
    → let all = rs ++ map (shifted p) qs in numbers all all ≡ numbers rs rs ++ moved p (length rs) (numbers qs qs)
numbers_joined p rs qs i = numbers_append (rs ++ map (shifted p) qs) rs (map (shifted p) qs) ∙ rw (numbers_before p qs rs rs i, numbers_behind p qs rs qs i)

-- Rows by their numbers; `other` is the row that `get_or` gives past the last

-- the four numbers of a row
abbrev pub four : List Row → Row → List ℕ
four all r = r.kind ∷ r.start ∷ r.end ∷ next_row r.end all ∷ []

module _ (other : Row) where
  starts_from : (lo : ℕ) (rs : List Row) → Ordered lo rs → (i : ℕ) → i < length rs → lo ≤ (get_or rs i other).start
  starts_from lo [] o i h = absurd (omega arith)
  starts_from lo (r ∷ rs) o zero h = o.0
  starts_from lo (r ∷ rs) o (suc i) h = let z = starts_from (r.start + 1) rs o.1 i (omega arith) in omega arith

  pub ordered_starts : (lo : ℕ) (rs : List Row) → Ordered lo rs → (i j : ℕ) → i < j → j < length rs → (get_or rs i other).start < (get_or rs j other).start
  ordered_starts lo [] o i j h k = absurd (omega arith)
  ordered_starts lo (r ∷ rs) o i zero h k = absurd (omega arith)
  ordered_starts lo (r ∷ rs) o zero (suc j) h k = let z = starts_from (r.start + 1) rs o.1 j (omega arith) in omega arith
  ordered_starts lo (r ∷ rs) o (suc i) (suc j) h k = ordered_starts (r.start + 1) rs o.1 i j (omega arith) (omega arith)

  pub inside_start : (end : ℕ) (rs : List Row) → Inside end rs → other.start ≤ end → (i : ℕ) → (get_or rs i other).start ≤ end
  inside_start end [] o h i = h
  inside_start end (r ∷ rs) o h zero = omega arith
  inside_start end (r ∷ rs) o h (suc i) = inside_start end rs o.2 h i

  -- the first row is row 0, or row k + 1 if it is row k of the rows behind
  first_zero : (e : ℕ) (rs : List Row) → (0 < length rs → e ≤ (get_or rs 0 other).start) → FirstFrom e rs other 0
  first_zero e rs h = record { before = λ i l. absurd (omega arith); among = omega arith; from = h }

  first_behind : (e : ℕ) (r : Row) (rs : List Row) (k : ℕ) → r.start < e → FirstFrom e rs other k → FirstFrom e (r ∷ rs) other (suc k)
  first_behind e r rs k h f = record { before = before_too; among = omega arith; from = λ l. f.from (omega arith) }
    where
      before_too : (i : ℕ) → i < suc k → (get_or (r ∷ rs) i other).start < e
      before_too zero l = h
      before_too (suc i) l = f.before i (omega arith)

  pub next_row_first : (e : ℕ) (rs : List Row) → FirstFrom e rs other (next_row e rs)
  unfolding next_row
  next_row_first e [] = first_zero e [] (λ l. absurd (omega arith))
  next_row_first e (r ∷ rs) =
      let k : ℕ = next_row e rs in
      let one_more : 1 + k ≡ suc k = omega arith in
      by_test (FirstFrom e (r ∷ rs) other) (leb e r.start) (λ t. first_zero e (r ∷ rs) (λ l. leb-true e r.start t))
      (λ t. rw one_more (first_behind e r rs k (leb-false e r.start t) (next_row_first e rs)))

  -- number j of row i
  pub numbers_at : (all rs : List Row) (i j : ℕ) → i < length rs → j < row_width → get_or (numbers all rs) (row_width * i + j) 0 ≡ get_or (four all (get_or rs i other)) j 0
  unfolding numbers
  numbers_at all [] i j h k = absurd (omega arith)
  numbers_at all (r ∷ rs) zero j h k =
      let place : row_width * 0 + j ≡ j = omega arith in rw place (get_or-append (four all r) (numbers all rs) 0 j k)
  numbers_at all (r ∷ rs) (suc i) j h k =
      let place : row_width * suc i + j ≡ suc (suc (suc (suc (row_width * i + j)))) = omega arith in rw place (numbers_at all rs i j (omega arith) k)

  pub numbers_fourth : (all rs : List Row) (i : ℕ) → i < length rs → get_or (numbers all rs) (row_width * i + 3) 0 ≡ next_row (get_or rs i other).end all
  numbers_fourth all rs i h = numbers_at all rs i 3 h (omega arith)

pub numbers_length : (all rs : List Row) → length (numbers all rs) ≡ row_width * length rs
unfolding numbers
numbers_length all [] = refl
numbers_length all (r ∷ rs) = let z = numbers_length all rs in omega arith
