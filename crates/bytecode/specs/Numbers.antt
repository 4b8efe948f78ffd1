-- How a table changes while numbers besides are put in it: its rows stay. Assumes nothing.
use Rattle.std.specs.Prelude.{ℕ, ◌/◌, ◌≤◌, ◌<◌, ◌≡◌, List, length}
use Rattle.rows.specs.Rows.{cell, kind, start, mark, link}

-- A row has two children, above the lower halves of its first two numbers; the first stands in the link's place.
abbrev pub child : List ℕ → ℕ → ℕ → ℕ
child t b r = cell t r b / 65536

-- the row itself, without the numbers besides
pub record SameRow (t t' : List ℕ) (r : ℕ) : Type 0 where
  pub same_kind : kind t' r ≡ kind t r
  pub same_start : start t' r ≡ start t r
  pub same_end : cell t' r 2 ≡ cell t r 2
  pub same_next : cell t' r 3 ≡ cell t r 3

-- the numbers besides too
pub record Same (t t' : List ℕ) (r : ℕ) : Type 0 where
  pub first : cell t' r 0 ≡ cell t r 0
  pub second : cell t' r 1 ≡ cell t r 1

-- only numbers besides, at rows from one up to another
pub record Changed (t t' : List ℕ) (from to : ℕ) : Type 0 where
  pub same_length : length t' ≡ length t
  pub same_rows : (r : ℕ) → SameRow t t' r
  pub before : (r : ℕ) → r < from → Same t t' r
  pub behind : (r : ℕ) → to ≤ r → Same t t' r

-- A reference in an arity list has a mark of 63 or more, no other reference has.
abbrev pub Unlisted : List ℕ → ℕ → Type 0
Unlisted t r = kind t r ≡ 4 → mark t r < 63

-- the same where references in arity lists before are changed too; row 0 has a tree of these
pub record Aside (t t' : List ℕ) (from to : ℕ) : Type 0 where
  pub same_length : length t' ≡ length t
  pub same_rows : (r : ℕ) → SameRow t t' r
  pub before : (r : ℕ) → r < from → Unlisted t r → (mark t' r ≡ mark t r) × (link t' r ≡ link t r)
  pub behind : (r : ℕ) → to ≤ r → Same t t' r

-- no links, nor children, at rows from one up to another
abbrev pub Unlinked : List ℕ → ℕ → ℕ → Type 0
Unlinked t from to = (r : ℕ) → from ≤ r → r < to → (link t r ≡ 0) × (child t 1 r ≡ 0)
