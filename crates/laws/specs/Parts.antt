-- Document 02, §4, "I must know what to hold back": the words in which it is stated what a queue may pass on of the bytes that it has, what it
-- holds back, and what is read in the end. Assumes nothing.
use Rattle.std.specs.Prelude.{ℕ, ◌+◌, ◌≤◌, ◌<◌, ◌≡◌, ◌⊎◌, List, [], ◌∷◌, ◌++◌, length, take, drop, eqb}
use Rattle.spec.specs.Expr.{when◌then◌else◌, Exprs, none, append}
use Rattle.spec.specs.Calls.{Answer, Read}
use Rattle.laws.specs.Demands.{row_numbers, meaning_of, CanRead}
use Rattle.laws.specs.Grammar.{SpellsAll}

-- The first p bytes of a stream can be read, with that table, and are whole top-level expressions; of more of its bytes this is not so, with
-- any table.
pub record LongestFront (s table : List ℕ) (p : ℕ) : Type 0 where
  pub inside : p < length s
  pub accepted : (Read (take p s) table).number ≡ 0
  pub whole : SpellsAll (meaning_of (take p s)) (take p s)
  pub longest : (k : ℕ) → k ≤ length s → CanRead (take k s) → k ≤ p

-- an answer to a stream that is right so far: it can be read, or is not finished
abbrev pub RightSoFar : Answer → Type 0
RightSoFar a = (a.number ≡ 0) ⊎ (a.number ≡ 2)

-- how many bytes of the stream may be passed on after such an answer: all of them, or those before the place
abbrev pub passed_on : List ℕ → Answer → ℕ
passed_on s a = when eqb a.number 0 then length s else a.place

-- the numbers of rows as they are behind p bytes and k rows: places are counted from the first byte of all, and rows from the first of all
unfoldable pub moved : ℕ → ℕ → List ℕ → List ℕ
moved p k [] = []
moved p k (kind ∷ []) = []
moved p k (kind ∷ start ∷ []) = []
moved p k (kind ∷ start ∷ end ∷ []) = []
moved p k (kind ∷ start ∷ end ∷ next ∷ ns) = kind ∷ (p + start) ∷ (p + end) ∷ (k + next) ∷ moved p k ns

-- A stream and the bytes that follow it, read in two parts: its first p bytes; and the others, which were held back, with those that follow.
-- Both can be read, and the rows and the meaning of the whole are those of the first, and then those of the second.
pub record InTwoParts (s next table : List ℕ) (p : ℕ) : Type 0 where
  pub front : (Read (take p s) table).number ≡ 0
  pub back : (Read (drop p s ++ next) table).number ≡ 0
  pub rows : row_numbers (Read (s ++ next) table)
      ≡ row_numbers (Read (take p s) table) ++ moved p (Read (take p s) table).given (row_numbers (Read (drop p s ++ next) table))
  pub counts : (Read (s ++ next) table).given ≡ (Read (take p s) table).given + (Read (drop p s ++ next) table).given
  pub means : meaning_of (s ++ next) ≡ append (meaning_of (take p s)) (meaning_of (drop p s ++ next))

-- A queue's parts in turn: each is read behind what was held back of those before it, and what may be passed on is.

-- all their bytes
unfoldable pub joined : List (List ℕ) → List ℕ
joined [] = []
joined (x ∷ xs) = x ++ joined xs

-- what is passed on, all in all
unfoldable pub passed : List ℕ → List ℕ → List (List ℕ) → Exprs
passed table held [] = none
passed table held (x ∷ xs) =
    let s : List ℕ = held ++ x in
    let p : ℕ = passed_on s (Read s table) in
    append (meaning_of (take p s)) (passed table (drop p s) xs)

-- what is held back at last
unfoldable pub held_back : List ℕ → List ℕ → List (List ℕ) → List ℕ
held_back table held [] = held
held_back table held (x ∷ xs) =
    let s : List ℕ = held ++ x in
    held_back table (drop (passed_on s (Read s table)) s) xs

-- every answer is 0 or 2
unfoldable pub AllAnswered : List ℕ → List ℕ → List (List ℕ) → Type 0
AllAnswered table held [] = Unit {0}
AllAnswered table held (x ∷ xs) =
    let s : List ℕ = held ++ x in
    let a : Answer = Read s table in
    RightSoFar a × AllAnswered table (drop (passed_on s a) s) xs

-- the bytes of the parts are those that spell what was passed on, and then what is held back
pub record PassedInOrder (table held : List ℕ) (xs : List (List ℕ)) : Type 0 where
  pub bytes : List ℕ
  pub is : held ++ joined xs ≡ bytes ++ held_back table held xs
  pub spells : SpellsAll (passed table held xs) bytes
