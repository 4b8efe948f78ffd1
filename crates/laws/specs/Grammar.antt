-- Document 01, "Bytes to expressions", once more: which bytes spell which expressions, as a grammar. `read` of the crate `spec` is a parser;
-- that it is the parser of this grammar is a theorem. Assumes nothing.
use Rattle.std.specs.Prelude.{ℕ, suc, ◌+◌, ◌≤◌, ◌<◌, ◌≡◌, List, [], ◌∷◌, ◌++◌, length}
use Rattle.spec.specs.Expr.{Atom, nil, array, int, ref, Expr, atom, form, Exprs, none, more, only, first, without, rows_all, deepest, marker_bytes}
use Rattle.spec.specs.Reading.{natural, Row, atom_kind, Reading, read}
use Rattle.spec.specs.Calls.{Buffer, Part, part, chosen}

-- the bytes s are a length expression whose number is n, with at most k bytes 03 in a row
pub data SpellsLength : ℕ → ℕ → List ℕ → Type 0 where
  as_int : {k n : ℕ} {s : List ℕ} → n < 64 → s ≡ (0x80 + n) ∷ [] → SpellsLength k n s
  as_small : {k n : ℕ} {s : List ℕ} (ds : List ℕ) → length ds < 64 → n ≡ natural 0 ds → s ≡ (0xC0 + length ds) ∷ ds → SpellsLength k n s
  as_generic : {k n : ℕ} {s : List ℕ} (ds x : List ℕ) → SpellsLength k (length ds) x → n ≡ natural 0 ds → s ≡ 0x03 ∷ (x ++ ds)
      → SpellsLength (suc k) n s

-- the bytes s are an array of the bytes bs: "over 8 bytes 03 in a row" are too many, with its own
pub data SpellsArray (bs s : List ℕ) : Type 0 where
  small : length bs < 64 → s ≡ (0xC0 + length bs) ∷ bs → SpellsArray bs s
  generic : (x : List ℕ) → SpellsLength 7 (length bs) x → s ≡ 0x03 ∷ (x ++ bs) → SpellsArray bs s

-- an atom; a reference has only one way of writing
abbrev pub SpellsAtom : Atom → List ℕ → Type 0
SpellsAtom nil s = s ≡ 0x00 ∷ []
SpellsAtom (array bs) s = SpellsArray bs s
SpellsAtom (int v) s = (v < 64) × (s ≡ (0x80 + v) ∷ [])
SpellsAtom (ref m n) s = (16 ≤ m) × (m ≤ 65535) × (s ≡ marker_bytes m ++ (n ∷ []))

-- "01 .. 02", "form: the expressions between"
abbrev mutual
  pub Spells : Expr → List ℕ → Type 0
  Spells (atom a) s = SpellsAtom a s
  Spells (form es) s = (x : List ℕ) × (s ≡ 0x01 ∷ (x ++ (0x02 ∷ []))) × SpellsAll es x

  pub SpellsAll : Exprs → List ℕ → Type 0
  SpellsAll none s = s ≡ []
  SpellsAll (more e es) s = (x : List ℕ) × (y : List ℕ) × (s ≡ x ++ y) × Spells e x × SpellsAll es y

-- the rows of spelled expressions, from place p on: kind, first byte, one past the last
unfoldable mutual
  pub expr_rows : (e : Expr) (s : List ℕ) → Spells e s → ℕ → List Row
  expr_rows (atom a) s sp p = record { kind = atom_kind a; start = p; end = p + length s } ∷ []
  expr_rows (form es) s sp p = record { kind = 1; start = p; end = p + length s } ∷ all_rows es sp.0 sp.2 (p + 1)

  pub all_rows : (es : Exprs) (s : List ℕ) → SpellsAll es s → ℕ → List Row
  all_rows none s sp p = []
  all_rows (more e es) s sp p = expr_rows e sp.0 sp.3 p ++ all_rows es sp.1 sp.4 (p + length sp.0)

-- what makes a stream readable with so many rows, as some expressions
pub record WellFormed (s : List ℕ) (room : ℕ) (es : Exprs) : Type 0 where
  pub spells : SpellsAll es s
  pub shallow : deepest es ≤ 64
  pub short : length s ≤ 65536
  pub roomy : rows_all es ≤ room

-- the bytes x stand in s between two places
pub record Piece (s : List ℕ) (from to : ℕ) (x : List ℕ) : Type 0 where
  pub before : List ℕ
  pub behind : List ℕ
  pub is : s ≡ before ++ (x ++ behind)
  pub start : length before ≡ from
  pub end : from + length x ≡ to

-- the buffer that is asked for, read
abbrev pub item_reading : List ℕ → List ℕ → Buffer → Reading
item_reading stream result b = read (chosen b stream result) (length (chosen b stream result))

-- "Gives back top-level expression k, counted from 0, as the part itself": the part of a buffer s that spells expression k of es
pub record SpellsItem (b : Buffer) (s : List ℕ) (es : Exprs) (k : ℕ) (it : Part) : Type 0 where
  pub expr : Expr
  pub asked : first 1 (without k es) ≡ only expr
  pub from : ℕ
  pub to : ℕ
  pub is : it ≡ part b from to
  pub bytes : List ℕ
  pub piece : Piece s from to bytes
  pub spells : Spells expr bytes
