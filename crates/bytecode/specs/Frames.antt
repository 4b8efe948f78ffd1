-- What is left to do of the lists of a stream while its bytecode forms are transformed, those outside first. Document 02, §1. Assumes nothing.
use Rattle.std.specs.Prelude.{ℕ, ◌≤◌, ◌<◌, ◌≡◌, List, [], Bool, true, false}
use Rattle.spec.specs.Nodes.{Nodes}
use Rattle.spec.specs.Bytecode.{Operator, Around, short, Part, transformed_all, gathered, linked, parts_of}
use Rattle.rows.specs.Rows.{kind, mark, WrittenAll, Unmarked, NodesAt}
use Rattle.bytecode.specs.Gathered.{GatheredAt, Measured}

-- a list that is flat has operators
pub data Mode : Type 0 where
  plain : Mode
  flat : List Operator → Mode

abbrev pub is_flat : Mode → Bool
is_flat plain = false
is_flat (flat os) = true

abbrev pub operators_in : Mode → List Operator
operators_in plain = []
operators_in (flat os) = os

-- the expressions of a list, written or made
abbrev pub expressions : Mode → Nodes → List Part
expressions plain es = parts_of es
expressions (flat os) es = gathered os 0 (linked (parts_of es))

-- What is left of a list: its elements as they are written from a row on up to another, where these `prefix*` forms are around, the nearest
-- with the arity list at a row; 0 for none.
pub record Frame : Type 0 where
  pub first : ℕ
  pub end : ℕ
  pub elements : Nodes
  pub mode : Mode
  pub around : Around
  pub list : ℕ

-- what is asked of the table in the end
pub record Goal (s t : List ℕ) (f : Frame) : Type 0 where
  pub unmarked : is_flat f.mode ≡ false → Unmarked t f.first f.elements
  pub nodes : NodesAt s t (is_flat f.mode) f.first f.end (transformed_all f.around (expressions f.mode f.elements))

-- what holds of the table before
pub record Holds (s t : List ℕ) (f : Frame) : Type 0 where
  pub written : WrittenAll s t f.first f.end f.elements
  pub operators : GatheredAt t (operators_in f.mode) 0 f.first f.elements
  pub enough : short (operators_in f.mode) 0 f.elements ≡ false
  pub unmarked : (r : ℕ) → f.first ≤ r → r < f.end → kind t r ≡ 4 → mark t r ≡ 0
  pub measured : Measured s t f.first f.end

-- a list that goes on at a row with these elements
abbrev pub going_on : Frame → ℕ → Nodes → Frame
going_on f r es = record { first = r; end = f.end; elements = es; mode = f.mode; around = f.around; list = f.list }

-- the elements of a form in it that is no bytecode, or of a made one those behind its head
abbrev pub inside : Frame → ℕ → ℕ → Nodes → Frame
inside f r end es = record { first = r; end = end; elements = es; mode = plain; around = f.around; list = f.list }
