-- What this crate's functions answer and leave in the table, as `Reading` and `Calls` of the crate `spec` define it.
-- Document 01: "Table", "Item". Assumes nothing.
use Rattle.std.specs.Prelude.{ℕ, ◌+◌, ◌*◌, ◌≡◌, List, length, set, drop, Result, Ok, Err, Option, Some, None}
use Rattle.spec.specs.Expr.{canonical}
use Rattle.spec.specs.Reading.{tokens, right, check, Reading, refused, readable, row_width}
use Rattle.spec.specs.Calls.{Buffer, Part, part, no_part}
use Rattle.reader.specs.declared.Counts.{Counts}
use Rattle.reader.specs.declared.Part.{Part as Place}

-- what is counted of a stream that can be read, or its refusal's number and place
abbrev pub checked : Reading → Result Counts (ℕ × ℕ)
checked (refused w p) = Err (w, p)
checked (readable rs es) = Ok (record { rows = length rs; length = length (canonical es) })

-- a table after the first two numbers of a row are written, and after the last two are
abbrev pub row_started : List ℕ → ℕ → ℕ → ℕ → List ℕ
row_started t r kind start = set (set t (row_width * r) kind) (row_width * r + 1) start

abbrev pub row_ended : List ℕ → ℕ → ℕ → ℕ → List ℕ
row_ended t r end next = set (set t (row_width * r + 2) end) (row_width * r + 3) next

-- d forms are open at place p of a stream, and what follows is right
abbrev pub RightFrom : List ℕ → ℕ → ℕ → Type 0
RightFrom s p d = (from : ℕ) × (n : ℕ) × (check from (length s) (tokens p 0 (drop p s)) d n ≡ right)

-- what was found, as a part of the buffer that was asked for
abbrev pub found_part : Buffer → Option Place → Part
found_part b (Some p) = part b p.start p.end
found_part b None = no_part
