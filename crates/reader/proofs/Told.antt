-- What the first pass told of a stream, and that the stream was read once the second has followed. Document 01: "Read". Assumes nothing.
use Prim.Native.Nat.{ℕ, ◌*◌, ◌/◌, ◌≤◌}
use mathlib.Core.Path.{◌≡◌, refl, ap, ◌∙◌}
use mathlib.Core.List.{List}
use native.Mathlib.Omega.{arith}
use lib.ListN.{length, get_or}
use Rattle.std.proofs.Common.{Fits, w8}
use Rattle.std.specs.Prelude.{Result, Ok, Err}
use Rattle.spec.specs.Expr.{Exprs, canonical}
use Rattle.spec.specs.Reading.{row_width, tokens, rows_of, Reading, refused, readable, read}
use Rattle.spec.specs.Calls.{filled}
use Rattle.laws.specs.Demands.{meaning_of, CanRead}
use Rattle.laws.proofs.Reading.{read_readable, read_refused, read_enough}
use Rattle.laws.proofs.Tokens.{tokens_few}
use Rattle.laws.proofs.Rows.{rows_few, rows_room}
use Rattle.laws.proofs.Steps.{all_bytes}
use Rattle.atoms.specs.Refusals.{told}
use Rattle.atoms.specs.declared.refusal.Refusal.{Refusal}
use Rattle.reader.specs.Passes.{checked}
use Rattle.reader.specs.declared.Counts.{Counts}

-- a stream that can be read, with its rows and its canonical length counted
pub record ToldRight (s : List ℕ) (room rows size : ℕ) : Type 0 where
  pub can : CanRead s
  pub is : read s room ≡ readable (rows_of (tokens 0 0 s)) (meaning_of s)
  pub counted : rows ≡ length (rows_of (tokens 0 0 s))
  pub fits : rows ≤ room
  pub sized : size ≡ length (canonical (meaning_of s))

-- of the counts, or of a refusal's number and place
abbrev pub Told : List ℕ → ℕ → Result Counts (ℕ × ℕ) → Type 0
Told s room (Ok v) = ToldRight s room v.rows v.length
Told s room (Err r) = (read s room ≡ refused r.0 r.1) × (1 ≤ r.0)

pub check_told : (s : List ℕ) (room : ℕ) (v : Result Counts Refusal) → ((i : ℕ) → Fits w8 (get_or s i 0)) → told v ≡ checked (read s room)
    → Told s room (told v)
check_told s room v bytes e = rw e (go (read s room) refl)
  where
    go : (x : Reading) → read s room ≡ x → Told s room (checked x)
    go (refused w p) h = (h, (read_refused s room w p (all_bytes s (λ i. (bytes i).fits)) h).0)
    go (readable rs es) h =
        let r = read_readable s room rs es h in
        let count : length rs ≡ length (rows_of (tokens 0 0 s)) = ap length r.rows_are in
        let few : length rs ≤ length s = omega (arith, rows_few (tokens 0 0 s), tokens_few s 0 0) in
        let as_told : readable rs es ≡ readable (rows_of (tokens 0 0 s)) (meaning_of s) = rw (r.rows_are, r.means) in
        record {
          can = read_enough s room rs es h (length s) few ∙ as_told;
          is = h ∙ as_told;
          counted = count;
          fits = omega (arith, rows_room r.well (omega arith));
          sized = ap (λ (x : Exprs). length (canonical x)) r.means;
        }

-- a stream was read: the first pass told so, and the rows stand in the table
pub record WasRead (s table table' : List ℕ) (rows size : ℕ) : Type 0 where
  pub right : ToldRight s (length table / row_width) rows size
  pub filled_in : table' ≡ filled (rows_of (tokens 0 0 s)) table

-- if the first pass told so, the second may follow, and leaves it so
module _ {s : List ℕ} (table : List ℕ) {rows size : ℕ} (right : ToldRight s (length table / row_width) rows size) where
  pub can_fill : CanRead s × (row_width * length (rows_of (tokens 0 0 s)) ≤ length table)
  can_fill = (right.can, omega (arith, right.counted, right.fits))

  pub was_read : {table' : List ℕ} → table' ≡ filled (rows_of (tokens 0 0 s)) table → WasRead s table table' rows size
  was_read is = record { right = right; filled_in = is }
