-- What the code asks of each of two values that it joins: whether it is an array, and where its bytes are.
-- Document 01: "both evaluated, both arrays; their bytes joined". Assumes nothing.
use Rattle.std.specs.Prelude.{ℕ, List, length, ltb, Result, Ok, Err, Option, Some, None}
use Rattle.spec.specs.Expr.{when◌then◌else◌}
use Rattle.atoms.specs.Tokens.{token_at, shown}
use Rattle.atoms.specs.declared.Kind.TheVariants.{Nil, Form, Array, Int, Reference}
use Rattle.atoms.specs.declared.Token.{Token}
use Rattle.atoms.specs.declared.Token.TheVariants.{Opening, Closing, Atom, Unfinished}
use Rattle.std.specs.declared.ops.Range.{Range}

-- the array that a token is
abbrev pub array_of : Result Token (ℕ × ℕ) → Option (Range ℕ)
array_of (Ok Opening) = None
array_of (Ok Closing) = None
array_of (Ok (Atom Array body end)) = Some (record { start = body; end = end })
array_of (Ok (Atom Nil body end)) = None
array_of (Ok (Atom Form body end)) = None
array_of (Ok (Atom Int body end)) = None
array_of (Ok (Atom Reference body end)) = None
array_of (Ok Unfinished) = None
array_of (Err r) = None

-- the array that begins at a byte
abbrev pub array_at : List ℕ → ℕ → Option (Range ℕ)
array_at w p = when ltb p (length w) then array_of (shown (token_at w p)) else None
