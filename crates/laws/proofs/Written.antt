-- The canonical bytes token by token: those of the tokens of a stream, one after the other, are those of its meaning.
-- Document 01: "Canonical". Assumes nothing.
use Prim.Native.Nat.{ℕ, ◌+◌, ◌≤◌}
use mathlib.Core.Path.{◌≡◌, refl, ◌∙◌}
use mathlib.Core.List.{List, [], ◌∷◌, ◌++◌, append_assoc, append-nil}
use lib.ListN.{length, get_or}
use native.Mathlib.Omega.{arith}
use Rattle.spec.specs.Expr.{Expr, atom, Exprs, none, atom_bytes, bytes, canonical}
use Rattle.spec.specs.Reading.{Token, opening, closing, whole, unfinished, bad, tokens, put, wrap, lists}
use Rattle.laws.specs.Demands.{meaning_of, CanRead}
use Rattle.laws.proofs.Tokens.{Right, at_end, opens, closes, stands}
use Rattle.laws.proofs.Rows.{rows_count}
use Rattle.laws.proofs.Reading.{read_readable}

-- the canonical bytes of a token, and of tokens
abbrev pub bytes_of : Token → List ℕ
bytes_of (opening p) = 0x01 ∷ []
bytes_of (closing p) = 0x02 ∷ []
bytes_of (whole a p e) = atom_bytes a
bytes_of (unfinished p) = []
bytes_of (bad w p) = []

unfoldable pub token_bytes : List Token → List ℕ
token_bytes [] = []
token_bytes (t ∷ ts) = bytes_of t ++ token_bytes ts

-- those of the lists that tokens fill, with the 02 that ends each but the last
abbrev behind : List Exprs → List ℕ
behind [] = []
behind (es ∷ ls) = 0x02 ∷ (canonical es ++ behind ls)

abbrev unwound : List Exprs → List ℕ
unwound [] = []
unwound (es ∷ ls) = canonical es ++ behind ls

unwound_put : (e : Expr) (ls : List Exprs) → 1 ≤ length ls → unwound (put e ls) ≡ bytes e ++ unwound ls
unfolding bytes
unwound_put e [] h = absurd (omega arith)
unwound_put e (es ∷ ls) h = append_assoc (bytes e) (canonical es) (behind ls)

unwound_wrap : (ls : List Exprs) → 2 ≤ length ls → unwound (wrap ls) ≡ 0x01 ∷ unwound ls
unfolding bytes
unwound_wrap [] h = absurd (omega arith)
unwound_wrap (es ∷ []) h = absurd (omega arith)
unwound_wrap (es ∷ fs ∷ ls) h = simp append_assoc

unwound_none : (ls : List Exprs) → 1 ≤ length ls → unwound (none ∷ ls) ≡ 0x02 ∷ unwound ls
unfolding bytes
unwound_none [] h = absurd (omega arith)
unwound_none (es ∷ ls) h = refl

unwound_tokens : {room : ℕ} {ts : List Token} {d n : ℕ} → Right room ts d n → token_bytes ts ≡ unwound (lists ts)
unfolding token_bytes lists bytes
unwound_tokens at_end = refl
unwound_tokens (opens {ts} h k c) = let size = (rows_count c).1 in rw (unwound_tokens c, unwound_wrap (lists ts) (omega arith))
unwound_tokens (closes {ts} c) = let size = (rows_count c).1 in rw (unwound_tokens c, unwound_none (lists ts) (omega arith))
unwound_tokens (stands {ts} {a} k c) = let size = (rows_count c).1 in rw (unwound_tokens c, unwound_put (atom a) (lists ts) (omega arith))

-- at the top level there is one list
pub canonical_tokens : {room : ℕ} {ts : List Token} {n : ℕ} → Right room ts 0 n → token_bytes ts ≡ canonical (get_or (lists ts) 0 none)
canonical_tokens {ts = ts} r = unwound_tokens r ∙ only (lists ts) (rows_count r).1
  where
    only : (ls : List Exprs) → length ls ≡ 0 + 1 → unwound ls ≡ canonical (get_or ls 0 none)
    only [] h = absurd (omega arith)
    only (es ∷ []) h = append-nil (canonical es)
    only (es ∷ fs ∷ ls) h = absurd (omega arith)

pub canonical_stream : (s : List ℕ) → CanRead s → token_bytes (tokens 0 0 s) ≡ canonical (meaning_of s)
canonical_stream s r = canonical_tokens (read_readable s (length s) _ _ r).well
