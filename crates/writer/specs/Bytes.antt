-- What this crate's functions write. Document 01: "Canonical". Assumes nothing.
use Rattle.std.specs.Prelude.{ℕ, ◌+◌, ◌≡◌, List, ◌++◌, length, take, drop}
use Rattle.atoms.specs.Tokens.{atom_head}
use Rattle.atoms.specs.declared.Kind.{Kind}

-- bytes in the place of as many of a list's, from index `to` on
unfoldable pub put_at : List ℕ → ℕ → List ℕ → List ℕ
put_at out to bs = take to out ++ bs ++ drop (to + length bs) out

-- bytes written: what was there, where, the bytes, what is there now, and the place behind them
pub record Put (out : List ℕ) (to : ℕ) (bs new : List ℕ) (past : ℕ) : Type 0 where
  pub place : past ≡ to + length bs
  pub is : new ≡ put_at out to bs

-- the canonical bytes of an atom, by its kind and its body
abbrev pub with_head : Kind → List ℕ → List ℕ
with_head kind body = atom_head kind (length body) ++ body
