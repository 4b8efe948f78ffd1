-- What this crate's functions answer, as `Reading` of the crate `spec` defines it. A definition says "bytes left"; the code says places.
-- Document 01: "Bytes to expressions". Assumes nothing.
use Rattle.std.specs.Prelude.{ℕ, zero, suc, ◌-◌, min, List, [], ◌∷◌, length, drop, get_or, eqb, Result, Ok, Err, Option, Some, None}
use Rattle.spec.specs.Expr.{when◌then◌else◌, Atom, nil, int, array, ref, if_array, array_head}
use Rattle.spec.specs.Reading.{Taken, taken, cut_off, failed, and_then, take_bytes, as_length, plain_length, Token, opening, closing, whole, unfinished, bad, atom_token, token}
use Rattle.atoms.specs.declared.Kind.{Kind}
use Rattle.atoms.specs.declared.Kind.TheVariants.{Nil, Form, Array, Int, Reference}
use Rattle.atoms.specs.declared.Length.{Length}
use Rattle.atoms.specs.declared.Token.{Token as Answer}
use Rattle.atoms.specs.declared.Token.TheVariants.{Opening, Closing, Atom as Whole, Unfinished}

-- the number of a kind in a row
abbrev pub kind_number : Kind → ℕ
kind_number Nil = 0
kind_number Form = 1
kind_number Array = 2
kind_number Int = 3
kind_number Reference = 4

-- an atom's kind
abbrev pub kind_of : Atom → Kind
kind_of nil = Nil
kind_of (int n) = Int
kind_of (array bs) = Array
kind_of (ref m n) = Reference

-- the token at a place inside a stream
abbrev pub token_at : List ℕ → ℕ → Token
token_at s p = token p (get_or s p 0) (drop (suc p) s)

-- where an array's bytes begin; any other atom is all body
abbrev pub body : Atom → ℕ → ℕ → ℕ
body a p e = if_array a (λ bs. e - length bs) p

-- a token as the code gives it, which does not repeat the place that was asked for, with a refusal's number and place
abbrev pub shown : Token → Result Answer (ℕ × ℕ)
shown (opening p) = Ok Opening
shown (closing p) = Ok Closing
shown (whole a p e) = Ok (Whole (kind_of a) (body a p e) e)
shown (unfinished p) = Ok Unfinished
shown (bad w p) = Err (w, p)

-- the head that the canonical bytes of an atom of that kind have before a body of n bytes
abbrev pub atom_head : Kind → ℕ → List ℕ
atom_head kind n = when eqb (kind_number kind) 2 then array_head n else []

-- Lengths

-- a length read from a stream that ends at `end`, none where it ends inside; no stream has 65,537 bytes, so no more has to be told of a longer one
abbrev pub measured : ℕ → Taken ℕ → Result (Option Length) (ℕ × ℕ)
measured end (taken n s) = Ok (Some (record { value = min n 65537; end = end - length s }))
measured end cut_off = Ok None
measured end (failed w s) = Err (w, end - length s)

-- how many bytes 03 a list begins with, counted up to k
unfoldable pub leading_threes : ℕ → List ℕ → ℕ
leading_threes zero s = 0
leading_threes (suc k) [] = 0
leading_threes (suc k) (b ∷ s) = when eqb b 0x03 then suc (leading_threes k s) else 0

-- a length that is no generic array, where no 03 stands
abbrev pub plain : List ℕ → Taken ℕ
plain [] = cut_off
plain (b ∷ s) = plain_length b s

-- k generic arrays, each the length of the next; the innermost has the length x
unfoldable pub around : ℕ → Taken ℕ → Taken ℕ
around zero x = x
around (suc k) x = and_then (and_then (around k x) take_bytes) as_length

-- what was read from place p of a stream that ends at `end`, as the code gives it
abbrev pub shown_atom : ℕ → ℕ → Taken Atom → Result Answer (ℕ × ℕ)
shown_atom p end x = shown (atom_token p end x)
