-- References to `prefix*`: how they are written, and expressions in which there is none. Document 02, §1. Assumes nothing.
use Prim.Native.Nat.{ℕ, ◌+◌, ◌-◌, ◌≤◌, ◌<◌}
use mathlib.Core.Path.{◌≡◌, refl, sym, ap, ◌∙◌}
use mathlib.Core.List.{List}
use mathlib.Core.Bool.{Bool, true, false, ◌&&◌}
use lib.ListN.{length, get_or}
use lib.Seq.{length-slice}
use lib.Dec.{eqb}
use borrow.Author.Tests.{eq-eqb, ne_eqb, eqb-true, eqb-false}
use native.Mathlib.Omega.{arith}
use Rattle.spec.specs.Expr.{nil, array, int, ref, marker_bytes, atom_bytes}
use Rattle.spec.specs.Nodes.{core, Node, leaf, branch, bytecode, Nodes, empty, cons}
use Rattle.spec.specs.Bytecode.{prefix*, is_name}
use Rattle.spec.proofs.Unchanged.{Unnamed, UnnamedAll}
use Rattle.rows.specs.Rows.{cell, kind, start, next, LeafAt, WrittenAt, WrittenAll}
use Rattle.rows.proofs.Nodes.{leaf_ref}
use Rattle.rows.proofs.Keys.{RefAt, ref_read}

-- an expression that is no reference
pub star_other : (s t : List ℕ) (r : ℕ) (e : Node) → WrittenAt s t r e → (kind t r ≡ 4 → ⊥) → false ≡ is_name prefix* e
unfolding WrittenAt
star_other s t r (leaf q nil) h k = refl
star_other s t r (leaf q (array bs)) h k = refl
star_other s t r (leaf q (int v)) h k = refl
star_other s t r (leaf q (ref m n)) h k = absurd (k h.1.row.kind_is)
star_other s t r (branch q es) h k = refl
star_other s t r (bytecode q es o) h k = refl

-- a reference, by its bytes from a place on
module _ (s t : List ℕ) {r m n from : ℕ} (l : LeafAt s t r (ref m n)) (starts : from ≡ start t r) where
  bytes : RefAt s from (cell t r 2) m n
  bytes = rw starts (ref_read s t r m n l)

  -- its marker is 20 if its first byte is, and only then
  star_marker : get_or s from 0 ≡ core → m ≡ core
  star_marker h = sym (bytes.short (λ z. omega (arith, h, z))) ∙ h

  star_unmarked : (get_or s from 0 ≡ core → ⊥) → m ≡ core → ⊥
  star_unmarked h e = go (eqb (get_or s from 0) 0x7F) refl
    where
      go : (b : Bool) → eqb (get_or s from 0) 0x7F ≡ b → ⊥
      go true q = omega (arith, bytes.long (eqb-true (get_or s from 0) 0x7F q), e)
      go false q = h (bytes.short (eqb-false (get_or s from 0) 0x7F q) ∙ e)

  -- it has one byte more then
  pub star_two : get_or s from 0 ≡ core → cell t r 2 ≡ from + 2
  unfolding atom_bytes marker_bytes
  star_two h =
      let size : cell t r 2 - start t r ≡ 2 =
      sym (length-slice (start t r) (cell t r 2) s l.row.ends) ∙ ap length (rw (star_marker h) at (leaf_ref l)) in
      omega (arith, size)

  pub star_not : (get_or s from 0 ≡ core → ⊥) → false ≡ eqb m core && eqb n prefix*
  star_not h = rw (ne_eqb m core (star_unmarked h))

  pub star_name : get_or s from 0 ≡ core → eqb (get_or s (from + 1) 0) prefix* ≡ eqb m core && eqb n prefix*
  star_name h =
      let last : from + 1 ≡ cell t r 2 - 1 = omega (arith, star_two h) in
      rw (eq-eqb m core (star_marker h), last, bytes.name)

-- where none is at any row, none is in an expression
module _ (s t : List ℕ) where
  mutual
    unfolding WrittenAt

    pub none_unnamed : (r : ℕ) (e : Node) → WrittenAt s t r e → ((q : ℕ) (f : Node) → r ≤ q → q < next t r → WrittenAt s t q f → is_name prefix* f ≡ false) → Unnamed e
    none_unnamed r (leaf q a) h n = n r (leaf q a) (omega arith) (omega (arith, h.1.on)) h
    none_unnamed r (branch q es) h n = all_unnamed (r + 1) (next t r) es h.2 (λ p f l. n p f (omega arith))
    none_unnamed r (bytecode q es o) h n = absurd h

    pub all_unnamed : (r end : ℕ) (es : Nodes) → WrittenAll s t r end es → ((q : ℕ) (f : Node) → r ≤ q → q < end → WrittenAt s t q f → is_name prefix* f ≡ false)
        → UnnamedAll es
    all_unnamed r end empty h n = tt
    all_unnamed r end (cons e es) h n =
        (none_unnamed r e h.2 (λ q f l g. n q f l (omega (arith, h.1))), all_unnamed (next t r) end es h.3 (λ q f l. n q f (omega (arith, h.0))))
