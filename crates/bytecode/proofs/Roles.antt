-- Laws of `if_listed` and `arity_of`: the arity tells what is chosen, in two lists one after the other, and of an expression. Assumes nothing.
use Prim.Native.Nat.{ℕ, ◌/◌, ◌%◌, ◌<◌}
use mathlib.Core.Path.{◌≡◌, refl, ◌∙◌}
use mathlib.Core.List.{List, [], ◌∷◌, ◌++◌, append-nil}
use mathlib.Core.Bool.{Bool, true, false, ◌&&◌}
use lib.Dec.{eqb}
use borrow.Author.Tests.{eq-eqb, eqb-true}
use native.Mathlib.Omega.{arith}
use Rattle.std.specs.Prelude.{Option, Some, None}
use Rattle.std.specs.Option.{option_map_or}
use Rattle.spec.specs.Expr.{when◌then◌else◌, nil, array, int, ref}
use Rattle.spec.specs.Nodes.{Node, leaf, branch, bytecode}
use Rattle.spec.specs.Bytecode.{Operator, if_listed, if_operator}
use Rattle.laws.specs.Demands.{Bytes}
use Rattle.rows.specs.Rows.{kind, LeafAt, WrittenAt, key_of}
use Rattle.rows.proofs.Nodes.{leaf_fits}
use Rattle.rows.proofs.Keys.{key_marker, key_name}
use Rattle.bytecode.specs.Named.{arity_of}

pub listed_append : {A : Type 0} (os ps : List Operator) (m n : ℕ) (f : ℕ → A) (other : A)
    → if_listed (os ++ ps) m n f other ≡ option_map_or f (if_listed os m n (λ k. Some k) None) (if_listed ps m n f other)
unfolding if_listed
listed_append [] ps m n f other = refl
listed_append (o ∷ os) ps m n f other = go (eqb o.marker m && eqb o.name n) (listed_append os ps m n f other)
  where
    go : (b : Bool) → if_listed (os ++ ps) m n f other ≡ option_map_or f (if_listed os m n (λ k. Some k) None) (if_listed ps m n f other)
        → (when b then f o.arity else if_listed (os ++ ps) m n f other)
        ≡ option_map_or f (when b then Some o.arity else if_listed os m n (λ k. Some k) None) (if_listed ps m n f other)
    go true e = refl
    go false e = e

pub listed_arity : {A : Type 0} (os : List Operator) (m n : ℕ) (f : ℕ → A) (other : A)
    → if_listed os m n f other ≡ option_map_or f (if_listed os m n (λ k. Some k) None) other
unfolding if_listed
listed_arity os m n f other = rw append-nil at (listed_append os [] m n f other)

pub arity_append : (os ps : List Operator) (k : ℕ) → arity_of (os ++ ps) k ≡ option_map_or (λ n. Some n) (arity_of os k) (arity_of ps k)
arity_append os ps k = listed_append os ps (k / 256) (k % 256) (λ n. Some n) None

-- one operator
module _ (o : Operator) (k : ℕ) (small : o.name < 256) where
  one_is : key_of o.marker o.name ≡ k → arity_of (o ∷ []) k ≡ Some o.arity
  unfolding if_listed
  one_is e = rw (eq-eqb o.marker (k / 256) (omega arith), eq-eqb o.name (k % 256) (omega arith))

  one_not : (key_of o.marker o.name ≡ k → ⊥) → arity_of (o ∷ []) k ≡ None
  unfolding if_listed
  one_not h = go (eqb o.marker (k / 256)) (eqb o.name (k % 256)) refl refl
    where
      go : (a b : Bool) → eqb o.marker (k / 256) ≡ a → eqb o.name (k % 256) ≡ b → (when a && b then Some o.arity else None) ≡ None
      go true true p q = absurd (h (omega (arith, eqb-true o.marker (k / 256) p, eqb-true o.name (k % 256) q)))
      go true false p q = refl
      go false b p q = refl

  -- one more, behind the others
  pub arity_added : (os : List Operator) → key_of o.marker o.name ≡ k → arity_of os k ≡ None → arity_of (os ++ (o ∷ [])) k ≡ Some o.arity
  arity_added os e h = arity_append os (o ∷ []) k ∙ rw (h, one_is e)

  pub arity_others : (os : List Operator) → (key_of o.marker o.name ≡ k → ⊥) → arity_of (os ++ (o ∷ [])) k ≡ arity_of os k
  arity_others os h = arity_append os (o ∷ []) k ∙ go (arity_of os k) (one_not h)
    where
      go : (r : Option ℕ) → arity_of (o ∷ []) k ≡ None → option_map_or (λ n. Some n) r (arity_of (o ∷ []) k) ≡ r
      go (Some n) e = refl
      go None e = e

-- Expressions

module _ (s t : List ℕ) (r : ℕ) where
  pub written_operand : {A : Type 0} (os : List Operator) (e : Node) (f : ℕ → A) (other : A) → WrittenAt s t r e → (kind t r ≡ 4 → ⊥) → other ≡ if_operator os e f other
  unfolding WrittenAt
  written_operand os (leaf q nil) f other w h = refl
  written_operand os (leaf q (array bs)) f other w h = refl
  written_operand os (leaf q (int v)) f other w h = refl
  written_operand os (leaf q (ref m n)) f other w h = absurd (h w.1.row.kind_is)
  written_operand os (branch q es) f other w h = refl
  written_operand os (bytecode q es o) f other w h = absurd w

  -- a reference's arity, by its key
  pub reference_arity : {m n k : ℕ} (os : List Operator) → Bytes s → LeafAt s t r (ref m n) → k ≡ key_of m n → arity_of os k ≡ if_listed os m n (λ k. Some k) None
  reference_arity {m} {n} os b l e = let small = (leaf_fits b l).2 in rw (e, key_marker m n small, key_name m n small)
