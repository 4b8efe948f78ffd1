-- What the entries of associations say. Document 01: "associates ref's marker with id". Assumes nothing.
use Rattle.std.specs.Prelude.{ℕ, ◌+◌, ◌≤◌, ◌≡◌, List, [], ◌∷◌, length}
use Rattle.std.proofs.Math.Seq.{slice}
use Rattle.spec.specs.Plan.{Namespace}
use Rattle.rules.specs.Entries.{stream, id, association}
use Rattle.rules.specs.Scope.{latest}
use Rattle.rules.specs.declared.scope.Scope.{Scope}

-- the entry of an association whose id is in the stream
pub record AssociationAt (s : List ℕ) (e : ℕ) (k : Namespace) : Type 0 where
  pub place : ℕ
  pub is : e ≡ association k.marker (id stream place (length k.id))
  pub marker_short : k.marker ≤ 65535
  pub some_bytes : 1 ≤ length k.id
  pub few_bytes : length k.id ≤ 64
  pub inside : place + length k.id ≤ length s
  pub short : length s ≤ 65536
  pub bytes : slice place (place + length k.id) s ≡ k.id

-- the associations, the latest first
unfoldable pub Linked : List ℕ → List ℕ → List Namespace → Type 0
Linked s [] [] = Unit {0}
Linked s [] (k ∷ ks) = ⊥
Linked s (e ∷ es) [] = ⊥
Linked s (e ∷ es) (k ∷ ks) = AssociationAt s e k × Linked s es ks

-- some associations are visible
pub record SomeLinked (s associations : List ℕ) (sc : Scope) : Type 0 where
  pub namespaces : List Namespace
  pub linked : Linked s (latest associations sc.associated) namespaces
  pub few : sc.associated ≤ 64
