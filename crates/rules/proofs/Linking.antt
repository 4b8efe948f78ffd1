-- Laws of associations: what an entry tells of its marker and id, and what all of them tell of all namespaces.
-- Document 01: "associates ref's marker with id", "id used before". Assumes nothing.
use Prim.Native.Nat.{ℕ, zero, suc, ◌+◌, ◌-◌, ◌≤◌, ◌<◌}
use mathlib.Core.Path.{◌≡◌, refl, sym, ap, ◌∙◌}
use mathlib.Core.List.{List, [], ◌∷◌}
use mathlib.Core.Bool.{Bool}
use native.Mathlib.Omega.{arith}
use lib.ListN.{length, get_or, take, drop}
use lib.Pointwise.{pointwise}
use lib.Seq.{slice}
use lib.Dec.{eqb}
use Rattle.std.specs.List.{list_any}
use Rattle.std.proofs.lemmas.List.{length-take, get_or-take}
use Rattle.spec.specs.Expr.{same, some}
use Rattle.spec.specs.Plan.{Namespace}
use Rattle.rows.proofs.Slices.{slice_take}
use Rattle.rows.proofs.Same.{slices_same}
use Rattle.rules.specs.Entries.{marker_in, place_in, size_in}
use Rattle.rules.specs.Scope.{latest}
use Rattle.rules.specs.Associations.{AssociationAt, Linked}
use Rattle.rules.proofs.Latest.{any_latest}

-- whether an entry has the marker, and whether it has the id
abbrev pub marks : ℕ → ℕ → Bool
marks marker e = eqb (marker_in e) marker

abbrev pub identifies : List ℕ → List ℕ → ℕ → Bool
identifies s id e = same (slice (place_in e) (place_in e + size_in e) s) id

-- What an entry tells

module _ {s : List ℕ} {e : ℕ} {k : Namespace} (at : AssociationAt s e k) where
  marked : marker_in e ≡ k.marker
  marked = rw at.is (omega (arith, at.some_bytes, at.few_bytes, at.inside, at.short))

  place_is : place_in e ≡ at.place
  place_is =
      let starts : at.place < 65536 = omega (arith, at.some_bytes, at.inside, at.short) in
      rw at.is (omega (arith, starts, at.some_bytes, at.few_bytes))

  size_is : size_in e ≡ length k.id
  size_is = rw at.is (omega (arith, at.some_bytes, at.few_bytes))

-- What all of them tell

module _ (s : List ℕ) where
  pub linked_length : (es : List ℕ) (ks : List Namespace) → Linked s es ks → length es ≡ length ks
  unfolding Linked
  linked_length [] [] n = refl
  linked_length [] (k ∷ ks) n = absurd n
  linked_length (e ∷ es) [] n = absurd n
  linked_length (e ∷ es) (k ∷ ks) n = ap suc (linked_length es ks n.1)

  -- each id is inside the stream

  linked_inside : (associations : List ℕ) (k i count : ℕ) (ks : List Namespace) → Linked s (latest associations count) ks → k + suc i ≡ count
      → place_in (get_or associations i 0) + size_in (get_or associations i 0) ≤ length s
  unfolding Linked latest
  linked_inside es k i zero ks n h = absurd (omega arith)
  linked_inside es k i (suc count) [] n h = absurd n
  linked_inside es zero i (suc count) (x ∷ ks) n h = let last : i ≡ count = omega arith in rw (last, place_is n.0, size_is n.0) n.0.inside
  linked_inside es (suc k) i (suc count) (x ∷ ks) n h = linked_inside es k i count ks n.1 (omega arith)

  pub entry_inside : (associations : List ℕ) (i count : ℕ) (ks : List Namespace) → Linked s (latest associations count) ks → i < length (take count associations)
      → place_in (get_or (take count associations) i 0) + size_in (get_or (take count associations) i 0) ≤ length s
  entry_inside es i count ks n h =
      let few : i < count = omega (arith, length-take count es) in
      rw (get_or-take count es i 0 few) (linked_inside es (count - suc i) i count ks n (omega arith))

  -- a test of entries that is a test of namespaces: of some entries, and of the first so many of an array
  module _ (test : ℕ → Bool) (test' : Namespace → Bool) (each : (e : ℕ) (k : Namespace) → AssociationAt s e k → test e ≡ test' k) where
    linked_some : (es : List ℕ) (ks : List Namespace) → Linked s es ks → some test es ≡ some test' ks
    unfolding Linked some
    linked_some [] [] n = refl
    linked_some [] (k ∷ ks) n = absurd n
    linked_some (e ∷ es) [] n = absurd n
    linked_some (e ∷ es) (k ∷ ks) n = rw (each e k n.0, linked_some es ks n.1)

    linked_any : (associations : List ℕ) (count : ℕ) (ks : List Namespace) → count ≤ length associations → Linked s (latest associations count) ks
        → list_any test (take count associations) ≡ some test' ks
    linked_any es count ks h n = any_latest test es count h ∙ linked_some (latest es count) ks n

  pub any_marked : (marker : ℕ) (associations : List ℕ) (count : ℕ) (ks : List Namespace) → count ≤ length associations → Linked s (latest associations count) ks
      → list_any (marks marker) (take count associations) ≡ some (λ k. eqb k.marker marker) ks
  any_marked marker = linked_any (marks marker) (λ k. eqb k.marker marker) (λ e k at. rw (marked at))

  pub any_identified : (id : List ℕ) (associations : List ℕ) (count : ℕ) (ks : List Namespace) → count ≤ length associations → Linked s (latest associations count) ks
      → list_any (identifies s id) (take count associations) ≡ some (λ k. same k.id id) ks
  any_identified id = linked_any (identifies s id) (λ k. same k.id id) (λ e k at. rw (place_is at, size_is at, at.bytes))

-- what std's comparison of an entry's id with a part of the stream tells
pub compared : (s : List ℕ) (from to e : ℕ) {place size : ℕ} {b : Bool} → place ≡ place_in e → size ≡ size_in e
    → b ≡ pointwise eqb (take (place + size - place) (drop place s)) (take (to - from) (drop from s)) → identifies s (slice from to s) e ≡ b
compared s from to e {place} {size} begins long told =
    rw (← begins, ← long, slice_take place (place + size) s, slice_take from to s) (sym (told ∙ slices_same _ _))
