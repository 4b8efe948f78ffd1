-- Laws of markers row by row, over expressions as they are written: the rows of a form's elements follow its own, so behind each row stand nodes again,
-- and whether a reference among them bears a marker is found in the rows one by one. Document 01: "marker borne by a reference earlier in the stream". Assumes nothing.
use Prim.Native.Nat.{ℕ, ◌+◌, ◌/◌, ◌≤◌, ◌<◌}
use mathlib.Core.Path.{◌≡◌, refl, sym, ap, ◌∙◌, subst}
use mathlib.Core.List.{List, [], ◌∷◌, ◌++◌}
use mathlib.Core.Bool.{Bool, false, ◌||◌, or-false, or_assoc}
use native.Mathlib.Omega.{arith}
use lib.Dec.{eqb}
use Rattle.spec.specs.Expr.{some, Atom, nil, array, int, ref}
use Rattle.spec.specs.Reading.{atom_kind}
use Rattle.spec.specs.Nodes.{leaf, branch, bytecode, Nodes, empty, cons, markers, markers_all}
use Rattle.laws.specs.Demands.{Bytes}
use Rattle.rows.specs.Rows.{kind, next, LeafAt, WrittenAt, WrittenAll, NodesAt, key_of}
use Rattle.rows.proofs.Nodes.{kind_ref, leaf_kind, leaf_fits, append_nodes, markers_append, written_done, written_append}
use Rattle.rows.proofs.Written.{all_written, all_written_markers, nodes_written}
use Rattle.rows.proofs.Keys.{key_marker}

-- whether one of two lists passes a test
pub some_append : (test : ℕ → Bool) (x y : List ℕ) → some test (x ++ y) ≡ some test x || some test y
unfolding some
some_append test [] y = refl
some_append test (a ∷ x) y = ap (λ (b : Bool). test a || b) (some_append test x y) ∙ sym (or_assoc (test a) (some test x) (some test y))

-- One row

module _ (marker : ℕ) where
  pub other_bears : (q : ℕ) (a : Atom) → (atom_kind a ≡ 4 → ⊥) → false ≡ some (eqb marker) (markers (leaf q a))
  unfolding some markers
  other_bears q nil h = refl
  other_bears q (array bs) h = refl
  other_bears q (int v) h = refl
  other_bears q (ref m n) h = absurd (h refl)

  -- the marker of a reference, by its key
  pub reference_bears : {s t : List ℕ} {r : ℕ} (k q : ℕ) (a : Atom) → Bytes s → LeafAt s t r a → kind t r ≡ 4 → ((m n : ℕ) → LeafAt s t r (ref m n) → k ≡ key_of m n)
      → eqb marker (k / 256) ≡ some (eqb marker) (markers (leaf q a))
  unfolding some markers
  reference_bears k q a b l h e =
      let is = kind_ref a (leaf_kind l ∙ h) in
      let there = rw is.2 at l in
      rw (is.2, e is.0 is.1 there, key_marker is.0 is.1 (leaf_fits b there).2, or-false (eqb marker is.0))

-- Rows one after the other

-- the nodes from row r on: the marker is borne at all if it is `already` or if it is in them
pub record Ahead (marker : ℕ) (s t : List ℕ) (r end : ℕ) (already all : Bool) : Type 0 where
  pub nodes : Nodes
  pub stand : WrittenAll s t r end nodes
  pub tells : already || some (eqb marker) (markers_all nodes) ≡ all

module _ {marker : ℕ} {s t : List ℕ} {r end : ℕ} {all : Bool} (l : Ahead marker s t r end false all) where
  -- one row further, by what is told of it
  pub ahead_next : {b : Bool} → r < end → ((q : ℕ) (a : Atom) → LeafAt s t r a → b ≡ some (eqb marker) (markers (leaf q a))) × (kind t r ≡ 1 → b ≡ false)
      → Ahead marker s t (r + 1) end b all
  unfolding WrittenAt markers
  ahead_next {b} h told = go l.nodes l.stand l.tells
    where
      go : (es : Nodes) → WrittenAll s t r end es → some (eqb marker) (markers_all es) ≡ all → Ahead marker s t (r + 1) end b all
      go empty n e = absurd (omega (arith, n))
      go (cons (leaf q a) es) n e =
          let both = sym (some_append (eqb marker) (markers (leaf q a)) (markers_all es)) ∙ e in
          record { nodes = es; stand = subst (λ (k : ℕ). WrittenAll s t k end es) n.2.1.on n.3; tells = rw (told.0 q a n.2.1) both }
      go (cons (branch q es) fs) n e =
          let behind = written_append s t (r + 1) (next t r) end es fs n.2.2 n.3 in
          record { nodes = append_nodes es fs; stand = behind; tells = rw (told.1 n.2.1.kind_is, markers_append es fs) e }
      go (cons (bytecode q es o) fs) n e = absurd n.2

  pub ahead_none : end ≤ r → false ≡ all
  unfolding some markers
  ahead_none h = rw (written_done s t r end l.nodes l.stand h) at l.tells

-- before the first row, of nodes as they are evaluated
pub ahead_all : {marker : ℕ} {s t : List ℕ} {row : ℕ} (es : Nodes) → NodesAt s t false 0 row es → Ahead marker s t 0 row false (some (eqb marker) (markers_all es))
ahead_all {marker} {s} {t} {row} es n =
    record { nodes = all_written es; stand = nodes_written s t 0 row es n; tells = ap (some (eqb marker)) (all_written_markers es) }
