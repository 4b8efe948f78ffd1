-- Laws of written nodes over a whole table: every row is one's; with no marks, they are what is evaluated; they stay while the rows do; and a
-- row has one. Document 01: "Table". Assumes nothing.
use Prim.Native.Nat.{ℕ, ◌+◌, ◌-◌, ◌≤◌, ◌<◌}
use mathlib.Core.Path.{◌≡◌, refl, sym, ap, ◌∙◌}
use mathlib.Core.List.{List, [], ◌∷◌}
use mathlib.Core.Bool.{Bool, true, false}
use lib.ListN.{length, get_or}
use lib.Dec.{eqb}
use borrow.Author.Tests.{eqb-true, eqb-false}
use native.Mathlib.Decide.{dec_lt}
use native.Mathlib.Omega.{arith}
use Rattle.spec.specs.Expr.{Atom, nil, array, int, ref}
use Rattle.spec.specs.Reading.{atom_kind}
use Rattle.spec.specs.Nodes.{Node, leaf, branch, bytecode, Nodes, empty, cons, markers, markers_all}
use Rattle.laws.proofs.Basics.{impossible}
use Rattle.rows.specs.Rows.{cell, kind, start, mark, next, RowAt, LeafAt, WrittenAt, WrittenAll, Unmarked, NodeAt, NodesAt, RowsAt}
use Rattle.rows.proofs.Nodes.{kind_nil, kind_array, kind_int, kind_ref, no_form, leaf_kind, leaf_array}
use Rattle.rows.proofs.Keys.{RefAt, ref_read, int_read}
use Rattle.rows.proofs.Bodies.{one_end, body_begins}

module _ (s t : List ℕ) where
  -- the head of a form is not marked, if no row is
  unmarked_all : (r end : ℕ) (es : Nodes) → ((q : ℕ) → q < end → mark t q ≡ 0) → WrittenAll s t r end es → Unmarked t r es
  unfolding WrittenAt
  unmarked_all r end empty m n l = impossible (cc)
  unmarked_all r end (cons e es) m n l = m r (omega (arith, n.0, n.1))

  -- nodes of which no row is marked, as they are evaluated in a list that is not flat
  mutual
    unfolding WrittenAt NodeAt

    pub written_node : (r : ℕ) (e : Node) → ((q : ℕ) → q < next t r → mark t q ≡ 0) → WrittenAt s t r e → NodeAt s t false r e
    written_node r (leaf q a) m n = (n.0, refl, n.1)
    written_node r (branch q es) m n = (
      n.0,
      record { by_row = λ z. n.1; by_operator = λ z. impossible (cc) },
      unmarked_all (r + 1) (next t r) es m n.2,
      written_nodes (r + 1) (next t r) es m n.2,
    )
    written_node r (bytecode q es o) m n = absurd n

    pub written_nodes : (r end : ℕ) (es : Nodes) → ((q : ℕ) → q < end → mark t q ≡ 0) → WrittenAll s t r end es → NodesAt s t false r end es
    written_nodes r end empty m n = n
    written_nodes r end (cons e es) m n =
        (n.0, n.1, written_node r e (λ q l. m q (omega (arith, n.1))) n.2, written_nodes (next t r) end es m n.3)

  -- a row among written nodes is a node's; what belongs to it ends where they do, or before
  mutual
    unfolding WrittenAt

    written_within : (r : ℕ) (e : Node) → WrittenAt s t r e → (q : ℕ) → r < q → q < next t r → (f : Node) × WrittenAt s t q f × (next t q ≤ next t r)
    written_within r (leaf p a) n q l h = absurd (omega (arith, n.1.on))
    written_within r (branch p es) n q l h = written_each (r + 1) (next t r) es n.2 q (omega arith) h
    written_within r (bytecode p es o) n q l h = absurd n

    pub written_each : (r end : ℕ) (es : Nodes) → WrittenAll s t r end es → (q : ℕ) → r ≤ q → q < end → (f : Node) × WrittenAt s t q f × (next t q ≤ end)
    written_each r end empty n q l h = absurd (omega (arith, n))
    written_each r end (cons e es) n q l h =
        elim (dec_lt r q) [
          | yes after ↦ elim (dec_lt q (next t r)) [
            | yes inside ↦ (let f = written_within r e n.2 q after inside in (f.0, f.1, omega (arith, f.2, n.1)))
            | no beyond ↦ written_each (next t r) end es n.3 q (omega arith) h
          ]
          | no here ↦ (let same : q ≡ r = omega arith in (e, rw same n.2, rw same n.1))
        ]

-- The nodes of a list that is not flat, as they are written

unfoldable mutual
  pub as_written : Node → Node
  as_written (leaf r a) = leaf r a
  as_written (branch r es) = branch r (all_written es)
  as_written (bytecode r es o) = branch r es

  pub all_written : Nodes → Nodes
  all_written empty = empty
  all_written (cons e es) = cons (as_written e) (all_written es)

mutual
  unfolding as_written markers

  pub written_markers : (e : Node) → markers (as_written e) ≡ markers e
  written_markers (leaf r a) = refl
  written_markers (branch r es) = all_written_markers es
  written_markers (bytecode r es o) = refl

  pub all_written_markers : (es : Nodes) → markers_all (all_written es) ≡ markers_all es
  all_written_markers empty = refl
  all_written_markers (cons e es) = rw (written_markers e, all_written_markers es)

module _ (s t : List ℕ) where
  mutual
    unfolding as_written WrittenAt NodeAt

    pub node_written : (r : ℕ) (e : Node) → NodeAt s t false r e → WrittenAt s t r (as_written e)
    node_written r (leaf q a) n = (n.0, n.2)
    node_written r (branch q es) n = (n.0, n.1.by_row refl, nodes_written (r + 1) (next t r) es n.3)
    node_written r (bytecode q es o) n = (n.0, n.1.by_row refl, n.4)

    pub nodes_written : (r end : ℕ) (es : Nodes) → NodesAt s t false r end es → WrittenAll s t r end (all_written es)
    nodes_written r end empty n = n
    nodes_written r end (cons e es) n = (n.0, n.1, node_written r e n.2, nodes_written (next t r) end es n.3)

-- The same rows in another table

-- of which only numbers besides may differ
module _ (s t t' : List ℕ) (same_length : length t' ≡ length t) (same_kind : (r : ℕ) → kind t' r ≡ kind t r) (same_start : (r : ℕ) → start t' r ≡ start t r)
    (same_end : (r : ℕ) → cell t' r 2 ≡ cell t r 2) (same_next : (r : ℕ) → cell t' r 3 ≡ cell t r 3) where
  pub row_kept : (r k : ℕ) → RowAt s t r k → RowAt s t' r k
  row_kept r k h = record {
    inside = rw same_length h.inside;
    few = h.few;
    kind_is = same_kind r ∙ h.kind_is;
    starts = rw (same_start r, same_end r) h.starts;
    ends = rw (same_end r) h.ends;
    short = h.short;
  }

  pub leaf_kept : (r : ℕ) (a : Atom) → LeafAt s t r a → LeafAt s t' r a
  leaf_kept r a h = record { row = row_kept r (atom_kind a) h.row; spells = rw (same_start r, same_end r) h.spells; on = same_next r ∙ h.on }

  mutual
    unfolding WrittenAt

    pub written_kept : (r : ℕ) (e : Node) → WrittenAt s t r e → WrittenAt s t' r e
    written_kept r (leaf q a) n = (n.0, leaf_kept r a n.1)
    written_kept r (branch q es) n = (n.0, row_kept r 1 n.1, rw (same_next r) (written_all_kept (r + 1) (next t r) es n.2))
    written_kept r (bytecode q es o) n = n

    pub written_all_kept : (r end : ℕ) (es : Nodes) → WrittenAll s t r end es → WrittenAll s t' r end es
    written_all_kept r end empty n = n
    written_all_kept r end (cons e es) n =
        rw (same_next r) (n.0, n.1, written_kept r e n.2, written_all_kept (next t r) end es n.3)

  pub rows_kept : (r end : ℕ) (qs : List ℕ) → RowsAt t r end qs → RowsAt t' r end qs
  unfolding RowsAt
  rows_kept r end [] h = h
  rows_kept r end (q ∷ qs) h = rw (same_length, same_next r) (h.0, h.1, h.2, h.3, rows_kept (next t r) end qs h.4)

-- One node at a row

module _ (s t : List ℕ) where
  array_same : (r : ℕ) (bs cs : List ℕ) → LeafAt s t r (array bs) → LeafAt s t r (array cs) → bs ≡ cs
  array_same r bs cs l m =
      let b = leaf_array l in
      let c = leaf_array m in
      let long : length bs ≡ length cs = omega (arith, go (eqb (get_or s (start t r) 0) 0x03) refl, b.1, c.1) in
      sym b.0 ∙ rw long c.0
    where
      go : (x : Bool) → eqb (get_or s (start t r) 0) 0x03 ≡ x → cell t r 2 - length bs ≡ cell t r 2 - length cs
      go true e = let z = eqb-true (get_or s (start t r) 0) 0x03 e in one_end ((body_begins refl l).1 z) ((body_begins refl m).1 z)
      go false e = let z = eqb-false (get_or s (start t r) 0) 0x03 e in sym ((body_begins refl l).0 z) ∙ (body_begins refl m).0 z

  marker_same : (r m n k l : ℕ) → RefAt s (start t r) (cell t r 2) m n → RefAt s (start t r) (cell t r 2) k l → m ≡ k
  marker_same r m n k l x y = go (eqb (get_or s (start t r) 0) 0x7F) refl
    where
      go : (b : Bool) → eqb (get_or s (start t r) 0) 0x7F ≡ b → m ≡ k
      go true e = let z = eqb-true (get_or s (start t r) 0) 0x7F e in omega (arith, x.long z, y.long z)
      go false e = let z = eqb-false (get_or s (start t r) 0) 0x7F e in sym (x.short z) ∙ y.short z

  pub leaf_same : (r : ℕ) (a b : Atom) → LeafAt s t r a → LeafAt s t r b → a ≡ b
  leaf_same r nil b l m = sym (kind_nil b (leaf_kind m ∙ sym (leaf_kind l)))
  leaf_same r (array bs) b l m =
      let k = kind_array b (leaf_kind m ∙ sym (leaf_kind l)) in
      ap array (array_same r bs k.0 l (rw k.1 at m)) ∙ sym k.1
  leaf_same r (int v) b l m =
      let k = kind_int b (leaf_kind m ∙ sym (leaf_kind l)) in
      ap int (omega (arith, int_read s t r v l, int_read s t r k.0 (rw k.1 at m))) ∙ sym k.1
  leaf_same r (ref m n) b l h =
      let k = kind_ref b (leaf_kind h ∙ sym (leaf_kind l)) in
      let x = ref_read s t r m n l in
      let y = ref_read s t r k.0 k.1 (rw k.2 at h) in
      ap (λ (i : ℕ). ref i n) (marker_same r m n k.0 k.1 x y) ∙ ap (ref k.0) (sym x.name ∙ y.name) ∙ sym k.2

  mutual
    unfolding WrittenAt

    pub written_same : (r : ℕ) (e f : Node) → WrittenAt s t r e → WrittenAt s t r f → e ≡ f
    written_same r (leaf q a) (leaf p b) n m = rw (n.0, m.0, leaf_same r a b n.1 m.1)
    written_same r (leaf q a) (branch p fs) n m = absurd (no_form a (leaf_kind n.1 ∙ m.1.kind_is))
    written_same r (leaf q a) (bytecode p fs o) n m = absurd m
    written_same r (branch q es) (leaf p b) n m = absurd (no_form b (leaf_kind m.1 ∙ n.1.kind_is))
    written_same r (branch q es) (branch p fs) n m = rw (n.0, m.0, written_all_same (r + 1) (next t r) es fs n.2 m.2)
    written_same r (branch q es) (bytecode p fs o) n m = absurd m
    written_same r (bytecode q es o) f n m = absurd n

    pub written_all_same : (r end : ℕ) (es fs : Nodes) → WrittenAll s t r end es → WrittenAll s t r end fs → es ≡ fs
    written_all_same r end empty empty n m = refl
    written_all_same r end empty (cons f fs) n m = absurd (omega (arith, n, m.0, m.1))
    written_all_same r end (cons e es) empty n m = absurd (omega (arith, m, n.0, n.1))
    written_all_same r end (cons e es) (cons f fs) n m =
        rw (written_same r e f n.2 m.2, written_all_same (next t r) end es fs n.3 m.3)
