-- Laws of atoms at their rows, of written nodes and of transformed ones: what the row of a node tells of it, and of nodes one after the other,
-- one for each thing that code asks of a row. Document 01: "Table". Assumes nothing.
use Prim.Native.Nat.{ℕ, ◌+◌, ◌-◌, ◌≤◌, ◌<◌}
use mathlib.Core.Path.{◌≡◌, refl, sym, ap, ◌∙◌, subst}
use mathlib.Core.List.{List, [], ◌∷◌, ◌++◌, append_assoc}
use mathlib.Core.Bool.{Bool, true, false}
use lib.ListN.{length, take, drop, length-append}
use lib.Seq.{slice, length-slice, drop-drop, drop_at}
use native.Mathlib.Omega.{arith}
use Rattle.spec.specs.Expr.{Atom, nil, array, int, ref, atom_bytes}
use Rattle.spec.specs.Reading.{atom_kind}
use Rattle.spec.specs.Nodes.{Node, leaf, branch, bytecode, Nodes, empty, cons, row, markers, markers_all}
use Rattle.laws.specs.Demands.{Bytes}
use Rattle.laws.specs.Grammar.{SpellsArray, small, generic}
use Rattle.laws.proofs.Fits.{bytes_take, bytes_drop, Fits}
use Rattle.laws.proofs.Shortest.{spelled_fits}
use Rattle.rows.specs.Rows.{RowInside, cell, kind, start, next, RowAt, LeafAt, WrittenAt, WrittenAll, is_made, behind, Opens, NodeAt, NodesAt}

-- Atoms

-- what a kind tells of an atom
pub kind_nil : (a : Atom) → atom_kind a ≡ 0 → a ≡ nil
kind_nil nil h = refl
kind_nil (array bs) h = absurd (omega arith)
kind_nil (int v) h = absurd (omega arith)
kind_nil (ref m n) h = absurd (omega arith)

pub kind_array : (a : Atom) → atom_kind a ≡ 2 → (bs : List ℕ) × (a ≡ array bs)
kind_array nil h = absurd (omega arith)
kind_array (array bs) h = (bs, refl)
kind_array (int v) h = absurd (omega arith)
kind_array (ref m n) h = absurd (omega arith)

pub kind_int : (a : Atom) → atom_kind a ≡ 3 → (v : ℕ) × (a ≡ int v)
kind_int nil h = absurd (omega arith)
kind_int (array bs) h = absurd (omega arith)
kind_int (int v) h = (v, refl)
kind_int (ref m n) h = absurd (omega arith)

pub kind_ref : (a : Atom) → atom_kind a ≡ 4 → (m : ℕ) × (n : ℕ) × (a ≡ ref m n)
kind_ref nil h = absurd (omega arith)
kind_ref (array bs) h = absurd (omega arith)
kind_ref (int v) h = absurd (omega arith)
kind_ref (ref m n) h = (m, n, refl)

pub no_form : (a : Atom) → atom_kind a ≡ 1 → ⊥
no_form nil h = omega arith
no_form (array bs) h = omega arith
no_form (int v) h = omega arith
no_form (ref m n) h = omega arith

-- an array's own bytes come last in what spells it
spelled_array : (bs x : List ℕ) → SpellsArray bs x → (head : List ℕ) × (x ≡ head ++ bs) × (1 ≤ length head)
spelled_array bs x (small h e) = ((0xC0 + length bs) ∷ [], e, omega arith)
spelled_array bs x (generic y h e) = (0x03 ∷ y, e, omega arith)

module _ {s t : List ℕ} {r : ℕ} where
  pub leaf_kind : {a : Atom} → LeafAt s t r a → atom_kind a ≡ kind t r
  leaf_kind l = sym l.row.kind_is

  -- an array's bytes are the last of its row's
  pub leaf_array : {bs : List ℕ} → LeafAt s t r (array bs)
      → (slice (cell t r 2 - length bs) (cell t r 2) s ≡ bs) × (length bs < cell t r 2 - start t r) × (length bs < 65536)
  leaf_array {bs} l =
      let from = start t r in
      let to = cell t r 2 in
      let a = spelled_array bs (slice from to s) l.spells in
      let size : length a.0 + length bs ≡ to - from = sym (length-append a.0 bs) ∙ ap length (sym a.1) ∙ length-slice from to s l.row.ends in
      let place : to - length bs ≡ from + length a.0 = omega (arith, size, a.2, l.row.starts) in (
        ap (λ (k : ℕ). slice k to s) place
            ∙ sym (drop-drop (length a.0) from (take to s))
            ∙ ap (drop (length a.0)) a.1
            ∙ drop_at a.0 bs (length a.0) refl,
        omega (arith, size, a.2),
        omega (arith, size, a.2, l.row.ends, l.row.short),
      )

  -- the other atoms have one way of writing
  pub leaf_nil : LeafAt s t r nil → slice (start t r) (cell t r 2) s ≡ atom_bytes nil
  unfolding atom_bytes
  leaf_nil l = l.spells

  pub leaf_int : {v : ℕ} → LeafAt s t r (int v) → slice (start t r) (cell t r 2) s ≡ atom_bytes (int v)
  unfolding atom_bytes
  leaf_int l = l.spells.1

  pub leaf_ref : {m n : ℕ} → LeafAt s t r (ref m n) → slice (start t r) (cell t r 2) s ≡ atom_bytes (ref m n)
  unfolding atom_bytes
  leaf_ref l = l.spells.2

  pub leaf_fits : {a : Atom} → Bytes s → LeafAt s t r a → Fits a
  leaf_fits {a} b l =
      let own = bytes_drop (start t r) (take (cell t r 2) s) (bytes_take (cell t r 2) s b) in
      (spelled_fits a (slice (start t r) (cell t r 2) s) own l.spells).0

-- Nodes one behind the other

unfoldable pub append_nodes : Nodes → Nodes → Nodes
append_nodes empty fs = fs
append_nodes (cons e es) fs = cons e (append_nodes es fs)

pub markers_append : (es fs : Nodes) → markers_all (append_nodes es fs) ≡ markers_all es ++ markers_all fs
unfolding append_nodes markers_all
markers_append empty fs = refl
markers_append (cons e es) fs =
    ap (λ (l : List ℕ). markers e ++ l) (markers_append es fs) ∙ sym (append_assoc (markers e) (markers_all es) (markers_all fs))

-- Written nodes

-- written nodes of which there is one more, at row r
pub record MoreWritten (s t : List ℕ) (r end : ℕ) (es : Nodes) : Type 0 where
  pub head : Node
  pub rest : Nodes
  pub is : es ≡ cons head rest
  pub node : WrittenAt s t r head
  pub nodes : WrittenAll s t (next t r) end rest
  pub forward : r < next t r
  pub inside : next t r ≤ end

module _ (s t : List ℕ) where
  pub written_order : (r end : ℕ) (es : Nodes) → WrittenAll s t r end es → r ≤ end
  unfolding WrittenAt
  written_order r end empty n = omega (arith, n)
  written_order r end (cons e es) n = omega (arith, n.0, n.1)

  pub written_done : (r end : ℕ) (es : Nodes) → WrittenAll s t r end es → end ≤ r → es ≡ empty
  unfolding WrittenAt
  written_done r end empty n h = refl
  written_done r end (cons e es) n h = absurd (omega (arith, n.0, n.1))

  pub written_more : (r end : ℕ) (es : Nodes) → WrittenAll s t r end es → r < end → MoreWritten s t r end es
  unfolding WrittenAt
  written_more r end empty n h = absurd (omega (arith, n))
  written_more r end (cons e es) n h =
      record { head = e; rest = es; is = refl; node = n.2; nodes = n.3; forward = n.0; inside = n.1 }

  pub written_append : (a b c : ℕ) (es fs : Nodes) → WrittenAll s t a b es → WrittenAll s t b c fs → WrittenAll s t a c (append_nodes es fs)
  unfolding WrittenAt append_nodes
  written_append a b c empty fs n m = subst (λ (k : ℕ). WrittenAll s t k c fs) (sym n) m
  written_append a b c (cons e es) fs n m =
      (n.0, omega (arith, n.1, written_order b c fs m), n.2, written_append (next t a) b c es fs n.3 m)

module _ (s t : List ℕ) (r : ℕ) where
  pub written_row : (e : Node) → WrittenAt s t r e → row e ≡ r
  unfolding WrittenAt
  written_row (leaf q a) n = n.0
  written_row (branch q es) n = n.0
  written_row (bytecode q es o) n = absurd n

  pub written_whole : (e : Node) → WrittenAt s t r e → RowInside t r × (r < 65536)
  unfolding WrittenAt
  written_whole (leaf q a) n = (n.1.row.inside, n.1.row.few)
  written_whole (branch q es) n = (n.1.inside, n.1.few)
  written_whole (bytecode q es o) n = absurd n

  pub written_next : (e : Node) → WrittenAt s t r e → r < next t r
  unfolding WrittenAt
  written_next (leaf q a) n = omega (arith, n.1.on)
  written_next (branch q es) n = omega (arith, written_order s t (r + 1) (next t r) es n.2)
  written_next (bytecode q es o) n = absurd n

  -- what a row's kind tells of the node
  pub written_form : (e : Node) → WrittenAt s t r e → kind t r ≡ 1 → (es : Nodes) × (e ≡ branch r es) × WrittenAll s t (r + 1) (next t r) es
  unfolding WrittenAt
  written_form (leaf q a) n h = absurd (no_form a (leaf_kind n.1 ∙ h))
  written_form (branch q es) n h = (es, ap (λ (k : ℕ). branch k es) n.0, n.2)
  written_form (bytecode q es o) n h = absurd n

  pub written_leaf : (e : Node) → WrittenAt s t r e → (kind t r ≡ 1 → ⊥) → (a : Atom) × (e ≡ leaf r a) × LeafAt s t r a
  unfolding WrittenAt
  written_leaf (leaf q a) n h = (a, ap (λ (k : ℕ). leaf k a) n.0, n.1)
  written_leaf (branch q es) n h = absurd (h n.1.kind_is)
  written_leaf (bytecode q es o) n h = absurd n

-- Transformed nodes

-- nodes of which there is one more, at row r
pub record MoreAt (s t : List ℕ) (flat : Bool) (r end : ℕ) (es : Nodes) : Type 0 where
  pub head : Node
  pub rest : Nodes
  pub is : es ≡ cons head rest
  pub node : NodeAt s t flat r head
  pub nodes : NodesAt s t flat (behind t flat r) end rest
  pub forward : r < behind t flat r
  pub inside : behind t flat r ≤ end

module _ (s t : List ℕ) (flat : Bool) where
  pub nodes_order : (r end : ℕ) (es : Nodes) → NodesAt s t flat r end es → r ≤ end
  unfolding NodeAt
  nodes_order r end empty n = omega (arith, n)
  nodes_order r end (cons e es) n = omega (arith, n.0, n.1)

  pub nodes_done : (r end : ℕ) (es : Nodes) → NodesAt s t flat r end es → end ≤ r → es ≡ empty
  unfolding NodeAt
  nodes_done r end empty n h = refl
  nodes_done r end (cons e es) n h = absurd (omega (arith, n.0, n.1))

  pub nodes_more : (r end : ℕ) (es : Nodes) → NodesAt s t flat r end es → r < end → MoreAt s t flat r end es
  unfolding NodeAt
  nodes_more r end empty n h = absurd (omega (arith, n))
  nodes_more r end (cons e es) n h =
      record { head = e; rest = es; is = refl; node = n.2; nodes = n.3; forward = n.0; inside = n.1 }

  -- the same of nodes that are known to be more
  pub nodes_first : (r end : ℕ) (e : Node) (es : Nodes) → NodesAt s t flat r end (cons e es)
      → (r < end) × NodeAt s t flat r e × NodesAt s t flat (behind t flat r) end es
  unfolding NodeAt
  nodes_first r end e es n = (omega (arith, n.0, n.1), n.2, n.3)

  pub nodes_append : (a b c : ℕ) (es fs : Nodes) → NodesAt s t flat a b es → NodesAt s t flat b c fs → NodesAt s t flat a c (append_nodes es fs)
  unfolding NodeAt append_nodes
  nodes_append a b c empty fs n m = subst (λ (k : ℕ). NodesAt s t flat k c fs) (sym n) m
  nodes_append a b c (cons e es) fs n m =
      (n.0, omega (arith, n.1, nodes_order b c fs m), n.2, nodes_append (behind t flat a) b c es fs n.3 m)

-- One node

module _ {s t : List ℕ} {flat : Bool} {r : ℕ} where
  pub opens_whole : Opens s t flat r → RowInside t r × (r < 65536)
  opens_whole o = go (is_made t flat r) refl
    where
      go : (b : Bool) → is_made t flat r ≡ b → RowInside t r × (r < 65536)
      go true e = let l = (o.by_operator e).leaf_at in (l.row.inside, l.row.few)
      go false e = let l = o.by_row e in (l.inside, l.few)

module _ (s t : List ℕ) (flat : Bool) (r : ℕ) where
  pub node_row : (e : Node) → NodeAt s t flat r e → row e ≡ r
  unfolding NodeAt
  node_row (leaf q a) n = n.0
  node_row (branch q es) n = n.0
  node_row (bytecode q es o) n = n.0

  pub leaf_at : (q : ℕ) (a : Atom) → NodeAt s t flat r (leaf q a) → LeafAt s t r a
  unfolding NodeAt
  leaf_at q a n = n.2

  pub node_whole : (e : Node) → NodeAt s t flat r e → RowInside t r × (r < 65536)
  unfolding NodeAt
  node_whole (leaf q a) n = (n.2.row.inside, n.2.row.few)
  node_whole (branch q es) n = opens_whole n.1
  node_whole (bytecode q es o) n = opens_whole n.1

  pub more_whole : {end : ℕ} {es : Nodes} → MoreAt s t flat r end es → RowInside t r × (r < 65536)
  more_whole f = node_whole f.head f.node

  -- what stands behind a leaf is at the next row
  pub leaf_skipped : (end q : ℕ) (a : Atom) (es : Nodes) → NodesAt s t flat r end (cons (leaf q a) es) → NodesAt s t flat (r + 1) end es
  unfolding NodeAt
  leaf_skipped end q a es n = rw (n.2.1, n.2.2.on) at n.3

-- in a list that is not flat

module _ (s t : List ℕ) (r : ℕ) where
  pub form_row : (q : ℕ) (es : Nodes) → NodeAt s t false r (branch q es) → RowAt s t r 1
  unfolding NodeAt
  form_row q es n = n.1.by_row refl

  pub form_nodes : (q : ℕ) (es : Nodes) → NodeAt s t false r (branch q es) → NodesAt s t false (r + 1) (next t r) es
  unfolding NodeAt
  form_nodes q es n = n.3

  pub node_next_in : (e : Node) → NodeAt s t false r e → r < next t r
  unfolding NodeAt
  node_next_in (leaf q a) n = omega (arith, n.2.on)
  node_next_in (branch q es) n = omega (arith, nodes_order s t false (r + 1) (next t r) es n.3)
  node_next_in (bytecode q es o) n = omega (arith, written_order s t (r + 1) (next t r) es n.4)

  -- what is no form is an atom
  pub kind_leaf : (e : Node) → NodeAt s t false r e → (kind t r ≡ 1 → ⊥) → (a : Atom) × (e ≡ leaf r a) × LeafAt s t r a
  unfolding NodeAt
  kind_leaf (leaf q a) n h = (a, ap (λ (k : ℕ). leaf k a) n.0, n.2)
  kind_leaf (branch q es) n h = absurd (h (n.1.by_row refl).kind_is)
  kind_leaf (bytecode q es o) n h = absurd (h (n.1.by_row refl).kind_is)
