-- Laws of pieces: the elements of a list, flat or not, as they are written or made, by the rows that code goes through. Document 02, §1.
-- Assumes nothing.
use Prim.Native.Nat.{ℕ, max, ◌+◌, ◌≤◌, ◌<◌}
use mathlib.Core.Path.{◌≡◌, refl, sym, ap, ◌∙◌}
use mathlib.Core.List.{List}
use mathlib.Core.Bool.{Bool, true, false}
use lib.Dec.{eqb, ltb}
use borrow.Author.Tests.{eq-eqb, ne_eqb, lt-ltb, le-ltb}
use native.Mathlib.Omega.{arith}
use Rattle.spec.specs.Nodes.{Node, leaf, branch, bytecode, Nodes, empty, cons, elements}
use Rattle.spec.specs.Bytecode.{led_by_name, node_depth, nodes_deepest}
use Rattle.laws.specs.Demands.{Bytes}
use Rattle.laws.proofs.Basics.{by_test}
use Rattle.rows.specs.Rows.{RowInside, kind, next, link, WrittenAt, WrittenAll, is_made, behind, written}
use Rattle.rows.specs.Forms.{element_at, HeadAt, head_key, reserved}
use Rattle.rows.specs.declared.forms.Form.{Form}
use Rattle.rows.specs.declared.forms.Node.TheVariants.{Leaf, Branch}
use Rattle.rows.proofs.Nodes.{no_form, leaf_kind, written_whole}
use Rattle.rows.proofs.Parts.{unnamed_kind, head_reserved}
use Rattle.bytecode.specs.Gathered.{Measured, PieceAt, as_written, as_made, PiecesAt, IsPiece, an_atom, a_form, Plain, judged}
use Rattle.bytecode.proofs.Depths.{measured_within}

-- the code's form that is made of the operator at a row
abbrev made_at : List ℕ → ℕ → Form
made_at t r = record { first = r; end = link t r; flat = false }

module _ (s t : List ℕ) where
  pub written_pieces : (r end : ℕ) (es : Nodes) → WrittenAll s t r end es → PiecesAt s t false r end es
  unfolding WrittenAt PiecesAt
  written_pieces r end empty h = h
  written_pieces r end (cons e es) h = (h.0, h.1, as_written e refl h.2, written_pieces (next t r) end es h.3)

  piece_written : (r : ℕ) (e : Node) → PieceAt s t false r e → WrittenAt s t r e
  piece_written r e (as_written f m h) = h
  piece_written r (branch q es) (as_made fs m h w) = absurd (cc)

  pub pieces_written : (r end : ℕ) (es : Nodes) → PiecesAt s t false r end es → WrittenAll s t r end es
  unfolding WrittenAt PiecesAt
  pieces_written r end empty h = h
  pieces_written r end (cons e es) h = (h.0, h.1, piece_written r e h.2, pieces_written (next t r) end es h.3)

module _ {s t : List ℕ} {flat : Bool} {r : ℕ} where
  pub piece_inside : {e : Node} → PieceAt s t flat r e → RowInside t r × (r < 65536)
  piece_inside (as_written e m h) = written_whole s t r e h
  piece_inside (as_made es m h w) = (h.leaf_at.row.inside, h.leaf_at.row.few)

  -- the code's node for it
  pub piece_node : (e : Node) → PieceAt s t flat r e → Measured s t r (behind t flat r) → IsPiece s t (element_at t flat r) e
  unfolding WrittenAt
  piece_node (leaf q a) (as_written e m h) d = rw (ne_eqb (kind t r) 1 (λ k. no_form a (leaf_kind h.1 ∙ k)), m) (an_atom q a)
  piece_node (branch q es) (as_written e m h) d =
      rw (eq-eqb (kind t r) 1 h.1.kind_is)
      (a_form (written t r) q es (written_pieces s t (r + 1) (next t r) es h.2) (measured_within (rw m at d) (omega arith) (omega arith)))
  piece_node (branch q es) (as_made fs m h w) d =
      rw (ne_eqb (kind t r) 1 (λ k. omega (arith, h.leaf_at.row.kind_is)), m) (a_form (made_at t r) r fs (written_pieces s t r (link t r) fs w) (rw m at d))
  piece_node (bytecode q es o) (as_written e m h) d = absurd h

-- the code's node for an element is no flat list
pub element_plain : (t : List ℕ) (flat : Bool) (r : ℕ) → Plain (element_at t flat r)
element_plain t flat r = by_test Plain (eqb (kind t r) 1) (λ k. refl) (λ k. by_test Plain (is_made t flat r) (λ h. rw h) (λ h. tt))

-- what the code's node tells
pub record FormPiece (s t : List ℕ) (flat : Bool) (first end : ℕ) (e : Node) : Type 0 where
  pub pieces : PiecesAt s t flat first end (elements e)
  pub measured : Measured s t first end
  pub depth : node_depth e ≡ nodes_deepest (elements e) + 1

module _ {s t : List ℕ} where
  pub atom_height : {e : Node} → IsPiece s t Leaf e → 0 ≡ node_depth e
  unfolding node_depth
  atom_height (an_atom q a) = refl

  pub atom_judged : {e : Node} → IsPiece s t Leaf e → 0 ≡ judged e
  unfolding node_depth
  atom_judged (an_atom q a) = refl

  pub form_piece : {f : Form} {e : Node} → IsPiece s t (Branch f) e → FormPiece s t f.flat f.first f.end e
  unfolding node_depth
  form_piece (a_form f q es h m) = record { pieces = h; measured = m; depth = omega arith }

  -- a form that is no flat list has its elements written
  module _ {f : Form} (plain : f.flat ≡ false) {e : Node} (h : IsPiece s t (Branch f) e) where
    pub plain_written : WrittenAll s t f.first f.end (elements e)
    plain_written = pieces_written s t f.first f.end (elements e) (rw plain at (form_piece h).pieces)

    pub plain_height : (n : ℕ) → ((s : List ℕ) (es : Nodes) → WrittenAll s t f.first f.end es → Measured s t f.first f.end → n ≡ nodes_deepest es) → n + 1 ≡ node_depth e
    plain_height n deepest = let p = form_piece h in omega (arith, p.depth, deepest s (elements e) plain_written p.measured)

-- One after the other

-- of pieces of which there is one more: the first, and the others
pub record MorePieces (s t : List ℕ) (flat : Bool) (r end : ℕ) (es : Nodes) : Type 0 where
  pub head : Node
  pub rest : Nodes
  pub is : es ≡ cons head rest
  pub piece : PieceAt s t flat r head
  pub pieces : PiecesAt s t flat (behind t flat r) end rest
  pub forward : r < behind t flat r
  pub within : behind t flat r ≤ end
  pub inside : RowInside t r
  pub few : r < 65536

module _ (s t : List ℕ) (flat : Bool) (r end : ℕ) where
  pub pieces_more : (es : Nodes) → PiecesAt s t flat r end es → r < end → MorePieces s t flat r end es
  unfolding PiecesAt
  pieces_more empty h l = absurd (omega arith)
  pieces_more (cons e es) h l =
      let i = piece_inside h.2 in
      record { head = e; rest = es; is = refl; piece = h.2; pieces = h.3; forward = h.0; within = h.1; inside = i.0; few = i.1 }

  pub pieces_done : (es : Nodes) → PiecesAt s t flat r end es → end ≤ r → es ≡ empty
  unfolding PiecesAt
  pieces_done empty h l = refl
  pieces_done (cons e es) h l = absurd (omega (arith, h.0, h.1))

-- the head of a form

module _ (s t : List ℕ) (f : Form) where
  piece_head : (e : Node) (es : Nodes) → PieceAt s t f.flat f.first e → f.first < f.end → HeadAt s t f (cons e es)
  unfolding HeadAt WrittenAt
  piece_head (leaf q a) es (as_written e m h) l = (l, m, h.1)
  piece_head (branch q fs) es (as_written e m h) l =
      (l, (λ i. (h.1.inside, h.1.few)), unnamed_kind t f (λ k. omega (arith, h.1.kind_is)))
  piece_head (branch q fs) es (as_made gs m h w) l = (l, (λ i. (h.leaf_at.row.inside, h.leaf_at.row.few)), rw (lt-ltb f.first f.end l, m))
  piece_head (bytecode q fs o) es (as_written e m h) l = absurd h

  pub pieces_head : (es : Nodes) → PiecesAt s t f.flat f.first f.end es → HeadAt s t f es
  unfolding PiecesAt HeadAt
  pieces_head empty h = h
  pieces_head (cons e es) h = piece_head e es h.2 (omega (arith, h.0, h.1))

-- whether a function or bytecode name heads it, by the key that the code reads
pub piece_reserved : {s t : List ℕ} {f : Form} {e : Node} {k : ℕ} → Bytes s → IsPiece s t (Branch f) e → ((es : Nodes) → HeadAt s t f es → k ≡ head_key es)
    → reserved k ≡ led_by_name (elements e)
piece_reserved {s} {t} {f} {e} bytes h read =
    let head = pieces_head s t f (elements e) (form_piece h).pieces in
    ap reserved (read (elements e) head) ∙ head_reserved s t f bytes (elements e) head

-- the elements of an expression that are left from a row on, where none before is higher than 63
pub record LeftPieces (s t : List ℕ) (flat : Bool) (first end : ℕ) (e : Node) (r : ℕ) : Type 0 where
  pub rest : Nodes
  pub from : first ≤ r
  pub pieces : PiecesAt s t flat r end rest
  pub measured : Measured s t first end
  pub least : nodes_deepest rest < node_depth e
  pub most : node_depth e ≤ max 64 (nodes_deepest rest + 1)

pub left_pieces : {s t : List ℕ} {flat : Bool} {first end : ℕ} {e : Node} → FormPiece s t flat first end e → LeftPieces s t flat first end e first
left_pieces {e = e} p =
    record { rest = elements e; from = omega arith; pieces = p.pieces; measured = p.measured; least = omega (arith, p.depth); most = omega (arith, p.depth) }

module _ {s t : List ℕ} {flat : Bool} {first end : ℕ} {e : Node} {r : ℕ} (a : LeftPieces s t flat first end e r) where
  pub left_done : end ≤ r → false ≡ ltb 64 (node_depth e)
  unfolding node_depth
  left_done l = sym (le-ltb 64 (node_depth e) (omega (arith, a.most, ap nodes_deepest (pieces_done s t flat r end a.rest a.pieces l))))

  module _ (l : r < end) where
    pub left_more : MorePieces s t flat r end a.rest
    left_more = pieces_more s t flat r end a.rest a.pieces l

    -- the code's node for the first
    pub left_node : IsPiece s t (element_at t flat r) left_more.head
    left_node = let p = left_more in piece_node p.head p.piece (measured_within a.measured a.from p.within)

    pub left_next : node_depth left_more.head ≤ 63 → LeftPieces s t flat first end e (behind t flat r)
    unfolding node_depth
    left_next d =
        let p = left_more in
        let is = ap nodes_deepest p.is in
        record {
          rest = p.rest;
          from = omega (arith, a.from, p.forward);
          pieces = p.pieces;
          measured = a.measured;
          least = omega (arith, a.least, is);
          most = omega (arith, a.most, is);
        }

    pub left_deep : 63 < node_depth left_more.head → true ≡ ltb 64 (node_depth e)
    unfolding node_depth
    left_deep d = sym (lt-ltb 64 (node_depth e) (omega (arith, a.least, ap nodes_deepest left_more.is)))
