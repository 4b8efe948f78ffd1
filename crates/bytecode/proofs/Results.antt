-- The result of a flat list that is gathered, as the code finds it in the table. Document 02, §1. Assumes nothing.
use Prim.Native.Nat.{ℕ, zero, suc, ◌<◌}
use mathlib.Core.Path.{◌≡◌, refl, sym, ap, ◌∙◌}
use mathlib.Core.List.{List, [], ◌∷◌}
use mathlib.Core.Bool.{Bool, true, false, not}
use borrow.Author.Tests.{eq-eqb, ne_eqb, lt-ltb, le-ltb, le-leb, lt-leb}
use native.Mathlib.Omega.{arith}
use Rattle.spec.specs.Expr.{when◌then◌else◌}
use Rattle.spec.specs.Nodes.{Node, branch, Nodes, empty, cons, row}
use Rattle.spec.specs.Bytecode.{Operator, if_operator, short, Part, nodes, gathered, result_of, linked, transform, parts_of}
use Rattle.spec.proofs.Made.{keep, result}
use Rattle.spec.proofs.Flat.{Role, operator, operand, role, by_operand, by_operator, operator_leaf, without, foremost, first_part_written}
use Rattle.laws.proofs.Basics.{both_false}
use Rattle.rows.specs.Rows.{next, link, ReferenceAt, WrittenAt, WrittenAll, is_made, behind, single}
use Rattle.rows.specs.Forms.{result_at}
use Rattle.rows.specs.declared.forms.Form.{Form}
use Rattle.rows.proofs.Nodes.{written_order, written_row}
use Rattle.bytecode.specs.Numbers.{Changed}
use Rattle.bytecode.specs.Gathered.{Measured, SameMarks, beyond, lacks, GatheredAt, FlatAt, PieceAt, as_written, as_made, PiecesAt, IsPiece, a_form}
use Rattle.bytecode.specs.declared.arities.Arities.{Arities}
use Rattle.bytecode.proofs.Changing.{written_all_kept}
use Rattle.bytecode.proofs.Depths.{measured_within, measured_kept}
use Rattle.bytecode.proofs.Pieces.{piece_node}
use Rattle.bytecode.proofs.Links.{short_lacks, beyond_written, beyond_order, beyond_kept}

module _ (s t : List ℕ) (os : List Operator) where
  -- the first expression, with the row behind it
  module _ (r end : ℕ) (e : Node) (es : Nodes) (here : WrittenAt s t r e) (forward : r < next t r) (behind-it : WrittenAll s t (next t r) end es)
      (is : link t r ≡ if_operator os e (λ n. beyond t n (next t r)) 0) (enough : short os (if_operator os e (λ n. n) 0) es ≡ false) where
    abbrev First : Type 0
    First = (behind t true r ≡ beyond t (if_operator os e (λ n. n) 0) (next t r)) × PieceAt s t true r (foremost os e es)

    first_operand : role os e ≡ operand → First
    unfolding beyond
    first_operand k =
        let made : is_made t true r ≡ false = ap not (eq-eqb (link t r) 0 (is ∙ by_operand os e (λ n. beyond t n (next t r)) 0 k)) in
        (rw (made, by_operand os e (λ n. n) 0 k), rw (by_operand os e (λ n. branch (row e) (cons e (keep n es))) e k) (as_written e made here))

    reference : (n : ℕ) → role os e ≡ operator n → ReferenceAt s t r
    unfolding WrittenAt
    reference n k = let l = operator_leaf os e n k in record { marker = l.1; name = l.2; leaf_at = (rw l.3 at here).1 }

    first_operator : (n : ℕ) → role os e ≡ operator n → First
    unfolding WrittenAt
    first_operator n k =
        let link_is : link t r ≡ beyond t n (next t r) = is ∙ by_operator os e (λ n. beyond t n (next t r)) 0 n k in
        let all : lacks n es ≡ false = (both_false (lacks n es) _ (sym (short_lacks os n es) ∙ (rw (by_operator os e (λ n. n) 0 n k) at enough))).0 in
        let order = beyond_order s t n (next t r) end es behind-it all in
        let made : is_made t true r ≡ true = ap not (ne_eqb (link t r) 0 (λ z. omega (arith, order, link_is, z))) in
        let form = beyond_kept s t n (next t r) end es behind-it all in (
          rw (made, by_operator os e (λ n. n) 0 n k) link_is,
          rw (by_operator os e (λ n. branch (row e) (cons e (keep n es))) e n k, written_row s t r e here)
              (as_made (cons e (keep n es)) made (reference n k) (rw link_is (forward, order, here, form))),
        )

    first_piece : First
    first_piece = go (role os e) refl
      where
        go : (x : Role) → role os e ≡ x → First
        go (operator n) k = first_operator n k
        go operand k = first_operand k

  gathered_pieces : (es : Nodes) (k r end : ℕ) → WrittenAll s t r end es → GatheredAt t os k r es → short os k es ≡ false
      → PiecesAt s t true (beyond t k r) end (nodes (gathered os k (linked (parts_of es))))
  unfolding WrittenAt GatheredAt PiecesAt short beyond nodes gathered linked transform
  gathered_pieces empty zero r end h g q = h
  gathered_pieces empty (suc k) r end h g q = absurd (cc)
  gathered_pieces (cons e es) zero r end h g q =
      let k : ℕ = if_operator os e (λ n. n) 0 in
      let all = (both_false (lacks k es) _ (sym (short_lacks os k es) ∙ q)).0 in
      let order = beyond_order s t k (next t r) end es h.3 all in
      let within = written_order s t (beyond t k (next t r)) end (without k es) (beyond_written s t k (next t r) end es h.3 all) in
      let first = first_piece r end e es h.2 h.0 h.3 g.0 q in
      let node = (first_part_written os e es []).0 in (
        rw first.0 (omega (arith, h.0, order)),
        rw first.0 within,
        rw node first.1,
        rw first.0 (gathered_pieces es k (next t r) end h.3 g.2 q),
      )
  gathered_pieces (cons e es) (suc k) r end h g q = gathered_pieces es k (next t r) end h.3 g.1 q

-- the code's node for the result

module _ (s t : List ℕ) (g : Form) (flat : g.flat ≡ true) (measured : Measured s t g.first g.end) where
  -- the form of all
  whole : (q : ℕ) (es : Nodes) → PiecesAt s t true g.first g.end es → single t g ≡ false → IsPiece s t (result_at t g) (branch q es)
  whole q es h k = rw k (a_form g q es (rw flat h) measured)

  result_piece : (place : ℕ) (ps : List Part) → PiecesAt s t true g.first g.end (nodes ps) → IsPiece s t (result_at t g) (result_of place ps).node
  unfolding nodes PiecesAt
  result_piece place [] h = whole place empty h (rw (le-ltb g.first g.end (omega (arith, h))))
  result_piece place (p ∷ []) h =
      let one : single t g ≡ true = rw (lt-ltb g.first g.end (omega (arith, h.0, h.1)), le-leb g.end (behind t true g.first) (omega (arith, h.3))) in
      rw one (piece_node p.node h.2 (measured_within measured (omega arith) h.1))
  result_piece place (p ∷ o ∷ ps) h =
      whole place (nodes (p ∷ o ∷ ps)) h
      (rw (lt-ltb g.first g.end (omega (arith, h.0, h.1)), lt-leb g.end (behind t true g.first) (omega (arith, h.3.0, h.3.1))))

-- where none is short of operands
pub none_short : (os : List Operator) (es : Nodes) → ◌≡◌ {A = ℕ} 0 (when short os 0 es then 22 else 0) → short os 0 es ≡ false
none_short os es = go (short os 0 es)
  where
    go : (b : Bool) → ◌≡◌ {A = ℕ} 0 (when b then 22 else 0) → b ≡ false
    go true e = absurd (omega (arith, e))
    go false e = refl

-- of a flat list that is gathered
pub flat_result : {s t t' : List ℕ} {a : Arities} {os : List Operator} {es : Nodes} (g : Form) → g.flat ≡ true → FlatAt s t a g.first g.end os es
    → Changed t t' g.first g.end → SameMarks t t' → short os 0 es ≡ false → GatheredAt t' os 0 g.first es → (place : ℕ)
    → IsPiece s t' (result_at t' g) (result place os es)
unfolding beyond
flat_result {s} {t' = t'} {os = os} {es} g flat f c m enough h place =
    let w = written_all_kept s c es g.first g.end f.written in
    result_piece s t' g flat (measured_kept s c (λ r h l. (m r).0) f.measured) place (gathered os 0 (linked (parts_of es)))
    (gathered_pieces s t' os es 0 g.first g.end w h enough)
