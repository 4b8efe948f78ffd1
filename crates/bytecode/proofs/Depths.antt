-- Laws of heights: the larger of two, and the largest of those written from a row up to another. Document 02, §1: "forms one inside another".
-- Assumes nothing.
use Prim.Native.Nat.{ℕ, max, ◌+◌, ◌-◌, ◌≤◌, ◌<◌}
use mathlib.Core.Path.{◌≡◌, refl, sym, ap, ◌∙◌}
use mathlib.Core.List.{List}
use native.Mathlib.Decide.{ℕ_discrete, dec_lt}
use native.Mathlib.Omega.{arith}
use lib.Dec.{eqb}
use borrow.Author.Tests.{eq-eqb, ne_eqb}
use Rattle.spec.specs.Nodes.{Node, leaf, branch, bytecode, Nodes, empty, cons}
use Rattle.spec.specs.Bytecode.{node_depth, nodes_deepest}
use Rattle.laws.proofs.Basics.{by_test}
use Rattle.rows.specs.Rows.{RowInside, kind, mark, link, next, WrittenAt, WrittenAll}
use Rattle.rows.proofs.Nodes.{MoreWritten, no_form, leaf_kind, written_done, written_more, written_form, written_whole}
use Rattle.bytecode.specs.Numbers.{child, Changed}
use Rattle.bytecode.specs.Gathered.{Measurable, Measured, height, SameLinks, SameOthers}
use Rattle.bytecode.proofs.Changing.{same_mark, same_elsewhere, changed_none, changed_wider, changed_back, changed_then, written_kept, written_all_kept}
use Rattle.bytecode.proofs.Links.{at_one}

pub height_form : (t : List ℕ) (r : ℕ) → kind t r ≡ 1 → height t r ≡ mark t r
height_form t r h = rw (eq-eqb (kind t r) 1 h)

pub height_other : (t : List ℕ) (r : ℕ) → (kind t r ≡ 1 → ⊥) → height t r ≡ 0
height_other t r h = rw (ne_eqb (kind t r) 1 h)

pub height_small : (t : List ℕ) (r : ℕ) → height t r < 128
height_small t r = by_test (λ n. n < 128) (eqb (kind t r) 1) (λ h. omega arith) (λ h. omega arith)

-- fewer rows
pub measured_within : {s t : List ℕ} {from to from' to' : ℕ} → Measured s t from to → from ≤ from' → to' ≤ to → Measured s t from' to'
measured_within m l g = record { marks = λ r q es h k. m.marks r q es (omega arith) (omega arith) }

-- in another table with the same marks there
pub measured_kept : (s : List ℕ) {t t' : List ℕ} {a b from to : ℕ} → Changed t t' a b → ((r : ℕ) → from ≤ r → r < to → mark t' r ≡ mark t r)
    → Measured s t from to → Measured s t' from to
measured_kept s c same m =
    record { marks = λ r q es h l w. same r h l ∙ m.marks r q es h l (written_kept s (changed_back c) (branch q es) r w) }

-- of an expression where all are measured
pub height_written : (s t : List ℕ) (from to r : ℕ) (e : Node) → Measured s t from to → from ≤ r → r < to → WrittenAt s t r e → height t r ≡ node_depth e
unfolding WrittenAt node_depth
height_written s t from to r (leaf q a) m l g h = height_other t r (λ k. no_form a (leaf_kind h.1 ∙ k))
height_written s t from to r (branch q es) m l g h = height_form t r h.1.kind_is ∙ m.marks r q es l g h
height_written s t from to r (bytecode q es o) m l g h = absurd h

-- those that are left from a row on, where the highest before are that high
pub record LeftAt (s t : List ℕ) (first end : ℕ) (es : Nodes) (r so_far : ℕ) : Type 0 where
  pub rest : Nodes
  pub from : first ≤ r
  pub written : WrittenAll s t r end rest
  pub highest : Measured s t first end → max so_far (nodes_deepest rest) ≡ nodes_deepest es

module _ {s t : List ℕ} {first end : ℕ} {es : Nodes} where
  pub left_more : {r n : ℕ} → (a : LeftAt s t first end es r n) → r < end → MoreWritten s t r end a.rest
  left_more {r} a l = written_more s t r end a.rest a.written l

  pub left_next : {r n : ℕ} → LeftAt s t first end es r n → r < end → LeftAt s t first end es (next t r) (max n (height t r))
  unfolding node_depth
  left_next {r} {n} a l =
      let more = left_more a l in
      record {
        rest = more.rest;
        from = omega (arith, a.from, more.forward);
        written = more.nodes;
        highest = λ m.
            omega (arith, a.highest m, ap nodes_deepest more.is, height_written s t first end r more.head m a.from l more.node);
      }

  pub left_none : {r n : ℕ} → LeftAt s t first end es r n → end ≤ r → Measured s t first end → n ≡ nodes_deepest es
  unfolding node_depth
  left_none {r} a l m = omega (arith, a.highest m, ap nodes_deepest (written_done s t r end a.rest a.written l))

-- Marks

-- the forms from a row on are marked
pub record Marked (t t' : List ℕ) (rows r : ℕ) : Type 0 where
  pub low : r ≤ rows
  pub changed : Changed t t' 0 rows
  pub links : SameLinks t t'
  pub others : SameOthers t t'
  pub measured : (s : List ℕ) → Measured s t' r rows

pub marked_none : (t : List ℕ) (rows : ℕ) → Marked t t rows rows
marked_none t rows =
    record { low = omega arith; changed = changed_none t 0 rows; links = λ r. (refl, refl); others = λ r h. refl; measured = λ s. record { marks = λ r q es l g. absurd (omega arith) } }

-- every row is of an expression, which is no higher than all
pub record AtRow (s t : List ℕ) (r end highest : ℕ) : Type 0 where
  pub node : Node
  pub written : WrittenAt s t r node
  pub within : next t r ≤ end
  pub low : node_depth node ≤ highest

lower : {s t : List ℕ} {r end end' n n' : ℕ} → AtRow s t r end n → end ≤ end' → n ≤ n' → AtRow s t r end' n'
lower a l m = record { node = a.node; written = a.written; within = omega (arith, a.within); low = omega (arith, a.low) }

module _ (s t : List ℕ) where
  mutual
    unfolding WrittenAt node_depth

    inner_row : (r : ℕ) (e : Node) → WrittenAt s t r e → (q : ℕ) → r < q → q < next t r → AtRow s t q (next t r) (node_depth e)
    inner_row r (leaf p a) h q l m = absurd (omega (arith, h.1.on))
    inner_row r (branch p es) h q l m = lower (each_row (r + 1) (next t r) es h.2 q (omega arith) m) (omega arith) (omega arith)
    inner_row r (bytecode p es o) h q l m = absurd h

    each_row : (r end : ℕ) (es : Nodes) → WrittenAll s t r end es → (q : ℕ) → r ≤ q → q < end → AtRow s t q end (nodes_deepest es)
    each_row r end empty h q l m = absurd (omega (arith, h))
    each_row r end (cons e es) h q l m =
        elim (dec_lt r q) [
          | yes after ↦ elim (dec_lt q (next t r)) [
            | yes inside ↦ lower (inner_row r e h.2 q after inside) h.1 (omega arith)
            | no beyond ↦ lower (each_row (next t r) end es h.3 q (omega arith) m) (omega arith) (omega arith)
          ]
          | no here ↦ (let same : q ≡ r = omega arith in record { node = e; written = rw same h.2; within = rw same h.1; low = omega arith })
        ]

-- what is written at a row
pub marked_at : {t t' : List ℕ} {rows r : ℕ} (m : Measurable t rows) → Marked t t' rows r → (q : ℕ) → q < rows → AtRow m.stream t' q rows 64
marked_at {t' = t'} {rows} m k q l =
    let w = written_all_kept m.stream k.changed m.nodes 0 rows m.written in
    lower (each_row m.stream t' 0 rows m.nodes w q (omega arith) l) (omega arith) m.shallow

-- a form at a row; what is inside is lower than so many
pub record FormAt (s t : List ℕ) (r end highest : ℕ) : Type 0 where
  pub elements : Nodes
  pub written : WrittenAll s t (r + 1) (next t r) elements
  pub within : next t r ≤ end
  pub low : nodes_deepest elements < highest

-- the row before those that are marked
module _ {t t' : List ℕ} {rows p : ℕ} (m : Measurable t rows) (k : Marked t t' rows p) (some : 0 < p) where
  at : AtRow m.stream t' (p - 1) rows 64
  at = marked_at m k (p - 1) (omega (arith, k.low))

  pub marked_inside : RowInside t' (p - 1)
  marked_inside = (written_whole m.stream t' (p - 1) at.node at.written).0

  module _ (is : kind t' (p - 1) ≡ 1) where
    pub form_at : FormAt m.stream t' (p - 1) rows 64
    unfolding node_depth
    form_at =
        let e = written_form m.stream t' (p - 1) at.node at.written is in
        record { elements = e.0; written = e.2; within = at.within; low = omega (arith, ap node_depth e.1, at.low) }

    -- how high its elements are
    pub form_low : (n : ℕ) → ((s : List ℕ) (es : Nodes) → WrittenAll s t' (p - 1 + 1) (next t' (p - 1)) es → Measured s t' (p - 1 + 1) (next t' (p - 1)) → n ≡ nodes_deepest es)
        → n < 64
    form_low n h =
        let f = form_at in
        omega (arith, f.low, h m.stream f.elements f.written (measured_within (k.measured m.stream) (omega arith) f.within))

module _ {t t' : List ℕ} {rows r p : ℕ} (k : Marked t t' rows p) (one : p ≡ r + 1) where
  -- the row before is no form's
  pub marked_other : (kind t' r ≡ 1 → ⊥) → Marked t t' rows r
  unfolding WrittenAt
  marked_other n =
      record {
        low = omega (arith, k.low);
        changed = k.changed;
        links = k.links;
        others = k.others;
        measured = λ s. record {
          marks = λ q i es l g h.
              elim (ℕ_discrete q r) [ yes e ↦ absurd (n (rw (← e) h.1.kind_is)) | no d ↦ (k.measured s).marks q i es (omega arith) g h ];
        };
      }

  -- the form there is marked
  pub marked_form : {t'' : List ℕ} (n : ℕ) → kind t' r ≡ 1 → next t' r ≤ rows
      → ((s : List ℕ) (es : Nodes) → WrittenAll s t' (r + 1) (next t' r) es → Measured s t' (r + 1) (next t' r) → n ≡ nodes_deepest es)
      → Changed t' t'' r (r + 1) → mark t'' r ≡ n + 1 → (link t'' r ≡ link t' r) × (child t'' 1 r ≡ child t' 1 r) → Marked t t'' rows r
  unfolding WrittenAt node_depth
  marked_form {t''} n is within deepest c m same =
      record {
        low = omega (arith, k.low);
        changed = changed_then k.changed (changed_wider c 0 rows (omega arith) (omega (arith, k.low)));
        links = λ q.
            let o = at_one (λ j. (link t'' j ≡ link t' j) × (child t'' 1 j ≡ child t' 1 j)) c same (λ j e. rw (e.first, e.second) (refl, refl)) q in
            (o.0 ∙ (k.links q).0, o.1 ∙ (k.links q).1);
        others = λ q h.
            elim (ℕ_discrete q r) [
              | yes e ↦ absurd (h (sym (k.changed.same_rows q).same_kind ∙ rw e is))
              | no d ↦ same_mark (same_elsewhere c q (omega arith) d) ∙ k.others q h
            ];
        measured = λ s. record {
          marks = λ q i es l g h.
              let w = written_kept s (changed_back c) (branch i es) q h in
              elim (ℕ_discrete q r) [
                | yes e ↦ (let d = deepest s es (rw e at w).2 (measured_within (k.measured s) (omega arith) within) in rw e (omega (arith, m, d)))
                | no d ↦ rw (c.behind q (omega arith)).first ((k.measured s).marks q i es (omega arith) g w)
              ];
        };
      }
