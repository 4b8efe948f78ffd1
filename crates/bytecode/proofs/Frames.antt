-- Laws of `Holds` and `Fresh`: what is left of a list behind its first expression, and the lists inside that one. Document 02, §1.
-- Assumes nothing.
use Prim.Native.Nat.{ℕ, zero, suc, ◌+◌, ◌≤◌, ◌<◌}
use mathlib.Core.Path.{◌≡◌, sym, ◌∙◌, fun_ext}
use mathlib.Core.List.{List, []}
use mathlib.Core.Bool.{false}
use native.Mathlib.Omega.{arith}
use Rattle.spec.specs.Expr.{ref}
use Rattle.spec.specs.Nodes.{Node, leaf, branch, Nodes, empty, cons}
use Rattle.spec.specs.Bytecode.{Operator, short}
use Rattle.spec.proofs.Made.{keep}
use Rattle.spec.proofs.Flat.{operator, operand, role, by_operand, by_operator, operator_leaf, none_listed, without, short_none, short_operands}
use Rattle.laws.proofs.Basics.{both_false}
use Rattle.rows.specs.Rows.{link, next, WrittenAt, WrittenAll}
use Rattle.rows.proofs.Nodes.{written_order}
use Rattle.bytecode.specs.Numbers.{Same, Changed, Unlinked}
use Rattle.bytecode.specs.Gathered.{beyond, lacks, GatheredAt}
use Rattle.bytecode.specs.Frames.{operators_in, Frame, Holds, going_on, inside}
use Rattle.bytecode.specs.Scanned.{Fresh}
use Rattle.bytecode.proofs.Links.{short_lacks, beyond_kept, beyond_written, operands_gathered, beyond_changed, unlinked_kept, gathered_operand}
use Rattle.bytecode.proofs.Depths.{measured_within, measured_kept}
use Rattle.bytecode.proofs.Changing.{same_mark, same_link, written_all_kept}

-- Numbers that are put elsewhere

module _ (s : List ℕ) {t t' : List ℕ} {a b : ℕ} (c : Changed t t' a b) where
  pub gathered_kept : (os : List Operator) (k r end : ℕ) (es : Nodes) → WrittenAll s t r end es → ((q : ℕ) → r ≤ q → q < end → Same t t' q)
      → GatheredAt t os k r es → GatheredAt t' os k r es
  unfolding GatheredAt WrittenAll
  gathered_kept os k r end empty w same g = tt
  gathered_kept os zero r end (cons e es) w same g =
      let far : ◌≡◌ {A = ℕ → ℕ} (λ n. beyond t' n (next t r)) (λ n. beyond t n (next t r)) = fun_ext (λ n. beyond_changed c n (next t r)) in
      rw ((c.same_rows r).same_next, far, same_link (same r (omega arith) (omega (arith, w.0, w.1)))) (
        g.0,
        unlinked_kept (r + 1) (next t r) (λ q h l. same q (omega arith) (omega (arith, w.1))) g.1,
        gathered_kept os _ (next t r) end es w.3 (λ q h l. same q (omega (arith, w.0)) l) g.2,
      )
  gathered_kept os (suc k) r end (cons e es) w same g =
      rw (c.same_rows r).same_next (
        unlinked_kept r (next t r) (λ q h l. same q h (omega (arith, w.1))) g.0,
        gathered_kept os k (next t r) end es w.3 (λ q h l. same q (omega (arith, w.0)) l) g.1,
      )

  pub fresh_kept : (from to : ℕ) (es : Nodes) → ((q : ℕ) → from ≤ q → q < to → Same t t' q) → Fresh s t from to es → Fresh s t' from to es
  fresh_kept from to es same h = record {
    written = written_all_kept s c es from to h.written;
    unlinked = unlinked_kept from to same h.unlinked;
    unmarked = λ r g l k. same_mark (same r g l) ∙ h.unmarked r g l (sym (c.same_rows r).same_kind ∙ k);
    measured = measured_kept s c (λ r g l. same_mark (same r g l)) h.measured;
  }

  pub holds_kept : (f : Frame) → ((q : ℕ) → f.first ≤ q → q < f.end → Same t t' q) → Holds s t f → Holds s t' f
  holds_kept f same h = record {
    written = written_all_kept s c f.elements f.first f.end h.written;
    operators = gathered_kept (operators_in f.mode) 0 f.first f.end f.elements h.written same h.operators;
    enough = h.enough;
    unmarked = λ r g l k. same_mark (same r g l) ∙ h.unmarked r g l (sym (c.same_rows r).same_kind ∙ k);
    measured = measured_kept s c (λ r g l. same_mark (same r g l)) h.measured;
  }

-- Rows as they were read

module _ (s t : List ℕ) where
  bare_gathered : (r end : ℕ) (es : Nodes) → WrittenAll s t r end es → Unlinked t r end → GatheredAt t [] 0 r es
  unfolding GatheredAt WrittenAll
  bare_gathered r end empty w u = tt
  bare_gathered r end (cons e es) w u =
      gathered_operand t [] r e es (none_listed e) w.0 (λ q h l. u q h (omega (arith, w.1)))
      (bare_gathered (next t r) end es w.3 (λ q h l. u q (omega (arith, w.0)) l))

  -- the elements of a form
  pub fresh_holds : (f : Frame) (from to : ℕ) (es : Nodes) → Fresh s t from to es → Holds s t (inside f from to es)
  fresh_holds f from to es h = record {
    written = h.written;
    operators = bare_gathered from to es h.written h.unlinked;
    enough = short_none es;
    unmarked = h.unmarked;
    measured = h.measured;
  }

  -- behind its head
  pub fresh_next : (from to : ℕ) (e : Node) (es : Nodes) → Fresh s t from to (cons e es) → Fresh s t (next t from) to es
  unfolding WrittenAll
  fresh_next from to e es h = let w = h.written in
      record {
        written = w.3;
        unlinked = λ r g l. h.unlinked r (omega (arith, w.0)) l;
        unmarked = λ r g l. h.unmarked r (omega (arith, w.0)) l;
        measured = measured_within h.measured (omega (arith, w.0)) (omega arith);
      }

-- The first expression of a list, and those behind it

module _ (s t : List ℕ) (f : Frame) (e : Node) (es : Nodes) (h : Holds s t f) (is : f.elements ≡ cons e es) where
  abbrev os : List Operator
  os = operators_in f.mode

  written : WrittenAll s t f.first f.end (cons e es)
  written = rw is at h.written

  gathered : GatheredAt t os 0 f.first (cons e es)
  gathered = rw is at h.operators

  enough : short os 0 (cons e es) ≡ false
  enough = rw is at h.enough

  -- the expression is an operand
  pub holds_next : role os e ≡ operand → Holds s t (going_on f (next t f.first) es)
  unfolding WrittenAll GatheredAt short written gathered enough
  holds_next k = record {
    written = written.3;
    operators = rw (by_operand os e (λ n. n) 0 k) at gathered.2;
    enough = rw (by_operand os e (λ n. n) 0 k, short) at enough;
    unmarked = λ r g l. h.unmarked r (omega (arith, written.0)) l;
    measured = measured_within h.measured (omega (arith, written.0)) (omega arith);
  }

  -- a form that is written
  pub holds_branch : (q : ℕ) (gs : Nodes) → e ≡ branch q gs → Fresh s t (f.first + 1) (next t f.first) gs
  unfolding WrittenAll GatheredAt written gathered
  holds_branch q gs i =
      let w : WrittenAt s t f.first (branch q gs) = rw i at written.2 in
      record {
        written = w.2;
        unlinked = gathered.1;
        unmarked = λ r g l. h.unmarked r (omega arith) (omega (arith, written.1));
        measured = measured_within h.measured (omega arith) (omega (arith, written.1));
      }

  -- an operator with its operands
  pub record MadeFirst (n : ℕ) : Type 0 where
    pub fresh : Fresh s t (f.first + 1) (link t f.first) (keep n es)
    pub rest : Holds s t (going_on f (link t f.first) (without n es))

  pub holds_made : (n : ℕ) → role os e ≡ operator n → MadeFirst n
  unfolding WrittenAll GatheredAt short written gathered enough
  holds_made n k =
      let first = next t f.first in
      let l = operator_leaf os e n k in
      let w : WrittenAt s t f.first (leaf l.0 (ref l.1 l.2)) = rw l.3 at written.2 in
      let on : first ≡ f.first + 1 = w.1.on in
      let is : link t f.first ≡ beyond t n first = gathered.0 ∙ by_operator os e _ 0 n k in
      let count = both_false (lacks n es) _ (sym (short_lacks os n es) ∙ short_operands os e es n k enough) in
      let own = beyond_kept s t n first f.end es written.3 count.0 in
      let others = beyond_written s t n first f.end es written.3 count.0 in
      let links = operands_gathered s t os n first f.end es written.3 count.0 (rw (by_operator os e (λ n. n) 0 n k) at gathered.2) in
      let past = written_order s t first (beyond t n first) (keep n es) own in
      let last = written_order s t (beyond t n first) f.end (without n es) others in
      record {
        fresh = record {
          written = rw (← on, is) own;
          unlinked = rw (← on, is) links.0;
          unmarked = λ r g z. h.unmarked r (omega arith) (omega arith);
          measured = measured_within h.measured (omega arith) (omega arith);
        };
        rest = record {
          written = rw is others;
          operators = rw is links.1;
          enough = count.1;
          unmarked = λ r g z. h.unmarked r (omega arith) z;
          measured = measured_within h.measured (omega arith) (omega arith);
        };
      }
