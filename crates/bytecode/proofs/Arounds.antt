-- Laws of the lists around a row in the table: what they keep where other rows are changed. Document 02, §1. Assumes nothing.
use Prim.Native.Nat.{ℕ, ◌-◌, ◌≤◌, ◌<◌}
use mathlib.Core.Path.{◌≡◌, refl, sym, ap, ◌∙◌}
use mathlib.Core.List.{List, ◌∷◌}
use lib.Dec.{eqb}
use borrow.Author.Tests.{eq-eqb, ne_eqb}
use native.Mathlib.Decide.{ℕ_discrete}
use native.Mathlib.Omega.{arith}
use Rattle.std.specs.Prelude.{None}
use Rattle.spec.specs.Expr.{when◌then◌else◌}
use Rattle.spec.specs.Bytecode.{Operator, Around, all}
use Rattle.rows.specs.Rows.{mark, link, next, ReferenceAt}
use Rattle.bytecode.specs.Numbers.{Changed, Unlisted}
use Rattle.bytecode.specs.Named.{arity_of, arity_by, KeyAt, Entered, Nested, outermost, inside, Arounds}
use Rattle.bytecode.proofs.Changing.{leaf_kept, changed_back, same_mark, same_link, same_child}
use Rattle.bytecode.proofs.Named.{arity_at_same, tree_found, tree_kept, key_kept}

pub reference_kept : {s t t' : List ℕ} {a b r : ℕ} → Changed t t' a b → ReferenceAt s t r → ReferenceAt s t' r
reference_kept {s} c x = record { marker = x.marker; name = x.name; leaf_at = leaf_kept s c x.leaf_at }

-- what holds of the rows before `end` and of the keys that the tree of all has
pub record Steady (s t t' : List ℕ) (end : ℕ) (node node' : ℕ → ℕ) : Type 0 where
  pub from : ℕ
  pub to : ℕ
  pub changed : Changed t t' from to
  pub nodes : (k : ℕ) → 0 < node k → node' k ≡ node k
  pub marks : (r k : ℕ) → r < end → KeyAt s t r k → 63 ≤ mark t r → (63 ≤ mark t' r) × ((node k ≡ r → ⊥) → mark t' r ≡ mark t r)
  pub plain : (r : ℕ) → r < end → Unlisted t r → (mark t' r ≡ mark t r) × (link t' r ≡ link t r)

module _ {s t t' : List ℕ} {end : ℕ} {node node' : ℕ → ℕ} (c : Steady s t t' end node node') where
  plain_stays : (r : ℕ) → r < end → Unlisted t r → Unlisted t' r
  plain_stays r l p k = rw (c.plain r l p).0 (p (sym (c.changed.same_rows r).same_kind ∙ k))

  -- what a key is outside, by its own reference
  outside_stays : (outer : List Operator) (r k : ℕ) → ((node k ≡ r → ⊥) → mark t' r ≡ mark t r)
      → arity_of outer k ≡ (when eqb (node k) r then None else arity_by (mark t r)) → arity_of outer k ≡ (when eqb (node k) r then None else arity_by (mark t' r))
  outside_stays outer r k m e = elim (ℕ_discrete (node k) r) [
    | yes z ↦ e ∙ rw (eq-eqb (node k) r z)
    | no z ↦ e ∙ rw (ne_eqb (node k) r z) (ap arity_by (sym (m z)))
  ]

  pub entered_kept : {list : ℕ} {os outer : List Operator} → next t list ≤ end → Entered s t node list os outer → Entered s t' node' list os outer
  entered_kept {list} {os} {outer} ends e =
      let same : next t' list ≡ next t list = (c.changed.same_rows list).same_next in
      record {
        keeps = λ r k i j x.
            let y = key_kept (changed_back c.changed) x in
            let old = e.keeps r k i (omega (arith, same)) y in
            let m = c.marks r k (omega (arith, same)) y old.2 in
            let n = c.nodes k old.0 in
            rw n (old.0, old.1, m.0, outside_stays outer r k m.1 old.3);
        named = λ k n h. let q = e.named k n h in (q.0, q.1, omega (arith, same, q.2), key_kept c.changed q.3);
        references = λ r i j h. reference_kept c.changed (e.references r i (omega (arith, same)) (sym (c.changed.same_rows r).same_kind ∙ h));
        inside = omega (arith, same, e.inside, c.changed.same_length);
        low = e.low;
        begins = omega (arith, same, e.begins);
        head = plain_stays (list - 1) (omega (arith, e.begins)) e.head;
        form = plain_stays list (omega (arith, e.begins)) e.form;
      }

  pub nested_kept : {list : ℕ} {around : Around} → (0 < list → next t list ≤ end) → Nested s t node list around → Nested s t' node' list around
  nested_kept ends outermost = outermost
  nested_kept ends (inside list os around e low beyond rest) =
      let within : next t list ≤ end = ends e.low in
      let same : link t' list ≡ link t list = (c.plain list (omega (arith, e.begins)) e.form).1 in
      let outer = nested_kept (λ z. omega (arith, beyond z, e.begins)) rest in
      inside list os around (entered_kept within e) (omega (arith, same))
      (λ z. rw (same, (c.changed.same_rows (link t list)).same_next) (beyond (omega (arith, same))))
      (rw same outer)

-- a list begins before it ends
pub nested_begins : {s t : List ℕ} {node : ℕ → ℕ} {list : ℕ} {around : Around} → Nested s t node list around → 0 < list → list < next t list
nested_begins outermost h = absurd (omega arith)
nested_begins (inside list os around e low beyond rest) h = e.begins

-- the nearest list
pub record Inner (s t : List ℕ) (node : ℕ → ℕ) (list : ℕ) (os : List Operator) (around : Around) : Type 0 where
  pub entered : Entered s t node list os (all around)
  pub lower : link t list < list
  pub beyond : 0 < link t list → next t (link t list) ≤ list
  pub rest : Nested s t node (link t list) around

pub nested_inner : {s t : List ℕ} {node : ℕ → ℕ} {list : ℕ} {os : List Operator} {around : Around} → Nested s t node list (os ∷ around) → Inner s t node list os around
nested_inner (inside list os around e low beyond rest) = record { entered = e; lower = low; beyond = beyond; rest = rest }

-- rows behind are changed
module _ {s t t' : List ℕ} {a b : ℕ} (c : Changed t t' a b) where
  pub steady_changed : (node : ℕ → ℕ) → Steady s t t' a node node
  steady_changed node = record {
    from = a;
    to = b;
    changed = c;
    nodes = λ k h. refl;
    marks = λ r k l x h. let e = same_mark (c.before r l) in (rw e h, λ n. e);
    plain = λ r l p. let e = c.before r l in (same_mark e, same_link e);
  }

  pub arounds_kept : {to list : ℕ} {around : Around} → to ≤ a → Arounds s t to list around → Arounds s t' to list around
  arounds_kept {to} {list} low h = record {
    node = h.node;
    tree = tree_kept c to (omega arith) (λ d r i j k. same_child (c.before r (omega arith)) d i) (λ r i j m. rw (same_mark (c.before r (omega arith))) m)
        (same_child (c.before 0 (omega (arith, h.tree.begins))) 1 (omega arith)) h.tree;
    roles = λ k. h.roles k ∙ sym (arity_at_same t t' (h.node k) (λ l. same_mark (c.before (h.node k) (omega (arith, (tree_found h.tree k l).before)))));
    nested = nested_kept (steady_changed h.node) (λ l. omega (arith, h.ended l)) h.nested;
    ended = λ l. omega (arith, h.ended l, (c.same_rows list).same_next);
  }
