-- Laws of what is done for one reference: marks that change places, and a reference that joins a tree. Document 02, §1. Assumes nothing.
use Prim.Native.Nat.{ℕ, zero, suc, ◌+◌, ◌*◌, ◌/◌, ◌%◌, ◌≤◌, ◌<◌}
use mathlib.Core.Path.{◌≡◌, refl, sym, ap, ◌∙◌}
use mathlib.Core.List.{List}
use lib.ListN.{length}
use borrow.Author.Tests.{eq-eqb, ne_eqb}
use native.Mathlib.Decide.{ℕ_discrete}
use native.Mathlib.Omega.{arith}
use Rattle.std.specs.Prelude.{Err}
use Rattle.rows.specs.Rows.{RowInside, cell, kind, mark, link}
use Rattle.bytecode.specs.Numbers.{child, Changed, Unlisted, Aside}
use Rattle.bytecode.specs.Named.{arity_at, KeyAt, MemberAt, Tree, Sought, vacant, Marked, Exchanged, Joined}
use Rattle.bytecode.proofs.Changing.{changed_wider, changed_then, same_elsewhere, same_mark, same_link, same_child}
use Rattle.bytecode.proofs.Named.{arity_at_same, key_same, key_kind, tree_found, tree_kept, sought_vacant, way_last, Hung, adding, hung_before}
use Rattle.bytecode.proofs.Arounds.{Steady}

-- Marked

-- a mark is put at a row
marked_put : {t t' : List ℕ} {r m : ℕ} → RowInside t r
    → Changed t t' r (r + 1) × (mark t' r ≡ m) × (link t' r ≡ link t r) × (child t' 1 r ≡ child t 1 r) → Marked t t'
marked_put {t} {t'} {r} inside p = record {
  changed = changed_wider p.0 0 (length t) (omega arith) (omega arith);
  links = λ q. elim (ℕ_discrete q r) [ yes e ↦ rw e p.2 | no n ↦ same_link (same_elsewhere p.0 q (omega arith) n) ];
  children = λ b q i. elim (ℕ_discrete q r) [ yes e ↦ rw e (both b i) | no n ↦ same_child (same_elsewhere p.0 q (omega arith) n) b i ];
}
  where
    both : (b : ℕ) → b < 2 → child t' b r ≡ child t b r
    both zero i = omega (arith, p.2)
    both (suc zero) i = p.3
    both (suc (suc b)) i = absurd (omega arith)

marked_then : {t u t' : List ℕ} → Marked t u → Marked u t' → Marked t t'
marked_then {t} {u} a b = record {
  changed = changed_then a.changed (changed_wider b.changed 0 (length t) (omega arith) (omega (arith, a.changed.same_length)));
  links = λ q. b.links q ∙ a.links q;
  children = λ c q i. b.children c q i ∙ a.children c q i;
}

-- Exchanged

-- of two rows
pub exchanged_marks : {t u t' : List ℕ} {first row : ℕ} → (first ≡ row → ⊥) → RowInside t first → RowInside t row
    → Changed t u first (first + 1) × (mark u first ≡ mark t row) × (link u first ≡ link t first) × (child u 1 first ≡ child t 1 first)
    → Changed u t' row (row + 1) × (mark t' row ≡ mark t first) × (link t' row ≡ link u row) × (child t' 1 row ≡ child u 1 row) → Exchanged t t' first row
exchanged_marks {t} {u} {t'} {first} {row} n f r p q = record {
  marked = marked_then (marked_put f p) (marked_put (omega (arith, p.0.same_length)) q);
  first_is = rw (ne_eqb first row n) (same_mark (same_elsewhere q.0 first (omega arith) n) ∙ p.1);
  row_is = rw (ne_eqb first row n) q.1;
  others = λ r i j. same_mark (same_elsewhere q.0 r (omega arith) j) ∙ same_mark (same_elsewhere p.0 r (omega arith) i);
}

-- Joined

-- a child is put at a row
abbrev pub ChildPut : List ℕ → List ℕ → ℕ → ℕ → ℕ → Type 0
ChildPut t t' row bit new =
    Changed t t' row (row + 1) × (child t' bit row ≡ new) × (mark t' row ≡ mark t row) × ((b : ℕ) → b < 2 → (b ≡ bit → ⊥) → child t' b row ≡ child t b row)
    × (bit ≡ 1 → link t' row ≡ link t row)

-- no children below the row, and the row below the last
pub joined_put : {s t u v t' : List ℕ} {row last bit : ℕ} → RowInside t row → RowInside t last → bit < 2
    → ChildPut t u row 0 0 → ChildPut u v row 1 0 → ChildPut v t' last bit row → Joined s t t' row last bit
joined_put {s} {t} {u} {v} {t'} {row} {last} {bit} i j small p q o = record {
  changed = changed_then (changed_wider twice 0 (length t) (omega arith) (omega arith)) (changed_wider o.0 0 (length t) (omega arith) (omega arith));
  marks = λ r. at_last r (ℕ_discrete r last) ∙ at_row r (ℕ_discrete r row);
  joined = o.1;
  alone = λ b l n. child_last b row l n (ℕ_discrete row last) ∙ none b l;
  others = λ b r l n d. child_last b r l (λ z e. d (sym z) (sym e)) (ℕ_discrete r last) ∙ same_child (same_elsewhere twice r (omega arith) n) b l;
  links = λ r n d. link_last r d (ℕ_discrete r last) ∙ same_link (same_elsewhere twice r (omega arith) n);
}
  where
    twice : Changed t v row (row + 1)
    twice = changed_then p.0 q.0

    at_row : (r : ℕ) → Dec (r ≡ row) → mark v r ≡ mark t r
    at_row r (yes e) = rw e (q.2 ∙ p.2)
    at_row r (no n) = same_mark (same_elsewhere twice r (omega arith) n)

    at_last : (r : ℕ) → Dec (r ≡ last) → mark t' r ≡ mark v r
    at_last r (yes e) = rw e o.2
    at_last r (no n) = same_mark (same_elsewhere o.0 r (omega arith) n)

    child_last : (b r : ℕ) → b < 2 → (bit ≡ b → last ≡ r → ⊥) → Dec (r ≡ last) → child t' b r ≡ child v b r
    child_last b r l d (yes e) = rw e (o.3 b l (λ z. d (sym z) (sym e)))
    child_last b r l d (no n) = same_child (same_elsewhere o.0 r (omega arith) n) b l

    link_last : (r : ℕ) → (bit ≡ 0 → r ≡ last → ⊥) → Dec (r ≡ last) → link t' r ≡ link v r
    link_last r d (yes e) = let high : bit ≡ 1 = elim (ℕ_discrete bit 0) [ yes z ↦ absurd (d z e) | no z ↦ omega arith ] in rw e (o.4 high)
    link_last r d (no n) = same_link (same_elsewhere o.0 r (omega arith) n)

    none : (b : ℕ) → b < 2 → child v b row ≡ 0
    none zero l = q.3 0 (omega arith) (λ e. omega arith) ∙ p.1
    none (suc zero) l = q.1
    none (suc (suc b)) l = absurd (omega arith)

-- Aside

-- a row's first number, by its parts
whole : (a : ℕ) → a ≡ a / 32768 * 32768 + a / 256 % 128 * 256 + a % 256
whole a = omega arith

same_whole : (a b : ℕ) → a / 256 % 128 ≡ b / 256 % 128 → a / 32768 ≡ b / 32768 → a % 256 ≡ b % 256 → a ≡ b
same_whole a b m l k = whole a ∙ rw (m, l, k) (sym (whole b))

-- by what is put besides
pub aside_by : {t t' : List ℕ} {a b : ℕ} (end : ℕ) → Changed t t' a b → ((r : ℕ) → r < end → Unlisted t r → (mark t' r ≡ mark t r) × (link t' r ≡ link t r))
    → ((r : ℕ) → end ≤ r → (mark t' r ≡ mark t r) × (link t' r ≡ link t r) × (child t' 1 r ≡ child t 1 r)) → Aside t t' end end
aside_by {t} {t'} end c before behind = record {
  same_length = c.same_length;
  same_rows = c.same_rows;
  before = before;
  behind = λ r h. let e = behind r h in
      let row = c.same_rows r in
      record { first = same_whole (cell t' r 0) (cell t r 0) e.0 e.1 row.same_kind; second = omega (arith, e.2, row.same_start) };
}

-- What an exchange keeps

module _ {s t t' : List ℕ} {first row to key : ℕ} (x : Exchanged t t' first row) (m : MemberAt s t 0 to first key) (y : KeyAt s t row key) (high : 63 ≤ mark t row) where
  first_marked : 63 ≤ mark t' first
  first_marked = elim (ℕ_discrete first row) [
    | yes e ↦ rw (x.first_is, eq-eqb first row e) (omega arith)
    | no n ↦ rw (x.first_is, ne_eqb first row n) high
  ]

  row_marked : 63 ≤ mark t' row
  row_marked = elim (ℕ_discrete first row) [
    | yes e ↦ rw (x.row_is, eq-eqb first row e) (omega arith)
    | no n ↦ rw (x.row_is, ne_eqb first row n) m.marked
  ]

  pub exchange_marked : (r : ℕ) → 63 ≤ mark t r → 63 ≤ mark t' r
  exchange_marked r h = elim (ℕ_discrete r first) [
    | yes e ↦ rw e first_marked
    | no n ↦ elim (ℕ_discrete r row) [ yes e ↦ rw e row_marked | no d ↦ rw (x.others r n d) h ]
  ]

  -- what is neither of the two
  plain_others : (r : ℕ) → Unlisted t r → (r ≡ first → ⊥) × (r ≡ row → ⊥)
  plain_others r p = (
    (λ e. omega (arith, m.marked, p (ap (kind t) e ∙ key_kind m.key), ap (mark t) e)),
    λ e. omega (arith, high, p (ap (kind t) e ∙ key_kind y), ap (mark t) e),
  )

  plain_stay : (r : ℕ) → Unlisted t r → (mark t' r ≡ mark t r) × (link t' r ≡ link t r)
  plain_stay r p = let n = plain_others r p in (x.others r n.0 n.1, x.marked.links r)

  pub exchange_aside : (end : ℕ) → first < end → row < end → Aside t t' end end
  exchange_aside end f l =
      aside_by end x.marked.changed (λ r h p. plain_stay r p)
      (λ r h. (x.others r (λ e. omega arith) (λ e. omega arith), x.marked.links r, x.marked.children 1 r (omega arith)))

  pub exchange_tree : {node : ℕ → ℕ} (end : ℕ) → to ≤ end → Tree s t 0 to node → Tree s t' 0 end node
  exchange_tree end l w =
      tree_kept x.marked.changed end l (λ d r i j k. x.marked.children d r i) (λ r i j h. exchange_marked r h) (x.marked.children 1 0 (omega arith)) w

  module _ {node : ℕ → ℕ} (is : node key ≡ first) where
    pub exchange_arity : Tree s t 0 to node → (k : ℕ) → (k ≡ key → ⊥) → arity_at t' (node k) ≡ arity_at t (node k)
    exchange_arity w k n =
        arity_at_same t t' (node k) (λ l. let f = tree_found w k l in
        x.others (node k) (λ e. n (key_same f.key (rw (← e) at m.key))) (λ e. n (key_same f.key (rw (← e) at y))))

    pub exchange_steady : (end : ℕ) → end ≤ row → Steady s t t' end node node
    exchange_steady end l = record {
      from = 0;
      to = length t;
      changed = x.marked.changed;
      nodes = λ k h. refl;
      marks = λ r k j z h. (
        exchange_marked r h,
        λ n. x.others r (λ e. n (ap node (key_same z (rw (← e) at m.key)) ∙ is ∙ sym e)) (λ e. omega arith),
      );
      plain = λ r j p. plain_stay r p;
    }

-- What joining keeps

module _ {s t t' : List ℕ} {row last bit to key : ℕ} {node : ℕ → ℕ} (x : Joined s t t' row last bit) (w : Tree s t 0 to node) (v : Sought s t 0 key (Err (record { row = last; bit = bit })))
    (later : to ≤ row) (y : KeyAt s t row key) (high : 63 ≤ mark t row) where
  pub joined_hung : Hung s t t' 0 row key last bit
  joined_hung = record {
    new = y;
    sought = v;
    changed = x.changed;
    joined = x.joined;
    alone = λ b i. x.alone b i (λ e z. omega (arith, (sought_vacant w v).1));
    others = x.others;
    marked = rw (x.marks row) high;
    marks = λ q n. x.marks q;
  }

  -- the last is a reference, where its link is in the first child's place
  last_other : (r : ℕ) → Unlisted t r → bit ≡ 0 → r ≡ last → ⊥
  last_other r p e z = go v
    where
      go : Sought s t 0 key (Err (record { row = last; bit = bit })) → ⊥
      go (vacant way free) = let m = (way_last w way e).1 in omega (arith, m.marked, p (ap (kind t) z ∙ key_kind m.key), ap (mark t) z)

  unlisted_joined : (r : ℕ) → Unlisted t r → (mark t' r ≡ mark t r) × (link t' r ≡ link t r)
  unlisted_joined r p = (x.marks r, x.links r (λ e. omega (arith, high, p (ap (kind t) e ∙ key_kind y), ap (mark t) e)) (last_other r p))

  pub joined_aside : (end : ℕ) → row < end → Aside t t' end end
  joined_aside end l =
      let below = sought_vacant w v in
      aside_by end x.changed (λ r h p. unlisted_joined r p)
      (λ r h. (
        x.marks r,
        x.links r (λ e. omega arith) (λ e z. omega (arith, below.1)),
        x.others 1 r (omega arith) (λ e. omega arith) (λ e z. omega (arith, below.1)),
      ))

  pub joined_steady : (end : ℕ) → end ≤ row → Steady s t t' end node (adding node key row)
  joined_steady end l = record {
    from = 0;
    to = length t;
    changed = x.changed;
    nodes = hung_before joined_hung w later;
    marks = λ r k j z h. (rw (x.marks r) h, λ n. x.marks r);
    plain = λ r j p. unlisted_joined r p;
  }
