-- Laws of `switch`: the references of a list, one after another, with the tree of all. Document 02, §1. Assumes nothing.
use Prim.Native.Nat.{ℕ, ◌+◌, ◌-◌, ◌*◌, ◌≤◌, ◌<◌}
use mathlib.Core.Path.{◌≡◌, refl, sym, ap, ◌∙◌}
use mathlib.Core.List.{List, ◌∷◌}
use mathlib.Core.Bool.{false}
use lib.ListN.{length}
use lib.Dec.{eqb}
use borrow.Author.Tests.{eq-eqb, ne_eqb}
use native.Mathlib.Decide.{ℕ_discrete}
use native.Mathlib.Omega.{arith}
use Rattle.std.specs.Prelude.{Ok, Err, Option, Some, None}
use Rattle.spec.specs.Expr.{when◌then◌else◌}
use Rattle.spec.specs.Reading.{row_width}
use Rattle.spec.specs.Bytecode.{Operator, Around, all}
use Rattle.rows.specs.Rows.{kind, mark, link, next, ReferenceAt}
use Rattle.bytecode.specs.Numbers.{Changed, Aside}
use Rattle.bytecode.specs.Named.{arity_of, arity_by, arity_at, KeyAt, MemberAt, Tree, Keeps, Entered, Nested, inside, Arounds, Entering, Switchable, entering, leaving, Exchanged, Joined, Sought, Switched, exchanged, joined}
use Rattle.bytecode.proofs.Changing.{changed_none, changed_back, aside_none, aside_changed, aside_then, unlisted_kept}
use Rattle.bytecode.proofs.Roles.{arity_append}
use Rattle.bytecode.proofs.Named.{arity_some, arity_operator, arity_at_same, key_same, key_kind, key_kept, tree_found, tree_kept, sought_some, sought_found, adding, adding_new, adding_others, Hung, tree_hung, hung_before}
use Rattle.bytecode.proofs.Arounds.{reference_kept, nested_kept, nested_begins, Inner, nested_inner}
use Rattle.bytecode.proofs.Exchanges.{exchange_aside, exchange_tree, exchange_arity, exchange_steady, joined_hung, joined_aside, joined_steady}

-- Arities

-- inside a list that names a key, and inside one that does not
arity_inner : (os : List Operator) (around : Around) (k n : ℕ) → arity_of os k ≡ Some n → arity_of (all (os ∷ around)) k ≡ Some n
unfolding all
arity_inner os around k n e = arity_append os (all around) k ∙ rw e

arity_outer : (os : List Operator) (around : Around) (k : ℕ) → arity_of os k ≡ None → arity_of (all (os ∷ around)) k ≡ arity_of (all around) k
unfolding all
arity_outer os around k e = arity_append os (all around) k ∙ rw e

arity_decides : {A : Type 0} (r : Option ℕ) → ((n : ℕ) → r ≡ Some n → A) → (r ≡ None → A) → A
arity_decides (Some n) f g = f n refl
arity_decides None f g = g refl

-- Keys that are switched

-- one of the list's references before a row has this key, or none has
pub data Turned (s t : List ℕ) (list row k : ℕ) (now was : Type 0) : Type 0 where
  turned : (q : ℕ) → list < q → q < row → KeyAt s t q k → now → Turned s t list row k now was
  still : ((q : ℕ) → list < q → q < row → KeyAt s t q k → ⊥) → was → Turned s t list row k now was

module _ {s t : List ℕ} {list row k : ℕ} {now was : Type 0} where
  turned_skip : (kind t row ≡ 4 → ⊥) → Turned s t list row k now was → Turned s t list (row + 1) k now was
  turned_skip n (turned q i j x a) = turned q i (omega arith) x a
  turned_skip n (still f b) =
      still (λ q i j x. elim (ℕ_discrete q row) [ yes e ↦ n (sym (ap (kind t) e) ∙ key_kind x) | no d ↦ f q i (omega arith) x ]) b

  turned_other : {now' was' : Type 0} {key : ℕ} → KeyAt s t row key → (k ≡ key → ⊥) → (now → now') → (was → was') → Turned s t list row k now was
      → Turned s t list (row + 1) k now' was'
  turned_other y n f g (turned q i j x a) = turned q i (omega arith) x (f a)
  turned_other y n f g (still h b) =
      still (λ q i j x. elim (ℕ_discrete q row) [ yes e ↦ n (key_same (rw e at x) y) | no d ↦ h q i (omega arith) x ]) (g b)

-- Entering

-- the references before a row are switched; t is the table before
pub record Entry (s t t' : List ℕ) (list row : ℕ) (os : List Operator) (around : Around) : Type 0 where
  pub node : ℕ → ℕ
  pub aside : Aside t t' (next t list) (next t list)
  pub tree : Tree s t' 0 row node
  pub keys : (k : ℕ) → Turned s t list row k (arity_of (all (os ∷ around)) k ≡ arity_at t' (node k)) (arity_of (all around) k ≡ arity_at t' (node k))
  pub keeps : (r k : ℕ) → list < r → r < row → KeyAt s t r k → Keeps t' node (all around) r k
  pub nested : Nested s t' node (link t list) around
  pub ahead : (r : ℕ) → row ≤ r → mark t' r ≡ mark t r

module _ {s t : List ℕ} {list : ℕ} {os : List Operator} {around : Around} (g : Entering s t list os around) where
  pub entry_begins : Entry s t t list (list + 1) os around
  entry_begins = record {
    node = g.outer.node;
    aside = aside_none t (next t list) (next t list);
    tree = tree_kept (changed_none t 0 0) (list + 1) (omega (arith, g.before)) (λ d r i j k. refl) (λ r i j h. h) refl g.outer.tree;
    keys = λ k. still (λ q i j x. omega arith) (g.outer.roles k);
    keeps = λ r k i j x. absurd (omega arith);
    nested = g.outer.nested;
    ahead = λ r h. refl;
  }

  -- the outer lists end before this
  outer_ends : 0 < link t list → next t (link t list) ≤ list
  outer_ends h = omega (arith, g.outer.ended h, g.before)

  pub entry_skip : {t' : List ℕ} {row : ℕ} → Entry s t t' list row os around → (kind t row ≡ 4 → ⊥) → Entry s t t' list (row + 1) os around
  entry_skip {t'} {row} e n = record {
    node = e.node;
    aside = e.aside;
    tree = tree_kept (changed_none t' 0 0) (row + 1) (omega arith) (λ d r i j k. refl) (λ r i j h. h) refl e.tree;
    keys = λ k. turned_skip n (e.keys k);
    keeps = λ r k i j x. elim (ℕ_discrete r row) [ yes z ↦ absurd (n (sym (ap (kind t) z) ∙ key_kind x)) | no z ↦ e.keeps r k i (omega arith) x ];
    nested = e.nested;
    ahead = λ r h. e.ahead r (omega arith);
  }

  -- one reference
  module _ {t' : List ℕ} {row key : ℕ} (e : Entry s t t' list row os around) (low : list < row) (within : row < next t list) (y : KeyAt s t' row key) where
    y₀ : KeyAt s t row key
    y₀ = key_kept (changed_back (aside_changed e.aside)) y

    own : (g.lists.node key ≡ row) × (64 ≤ mark t row)
    own = g.lists.own row key low within y₀

    high : 64 ≤ mark t' row
    high = rw (e.ahead row (omega arith)) own.1

    inner : arity_of (all (os ∷ around)) key ≡ arity_by (mark t' row)
    inner =
        let some : 0 < row = omega arith in
        arity_inner os around key (mark t row - 64) (g.lists.roles key ∙ ap (arity_at t) own.0 ∙ arity_operator t row some own.1)
        ∙ sym (arity_operator t row some own.1) ∙ arity_some t row some ∙ ap arity_by (sym (e.ahead row (omega arith)))

    -- no other of its references has this key
    only : (q : ℕ) → list < q → q < row → KeyAt s t q key → ⊥
    only q i j x = omega (arith, own.0, (g.lists.own q key i (omega arith) x).0)

    outer : arity_of (all around) key ≡ arity_at t' (e.node key)
    outer = go (e.keys key)
      where
        go : Turned s t list row key (arity_of (all (os ∷ around)) key ≡ arity_at t' (e.node key)) (arity_of (all around) key ≡ arity_at t' (e.node key))
            → arity_of (all around) key ≡ arity_at t' (e.node key)
        go (turned q i j x a) = absurd (only q i j x)
        go (still f b) = b

    list_ends : 0 < link t list → next t' (link t list) ≤ list
    list_ends h = rw (e.aside.same_rows (link t list)).same_next (outer_ends h)

    pub entry_exchanged : {t'' : List ℕ} {first : ℕ} → Sought s t' 0 key (Ok first) → Exchanged t' t'' first row → Entry s t t'' list (row + 1) os around
    entry_exchanged {t''} {first} v x = record {
      node = e.node;
      aside = aside_then e.aside (exchange_aside x m y marked (next t list) (omega (arith, m.before)) within);
      tree = exchange_tree x m y marked (row + 1) (omega arith) e.tree;
      keys = λ k. key_turned k (ℕ_discrete k key);
      keeps = λ r k i j z. kept r k i j z (ℕ_discrete r row);
      nested = nested_kept (exchange_steady x m y marked is list (omega arith)) list_ends e.nested;
      ahead = λ r h. x.others r (λ z. omega (arith, m.before)) (λ z. omega arith) ∙ e.ahead r (omega arith);
    }
      where
        is : e.node key ≡ first
        is = sought_found e.tree v

        m : MemberAt s t' 0 row first key
        m = rw is at (tree_found e.tree key (rw is (sought_some v)))

        marked : 63 ≤ mark t' row
        marked = omega (arith, high)

        two : eqb first row ≡ false
        two = ne_eqb first row (λ z. omega (arith, m.before))

        first_now : mark t'' first ≡ mark t' row
        first_now = rw two at x.first_is

        row_now : mark t'' row ≡ mark t' first
        row_now = rw two at x.row_is

        key_turned : (k : ℕ) → Dec (k ≡ key)
            → Turned s t list (row + 1) k (arity_of (all (os ∷ around)) k ≡ arity_at t'' (e.node k)) (arity_of (all around) k ≡ arity_at t'' (e.node k))
        key_turned k (yes z) =
            let now : arity_of (all (os ∷ around)) key ≡ arity_at t'' (e.node key) =
            inner ∙ ap arity_by (sym first_now) ∙ sym (arity_some t'' first (sought_some v)) ∙ ap (arity_at t'') (sym is) in
            rw z (turned row low (omega arith) y₀ now)
        key_turned k (no z) =
            let same : arity_at t' (e.node k) ≡ arity_at t'' (e.node k) = sym (exchange_arity x m y marked is e.tree k z) in
            turned_other y₀ z (λ a. a ∙ same) (λ a. a ∙ same) (e.keys k)

        kept : (r k : ℕ) → list < r → r < row + 1 → KeyAt s t r k → Dec (r ≡ row)
            → Keeps t'' e.node (all around) r k
        kept r k i j z (yes w) =
            let same : k ≡ key = key_same (rw w at z) y₀ in
            rw (w, same, is, two) (
              sought_some v,
              omega (arith, m.before),
              rw row_now m.marked,
              outer ∙ ap (arity_at t') is ∙ arity_some t' first (sought_some v) ∙ ap arity_by (sym row_now),
            )
        kept r k i j z (no w) =
            let old = e.keeps r k i (omega arith) z in
            let same : mark t'' r ≡ mark t' r =
            x.others r (λ h. only r i (omega arith) (rw (key_same (key_kept (aside_changed e.aside) z) (rw (← h) at m.key)) at z)) w in
            rw same old

    pub entry_joined : {t'' : List ℕ} {last bit : ℕ} → Sought s t' 0 key (Err (record { row = last; bit = bit })) → Joined s t' t'' row last bit → Entry s t t'' list (row + 1) os around
    entry_joined {t''} {last} {bit} v x = record {
      node = adding e.node key row;
      aside = aside_then e.aside (joined_aside x e.tree v (omega arith) y marked (next t list) within);
      tree = tree_hung hung e.tree (omega arith);
      keys = λ k. key_turned k (ℕ_discrete k key);
      keeps = λ r k i j z. kept r k i j z (ℕ_discrete r row);
      nested = nested_kept (joined_steady x e.tree v (omega arith) y marked list (omega arith)) list_ends e.nested;
      ahead = λ r h. x.marks r ∙ e.ahead r (omega arith);
    }
      where
        none : e.node key ≡ 0
        none = sought_found e.tree v

        marked : 63 ≤ mark t' row
        marked = omega (arith, high)

        hung : Hung s t' t'' 0 row key last bit
        hung = joined_hung x e.tree v (omega arith) y marked

        new : adding e.node key row key ≡ row
        new = adding_new e.node key row

        key_turned : (k : ℕ) → Dec (k ≡ key) → Turned s t list (row + 1) k (arity_of (all (os ∷ around)) k ≡ arity_at t'' (adding e.node key row k))
            (arity_of (all around) k ≡ arity_at t'' (adding e.node key row k))
        key_turned k (yes z) =
            let now : arity_of (all (os ∷ around)) key ≡ arity_at t'' (adding e.node key row key) =
            inner ∙ ap arity_by (sym (x.marks row)) ∙ sym (arity_some t'' row (omega arith)) ∙ ap (arity_at t'') (sym new) in
            rw z (turned row low (omega arith) y₀ now)
        key_turned k (no z) =
            let same : arity_at t' (e.node k) ≡ arity_at t'' (adding e.node key row k) =
            sym (arity_at_same t' t'' (e.node k) (λ h. x.marks (e.node k))) ∙ ap (arity_at t'') (sym (adding_others e.node key row k z)) in
            turned_other y₀ z (λ a. a ∙ same) (λ a. a ∙ same) (e.keys k)

        kept : (r k : ℕ) → list < r → r < row + 1 → KeyAt s t r k → Dec (r ≡ row)
            → Keeps t'' (adding e.node key row) (all around) r k
        kept r k i j z (yes w) =
            let same : k ≡ key = key_same (rw w at z) y₀ in
            rw (w, same, new, eq-eqb row row refl) (omega arith, omega arith, rw (x.marks row) marked, outer ∙ ap (arity_at t') none)
        kept r k i j z (no w) =
            let old = e.keeps r k i (omega arith) z in
            rw (hung_before hung e.tree (omega arith) k old.0, x.marks r) old

  pub entry_switched : {t' t'' : List ℕ} {row : ℕ} → Entry s t t' list row os around → list < row → row < next t list → Switched s t' t'' row
      → Entry s t t'' list (row + 1) os around
  entry_switched e i j (exchanged y v x) = entry_exchanged e i j y v x
  entry_switched e i j (joined y v x) = entry_joined e i j y v x

  -- all of them are
  pub entry_ends : {t' : List ℕ} {row : ℕ} → Entry s t t' list row os around → row ≡ next t list → Arounds s t' (next t list) list (os ∷ around)
  entry_ends {t'} {row} e ends = record {
    node = e.node;
    tree = rw ends at e.tree;
    roles = λ k. roles k (e.keys k);
    nested = inside list os around entered (rw same lower) (λ z. rw (same, (c.same_rows (link t list)).same_next) (outer_ends (omega (arith, same)))) (rw same e.nested);
    ended = λ h. omega (arith, on);
  }
    where
      c : Changed t t' 0 (next t list)
      c = aside_changed e.aside

      on : next t' list ≡ next t list
      on = (c.same_rows list).same_next

      begins : list < next t list
      begins = g.lists.tree.begins

      same : link t' list ≡ link t list
      same = (e.aside.before list begins g.form).1

      lower : link t list < list
      lower = elim (ℕ_discrete (link t list) 0) [
        | yes z ↦ omega (arith, g.lists.low)
        | no z ↦ omega (arith, outer_ends (omega arith), nested_begins g.outer.nested (omega arith))
      ]

      -- a key that the list names has a reference in it
      named : (k n : ℕ) → arity_of os k ≡ Some n → (q : ℕ) × (list < q) × (q < next t list) × KeyAt s t q k
      named k n h = elim (ℕ_discrete (g.lists.node k) 0) [
        | yes z ↦ absurd (cc (sym h ∙ g.lists.roles k ∙ ap (arity_at t) z))
        | no z ↦ let m = tree_found g.lists.tree k (omega arith) in (g.lists.node k, m.behind, m.before, m.key)
      ]

      roles : (k : ℕ) → Turned s t list row k (arity_of (all (os ∷ around)) k ≡ arity_at t' (e.node k)) (arity_of (all around) k ≡ arity_at t' (e.node k))
          → arity_of (all (os ∷ around)) k ≡ arity_at t' (e.node k)
      roles k (turned q i j x a) = a
      roles k (still f b) =
          arity_decides (arity_of os k) (λ n h. let q = named k n h in absurd (f q.0 q.1 (rw ends q.2) q.3)) (λ h. arity_outer os around k h ∙ b)

      entered : Entered s t' e.node list os (all around)
      entered = record {
        keeps = λ r k i j x. e.keeps r k i (omega (arith, on, ends)) (key_kept (changed_back c) x);
        named = λ k n h. let q = named k n h in (q.0, q.1, omega (arith, on, q.2), key_kept c q.3);
        references = λ r i j h. reference_kept c (g.references r i (omega (arith, on)) (sym (c.same_rows r).same_kind ∙ h));
        inside = omega (arith, on, g.inside, c.same_length);
        low = g.lists.low;
        begins = omega (arith, on, begins);
        head = unlisted_kept e.aside (list - 1) (omega (arith, begins)) g.head;
        form = unlisted_kept e.aside list begins g.form;
      }

-- Leaving

-- the references before a row are switched back
pub record Leave (s t t' : List ℕ) (to list row : ℕ) (os : List Operator) (around : Around) (node : ℕ → ℕ) : Type 0 where
  pub aside : Aside t t' (next t list) (next t list)
  pub tree : Tree s t' 0 to node
  pub keys : (k : ℕ) → Turned s t list row k (arity_of (all around) k ≡ arity_at t' (node k)) (arity_of (all (os ∷ around)) k ≡ arity_at t' (node k))
  pub keeps : (r k : ℕ) → list < r → row ≤ r → r < next t list → KeyAt s t r k → Keeps t' node (all around) r k
  pub nested : Nested s t' node (link t list) around

module _ {s t : List ℕ} {to list : ℕ} {os : List Operator} {around : Around} (g : Arounds s t to list (os ∷ around)) where
  abbrev near : Inner s t g.node list os around
  near = nested_inner g.nested

  pub leave_begins : Leave s t t to list (list + 1) os around g.node
  leave_begins = record {
    aside = aside_none t (next t list) (next t list);
    tree = g.tree;
    keys = λ k. still (λ q i j x. omega arith) (g.roles k);
    keeps = λ r k i j l x. near.entered.keeps r k i l x;
    nested = near.rest;
  }

  module _ {t' : List ℕ} {row : ℕ} (e : Leave s t t' to list row os around g.node) where
    pub leave_skip : (kind t row ≡ 4 → ⊥) → Leave s t t' to list (row + 1) os around g.node
    leave_skip n = record {
      aside = e.aside;
      tree = e.tree;
      keys = λ k. turned_skip n (e.keys k);
      keeps = λ r k i j l x. e.keeps r k i (omega arith) l x;
      nested = e.nested;
    }

    module _ (low : list < row) (within : row < next t list) {key : ℕ} (y : KeyAt s t' row key) where
      own_key : KeyAt s t row key
      own_key = key_kept (changed_back (aside_changed e.aside)) y

      kept_row : Keeps t' g.node (all around) row key
      kept_row = e.keeps row key low (omega arith) within own_key

      leave_exchanged : {t'' : List ℕ} {first : ℕ} → Sought s t' 0 key (Ok first) → Exchanged t' t'' first row → Leave s t t'' to list (row + 1) os around g.node
      leave_exchanged {t''} {first} v x = record {
        aside = aside_then e.aside (exchange_aside x m y marked (next t list) (omega (arith, is, kept_row.1)) within);
        tree = exchange_tree x m y marked to (omega arith) e.tree;
        keys = λ k. key_turned k (ℕ_discrete k key);
        keeps = λ r k i j l z. kept r k i j l z (ℕ_discrete r first);
        nested = nested_kept (exchange_steady x m y marked is list (omega arith))
            (λ h. rw (e.aside.same_rows (link t list)).same_next (near.beyond h)) e.nested;
      }
        where
          is : g.node key ≡ first
          is = sought_found e.tree v

          m : MemberAt s t' 0 to first key
          m = rw is at (tree_found e.tree key kept_row.0)

          marked : 63 ≤ mark t' row
          marked = kept_row.2

          -- what the key is outside is told by the first now
          told : (when eqb first row then None else arity_by (mark t' row)) ≡ arity_by (mark t'' first)
          told = elim (ℕ_discrete first row) [
            | yes z ↦ rw (x.first_is, eq-eqb first row z)
            | no z ↦ rw (x.first_is, ne_eqb first row z)
          ]

          key_turned : (k : ℕ) → Dec (k ≡ key)
              → Turned s t list (row + 1) k (arity_of (all around) k ≡ arity_at t'' (g.node k)) (arity_of (all (os ∷ around)) k ≡ arity_at t'' (g.node k))
          key_turned k (yes z) =
              let now : arity_of (all around) key ≡ arity_at t'' (g.node key) =
              (rw is at kept_row.3) ∙ told ∙ sym (arity_some t'' first (sought_some v)) ∙ ap (arity_at t'') (sym is) in
              rw z (turned row low (omega arith) own_key now)
          key_turned k (no z) =
              let same : arity_at t' (g.node k) ≡ arity_at t'' (g.node k) = sym (exchange_arity x m y marked is e.tree k z) in
              turned_other own_key z (λ a. a ∙ same) (λ a. a ∙ same) (e.keys k)

          kept : (r k : ℕ) → list < r → row + 1 ≤ r → r < next t list → KeyAt s t r k → Dec (r ≡ first)
              → Keeps t'' g.node (all around) r k
          kept r k i j l z (yes w) = absurd (omega (arith, is, kept_row.1))
          kept r k i j l z (no w) = let old = e.keeps r k i (omega arith) l z in rw (x.others r w (λ h. omega arith)) old

      leave_joined : {last bit : ℕ} → Sought s t' 0 key (Err (record { row = last; bit = bit })) → ⊥
      leave_joined v = omega (arith, kept_row.0, sought_found e.tree v)

    pub leave_switched : {t'' : List ℕ} → list < row → row < next t list → Switched s t' t'' row → Leave s t t'' to list (row + 1) os around g.node
    leave_switched i j (exchanged y v x) = leave_exchanged i j y v x
    leave_switched i j (joined y v x) = absurd (leave_joined i j y v)

    -- all of them are
    pub leave_ends : row ≡ next t list → Arounds s t' to (link t list) around
    leave_ends ends = record {
      node = g.node;
      tree = e.tree;
      roles = λ k. roles k (e.keys k);
      nested = e.nested;
      ended = λ h. omega (arith, near.beyond h, near.entered.begins, g.ended near.entered.low, (e.aside.same_rows (link t list)).same_next);
    }
      where
        roles : (k : ℕ) → Turned s t list row k (arity_of (all around) k ≡ arity_at t' (g.node k)) (arity_of (all (os ∷ around)) k ≡ arity_at t' (g.node k))
            → arity_of (all around) k ≡ arity_at t' (g.node k)
        roles k (turned q i j x a) = a
        roles k (still f b) =
            arity_decides (arity_of os k) (λ n h. let q = near.entered.named k n h in absurd (f q.0 q.1 (rw ends q.2) q.3))
            (λ h. sym (arity_outer os around k h) ∙ b)

-- Either

-- a list that can be switched
pub record Switch (s t : List ℕ) (list : ℕ) : Type 0 where
  pub inside : row_width * next t list ≤ length t
  pub begins : list < next t list
  pub references : (r : ℕ) → list < r → r < next t list → kind t r ≡ 4 → ReferenceAt s t r

pub switch : {s t : List ℕ} {list : ℕ} → Switchable s t list → Switch s t list
switch (entering os around g) = record { inside = g.inside; begins = g.lists.tree.begins; references = g.references }
switch (leaving to os around g) =
    let e = (nested_inner g.nested).entered in
    record { inside = e.inside; begins = e.begins; references = e.references }

-- the references before a row are switched
pub record Switching (s t t' : List ℕ) (list row : ℕ) : Type 0 where
  pub low : list < row
  pub within : row ≤ next t list
  pub enters : (os : List Operator) (around : Around) → Entering s t list os around → Entry s t t' list row os around
  pub leaves : (to : ℕ) (os : List Operator) (around : Around) (g : Arounds s t to list (os ∷ around)) → Leave s t t' to list row os around g.node

pub switching_begins : {s t : List ℕ} {list : ℕ} → Switchable s t list → Switching s t t list (list + 1)
switching_begins w = record {
  low = omega arith;
  within = omega (arith, (switch w).begins);
  enters = λ os around g. entry_begins g;
  leaves = λ to os around g. leave_begins g;
}

module _ {s t t' : List ℕ} {list row : ℕ} (e : Switching s t t' list row) where
  pub switching_skip : row < next t list → (kind t row ≡ 4 → ⊥) → Switching s t t' list (row + 1)
  switching_skip l n = record {
    low = omega (arith, e.low);
    within = omega arith;
    enters = λ os around g. entry_skip g (e.enters os around g) n;
    leaves = λ to os around g. leave_skip g (e.leaves to os around g) n;
  }

  pub switching_on : {t'' : List ℕ} → row < next t list → Switched s t' t'' row → Switching s t t'' list (row + 1)
  switching_on l w = record {
    low = omega (arith, e.low);
    within = omega arith;
    enters = λ os around g. entry_switched g (e.enters os around g) e.low l w;
    leaves = λ to os around g. leave_switched g (e.leaves to os around g) e.low l w;
  }

  pub switching_aside : Switchable s t list → Aside t t' (next t list) (next t list)
  switching_aside (entering os around g) = (e.enters os around g).aside
  switching_aside (leaving to os around g) = (e.leaves to os around g).aside

  pub switching_tree : Switchable s t list → (to : ℕ) × (node : ℕ → ℕ) × Tree s t' 0 to node
  switching_tree (entering os around g) = let n = e.enters os around g in (row, n.node, n.tree)
  switching_tree (leaving to os around g) = (to, g.node, (e.leaves to os around g).tree)

  pub switching_reference : Switchable s t list → row < next t list → kind t' row ≡ 4 → ReferenceAt s t' row
  switching_reference w l h =
      let c = aside_changed (switching_aside w) in
      reference_kept c ((switch w).references row e.low l (sym (c.same_rows row).same_kind ∙ h))
