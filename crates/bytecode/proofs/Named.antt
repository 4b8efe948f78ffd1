-- Laws of the trees of references: what a search finds, one more reference, and what an arity list names. Assumes nothing.
use Prim.Native.Nat.{ℕ, zero, suc, ◌/◌, ◌%◌, ◌+◌, ◌-◌, ◌≤◌, ◌<◌}
use mathlib.Core.Path.{◌≡◌, refl, sym, ap, ap₂, ◌∙◌}
use mathlib.Core.List.{List, [], ◌∷◌, ◌++◌}
use lib.ListN.{length}
use lib.Dec.{eqb}
use borrow.Author.Tests.{eq-eqb, ne_eqb, le-ltb}
use native.Mathlib.Decide.{ℕ_discrete, dec_lt}
use native.Mathlib.Omega.{arith}
use Rattle.std.specs.Prelude.{Result, Ok, Err, Some, None}
use Rattle.std.specs.Result.{result_ok, result_unwrap_or}
use Rattle.spec.specs.Expr.{when◌then◌else◌, ref}
use Rattle.spec.specs.Bytecode.{Operator}
use Rattle.rows.specs.Rows.{RowInside, kind, mark, link, next, LeafAt, ReferenceAt, key_of}
use Rattle.bytecode.specs.Numbers.{child, Same, Changed}
use Rattle.bytecode.specs.Named.{arity_of, arity_by, arity_at, KeyAt, MemberAt, Finds, nothing, here, onward, Tree, Lists, Way, begin, pass, Sought, taken, vacant}
use Rattle.bytecode.specs.declared.tree.Vacancy.{Vacancy}
use Rattle.bytecode.proofs.Changing.{leaf_kept, changed_wider, changed_back, changed_then, same_elsewhere, same_mark, same_child}
use Rattle.bytecode.proofs.Roles.{arity_added, arity_others}

-- KeyAt

pub key_same : {s t : List ℕ} {r k l : ℕ} → KeyAt s t r k → KeyAt s t r l → k ≡ l
key_same x y = let e = x.reference in sym (x.is e.marker e.name e.leaf_at) ∙ y.is e.marker e.name e.leaf_at

-- the key as the code reads it
pub key_read : {s t : List ℕ} {r k : ℕ} → ReferenceAt s t r → ((m n : ℕ) → LeafAt s t r (ref m n) → k ≡ key_of m n) → KeyAt s t r k
key_read x h = record { reference = x; is = λ m n l. sym (h m n l) }

pub key_kind : {s t : List ℕ} {r k : ℕ} → KeyAt s t r k → kind t r ≡ 4
key_kind x = x.reference.leaf_at.row.kind_is

pub key_kept : {s t t' : List ℕ} {from to r k : ℕ} → Changed t t' from to → KeyAt s t r k → KeyAt s t' r k
key_kept {s} c x = record {
  reference = record { marker = x.reference.marker; name = x.reference.name; leaf_at = leaf_kept s c x.reference.leaf_at };
  is = λ m n l. x.is m n (leaf_kept s (changed_back c) l);
}

-- arity-at

pub arity_some : (t : List ℕ) (r : ℕ) → 0 < r → arity_at t r ≡ arity_by (mark t r)
arity_some t r h = rw (ne_eqb r 0 (λ e. omega arith))

pub arity_operator : (t : List ℕ) (r : ℕ) → 0 < r → 64 ≤ mark t r → arity_at t r ≡ Some (mark t r - 64)
arity_operator t r h g = rw (ne_eqb r 0 (λ e. omega arith), le-ltb (mark t r) 64 g)

pub arity_at_same : (t t' : List ℕ) (r : ℕ) → (0 < r → mark t' r ≡ mark t r) → arity_at t' r ≡ arity_at t r
arity_at_same t t' r h = elim (ℕ_discrete r 0) [
  | yes e ↦ rw (eq-eqb r 0 e)
  | no n ↦ let some : 0 < r = omega arith in rw (ne_eqb r 0 n) (ap arity_by (h some))
]

-- MemberAt

module _ {s t t' : List ℕ} {last to row k : ℕ} (m : MemberAt s t last to row k) where
  pub member_kept : {a b : ℕ} → Changed t t' a b → (end : ℕ) → to ≤ end → 63 ≤ mark t' row → MemberAt s t' last end row k
  member_kept c end later h = record { key = key_kept c m.key; behind = m.behind; before = omega (arith, m.before); marked = h }

-- Finds

module _ {s t : List ℕ} {to key : ℕ} where
  finds_nothing : {bits last row found : ℕ} → Finds s t to key bits last row found → row ≡ 0 → found ≡ 0
  finds_nothing nothing e = refl
  finds_nothing (here m) e = absurd (omega (arith, m.behind))
  finds_nothing (onward m d f) e = absurd (omega (arith, m.behind))

  finds_here : {bits last row found : ℕ} → Finds s t to key bits last row found → 0 < row → KeyAt s t row key → found ≡ row
  finds_here nothing l y = absurd (omega arith)
  finds_here (here m) l y = refl
  finds_here (onward m d f) l y = absurd (d (key_same m.key y))

  finds_onward : {bits last row k found : ℕ} → Finds s t to key bits last row found → 0 < row → KeyAt s t row k → (k ≡ key → ⊥)
      → Finds s t to key (bits / 2) row (child t (bits % 2) row) found
  finds_onward nothing l y n = absurd (omega arith)
  finds_onward (here m) l y n = absurd (n (key_same y m.key))
  finds_onward (onward m d f) l y n = f

  -- the row that a search has come to
  finds_row : {bits last row found : ℕ} → Finds s t to key bits last row found → 0 < row → (k : ℕ) × MemberAt s t last to row k
  finds_row nothing l = absurd (omega arith)
  finds_row (here m) l = (key, m)
  finds_row (onward {k = k} m d f) l = (k, m)

  -- and the row that it finds
  finds_found : {bits last row found : ℕ} → Finds s t to key bits last row found → 0 < found → MemberAt s t last to found key
  finds_found nothing l = absurd (omega arith)
  finds_found (here m) l = m
  finds_found (onward m d f) l =
      let g = finds_found f l in
      record { key = g.key; behind = omega (arith, m.behind, g.behind); before = g.before; marked = g.marked }

pub tree_found : {s t : List ℕ} {tree to : ℕ} {node : ℕ → ℕ} → Tree s t tree to node → (k : ℕ) → 0 < node k → MemberAt s t tree to (node k) k
tree_found tree k h = finds_found (tree.finds k) h

-- Way

module _ {s t : List ℕ} {tree to : ℕ} {node : ℕ → ℕ} (whole : Tree s t tree to node) {key : ℕ} where
  -- it is a part of the search
  way_finds : {bits last bit : ℕ} → Way s t tree key bits last bit → Finds s t to key bits last (child t bit last) (node key)
  way_finds begin = whole.finds key
  way_finds (pass w l x d) = finds_onward (way_finds w) l x d

  way_inside : {bits last bit : ℕ} → Way s t tree key bits last bit → (tree ≤ last) × (last < to) × RowInside t last × (bit < 2)
  way_inside begin = (omega arith, whole.begins, whole.inside, omega arith)
  way_inside (pass w l x d) =
      let m = (finds_row (way_finds w) l).1 in
      let before = way_inside w in
      (omega (arith, m.behind), m.before, x.reference.leaf_at.row.inside, omega arith)

  -- a first child is one of a reference
  pub way_last : {bits last bit : ℕ} → Way s t tree key bits last bit → bit ≡ 0 → (k : ℕ) × MemberAt s t tree to last k
  way_last begin e = absurd (omega arith)
  way_last (pass w l x d) e =
      let m = finds_row (way_finds w) l in
      let before = way_inside w in
      (m.0, record { key = m.1.key; behind = omega (arith, m.1.behind); before = m.1.before; marked = m.1.marked })

  -- the row that comes next
  pub way_row : {bits last bit row : ℕ} → Way s t tree key bits last bit → child t bit last ≡ row → (row ≡ 0 → ⊥)
      → (last < row) × (row < to) × ReferenceAt s t row
  way_row w e n = let m = (finds_row (rw e at (way_finds w)) (omega arith)).1 in (m.behind, m.before, m.key.reference)

pub way_onward : {s t : List ℕ} {tree key bits last bit row k : ℕ} → Way s t tree key bits last bit → child t bit last ≡ row → (row ≡ 0 → ⊥)
    → KeyAt s t row k → (k ≡ key → ⊥) → Way s t tree key (bits / 2) row (bits % 2)
way_onward w e n x d = rw e at (pass w (omega (arith, e)) (rw (← e) at x) d)

-- Sought

pub sought_some : {s t : List ℕ} {tree key row : ℕ} → Sought s t tree key (Ok row) → 0 < row
sought_some (taken w e l x) = l

pub sought_taken : {s t : List ℕ} {tree key row : ℕ} → Sought s t tree key (Ok row) → KeyAt s t row key
sought_taken (taken w e l x) = x

-- a search that has found a row
pub sought_ok : {s t : List ℕ} {tree key row : ℕ} {p : Result ℕ Vacancy} → Sought s t tree key p → result_ok p ≡ Some row → Sought s t tree key (Ok row)
sought_ok {row = row} (taken {row = found} w e l x) h = let same : found ≡ row = cc in rw same at (taken w e l x)
sought_ok (vacant w e) h = absurd (cc)

module _ {s t : List ℕ} {tree to key : ℕ} {node : ℕ → ℕ} (whole : Tree s t tree to node) where
  -- the row that is found, 0 for none
  pub sought_found : {p : Result ℕ Vacancy} → Sought s t tree key p → node key ≡ result_unwrap_or p 0
  sought_found (taken w e l x) = finds_here (rw e at (way_finds whole w)) l x
  sought_found (vacant w e) = finds_nothing (way_finds whole w) e

  pub sought_none : {p : Result ℕ Vacancy} → Sought s t tree key p → result_ok p ≡ None → node key ≡ 0
  sought_none (taken w e l x) h = absurd (cc)
  sought_none (vacant w e) h = finds_nothing (way_finds whole w) e

  pub sought_vacant : {last bit : ℕ} → Sought s t tree key (Err (record { row = last; bit = bit }))
      → (tree ≤ last) × (last < to) × RowInside t last × (bit < 2)
  sought_vacant (vacant w e) = way_inside whole w

-- One more reference

-- a reference at a row, with its key, is put below the last row of a search
pub record Hung (s t t' : List ℕ) (tree row key last bit : ℕ) : Type 0 where
  pub new : KeyAt s t row key
  pub sought : Sought s t tree key (Err (record { row = last; bit = bit }))
  pub changed : Changed t t' 0 (length t)
  pub joined : child t' bit last ≡ row
  pub alone : (b : ℕ) → b < 2 → child t' b row ≡ 0
  pub others : (b q : ℕ) → b < 2 → (q ≡ row → ⊥) → (b ≡ bit → q ≡ last → ⊥) → child t' b q ≡ child t b q
  pub marked : 63 ≤ mark t' row
  pub marks : (q : ℕ) → (q ≡ row → ⊥) → mark t' q ≡ mark t q

-- its mark is put at its row, and its row at the last
pub hang : {s t u t' : List ℕ} {tree row key m last bit : ℕ} → KeyAt s t row key → (link t row ≡ 0) × (child t 1 row ≡ 0) → Sought s t tree key (Err (record { row = last; bit = bit }))
    → last < row → 63 ≤ m
    → Changed t u row (row + 1) × (mark u row ≡ m) × (link u row ≡ link t row) × (child u 1 row ≡ child t 1 row)
    → Changed u t' last (last + 1) × (child t' bit last ≡ row) × (mark t' last ≡ mark u last)
    × ((b : ℕ) → b < 2 → (b ≡ bit → ⊥) → child t' b last ≡ child u b last) × (bit ≡ 1 → link t' last ≡ link u last)
    → Hung s t t' tree row key last bit × (mark t' row ≡ m) × Changed t t' last (row + 1)
hang {s} {t} {u} {t'} {tree} {row} {key} {m} {last} {bit} x free w below high a b =
    let changed : Changed t t' last (row + 1) =
    changed_then (changed_wider a.0 last (row + 1) (omega arith) (omega arith)) (changed_wider b.0 last (row + 1) (omega arith) (omega arith)) in
    let at_row : Same u t' row = same_elsewhere b.0 row (omega arith) (λ e. omega arith) in
    let is : mark t' row ≡ m = same_mark at_row ∙ a.1 in (
      record {
        new = x;
        sought = w;
        changed = changed_wider changed 0 (length t) (omega arith) (omega (arith, x.reference.leaf_at.row.inside));
        joined = b.1;
        alone = λ c i. same_child at_row c i ∙ none c i;
        others = λ c q i n d. linked c q i d (ℕ_discrete q last) ∙ same_child (same_elsewhere a.0 q (omega arith) n) c i;
        marked = rw is high;
        marks = λ q n. unmarked q (ℕ_discrete q last) ∙ same_mark (same_elsewhere a.0 q (omega arith) n);
      },
      is,
      changed,
    )
  where
    none : (c : ℕ) → c < 2 → child u c row ≡ 0
    none zero i = omega (arith, a.2, free.0)
    none (suc zero) i = a.3 ∙ free.1
    none (suc (suc c)) i = absurd (omega arith)

    linked : (c q : ℕ) → c < 2 → (c ≡ bit → q ≡ last → ⊥) → Dec (q ≡ last) → child t' c q ≡ child u c q
    linked c q i d (yes e) = rw e (b.3 c i (λ z. d z e))
    linked c q i d (no n) = same_child (same_elsewhere b.0 q (omega arith) n) c i

    unmarked : (q : ℕ) → Dec (q ≡ last) → mark t' q ≡ mark u q
    unmarked q (yes e) = rw e b.2
    unmarked q (no n) = same_mark (same_elsewhere b.0 q (omega arith) n)

-- where a tree has each key, with one more
abbrev pub adding : (ℕ → ℕ) → ℕ → ℕ → ℕ → ℕ
adding node key row k = when eqb k key then row else node k

pub adding_new : (node : ℕ → ℕ) (key row : ℕ) → adding node key row key ≡ row
adding_new node key row = rw (eq-eqb key key refl)

pub adding_others : (node : ℕ → ℕ) (key row k : ℕ) → (k ≡ key → ⊥) → adding node key row k ≡ node k
adding_others node key row k n = rw (ne_eqb k key n)

module _ {s t t' : List ℕ} {tree to row key last bit : ℕ} {node : ℕ → ℕ} (h : Hung s t t' tree row key last bit) (whole : Tree s t tree to node) (later : to ≤ row) where
  below : last < row
  below = omega (arith, (sought_vacant whole h.sought).1)

  free : child t bit last ≡ 0
  free = go h.sought
    where
      go : {b l : ℕ} → Sought s t tree key (Err (record { row = l; bit = b })) → child t b l ≡ 0
      go (vacant w e) = e

  -- a row that was there before is still reached
  child_stays : (b q : ℕ) → b < 2 → q < row → 0 < child t b q → child t' b q ≡ child t b q
  child_stays b q i l some = h.others b q i (λ e. omega arith) (λ e g. omega (arith, free, ap₂ (child t) e g))

  member_still : {q r k : ℕ} → MemberAt s t q to r k → MemberAt s t' q (row + 1) r k
  member_still {r = r} m = member_kept m h.changed (row + 1) (omega arith) (rw (h.marks r (λ e. omega (arith, m.before))) m.marked)

  -- other keys find what they found
  finds_still : {k bits q r found : ℕ} → (k ≡ key → ⊥) → q < row → Finds s t to k bits q r found → (b : ℕ) → b < 2 → child t b q ≡ r
      → Finds s t' (row + 1) k bits q (child t' b q) found
  finds_still {k} {bits} {q} n l nothing b i e = go (ℕ_discrete b bit) (ℕ_discrete q last)
    where
      member : q ≡ last → MemberAt s t' q (row + 1) row key
      member w = record { key = key_kept h.changed h.new; behind = l; before = omega arith; marked = h.marked }

      go : Dec (b ≡ bit) → Dec (q ≡ last) → Finds s t' (row + 1) k bits q (child t' b q) 0
      go (yes z) (yes w) =
          let ends : Finds s t' (row + 1) k (bits / 2) row (child t' (bits % 2) row) 0 = rw (h.alone (bits % 2) (omega arith)) nothing in
          let is : child t' b q ≡ row = ap₂ (child t') z w ∙ h.joined in
          rw is (onward (member w) (λ g. n (sym g)) ends)
      go (yes z) (no w) = rw (h.others b q i (λ g. omega arith) (λ g j. w j) ∙ e) nothing
      go (no z) d = rw (h.others b q i (λ g. omega arith) (λ g j. z g) ∙ e) nothing
  finds_still {q} n l (here m) b i e = rw (child_stays b q i l (omega (arith, e, m.behind)) ∙ e) (here (member_still m))
  finds_still {bits} {q} n l (onward m d f) b i e =
      rw (child_stays b q i l (omega (arith, e, m.behind)) ∙ e)
      (onward (member_still m) d (finds_still n (omega (arith, m.before)) f (bits % 2) (omega arith) refl))

  -- the new key is found at its row
  way_back : {bits q b found : ℕ} → Way s t tree key bits q b → Finds s t' (row + 1) key bits q (child t' b q) found
      → Finds s t' (row + 1) key key tree (child t' 1 tree) found
  way_back begin f = f
  way_back (pass {last = p} {bit = c} w l y d) f =
      let m = finds_row (way_finds whole w) l in
      let at = way_inside whole w in
      let same : m.0 ≡ _ = key_same m.1.key y in
      way_back w (rw (child_stays c p at.3 (omega (arith, at.1)) l) (onward (member_still m.1) (λ e. d (sym same ∙ e)) f))

  pub tree_hung : Tree s t' tree (row + 1) (adding node key row)
  tree_hung = record {
    finds = λ k. go k (ℕ_discrete k key);
    inside = omega (arith, whole.inside, h.changed.same_length);
    begins = omega (arith, whole.begins);
  }
    where
      go : (k : ℕ) → Dec (k ≡ key) → Finds s t' (row + 1) k k tree (child t' 1 tree) (adding node key row k)
      go k (yes z) = rw (z, adding_new node key row) (found h.sought)
        where
          found : Sought s t tree key (Err (record { row = last; bit = bit })) → Finds s t' (row + 1) key key tree (child t' 1 tree) row
          found (vacant w e) =
              way_back w (rw h.joined (here (record { key = key_kept h.changed h.new; behind = below; before = omega arith; marked = h.marked })))
      go k (no z) = rw (adding_others node key row k z) (finds_still z (omega (arith, whole.begins)) (whole.finds k) 1 (omega arith) refl)

  -- what was found before
  pub hung_before : (k : ℕ) → 0 < node k → adding node key row k ≡ node k
  hung_before k l = adding_others node key row k (λ e. omega (arith, ap node e, sought_found whole h.sought))

-- a tree in another table
module _ {s t t' : List ℕ} {a b tree to : ℕ} (c : Changed t t' a b) (end : ℕ) (later : to ≤ end)
    (children : (d r : ℕ) → d < 2 → tree < r → r < to → child t' d r ≡ child t d r)
    (marks : (r : ℕ) → tree < r → r < to → 63 ≤ mark t r → 63 ≤ mark t' r) where
  finds_kept : {k bits q r found : ℕ} → tree ≤ q → Finds s t to k bits q r found → Finds s t' end k bits q r found
  finds_kept l nothing = nothing
  finds_kept l (here m) = here (member_kept m c end later (marks _ (omega (arith, m.behind)) m.before m.marked))
  finds_kept {bits} l (onward {row = r} {found = found} m d f) =
      let lower : tree < r = omega (arith, m.behind) in
      onward {bits = bits} {found = found} (member_kept m c end later (marks _ lower m.before m.marked)) d
      (rw (children (bits % 2) r (omega arith) lower m.before) (finds_kept (omega arith) f))

  pub tree_kept : {node : ℕ → ℕ} → child t' 1 tree ≡ child t 1 tree → Tree s t tree to node → Tree s t' tree end node
  tree_kept e whole = record {
    finds = λ k. rw e (finds_kept (omega arith) (whole.finds k));
    inside = omega (arith, whole.inside, c.same_length);
    begins = omega (arith, whole.begins);
  }

-- Lists

-- one more is named
pub lists_joined : {s t t' : List ℕ} {list row key last bit : ℕ} {os : List Operator} (o : Operator) → Hung s t t' list row key last bit
    → mark t' row ≡ 64 + o.arity → Lists s t list row os → key_of o.marker o.name ≡ key → o.name < 256 → row < next t list
    → Lists s t' list (row + 1) (os ++ (o ∷ []))
lists_joined {s} {t} {t'} {list} {row} {key} {last} {bit} {os} o h marked lists e small within = record {
  node = adding lists.node key row;
  tree = tree_hung h lists.tree (omega arith);
  roles = λ k. arity_now k (ℕ_discrete k key);
  own = λ r k i j x. own r k i (ℕ_discrete r row) j x;
  low = lists.low;
  ends = omega (arith, (h.changed.same_rows list).same_next);
}
  where
    none : lists.node key ≡ 0
    none = sought_found lists.tree h.sought

    some : 0 < row
    some = omega (arith, lists.tree.begins)

    arity_now : (k : ℕ) → Dec (k ≡ key) → arity_of (os ++ (o ∷ [])) k ≡ arity_at t' (adding lists.node key row k)
    arity_now k (yes z) =
        let arity : mark t' row - 64 ≡ o.arity = omega (arith, marked) in
        rw (z, adding_new lists.node key row, arity_added o key small os e (lists.roles key ∙ rw none), arity_operator t' row some (omega (arith, marked)), arity)
    arity_now k (no z) =
        rw (adding_others lists.node key row k z, arity_others o k small os (λ y. z (sym y ∙ e)))
        (lists.roles k ∙ sym (arity_at_same t t' (lists.node k) (λ l. h.marks (lists.node k) (λ g. omega (arith, (tree_found lists.tree k l).before)))))

    own : (r k : ℕ) → list < r → Dec (r ≡ row) → r < row + 1 → KeyAt s t' r k → (adding lists.node key row k ≡ r) × (64 ≤ mark t' r)
    own r k i (yes z) j x =
        let same : k ≡ key = key_same (rw z at x) (key_kept h.changed h.new) in
        (ap (adding lists.node key row) same ∙ adding_new lists.node key row ∙ sym z, rw z (omega (arith, marked)))
    own r k i (no z) j x =
        let old = lists.own r k i (omega arith) (key_kept (changed_back h.changed) x) in (
          hung_before h lists.tree (omega arith) k (omega (arith, old.0)) ∙ old.0,
          rw (h.marks r z) old.1,
        )

-- in another table
pub lists_kept : {s t t' : List ℕ} {a b list to : ℕ} {os : List Operator} (c : Changed t t' a b) → ((r : ℕ) → list < r → r < to → Same t t' r)
    → child t' 1 list ≡ child t 1 list → Lists s t list to os → Lists s t' list to os
lists_kept {s} {t} {t'} {list = list} {to = to} c same e l = record {
  node = l.node;
  tree = tree_kept c to (omega arith) (λ d r i j k. same_child (same r j k) d i) (λ r i j m. rw (same_mark (same r i j)) m) e l.tree;
  roles = λ k. l.roles k ∙ sym (arity_at_same t t' (l.node k) (λ i. let m = tree_found l.tree k i in same_mark (same (l.node k) m.behind m.before)));
  own = λ r k i j x. let old = l.own r k i j (key_kept (changed_back c) x) in (old.0, rw (same_mark (same r i j)) old.1);
  low = l.low;
  ends = omega (arith, (c.same_rows list).same_next, l.ends);
}

-- up to a later row, with no references between
pub lists_later : {s t : List ℕ} {list to : ℕ} {os : List Operator} (end : ℕ) → Lists s t list to os → to ≤ end → end ≤ next t list
    → ((r : ℕ) → to ≤ r → r < end → kind t r ≡ 4 → ⊥) → Lists s t list end os
lists_later {s} {t} {list} {to} end l h g none = record {
  node = l.node;
  tree = tree_later l.tree;
  roles = l.roles;
  own = λ r k i j x. elim (dec_lt r to) [ yes z ↦ l.own r k i z x | no z ↦ absurd (none r (omega arith) j (key_kind x)) ];
  low = l.low;
  ends = g;
}
  where
    finds_later : {k bits q r found : ℕ} → Finds s t to k bits q r found → Finds s t end k bits q r found
    finds_later nothing = nothing
    finds_later (here m) = here (record { key = m.key; behind = m.behind; before = omega (arith, m.before); marked = m.marked })
    finds_later (onward m d f) =
        onward (record { key = m.key; behind = m.behind; before = omega (arith, m.before); marked = m.marked }) d (finds_later f)

    tree_later : {node : ℕ → ℕ} → Tree s t list to node → Tree s t list end node
    tree_later w = record { finds = λ k. finds_later (w.finds k); inside = w.inside; begins = omega (arith, w.begins) }
