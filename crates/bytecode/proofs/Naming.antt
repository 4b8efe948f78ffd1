-- Laws of the naming of an arity list's references, one expression after another. Document 02, §1. Assumes nothing.
use Prim.Native.Nat.{ℕ, ◌+◌, ◌-◌, ◌≤◌, ◌<◌}
use mathlib.Core.Path.{◌≡◌, refl, sym, ap, ◌∙◌}
use mathlib.Core.List.{List, [], ◌∷◌, ◌++◌}
use mathlib.Core.Bool.{Bool, true, false}
use native.Mathlib.Decide.{ℕ_discrete}
use native.Mathlib.Omega.{arith}
use Rattle.std.specs.Prelude.{Ok, Option, Some, None}
use Rattle.std.specs.Option.{option_map_or}
use Rattle.spec.specs.Expr.{nil, array, int, ref}
use Rattle.spec.specs.Nodes.{Node, leaf, branch, bytecode, Nodes, empty, cons}
use Rattle.spec.specs.Bytecode.{Operator, if_listed, Arities, listed, ill_formed, and_then, series, arities, operators}
use Rattle.laws.specs.Demands.{Bytes}
use Rattle.rows.specs.Rows.{kind, mark, next, LeafAt, WrittenAt, WrittenAll, key_of}
use Rattle.rows.proofs.Nodes.{kind_int, written_next, written_whole, leaf_kind, leaf_fits, MoreWritten, written_order, written_done, written_more, written_form, written_leaf}
use Rattle.rows.proofs.Parts.{ReferenceNode, written_reference}
use Rattle.bytecode.specs.Numbers.{Changed, Unlinked}
use Rattle.bytecode.specs.Named.{arity_of, KeyAt, nothing, Lists, Sought, Naming, NamedBy, ListAt}
use Rattle.bytecode.proofs.Changing.{written_all_kept, same_link, same_other}
use Rattle.bytecode.proofs.Roles.{listed_arity, reference_arity}
use Rattle.bytecode.proofs.Named.{key_read, arity_operator, tree_found, sought_found, sought_some, Hung, lists_joined, lists_later}

-- Expressions that are named one after another

pub record Folds (all : Nodes → List Operator → Arities) : Type 0 where
  pub done : (os : List Operator) → all empty os ≡ listed os
  pub first : (e : Node) (es : Nodes) (os : List Operator) → all (cons e es) os ≡ and_then (all (cons e empty) os) (all es)

-- a reference that is not listed yet is one more
series_reference : (n q m k : ℕ) (es : Nodes) (os : List Operator)
    → series n (cons (leaf q (ref m k)) es) os
    ≡ option_map_or (λ twice. ill_formed) (if_listed os m k (λ a. Some a) None) (series n es (os ++ (record { marker = m; name = k; arity = n } ∷ [])))
unfolding series
series_reference n q m k es os = listed_arity os m k (λ twice. ill_formed) _

pub series_folds : (n : ℕ) → Folds (series n)
unfolding series
series_folds n = record { done = λ os. refl; first = first }
  where
    first : (e : Node) (es : Nodes) (os : List Operator) → series n (cons e es) os ≡ and_then (series n (cons e empty) os) (series n es)
    first (leaf q nil) es os = refl
    first (leaf q (array bs)) es os = refl
    first (leaf q (int v)) es os = refl
    first (leaf q (ref m k)) es os = rw (series_reference n q m k es os, series_reference n q m k empty os) (go (if_listed os m k (λ a. Some a) None))
      where
        go : (r : Option ℕ) → option_map_or (λ twice. ill_formed) r (series n es (os ++ (record { marker = m; name = k; arity = n } ∷ [])))
            ≡ and_then (option_map_or (λ twice. ill_formed) r (listed (os ++ (record { marker = m; name = k; arity = n } ∷ [])))) (series n es)
        go (Some a) = refl
        go None = refl
    first (branch q fs) es os = refl
    first (bytecode q fs o) es os = refl

pub arities_folds : Folds arities
unfolding arities
arities_folds = record { done = λ os. refl; first = first }
  where
    then_listed : (x : Arities) (f : List Operator → Arities) → and_then x f ≡ and_then (and_then x (λ os. listed os)) f
    then_listed (listed os) f = refl
    then_listed ill_formed f = refl

    first : (e : Node) (es : Nodes) (os : List Operator) → arities (cons e es) os ≡ and_then (arities (cons e empty) os) (arities es)
    first (leaf q a) es os = refl
    first (branch q empty) es os = refl
    first (branch q (cons (leaf p nil) fs)) es os = refl
    first (branch q (cons (leaf p (array bs)) fs)) es os = refl
    first (branch q (cons (leaf p (int n)) fs)) es os = then_listed (series n fs os) (arities es)
    first (branch q (cons (leaf p (ref m k)) fs)) es os = refl
    first (branch q (cons (branch p gs) fs)) es os = refl
    first (branch q (cons (bytecode p gs o) fs)) es os = refl
    first (bytecode q fs o) es os = refl

then_done : (x : Arities) → and_then x (arities empty) ≡ x
unfolding arities
then_done (listed os) = refl
then_done ill_formed = refl

-- NamedBy

module _ (s t : List ℕ) (list to : ℕ) where
  named_true : (x : Arities) → NamedBy s t list to x true → (os : List Operator) × (x ≡ listed os) × Lists s t list to os
  named_true (listed os) n = (os, refl, n.1)
  named_true ill_formed n = absurd (cc)

  named_false : (x : Arities) → NamedBy s t list to x false → x ≡ ill_formed
  named_false (listed os) n = absurd (cc n.0)
  named_false ill_formed n = refl

  pub ill_named : {x : Arities} → x ≡ ill_formed → NamedBy s t list to x false
  ill_named e = rw e refl

pub named_as : (s t : List ℕ) (list : ℕ) {to end : ℕ} {x y : Arities} (r : Bool) → to ≡ end → y ≡ x → NamedBy s t list to x r → NamedBy s t list end y r
named_as s t list r e g n = rw (← e, g) n

-- Left

-- what is left of the expressions, from a row on: it gives what all of them give
pub record Left (s t : List ℕ) (list row end : ℕ) (all : Nodes → List Operator → Arities) (x : Arities) : Type 0 where
  pub nodes : Nodes
  pub operators : List Operator
  pub naming : Naming s t list row end operators nodes
  pub gives : x ≡ all nodes operators

-- the first of them, and the others
pub record First (s t : List ℕ) (list row end : ℕ) (all : Nodes → List Operator → Arities) (x : Arities) : Type 0 where
  pub node : Node
  pub others : Nodes
  pub operators : List Operator
  pub naming : Naming s t list row (next t row) operators (cons node empty)
  pub written : WrittenAll s t (next t row) end others
  pub unlinked : Unlinked t (next t row) end
  pub forward : row < next t row
  pub inside : next t row ≤ end
  pub within : end ≤ next t list
  pub gives : x ≡ and_then (all (cons node empty) operators) (all others)

module _ {s t : List ℕ} {list row end : ℕ} {all : Nodes → List Operator → Arities} {x : Arities} (folds : Folds all) where
  pub left_first : Left s t list row end all x → row < end → First s t list row end all x
  unfolding WrittenAt
  left_first l h =
      let n = l.naming in
      let more = written_more s t row end l.nodes n.written h in
      record {
        node = more.head;
        others = more.rest;
        operators = l.operators;
        naming = record {
          lists = n.lists;
          written = (more.forward, omega arith, more.node, refl);
          unlinked = λ r i j. n.unlinked r i (omega (arith, more.inside));
          within = omega (arith, more.inside, n.within);
        };
        written = more.nodes;
        unlinked = λ r i j. n.unlinked r (omega (arith, more.forward)) j;
        forward = more.forward;
        inside = more.inside;
        within = n.within;
        gives = l.gives ∙ ap (λ (es : Nodes). all es l.operators) more.is ∙ folds.first more.head more.rest l.operators;
      }

  pub left_none : {to : ℕ} → Left s t list row end all x → end ≤ row → end ≡ to → NamedBy s t list to x true
  left_none {to} l h e =
      let ends : row ≡ to = omega (arith, written_order s t row end l.nodes l.naming.written) in
      let none = written_done s t row end l.nodes l.naming.written h in
      rw (l.gives ∙ ap (λ (es : Nodes). all es l.operators) none ∙ folds.done l.operators) (refl, rw ends at l.naming.lists)

module _ {s t : List ℕ} {list row end : ℕ} {all : Nodes → List Operator → Arities} {x : Arities} (f : First s t list row end all x) where
  pub first_written : WrittenAt s t row f.node
  unfolding WrittenAt
  first_written = f.naming.written.2

  -- it is named, or it ends the list
  pub first_named : (t' : List ℕ) {r : Bool} {q : ℕ} → Changed t t' list (next t row) → NamedBy s t' list (next t row) (all (cons f.node empty) f.operators) r
      → r ≡ true → q ≡ next t row → Left s t' list q end all x
  first_named t' c n fine e =
      let named = named_true s t' list (next t row) (all (cons f.node empty) f.operators) (rw fine at n) in
      record {
        nodes = f.others;
        operators = named.0;
        naming = record {
          lists = rw e named.2;
          written = rw e (written_all_kept s c f.others (next t row) end f.written);
          unlinked = λ r i j. let same = c.behind r (omega arith) in
              let old = f.unlinked r (omega arith) j in
              (same_link same ∙ old.0, same_other same ∙ old.1);
          within = omega (arith, (c.same_rows list).same_next, f.within);
        };
        gives = f.gives ∙ ap (λ (y : Arities). and_then y (all f.others)) named.1;
      }

  pub first_ill : all (cons f.node empty) f.operators ≡ ill_formed → x ≡ ill_formed
  first_ill e = f.gives ∙ ap (λ (y : Arities). and_then y (all f.others)) e

  pub first_refused : (t' : List ℕ) (to : ℕ) {r : Bool} → NamedBy s t' list to (all (cons f.node empty) f.operators) r → r ≡ false → x ≡ ill_formed
  first_refused t' to n refused = first_ill (named_false s t' list to (all (cons f.node empty) f.operators) (rw refused at n))

-- One reference

pub one_reference : {s t : List ℕ} {list row : ℕ} {os : List Operator} {e : Node} → Naming s t list row (next t row) os (cons e empty) → kind t row ≡ 4
    → ReferenceNode s t row e
unfolding WrittenAt
one_reference {s} {t} {row = row} {e = e} n is = written_reference s t row e n.written.2 is

-- its key as the code reads it
pub one_key : {s t : List ℕ} {list row k : ℕ} {os : List Operator} {e : Node} → Naming s t list row (next t row) os (cons e empty) → kind t row ≡ 4
    → ((m n : ℕ) → LeafAt s t row (ref m n) → k ≡ key_of m n) → KeyAt s t row k
one_key n is read = let x = one_reference n is in key_read (record { marker = x.marker; name = x.name; leaf_at = x.here }) read

module _ {s t : List ℕ} {list row key : ℕ} {os : List Operator} {e : Node} (n : Naming s t list row (next t row) os (cons e empty)) (is : kind t row ≡ 4)
    (bytes : Bytes s) (x : KeyAt s t row key) (arity : ℕ) where
  abbrev added : Operator
  added = let r = one_reference n is in record { marker = r.marker; name = r.name; arity = arity }

  -- what it gives, by its arity so far
  one_gives : {r : Option ℕ} → arity_of os key ≡ r → series arity (cons e empty) os ≡ option_map_or (λ twice. ill_formed) r (listed (os ++ (added ∷ [])))
  unfolding series
  one_gives h =
      let r = one_reference n is in
      let known = reference_arity s t row os bytes r.here (sym (x.is r.marker r.name r.here)) in
      ap (λ (e : Node). series arity (cons e empty) os) r.is ∙ series_reference arity row r.marker r.name empty os
      ∙ ap (λ (y : Option ℕ). option_map_or (λ twice. ill_formed) y (listed (os ++ (added ∷ [])))) (sym known ∙ h)

  pub one_twice : {q : ℕ} → Sought s t list key (Ok q) → NamedBy s t list (next t row) (series arity (cons e empty) os) false
  one_twice {q} w =
      let l = n.lists in
      let is : l.node key ≡ q = sought_found l.tree w in
      let some = sought_some w in
      let m = tree_found l.tree key (rw is some) in
      let own = l.own q key (omega (arith, m.behind, is)) (omega (arith, m.before, is)) (rw is at m.key) in
      rw (one_gives {r = Some (mark t q - 64)} (l.roles key ∙ rw is (arity_operator t q some own.1))) refl

  pub one_named : {t' : List ℕ} {last bit : ℕ} → Hung s t t' list row key last bit → mark t' row ≡ 64 + arity
      → NamedBy s t' list (next t row) (series arity (cons e empty) os) true
  one_named h marked =
      let r = one_reference n is in
      rw (one_gives {r = None} (n.lists.roles key ∙ rw (sought_found n.lists.tree h.sought)), r.here.on)
      (refl, lists_joined added h marked n.lists (x.is r.marker r.name r.here) (leaf_fits bytes r.here).2 (omega (arith, r.here.on, n.within)))

-- what is no reference ends the list
pub series_other : (s t : List ℕ) (r n : ℕ) (e : Node) (es : Nodes) (os : List Operator) → WrittenAt s t r e → (kind t r ≡ 4 → ⊥)
    → series n (cons e es) os ≡ ill_formed
unfolding WrittenAt series
series_other s t r n (leaf q nil) es os w h = refl
series_other s t r n (leaf q (array bs)) es os w h = refl
series_other s t r n (leaf q (int v)) es os w h = refl
series_other s t r n (leaf q (ref m k)) es os w h = absurd (h w.1.row.kind_is)
series_other s t r n (branch q fs) es os w h = refl
series_other s t r n (bytecode q fs o) es os w h = refl

-- One form: a small integer, and then references

module _ {s t : List ℕ} {list row : ℕ} {os : List Operator} {e : Node} (n : Naming s t list row (next t row) os (cons e empty)) where
  pub one_written : WrittenAt s t row e
  unfolding WrittenAt
  one_written = n.written.2

  pub entry_leaf : (kind t row ≡ 1 → ⊥) → arities (cons e empty) os ≡ ill_formed
  unfolding arities
  entry_leaf h = ap (λ (f : Node). arities (cons f empty) os) (written_leaf s t row e one_written h).1

  module _ (form : kind t row ≡ 1) where
    pub entry_empty : next t row ≤ row + 1 → arities (cons e empty) os ≡ ill_formed
    unfolding arities
    entry_empty h =
        let inside = written_form s t row e one_written form in
        let none = written_done s t (row + 1) (next t row) inside.0 inside.2 h in
        ap (λ (f : Node). arities (cons f empty) os) inside.1 ∙ ap (λ (fs : Nodes). arities (cons (branch row fs) empty) os) none

    module _ (some : row + 1 < next t row) where
      abbrev head : MoreWritten s t (row + 1) (next t row) (written_form s t row e one_written form).0
      head = let inside = written_form s t row e one_written form in written_more s t (row + 1) (next t row) inside.0 inside.2 some

      pub entry_head : WrittenAt s t (row + 1) head.head
      entry_head = head.node

      entry_is : e ≡ branch row (cons head.head head.rest)
      entry_is = (written_form s t row e one_written form).1 ∙ ap (branch row) head.is

      pub entry_other : (kind t (row + 1) ≡ 3 → ⊥) → arities (cons e empty) os ≡ ill_formed
      unfolding arities WrittenAt
      entry_other h = ap (λ (f : Node). arities (cons f empty) os) entry_is ∙ go head.head head.node
        where
          go : (f : Node) → WrittenAt s t (row + 1) f → arities (cons (branch row (cons f head.rest)) empty) os ≡ ill_formed
          go (leaf q nil) w = refl
          go (leaf q (array bs)) w = refl
          go (leaf q (int v)) w = absurd (h w.1.row.kind_is)
          go (leaf q (ref m k)) w = refl
          go (branch q fs) w = refl
          go (bytecode q fs o) w = refl

      -- the references that follow the integer
      pub entry_number : {end : ℕ} → kind t (row + 1) ≡ 3 → end ≡ next t row
          → (k : ℕ) × (es : Nodes) × LeafAt s t (row + 1) (int k) × Naming s t list (row + 1 + 1) end os es × (arities (cons e empty) os ≡ series k es os)
      unfolding arities
      entry_number h ends =
          let l = written_leaf s t (row + 1) head.head head.node (λ z. omega arith) in
          let a = kind_int l.0 (leaf_kind l.2 ∙ h) in
          let number : LeafAt s t (row + 1) (int a.0) = rw a.1 at l.2 in
          let is : head.head ≡ leaf (row + 1) (int a.0) = l.1 ∙ ap (leaf (row + 1)) a.1 in (
            a.0,
            head.rest,
            number,
            record {
              lists = lists_later (row + 1 + 1) n.lists (omega arith) (omega (arith, n.within))
                  (λ r i j k. elim (ℕ_discrete r row) [ yes z ↦ omega (arith, form, ap (kind t) z) | no z ↦ let z : r ≡ row + 1 = omega arith in omega (arith, h, ap (kind t) z) ]);
              written = rw ends (rw number.on at head.nodes);
              unlinked = λ r i j. n.unlinked r (omega arith) (omega arith);
              within = omega (arith, n.within);
            },
            ap (λ (f : Node). arities (cons f empty) os) (entry_is ∙ ap (λ (f : Node). branch row (cons f head.rest)) is)
                ∙ then_done (series a.0 head.rest os),
          )

-- The list

module _ {s t : List ℕ} {list : ℕ} {e : Node} (l : ListAt s t list e) where
  pub list_leaf : (kind t list ≡ 1 → ⊥) → operators e ≡ ill_formed
  list_leaf h = ap operators (written_leaf s t list e l.written h).1

  pub list_begins : {end : ℕ} → kind t list ≡ 1 → end ≡ next t list → Left s t list (list + 1) end arities (operators e)
  unfolding if_listed
  list_begins {end} h ends =
      let inside = written_form s t list e l.written h in
      let forward = written_next s t list e l.written in
      record {
        nodes = inside.0;
        operators = [];
        naming = record {
          lists = record {
            node = λ k. 0;
            tree = record {
              finds = λ k. rw (l.unlinked list (omega arith) (omega arith)).1 nothing;
              inside = (written_whole s t list e l.written).0;
              begins = omega arith;
            };
            roles = λ k. refl;
            own = λ r k i j x. absurd (omega arith);
            low = l.low;
            ends = omega arith;
          };
          written = rw ends inside.2;
          unlinked = λ r i j. l.unlinked r (omega arith) (omega arith);
          within = omega arith;
        };
        gives = ap operators inside.1;
      }
