-- What is done with a bytecode form, table after table: its arity list is named, its flat list is gathered, its head is marked. Document 02,
-- §1. Assumes nothing.
use Prim.Native.Nat.{ℕ, zero, suc, ◌+◌, ◌-◌, ◌≤◌, ◌<◌}
use mathlib.Core.Path.{◌≡◌, refl, sym, ◌∙◌}
use mathlib.Core.List.{List, ◌∷◌}
use mathlib.Core.Bool.{Bool, true, false}
use native.Mathlib.Decide.{ℕ_discrete, dec_lt}
use native.Mathlib.Omega.{arith}
use lib.Dec.{eqb}
use borrow.Author.Tests.{eq-eqb}
use Rattle.std.specs.Prelude.{Result, Ok, Err, is_err}
use Rattle.spec.specs.Expr.{when◌then◌else◌}
use Rattle.spec.specs.Nodes.{Node, Nodes, empty, cons, tail}
use Rattle.spec.specs.Bytecode.{Operator, Arities, listed, ill_formed, operators, Around, all}
use Rattle.spec.proofs.Flat.{refusal, outcome_fine, arity_list}
use Rattle.atoms.specs.declared.refusal.Reason.{Reason}
use Rattle.atoms.proofs.Reasons.{number_positive}
use Rattle.rows.specs.Rows.{RowInside, kind, mark, link, next, WrittenAll}
use Rattle.rows.specs.declared.forms.Form.{Form}
use Rattle.rows.proofs.Nodes.{written_order, written_whole, written_more}
use Rattle.bytecode.specs.Numbers.{child, Changed, Unlisted, Aside}
use Rattle.bytecode.specs.Named.{Lists, Arounds, NamedBy, ListAt, Entering}
use Rattle.bytecode.specs.Gathered.{refusal_of, GatheredAt, SameMarks, FlatAt}
use Rattle.bytecode.specs.Frames.{Holds}
use Rattle.bytecode.specs.Scanned.{Descends, here, up, AroundAt, Fresh, HeadedAt, Enclosed, flat_frame, Framed, StarLeft, StarRefusal, Judged, refused, fine, Starred, FormChanged}
use Rattle.bytecode.proofs.Changing.{same_mark, same_link, same_child, changed_wider, changed_then, changed_aside, aside_changed, aside_wider, aside_then, written_kept, written_all_kept}
use Rattle.bytecode.proofs.Depths.{measured_kept}
use Rattle.bytecode.proofs.Named.{lists_kept}
use Rattle.bytecode.proofs.Links.{written_inside, written_references}
use Rattle.bytecode.proofs.Naming.{list_leaf}
use Rattle.bytecode.proofs.Lists.{around_low, around_before, around_kept}
use Rattle.bytecode.proofs.Frames.{fresh_next, fresh_kept, holds_kept}

-- Refusals

pub verdict_refused : (v : Result Unit Reason) → is_err v ≡ true → refusal_of v ≡ 0 → ⊥
verdict_refused (Ok u) e z = absurd (cc)
verdict_refused (Err reason) e z = omega (arith, z, number_positive reason)

pub verdict_fine : (v : Result Unit Reason) → is_err v ≡ false → refusal_of v ≡ 0
verdict_fine (Ok u) e = refl
verdict_fine (Err reason) e = absurd (cc)

-- A flat list

-- that is gathered: only links are put
module _ {s t t' : List ℕ} (form : Form) (first : ℕ) (os : List Operator) (es : Nodes) (around : Around) (list : ℕ) where
  gathered_holds : Fresh s t first form.end es → Changed t t' first form.end → SameMarks t t' → refusal form.first os es ≡ 0 → GatheredAt t' os 0 first es
      → Holds s t' (flat_frame form first os es around list)
  gathered_holds h c m z g = record {
    written = written_all_kept s c es first form.end h.written;
    operators = g;
    enough = (outcome_fine form.first os around es z).1;
    unmarked = λ q l k i. (m q).0 ∙ h.unmarked q l k (sym (c.same_rows q).same_kind ∙ i);
    measured = measured_kept s c (λ q l k. (m q).0) h.measured;
  }

-- that is refused
pub judged_refused : (s t : List ℕ) (form : Form) (list k : ℕ) (os : List Operator) (outer around : Around) (es : Nodes) (r : ℕ) → r ≡ refusal form.first os es → (r ≡ 0 → ⊥)
    → mark t form.first ≡ r → AroundAt s t form.end list outer → Judged s t form list k os outer around es (record { row = form.end; around = list })
judged_refused s t form list k os outer around es zero e n m a = absurd (n refl)
judged_refused s t form list k os outer around es (suc w) e n m a = refused w (sym e) m a

-- A form headed by `prefix*`

-- its arity list
star_list : {s t : List ℕ} {form : Form} {a : Node} {es : Nodes} → HeadedAt s t form (cons a es) → ListAt s t (form.first + 1) a
unfolding WrittenAll
star_list h =
    let w = h.fresh.written in
    record { written = w.2; low = omega arith; unlinked = λ r l k. h.fresh.unlinked r l (omega (arith, w.1)) }

pub some_list : (s t : List ℕ) (form : Form) (es : Nodes) → HeadedAt s t form es → form.first + 1 < form.end → (a : Node) × ListAt s t (form.first + 1) a
unfolding WrittenAll
some_list s t form empty h l = absurd (omega (arith, h.fresh.written))
some_list s t form (cons a es) h l = (a, star_list h)

pub list_within : (s t : List ℕ) (form : Form) (es : Nodes) → HeadedAt s t form es → form.first + 1 < form.end
    → RowInside t (form.first + 1) × (next t (form.first + 1) ≤ form.end)
list_within s t form es h l =
    let m = written_more s t (form.first + 1) form.end es h.fresh.written l in
    ((written_whole s t (form.first + 1) m.head m.node).0, m.inside)

-- the arity list is named, in the table t'
pub record StarGiven (s t t' : List ℕ) (form : Form) (es : Nodes) : Type 0 where
  pub list : Node
  pub rest : Nodes
  pub is : es ≡ cons list rest
  pub given : List Operator
  pub operators_are : operators list ≡ listed given
  pub lists : Lists s t' (form.first + 1) (next t (form.first + 1)) given

module _ (s t t' : List ℕ) (form : Form) (r : Bool)
    (f : (e : Node) → ListAt s t (form.first + 1) e → NamedBy s t' (form.first + 1) (next t (form.first + 1)) (operators e) r) where
  by_arities : (a : Node) (es : Nodes) → r ≡ true → (x : Arities) → operators a ≡ x → NamedBy s t' (form.first + 1) (next t (form.first + 1)) x r
      → StarGiven s t t' form (cons a es)
  by_arities a es e (listed os) q n = record { list = a; rest = es; is = refl; given = os; operators_are = q; lists = n.1 }
  by_arities a es e ill_formed q n = absurd (cc (sym n ∙ e))

  star_given : (es : Nodes) → HeadedAt s t form es → form.first + 1 < form.end → r ≡ true → StarGiven s t t' form es
  unfolding WrittenAll
  star_given empty h l e = absurd (omega (arith, h.fresh.written))
  star_given (cons a es) h l e = by_arities a es e (operators a) refl (f a (star_list h))

  by_refusal : (a : Node) (es : Nodes) (around : Around) → r ≡ false → (x : Arities) → NamedBy s t' (form.first + 1) (next t (form.first + 1)) x r
      → StarRefusal s t' form around (cons a es) x 22
  by_refusal a es around e (listed os) n = absurd (cc (sym e ∙ n.0))
  by_refusal a es around e ill_formed n = refl

  pub star_ungiven : (es : Nodes) (around : Around) → HeadedAt s t form es → r ≡ false → StarRefusal s t' form around es (arity_list es) 22
  star_ungiven empty around h e = refl
  star_ungiven (cons a es) around h e = by_refusal a es around e (operators a) (f a (star_list h))

pub star_refusal : {s t t' u : List ℕ} {form : Form} {es : Nodes} (g : StarGiven s t t' form es) (around : Around) (r : ℕ)
    → r ≡ refusal form.first g.given g.rest → (r ≡ 0 → StarLeft s u form around g.given g.rest) → StarRefusal s u form around es (arity_list es) r
star_refusal g around r e l = rw (g.is, g.operators_are) (e, l)

-- there is none
pub star_bare : (s t : List ℕ) (form : Form) (es : Nodes) (around : Around) → HeadedAt s t form es → form.end ≤ form.first + 1
    → StarRefusal s t form around es (arity_list es) 22
unfolding WrittenAll
star_bare s t form empty around h l = refl
star_bare s t form (cons a es) around h l = absurd (omega (arith, h.fresh.written.0, h.fresh.written.1))

-- the list around is a row that fits
pub around_small : {s t : List ℕ} {form : Form} {es : Nodes} {list : ℕ} {around : Around} → HeadedAt s t form es → Enclosed s t form list around → list < 65536
around_small {list = list} h r = elim (dec_lt 0 list) [
  | yes l ↦ omega (arith, around_low r.lists l, h.head.leaf_at.row.few)
  | no n ↦ omega arith
]

-- the table t' once the arity list is named
pub record StarNamed (s t t' : List ℕ) (form : Form) (os : List Operator) (es : Nodes) : Type 0 where
  pub changed : Changed t t' (form.first + 1) (next t (form.first + 1))
  pub lists : Lists s t' (form.first + 1) (next t (form.first + 1)) os
  pub fresh : Fresh s t' (next t (form.first + 1)) form.end es

star_named : {s t t' : List ℕ} (form : Form) (os : List Operator) (a : Node) (es : Nodes) → HeadedAt s t form (cons a es)
    → Changed t t' (form.first + 1) (next t (form.first + 1)) → Lists s t' (form.first + 1) (next t (form.first + 1)) os → StarNamed s t t' form os es
star_named {s} {t} form os a es h c l =
    let at = form.first + 1 in
    let to = next t at in
    record { changed = c; lists = l; fresh = fresh_kept s c to form.end es (λ q i j. c.behind q i) (fresh_next s t at form.end a es h.fresh) }

-- as the code has named it
pub star_told : {s t t' : List ℕ} {r : Bool} (form : Form)
    → Changed t t' (form.first + 1) (next t (form.first + 1))
    × ((e : Node) → ListAt s t (form.first + 1) e → NamedBy s t' (form.first + 1) (next t (form.first + 1)) (operators e) r)
    → (es : Nodes) → HeadedAt s t form es → form.first + 1 < form.end → r ≡ true → (g : StarGiven s t t' form es) × StarNamed s t t' form g.given g.rest
star_told {s} {t} {t'} {r} form named es h l e =
    let g = star_given s t t' form r named.1 es h l e in
    (g, star_named form g.given g.list g.rest (rw g.is at h) named.0 g.lists)

module _ {s t t' : List ℕ} {form : Form} {os : List Operator} {es : Nodes} (n : StarNamed s t t' form os es) where
  begins : form.first + 1 < next t (form.first + 1)
  begins = n.lists.tree.begins

  named_kept : {u : List ℕ} {to : ℕ} → Changed t' u (next t (form.first + 1)) to → Lists s u (form.first + 1) (next t (form.first + 1)) os
  named_kept c = lists_kept c (λ r i j. c.before r j) (same_child (c.before (form.first + 1) begins) 1 (omega arith)) n.lists

  -- the row of the flat list
  pub star_next : next t' (form.first + 1) ≡ next t (form.first + 1)
  star_next = (n.changed.same_rows (form.first + 1)).same_next

  pub star_flat_at : FlatAt s t' (record { tree = form.first + 1 }) (next t (form.first + 1)) form.end os es
  star_flat_at = record {
    tells = λ u c. let l = named_kept c in record { to = next t (form.first + 1); node = l.node; tree = l.tree; roles = l.roles };
    written = n.fresh.written;
    measured = n.fresh.measured;
    unlinked = n.fresh.unlinked;
  }

  module _ {u : List ℕ} (c : Changed t' u (next t (form.first + 1)) form.end) where
    pub star_changed : Changed t u (form.first + 1) form.end
    star_changed =
        let order = written_order s t' (next t (form.first + 1)) form.end es n.fresh.written in
        changed_then (changed_wider n.changed (form.first + 1) form.end (omega arith) order) (changed_wider c (form.first + 1) form.end (omega (arith, begins)) (omega arith))

    pub star_left : (around : Around) → SameMarks t' u → refusal form.first os es ≡ 0 → GatheredAt u os 0 (next t (form.first + 1)) es → StarLeft s u form around os es
    star_left around m z g =
        let on : next u (form.first + 1) ≡ next t (form.first + 1) = (c.same_rows (form.first + 1)).same_next ∙ (n.changed.same_rows (form.first + 1)).same_next in
        record { lists = rw on (named_kept c); holds = rw on (gathered_holds form (next t (form.first + 1)) os es (os ∷ around) (form.first + 1) n.fresh c m z g) }

-- A form headed by `prefix`

module _ {s t : List ℕ} {form : Form} {list : ℕ} {around : Around} {es : Nodes} (h : HeadedAt s t form es) (r : Enclosed s t form list around) where
  pub nested_flat_at : FlatAt s t (record { tree = 0 }) (form.first + 1) form.end (all around) es
  nested_flat_at = record {
    tells = λ u c.
        let a = around_kept c (omega arith) (omega arith) r.lists in
        record { to = a.to; node = a.arounds.node; tree = a.arounds.tree; roles = a.arounds.roles };
    written = h.fresh.written;
    measured = h.fresh.measured;
    unlinked = h.fresh.unlinked;
  }

  -- the lists around, once the flat list is gathered and the head is marked
  module _ {t' u : List ℕ} (c : Changed t t' (form.first + 1) form.end) (d : Changed t' u form.first (form.first + 1)) where
    pub nested_around : AroundAt s u form.first list around
    nested_around = around_kept d (omega arith) h.low (around_kept c (omega arith) (omega arith) r.lists)

    pub nested_framed : SameMarks t t' → refusal form.first (all around) es ≡ 0 → GatheredAt t' (all around) 0 (form.first + 1) es
        → Framed s u (flat_frame form (form.first + 1) (all around) es around list)
    nested_framed m z g =
        let frame = flat_frame form (form.first + 1) (all around) es around list in
        record {
          holds = holds_kept s d frame (λ q i j. d.behind q i) (gathered_holds form (form.first + 1) (all around) es around list h.fresh c m z g);
          low = λ z. omega arith;
          lasts = λ l.
              let low = around_low r.lists l in
              omega (arith, r.lasts l, same_link (d.before (list - 1) (omega arith)), same_link (c.before (list - 1) (omega arith)));
        }

-- the head of a form is marked
pub form_marked : {s t t' u : List ℕ} {form : Form} {es : Nodes} → HeadedAt s t form es → Changed t t' (form.first + 1) form.end
    → Changed t' u form.first (form.first + 1) → link u form.first ≡ link t' form.first → FormChanged t u form
form_marked {s} {t} {form = form} {es} h c d k =
    let order = written_order s t (form.first + 1) form.end es h.fresh.written in
    record {
      changed = changed_aside (changed_then (changed_wider c form.first form.end (omega arith) (omega arith)) (changed_wider d form.first form.end (omega arith) order));
      made = λ e. k ∙ same_link (c.before form.first (omega arith)) ∙ e;
    }

-- The arities of a `prefix*` form apply

module _ (s t : List ℕ) (form : Form) (around : Around) (es : Nodes) where
  pub star_refused : (u : List ℕ) (list : ℕ) (x : Arities) (r : ℕ) → StarRefusal s t form around es x r → (r ≡ 0 → ⊥) → mark u form.first ≡ r
      → AroundAt s u form.end list around → Starred s u form list around es x (record { row = form.end; around = list })
  star_refused u list (listed os) r h n m a = judged_refused s u form list 2 os around (os ∷ around) (tail es) r h.0 n m a
  star_refused u list ill_formed r h n m a = (m ∙ h, a, refl)

-- what is left of one that is not refused
pub record StarOn (s t : List ℕ) (form : Form) (around : Around) (es : Nodes) : Type 0 where
  pub given : List Operator
  pub listed_as : arity_list es ≡ listed given
  pub left : StarLeft s t form around given (tail es)
  pub none : refusal form.first given (tail es) ≡ 0

pub star_on : (s t : List ℕ) (form : Form) (around : Around) (es : Nodes) (x : Arities) (r : ℕ) → arity_list es ≡ x → StarRefusal s t form around es x r → r ≡ 0
    → StarOn s t form around es
star_on s t form around es (listed os) r e h z = record { given = os; listed_as = e; left = h.1 z; none = sym h.0 ∙ z }
star_on s t form around es ill_formed r e h z = absurd (omega arith)

-- its head is marked and has the form's end, its arity list has the row of the list around
pub record StarPut (t u : List ℕ) (form : Form) (list : ℕ) : Type 0 where
  pub changed : Changed t u form.first (form.first + 1 + 1)
  pub same : child u 1 (form.first + 1) ≡ child t 1 (form.first + 1)
  pub marked : mark u form.first ≡ 2
  pub ends : link u form.first ≡ form.end
  pub outwards : link u (form.first + 1) ≡ list

-- as the code has put them, where the verdict is fine
pub star_put : {t t₁ t₂ u : List ℕ} (form : Form) (list : ℕ) {r : ℕ} → r ≡ 0
    → Changed t t₁ form.first (form.first + 1) × (mark t₁ form.first ≡ (when eqb r 0 then 2 else r)) × (link t₁ form.first ≡ link t form.first)
    → Changed t₁ t₂ form.first (form.first + 1) × (link t₂ form.first ≡ form.end) × (mark t₂ form.first ≡ mark t₁ form.first)
    × (child t₂ 1 form.first ≡ child t₁ 1 form.first)
    → Changed t₂ u (form.first + 1) (form.first + 1 + 1) × (link u (form.first + 1) ≡ list) × (mark u (form.first + 1) ≡ mark t₂ (form.first + 1))
    × (child u 1 (form.first + 1) ≡ child t₂ 1 (form.first + 1)) → StarPut t u form list
star_put form list {r} none verdict head own =
    let at = form.first + 1 in
    let two = changed_then verdict.0 head.0 in
    let before = own.0.before form.first (omega arith) in
    record {
      changed = changed_then (changed_wider two form.first (at + 1) (omega arith) (omega arith)) (changed_wider own.0 form.first (at + 1) (omega arith) (omega arith));
      same = own.3 ∙ same_child (two.behind at (omega arith)) 1 (omega arith);
      marked = same_mark before ∙ head.2 ∙ verdict.1 ∙ rw (eq-eqb r 0 none);
      ends = same_link before ∙ head.1;
      outwards = own.1;
    }

-- an arity list that names operators is a form
list_form : (s t : List ℕ) (form : Form) (es : Nodes) (os : List Operator) → HeadedAt s t form es → arity_list es ≡ listed os → kind t (form.first + 1) ≡ 1
list_form s t form empty os h e = absurd (cc e)
list_form s t form (cons a es) os h e = elim (ℕ_discrete (kind t (form.first + 1)) 1) [ yes z ↦ z | no z ↦ absurd (cc (sym (list_leaf (star_list h) z) ∙ e)) ]

module _ {s t t' u : List ℕ} {form : Form} {list : ℕ} {around : Around} {es : Nodes} {os : List Operator} (h : HeadedAt s t form es) (r : Enclosed s t form list around)
    (listed_as : arity_list es ≡ listed os) (c : Changed t t' (form.first + 1) form.end) (l : StarLeft s t' form around os (tail es)) (p : StarPut t' u form list) where
  abbrev at : ℕ
  at = form.first + 1

  list_next : next u at ≡ next t' at
  list_next = (p.changed.same_rows at).same_next

  list_order : (at < next t' at) × (next t' at ≤ form.end)
  list_order = (l.lists.tree.begins, written_order s t' (next t' at) form.end (tail es) l.holds.written)

  put_in : Changed t u form.first form.end
  put_in =
      changed_then (changed_wider c form.first form.end (omega arith) (omega arith))
      (changed_wider p.changed form.first form.end (omega arith) (omega (arith, list_order)))

  outer_around : AroundAt s u form.first list around
  outer_around = around_kept p.changed (omega arith) h.low (around_kept c (omega arith) (omega arith) r.lists)

  pub star_entering : Entering s u at os around
  star_entering =
      let list_at = some_list s t form es h (omega (arith, list_order)) in
      let w = written_kept s put_in list_at.0 at list_at.1.written in
      let head : at - 1 ≡ form.first = omega arith in
      record {
        to = outer_around.to;
        outer = rw p.outwards outer_around.arounds;
        before = around_before at (omega arith) (omega arith) outer_around;
        lists = rw list_next (lists_kept p.changed (λ q i j. p.changed.behind q (omega arith)) p.same l.lists);
        references = λ q i j k. written_references s u at list_at.0 w q (omega arith) j k;
        inside = written_inside s u at list_at.0 w;
        head = rw head (λ k. omega (arith, p.marked));
        form = λ k. absurd (omega (arith, k, (put_in.same_rows at).same_kind, list_form s t form es os h listed_as));
      }

  -- once the list is entered, in the table v
  module _ {v : List ℕ} (w : Aside u v (next u at) (next u at)) where
    plain_head : Unlisted u form.first
    plain_head k = omega (arith, p.marked)

    head_kept : (mark v form.first ≡ mark u form.first) × (link v form.first ≡ link u form.first)
    head_kept = w.before form.first (omega (arith, list_order, list_next)) plain_head

    pub star_changed_all : FormChanged t v form
    star_changed_all = record {
      changed = aside_then (changed_aside put_in) (aside_wider w form.first form.end (omega (arith, list_order, list_next)) (omega (arith, list_order, list_next)));
      made = λ e. head_kept.1 ∙ p.ends;
    }

    pub star_fine : {first : ℕ} → refusal form.first os (tail es) ≡ 0 → Arounds s v (next u at) at (os ∷ around) → first ≡ next v at
        → Judged s v form list 2 os around (os ∷ around) (tail es) (record { row = first; around = at })
    star_fine z a e =
        let on : next v at ≡ next u at = (w.same_rows at).same_next in
        let head : at - 1 ≡ form.first = omega arith in
        let ends : link v (at - 1) ≡ form.end = rw head (head_kept.1 ∙ p.ends) in
        let out : link v at ≡ list = (w.before at (omega (arith, list_order, list_next)) star_entering.form).1 ∙ p.outwards in
        let frame = flat_frame form (next t' at) os (tail es) (os ∷ around) at in
        let one : Holds s u frame = holds_kept s p.changed frame (λ q i j. p.changed.behind q (omega (arith, list_order))) l.holds in
        let two : Holds s v frame = holds_kept s (aside_changed w) frame (λ q i j. w.behind q (omega (arith, list_next))) one in
        let same : next v at ≡ next t' at = on ∙ list_next in
        let descends : Descends v form.end (link v at) around list around = rw out here in
        let whole : Descends v form.end at (os ∷ around) list around = up {list = at} (omega arith) (omega (arith, ends)) descends in
        rw e (fine (next v at) at z (head_kept.0 ∙ p.marked) refl (omega (arith, same, list_order))
        (rw same (record { holds = two; low = λ k. omega (arith, list_order); lasts = λ k. omega (arith, ends) }))
        (record { to = next u at; arounds = a; before = λ k. omega (arith, on) })
        whole)
