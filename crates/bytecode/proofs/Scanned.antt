-- Laws of `Standing` and `Moved`: the expression that comes next, and what a visit of it leaves. Document 02, §1. Assumes nothing.
use Prim.Native.Nat.{ℕ, ◌+◌, ◌≤◌, ◌<◌}
use mathlib.Core.Path.{◌≡◌, refl, sym, ap, ◌∙◌, subst}
use mathlib.Core.List.{List, [], ◌∷◌}
use mathlib.Core.Bool.{true, false}
use native.Mathlib.Decide.{ℕ_discrete}
use native.Mathlib.Omega.{arith}
use Rattle.spec.specs.Nodes.{Node, branch, Nodes, empty, cons, tail}
use Rattle.spec.specs.Bytecode.{prefix, prefix*, is_name, Operator, Around, all, Arities, listed, ill_formed, operators}
use Rattle.spec.proofs.Flat.{by_operand, none_listed, foremost, others as others-in, refusal_any, arity_list}
use Rattle.rows.specs.Rows.{kind, mark, link, next, WrittenAll, form_at}
use Rattle.rows.specs.Forms.{leads}
use Rattle.rows.specs.declared.forms.Form.{Form}
use Rattle.rows.proofs.Nodes.{written_order}
use Rattle.bytecode.specs.Numbers.{Changed, Unlisted, Aside}
use Rattle.bytecode.specs.Named.{Nested}
use Rattle.bytecode.specs.Gathered.{GatheredAt, beyond}
use Rattle.bytecode.specs.Frames.{Mode, plain, flat, is_flat, operators_in, Frame, Goal, Holds, going_on, inside}
use Rattle.bytecode.specs.Scanned.{Descends, here, Nearest, AroundAt, Fresh, Framed, Stacked, Goals, Moved, FormChanged, flat_frame, Judged, refused, fine, Starred}
use Rattle.bytecode.specs.declared.scan.Scan.{Scan}
use Rattle.bytecode.proofs.Changing.{changed_then, aside_none, aside_changed, unlisted_kept, aside_wider, aside_then}
use Rattle.bytecode.proofs.Lists.{some_around, descends_nested, ends_kept, descends_kept, around_low, around_later, descends_then, nearest_only}
use Rattle.bytecode.proofs.Flattening.{refusal_small, NoBytecode, Flattens, star, nested}
use Rattle.bytecode.proofs.Goals.{FirstAt, first_at, goal_done, goal_leaf, goal_ill_formed, goal_refused, goal_fine}
use Rattle.bytecode.proofs.Frames.{holds_kept, fresh_holds}
use Rattle.bytecode.proofs.Firsts.{AtomAt, FormAt}

-- Lists that are left, in a table that is changed before them

module _ (s : List ℕ) {t t' : List ℕ} {a b : ℕ} (c : Aside t t' a b) {node : ℕ → ℕ} where
  pub framed_kept : (f : Frame) → b ≤ f.first → Nested s t node f.list f.around → (0 < f.list → f.list < a) → Framed s t f → Framed s t' f
  framed_kept f h n l r = record {
    holds = holds_kept s (aside_changed c) f (λ q g z. c.behind q (omega arith)) r.holds;
    low = r.low;
    lasts = λ z. omega (arith, r.lasts z, ends_kept c n z (l z));
  }

  pub stacked_kept : (at list : ℕ) (around : Around) (end : ℕ) (fs : List Frame) → b ≤ at → Nested s t node list around → (0 < list → list < a)
      → Stacked s t at list around end fs → Stacked s t' at list around end fs
  unfolding Stacked
  stacked_kept at list around end [] h n l k = k
  stacked_kept at list around end (f ∷ fs) h n l k =
      let d = descends_nested n k.2 in
      let low : 0 < f.list → f.list < a = λ z. omega (arith, d.1, l (omega (arith, d.1))) in (
        k.0,
        framed_kept f (omega (arith, k.0)) d.0 low k.1,
        descends_kept c n l k.2,
        stacked_kept f.end f.list f.around end fs (omega (arith, k.0, written_order s t f.first f.end f.elements k.1.holds.written)) d.0 low k.3,
      )

pub stacked_order : (s t : List ℕ) (at list : ℕ) (around : Around) (end : ℕ) (fs : List Frame) → Stacked s t at list around end fs → at ≤ end
unfolding Stacked
stacked_order s t at list around end [] k = omega (arith, k)
stacked_order s t at list around end (f ∷ fs) k =
    omega (arith, k.0, written_order s t f.first f.end f.elements k.1.holds.written, stacked_order s t f.end f.list f.around end fs k.3)

-- The expression that comes next: the first of a list that is not empty

pub record Here (s t : List ℕ) (row list : ℕ) (around : Around) (end : ℕ) (fs : List Frame) : Type 0 where
  pub frame : Frame
  pub first : Node
  pub others : Nodes
  pub is : frame.elements ≡ cons first others
  pub at : frame.first ≡ row
  pub framed : Framed s t frame
  pub descends : Descends t row list around frame.list frame.around
  pub left : List Frame
  pub stacked : Stacked s t frame.end frame.list frame.around end left
  pub goals : (u : List ℕ) → Goal s u frame → Goals s u left → Goals s u fs

pub here_at : (s t : List ℕ) (row list : ℕ) (around : Around) (end : ℕ) (fs : List Frame) → Stacked s t row list around end fs → row < end → Here s t row list around end fs
unfolding Stacked Goals WrittenAll
here_at s t row list around end [] k h = absurd (omega (arith, k))
here_at s t row list around end (f ∷ fs) k h =
    go f.elements refl (λ e. here_at s t row f.list f.around end fs (subst (λ (r : ℕ). Stacked s t r f.list f.around end fs) e k.3) h)
  where
    go : (es : Nodes) → f.elements ≡ es → (f.end ≡ row → Here s t row f.list f.around end fs) → Here s t row list around end (f ∷ fs)
    go empty i next =
        let done : f.first ≡ f.end = rw i at k.1.holds.written in
        let n = next (sym done ∙ k.0) in
        record {
          frame = n.frame;
          first = n.first;
          others = n.others;
          is = n.is;
          at = n.at;
          framed = n.framed;
          descends = descends_then k.2 n.descends;
          left = n.left;
          stacked = n.stacked;
          goals = λ u g gs. (goal_done s u f i done, n.goals u g gs);
        }
    go (cons e es) i next = record {
      frame = f;
      first = e;
      others = es;
      is = i;
      at = k.0;
      framed = k.1;
      descends = k.2;
      left = fs;
      stacked = k.3;
      goals = λ u g gs. (g, gs);
    }

-- once the lists that have ended are left: its own list is the nearest
pub record Found (s t : List ℕ) (row list end : ℕ) (fs : List Frame) : Type 0 where
  pub frame : Frame
  pub first : Node
  pub others : Nodes
  pub is : frame.elements ≡ cons first others
  pub at : frame.first ≡ row
  pub framed : Framed s t frame
  pub own : list ≡ frame.list
  pub around : AroundAt s t row frame.list frame.around
  pub left : List Frame
  pub stacked : Stacked s t frame.end frame.list frame.around end left
  pub goals : (u : List ℕ) → Goal s u frame → Goals s u left → Goals s u fs

pub found_here : {s t t' : List ℕ} {row list near end : ℕ} {around : Around} {fs : List Frame} → AroundAt s t row list around → Here s t row list around end fs
    → Nearest s t t' row list around near → Found s t' row near end fs
unfolding WrittenAll
found_here {s} {t} {t'} {row} {list} {near} {end} {around} {fs} a h n =
    let frame = h.frame in
    let w : WrittenAll s t frame.first frame.end (cons h.first h.others) = rw h.is at h.framed.holds.written in
    let same = nearest_only n.descends n.lasts h.descends (λ l. omega (arith, h.framed.lasts l, h.at, w.0, w.1)) in
    let d = descends_nested a.arounds.nested h.descends in
    let low : 0 < frame.list → frame.list < row = λ z. omega (arith, d.1, around_low a (omega (arith, d.1))) in
    record {
      frame = frame;
      first = h.first;
      others = h.others;
      is = h.is;
      at = h.at;
      framed = framed_kept s n.aside frame (omega (arith, h.at)) d.0 low h.framed;
      own = same.0;
      around = rw (same.0, same.1) at n.arounds;
      left = h.left;
      stacked = stacked_kept s n.aside frame.end frame.list frame.around end h.left (omega (arith, h.at, w.0, w.1)) d.0 low h.stacked;
      goals = h.goals;
    }

-- what was changed before
pub moved_then : {s t t' u : List ℕ} {scan on : Scan} {end : ℕ} {fs : List Frame} → Aside t t' scan.row scan.row → scan.row ≤ end → Moved s t' u scan on end fs
    → Moved s t u scan on end fs
moved_then {scan = scan} {end = end} c l m = record {
  further = m.further;
  changed = aside_then (aside_wider c scan.row end (omega arith) l) m.changed;
  frames = m.frames;
  standing = m.standing;
  goals = m.goals;
}

-- What a visit of it leaves

module _ (s t : List ℕ) (scan : Scan) (list end : ℕ) (fs : List Frame) (few : end ≤ 65536) (h : Found s t scan.row list end fs) where
  open h use {frame, first, others, is, at, framed, around, left, stacked, goals}

  pub row_order : (frame.first < frame.end) × (frame.end ≤ end)
  unfolding WrittenAll
  row_order =
      let w : WrittenAll s t frame.first frame.end (cons first others) = rw is at framed.holds.written in
      (omega (arith, w.0, w.1), stacked_order s t frame.end frame.list frame.around end left stacked)

  -- in another table
  first_then : {u : List ℕ} {a b : ℕ} → Changed t u a b → link u frame.first ≡ link t frame.first → FirstAt s u frame first others
  first_then c l = first_at s c frame first others framed.holds is l

  plain_first : Unlisted t frame.first
  plain_first k = omega (arith, framed.holds.unmarked frame.first (omega arith) row_order.0 k)

  rest_framed : (r : ℕ) (es : Nodes) → frame.first < r → Holds s t (going_on frame r es) → Framed s t (going_on frame r es)
  rest_framed r es l k = record { holds = k; low = λ z. omega arith; lasts = framed.lasts }

  inside_framed : (r to : ℕ) (es : Nodes) → to ≤ frame.end → Fresh s t r to es → Framed s t (inside frame r to es)
  inside_framed r to es l k = record { holds = fresh_holds s t frame r to es k; low = λ z. absurd (cc z); lasts = λ z. omega (arith, framed.lasts z) }

  -- Nothing is changed, and the next row comes next

  abbrev on : Scan
  on = record { row = scan.row + 1; around = frame.list }

  -- the first row in a table that is changed behind it
  module _ {u : List ℕ} (c : Aside t u (scan.row + 1) end) where
    same_first : (mark u frame.first ≡ mark t frame.first) × (link u frame.first ≡ link t frame.first)
    same_first = c.before frame.first (omega (arith, at)) plain_first

    first_on : FirstAt s u frame first others
    first_on = first_then (aside_changed c) same_first.1

  pub visited_atom : AtomAt s t frame first others → Moved s t t scan on end fs
  unfolding Stacked Goals
  visited_atom a = record {
    further = omega arith;
    changed = aside_none t scan.row end;
    frames = going_on frame (frame.first + 1) others ∷ left;
    standing = record {
      few = few;
      around = frame.around;
      arounds = around_later (scan.row + 1) (omega arith) around;
      stacked = (omega (arith, at), rest_framed (frame.first + 1) others (omega arith) a.rest, here, stacked);
    };
    goals = λ u c gs. goals u (goal_leaf s u frame first others (first_on c) a.place a.atom a.is a.alone (unmarked u c) gs.0) gs.1;
  }
    where
      unmarked : (u : List ℕ) → Aside t u (scan.row + 1) end → kind u frame.first ≡ 4 → mark u frame.first ≡ 0
      unmarked u c k =
          (same_first c).0
          ∙ framed.holds.unmarked frame.first (omega arith) row_order.0 (sym (c.same_rows frame.first).same_kind ∙ k)

  -- a form, written or made
  module _ (form : Form) (f : FormAt s t frame first others form) where
    abbrev behind : Frame
    behind = going_on frame form.end (others-in (operators_in frame.mode) first others)

    pub form_ends : form.end ≤ frame.end
    form_ends = written_order s t form.end frame.end behind.elements f.rest.written

    -- a form's elements don't begin at row 0: what is made is in a flat list
    pub form_low : 0 < form.first
    unfolding GatheredAt
    form_low = elim (ℕ_discrete form.first frame.first) [
      | yes e ↦ go frame.mode refl e
      | no n ↦ omega (arith, f.low, n)
    ]
      where
        go : (m : Mode) → frame.mode ≡ m → form.first ≡ frame.first → 0 < form.first
        go (flat os) i e = omega (arith, framed.low (ap is_flat i))
        go plain i e =
            let g : GatheredAt t [] 0 frame.first (cons first others) = rw (i, is) at framed.holds.operators in
            absurd (omega (arith, ap (link t) e, g.0 ∙ by_operand [] first (λ n. beyond t n (next t frame.first)) 0 (none_listed first), f.made e, f.further))

    pub visited_plain : NoBytecode frame.around f.elements → Moved s t t scan on end fs
    unfolding Stacked Goals
    visited_plain b = record {
      further = omega arith;
      changed = aside_none t scan.row end;
      frames = inside frame (frame.first + 1) form.end f.inner ∷ behind ∷ left;
      standing = record {
        few = few;
        around = frame.around;
        arounds = around_later (scan.row + 1) (omega arith) around;
        stacked = (
          omega (arith, at),
          inside_framed (frame.first + 1) form.end f.inner form_ends f.fresh,
          here,
          (refl, rest_framed form.end behind.elements f.further f.rest, here, stacked),
        );
      };
      goals = λ u c gs.
          goals u (f.plain u (first_on c) (c.same_rows frame.first).same_next (same_first c).1 (λ z. (same_first c).0 ∙ z) b gs.0 gs.1.0) gs.1.1;
    }

    -- a bytecode form, whose rows are changed
    module _ {t' : List ℕ} (c : FormChanged t t' form) (head : Node) (rest : Nodes) (are : f.elements ≡ cons head rest) where
      head_first : form.first < form.end
      unfolding WrittenAll
      head_first =
          let w : WrittenAll s t form.first form.end (cons head rest) = rw are at f.written in omega (arith, w.0, w.1)

      changed_in : Aside t t' scan.row end
      changed_in = aside_wider c.changed scan.row end (omega (arith, at, f.low)) (omega (arith, form_ends, row_order))

      -- the lists around stand before it
      list_low : 0 < frame.list → frame.list < form.first
      list_low l = omega (arith, around_low around l, at, f.low)

      -- what is left behind it
      behind_left : Framed s t' behind × Stacked s t' frame.end frame.list frame.around end left
      behind_left = (
        framed_kept s c.changed behind (omega arith) around.arounds.nested list_low (rest_framed form.end behind.elements f.further f.rest),
        stacked_kept s c.changed frame.end frame.list frame.around end left form_ends around.arounds.nested list_low stacked,
      )

      -- in a table that is changed further on, where its head is marked as no arity list's reference is
      module _ {u : List ℕ} {later : ℕ} (small : mark t' form.first < 63) (d : Aside t' u later end) (past : form.first < later) where
        link_stays : link u frame.first ≡ link t frame.first
        link_stays = elim (ℕ_discrete form.first frame.first) [
          | yes e ↦ rw (← e) ((d.before form.first past (λ k. small)).1 ∙ c.made (f.made e) ∙ sym (f.made e))
          | no n ↦
              let low : frame.first < form.first = omega (arith, f.low, n) in
              (d.before frame.first (omega arith) (unlisted_kept c.changed frame.first low plain_first)).1 ∙ (c.changed.before frame.first low plain_first).1
        ]

        changed_on : Changed t u 0 end
        changed_on = changed_then (aside_changed changed_in) (aside_changed d)

        form_stays : form_at u true frame.first ≡ form
        form_stays = rw (link_stays, (changed_on.same_rows frame.first).same_next) (sym f.form_is)

        first_later : FirstAt s u frame first others
        first_later = first_then changed_on link_stays

        mark_stays : mark u (form_at u true frame.first).first ≡ mark t' form.first
        mark_stays = rw form_stays (d.before form.first past (λ k. small)).0

      -- it is refused
      visited_behind : AroundAt s t' form.end frame.list frame.around → ((u : List ℕ) → Aside t' u form.end end → Goal s u behind → Goal s u frame)
          → Moved s t t' scan (record { row = form.end; around = frame.list }) end fs
      unfolding Stacked Goals
      visited_behind a g = record {
        further = omega (arith, at, f.further);
        changed = changed_in;
        frames = behind ∷ left;
        standing = record { few = few; around = frame.around; arounds = a; stacked = (refl, behind_left.0, here, behind_left.1) };
        goals = λ u d gs. goals u (g u d gs.0) gs.1;
      }

      -- it is fine
      visited_flat : (r nearest : ℕ) (os : List Operator) (flats : Nodes) (out : Around) → form.first < r
          → Framed s t' (flat_frame form r os flats out nearest) → AroundAt s t' r nearest out → Descends t' form.end nearest out frame.list frame.around
          → ((u : List ℕ) → Aside t' u r end → Goal s u (flat_frame form r os flats out nearest) → Goal s u behind → Goal s u frame)
          → Moved s t t' scan (record { row = r; around = nearest }) end fs
      unfolding Stacked Goals
      visited_flat r nearest os flats out past k a d g = record {
        further = omega (arith, at, f.low);
        changed = changed_in;
        frames = flat_frame form r os flats out nearest ∷ behind ∷ left;
        standing = record { few = few; around = out; arounds = a; stacked = (refl, k, here, (refl, behind_left.0, d, behind_left.1)) };
        goals = λ u e gs. goals u (g u e gs.0 gs.1.0) gs.1.1;
      }

      form_is : foremost (operators_in frame.mode) first others ≡ branch frame.first (cons head rest)
      form_is = f.is ∙ ap (branch frame.first) are

      visited_judged : {k : ℕ} {os : List Operator} {out : Around} {flats : Nodes} → Flattens frame.around head rest k os out flats → k < 63
          → {on : Scan} → Judged s t' form frame.list k os frame.around out flats on → Moved s t t' scan on end fs
      visited_judged {k} {os} {out} {flats} l i (refused w z m a) =
          let small : mark t' form.first < 63 = omega (arith, m, z, refusal_small form.first os flats) in
          visited_behind a (λ u d b. goal_refused s u frame first others (first_later small d head_first) frame.first head rest form_is (rw (form_stays small d head_first) b)
          k os out flats l w (refusal_any frame.first form.first os flats ∙ z) (mark_stays small d head_first ∙ m))
      visited_judged {k} {os} {out} {flats} l i (fine r nearest z m p past fr a d) =
          let small : mark t' form.first < 63 = omega (arith, m) in
          visited_flat r nearest os flats out past fr a d (λ u e g b.
          goal_fine s u frame first others (first_later small e past) frame.first head rest form_is (rw (form_stays small e past) b)
          k os out flats l nearest (refusal_any frame.first form.first os flats ∙ z) (mark_stays small e past ∙ m) (rw (form_stays small e past, (e.same_rows (form.first + 1)).same_next, ← p) g))

      visited_ill_formed : is_name prefix* head ≡ true → arity_list rest ≡ ill_formed → mark t' form.first ≡ 22 → AroundAt s t' form.end frame.list frame.around
          → Moved s t t' scan (record { row = form.end; around = frame.list }) end fs
      visited_ill_formed p z m a =
          let small : mark t' form.first < 63 = omega (arith, m) in
          visited_behind a (λ u d b. goal_ill_formed s u frame first others (first_later small d head_first) frame.first head rest form_is (rw (form_stays small d head_first) b)
          p z (mark_stays small d head_first ∙ m))

    module _ {t' : List ℕ} (c : FormChanged t t' form) {on : Scan} where
      pub visited_star : leads prefix* f.elements ≡ true
          → Starred s t' form frame.list frame.around (tail f.elements) (arity_list (tail f.elements)) on → Moved s t t' scan on end fs
      visited_star = go f.elements refl
        where
          by : (h a : Node) (es : Nodes) → f.elements ≡ cons h (cons a es) → is_name prefix* h ≡ true → (x : Arities) → operators a ≡ x
              → Starred s t' form frame.list frame.around (cons a es) x on → Moved s t t' scan on end fs
          by h a es e p (listed os) q k = visited_judged c h (cons a es) e (star a es os p q) (omega arith) k
          by h a es e p ill_formed q k = rw k.2 (visited_ill_formed c h (cons a es) e p q k.0 k.1)

          go : (es : Nodes) → f.elements ≡ es → leads prefix* es ≡ true
              → Starred s t' form frame.list frame.around (tail es) (arity_list (tail es)) on → Moved s t t' scan on end fs
          go empty e p k = absurd (cc p)
          go (cons h empty) e p k = rw k.2 (visited_ill_formed c h empty e p refl k.0 k.1)
          go (cons h (cons a es)) e p k = by h a es e p (operators a) refl k

      pub visited_nested : leads prefix* f.elements ≡ false → leads prefix f.elements ≡ true → 0 < frame.list
          → Judged s t' form frame.list 1 (all frame.around) frame.around frame.around (tail f.elements) on → Moved s t t' scan on end fs
      visited_nested = go f.elements refl
        where
          go : (es : Nodes) → f.elements ≡ es → leads prefix* es ≡ false → leads prefix es ≡ true → 0 < frame.list
              → Judged s t' form frame.list 1 (all frame.around) frame.around frame.around (tail es) on → Moved s t t' scan on end fs
          go empty e p q l k = absurd (cc q)
          go (cons h gs) e p q l k = visited_judged c h gs e (nested gs p q (some_around around.arounds.nested l)) (omega arith) k
