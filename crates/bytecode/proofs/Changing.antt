-- Laws of `Changed` and `Aside`: a number that is put at a row, one change after another, and what stays as it was. Assumes nothing.
use Prim.Native.Nat.{ℕ, zero, suc, ◌+◌, ◌*◌, ◌/◌, ◌%◌, ◌≤◌, ◌<◌}
use mathlib.Core.Path.{◌≡◌, refl, sym, ap, subst, ◌∙◌}
use mathlib.Core.List.{List}
use lib.ListN.{length, get_or, set, length-set}
use lib.Seq.{get_or-set_same, get_or-set_other, ext_get_or}
use native.Mathlib.Nat.{add-zero}
use native.Mathlib.Decide.{ℕ_discrete, dec_lt}
use native.Mathlib.Omega.{arith}
use Rattle.spec.specs.Expr.{Atom}
use Rattle.spec.specs.Reading.{row_width}
use Rattle.spec.specs.Nodes.{Node, Nodes}
use Rattle.rows.specs.Rows.{RowInside, cell, kind, start, mark, link, RowAt, LeafAt, WrittenAt, WrittenAll}
use Rattle.rows.proofs.Written as written
use Rattle.bytecode.specs.Numbers.{child, SameRow, Same, Changed, Unlisted, Aside}

-- Same: the numbers besides

module _ {t t' : List ℕ} {r : ℕ} (s : Same t t' r) where
  pub same_mark : mark t' r ≡ mark t r
  same_mark = ap (λ (c : ℕ). c / 256 % 128) s.first

  pub same_link : link t' r ≡ link t r
  same_link = ap (λ (c : ℕ). c / 32768) s.first

  pub same_other : child t' 1 r ≡ child t 1 r
  same_other = ap (λ (c : ℕ). c / 65536) s.second

  pub same_child : (b : ℕ) → b < 2 → child t' b r ≡ child t b r
  same_child zero h = ap (λ (c : ℕ). c / 65536) s.first
  same_child (suc zero) h = same_other
  same_child (suc (suc b)) h = absurd (omega arith)

  pub same_back : Same t' t r
  same_back = record { first = sym s.first; second = sym s.second }

  pub same_then : {u : List ℕ} → Same t' u r → Same t u r
  same_then z = record { first = z.first ∙ s.first; second = z.second ∙ s.second }

pub same_none : (t : List ℕ) (r : ℕ) → Same t t r
same_none t r = record { first = refl; second = refl }

same_row_then : {t t' u : List ℕ} {r : ℕ} → SameRow t t' r → SameRow t' u r → SameRow t u r
same_row_then s z = record {
  same_kind = z.same_kind ∙ s.same_kind;
  same_start = z.same_start ∙ s.same_start;
  same_end = z.same_end ∙ s.same_end;
  same_next = z.same_next ∙ s.same_next;
}

-- Changed

pub changed_none : (t : List ℕ) (from to : ℕ) → Changed t t from to
changed_none t from to = record {
  same_length = refl;
  same_rows = λ r. record { same_kind = refl; same_start = refl; same_end = refl; same_next = refl };
  before = λ r h. same_none t r;
  behind = λ r h. same_none t r;
}

module _ {t t' : List ℕ} {from to : ℕ} (c : Changed t t' from to) where
  pub changed_wider : (a b : ℕ) → a ≤ from → to ≤ b → Changed t t' a b
  changed_wider a b h g = record {
    same_length = c.same_length;
    same_rows = c.same_rows;
    before = λ r l. c.before r (omega arith);
    behind = λ r l. c.behind r (omega arith);
  }

  pub changed_back : Changed t' t from to
  changed_back = record {
    same_length = sym c.same_length;
    same_rows = λ r. let s = c.same_rows r in
        record { same_kind = sym s.same_kind; same_start = sym s.same_start; same_end = sym s.same_end; same_next = sym s.same_next };
    before = λ r h. same_back (c.before r h);
    behind = λ r h. same_back (c.behind r h);
  }

  pub changed_then : {u : List ℕ} → Changed t' u from to → Changed t u from to
  changed_then d = record {
    same_length = d.same_length ∙ c.same_length;
    same_rows = λ r. same_row_then (c.same_rows r) (d.same_rows r);
    before = λ r h. same_then (c.before r h) (d.before r h);
    behind = λ r h. same_then (c.behind r h) (d.behind r h);
  }

  pub same_elsewhere : (r : ℕ) → to ≤ from + 1 → (r ≡ from → ⊥) → Same t t' r
  same_elsewhere r h n = elim (dec_lt r from) [ yes l ↦ c.before r l | no g ↦ c.behind r (omega arith) ]

  -- the first row too, if it is as it was
  changed_later : Same t t' from → Changed t t' (from + 1) to
  changed_later s = record {
    same_length = c.same_length;
    same_rows = c.same_rows;
    before = λ r h. elim (ℕ_discrete r from) [ yes e ↦ rw e s | no n ↦ c.before r (omega arith) ];
    behind = c.behind;
  }

  pub changed_nowhere : to ≤ from → t' ≡ t
  changed_nowhere h =
      ext_get_or 0 t' t c.same_length (λ i l. subst (λ (k : ℕ). get_or t' k 0 ≡ get_or t k 0) (whole i) (cells (i / row_width) (i % row_width) (omega arith)))
    where
      whole : (i : ℕ) → row_width * (i / row_width) + i % row_width ≡ i
      whole i = omega arith

      same : (r : ℕ) → Same t t' r
      same r = elim (dec_lt r from) [ yes l ↦ c.before r l | no n ↦ c.behind r (omega arith) ]

      cells : (r j : ℕ) → j < row_width → cell t' r j ≡ cell t r j
      cells r zero l = (same r).first
      cells r (suc zero) l = (same r).second
      cells r (suc (suc zero)) l = (c.same_rows r).same_end
      cells r (suc (suc (suc zero))) l = (c.same_rows r).same_next
      cells r (suc (suc (suc (suc j)))) l = absurd (omega arith)

-- Aside

pub changed_aside : {t t' : List ℕ} {from to : ℕ} → Changed t t' from to → Aside t t' from to
changed_aside c = record {
  same_length = c.same_length;
  same_rows = c.same_rows;
  before = λ r h p. let s = c.before r h in (same_mark s, same_link s);
  behind = c.behind;
}

pub aside_none : (t : List ℕ) (from to : ℕ) → Aside t t from to
aside_none t from to = changed_aside (changed_none t from to)

module _ {t t' : List ℕ} {from to : ℕ} (c : Aside t t' from to) where
  -- references in arity lists are not told from other rows
  pub aside_changed : Changed t t' 0 to
  aside_changed = record { same_length = c.same_length; same_rows = c.same_rows; before = λ r h. absurd (omega arith); behind = c.behind }

  pub unlisted_kept : (r : ℕ) → r < from → Unlisted t r → Unlisted t' r
  unlisted_kept r h p k = let e = c.before r h p in rw e.0 (p (sym (c.same_rows r).same_kind ∙ k))

  pub aside_wider : (a b : ℕ) → a ≤ from → to ≤ b → Aside t t' a b
  aside_wider a b h g = record {
    same_length = c.same_length;
    same_rows = c.same_rows;
    before = λ r l. c.before r (omega arith);
    behind = λ r l. c.behind r (omega arith);
  }

  -- at later rows
  pub aside_later : (row : ℕ) → to ≤ from → from ≤ row → Aside t t' row row
  aside_later row h g = record {
    same_length = c.same_length;
    same_rows = c.same_rows;
    before = λ r l p. elim (dec_lt r from) [ yes z ↦ c.before r z p | no z ↦ let e = c.behind r (omega arith) in (same_mark e, same_link e) ];
    behind = λ r l. c.behind r (omega arith);
  }

  pub aside_then : {u : List ℕ} → Aside t' u from to → Aside t u from to
  aside_then d = record {
    same_length = d.same_length ∙ c.same_length;
    same_rows = λ r. same_row_then (c.same_rows r) (d.same_rows r);
    before = λ r h p. let e = c.before r h p in
        let g = d.before r h (unlisted_kept r h p) in
        (g.0 ∙ e.0, g.1 ∙ e.1);
    behind = λ r h. same_then (c.behind r h) (d.behind r h);
  }

-- The rows themselves

module _ (s : List ℕ) {t t' : List ℕ} {from to : ℕ} (c : Changed t t' from to) where
  -- what rows that are the same give
  kept : {P : Type 0} → (length t' ≡ length t → ((r : ℕ) → kind t' r ≡ kind t r) → ((r : ℕ) → start t' r ≡ start t r)
      → ((r : ℕ) → cell t' r 2 ≡ cell t r 2) → ((r : ℕ) → cell t' r 3 ≡ cell t r 3) → P) → P
  kept f =
      f c.same_length (λ r. (c.same_rows r).same_kind) (λ r. (c.same_rows r).same_start) (λ r. (c.same_rows r).same_end) (λ r. (c.same_rows r).same_next)

  pub row_kept : {r k : ℕ} → RowAt s t r k → RowAt s t' r k
  row_kept w = kept (written.row_kept s t t') _ _ w

  pub leaf_kept : {r : ℕ} {a : Atom} → LeafAt s t r a → LeafAt s t' r a
  leaf_kept l = kept (written.leaf_kept s t t') _ _ l

  pub written_kept : (e : Node) (r : ℕ) → WrittenAt s t r e → WrittenAt s t' r e
  written_kept e r w = kept (written.written_kept s t t') r e w

  pub written_all_kept : (es : Nodes) (r end : ℕ) → WrittenAll s t r end es → WrittenAll s t' r end es
  written_all_kept es r end w = kept (written.written_all_kept s t t') r end es w

-- Put: the first two numbers of a row, with all others as they were
pub record Put (t t' : List ℕ) (r first second : ℕ) : Type 0 where
  pub same_length : length t' ≡ length t
  pub first_is : cell t' r 0 ≡ first
  pub second_is : cell t' r 1 ≡ second
  pub others : (i : ℕ) → (i ≡ row_width * r → ⊥) → (i ≡ row_width * r + 1 → ⊥) → get_or t' i 0 ≡ get_or t i 0

-- a row's kind and start stay
pub changed_put : {t t' : List ℕ} {r a b : ℕ} → Put t t' r a b → a % 256 ≡ kind t r → b % 65536 ≡ start t r → Changed t t' r (r + 1)
changed_put {t} {t'} {r} p h g = record {
  same_length = p.same_length;
  same_rows = λ q. rows q (ℕ_discrete q r);
  before = λ q l. same q (λ e. omega arith);
  behind = λ q l. same q (λ e. omega arith);
}
  where
    same : (q : ℕ) → (q ≡ r → ⊥) → Same t t' q
    same q d = record {
      first = p.others (row_width * q + 0) (λ e. d (omega arith)) (λ e. d (omega arith));
      second = p.others (row_width * q + 1) (λ e. d (omega arith)) (λ e. d (omega arith));
    }

    rows : (q : ℕ) → Dec (q ≡ r) → SameRow t t' q
    rows q d = record {
      same_kind = elim d [ yes e ↦ rw e (ap (λ (c : ℕ). c % 256) p.first_is ∙ h) | no n ↦ ap (λ (c : ℕ). c % 256) (same q n).first ];
      same_start = elim d [ yes e ↦ rw e (ap (λ (c : ℕ). c % 65536) p.second_is ∙ g) | no n ↦ ap (λ (c : ℕ). c % 65536) (same q n).second ];
      same_end = p.others (row_width * q + 2) (λ e. omega arith) (λ e. omega arith);
      same_next = p.others (row_width * q + 3) (λ e. omega arith) (λ e. omega arith);
    }

module _ (t : List ℕ) (r v : ℕ) (inside : RowInside t r) where
  pub put_first : Put t (set t (row_width * r) v) r v (cell t r 1)
  put_first = record {
    same_length = length-set t (row_width * r) v;
    first_is = rw (add-zero (row_width * r)) (get_or-set_same t (row_width * r) v 0 (omega arith));
    second_is = get_or-set_other t (row_width * r) (row_width * r + 1) v 0 (λ e. omega arith);
    others = λ i h g. get_or-set_other t (row_width * r) i v 0 h;
  }

  pub put_second : Put t (set t (row_width * r + 1) v) r (cell t r 0) v
  put_second = record {
    same_length = length-set t (row_width * r + 1) v;
    first_is = get_or-set_other t (row_width * r + 1) (row_width * r + 0) v 0 (λ e. omega arith);
    second_is = get_or-set_same t (row_width * r + 1) v 0 (omega arith);
    others = λ i h g. get_or-set_other t (row_width * r + 1) i v 0 g;
  }

-- Clearing a row

first_cell : (t : List ℕ) (r : ℕ) → cell t r 0 ≡ get_or t (row_width * r) 0
first_cell t r = ap (λ (i : ℕ). get_or t i 0) (add-zero (row_width * r))

-- a row of t that has no numbers besides, with those that were put there taken away
pub changed_cleared : {t t' : List ℕ} {r to : ℕ} → Changed t t' r to → r < to → row_width * to ≤ length t' → cell t r 0 < 256 → cell t r 1 < 65536 →
    let u = set t' (row_width * r) (get_or t' (row_width * r) 0 % 256) in
    Changed t (set u (row_width * r + 1) (get_or u (row_width * r + 1) 0 % 65536)) (r + 1) to
changed_cleared {t} {t'} {r} {to} c l fits a b =
    let u = set t' (row_width * r) (get_or t' (row_width * r) 0 % 256) in
    let p = put_first t' r (get_or t' (row_width * r) 0 % 256) (omega arith) in
    let q = put_second u r (get_or u (row_width * r + 1) 0 % 65536) (omega (arith, p.same_length)) in
    let once = changed_put p (omega (arith, first_cell t' r)) (omega arith) in
    let twice = changed_put q (omega arith) (omega arith) in
    let same = c.same_rows r in
    changed_later (changed_then c (changed_then (changed_wider once r to (omega arith) (omega arith)) (changed_wider twice r to (omega arith) (omega arith))))
    (record {
      first = omega (arith, q.first_is, p.first_is, first_cell t' r, same.same_kind);
      second = omega (arith, q.second_is, p.second_is, same.same_start);
    })
