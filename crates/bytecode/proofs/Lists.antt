-- Laws of the arity lists around a row: `AroundAt`, `Descends`, `Nearest`. Assumes nothing.
use Prim.Native.Nat.{ℕ, ◌-◌, ◌≤◌, ◌<◌}
use mathlib.Core.Path.{◌≡◌, refl, ◌∙◌}
use mathlib.Core.List.{List, [], ◌∷◌}
use native.Mathlib.Decide.{dec_lt}
use native.Mathlib.Omega.{arith}
use lib.ListN.{length}
use Rattle.spec.specs.Bytecode.{Operator, Around}
use Rattle.rows.specs.Rows.{RowInside, link, next}
use Rattle.bytecode.specs.Numbers.{Changed, Unlisted, Aside}
use Rattle.bytecode.specs.Named.{Nested, outermost, inside, Arounds, Switchable, leaving}
use Rattle.bytecode.specs.Scanned.{Descends, here, up, AroundAt, Nearest}
use Rattle.bytecode.proofs.Changing.{aside_none, aside_later, aside_then}
use Rattle.bytecode.proofs.Arounds.{nested_begins, nested_inner, arounds_kept}

-- Nested

module _ {s t : List ℕ} {node : ℕ → ℕ} where
  -- whether there is one
  pub some_around : {list : ℕ} {around : Around} → Nested s t node list around → 0 < list → 0 < length around
  some_around outermost h = absurd (omega arith)
  some_around (inside list os around e low beyond rest) h = omega arith

  pub none_around : {list : ℕ} {around : Around} → Nested s t node list around → list ≡ 0 → around ≡ []
  none_around outermost h = refl
  none_around (inside list os around e low beyond rest) h = absurd (omega (arith, e.low))

  -- the nearest
  pub nearest_is : {list : ℕ} {around : Around} → Nested s t node list around → 0 < list → (os : List Operator) × (rest : Around) × (around ≡ os ∷ rest)
  nearest_is outermost h = absurd (omega arith)
  nearest_is (inside list os around e low beyond rest) h = (os, around, refl)

  -- its form's head, and itself
  pub nearest_plain : {list : ℕ} {around : Around} → Nested s t node list around → 0 < list → Unlisted t (list - 1) × Unlisted t list
  nearest_plain outermost h = absurd (omega arith)
  nearest_plain (inside list os around e low beyond rest) h = (e.head, e.form)

  -- from a list to another
  pub descends_nested : {row list to : ℕ} {around out : Around} → Nested s t node list around → Descends t row list around to out → Nested s t node to out × (to ≤ list)
  descends_nested n here = (n, omega arith)
  descends_nested n (up h l d) = let i = nested_inner n in let on = descends_nested i.rest d in (on.0, omega (arith, i.lower, on.1))

  module _ {t' : List ℕ} {from to : ℕ} (c : Aside t t' from to) where
    -- where the form of the nearest ends
    pub ends_kept : {list : ℕ} {around : Around} → Nested s t node list around → 0 < list → list < from → link t' (list - 1) ≡ link t (list - 1)
    ends_kept {list} n h l = (c.before (list - 1) (omega arith) (nearest_plain n h).0).1

    pub outwards_kept : {list : ℕ} {around : Around} → Nested s t node list around → 0 < list → list < from → link t' list ≡ link t list
    outwards_kept {list} n h l = (c.before list l (nearest_plain n h).1).1

    pub descends_kept : {row list on : ℕ} {around out : Around} → Nested s t node list around → (0 < list → list < from) → Descends t row list around on out
        → Descends t' row list around on out
    descends_kept n l here = here
    descends_kept {row = row} {list = list} {on = on} {out = out} n l (up {around = rest} h z d) =
        let i = nested_inner n in
        let further : Descends t' row (link t' list) rest on out =
        rw (outwards_kept n h (l h)) (descends_kept i.rest (λ g. omega (arith, i.lower, l h)) d) in
        up h (rw (ends_kept n h (l h)) z) further

-- AroundAt

module _ {s t : List ℕ} {row : ℕ} where
  -- a list stands before the row where it has ended
  pub around_ended : {list : ℕ} {around : Around} → AroundAt s t row list around → 0 < list → (list < next t list) × (next t list ≤ row)
  around_ended a h =
      let begins = nested_begins a.arounds.nested h in
      let ended = a.arounds.ended h in
      (begins, omega (arith, a.before (omega arith)))

  pub around_low : {list : ℕ} {around : Around} → AroundAt s t row list around → 0 < list → list < row
  around_low a h = omega (arith, around_ended a h)

  pub around_later : {list : ℕ} {around : Around} (later : ℕ) → row ≤ later → AroundAt s t row list around → AroundAt s t later list around
  around_later later h a = record { to = a.to; arounds = a.arounds; before = λ l. omega (arith, a.before l) }

  -- its references stand before a row, no earlier than row 1
  pub around_before : {list : ℕ} {around : Around} (from : ℕ) → row ≤ from → 0 < from → (a : AroundAt s t row list around) → a.to ≤ from
  around_before from low some a = elim (dec_lt 1 a.to) [ yes l ↦ omega (arith, a.before l) | no l ↦ omega arith ]

  pub around_kept : {t' : List ℕ} {from to list : ℕ} {around : Around} → Changed t t' from to → row ≤ from → 0 < from → AroundAt s t row list around
      → AroundAt s t' row list around
  around_kept {from = from} c low some a = record { to = a.to; arounds = arounds_kept c (around_before from low some a) a.arounds; before = a.before }

-- Descends

module _ {t : List ℕ} {row : ℕ} where
  pub descends_then : {a b c : ℕ} {out over beyond : Around} → Descends t row a out b over → Descends t row b over c beyond → Descends t row a out c beyond
  descends_then here e = e
  descends_then (up h l d) e = up h l (descends_then d e)

  -- one that lasts is the nearest
  pub nearest_only : {list a b : ℕ} {around out over : Around} → Descends t row list around a out → (0 < a → row < link t (a - 1)) → Descends t row list around b over
      → (0 < b → row < link t (b - 1)) → (a ≡ b) × (out ≡ over)
  nearest_only here p here q = (refl, refl)
  nearest_only here p (up h l e) q = absurd (omega (arith, p h))
  nearest_only (up h l d) p here q = absurd (omega (arith, q h))
  nearest_only (up h l d) p (up g k e) q = nearest_only d p e q

-- Leaving those that have ended

-- a list that is reached, those nearer are left
pub record Reached (s t t' : List ℕ) (row list : ℕ) (around : Around) (on : ℕ) : Type 0 where
  pub aside : Aside t t' row row
  pub out : Around
  pub descends : Descends t row list around on out
  pub arounds : AroundAt s t' row on out

pub reached_none : {s t : List ℕ} {row list : ℕ} {around : Around} → AroundAt s t row list around → Reached s t t row list around list
reached_none {t = t} {row} {around = around} a = record { aside = aside_none t row row; out = around; descends = here; arounds = a }

module _ {s t t' : List ℕ} {row list on : ℕ} {around : Around} (a : AroundAt s t row list around) (r : Reached s t t' row list around on) where
  -- in the table before
  reached_nested : Nested s t a.arounds.node on r.out
  reached_nested = (descends_nested a.arounds.nested r.descends).0

  reached_ends : 0 < on → link t' (on - 1) ≡ link t (on - 1)
  reached_ends h = ends_kept r.aside reached_nested h (around_low r.arounds h)

  pub reached_lasts : (0 < on → row < link t' (on - 1)) → Nearest s t t' row list around on
  reached_lasts l = record {
    aside = r.aside;
    out = r.out;
    descends = r.descends;
    lasts = λ h. rw (← reached_ends h) (l h);
    arounds = r.arounds;
  }

  module _ (some : 0 < on) where
    abbrev near : (os : List Operator) × (rest : Around) × (r.out ≡ os ∷ rest)
    near = nearest_is r.arounds.arounds.nested some

    lists : Arounds s t' r.arounds.to on (near.0 ∷ near.1)
    lists = rw near.2 at r.arounds.arounds

    -- its row is in the table
    pub reached_inside : RowInside t' on
    reached_inside = let e = (nested_inner lists.nested).entered in omega (arith, e.inside, e.begins)

    pub reached_switchable : Switchable s t' on
    reached_switchable = leaving r.arounds.to near.0 near.1 lists

    -- the list is left
    module _ {t'' : List ℕ} (ended : link t' (on - 1) ≤ row)
        (w : Aside t' t'' (next t' on) (next t' on)
        × ((to : ℕ) (os : List Operator) (around : Around) → Arounds s t' to on (os ∷ around) → Arounds s t'' to (link t' on) around)) where
      last : next t' on ≤ row
      last = (around_ended r.arounds some).1

      out_kept : link t'' on ≡ link t' on
      out_kept = outwards_kept w.0 r.arounds.arounds.nested some (nested_begins r.arounds.arounds.nested some)

      out_before : link t' on ≡ link t on
      out_before = outwards_kept r.aside reached_nested some (around_low r.arounds some)

      pub reached_lower : link t'' on < on
      reached_lower = omega (arith, out_kept, (nested_inner lists.nested).lower)

      pub reached_on : {next-list : ℕ} → next-list ≡ link t'' on → Reached s t t'' row list around next-list
      reached_on e =
          let is = e ∙ out_kept in
          rw is
          (record {
            aside = aside_then r.aside (aside_later w.0 row (omega arith) last);
            out = near.1;
            descends = descends_then (rw near.2 at r.descends) (up some (rw (← reached_ends some) ended) (rw (← out_before) here));
            arounds = record { to = r.arounds.to; arounds = w.1 r.arounds.to near.0 near.1 lists; before = r.arounds.before };
          })
