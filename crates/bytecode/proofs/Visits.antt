-- A visit of the expression that comes next, by what the code finds: the nearest arity list, an atom or a form, and the key of its head.
-- Document 02, §1. Assumes nothing.
use Prim.Native.Nat.{ℕ, ◌+◌, ◌≤◌, ◌<◌}
use mathlib.Core.Path.{◌≡◌, sym, ap, ◌∙◌, subst}
use mathlib.Core.List.{List}
use mathlib.Core.Bool.{true, false, ◌&&◌, and-false}
use native.Mathlib.Omega.{arith}
use borrow.Author.Tests.{eq-eqb, ne_eqb}
use lib.ListN.{length, get_or}
use Rattle.std.proofs.Common.{Fits, w8}
use lib.Dec.{ltb}
use Rattle.spec.specs.Nodes.{Nodes, cons, tail}
use Rattle.spec.specs.Bytecode.{prefix, prefix*, Around, all}
use Rattle.spec.proofs.Flat.{arity_list}
use Rattle.laws.proofs.Steps.{all_bytes}
use Rattle.rows.specs.Rows.{RowInside, WrittenAll}
use Rattle.rows.specs.Forms.{element_at, HeadAt, SomeHead, head_key, leads}
use Rattle.rows.specs.declared.forms.Form.{Form}
use Rattle.rows.specs.declared.forms.Node.{Node as Ranged}
use Rattle.rows.specs.declared.forms.Node.TheVariants.{Leaf, Branch}
use Rattle.rows.proofs.Nodes.{written_whole}
use Rattle.rows.proofs.Parts.{form_unflat, written_head}
use Rattle.bytecode.specs.Frames.{Frame}
use Rattle.bytecode.specs.Numbers.{Aside}
use Rattle.bytecode.specs.Scanned.{AroundAt, Nearest, HeadedAt, Enclosed, Standing, Moved, Judged, Starred, FormChanged}
use Rattle.bytecode.specs.declared.scan.Scan.{Scan}
use Rattle.bytecode.proofs.Lists.{none_around, around_later}
use Rattle.bytecode.proofs.Flattening.{NoBytecode}
use Rattle.bytecode.proofs.Heads.{HeadKey, key_told, no_bytecode}
use Rattle.bytecode.proofs.Firsts.{AtomAt, FormAt, View, an_atom, a_form, view}
use Rattle.bytecode.proofs.Scanned.{here_at, Found, found_here, moved_then, row_order, form_ends, form_low, visited_atom, visited_plain, visited_star, visited_nested}

-- once the lists that have ended are left, in the table t'
pub record Visiting (s t t' : List ℕ) (scan : Scan) (near end : ℕ) (fs : List Frame) : Type 0 where
  pub few : end ≤ 65536
  pub aside : Aside t t' scan.row scan.row
  pub within : scan.row < end
  pub here : Found s t' scan.row near end fs

pub visiting : {s t t' : List ℕ} {scan : Scan} {near end : ℕ} {fs : List Frame} (k : Standing s t scan end fs) → scan.row < end
    → ((out : Around) → AroundAt s t scan.row scan.around out → Nearest s t t' scan.row scan.around out near) → Visiting s t t' scan near end fs
visiting {s} {t} {scan = scan} {end = end} {fs = fs} k l left =
    let n = left k.around k.arounds in
    record { few = k.few; aside = n.aside; within = l; here = found_here k.arounds (here_at s t scan.row scan.around k.around end fs k.stacked l) n }

module _ {s t t' : List ℕ} {scan : Scan} {near end : ℕ} {fs : List Frame} (v : Visiting s t t' scan near end fs) where
  open v use {few, here}

  then : {u : List ℕ} {on : Scan} → Moved s t' u scan on end fs → Moved s t u scan on end fs
  then m = moved_then v.aside (omega (arith, v.within)) m

  pub visit_row : RowInside t' scan.row × (scan.row < 65536)
  unfolding WrittenAll
  visit_row =
      let w : WrittenAll s t' here.frame.first here.frame.end (cons here.first here.others) = rw here.is at here.framed.holds.written in
      rw here.at at (written_whole s t' here.frame.first here.first w.2)

  seen : (x : Ranged) → x ≡ element_at t' true scan.row → View s t' here.frame here.first here.others x
  seen x e =
      subst (View s t' here.frame here.first here.others) (ap (element_at t' true) here.at ∙ sym e)
      (view s t' here.frame here.first here.others here.framed.holds here.is)

  pub visit_atom : Leaf ≡ element_at t' true scan.row → Moved s t t' scan (record { row = scan.row + 1; around = near }) end fs
  visit_atom e = then (rw here.own (visited_atom s t' scan near end fs few here (go (seen Leaf e))))
    where
      go : View s t' here.frame here.first here.others Leaf → AtomAt s t' here.frame here.first here.others
      go (an_atom a) = a

  -- the form that the code sees
  module _ {form : Form} (e : Branch form ≡ element_at t' true scan.row) where
    form_here : FormAt s t' here.frame here.first here.others form
    form_here = go (seen (Branch form) e)
      where
        go : View s t' here.frame here.first here.others (Branch form) → FormAt s t' here.frame here.first here.others form
        go (a_form f a) = a

    form_head : HeadAt s t' form form_here.elements
    form_head =
        let unflat : form.flat ≡ false = ap (λ (x : Form). x.flat) form_here.form_is ∙ form_unflat s t' true here.frame.first in
        written_head s t' form unflat form_here.elements form_here.written

    pub some_head : SomeHead s t' form
    some_head = record { nodes = form_here.elements; at = form_head }

    ends : form.end ≤ here.frame.end
    ends = form_ends s t' scan near end fs few here form form_here

    headed : (n : ℕ) → leads n form_here.elements ≡ true → HeadedAt s t' form (tail form_here.elements)
    headed n q =
        let b = form_here.headed n q in
        record { few = omega (arith, ends, (row_order s t' scan near end fs few here).1); low = form_low s t' scan near end fs few here form form_here; head = b.0; fresh = b.1 }

    enclosed : Enclosed s t' form near here.frame.around
    enclosed =
        rw here.own
        (record {
          lists = around_later form.first (omega (arith, here.at, form_here.low)) here.around;
          lasts = λ z. omega (arith, ends, here.framed.lasts z);
        })

    -- the key of its head, as the code reads it
    module _ {key : ℕ} (bytes : (i : ℕ) → Fits w8 (get_or s i 0)) (read : (es : Nodes) → HeadAt s t' form es → key ≡ head_key es) where
      told : HeadKey key form_here.elements
      told = key_told s t' form (all_bytes s (λ i. (bytes i).fits)) form_here.elements form_head key (read form_here.elements form_head)

      is_star : key ≡ 0x2031 → leads prefix* form_here.elements ≡ true
      is_star q = sym told.star ∙ eq-eqb key 0x2031 q

      no_star : (key ≡ 0x2031 → ⊥) → leads prefix* form_here.elements ≡ false
      no_star q = sym told.star ∙ ne_eqb key 0x2031 q

      is_nested : key ≡ 0x2030 → leads prefix form_here.elements ≡ true
      is_nested q = sym told.nested ∙ eq-eqb key 0x2030 q

      pub headed_star : key ≡ 0x2031 → ((es : Nodes) × HeadedAt s t' form es) × ((out : Around) × Enclosed s t' form near out)
      headed_star q = ((tail form_here.elements, headed prefix* (is_star q)), (here.frame.around, enclosed))

      pub headed_nested : key ≡ 0x2030 → ((es : Nodes) × HeadedAt s t' form es) × ((out : Around) × Enclosed s t' form near out)
      headed_nested q = ((tail form_here.elements, headed prefix (is_nested q)), (here.frame.around, enclosed))

      visit_plain : NoBytecode here.frame.around form_here.elements → Moved s t t' scan (record { row = scan.row + 1; around = near }) end fs
      visit_plain b = then (rw here.own (visited_plain s t' scan near end fs few here form form_here b))

      -- another name, or none
      pub visit_other : (key ≡ 0x2031 → ⊥) → (key ≡ 0x2030 → ⊥) → Moved s t t' scan (record { row = scan.row + 1; around = near }) end fs
      visit_other p q = visit_plain (no_bytecode here.frame.around form_here.elements (no_star p) (rw (sym told.nested ∙ ne_eqb key 0x2030 q)))

      -- `prefix`, with nothing around
      pub visit_outside : (key ≡ 0x2031 → ⊥) → near ≡ 0 → Moved s t t' scan (record { row = scan.row + 1; around = near }) end fs
      visit_outside p z =
          let es = form_here.elements in
          let none = none_around here.around.arounds.nested (sym here.own ∙ z) in
          visit_plain (no_bytecode here.frame.around es (no_star p) (ap (λ (out : Around). leads prefix es && ltb 0 (length out)) none ∙ and-false (leads prefix es)))

      pub visit_star : {u : List ℕ} {on : Scan} → key ≡ 0x2031
          → FormChanged t' u form × ((es : Nodes) (out : Around) → HeadedAt s t' form es → Enclosed s t' form near out → Starred s u form near out es (arity_list es) on)
          → Moved s t u scan on end fs
      visit_star {u} {on} q left =
          let es = tail form_here.elements in
          let out = here.frame.around in
          let starred = left.1 es out (headed prefix* (is_star q)) enclosed in
          then (visited_star s t' scan near end fs few here form form_here left.0 (is_star q) (subst (λ (n : ℕ). Starred s u form n out es (arity_list es) on) here.own starred))

      pub visit_nested : {u : List ℕ} {on : Scan} → (key ≡ 0x2031 → ⊥) → key ≡ 0x2030 → (near ≡ 0 → ⊥)
          → FormChanged t' u form × ((es : Nodes) (out : Around) → HeadedAt s t' form es → Enclosed s t' form near out → Judged s u form near 1 (all out) out out es on)
          → Moved s t u scan on end fs
      visit_nested {u} {on} p q z left =
          let es = tail form_here.elements in
          let out = here.frame.around in
          let judged = left.1 es out (headed prefix (is_nested q)) enclosed in
          then (visited_nested s t' scan near end fs few here form form_here left.0 (no_star p) (is_nested q) (omega (arith, here.own, z))
          (subst (λ (n : ℕ). Judged s u form n 1 (all out) out out es on) here.own judged))
