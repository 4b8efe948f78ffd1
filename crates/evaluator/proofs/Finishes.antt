-- Laws of finishing a form by the values of what is inside it: a data form, a definition, a concat.
-- Document 01: the values of data forms, define and concat in "Evaluation". Assumes nothing.
use Prim.Native.Nat.{ℕ, ◌+◌, ◌<◌}
use mathlib.Core.Path.{◌≡◌, refl, ap, ◌∙◌}
use mathlib.Core.List.{List, [], ◌∷◌, ◌++◌}
use lib.ListN.{length, set, length-append}
use native.Mathlib.Omega.{arith}
use Rattle.std.specs.Prelude.{Result, Ok}
use Rattle.spec.specs.Expr.{nil, array, int, ref, Expr, atom, form, Exprs, more, only, array_head, marker_bytes, atom_bytes, bytes, canonical}
use Rattle.spec.specs.Runs.{stop, hold}
use Rattle.spec.specs.Plan.{value, Here, Finish}
use Rattle.spec.specs.Evaluation.{join, Call, finish}
use Rattle.laws.proofs.Atoms.{head_bounds}
use Rattle.laws.proofs.Fits.{FitsAll}
use Rattle.laws.proofs.Holding.{hold_stop}
use Rattle.laws.proofs.Singles.{Single}
use Rattle.atoms.specs.declared.refusal.Refusal.{Refusal}
use Rattle.workspace.specs.Packed.{pack}
use Rattle.workspace.specs.Completed.{Stand, with_top, Completed, Joined, joined, no_arrays, Stored}
use Rattle.workspace.specs.declared.values.State.{State}
use Rattle.workspace.proofs.Areas.{stand_size}
use Rattle.rules.specs.Entries.{definition}
use Rattle.rules.specs.Scope.{view}
use Rattle.rules.specs.Settings.{Sees}
use Rattle.rules.specs.declared.scope.Scope.{Scope}
use Rattle.rules.specs.declared.plan.Making.{Making}
use Rattle.rules.specs.declared.plan.Making.TheVariants.{Form, Define, Concat}
use Rattle.rules.proofs.Shown.{value_entry}
use Rattle.evaluator.specs.Listed.{LeftBy, left_as, FinishedBy, by_form, by_define, by_concat, Finishing}
use Rattle.evaluator.specs.declared.element.Left.{Left}
use Rattle.evaluator.proofs.Begins.{completed_left, extends_none, defined_left}

-- Values that stand

-- an expression has bytes
bytes_some : (e : Expr) → 0 < length (bytes e)
unfolding bytes atom_bytes
bytes_some (atom nil) = omega arith
bytes_some (atom (array bs)) = omega (arith, length-append (array_head (length bs)) bs, (head_bounds (length bs)).0)
bytes_some (atom (int v)) = omega arith
bytes_some (atom (ref m n)) = omega (arith, length-append (marker_bytes m) (n ∷ []))
bytes_some (form es) = omega arith

-- so has one value
single_stands : {w : List ℕ} {from to : ℕ} {vs : Exprs} → Single vs → Stand w from to vs → from < to
unfolding bytes
single_stands one there = omega (arith, bytes_some one.value, length-append (bytes one.value) [], ap length (ap canonical one.is), stand_size there)

-- What may be finished

module _ {w : List ℕ} {start : ℕ} {st : State} {sc : Scope} {vs : Exprs} where
  pub can_define : {key : ℕ} {f : Finish} → FinishedBy sc (Define key) f → Finishing w st start f vs → (start < st.top) × (sc.defined < 256)
  can_define (by_define m n fits few) r = (single_stands r.finishable r.stand, few)

  can_join : {f : Finish} → FinishedBy sc Concat f → Finishing w st start f vs
      → (a : Expr) × (b : Expr) × Stand w start st.top (more a (only b)) × FitsAll (more a (only b))
  can_join by_concat r = let two = r.finishable in (two.0, two.1, rw two.2 at r.stand, rw two.2 at r.sound.0)

-- Two values joined

join_others : (row : ℕ) (a b : Expr) (h : Here) → ((bs cs : List ℕ) → a ≡ atom (array bs) → b ≡ atom (array cs) → ⊥)
    → join row [] (more a (only b)) h ≡ stop 11 row
unfolding join
join_others row (form es) b h other = refl
join_others row (atom nil) b h other = refl
join_others row (atom (int v)) b h other = refl
join_others row (atom (ref m n)) b h other = refl
join_others row (atom (array bs)) (form es) h other = refl
join_others row (atom (array bs)) (atom nil) h other = refl
join_others row (atom (array bs)) (atom (int v)) h other = refl
join_others row (atom (array bs)) (atom (ref m n)) h other = refl
join_others row (atom (array bs)) (atom (array cs)) h other = absurd (other bs cs refl refl)

-- What is finished

module _ (w w' definitions : List ℕ) (sc : Scope) (st : State) (start row : ℕ) where
  -- what is answered for the values of what is inside, whatever they are
  abbrev pub Finished : List ℕ → Making → Result Left Refusal → Type 0
  Finished definitions' making left =
      (s t numbers : List ℕ) (run : Call) (h : Here) (f : Finish) (vs : Exprs) → FinishedBy sc making f → Finishing w st start f vs
      → Sees s t w st.floor (view numbers definitions sc) h
      → LeftBy s t w w' (view numbers definitions') sc (with_top st st.room start) (hold st.steps st.room (finish run row h f vs)) left

  pub form_finished : (out : Result State Refusal) → ((vs : Exprs) → Stand w start st.top vs → FitsAll vs → Completed w w' st start row (only (form vs)) out)
      → Finished definitions Form (left_as sc out)
  form_finished out done s t numbers run h f vs by_form ready sees =
      completed_left s t w w' (view numbers definitions) sc sc (with_top st st.room start) st row (only (form vs)) h out refl ready.fitting ready.stand.order
      (extends_none sc) sees (done vs ready.stand ready.sound.0)

  pub concat_finished : (out : Result State Refusal)
      → ((a b : Expr) → Stand w start st.top (more a (only b)) → FitsAll (more a (only b)) → Joined w w' st start row a b out)
      → Finished definitions Concat (left_as sc out)
  unfolding join can_join
  concat_finished out done s t numbers run h f vs by_concat ready sees =
      let two = can_join {sc = sc} by_concat ready in rw ready.finishable.2 (go (done two.0 two.1 two.2 two.3))
    where
      go : {a b : Expr} {r : Result State Refusal} → Joined w w' st start row a b r
          → LeftBy s t w w' (view numbers definitions) sc (with_top st st.room start) (hold st.steps st.room (join row [] (more a (only b)) h)) (left_as sc r)
      go {a} {b} {r} (joined bs cs is is' done) =
          rw (is, is', join)
          (completed_left s t w w' (view numbers definitions) sc sc (with_top st st.room start) st row (only (atom (array (bs ++ cs)))) h r refl ready.fitting
          ready.stand.order (extends_none sc) sees done)
      go {a} {b} (no_arrays other) = rw (join_others row a b h other) (hold_stop st.steps st.room 11 row)

  pub define_finished : (key : ℕ) (st' : State) → length definitions ≡ 256 → Stored w w' st start st'
      → let e = definition key (pack st'.floor st.floor) in
      Finished (set definitions sc.defined e) (Define key) (Ok (record { state = st'; scope = record { defined = sc.defined + 1; associated = sc.associated } }))
  define_finished key st' size stored s t numbers run h f vs (by_define m n fits few) ready sees =
      let e = definition key (pack st'.floor st.floor) in
      let fit = ready.fitting in
      let some = single_stands ready.finishable ready.stand in
      let stand : Stand w' st'.floor st.floor vs =
      record { order = omega (arith, stored.floor); inside = omega (arith, stored.others.size, fit.below); bytes = stored.bytes ∙ ready.stand.bytes } in
      defined_left s t w w' numbers definitions sc (with_top st st.room start) st' e (record { marker = m; name = n; content = value vs }) h st.steps st.room
      stored.steps stored.room size (omega (arith, stored.others.size, ready.stand.order, ready.stand.inside)) stored.others stored.top
      (omega (arith, stored.floor)) (omega (arith, stored.top, stored.room, stored.floor, some, fit.paid))
      (value_entry fits st'.floor st.floor (omega arith) (omega (arith, stored.floor, some)) (omega (arith, fit.below, fit.short)) stand) few sees
