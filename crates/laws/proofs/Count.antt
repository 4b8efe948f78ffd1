-- Steps: what Evaluate counts, and when it gives refusal 16. Document 01: "Step count". Assumes nothing.
use Prim.Native.Nat.{ℕ, zero, suc, ◌≤◌, ◌<◌, min}
use mathlib.Core.Path.{◌≡◌, refl, sym, ap, ◌∙◌}
use mathlib.Core.List.{List, [], ◌∷◌, map}
use lib.ListN.{length, get_or, length-map, get_or-map}
use native.Mathlib.Omega.{arith}
use Rattle.spec.specs.Expr.{Exprs}
use Rattle.spec.specs.Reading.{Row, readable}
use Rattle.spec.specs.Runs.{stopped, steps_in}
use Rattle.spec.specs.Evaluation.{run}
use Rattle.spec.specs.Calls.{Answer, filled, row_at, end_answer, reading}
use Rattle.laws.specs.Demands.{Bytes, Lent, step_rows, step_places, all_steps, with_steps}
use Rattle.laws.proofs.Runs.{cut_enough, cut_short, cut_sixteen}
use Rattle.laws.proofs.Values.{not_rule, run_proper}
use Rattle.laws.proofs.Calls.{bounded, Way, unread, unversioned, wrong_version, runs, answered, Begun, reading_fits, Ran}

-- Refusal 16

-- the places of the steps that are taken with a workspace
abbrev pub stepped : {s t : List ℕ} → Way s t → ℕ → List ℕ
stepped (unread v p e) w = []
stepped (unversioned rs es e h) w = []
stepped (wrong_version rs es e h k) w = []
stepped (runs rs es e h k) w = map (λ r. (row_at rs r).start) (step_rows (min w 65536) (run es).events)

pub steps_stepped : (s t : List ℕ) (y : Way s t) (w : ℕ) → step_places s t w ≡ stepped y w
unfolding step_places
steps_stepped s t (unread v p e) w = rw e
steps_stepped s t (unversioned rs es e h) w = rw (e, h)
steps_stepped s t (wrong_version rs es e h k) w = rw (e, h, k)
steps_stepped s t (runs rs es e h k) w = rw (e, h, k)

-- steps enough for both
pub way_enough : (s t : List ℕ) (y : Way s t) (l : Lent) (n : ℕ) → length (stepped y l.work) ≤ l.steps → length (stepped y l.work) ≤ n
    → answered y l ≡ answered y (with_steps n l)
way_enough s t (unread v p e) l n h k = refl
way_enough s t (unversioned rs es e x) l n h k = refl
way_enough s t (wrong_version rs es e x y) l n h k = refl
way_enough s t (runs rs es e x y) l n h k =
    let w : ℕ = min l.work 65536 in
    let size = length-map (step_rows w (run es).events) (λ r. (row_at rs r).start) in
    ap (end_answer rs (steps_in (run es).events) (filled rs t) l.output)
    (cut_enough (run es).events (run es).end l.steps w (omega (arith, size)) ∙ sym (cut_enough (run es).events (run es).end n w (omega (arith, size))))

getD_inside : (l : List ℕ) (i a b : ℕ) → i < length l → get_or l i a ≡ get_or l i b
getD_inside [] i a b h = absurd (omega arith)
getD_inside (x ∷ l) zero a b h = refl
getD_inside (x ∷ l) (suc i) a b h = getD_inside l i a b (omega arith)

-- refusal 16 at a place
abbrev pub OutOfSteps : Answer → ℕ → Type 0
OutOfSteps a p = (a.number ≡ 16) × (a.place ≡ p)

pub way_short : (s t : List ℕ) (y : Way s t) (l : Lent) → l.steps < length (stepped y l.work)
    → OutOfSteps (answered y l) (get_or (stepped y l.work) l.steps 0)
way_short s t (unread v p e) l h = absurd (omega arith)
way_short s t (unversioned rs es e x) l h = absurd (omega arith)
way_short s t (wrong_version rs es e x y) l h = absurd (omega arith)
way_short s t (runs rs es e x y) l h =
    let place : ℕ → ℕ = λ r. (row_at rs r).start in
    let rows = step_rows (min l.work 65536) (run es).events in
    let short = cut_short (run es).events (run es).end l.steps (min l.work 65536) (rw (length-map rows place) at h) in
    (rw short, rw short (sym (getD_inside (map place rows) l.steps 0 (place 0) h ∙ get_or-map place rows l.steps 0)))

-- the steps of a run that is begun
begun_steps : (s : List ℕ) (l : Lent) (rs : List Row) (es : Exprs) → reading s l.table ≡ readable rs es → Begun s es
    → length (all_steps s l) ≡ length (step_rows (min l.work 65536) (run es).events)
begun_steps s l rs es e b =
    ap length (steps_stepped s l.table (runs rs es e b.0 b.1) l.work)
    ∙ length-map (step_rows (min l.work 65536) (run es).events) (λ k. (row_at rs k).start)

-- a run that is refused with 16 has too few: no rule gives this number
pub stopped_short : (s : List ℕ) (l : Lent) (rs : List Row) (es : Exprs) → Bytes s → reading s l.table ≡ readable rs es → Begun s es
    → (r : ℕ) → bounded l es ≡ stopped 16 r → l.steps < length (all_steps s l)
stopped_short s l rs es b e begun r c =
    rw (begun_steps s l rs es e begun) (cut_sixteen (run es).events (run es).end l.steps (min l.work 65536) r
    (λ q. not_rule {v = 16} {w = 16} refl ((run_proper es (reading_fits s l.table rs es b e)).stops 16 r q).0 refl) c)

-- an accepted evaluation takes all the steps that the rules take
pub ran_all_steps : (s : List ℕ) (l : Lent) (r : Ran s l) → steps_in (run r.meaning).events ≡ length (all_steps s l)
ran_all_steps s l r = sym (begun_steps s l r.rows r.meaning r.reads r.begun ∙ r.enough.all)
