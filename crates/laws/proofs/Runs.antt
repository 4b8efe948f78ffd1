-- Laws of `bind`: how a run in two parts ends. Laws of `hold` and `cut`, all from `holds`: more room changes nothing but refusals 16 and
-- 17; what an accepted run took; when 16 is given. Document 01: "Step count". Assumes nothing.
use Prim.Native.Nat.{ℕ, zero, suc, ◌+◌, ◌-◌, ◌≤◌, ◌<◌}
use mathlib.Core.Path.{◌≡◌, refl, sym, ◌∙◌}
use mathlib.Core.List.{List, [], ◌∷◌, ◌++◌, append_assoc}
use mathlib.Core.Bool.{Bool, true, false}
use lib.ListN.{length, get_or}
use lib.Dec.{ltb}
use borrow.Author.Tests.{ltb-true, ltb-false, ne_eqb}
use native.Mathlib.Omega.{arith}
use Rattle.spec.specs.Expr.{when◌then◌else◌}
use Rattle.spec.specs.Runs.{Event, step, charge, End, done, stopped, Run, follow, bind, Held, reached, ceased, hold_events, forget, cut, steps_in}
use Rattle.laws.specs.Demands.{step_rows}
use Rattle.laws.proofs.Basics.{impossible}

module _ {A B : Type 0} where
  pub bind_end : (run : Run A) (f : A → Run B) (a : A) → run.end ≡ done a → (bind run f).end ≡ (f a).end
  bind_end run f a h = rw h

  pub bind_done : (run : Run A) (f : A → Run B) (b : B) → (bind run f).end ≡ done b → (a : A) × (run.end ≡ done a) × ((f a).end ≡ done b)
  bind_done run f b h = go run.end refl h
    where
      go : (e : End A) → run.end ≡ e → (follow run.events e f).end ≡ done b → (a : A) × (run.end ≡ done a) × ((f a).end ≡ done b)
      go (done a) q h = (a, q, h)
      go (stopped w r) q h = impossible (cc)

  -- the same, if what follows is the same
  pub bind_same : (run : Run A) {f g : A → Run B} → ((a : A) → run.end ≡ done a → f a ≡ g a) → bind run f ≡ bind run g
  bind_same run {f} {g} h = go run.end h
    where
      go : (e : End A) → ((a : A) → e ≡ done a → f a ≡ g a) → follow run.events e f ≡ follow run.events e g
      go (done a) h = rw (h a refl)
      go (stopped w r) h = refl

  pub bind_assoc : {C : Type 0} (run : Run A) (f : A → Run B) (g : B → Run C) → bind (bind run f) g ≡ bind run (λ a. bind (f a) g)
  bind_assoc {C} run f g = go run.end
    where
      next : (es fs : List Event) (e : End B) → follow (es ++ fs) e g ≡ record { events = es ++ (follow fs e g).events; end = (follow fs e g).end }
      next es fs (done b) = rw (append_assoc es fs (g b).events)
      next es fs (stopped w r) = refl

      go : (e : End A) → bind (follow run.events e f) g ≡ follow run.events e (λ a. bind (f a) g)
      go (done a) = next run.events (f a).events (f a).end
      go (stopped w r) = refl

-- all charges together
unfoldable pub charges : List Event → ℕ
charges [] = 0
charges (step r ∷ es) = charges es
charges (charge r n ∷ es) = n + charges es

pub charges_append : (es fs : List Event) → charges (es ++ fs) ≡ charges es + charges fs
unfolding charges
charges_append [] fs = omega arith
charges_append (step r ∷ es) fs = charges_append es fs
charges_append (charge r n ∷ es) fs = omega (arith, charges_append es fs)

-- the row of the first charge that does not fit a workspace
unfoldable pub full_row : ℕ → List Event → ℕ
full_row w [] = 0
full_row w (step r ∷ es) = full_row w es
full_row w (charge r n ∷ es) = when ltb w n then r else full_row (w - n) es

module _ {A : Type 0} where
  -- a run's own end, with what is left of its bounds
  abbrev pub ended : End A → ℕ → ℕ → Held A
  ended (done a) n w = reached a n w
  ended (stopped v r) n w = ceased v r

  -- how a run is held: it comes to its own end, or it lacks a step, or workspace
  pub data Holds (n w : ℕ) (es : List Event) (e : End A) : Held A → Type 0 where
    ends : (n' w' : ℕ) → n' + steps_in es ≡ n → w' + charges es ≡ w → length (step_rows w es) ≡ steps_in es → Holds n w es e (ended e n' w')
    lacks_step : (r : ℕ) → n < steps_in es → n < length (step_rows w es) → r ≡ get_or (step_rows w es) n 0 → Holds n w es e (ceased 16 r)
    lacks_work : (r : ℕ) → w < charges es → length (step_rows w es) ≤ n → r ≡ full_row w es → Holds n w es e (ceased 17 r)

  pub holds : (es : List Event) (e : End A) (n w : ℕ) → Holds n w es e (hold_events n w es e)
  unfolding hold_events steps_in charges step_rows full_row
  holds [] (done a) n w = ends n w (omega arith) (omega arith) refl
  holds [] (stopped v r) n w = ends n w (omega arith) (omega arith) refl
  holds (step r ∷ es) e zero w = lacks_step r (omega arith) (omega arith) refl
  holds (step r ∷ es) e (suc n) w =
      let less : suc n - 1 ≡ n = omega arith in
      rw (ne_eqb (suc n) 0 (λ z. omega arith), less) (go (holds es e n w))
    where
      go : {x : Held A} → Holds n w es e x → Holds (suc n) w (step r ∷ es) e x
      go (ends n' w' p q l) = ends n' w' (omega arith) q (omega arith)
      go (lacks_step k p l q) = lacks_step k (omega arith) (omega arith) q
      go (lacks_work k p l q) = lacks_work k p (omega arith) q
  holds (charge r m ∷ es) e n w = go (ltb w m) refl (holds es e n (w - m))
    where
      go : (b : Bool) → ltb w m ≡ b → {x : Held A} → Holds n (w - m) es e x → Holds n w (charge r m ∷ es) e (when b then ceased 17 r else x)
      go true t y = lacks_work r (omega (arith, ltb-true w m t)) (rw t (omega arith)) (rw t)
      go false t (ends n' w' p q l) = ends n' w' p (omega (arith, ltb-false w m t)) (rw t l)
      go false t (lacks_step k p l q) = lacks_step k p (rw t l) (rw t q)
      go false t (lacks_work k p l q) = lacks_work k (omega (arith, ltb-false w m t)) (rw t l) (rw t q)

  ended_end : (e : End A) (n w : ℕ) → forget (ended e n w) ≡ e
  ended_end (done a) n w = refl
  ended_end (stopped v r) n w = refl

  -- the second end is the first, unless the first is for want of steps or workspace
  pub data SameEnd (x y : End A) : Type 0 where
    same_end : x ≡ y → SameEnd x y
    no_steps : (r : ℕ) → x ≡ stopped 16 r → SameEnd x y
    no_work : (r : ℕ) → x ≡ stopped 17 r → SameEnd x y

  -- a run whose bounds are enough: it comes to its own end, within the steps and the workspace, and all its steps are taken
  pub record Enough (n w : ℕ) (es : List Event) (e : End A) (a : A) : Type 0 where
    pub ends : e ≡ done a
    pub steps : steps_in es ≤ n
    pub work : charges es ≤ w
    pub all : length (step_rows w es) ≡ steps_in es

  -- why a run that is cut stops
  pub data StoppedBy (e : End A) (v r : ℕ) : Type 0 where
    by_steps : v ≡ 16 → StoppedBy e v r
    by_work : v ≡ 17 → StoppedBy e v r
    by_rule : e ≡ stopped v r → StoppedBy e v r

  module _ (es : List Event) (e : End A) where
    pub cut_more : (n n' w w' : ℕ) → n ≤ n' → w ≤ w' → SameEnd (cut n w es e) (cut n' w' es e)
    cut_more n n' w w' h k = go (holds es e n w) (holds es e n' w')
      where
        go : {x y : Held A} → Holds n w es e x → Holds n' w' es e y → SameEnd (forget x) (forget y)
        go (ends i j p q l) (ends i' j' p' q' l') = same_end (ended_end e i j ∙ sym (ended_end e i' j'))
        go (ends i j p q l) (lacks_step r p' l' q') = absurd (omega arith)
        go (ends i j p q l) (lacks_work r p' l' q') = absurd (omega arith)
        go (lacks_step r p l q) y = no_steps r refl
        go (lacks_work r p l q) y = no_work r refl

    pub cut_done : (n w : ℕ) (a : A) → cut n w es e ≡ done a → Enough n w es e a
    cut_done n w a = go (holds es e n w)
      where
        go : {x : Held A} → Holds n w es e x → forget x ≡ done a → Enough n w es e a
        go (ends i j p q l) h = record { ends = sym (ended_end e i j) ∙ h; steps = omega arith; work = omega arith; all = l }
        go (lacks_step r p l q) h = impossible (cc)
        go (lacks_work r p l q) h = impossible (cc)

    pub cut_stopped : (n w v r : ℕ) → cut n w es e ≡ stopped v r → StoppedBy e v r
    cut_stopped n w v r = go (holds es e n w)
      where
        go : {x : Held A} → Holds n w es e x → forget x ≡ stopped v r → StoppedBy e v r
        go (ends i j p q l) h = by_rule (sym (ended_end e i j) ∙ h)
        go (lacks_step k p l q) h = by_steps (cc)
        go (lacks_work k p l q) h = by_work (cc)

    -- the steps that the workspace allows: with as many or more, steps make no difference; with fewer, it is 16 at the next one
    pub cut_enough : (n w : ℕ) → length (step_rows w es) ≤ n → cut n w es e ≡ cut (length (step_rows w es)) w es e
    cut_enough n w h = go (holds es e n w) (holds es e (length (step_rows w es)) w)
      where
        go : {x y : Held A} → Holds n w es e x → Holds (length (step_rows w es)) w es e y → forget x ≡ forget y
        go (ends i j p q l) (ends i' j' p' q' l') = ended_end e i j ∙ sym (ended_end e i' j')
        go (ends i j p q l) (lacks_step r p' l' q') = absurd (omega arith)
        go (ends i j p q l) (lacks_work r p' l' q') = absurd (omega arith)
        go (lacks_step r p l q) y = absurd (omega arith)
        go (lacks_work r p l q) (ends i' j' p' q' l') = absurd (omega arith)
        go (lacks_work r p l q) (lacks_step r' p' l' q') = absurd (omega arith)
        go (lacks_work r p l q) (lacks_work r' p' l' q') = cc

    pub cut_short : (n w : ℕ) → n < length (step_rows w es) → cut n w es e ≡ stopped 16 (get_or (step_rows w es) n 0)
    cut_short n w h = go (holds es e n w)
      where
        go : {x : Held A} → Holds n w es e x → forget x ≡ stopped 16 (get_or (step_rows w es) n 0)
        go (ends i j p q l) = absurd (omega arith)
        go (lacks_step r p l q) = rw q
        go (lacks_work r p l q) = absurd (omega arith)

    -- 16 is for want of steps, if it is not the run's own end
    pub cut_sixteen : (n w r : ℕ) → (e ≡ stopped 16 r → ⊥) → cut n w es e ≡ stopped 16 r → n < length (step_rows w es)
    cut_sixteen n w r own = go (holds es e n w)
      where
        go : {x : Held A} → Holds n w es e x → forget x ≡ stopped 16 r → n < length (step_rows w es)
        go (ends i j p q l) h = absurd (own (sym (ended_end e i j) ∙ h))
        go (lacks_step k p l q) h = l
        go (lacks_work k p l q) h = absurd (let z : ◌≡◌ {A = ℕ} 17 16 = cc in omega arith)
