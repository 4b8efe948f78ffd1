-- Document 01, "Step count": "run these rules [..] with [..] no bound on steps". A run has no bound at all: its events in order, and how
-- it ends. `hold` holds it to a number of steps and a workspace, and `cut` is how it ends then. Assumes nothing.
use Rattle.std.specs.Prelude.{ℕ, ◌+◌, ◌-◌, List, [], ◌∷◌, ◌++◌, ltb, eqb}
use Rattle.spec.specs.Expr.{when◌then◌else◌}

-- the expression at a row takes a step; so many bytes are charged for it
pub data Event : Type 0 where
  step : ℕ → Event
  charge : ℕ → ℕ → Event

-- with a result, or with a refusal's number and row
pub data End (A : Type 0) : Type 0 where
  done : A → End A
  stopped : ℕ → ℕ → End A

pub record Run (A : Type 0) : Type 0 where
  pub events : List Event
  pub end : End A

abbrev pub give : {A : Type 0} → A → Run A
give a = record { events = []; end = done a }

abbrev pub stop : {A : Type 0} → ℕ → ℕ → Run A
stop w r = record { events = []; end = stopped w r }

abbrev pub before : {A : Type 0} → Event → Run A → Run A
before e run = record { events = e ∷ run.events; end = run.end }

abbrev pub after : {A : Type 0} → List Event → Run A → Run A
after es run = record { events = es ++ run.events; end = run.end }

-- a run, then what follows from its result
abbrev pub follow : {A B : Type 0} → List Event → End A → (A → Run B) → Run B
follow es (done a) f = record { events = es ++ (f a).events; end = (f a).end }
follow es (stopped w r) f = record { events = es; end = stopped w r }

abbrev pub bind : {A B : Type 0} → Run A → (A → Run B) → Run B
bind run f = follow run.events run.end f

-- A run held to a number of steps and a workspace

pub data Held (A : Type 0) : Type 0 where
  -- the result that was reached, the steps and the workspace that are left
  reached : A → ℕ → ℕ → Held A
  -- a refusal's number and row
  ceased : ℕ → ℕ → Held A

-- "If they accept or refuse within the steps given, that is the answer; if they would take one more, it is 16", at the "expression next to
-- start". 17: "workspace charge doesn't fit". "Charges are never given back."
unfoldable pub hold_events : {A : Type 0} → ℕ → ℕ → List Event → End A → Held A
hold_events steps work [] (done a) = reached a steps work
hold_events steps work [] (stopped w r) = ceased w r
hold_events steps work (step r ∷ es) end =
    let on = hold_events (steps - 1) work es end in
    when eqb steps 0 then ceased 16 r else on
hold_events steps work (charge r n ∷ es) end =
    let on = hold_events steps (work - n) es end in
    when ltb work n then ceased 17 r else on

abbrev pub hold : {A : Type 0} → ℕ → ℕ → Run A → Held A
hold steps work run = hold_events steps work run.events run.end

-- how it ends, whatever is left
abbrev pub forget : {A : Type 0} → Held A → End A
forget (reached a steps work) = done a
forget (ceased w r) = stopped w r

abbrev pub cut : {A : Type 0} → ℕ → ℕ → List Event → End A → End A
cut steps work es end = forget (hold_events steps work es end)

-- "the steps taken"
unfoldable pub steps_in : List Event → ℕ
steps_in [] = 0
steps_in (step r ∷ es) = 1 + steps_in es
steps_in (charge r n ∷ es) = steps_in es
