-- What completing a value does to the workspace. Values stand in it as their canonical bytes, in two stacks: from its start up to `top` the
-- finished values of all open lists, one after the other; from `floor` to its end the values of visible definitions. What is held has been
-- charged, so that a charge that fits is room enough. Document 01: "Workspace". Assumes nothing.
use Rattle.std.specs.Prelude.{ℕ, ◌+◌, ◌-◌, ◌≤◌, ◌<◌, ◌≡◌, List, ◌++◌, false, length, take, drop, get_or, Result, Ok, Err}
use Rattle.std.proofs.Math.Seq.{slice}
use Rattle.spec.specs.Expr.{Atom, array, Expr, atom, Exprs, none, more, only, deepest, atom_bytes, bytes, canonical}
use Rattle.spec.specs.Nodes.{leaf, branch, bytecode, Nodes, empty, cons}
use Rattle.atoms.specs.Refusals.{number, refused}
use Rattle.atoms.specs.declared.refusal.Reason.TheVariants.{WrongElements}
use Rattle.atoms.specs.declared.refusal.Refusal.{Refusal}
use Rattle.writer.specs.Bytes.{with_head}
use Rattle.rows.specs.Rows.{NodesAt}
use Rattle.rows.specs.declared.forms.Form.{Form}
use Rattle.workspace.specs.Packed.{pack}
use Rattle.workspace.specs.declared.values.State.{State}
use Rattle.workspace.specs.declared.values.Body.{Body}

-- a state of a workspace
pub record Fitting (w : List ℕ) (st : State) : Type 0 where
  pub paid : st.top + st.room ≤ st.floor
  pub below : st.floor ≤ length w
  pub short : length w ≤ 65536

-- the bytes of these values stand in the workspace from one byte up to another
pub record Stand (w : List ℕ) (from to : ℕ) (vs : Exprs) : Type 0 where
  pub order : from ≤ to
  pub inside : to ≤ length w
  pub bytes : slice from to w ≡ canonical vs

-- the finished values end at `top`, with so much room left
abbrev pub with_top : State → ℕ → ℕ → State
with_top st room top = record { steps = st.steps; room = room; top = top; floor = st.floor }

-- the definitions' values begin at `floor`
abbrev pub with_floor : State → ℕ → State
with_floor st floor = record { steps = st.steps; room = st.room; top = st.top; floor = floor }

-- so many steps are left
abbrev pub with_steps : State → ℕ → State
with_steps st steps = record { steps = steps; room = st.room; top = st.top; floor = st.floor }

-- one step less
abbrev pub stepped : State → State
stepped st = with_steps st (st.steps - 1)

-- what is below one byte and from another on is as it was
pub record Untouched (w w' : List ℕ) (below from : ℕ) : Type 0 where
  pub size : length w' ≡ length w
  pub lower : take below w' ≡ take below w
  pub upper : drop from w' ≡ drop from w

-- the values are complete, charged, and stand from `start` on, instead of all that stood there
pub record Complete (w w' : List ℕ) (st : State) (start : ℕ) (vs : Exprs) (st' : State) : Type 0 where
  pub shallow : deepest vs ≤ 64
  pub charged : length (canonical vs) ≤ st.room
  pub state : st' ≡ with_top st (st.room - length (canonical vs)) (start + length (canonical vs))
  pub stand : Stand w' start (start + length (canonical vs)) vs
  pub others : Untouched w w' start st.floor

-- or refused, "6, 17"
pub data Incomplete (st : State) (vs : Exprs) : ℕ → Type 0 where
  too_deep : 64 < deepest vs → Incomplete st vs 6
  too_long : deepest vs ≤ 64 → st.room < length (canonical vs) → Incomplete st vs 17

-- behind the head that an array has, the bytes of an atom
pub record BodyOf (s : List ℕ) (a : Atom) (b : Body) : Type 0 where
  pub order : b.from ≤ b.to
  pub inside : b.to ≤ length s
  pub short : length s ≤ 65536
  pub is : with_head b.kind (take (b.to - b.from) (drop b.from s)) ≡ atom_bytes a

-- the elements of a form that are all atoms
abbrev pub Atoms : Nodes → Type 0
Atoms empty = Unit {0}
Atoms (cons (leaf r a) es) = Atoms es
Atoms (cons (branch r fs) es) = ⊥
Atoms (cons (bytecode r fs o) es) = ⊥

-- some atoms are a form's elements
pub record SomeAtoms (s t : List ℕ) (f : Form) : Type 0 where
  pub nodes : Nodes
  pub at : NodesAt s t false f.first f.end nodes
  pub atoms : Atoms nodes

-- completing the values of the expression at a row
abbrev pub Completed : List ℕ → List ℕ → State → ℕ → ℕ → Exprs → Result State Refusal → Type 0
Completed w w' st start row vs (Ok st') = Complete w w' st start vs st'
Completed w w' st start row vs (Err r) = (r.place ≡ row) × Incomplete st vs (number r.reason)

-- the two values of a concat's operands joined, if they are arrays; else 11
pub data Joined (w w' : List ℕ) (st : State) (start row : ℕ) (a b : Expr) : Result State Refusal → Type 0 where
  joined : {r : Result State Refusal} (bs cs : List ℕ) → a ≡ atom (array bs) → b ≡ atom (array cs) → Completed w w' st start row (only (atom (array (bs ++ cs)))) r
      → Joined w w' st start row a b r
  no_arrays : ((bs cs : List ℕ) → a ≡ atom (array bs) → b ≡ atom (array cs) → ⊥) → Joined w w' st start row a b (Err (refused WrongElements row))

-- the values of a definition moved from the finished ones to the definitions'
pub record Stored (w w' : List ℕ) (st : State) (start : ℕ) (st' : State) : Type 0 where
  pub steps : st'.steps ≡ st.steps
  pub room : st'.room ≡ st.room
  pub top : st'.top ≡ start
  pub floor : st'.floor + (st.top - start) ≡ st.floor
  pub bytes : slice st'.floor st.floor w' ≡ slice start st.top w
  pub others : Untouched w w' start st.floor

-- the values vs stand one after the other from one byte up to another, as the arguments with the numbers from i on; where each stands is packed in
-- `args`, if its number is below 64
unfoldable pub ArgumentsAt : List ℕ → List ℕ → ℕ → ℕ → ℕ → Exprs → Type 0
ArgumentsAt w args i from to none = from ≡ to
ArgumentsAt w args i from to (more v vs) =
    (mid : ℕ) × (from < mid) × (mid ≤ to) × (slice from mid w ≡ bytes v) × (i < 64 → get_or args i 0 ≡ pack from mid) × ArgumentsAt w args (i + 1) mid to vs
