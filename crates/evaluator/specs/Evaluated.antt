-- What the evaluation of a stream that was read answers, against `Evaluate` of the crate `spec`. Document 01: "Evaluate". Assumes nothing.
use Rattle.std.specs.Prelude.{ℕ, ◌-◌, ◌≤◌, ◌<◌, ◌≡◌, List, Bool, false, length, take, Result, Ok, Err}
use Rattle.spec.specs.Expr.{Exprs, rows_all, canonical}
use Rattle.spec.specs.Reading.{Row, readable}
use Rattle.spec.specs.Nodes.{number_all}
use Rattle.spec.specs.Bytecode.{transform_all}
use Rattle.spec.specs.Runs.{done, stopped, cut, steps_in}
use Rattle.spec.specs.Evaluation.{run, result}
use Rattle.spec.specs.Calls.{refusal, filled, put_out, reading, Evaluate}
use Rattle.laws.proofs.Fits.{FitsAll}
use Rattle.atoms.specs.Refusals.{number}
use Rattle.atoms.specs.declared.refusal.Refusal.{Refusal}
use Rattle.rows.specs.Rows.{NodesAt}
use Rattle.workspace.specs.declared.values.State.{State}
use Rattle.bytecode.specs.Numbers.{Changed}
use Rattle.evaluator.specs.declared.Evaluation.{Evaluation}

-- the table has the rows of the stream, which are so many, over what another table had
pub record HasRead (s table : List ℕ) (count : ℕ) : Type 0 where
  pub before : List ℕ
  pub rows : List Row
  pub means : Exprs
  pub is : reading s before ≡ readable rows means
  pub filled_in : table ≡ filled rows before
  pub counted : count ≡ length rows

-- the expressions of a stream stand in the table, in so many rows, as they are evaluated
pub record Arranged (s table : List ℕ) (count : ℕ) (es : Exprs) : Type 0 where
  pub nodes : NodesAt s table false 0 count (transform_all (number_all 0 es))
  pub counted : count ≡ rows_all es
  pub fits : FitsAll es

-- only numbers besides its rows' own are put in a table; none where there is no bytecode
pub record Put (t t' : List ℕ) (count : ℕ) (arranged : Bool) : Type 0 where
  pub changed : Changed t t' 0 count
  pub same : arranged ≡ false → t' ≡ t

-- the run of expressions is done, within the steps and the workspace, and its result stands at the workspace's start
pub record ResultStands (steps : ℕ) (w w' : List ℕ) (es : Exprs) (st : State) : Type 0 where
  pub left : List Exprs
  pub is : cut steps (length w) (run es).events (run es).end ≡ done left
  pub inside : st.top ≤ length w'
  pub bytes : take st.top w' ≡ canonical (result left)
  pub fewer : st.steps ≤ steps
  pub taken : steps - st.steps ≡ steps_in (run es).events

-- or it is refused, at one of so many rows
abbrev pub Ended : ℕ → List ℕ → List ℕ → ℕ → Exprs → Result State Refusal → Type 0
Ended steps w w' count es (Ok st) = ResultStands steps w w' es st
Ended steps w w' count es (Err r) = (r.place < count) × (cut steps (length w) (run es).events (run es).end ≡ stopped (number r.reason) r.place)

-- a refusal; or the bytes that are to be put out stand at the workspace's start
abbrev pub Evaluated : List ℕ → List ℕ → List ℕ → List ℕ → List ℕ → ℕ → List Row → Result Evaluation Refusal → Type 0
Evaluated s t w w' out steps rs (Ok e) =
    (e.length ≤ length w') × (Evaluate s t (length w) out steps ≡ put_out (take e.length w') e.steps (filled rs t) out)
Evaluated s t w w' out steps rs (Err r) = Evaluate s t (length w) out steps ≡ refusal (number r.reason) r.place (filled rs t) out
