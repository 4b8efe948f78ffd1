-- Laws of the evaluation of a whole stream: how its first expression is looked at, how it stands in the table, how its run begins and ends, and
-- what is answered. Document 01: "The stream must begin with exactly the six bytes", "Result". Assumes nothing.
use Prim.Native.Nat.{ℕ, ◌+◌, ◌-◌, ◌*◌, ◌/◌, ◌≤◌, ◌<◌, min}
use mathlib.Core.Path.{◌≡◌, refl, sym, ap, ◌∙◌}
use mathlib.Core.List.{List, [], ◌∷◌, ◌++◌}
use mathlib.Core.Bool.{Bool, true, false, not}
use lib.ListN.{length, take, drop, length-append, length-take, take-append-drop}
use lib.Seq.{take-append-le}
use borrow.Author.Tests.{not-false}
use native.Mathlib.Decide.{dec_lt}
use native.Mathlib.Omega.{arith}
use Rattle.std.specs.Prelude.{Result, Ok, Err}
use Rattle.spec.specs.Expr.{when◌then◌else◌, same, int, ref, Expr, atom, form, Exprs, none, more, rows, rows_all, depth, deepest, marker_bytes, canonical}
use Rattle.spec.specs.Reading.{Row, row_width, readable}
use Rattle.spec.specs.Nodes.{core, version, Node, Nodes, empty, number, number_all, elements, markers_all}
use Rattle.spec.specs.Bytecode.{node_depth, nodes_deepest, transform_all}
use Rattle.spec.specs.Runs.{End, give, Held, reached, ceased, hold_events, hold, forget, cut, steps_in}
use Rattle.spec.specs.Evaluation.{Left, run_code, start, run, result}
use Rattle.spec.specs.Calls.{filled, reading, is_versioned, version_bytes, refusal, end_answer, Evaluate}
use Rattle.spec.proofs.Unchanged.{UnnamedAll, transform_all_unnamed}
use Rattle.laws.specs.Demands.{Bytes, Lent}
use Rattle.laws.specs.Holding.{and_hold, in_list}
use Rattle.laws.specs.Grammar.{Spells}
use Rattle.laws.proofs.Basics.{impossible}
use Rattle.laws.proofs.Reading.{read_readable, read_first, Meant, meant}
use Rattle.laws.proofs.Values.{stream_fits, run_proper}
use Rattle.laws.proofs.Holding.{hold_bind, hold_reached, hold_ceased_row, hold_run}
use Rattle.laws.proofs.Calls.{unversioned, wrong_version, runs, evaluation_answered, rows_fit, filled_length}
use Rattle.atoms.specs.Refusals.{number as number_of, refused}
use Rattle.atoms.specs.declared.refusal.Reason.{Reason}
use Rattle.atoms.specs.declared.refusal.Refusal.{Refusal}
use Rattle.rows.specs.Rows.{cell, start as start_of, next, WrittenAt, WrittenAll, NodeAt, NodesAt}
use Rattle.rows.specs.Forms.{leads, IsElement, an_atom}
use Rattle.rows.specs.declared.forms.Node.TheVariants.{Leaf}
use Rattle.rows.proofs.Nodes.{written_whole, nodes_first}
use Rattle.rows.proofs.Written.{written_each}
use Rattle.rows.proofs.Filled.{filled_starts, filled_written, filled_plain, filled_nodes}
use Rattle.rows.proofs.Same.{same_equal}
use Rattle.workspace.specs.declared.values.State.{State}
use Rattle.bytecode.specs.Scanned.{Readable}
use Rattle.rules.specs.Scope.{latest, view}
use Rattle.rules.specs.Associations.{Linked}
use Rattle.rules.specs.Settings.{at_top_level, Shows, no_code, of_top}
use Rattle.rules.specs.declared.here.Here.{Here as Seen}
use Rattle.evaluator.specs.Listed.{Ready, Met}
use Rattle.evaluator.specs.Evaluated.{HasRead, Arranged, ResultStands, Ended, Evaluated}

-- The first expression

first_versioned : (e : Expr) (es : Exprs) → leads version (elements (number 0 e)) ≡ is_versioned (more e es)
unfolding number
first_versioned (atom a) es = refl
first_versioned (form none) es = refl
first_versioned (form (more (atom a) fs)) es = refl
first_versioned (form (more (form gs) fs)) es = refl

module _ (s u : List ℕ) (n : ℕ) where
  pub versioned_none : (es : Exprs) → NodesAt s u false 0 n (number_all 0 es) → n ≡ 0 → false ≡ is_versioned es
  unfolding number
  versioned_none none at h = refl
  versioned_none (more e es) at h = absurd (omega (arith, (nodes_first s u false 0 n (number 0 e) (number_all (0 + rows e) es) at).0))

  versioned_first : (es : Exprs) → NodesAt s u false 0 n (number_all 0 es) → 0 < n
      → (head : Node) × NodeAt s u false 0 head × (leads version (elements head) ≡ is_versioned es)
  unfolding number NodeAt
  versioned_first none at h = absurd (omega (arith, at))
  versioned_first (more e es) at h = (number 0 e, (nodes_first s u false 0 n (number 0 e) (number_all (0 + rows e) es) at).1, first_versioned e es)

pub versioned_leaf : {s u : List ℕ} {r : ℕ} {e : Node} → IsElement s u r Leaf e → false ≡ leads version (elements e)
versioned_leaf (an_atom a l) = refl

-- The version form

abbrev pub version_form : Expr
version_form = form (more (atom (ref core version)) (more (atom (int 1)) (more (atom (int 0)) none)))

version_spelled : Spells version_form version_bytes
unfolding marker_bytes
version_spelled = (
  0x20 ∷ 0x00 ∷ 0x81 ∷ 0x80 ∷ [],
  refl,
  (
    0x20 ∷ 0x00 ∷ [],
    0x81 ∷ 0x80 ∷ [],
    refl,
    (omega arith, omega arith, refl),
    (0x81 ∷ [], 0x80 ∷ [], refl, (omega arith, refl), (0x80 ∷ [], [], refl, (omega arith, refl), refl)),
  ),
)

-- a stream that begins with its bytes begins with it
pub version_read : (s t : List ℕ) (rs : List Row) (es : Exprs) → Bytes s → same (take 6 s) version_bytes ≡ true → reading s t ≡ readable rs es
    → (fs : Exprs) × (es ≡ more version_form fs)
version_read s t rs es b v h =
    let begins : s ≡ version_bytes ++ drop 6 s = sym (take-append-drop 6 s) ∙ ap (λ (x : List ℕ). x ++ drop 6 s) (same_equal (take 6 s) version_bytes v) in
    read_first version_form version_bytes (drop 6 s) version_spelled (rw begins at b) (length t / row_width) rs es (rw begins at h)

version_versioned : (s t : List ℕ) (rs : List Row) (es : Exprs) → Bytes s → same (take 6 s) version_bytes ≡ true → reading s t ≡ readable rs es
    → is_versioned es ≡ true
version_versioned s t rs es b v h = rw (version_read s t rs es b v h).1

-- its rows are the first four; none is `prefix*`
module _ (s u : List ℕ) (n : ℕ) (fs : Exprs) where
  version_rows : WrittenAll s u 0 n (number_all 0 (more version_form fs)) → WrittenAll s u 4 n (number_all 4 fs)
  unfolding number rows WrittenAt
  version_rows w =
      let inner = w.2.2 in
      let second = inner.3 in
      let third = second.3 in
      let one = inner.2.1.on in
      let two : next u 2 ≡ 3 = rw one at second.2.1.on in
      let three : next u 3 ≡ 4 = rw (one, two) at third.2.1.on in
      let ends : next u 0 ≡ 4 = sym (rw (one, two, three) at third.3) in
      rw ends at w.3

  version_unnamed : UnnamedAll (number_all 4 fs) → transform_all (number_all 0 (more version_form fs)) ≡ number_all 0 (more version_form fs)
  unfolding number rows
  version_unnamed u = transform_all_unnamed (number_all 0 (more version_form fs)) ((refl, (refl, (refl, tt))), u)

-- A stream that was read

-- before the first expression
abbrev first_state : ℕ → List ℕ → State
first_state steps w = record { steps = steps; room = length w; top = 0; floor = length w }

-- there is one way to read it
pub read_once : {s u : List ℕ} {n : ℕ} (has : HasRead s u n) (t : List ℕ) (rs : List Row) (es : Exprs) → reading s t ≡ readable rs es
    → (rs ≡ has.rows) × (es ≡ has.means)
read_once {s} has t rs es q =
    let a = read_readable s (length t / row_width) rs es q in
    let b = read_readable s (length has.before / row_width) has.rows has.means has.is in
    (a.rows_are ∙ sym b.rows_are, a.means ∙ sym b.means)

-- as many forms are one inside another
mutual
  unfolding number depth node_depth

  node_deep : (r : ℕ) (e : Expr) → node_depth (number r e) ≡ depth e
  node_deep r (atom a) = refl
  node_deep r (form es) = omega (arith, nodes_deep (r + 1) es)

  nodes_deep : (r : ℕ) (es : Exprs) → nodes_deepest (number_all r es) ≡ deepest es
  nodes_deep r none = refl
  nodes_deep r (more e es) = omega (arith, node_deep r e, nodes_deep (r + rows e) es)

module _ (s u : List ℕ) (n : ℕ) (b : Bytes s) (has : HasRead s u n) where
  abbrev es : Exprs
  es = has.means

  known : Meant s (length has.before / row_width) has.rows es
  known = meant s (length has.before / row_width) has.rows es b has.is

  pub stream_written : WrittenAll s u 0 n (number_all 0 es)
  stream_written = rw (← has.counted, ← has.filled_in) at (filled_written s has.before (length has.before / row_width) has.rows es b has.is)

  pub stream_nodes : NodesAt s u false 0 n (number_all 0 es)
  stream_nodes = rw (← has.counted, ← has.filled_in) at (filled_nodes s has.before (length has.before / row_width) has.rows es b has.is)

  -- its first expression
  pub stream_first : 0 < n → (head : Node) × NodeAt s u false 0 head × (leads version (elements head) ≡ is_versioned es)
  stream_first h = versioned_first s u n es stream_nodes h

  pub stream_plain : (r : ℕ) → r < n → (cell u r 0 < 256) × (cell u r 1 < 65536)
  stream_plain = rw (← has.counted, ← has.filled_in) at (filled_plain s has.before (length has.before / row_width) has.rows es b has.is)

  pub stream_room : row_width * n ≤ length u
  stream_room =
      rw (has.filled_in, has.counted, filled_length s has.before has.rows es has.is) (rows_fit s has.before has.rows es has.is)

  stream_few : n ≤ 65536
  stream_few =
      elim (dec_lt 0 n) [
        | yes some ↦ (let e = written_each s u 0 n (number_all 0 es) stream_written (n - 1) (omega arith) (omega arith) in
            omega (arith, (written_whole s u (n - 1) e.0 e.1).1))
        | no h ↦ omega arith
      ]

  pub stream_readable : Readable s u n
  stream_readable = record {
    few = stream_few;
    nodes = number_all 0 es;
    written = stream_written;
    shallow = omega (arith, nodes_deep 0 es, known.shallow);
    bare = stream_plain;
  }

  -- without bytecode it stands as it is evaluated
  arranged : {u' : List ℕ} → NodesAt s u' false 0 n (transform_all (number_all 0 es)) → Arranged s u' n es
  arranged nodes = record { nodes = nodes; counted = omega (arith, has.counted, known.counted); fits = known.fits }

  pub stream_transformed : {u' : List ℕ} → ((ns : Nodes) → WrittenAll s u 0 n ns → NodesAt s u' false 0 n (transform_all ns)) → Arranged s u' n es
  stream_transformed all = arranged (all (number_all 0 es) stream_written)

  module _ (v : same (take 6 s) version_bytes ≡ true) where
    abbrev first : (fs : Exprs) × (es ≡ more version_form fs)
    first = version_read s has.before has.rows es b v has.is

    pub behind_version : WrittenAll s u 4 n (number_all 4 first.0)
    behind_version = version_rows s u n first.0 (rw first.1 at stream_written)

    pub stream_unnamed : ((ns : Nodes) → WrittenAll s u 4 n ns → UnnamedAll ns) → Arranged s u n es
    stream_unnamed h =
        let same_nodes : transform_all (number_all 0 es) ≡ number_all 0 es =
        rw first.1 (version_unnamed s u n first.0 (h (number_all 4 first.0) behind_version)) in
        arranged (rw same_nodes stream_nodes)

-- Its run

module _ (s u : List ℕ) (n : ℕ) (es : Exprs) (at : Arranged s u n es) where
  abbrev all_nodes : Nodes
  all_nodes = transform_all (number_all 0 es)

  -- there is no definition, no association and no value yet
  pub stream_ready : (w args associations definitions : List ℕ) (steps : ℕ) (top : Seen) → top ≡ at_top_level → length w ≤ 65536
      → Ready s u n 32 w args (view associations definitions top.scope) (first_state steps w) top false 0 n all_nodes start
  unfolding latest Shows Linked NodeAt markers_all
  stream_ready w args associations definitions steps top e short = rw e (record {
    nodes = at.nodes;
    inside = λ z. impossible (cc);
    setting = record {
      sees = record { definitions = tt; few = omega arith; associations = tt; most = omega arith };
      arguments = no_code refl;
      element_of = of_top empty refl (λ m. refl);
    };
    fitting = record { paid = omega arith; below = omega arith; short = short };
    fit = stream_fits n es (omega (arith, at.counted)) at.fits;
    sound = (tt, tt);
    single = tt;
    entered = refl;
  })

  module _ (steps : ℕ) (w w' : List ℕ) where
    abbrev held : Held Left
    held = hold steps (length w) (in_list (run_code 32) all_nodes start)

    -- the run's own result, and the values of the list
    run_held : {x : Held Left} → held ≡ x
        → and_hold (hold steps (length w) (run es)) (λ ls a c. reached (result ls) a c) ≡ and_hold x (λ left a c. reached left.values a c)
    unfolding hold_events
    run_held q =
        sym (hold_bind steps (length w) (run es) (λ ls. give (result ls)))
        ∙ hold_run es steps (length w)
        ∙ ap (λ (y : Held Left). and_hold y (λ left a c. reached left.values a c)) q

    pub stream_ended : (out : Result State Refusal) → Met w w' (first_state steps w) held out → Ended steps w w' n es out
    stream_ended = go (hold steps (length w) (run es)) refl
      where
        go : (x : Held (List Exprs)) → hold steps (length w) (run es) ≡ x → (out : Result State Refusal) → Met w w' (first_state steps w) held out
            → Ended steps w w' n es out
        go (reached ls a c) e (Ok st) over =
            let q : reached (result ls) a c ≡ reached over.left.values st.steps st.room = rw e at (run_held over.is) in
            let values : result ls ≡ over.left.values = cc in
            let left : a ≡ st.steps = cc in
            let k = hold_reached steps (length w) (run es) ls a c e in
            record {
              left = ls;
              is = ap forget e;
              inside = over.stand.inside;
              bytes = over.stand.bytes ∙ ap canonical (sym values);
              fewer = omega (arith, k.1, left);
              taken = omega (arith, k.1, left);
            }
        go (ceased x y) e (Ok st) over = impossible (cc (run_held over.is))
        go (reached ls a c) e (Err r) is = impossible (cc (run_held is))
        go (ceased x y) e (Err r) is =
            let stops : hold steps (length w) (run es) ≡ ceased (number_of r.reason) r.place = cc (run_held is) in
            let low = hold_ceased_row (rows_all es) steps (length w) (run es) (number_of r.reason) r.place (run_proper es at.fits) stops in
            (omega (arith, low, at.counted), ap forget stops)

-- What is answered

module _ (s t w out : List ℕ) (steps : ℕ) (rs : List Row) (es : Exprs) (reads : reading s t ≡ readable rs es) where
  abbrev lent : Lent
  lent = record { table = t; work = length w; output = out; steps = steps }

  -- a refusal says nothing of the workspace
  pub answer_version : not (same (take 6 s) version_bytes) ≡ true → (reason : Reason) → number_of reason ≡ (when is_versioned es then 10 else 9)
      → Evaluated s t w w out steps rs (Err (refused reason 0))
  answer_version h reason q = rw q (go (is_versioned es) refl)
    where
      go : (v : Bool) → is_versioned es ≡ v → Evaluate s t (length w) out steps ≡ refusal (when v then 10 else 9) 0 (filled rs t) out
      go true v = evaluation_answered s lent (wrong_version rs es reads (ap not v) h)
      go false v = evaluation_answered s lent (unversioned rs es reads (ap not v))

  -- the run had the first bytes of the workspace, so many as count
  module _ (b : Bytes s) (h : not (same (take 6 s) version_bytes) ≡ false) (size : ℕ) (is : size ≡ min (length w) 65536) where
    ends : {e : End (List Exprs)} → cut steps (length (take size w)) (run es).events (run es).end ≡ e
        → Evaluate s t (length w) out steps ≡ end_answer rs (steps_in (run es).events) (filled rs t) out e
    ends q =
        let counts : min (length w) 65536 ≡ length (take size w) = omega (arith, is, length-take size w) in
        let v = ap not (version_versioned s t rs es b (not-false _ h) reads) in
        evaluation_answered s lent (runs rs es reads v h)
        ∙ ap (end_answer rs (steps_in (run es).events) (filled rs t) out)
        (ap (λ (k : ℕ). cut steps k (run es).events (run es).end) counts ∙ q)

    -- it left them as w'
    pub answer_done : (w' : List ℕ) (st : State) → ResultStands steps (take size w) w' es st
        → Evaluated s t w (w' ++ drop size w) out steps rs (Ok (record { length = st.top; steps = steps - st.steps }))
    answer_done w' st f = (
      omega (arith, length-append w' (drop size w), f.inside),
      rw (take-append-le st.top w' (drop size w) f.inside, f.bytes, f.taken) (ends f.is),
    )

    pub answer_stopped : (count : ℕ) → count ≡ length rs → (r : Refusal) (p : ℕ) → Ended steps (take size w) w count es (Err r) → p ≡ start_of (filled rs t) r.place
        → Evaluated s t w w out steps rs (Err (refused r.reason p))
    answer_stopped count k r p e q = rw (q, filled_starts s t (length t / row_width) rs es b reads r.place (omega (arith, e.0, k))) (ends e.1)
