-- Laws of what is visible, as the entries of a scope show it: what a key finds against what a name finds, one entry more, and that a part of the
-- workspace elsewhere may change. And the same of the arguments.
-- Document 01: "a list of definitions that are visible at each place". Assumes nothing.
use Prim.Native.Nat.{ℕ, suc, ◌+◌, ◌-◌, ◌≤◌, ◌<◌}
use mathlib.Core.Path.{◌≡◌, refl, sym, ap, ◌∙◌}
use mathlib.Core.List.{List, [], ◌∷◌}
use mathlib.Core.Bool.{Bool, true, false}
use native.Mathlib.Omega.{arith}
use lib.ListN.{length, drop}
use lib.Dec.{eqb}
use borrow.Author.Tests.{eqb-true, eqb-false, eq-eqb, ne_eqb}
use Rattle.std.specs.Prelude.{Option, Some, None}
use Rattle.spec.specs.Expr.{when◌then◌else◌, ref, Exprs, none, more}
use Rattle.spec.specs.Nodes.{Nodes}
use Rattle.spec.specs.Plan.{Defined, value, function, Definition, Scope, Found as Sought, latest, nothing, look_up, Namespace, Arguments, Here}
use Rattle.spec.specs.Evaluation.{add_namespace, add_definition}
use Rattle.laws.proofs.Fits.{Fits}
use Rattle.rows.specs.Rows.{key_of}
use Rattle.rows.proofs.Keys.{key_small, key_test}
use Rattle.workspace.specs.Packed.{pack}
use Rattle.workspace.specs.Completed.{Stand, ArgumentsAt, Untouched}
use Rattle.workspace.proofs.Packing.{from_packed, to_packed}
use Rattle.workspace.proofs.Areas.{untouched_none, slice_below, stand_above}
use Rattle.rules.specs.Entries.{function_bit, definition, key_in, content_in}
use Rattle.rules.specs.Scope.{View, find}
use Rattle.rules.specs.Associations.{AssociationAt, Linked}
use Rattle.rules.specs.Settings.{CodeAt, EntryAt, value_at, function_at, Shows, Sees, ArgumentsOf, no_code, in_code}
use Rattle.rules.specs.declared.scope.Content.{Content}
use Rattle.rules.specs.declared.scope.Content.TheVariants.{Value, Function}
use Rattle.rules.specs.declared.here.Frame.{Frame}
use Rattle.rules.proofs.Latest.{with_definition, with_association}

-- Entries

module _ {s t w : List ℕ} {floor m n : ℕ} (fits : Fits (ref m n)) where
  pub value_entry : {vs : Exprs} (from to : ℕ) → floor ≤ from → from < to → to ≤ 65536 → Stand w from to vs
      → EntryAt s t w floor (definition (key_of m n) (pack from to)) m n (value vs)
  value_entry from to low order short stand = value_at from to fits (omega arith) (omega arith) low order short stand

  pub function_entry : {es : Nodes} (row : ℕ) → CodeAt s t row es → EntryAt s t w floor (definition (key_of m n + function_bit) row) m n (function es)
  function_entry {es} row code =
      let content : content_in (definition (key_of m n + function_bit) row) ≡ row = omega (arith, code.form.few) in
      function_at {es = es} fits (omega (arith, code.form.few)) (rw content code)

-- what a key finds in the entries, and what the name of that key finds in the definitions
pub data Answers (s t w : List ℕ) (floor : ℕ) (es : List ℕ) : Option Content → Sought → Type 0 where
  no_answer : Answers s t w floor es None nothing
  value_answer : (from to : ℕ) (vs : Exprs) (behind : Scope) → Stand w from to vs → from < to → floor ≤ from
      → Answers s t w floor es (Some (Value from to)) (latest (value vs) behind)
  function_answer : (code visible : ℕ) (body : Nodes) (behind : Scope) → CodeAt s t code body → visible ≤ length es
      → Shows s t w floor (drop (length es - visible) es) behind → Answers s t w floor es (Some (Function code visible)) (latest (function body) behind)

module _ (s t w : List ℕ) (floor : ℕ) where
  -- Shows

  pub shows_length : (es : List ℕ) (ds : Scope) → Shows s t w floor es ds → length es ≡ length ds
  unfolding Shows
  shows_length [] [] h = refl
  shows_length [] (d ∷ ds) h = absurd h
  shows_length (e ∷ es) [] h = absurd h
  shows_length (e ∷ es) (d ∷ ds) h = ap suc (shows_length es ds h.1)

  -- a definition elsewhere in the workspace, and a lower floor
  module _ {w' : List ℕ} {below floor' : ℕ} (u : Untouched w w' below floor) (less : floor' ≤ floor) where
    entry_moved : (e m n : ℕ) (c : Defined) → EntryAt s t w floor e m n c → EntryAt s t w' floor' e m n c
    entry_moved e m n (value vs) (value_at from to f k p low order short stand) = value_at from to f k p (omega arith) order short (stand_above u low stand)
    entry_moved e m n (function body) (function_at f k code) = function_at f k code

    shows_moved : (es : List ℕ) (ds : Scope) → Shows s t w floor es ds → Shows s t w' floor' es ds
    unfolding Shows
    shows_moved [] [] h = tt
    shows_moved [] (d ∷ ds) h = absurd h
    shows_moved (e ∷ es) [] h = absurd h
    shows_moved (e ∷ es) (d ∷ ds) h = (entry_moved e d.marker d.name d.content h.0, shows_moved es ds h.1)

  pub shows_kept : {w' : List ℕ} {below : ℕ} → Untouched w w' below floor → (es : List ℕ) (ds : Scope)
      → Shows s t w floor es ds → Shows s t w' floor es ds
  shows_kept u = shows_moved u (omega arith)

  -- What a key finds

  entry_fits : (e m n : ℕ) (c : Defined) → EntryAt s t w floor e m n c → Fits (ref m n)
  entry_fits e m n (value vs) (value_at from to f k p low order short stand) = f
  entry_fits e m n (function body) (function_at f k code) = f

  module _ (m n : ℕ) (fits : Fits (ref m n)) where
    abbrev key : ℕ
    key = key_of m n

    answers_more : (e : ℕ) (es : List ℕ) {f : Option Content} {g : Sought} → Answers s t w floor es f g → Answers s t w floor (e ∷ es) f g
    answers_more e es no_answer = no_answer
    answers_more e es (value_answer from to vs behind stand order low) = value_answer from to vs behind stand order low
    answers_more e es (function_answer code visible body behind at h sh) =
        let one : suc (length es) - visible ≡ suc (length es - visible) = omega arith in
        function_answer code visible body behind at (omega (arith, h)) (rw one sh)

    -- the latest definition is of the key, or it isn't
    answers_next : (e : ℕ) (es : List ℕ) (ds : Scope) (k l : ℕ) (c : Defined) (b : Bool) → eqb (key_of k l) key ≡ b → EntryAt s t w floor e k l c
        → Shows s t w floor es ds → Answers s t w floor (e ∷ es) (find key es) (look_up m n ds)
        → Answers s t w floor (e ∷ es) (find key (e ∷ es)) (when b then latest c ds else look_up m n ds)
    unfolding find
    answers_next e es ds k l (value vs) true q (value_at from to f is p low order short stand) sh rest =
        rw (eq-eqb (key_in e) key (is ∙ eqb-true _ _ q), p, from_packed from to order short, to_packed from to order short) (value_answer from to vs ds stand order low)
    answers_next e es ds k l (function body) true q (function_at f is code) sh rest =
        let one : suc (length es) - length es ≡ 1 = omega arith in
        let same = eqb-true (key_of k l) key q in
        rw (ne_eqb (key_in e) key (λ h. omega arith), eq-eqb (key_in e) (key + function_bit) (omega arith))
        (function_answer (content_in e) (length es) body ds code (omega arith) (rw one sh))
    answers_next e es ds k l (value vs) false q (value_at from to f is p low order short stand) sh rest =
        rw (ne_eqb (key_in e) key (λ h. eqb-false _ _ q (sym is ∙ h)), ne_eqb (key_in e) (key + function_bit) (λ h. omega (arith, key_small k l f.1 f.2))) rest
    answers_next e es ds k l (function body) false q (function_at f is code) sh rest =
        let other = eqb-false (key_of k l) key q in
        rw (ne_eqb (key_in e) key (λ h. omega (arith, key_small m n fits.1 fits.2)), ne_eqb (key_in e) (key + function_bit) (λ h. other (omega arith))) rest

    pub answers : (es : List ℕ) (ds : Scope) → Shows s t w floor es ds → Answers s t w floor es (find key es) (look_up m n ds)
    unfolding Shows find look_up
    answers [] [] sh = no_answer
    answers [] (d ∷ ds) sh = absurd sh
    answers (e ∷ es) [] sh = absurd sh
    answers (e ∷ es) (d ∷ ds) sh =
        let test = key_test d.marker d.name m n (entry_fits e d.marker d.name d.content sh.0).2 fits.2 in
        rw (← test) (answers_next e es ds d.marker d.name d.content _ refl sh.0 sh.1 (answers_more e es (answers es ds sh.1)))

-- Sees

module _ {s t w : List ℕ} {floor : ℕ} {v : View} {h : Here} (sees : Sees s t w floor v h) where
  -- the same associations, and these definitions
  sees_with : {w' : List ℕ} {floor' : ℕ} → Shows s t w' floor' v.definitions h.scope → Sees s t w' floor' v h
  sees_with sh = record { definitions = sh; few = sees.few; associations = sees.associations; most = sees.most }

  pub sees_kept : {w' : List ℕ} {below : ℕ} → Untouched w w' below floor → Sees s t w' floor v h
  sees_kept u = sees_with (shows_kept s t w floor u v.definitions h.scope sees.definitions)

  pub sees_lower : (floor' : ℕ) → floor' ≤ floor → Sees s t w floor' v h
  sees_lower floor' less = sees_with (shows_moved s t w floor (untouched_none w 0 floor) less v.definitions h.scope sees.definitions)

  pub sees_defined : (e : ℕ) (d : Definition) → EntryAt s t w floor e d.marker d.name d.content → length v.definitions < 256
      → Sees s t w floor (with_definition e v) (add_definition d h)
  unfolding Shows
  sees_defined e d at room = record { definitions = (at, sees.definitions); few = omega arith; associations = sees.associations; most = sees.most }

  pub sees_associated : (e : ℕ) (k : Namespace) → AssociationAt s e k → length v.associations < 64
      → Sees s t w floor (with_association e v) (add_namespace k h)
  unfolding Linked
  sees_associated e k at room = record { definitions = sees.definitions; few = sees.few; associations = (at, sees.associations); most = omega arith }

-- Arguments

module _ {w w' : List ℕ} {top from : ℕ} (u : Untouched w w' top from) (args : List ℕ) where
  each_kept : (i a b : ℕ) (vs : Exprs) → b ≤ top → ArgumentsAt w args i a b vs → ArgumentsAt w' args i a b vs
  unfolding ArgumentsAt
  each_kept i a b none h x = x
  each_kept i a b (more v vs) h x =
      (x.0, x.1, x.2, slice_below u a x.0 (omega (arith, x.2)) ∙ x.3, x.4, each_kept (i + 1) x.0 b vs h x.5)

  pub arguments_kept : (frame : Frame) (top' : ℕ) (xs : Arguments) → ArgumentsOf w args frame top xs → top ≤ top' → ArgumentsOf w' args frame top' xs
  arguments_kept frame top' xs (no_code h) up = no_code h
  arguments_kept frame top' xs (in_code a h size below inside short at) up =
      in_code a h size (omega arith) (omega (arith, u.size)) (omega (arith, u.size)) (each_kept 0 a frame.end _ below at)
