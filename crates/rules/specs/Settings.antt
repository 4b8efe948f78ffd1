-- Where an expression is evaluated, by the code: what is visible, what list it is in, which code is in progress; and what that is in `Plan` of the
-- crate `spec`. Document 01: "a list of definitions that are visible at each place", "Each belongs to the nearest enclosing code." Assumes nothing.
use Rattle.std.specs.Prelude.{ℕ, ◌+◌, ◌≤◌, ◌<◌, ◌≡◌, List, [], ◌∷◌, false, length, eqb}
use Rattle.spec.specs.Expr.{some, ref, Exprs, size}
use Rattle.spec.specs.Nodes.{Node, Nodes, cons, markers_all}
use Rattle.spec.specs.Plan.{Defined, value, function, Scope as Definitions, Within as Among, top, element, inner, Arguments, outside, passed, Here as Known}
use Rattle.laws.proofs.Fits.{Fits}
use Rattle.rows.specs.Rows.{next, RowAt, NodesAt, key_of}
use Rattle.workspace.specs.Packed.{pack}
use Rattle.workspace.specs.Completed.{Stand, ArgumentsAt}
use Rattle.workspace.specs.declared.values.State.{State}
use Rattle.rules.specs.Entries.{function_bit, key_in, content_in}
use Rattle.rules.specs.Scope.{View}
use Rattle.rules.specs.Associations.{Linked}
use Rattle.rules.specs.declared.scope.Scope.{Scope}
use Rattle.rules.specs.declared.here.Within.{Within}
use Rattle.rules.specs.declared.here.Within.TheVariants.{Top, Element, Inner}
use Rattle.rules.specs.declared.here.Frame.{Frame}
use Rattle.rules.specs.declared.here.Here.{Here}

-- The code's own

-- before the first expression
abbrev pub at_top_level : Here
at_top_level = record { scope = record { defined = 0; associated = 0 }; within = Top; frame = record { depth = 0; count = 0; end = 0 } }

-- in another list
abbrev pub in_list_of : Within → Here → Here
in_list_of within at = record { scope = at.scope; within = within; frame = at.frame }

-- with another scope
abbrev pub showing : Scope → Here → Here
showing scope at = record { scope = scope; within = at.within; frame = at.frame }

-- in a code that sees so much, and has so many arguments, which end there
abbrev pub in_code_of : Scope → ℕ → ℕ → Here → Here
in_code_of scope count end at = record { scope = scope; within = Inner; frame = record { depth = at.frame.depth + 1; count = count; end = end } }

-- What it shows

-- a function's code: what follows the head of the form at a row
pub record CodeAt (s t : List ℕ) (row : ℕ) (es : Nodes) : Type 0 where
  pub form : RowAt s t row 1
  pub head : Node
  pub elements : NodesAt s t false (row + 1) (next t row) (cons head es)

-- what the scope holds of a definition: the part of the workspace, from `floor` on, where its value stands; or the row of its code
pub data EntryAt (s t w : List ℕ) (floor e m n : ℕ) : Defined → Type 0 where
  value_at : {vs : Exprs} (from to : ℕ) → Fits (ref m n) → key_in e ≡ key_of m n → content_in e ≡ pack from to → floor ≤ from → from < to → to ≤ 65536 → Stand w from to vs
      → EntryAt s t w floor e m n (value vs)
  function_at : {es : Nodes} → Fits (ref m n) → key_in e ≡ key_of m n + function_bit → CodeAt s t (content_in e) es → EntryAt s t w floor e m n (function es)

-- the visible definitions
unfoldable pub Shows : List ℕ → List ℕ → List ℕ → ℕ → List ℕ → Definitions → Type 0
Shows s t w floor [] [] = Unit {0}
Shows s t w floor [] (d ∷ ds) = ⊥
Shows s t w floor (e ∷ es) [] = ⊥
Shows s t w floor (e ∷ es) (d ∷ ds) = EntryAt s t w floor e d.marker d.name d.content × Shows s t w floor es ds

-- the visible definitions and associations, within the limits of document 01
pub record Sees (s t w : List ℕ) (floor : ℕ) (v : View) (h : Known) : Type 0 where
  pub definitions : Shows s t w floor v.definitions h.scope
  pub few : length v.definitions ≤ 256
  pub associations : Linked s v.associations h.namespaces
  pub most : length v.associations ≤ 64

-- the arguments of the nearest code, which stand below `top`
pub data ArgumentsOf (w args : List ℕ) (frame : Frame) (top : ℕ) : Arguments → Type 0 where
  no_code : frame.depth ≡ 0 → ArgumentsOf w args frame top outside
  in_code : {vs : Exprs} (from : ℕ) → 0 < frame.depth → frame.count ≡ size vs → frame.end ≤ top → frame.end ≤ length w → length w ≤ 65536
      → ArgumentsAt w args 0 from frame.end vs → ArgumentsOf w args frame top (passed vs)

-- what list the expression at a row belongs to; at the top level, what stands before it
pub data ElementOf (s t : List ℕ) (row : ℕ) : Within → Among → Type 0 where
  of_top : {earlier : List ℕ} (es : Nodes) → NodesAt s t false 0 row es → ((m : ℕ) → some (eqb m) earlier ≡ some (eqb m) (markers_all es))
      → ElementOf s t row Top (top earlier)
  of_data : ElementOf s t row Element element
  of_other : ElementOf s t row Inner inner

-- what is known where the expression at a row is evaluated
pub record Setting (s t w args : List ℕ) (st : State) (v : View) (at : Here) (row : ℕ) (h : Known) : Type 0 where
  pub sees : Sees s t w st.floor v h
  pub arguments : ArgumentsOf w args at.frame st.top h.arguments
  pub element_of : ElementOf s t row at.within h.within
