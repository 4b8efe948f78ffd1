-- How far a stream is transformed, row after row: the arity lists around a row, and the lists that are left. Document 02, §1. Assumes nothing.
use Rattle.std.specs.Prelude.{ℕ, suc, ◌+◌, ◌-◌, ◌≤◌, ◌<◌, ◌≡◌, List, [], ◌∷◌, true, eqb}
use Rattle.spec.specs.Expr.{when◌then◌else◌}
use Rattle.spec.specs.Nodes.{Node, Nodes, tail}
use Rattle.spec.specs.Bytecode.{prefix*, is_name, Operator, Around, listed, ill_formed, Arities, nodes_deepest}
use Rattle.spec.proofs.Flat.{refusal}
use Rattle.rows.specs.Rows.{cell, kind, mark, link, next, ReferenceAt, WrittenAt, WrittenAll}
use Rattle.rows.specs.declared.forms.Form.{Form}
use Rattle.bytecode.specs.Numbers.{Aside, Unlinked}
use Rattle.bytecode.specs.Named.{Lists, Arounds}
use Rattle.bytecode.specs.Gathered.{Measured}
use Rattle.bytecode.specs.Frames.{flat, is_flat, Frame, Goal, Holds}
use Rattle.bytecode.specs.declared.scan.Scan.{Scan}

-- The arity lists around a row

-- From a list, by those around it, to another: the forms of those that are left have ended at a row. A list stands behind its form's head, whose
-- link tells where the form ends.
pub data Descends (t : List ℕ) (row : ℕ) : ℕ → Around → ℕ → Around → Type 0 where
  here : {list : ℕ} {around : Around} → Descends t row list around list around
  up : {list to : ℕ} {os : List Operator} {around out : Around} → 0 < list → link t (list - 1) ≤ row → Descends t row (link t list) around to out
      → Descends t row list (os ∷ around) to out

-- the lists around a row, the nearest first; their references stand before it, if there are any
pub record AroundAt (s t : List ℕ) (row list : ℕ) (around : Around) : Type 0 where
  pub to : ℕ
  pub arounds : Arounds s t to list around
  pub before : 1 < to → to ≤ row

-- those whose forms have ended are left, and this is the nearest of the others; 0 for none
pub record Nearest (s t t' : List ℕ) (row list : ℕ) (around : Around) (nearest : ℕ) : Type 0 where
  pub aside : Aside t t' row row
  pub out : Around
  pub descends : Descends t row list around nearest out
  pub lasts : 0 < nearest → row < link t (nearest - 1)
  pub arounds : AroundAt s t' row nearest out

-- A form

-- rows as they were read, but that forms have their heights
pub record Fresh (s t : List ℕ) (from to : ℕ) (es : Nodes) : Type 0 where
  pub written : WrittenAll s t from to es
  pub unlinked : Unlinked t from to
  pub unmarked : (r : ℕ) → from ≤ r → r < to → kind t r ≡ 4 → mark t r ≡ 0
  pub measured : Measured s t from to

-- a form headed by a reference, with these elements behind it
pub record HeadedAt (s t : List ℕ) (form : Form) (es : Nodes) : Type 0 where
  pub few : form.end ≤ 65536
  pub low : 0 < form.first
  pub head : ReferenceAt s t form.first
  pub fresh : Fresh s t (form.first + 1) form.end es

-- the lists around a form; the form of the nearest ends not before it
pub record Enclosed (s t : List ℕ) (form : Form) (list : ℕ) (around : Around) : Type 0 where
  pub lists : AroundAt s t form.first list around
  pub lasts : 0 < list → form.end ≤ link t (list - 1)

-- the flat list of a form, from a row on
abbrev pub flat_frame : Form → ℕ → List Operator → Nodes → Around → ℕ → Frame
flat_frame form first os es around list =
    record { first = first; end = form.end; elements = es; mode = flat os; around = around; list = list }

-- Lists that are left

-- its form, or that of the nearest list around it, has not ended
pub record Framed (s t : List ℕ) (f : Frame) : Type 0 where
  pub holds : Holds s t f
  pub low : is_flat f.mode ≡ true → 0 < f.first
  pub lasts : 0 < f.list → f.end ≤ link t (f.list - 1)

-- one behind the other, from row `at` on up to row `end`: each has the nearest list where it begins
unfoldable pub Stacked : List ℕ → List ℕ → ℕ → ℕ → Around → ℕ → List Frame → Type 0
Stacked s t at list around end [] = at ≡ end
Stacked s t at list around end (f ∷ fs) =
    (f.first ≡ at) × Framed s t f × Descends t at list around f.list f.around × Stacked s t f.end f.list f.around end fs

unfoldable pub Goals : List ℕ → List ℕ → List Frame → Type 0
Goals s t [] = Unit {0}
Goals s t (f ∷ fs) = Goal s t f × Goals s t fs

-- what is known where a row comes next
pub record Standing (s t : List ℕ) (scan : Scan) (end : ℕ) (fs : List Frame) : Type 0 where
  pub few : end ≤ 65536
  pub around : Around
  pub arounds : AroundAt s t scan.row scan.around around
  pub stacked : Stacked s t scan.row scan.around around end fs

-- and once the expression there is visited: what is left gives what was left
pub record Moved (s t t' : List ℕ) (scan on : Scan) (end : ℕ) (fs : List Frame) : Type 0 where
  pub further : scan.row < on.row
  pub changed : Aside t t' scan.row end
  pub frames : List Frame
  pub standing : Standing s t' on end frames
  pub goals : (u : List ℕ) → Aside t' u on.row end → Goals s u frames → Goals s u fs

-- What is done with a bytecode form. It is the form at hand where the arity list `list` is the nearest.

-- the arity list of a form headed by `prefix*` is named, and its flat list is gathered
pub record StarLeft (s t : List ℕ) (form : Form) (around : Around) (os : List Operator) (es : Nodes) : Type 0 where
  pub lists : Lists s t (form.first + 1) (next t (form.first + 1)) os
  pub holds : Holds s t (flat_frame form (next t (form.first + 1)) os es (os ∷ around) (form.first + 1))

-- by its arity list: a refusal, 0 for none
abbrev pub StarRefusal : List ℕ → List ℕ → Form → Around → Nodes → Arities → ℕ → Type 0
StarRefusal s t form around es (listed os) r =
    (r ≡ refusal form.first os (tail es)) × (r ≡ 0 → StarLeft s t form around os (tail es))
StarRefusal s t form around es ill_formed r = r ≡ 22

-- the mark of a form with this flat list, k if it is fine, and where to go on; `outer` are the lists around the form, `around` those around
-- its flat list
pub data Judged (s t : List ℕ) (form : Form) (list k : ℕ) (os : List Operator) (outer around : Around) (es : Nodes) : Scan → Type 0 where
  refused : (w : ℕ) → refusal form.first os es ≡ suc w → mark t form.first ≡ suc w → AroundAt s t form.end list outer
      → Judged s t form list k os outer around es (record { row = form.end; around = list })
  fine : (first nearest : ℕ) → refusal form.first os es ≡ 0 → mark t form.first ≡ k
      → first ≡ (when eqb k 2 then next t (form.first + 1) else form.first + 1) → form.first < first
      → Framed s t (flat_frame form first os es around nearest) → AroundAt s t first nearest around → Descends t form.end nearest around list outer
      → Judged s t form list k os outer around es (record { row = first; around = nearest })

-- that of a form headed by `prefix*`
abbrev pub Starred : List ℕ → List ℕ → Form → ℕ → Around → Nodes → Arities → Scan → Type 0
Starred s t form list around es (listed os) r = Judged s t form list 2 os around (os ∷ around) (tail es) r
Starred s t form list around es ill_formed r =
    (mark t form.first ≡ 22) × AroundAt s t form.end list around × (r ≡ record { row = form.end; around = list })

-- references in arity lists aside, only rows of the form are changed; the link of a made form's operator stays
pub record FormChanged (t t' : List ℕ) (form : Form) : Type 0 where
  pub changed : Aside t t' form.first form.end
  pub made : link t form.first ≡ form.end → link t' form.first ≡ form.end

-- The whole stream

-- a reference to `prefix*` at a row from one up to another
pub record StarAmong (s t : List ℕ) (first end : ℕ) : Type 0 where
  pub row : ℕ
  pub from : first ≤ row
  pub before : row < end
  pub node : Node
  pub written : WrittenAt s t row node
  pub is : is_name prefix* node ≡ true

-- as it is read
pub record Readable (s t : List ℕ) (rows : ℕ) : Type 0 where
  pub few : rows ≤ 65536
  pub nodes : Nodes
  pub written : WrittenAll s t 0 rows nodes
  pub shallow : nodes_deepest nodes ≤ 64
  pub bare : (r : ℕ) → r < rows → (cell t r 0 < 256) × (cell t r 1 < 65536)
