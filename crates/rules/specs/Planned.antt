-- What the planner answers, against `Plan` of the crate `spec`. Document 01: the rules of "Evaluation". Assumes nothing.
use Rattle.std.specs.Prelude.{ℕ, ◌+◌, ◌-◌, ◌≤◌, ◌<◌, ◌≡◌, List, Bool, true, false, length, drop, Result, Ok, Err}
use Rattle.spec.specs.Expr.{Atom, ref, atom, form, Exprs, only}
use Rattle.spec.specs.Nodes.{rest, Node, leaf, branch, bytecode, Nodes, empty, cons, Outcome, fails, becomes, unnumbered_all, row, elements, headed_by}
use Rattle.spec.specs.Plan.{function, Scope as Definitions, Namespace, Within, element, inner, Arguments, Here as Known, Finish, as_form, as_definition, as_concat, as_call, Plan, refuse, leave, associate, define_function, inside, plan_arg, plan_rest, plan}
use Rattle.laws.specs.Holding.{skip}
use Rattle.laws.proofs.Fits.{Fits}
use Rattle.atoms.specs.Refusals.{number}
use Rattle.atoms.specs.declared.refusal.Reason.{Reason}
use Rattle.rows.specs.Rows.{LeafAt, RowsAt, NodesAt, ResultAt, key_of}
use Rattle.rows.specs.declared.forms.Form.{Form}
use Rattle.workspace.specs.Completed.{Stand, Atoms}
use Rattle.workspace.specs.declared.values.State.{State}
use Rattle.rules.specs.Entries.{function_bit, association}
use Rattle.rules.specs.Scope.{View}
use Rattle.rules.specs.Associations.{AssociationAt}
use Rattle.rules.specs.Settings.{CodeAt, Shows, Setting}
use Rattle.rules.specs.declared.scope.Scope.{Scope}
use Rattle.rules.specs.declared.here.Within.{Within as Among}
use Rattle.rules.specs.declared.here.Within.TheVariants.{Element, Inner}
use Rattle.rules.specs.declared.here.Here.{Here}
use Rattle.rules.specs.declared.plan.Making.{Making}
use Rattle.rules.specs.declared.plan.Making.TheVariants.{Form as Wrap, Define, Concat}
use Rattle.rules.specs.declared.plan.After.{After}
use Rattle.rules.specs.declared.plan.After.TheVariants.{Make, Function as Named, Code}
use Rattle.rules.specs.declared.plan.Task.{Task}
use Rattle.rules.specs.declared.plan.Task.TheVariants.{Own, Again, Ns, Function, Failed, Unfold, Inside}

-- what list the values are of that are made into others
abbrev pub within_made : Making → Among
within_made Wrap = Element
within_made (Define key) = Inner
within_made Concat = Inner

-- and those of whatever becomes of them
abbrev pub within_of : After → Among
within_of (Make m) = within_made m
within_of (Named code visible) = Inner
within_of (Code first end) = Inner

-- the rule of rest, or of arg, with an n
abbrev pub passing : Bool → ℕ → Arguments → Plan
passing true n xs = plan_rest n xs
passing false n xs = plan_arg n xs

-- the rule for the n of an arg or a rest form, if it has one
abbrev pub by_number : Result ℕ Reason → (ℕ → Plan) → Plan
by_number (Ok n) rule = rule n
by_number (Err r) rule = refuse (number r)

-- the elements of a define: its head, its reference, and a value that is no `rest` form
pub data OneMore : Nodes → Type 0 where
  one_more : (h a v : Node) → headed_by rest v ≡ false → OneMore (cons h (cons a (cons v empty)))

-- the elements of a concat: its head, and two operands that are no `rest` forms
pub data TwoMore : Nodes → Type 0 where
  two_more : (h a b : Node) → headed_by rest a ≡ false → headed_by rest b ≡ false → TwoMore (cons h (cons a (cons b empty)))

-- A call of a code that sees the definitions `behind`: of a function that is defined, or of a code that is written in the call. It sees some of the
-- definitions that are visible, or all.
pub data Called (s t w : List ℕ) (floor : ℕ) (v : View) (sc : Scope) : After → Nodes → Definitions → Type 0 where
  calls_function : (code visible : ℕ) (body : Nodes) (behind : Definitions) → CodeAt s t code body → visible ≤ sc.defined
      → Shows s t w floor (drop (sc.defined - visible) v.definitions) behind → Called s t w floor v sc (Named code visible) body behind
  calls_code : (first end : ℕ) (body : Nodes) (behind : Definitions) → NodesAt s t false first end body → Shows s t w floor v.definitions behind
      → Called s t w floor v sc (Code first end) body behind

-- what becomes of the values of a form's elements es
pub data Finishes (s t w : List ℕ) (floor : ℕ) (v : View) (sc : Scope) (es : Nodes) : After → ℕ → Within → Finish → Type 0 where
  form_finishes : Finishes s t w floor v sc es (Make Wrap) 0 element as_form
  define_finishes : (m n : ℕ) → Fits (ref m n) → length v.definitions < 256 → OneMore es
      → Finishes s t w floor v sc es (Make (Define (key_of m n))) 2 inner (as_definition m n)
  concat_finishes : TwoMore es → Finishes s t w floor v sc es (Make Concat) 1 inner as_concat
  call_finishes : (after : After) (body : Nodes) (behind : Definitions) → Called s t w floor v sc after body behind
      → Finishes s t w floor v sc es after 1 inner (as_call body behind)

-- the answer for an expression, which is at row r if it is an atom
pub data Planned (s t w : List ℕ) (floor : ℕ) (v : View) (sc : Scope) (r : ℕ) (e : Node) : Result Task Reason → Plan → Type 0 where
  refuses : (n : Reason) → Planned s t w floor v sc r e (Err n) (refuse (number n))
  owns : (a : Atom) → LeafAt s t r a → Planned s t w floor v sc r e (Ok Own) (leave (only (atom a)))
  repeats : (from to : ℕ) (vs : Exprs) → Stand w from to vs → Planned s t w floor v sc r e (Ok (Again from to)) (leave vs)
  associates : (f : Form) (es : Nodes) (marker id : ℕ) (k : Namespace) → NodesAt s t false f.first f.end es → Atoms es
      → AssociationAt s (association marker id) k → length v.associations < 64 → Planned s t w floor v sc r e (Ok (Ns f marker id)) (associate (only (form (unnumbered_all es))) k)
  defines : (m n code : ℕ) (body : Nodes) → Fits (ref m n) → length v.definitions < 256 → CodeAt s t code body
      → Planned s t w floor v sc r e (Ok (Function (key_of m n + function_bit) code)) (define_function (record { marker = m; name = n; content = function body }))
  goes_inside : (f : Form) (k : ℕ) (p : Within) (g : Finish) (after : After) → NodesAt s t f.flat f.first f.end (skip k (elements e))
      → Finishes s t w floor v sc (elements e) after k p g → Planned s t w floor v sc r e (Ok (Inside f after)) (inside k p g)

-- something is evaluated there, at the place of a row
pub record Planning (s t args : List ℕ) (v : View) (at : Here) (place : ℕ) : Type 0 where
  pub work : List ℕ
  pub state : State
  pub here : Known
  pub setting : Setting s t work args state v at place here

-- an answer is right for the expression e, which is at row r if it is an atom, by a rule, wherever it is evaluated
abbrev pub Answers : List ℕ → List ℕ → List ℕ → View → Here → ℕ → Node → (Known → Plan) → Result Task Reason → Type 0
Answers s t args v at r e rule task =
    (w : List ℕ) (st : State) (h : Known) → Setting s t w args st v at (row e) h → Planned s t w st.floor v at.scope r e task (rule h)

-- the same for the form whose elements stand in a range, of a flat list or of another, by a rule for them
abbrev pub AnswersForm : List ℕ → List ℕ → List ℕ → View → Here → Bool → Form → (Nodes → Known → Plan) → Result Task Reason → Type 0
AnswersForm s t args v at flat f rule task =
    (r place : ℕ) (es : Nodes) → NodesAt s t flat f.first f.end es → Answers s t args v at r (branch place es) (rule es) task

-- the answer for a bytecode form with a place, by what it is transformed to: a refusal, or its flat list
pub data AnswersBytecode (s t : List ℕ) (place : ℕ) : Outcome → Result Task Reason → Type 0 where
  fails_so : (w : ℕ) → AnswersBytecode s t place (fails w) (Ok (Failed w))
  unfolds : (g : Form) (rows : List ℕ) (e : Node) → g.flat ≡ true → RowsAt t g.first g.end rows → ResultAt s t place g e
      → AnswersBytecode s t place (becomes rows e) (Ok (Unfold g))

-- an answer is right for an element of a list
abbrev pub AnswersElement : List ℕ → List ℕ → List ℕ → View → Here → Node → Result Task Reason → Type 0
AnswersElement s t args v at (leaf r a) task = Answers s t args v at r (leaf r a) (plan (leaf r a)) task
AnswersElement s t args v at (branch r es) task = Answers s t args v at r (branch r es) (plan (branch r es)) task
AnswersElement s t args v at (bytecode r es o) task = AnswersBytecode s t r o task
