-- The rule of define, by what the code asks: where the form stands, its elements, and what is known. Document 01: "( define ref value )", refusals 13,
-- 11, 14, 19. Assumes nothing.
use Prim.Native.Nat.{ℕ, ◌+◌, ◌/◌, ◌<◌}
use mathlib.Core.Path.{◌≡◌, refl, sym, ◌∙◌}
use mathlib.Core.List.{List}
use mathlib.Core.Bool.{Bool, true, false}
use native.Mathlib.Omega.{arith}
use lib.ListN.{length}
use lib.Dec.{leb}
use borrow.Author.Tests.{leb-false}
use denote.Enum.Bare.{sameb}
use Rattle.std.specs.Prelude.{Ok, Err}
use Rattle.spec.specs.Expr.{when◌then◌else◌, ref}
use Rattle.spec.specs.Nodes.{subst, rest, Node, leaf, branch, bytecode, Nodes, empty, cons, elements, tail, head_word, headed_by}
use Rattle.spec.specs.Plan.{function, Namespace, Within, inner, Here, as_definition, Plan, refuse, define_function, inside, undefinable, plan_definition, plan_define}
use Rattle.laws.specs.Demands.{Bytes}
use Rattle.laws.specs.Holding.{skip}
use Rattle.laws.proofs.Basics.{impossible, by_test}
use Rattle.laws.proofs.Fits.{Fits}
use Rattle.atoms.specs.declared.refusal.Reason.TheVariants.{WrongMarker, TooMany}
use Rattle.rows.specs.Rows.{kind, LeafAt, NodeAt, NodesAt, key_of}
use Rattle.rows.specs.Forms.{starting_at}
use Rattle.rows.specs.declared.forms.Form.{Form}
use Rattle.rows.proofs.Nodes.{leaf_fits, form_row, form_nodes}
use Rattle.rows.proofs.Keys.{key_marker}
use Rattle.rows.proofs.Parts.{TwoAt, reference_at}
use Rattle.rules.specs.Entries.{function_bit}
use Rattle.rules.specs.Scope.{latest, View, view}
use Rattle.rules.specs.Associations.{Linked}
use Rattle.rules.specs.Settings.{CodeAt, ElementOf, of_top, of_data, of_other}
use Rattle.rules.specs.Planned.{one_more, define_finishes, Planned, defines, goes_inside, Answers}
use Rattle.rules.specs.contracts.here.Within.{the_type}
use Rattle.rules.specs.declared.scope.Scope.{Scope}
use Rattle.rules.specs.declared.here.Within.{Within as Listed}
use Rattle.rules.specs.declared.here.Within.TheVariants.{Inner}
use Rattle.rules.specs.declared.here.Here.{Here as Code}
use Rattle.rules.specs.declared.plan.Making.TheVariants.{Define}
use Rattle.rules.specs.declared.plan.After.TheVariants.{Make}
use Rattle.rules.specs.declared.plan.Task.TheVariants.{Function, Inside}
use Rattle.rules.proofs.Latest.{latest_length}
use Rattle.rules.proofs.Shown.{shows_length}
use Rattle.rules.proofs.Expecting.{refused_ref, plain_other, bytecode_plain, refused_if}

-- Where it stands

module _ {s t : List ℕ} {row : ℕ} where
  pub define_elsewhere : {l : Listed} {q : Within} → ElementOf s t row l q → true ≡ sameb the_type l Inner → (es : Nodes) (h : Here) → plan_define q es h ≡ refuse 13
  define_elsewhere (of_top es h m) e fs k = impossible (cc)
  define_elsewhere of_data e fs k = impossible (cc)
  define_elsewhere of_other e fs k = refl

-- Its elements

-- a head, a reference and a value
pub record DefineAt (s t : List ℕ) (end a b : ℕ) (es : Nodes) : Type 0 where
  pub head : Node
  pub marker : ℕ
  pub name : ℕ
  pub value : Node
  pub is : es ≡ cons head (cons (leaf a (ref marker name)) (cons value empty))
  pub reference : LeafAt s t a (ref marker name)
  pub there : NodeAt s t false b value
  pub from : NodesAt s t false b end (cons value empty)

module _ {s t : List ℕ} {end a b : ℕ} {es : Nodes} (g : TwoAt s t end a b es) where
  pub define_at : kind t a ≡ 4 → DefineAt s t end a b es
  define_at k =
      let r = reference_at s t a g.first g.one k in
      record {
        head = g.head;
        marker = r.marker;
        name = r.name;
        value = g.second;
        is = cc (g.is, r.is);
        reference = r.here;
        there = g.two;
        from = g.from_two;
      }

  -- 11, unless they stand there, and the value is no `rest` form
  pub define_refused : (h : Here) → (kind t a ≡ 4 → headed_by rest g.second ≡ false → ⊥) → plan_definition es h ≡ refuse 11
  define_refused h right =
      rw g.is
      (refused_ref s t a g.first _ g.one (λ m i k.
      by_test (λ (x : Plan). x ≡ refuse 11) (headed_by rest g.second) (λ q. refl) (λ q. absurd (right k.row.kind_is q))))

-- a form headed by `subst` is code
code_headed : (s t : List ℕ) (r : ℕ) (e : Node) → NodeAt s t false r e → headed_by subst e ≡ true → CodeAt s t r (tail (elements e))
code_headed s t r (leaf q a) h e = impossible (cc)
code_headed s t r (branch q empty) h e = impossible (cc)
code_headed s t r (branch q (cons x es)) h e = record { form = form_row s t r q (cons x es) h; head = x; elements = form_nodes s t r q (cons x es) h }
code_headed s t r (bytecode q es o) h e = impossible (cc (plain_other (head_word es) (bytecode_plain s t false r q es o h), e))

-- What is known

module _ {s t : List ℕ} (f : Form) (unflat : f.flat ≡ false) {a b : ℕ} {es : Nodes} (g : DefineAt s t f.end a b es) (bytes : Bytes s) (key : ℕ)
    (keyed : key ≡ key_of g.marker g.name) (no_rest : headed_by rest g.value ≡ false) where
  abbrev reference : Node
  reference = leaf a (ref g.marker g.name)

  fits : Fits (ref g.marker g.name)
  fits = leaf_fits bytes g.reference

  made : {w : List ℕ} {floor r q : ℕ} {v : View} {sc : Scope} (code : Bool) → headed_by subst g.value ≡ code → length v.definitions < 256
      → Planned s t w floor v sc r (branch q (cons g.head (cons reference (cons g.value empty))))
      (when code then Ok (Function (key + function_bit) b) else Ok (Inside (starting_at b f) (Make (Define key))))
      (when code then define_function (record { marker = g.marker; name = g.name; content = function (tail (elements g.value)) }) else
      inside 2 inner (as_definition g.marker g.name))
  unfolding skip
  made true is room = rw keyed (defines g.marker g.name b _ fits room (code_headed s t b g.value g.there is))
  made false is room =
      rw keyed (goes_inside (starting_at b f) 2 inner _ _ (rw unflat g.from) (define_finishes g.marker g.name fits room (one_more g.head reference g.value no_rest)))

  -- 14 if it may not be defined, 19 if no more can be, else it is defined: as a function, or by what the value leaves
  pub define_answers : (associations definitions : List ℕ) {args : List ℕ} (here : Code) (r q : ℕ) (unknown full code : Bool)
      → ((ks : List Namespace) → Linked s (latest associations here.scope.associated) ks → undefinable (key / 256) ks ≡ unknown)
      → leb 256 here.scope.defined ≡ full → headed_by subst g.value ≡ code
      → Answers s t args (view associations definitions here.scope) here r (branch q es) (plan_definition es)
      (when unknown then Err WrongMarker else when full then Err TooMany else when code then Ok (Function (key + function_bit) b) else Ok (Inside (starting_at b f) (Make (Define key))))
  define_answers associations definitions here r q unknown full code known counted is = λ w st h set.
      let marker : key / 256 ≡ g.marker = rw keyed (key_marker g.marker g.name fits.2) in
      let unknowns = rw marker at (known h.namespaces set.sees.associations) in
      let count = latest_length definitions here.scope.defined in
      let counts = rw (sym count ∙ shows_length s t w st.floor _ _ set.sees.definitions) at counted in
      rw (g.is, no_rest, unknowns, counts, is)
      (refused_if unknown WrongMarker (λ no. refused_if full TooMany (λ room. made code is (omega (arith, leb-false 256 here.scope.defined (counted ∙ room))))))
