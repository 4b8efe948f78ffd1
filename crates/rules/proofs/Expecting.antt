-- Laws of what the rules ask: of the number, the kind and the head of a form's elements, as the rows tell them; and of one refusal after the other.
-- Document 01: "wrong number or kind of elements in ns, define, concat, arg, rest, counted as written". Assumes nothing.
use Prim.Native.Nat.{ℕ}
use mathlib.Core.Path.{◌≡◌, refl, sym, ap, ◌∙◌}
use mathlib.Core.List.{List}
use mathlib.Core.Bool.{Bool, true, false}
use native.Mathlib.Omega.{arith}
use borrow.Author.Tests.{eqb-true, ne_eqb}
use denote.Enum.Bare.{sameb}
use Rattle.std.specs.Prelude.{Result, Err}
use Rattle.spec.specs.Expr.{when◌then◌else◌, Atom, nil, array, int, ref}
use Rattle.spec.specs.Reading.{atom_kind}
use Rattle.spec.specs.Nodes.{Word, subst, plain, order, is, Node, leaf, branch, bytecode, Nodes, empty, cons, Outcome, elements, head_word, headed_by}
use Rattle.spec.specs.Plan.{Plan, refuse, expect_two, expect_ref, expect_array, expect_int}
use Rattle.atoms.specs.Refusals.{number}
use Rattle.atoms.specs.declared.refusal.Reason.{Reason}
use Rattle.rows.specs.Rows.{kind, LeafAt, NodeAt, operands_of}
use Rattle.rows.specs.Forms.{meant}
use Rattle.rows.specs.declared.words.Word.{Word as Coded}
use Rattle.rows.specs.declared.forms.Operands.{Operands}
use Rattle.rows.specs.declared.forms.Operands.TheVariants.{Two}
use Rattle.rows.specs.contracts.words.Word.{the_type}
use Rattle.rows.proofs.Keys.{same_word}
use Rattle.rows.proofs.Nodes.{leaf_kind, leaf_at, kind_leaf}
use Rattle.rules.specs.Scope.{View}
use Rattle.rules.specs.Planned.{Planned, refuses}
use Rattle.rules.specs.declared.scope.Scope.{Scope}
use Rattle.rules.specs.declared.plan.Task.{Task}

-- How many elements

pub no_two : (es : Nodes) (f : Node → Node → Plan) {p : Operands} → p ≡ operands_of es → ((a b : ℕ) → p ≡ Two a b → ⊥) → expect_two es f ≡ refuse 11
no_two empty f is h = refl
no_two (cons x empty) f is h = refl
no_two (cons x (cons a empty)) f is h = refl
no_two (cons x (cons a (cons b empty))) f is h = absurd (h _ _ is)
no_two (cons x (cons a (cons b (cons d es)))) f is h = refl

-- Their kinds

module _ (s t : List ℕ) (r : ℕ) where
  pub refused_ref : (e : Node) (f : ℕ → ℕ → Plan) → NodeAt s t false r e → ((m n : ℕ) → LeafAt s t r (ref m n) → f m n ≡ refuse 11) → expect_ref e f ≡ refuse 11
  refused_ref (leaf q nil) f h k = refl
  refused_ref (leaf q (array bs)) f h k = refl
  refused_ref (leaf q (int v)) f h k = refl
  refused_ref (leaf q (ref m n)) f h k = k m n (leaf_at s t false r q (ref m n) h)
  refused_ref (branch q es) f h k = refl
  refused_ref (bytecode q es o) f h k = refl

  pub refused_array : (e : Node) (f : List ℕ → Plan) → NodeAt s t false r e → ((bs : List ℕ) → LeafAt s t r (array bs) → f bs ≡ refuse 11) → expect_array e f ≡ refuse 11
  refused_array (leaf q nil) f h k = refl
  refused_array (leaf q (array bs)) f h k = k bs (leaf_at s t false r q (array bs) h)
  refused_array (leaf q (int v)) f h k = refl
  refused_array (leaf q (ref m n)) f h k = refl
  refused_array (branch q es) f h k = refl
  refused_array (bytecode q es o) f h k = refl

  pub refused_int : (e : Node) (f : ℕ → Plan) → NodeAt s t false r e → ((v : ℕ) → LeafAt s t r (int v) → f v ≡ refuse 11) → expect_int e f ≡ refuse 11
  refused_int (leaf q nil) f h k = refl
  refused_int (leaf q (array bs)) f h k = refl
  refused_int (leaf q (int v)) f h k = k v (leaf_at s t false r q (int v) h)
  refused_int (leaf q (ref m n)) f h k = refl
  refused_int (branch q es) f h k = refl
  refused_int (bytecode q es o) f h k = refl

  -- an atom of a kind
  pub of_kind : {X : Type 0} (k : ℕ) (make : X → Atom) → ((a : Atom) → atom_kind a ≡ k → (x : X) × (a ≡ make x)) → (k ≡ 1 → ⊥)
      → (e : Node) → NodeAt s t false r e → kind t r ≡ k → (x : X) × (e ≡ leaf r (make x)) × LeafAt s t r (make x)
  of_kind k make made no_form e h is =
      let l = kind_leaf s t r e h (λ z. no_form (sym is ∙ z)) in
      let a = made l.0 (leaf_kind l.2 ∙ is) in
      (a.0, l.1 ∙ ap (leaf r) a.1, rw a.1 at l.2)

-- Their words

-- a plain word is not `subst`
pub plain_other : (v : Word) → is v plain ≡ true → is v subst ≡ false
plain_other v h = ne_eqb (order v) (order subst) (λ e. omega (arith, eqb-true (order v) (order plain) h))

-- a bytecode form's
pub bytecode_plain : (s t : List ℕ) (flat : Bool) (r q : ℕ) (es : Nodes) (o : Outcome) → NodeAt s t flat r (bytecode q es o) → is (head_word es) plain ≡ true
unfolding NodeAt
bytecode_plain s t flat r q es o n = n.3

-- whether an expression is headed by a word, by a test of the word that was read there
pub headed : (w v : Coded) (e : Node) {b : Bool} → b ≡ sameb the_type w v → meant w ≡ head_word (elements e) → headed_by (meant v) e ≡ b
headed w v e told read = sym (told ∙ same_word w v ∙ ap (λ (x : Word). is x (meant v)) read)

-- One test after the other

-- a refusal if a test says so, else what is planned
pub refused_if : {s t w : List ℕ} {floor : ℕ} {v : View} {sc : Scope} {r : ℕ} {e : Node} {x : Result Task Reason} {q : Plan} (b : Bool) (n : Reason)
    → (b ≡ false → Planned s t w floor v sc r e x q) → Planned s t w floor v sc r e (when b then Err n else x) (when b then refuse (number n) else q)
refused_if true n k = refuses n
refused_if false n k = k refl
