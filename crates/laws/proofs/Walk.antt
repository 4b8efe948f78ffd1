-- The rules walked once: which rule of `plan` applies to an expression where it is evaluated, and why. What is so of every plan follows by
-- cases. Document 01: "Evaluation". Assumes nothing.
use Prim.Native.Nat.{ℕ, ◌≤◌, ◌<◌}
use mathlib.Core.Path.{◌≡◌, refl}
use mathlib.Core.List.{List}
use mathlib.Core.Bool.{Bool, true, false, ◌||◌}
use lib.ListN.{length}
use lib.Dec.{eqb, ltb, leb}
use borrow.Author.Tests.{ltb-true, ltb-false, leb-true, leb-false, eqb-false, not-false}
use Rattle.spec.specs.Expr.{when◌then◌else◌, same, some, Atom, nil, array, int, ref, atom, form, Exprs, only, size, first, without}
use Rattle.spec.specs.Nodes.{core, Word, ns, define, concat, subst, arg, rest, plain, is, word, Node, leaf, branch, bytecode, Nodes, empty, cons, unnumbered_all, elements, tail, head_word, headed_by}
use Rattle.spec.specs.Plan.{value, function, Scope, Found, latest, nothing, look_up, Within, top, element, inner, Arguments, outside, passed, Here, as_form, as_definition, as_concat, as_call, Plan, refuse, leave, associate, define_function, inside, expect_one, expect_two, expect_ref, expect_array, expect_int, clash, plan_ns, plan_definition, plan_define, plan_arg, plan_rest, plan_head, plan_other, plan_form, plan_reference, plan_atom, plan}
use Rattle.laws.specs.Sanity.{RuleNumber}
use Rattle.laws.proofs.Basics.{impossible, by_test, both_false}

-- a form of two elements, and of three
abbrev pub two : ℕ → Node → Node → Node
two r x a = branch r (cons x (cons a empty))

abbrev pub three : ℕ → Node → Node → Node → Node
three r x a b = branch r (cons x (cons a (cons b empty)))

-- a bytecode form "taken as it is written"
abbrev pub as_written : Node → Node
as_written (leaf r a) = leaf r a
as_written (branch r es) = branch r es
as_written (bytecode r es o) = branch r es

-- an `ns` form with this marker and id passes its tests
pub record MayAssociate (h : Here) (m : ℕ) (id : List ℕ) : Type 0 where
  pub earlier : List ℕ
  pub within : h.within ≡ top earlier
  pub not_empty : 1 ≤ length id
  pub not_long : length id ≤ 64
  pub marker : m ≡ core → ⊥
  pub not_borne : some (eqb m) earlier ≡ false
  pub not_used : some (λ k. same k.id id) h.namespaces ≡ false
  pub few : length h.namespaces < 64

-- a `define` form with this marker and value does
pub record MayDefine (h : Here) (m : ℕ) (v : Node) : Type 0 where
  pub within : h.within ≡ inner → ⊥
  pub no_rest : headed_by rest v ≡ false
  pub marker : m ≡ core → ⊥
  pub associated : some (λ k. eqb k.marker m) h.namespaces ≡ true
  pub few : length h.scope < 256

-- the rule for an expression with this head, by its plan
pub data Rule (h : Here) : Word → Node → Plan → Type 0 where
  refuses : {w : Word} {e : Node} {v : ℕ} → RuleNumber v → Rule h w e (refuse v)
  -- an atom that is no reference, or a reference with no definition
  own : {r : ℕ} {a : Atom} → Rule h plain (leaf r a) (leave (only (atom a)))
  defined : {r m n : ℕ} {vs : Exprs} {behind : Scope} → look_up m n h.scope ≡ latest (value vs) behind → Rule h plain (leaf r (ref m n)) (leave vs)
  argument : {r q n : ℕ} {x : Node} {vs : Exprs} → h.arguments ≡ passed vs → n < size vs
      → Rule h arg (two r x (leaf q (int n))) (leave (first 1 (without n vs)))
  others : {r q n : ℕ} {x : Node} {vs : Exprs} → h.arguments ≡ passed vs → n ≤ size vs → Rule h rest (two r x (leaf q (int n))) (leave (without n vs))
  associates : {r m : ℕ} {es : Nodes} {id : List ℕ} → MayAssociate h m id
      → Rule h ns (branch r es) (associate (only (form (unnumbered_all es))) (record { marker = m; id = id }))
  defines_function : {r q m n : ℕ} {x v : Node} → MayDefine h m v → headed_by subst v ≡ true
      → Rule h define (three r x (leaf q (ref m n)) v) (define_function (record { marker = m; name = n; content = function (tail (elements v)) }))
  defines_value : {r q m n : ℕ} {x v : Node} → MayDefine h m v → headed_by subst v ≡ false
      → Rule h define (three r x (leaf q (ref m n)) v) (inside 2 inner (as_definition m n))
  joins : {r : ℕ} {x a b : Node} → headed_by rest a ≡ false → headed_by rest b ≡ false → Rule h concat (three r x a b) (inside 1 inner as_concat)
  forms : {r : ℕ} {es : Nodes} → Rule h plain (branch r es) (inside 0 element as_form)
  -- a function by its reference, and a `subst` form
  calls : {r q m n : ℕ} {es code : Nodes} {behind : Scope} → look_up m n h.scope ≡ latest (function code) behind
      → Rule h plain (branch r (cons (leaf q (ref m n)) es)) (inside 1 inner (as_call code behind))
  calls_subst : {r q : ℕ} {fs es : Nodes} → is (head_word fs) subst ≡ true
      → Rule h plain (branch r (cons (branch q fs) es)) (inside 1 inner (as_call (tail fs) h.scope))

module _ (h : Here) where
  -- 11, or the elements that are expected
  module _ (w : Word) {e : Node} where
    expect_one_rule : (es : Nodes) {f : Node → Plan} → ((x a : Node) → es ≡ cons x (cons a empty) → Rule h w e (f a)) → Rule h w e (expect_one es f)
    expect_one_rule empty s = refuses refl
    expect_one_rule (cons x empty) s = refuses refl
    expect_one_rule (cons x (cons a empty)) s = s x a refl
    expect_one_rule (cons x (cons a (cons b es))) s = refuses refl

    expect_two_rule : (es : Nodes) {f : Node → Node → Plan} → ((x a b : Node) → es ≡ cons x (cons a (cons b empty)) → Rule h w e (f a b))
        → Rule h w e (expect_two es f)
    expect_two_rule empty s = refuses refl
    expect_two_rule (cons x empty) s = refuses refl
    expect_two_rule (cons x (cons a empty)) s = refuses refl
    expect_two_rule (cons x (cons a (cons b empty))) s = s x a b refl
    expect_two_rule (cons x (cons a (cons b (cons c es)))) s = refuses refl

    expect_ref_rule : (a : Node) {f : ℕ → ℕ → Plan} → ((q m n : ℕ) → a ≡ leaf q (ref m n) → Rule h w e (f m n)) → Rule h w e (expect_ref a f)
    expect_ref_rule (leaf q nil) s = refuses refl
    expect_ref_rule (leaf q (array bs)) s = refuses refl
    expect_ref_rule (leaf q (int v)) s = refuses refl
    expect_ref_rule (leaf q (ref m n)) s = s q m n refl
    expect_ref_rule (branch q es) s = refuses refl
    expect_ref_rule (bytecode q es o) s = refuses refl

    expect_array_rule : (a : Node) {f : List ℕ → Plan} → ((bs : List ℕ) → Rule h w e (f bs)) → Rule h w e (expect_array a f)
    expect_array_rule (leaf q nil) s = refuses refl
    expect_array_rule (leaf q (array bs)) s = s bs
    expect_array_rule (leaf q (int v)) s = refuses refl
    expect_array_rule (leaf q (ref m n)) s = refuses refl
    expect_array_rule (branch q es) s = refuses refl
    expect_array_rule (bytecode q es o) s = refuses refl

    expect_int_rule : (a : Node) {f : ℕ → Plan} → ((q n : ℕ) → a ≡ leaf q (int n) → Rule h w e (f n)) → Rule h w e (expect_int a f)
    expect_int_rule (leaf q nil) s = refuses refl
    expect_int_rule (leaf q (array bs)) s = refuses refl
    expect_int_rule (leaf q (int n)) s = s q n refl
    expect_int_rule (leaf q (ref m n)) s = refuses refl
    expect_int_rule (branch q es) s = refuses refl
    expect_int_rule (bytecode q es o) s = refuses refl

    -- a refusal where the test holds
    unless : (v : ℕ) (b : Bool) {p : Plan} → RuleNumber v → (b ≡ false → Rule h w e p) → Rule h w e (when b then refuse v else p)
    unless v b n s = by_test (Rule h w e) b (λ t. refuses n) s

  ns_rule : (r : ℕ) (es : Nodes) (p : Within) → h.within ≡ p → Rule h ns (branch r es) (plan_ns p es h)
  ns_rule r es element t = refuses refl
  ns_rule r es inner t = refuses refl
  ns_rule r es (top earlier) t =
      expect_two_rule ns es λ x a b t'. expect_ref_rule ns a λ q m n u. expect_array_rule ns b λ id.
      unless ns 11 _ refl λ size. unless ns 14 (clash m id earlier h.namespaces) refl λ fresh. unless ns 19 _ refl λ few.
      let long = both_false (ltb (length id) 1) (ltb 64 (length id)) size in
      let new = both_false (eqb m core || some (eqb m) earlier) _ fresh in
      let unborne = both_false (eqb m core) _ new.0 in
      associates {id = id} (record {
        earlier = earlier;
        within = t;
        not_empty = ltb-false (length id) 1 long.0;
        not_long = ltb-false 64 (length id) long.1;
        marker = eqb-false m core unborne.0;
        not_borne = unborne.1;
        not_used = new.1;
        few = leb-false 64 (length h.namespaces) few;
      })

  definition_rule : (r : ℕ) (es : Nodes) → (h.within ≡ inner → ⊥) → Rule h define (branch r es) (plan_definition es h)
  definition_rule r es p =
      expect_two_rule define es λ x a v t. expect_ref_rule define a λ q m n u.
      unless define 11 _ refl λ one. unless define 14 _ refl λ known. unless define 19 _ refl λ few.
      let associated = both_false (eqb m core) _ known in
      let may : MayDefine h m v = record {
        within = p;
        no_rest = one;
        marker = eqb-false m core associated.0;
        associated = not-false _ associated.1;
        few = leb-false 256 (length h.scope) few;
      } in
      rw (t, u) (by_test (Rule h define (three r x (leaf q (ref m n)) v)) (headed_by subst v) (defines_function may) (defines_value may))

  define_rule : (r : ℕ) (es : Nodes) (p : Within) → h.within ≡ p → Rule h define (branch r es) (plan_define p es h)
  define_rule r es (top earlier) t = definition_rule r es (λ i. impossible (cc))
  define_rule r es element t = definition_rule r es (λ i. impossible (cc))
  define_rule r es inner t = refuses refl

  concat_rule : (r : ℕ) (es : Nodes) → Rule h concat (branch r es) (plan_form concat es h)
  unfolding plan_form
  concat_rule r es =
      expect_two_rule concat es λ x a b t. rw t (unless concat 11 _ refl λ k.
      let no_rest = both_false (headed_by rest a) _ k in joins no_rest.0 no_rest.1)

  arg_rule : (r q n : ℕ) (x : Node) (vs : Arguments) → h.arguments ≡ vs → Rule h arg (two r x (leaf q (int n))) (plan_arg n vs)
  arg_rule r q n x outside t = refuses refl
  arg_rule r q n x (passed vs) t =
      by_test (Rule h arg (two r x (leaf q (int n)))) (ltb n (size vs)) (λ k. argument t (ltb-true n (size vs) k)) (λ k. refuses refl)

  rest_rule : (r q n : ℕ) (x : Node) (vs : Arguments) → h.arguments ≡ vs → Rule h rest (two r x (leaf q (int n))) (plan_rest n vs)
  rest_rule r q n x outside t = refuses refl
  rest_rule r q n x (passed vs) t =
      by_test (Rule h rest (two r x (leaf q (int n)))) (leb n (size vs)) (λ k. others t (leb-true n (size vs) k)) (λ k. refuses refl)

  head_rule : (r q m n : ℕ) (es : Nodes) (f : Found) → look_up m n h.scope ≡ f → Rule h plain (branch r (cons (leaf q (ref m n)) es)) (plan_head f)
  head_rule r q m n es (latest (value vs) behind) t = forms
  head_rule r q m n es (latest (function code) behind) t = calls t
  head_rule r q m n es nothing t = forms

  other_rule : (r : ℕ) (es : Nodes) → Rule h plain (branch r es) (plan_other es h.scope)
  other_rule r empty = forms
  other_rule r (cons (leaf q nil) es) = forms
  other_rule r (cons (leaf q (array bs)) es) = forms
  other_rule r (cons (leaf q (int v)) es) = forms
  other_rule r (cons (leaf q (ref m n)) es) = head_rule r q m n es (look_up m n h.scope) refl
  other_rule r (cons (branch q fs) es) =
      by_test (Rule h plain (branch r (cons (branch q fs) es))) (is (head_word fs) subst) calls_subst (λ k. forms)
  other_rule r (cons (bytecode q fs o) es) = forms

  form_rule : (w : Word) (r : ℕ) (es : Nodes) → Rule h w (branch r es) (plan_form w es h)
  unfolding plan_form
  form_rule ns r es = ns_rule r es h.within refl
  form_rule define r es = define_rule r es h.within refl
  form_rule concat r es = concat_rule r es
  form_rule subst r es = refuses refl
  form_rule arg r es = expect_one_rule arg es λ x a t. expect_int_rule arg a λ q n u. rw (t, u) (arg_rule r q n x h.arguments refl)
  form_rule rest r es = expect_one_rule rest es λ x a t. expect_int_rule rest a λ q n u. rw (t, u) (rest_rule r q n x h.arguments refl)
  form_rule plain r es = other_rule r es

  reference_rule : (r m n : ℕ) (f : Found) → look_up m n h.scope ≡ f → Rule h plain (leaf r (ref m n)) (plan_reference f (ref m n))
  reference_rule r m n (latest (value vs) behind) t = defined t
  reference_rule r m n (latest (function code) behind) t = refuses refl
  reference_rule r m n nothing t = own

  atom_rule : (r : ℕ) (a : Atom) → Rule h plain (leaf r a) (plan_atom a h.scope)
  unfolding plan_atom
  atom_rule r nil = own
  atom_rule r (array bs) = own
  atom_rule r (int v) = own
  atom_rule r (ref m n) =
      by_test (Rule h plain (leaf r (ref m n))) (is (word m n) plain) (λ k. reference_rule r m n (look_up m n h.scope) refl) (λ k. refuses refl)

  pub rule_is : (e : Node) → Rule h (head_word (elements e)) (as_written e) (plan e h)
  rule_is (leaf r a) = atom_rule r a
  rule_is (branch r es) = form_rule (head_word es) r es
  rule_is (bytecode r es o) = form_rule (head_word es) r es
