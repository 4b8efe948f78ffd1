-- The rule of ns, by what the code asks: where the form stands, its elements, and what is known. Document 01: "( ns ref id ), top level only:
-- associates ref's marker with id, an array of 1 to 64 bytes", refusals 13, 11, 14, 19. Assumes nothing.
use Prim.Native.Nat.{ℕ, ◌+◌, ◌-◌, ◌/◌, ◌≤◌}
use mathlib.Core.Path.{◌≡◌, refl, sym, ◌∙◌}
use mathlib.Core.List.{List}
use mathlib.Core.Bool.{Bool, true, false, not, ◌||◌}
use native.Mathlib.Omega.{arith}
use lib.ListN.{length}
use lib.Seq.{slice}
use lib.Dec.{ltb, leb, eqb}
use borrow.Author.Tests.{ltb-false, leb-false, le-ltb}
use denote.Enum.Bare.{sameb}
use Rattle.std.specs.Prelude.{Ok, Err}
use Rattle.spec.specs.Expr.{when◌then◌else◌, some, array, ref}
use Rattle.spec.specs.Nodes.{ns, Node, leaf, branch, bytecode, Nodes, empty, cons, head_word, markers_all}
use Rattle.spec.specs.Plan.{Namespace, Within, top, Here, Plan, refuse, clash, plan_ns}
use Rattle.laws.specs.Demands.{Bytes}
use Rattle.laws.proofs.Basics.{impossible, by_test, both_false}
use Rattle.atoms.specs.declared.refusal.Reason.TheVariants.{WrongElements, WrongMarker, TooMany}
use Rattle.rows.specs.Rows.{cell, kind, LeafAt, NodesAt, operands_of, key_of}
use Rattle.rows.specs.declared.forms.Form.{Form}
use Rattle.rows.specs.declared.forms.Operands.{Operands}
use Rattle.rows.specs.declared.forms.Operands.TheVariants.{Two}
use Rattle.rows.proofs.Nodes.{kind_array, leaf_array, leaf_fits}
use Rattle.rows.proofs.Keys.{key_marker}
use Rattle.rows.proofs.Parts.{TwoAt, reference_at}
use Rattle.workspace.specs.Completed.{Atoms}
use Rattle.rules.specs.Entries.{stream, id, association}
use Rattle.rules.specs.Scope.{latest, View, view}
use Rattle.rules.specs.Associations.{AssociationAt, Linked, SomeLinked}
use Rattle.rules.specs.Settings.{ElementOf, of_top, of_data, of_other}
use Rattle.rules.specs.Planned.{refuses, associates, Planning, Answers}
use Rattle.rules.specs.contracts.here.Within.{the_type}
use Rattle.rules.specs.declared.here.Within.{Within as Listed}
use Rattle.rules.specs.declared.here.Within.TheVariants.{Top}
use Rattle.rules.specs.declared.here.Here.{Here as Code}
use Rattle.rules.specs.declared.plan.Task.TheVariants.{Ns}
use Rattle.rules.proofs.Latest.{latest_length}
use Rattle.rules.proofs.Linking.{linked_length}
use Rattle.rules.proofs.Expecting.{no_two, refused_ref, refused_array, of_kind, refused_if}

-- Where it stands

-- at the top level, with what stands before its row
record TopAt (s t : List ℕ) (row : ℕ) (q : Within) : Type 0 where
  earlier : List ℕ
  is : q ≡ top earlier
  before : Nodes
  at : NodesAt s t false 0 row before
  same_markers : (m : ℕ) → some (eqb m) earlier ≡ some (eqb m) (markers_all before)

module _ {s t : List ℕ} {row : ℕ} where
  top_at : {l : Listed} {q : Within} → ElementOf s t row l q → l ≡ Top → TopAt s t row q
  top_at (of_top {earlier} es h m) e = record { earlier = earlier; is = refl; before = es; at = h; same_markers = m }
  top_at of_data e = impossible (cc)
  top_at of_other e = impossible (cc)

  pub ns_elsewhere : {l : Listed} {q : Within} → ElementOf s t row l q → true ≡ not (sameb the_type l Top) → (es : Nodes) (h : Here) → plan_ns q es h ≡ refuse 13
  ns_elsewhere (of_top es h m) e fs k = impossible (cc)
  ns_elsewhere of_data e fs k = refl
  ns_elsewhere of_other e fs k = refl

-- Its elements

-- a head, a reference and an array
pub record NsAt (s t : List ℕ) (a b : ℕ) (es : Nodes) : Type 0 where
  pub head : Node
  pub marker : ℕ
  pub name : ℕ
  pub id : List ℕ
  pub is : es ≡ cons head (cons (leaf a (ref marker name)) (cons (leaf b (array id)) empty))
  pub reference : LeafAt s t a (ref marker name)
  pub array_there : LeafAt s t b (array id)

-- 11 at the top level, by the rule there
ns_refused : {s t args : List ℕ} {v : View} {here : Code} {at row : ℕ} (es : Nodes) → here.within ≡ Top
    → ((earlier : List ℕ) (h : Here) → plan_ns (top earlier) es h ≡ refuse 11)
    → Answers s t args v here at (branch row es) (λ h. plan_ns h.within es h) (Err WrongElements)
ns_refused es there rule = λ w st h set. let k = top_at set.element_of there in rw (k.is, rule k.earlier h) (refuses WrongElements)

-- if there are not two operands
pub ns_other : {s t args : List ℕ} {v : View} {here : Code} {at row : ℕ} (es : Nodes) {p : Operands} → here.within ≡ Top
    → p ≡ operands_of es → ((a b : ℕ) → p ≡ Two a b → ⊥) → Answers s t args v here at (branch row es) (λ h. plan_ns h.within es h) (Err WrongElements)
ns_other es there is none = ns_refused es there (λ earlier h. no_two es _ is none)

module _ {s t : List ℕ} {end a b : ℕ} {es : Nodes} (g : TwoAt s t end a b es) where
  pub ns_at : kind t a ≡ 4 → kind t b ≡ 2 → NsAt s t a b es
  ns_at k l =
      let r = reference_at s t a g.first g.one k in
      let i = of_kind s t b 2 array kind_array (λ z. omega arith) g.second g.two l in
      record {
        head = g.head;
        marker = r.marker;
        name = r.name;
        id = i.0;
        is = cc (g.is, r.is, i.1);
        reference = r.here;
        array_there = i.2;
      }

  -- unless they stand there, and the array has 1 to 64 bytes
  pub ns_refuses : {args : List ℕ} {v : View} {here : Code} {at row : ℕ} → here.within ≡ Top
      → (kind t a ≡ 4 → (bs : List ℕ) → LeafAt s t b (array bs) → 1 ≤ length bs → length bs ≤ 64 → ⊥)
      → Answers s t args v here at (branch row es) (λ h. plan_ns h.within es h) (Err WrongElements)
  ns_refuses there right =
      ns_refused es there (λ earlier h. rw g.is (refused_ref s t a g.first _ g.one (λ m i k. refused_array s t b g.second _ g.two (λ bs l.
      by_test (λ (x : Plan). x ≡ refuse 11) (ltb (length bs) 1 || ltb 64 (length bs)) (λ q. refl) (λ q.
      let sizes = both_false (ltb (length bs) 1) (ltb 64 (length bs)) q in
      absurd (right k.row.kind_is bs l (ltb-false (length bs) 1 sizes.0) (ltb-false 64 (length bs) sizes.1)))))))

-- the array's bytes are the last of its row's
pub array_part : {s t : List ℕ} {r : ℕ} {bs : List ℕ} {from to : ℕ} → LeafAt s t r (array bs) → from ≡ cell t r 2 - length bs → to ≡ cell t r 2
    → (from ≤ to) × (to - from ≡ length bs) × (slice from to s ≡ bs)
array_part l begins ends = let a = leaf_array l in (omega arith, omega (arith, a.1), rw (begins, ends) a.0)

-- What is known

-- something is
module _ {s t args : List ℕ} {here : Code} {row : ℕ} where
  pub some_linked : (associations definitions : List ℕ) → Planning s t args (view associations definitions here.scope) here row
      → SomeLinked s associations here.scope
  some_linked associations definitions p = record {
    namespaces = p.here.namespaces;
    linked = p.setting.sees.associations;
    few = omega (arith, p.setting.sees.most, latest_length associations here.scope.associated);
  }

  pub some_earlier : {v : View} → Planning s t args v here row → here.within ≡ Top → (es : Nodes) × NodesAt s t false 0 row es
  some_earlier p e = let k = top_at p.setting.element_of e in (k.before, k.at)

-- the form stands for itself: it is of atoms
ns_atoms : (h : Node) (es : Nodes) → head_word (cons h es) ≡ ns → Atoms es → Atoms (cons h es)
ns_atoms (leaf q x) es e rest = rest
ns_atoms (branch q fs) es e rest = impossible (cc)
ns_atoms (bytecode q fs o) es e rest = impossible (cc)

module _ {s t : List ℕ} {a b : ℕ} {es : Nodes} (g : NsAt s t a b es) (bytes : Bytes s) (from to key : ℕ) (keyed : key ≡ key_of g.marker g.name)
    (begins : from ≡ cell t b 2 - length g.id) (ends : to ≡ cell t b 2) (some_bytes : 1 ≤ to - from) (few_bytes : to - from ≤ 64) where
  ns_association : AssociationAt s (association g.marker (id stream from (length g.id))) (record { marker = g.marker; id = g.id })
  ns_association =
      let part = array_part g.array_there begins ends in
      let past : from + length g.id ≡ to = omega (arith, part.0, part.1) in
      record {
        place = from;
        is = refl;
        marker_short = g.reference.spells.1;
        some_bytes = omega (arith, part.1);
        few_bytes = omega (arith, part.1);
        inside = omega (arith, g.array_there.row.ends);
        short = g.array_there.row.short;
        bytes = rw past part.2;
      }

  -- 14 if they clash with what is known, 19 if no more can be, else they are associated
  pub ns_answers : (f : Form) (associations definitions : List ℕ) {args : List ℕ} (here : Code) {at row : ℕ} → here.within ≡ Top → NodesAt s t false f.first f.end es → head_word es ≡ ns
      → (clashing full : Bool)
      → ((ks : List Namespace) (fs : Nodes) (earlier : List ℕ) → Linked s (latest associations here.scope.associated) ks → NodesAt s t false 0 row fs
      → some (eqb (key / 256)) earlier ≡ some (eqb (key / 256)) (markers_all fs) → clash (key / 256) (slice from to s) earlier ks ≡ clashing)
      → leb 64 here.scope.associated ≡ full
      → Answers s t args (view associations definitions here.scope) here at (branch row es) (λ h. plan_ns h.within es h)
      (when clashing then Err WrongMarker else when full then Err TooMany else Ok (Ns f (key / 256) (id stream from (to - from))))
  ns_answers f associations definitions here there stand led clashing full known counted = λ w st h set.
      let part = array_part g.array_there begins ends in
      let marker : key / 256 ≡ g.marker = rw keyed (key_marker g.marker g.name (leaf_fits bytes g.reference).2) in
      let top = top_at set.element_of there in
      let behind = cons (leaf a (ref g.marker g.name)) (cons (leaf b (array g.id)) empty) in
      let clashes = rw (marker, part.2) at (known h.namespaces top.before top.earlier set.sees.associations top.at (top.same_markers (key / 256))) in
      let count = latest_length associations here.scope.associated in
      let counts = rw (sym count ∙ linked_length s _ _ set.sees.associations) at counted in
      rw (top.is, g.is, le-ltb (length g.id) 1 (omega (arith, part.1)), le-ltb 64 (length g.id) (omega (arith, part.1)), clashes, counts, marker, part.1)
      (refused_if clashing WrongMarker (λ no. refused_if full TooMany (λ room. associates f _ _ _ _ (rw g.is at stand) (ns_atoms g.head behind (rw g.is at led) tt) ns_association
      (omega (arith, leb-false 64 here.scope.associated (counted ∙ room))))))
