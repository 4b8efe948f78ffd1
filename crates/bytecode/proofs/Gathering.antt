-- The flat list as code goes through it: what is left to be gathered from a row on. Document 02, §1. Assumes nothing.
use Prim.Native.Nat.{ℕ, ◌+◌, ◌≤◌, ◌<◌}
use mathlib.Core.Path.{◌≡◌, refl, sym, ap, ◌∙◌}
use mathlib.Core.List.{List}
use mathlib.Core.Bool.{Bool, true, false, ◌||◌}
use native.Mathlib.Omega.{arith}
use Rattle.std.specs.Prelude.{Option, Some, None}
use Rattle.spec.specs.Expr.{when◌then◌else◌}
use Rattle.spec.specs.Nodes.{Node, Nodes, cons}
use Rattle.spec.specs.Bytecode.{Operator, if_operator, short}
use Rattle.spec.proofs.Flat.{operator, operand, role, by_operand, by_operator, without}
use Rattle.rows.specs.Rows.{RowInside, next, link, mark, WrittenAt, WrittenAll}
use Rattle.rows.proofs.Nodes.{MoreWritten, written_order, written_done, written_more, written_whole}
use Rattle.bytecode.specs.Numbers.{child, Changed, Unlinked}
use Rattle.bytecode.specs.Gathered.{SameMarks, beyond, lacks, GatheredAt, Tells, FlatAt}
use Rattle.bytecode.specs.declared.arities.Arities.{Arities}
use Rattle.bytecode.proofs.Changing.{changed_none, changed_wider, changed_then, written_all_kept}
use Rattle.bytecode.proofs.Links.{at_one, written_few, written_all_few, role_operand, role_operator, short_lacks, beyond_written, beyond_order, gathered_operands, beyond_changed, unlinked_kept, gathered_operand, gathered_operator}

-- One list of operators

-- what is left to be gathered from a row on
pub record Gathering (s t : List ℕ) (first end : ℕ) (os : List Operator) (es : Nodes) (r : ℕ) : Type 0 where
  pub rest : Nodes
  pub from : first ≤ r
  pub written : WrittenAll s t r end rest
  pub unlinked : Unlinked t r end
  pub shorts : short os 0 rest ≡ short os 0 es
  pub gathered : (t' : List ℕ) → Changed t t' r end → GatheredAt t' os 0 r rest → GatheredAt t' os 0 first es

module _ {s t : List ℕ} {first end : ℕ} {os : List Operator} {es : Nodes} {r : ℕ} (g : Gathering s t first end os es r) where
  pub gathering_done : end ≤ r → (short os 0 es ≡ false) × GatheredAt t os 0 first es
  unfolding short GatheredAt
  gathering_done l =
      let none = written_done s t r end g.rest g.written l in
      (sym g.shorts ∙ ap (short os 0) none, g.gathered t (changed_none t r end) (rw none tt))

  module _ (l : r < end) where
    pub gathering_more : MoreWritten s t r end g.rest
    gathering_more = written_more s t r end g.rest g.written l

    pub gathering_operand : role os gathering_more.head ≡ operand → Gathering s t first end os es (next t r)
    unfolding short
    gathering_operand o =
        let m = gathering_more in
        let none : short os 0 m.rest ≡ short os 0 (cons m.head m.rest) =
        ap (λ (k : ℕ). short os k m.rest) (sym (by_operand os m.head (λ n. n) 0 o)) in
        record {
          rest = m.rest;
          from = omega (arith, g.from, m.forward);
          written = m.nodes;
          unlinked = λ q i j. g.unlinked q (omega (arith, m.forward)) j;
          shorts = none ∙ ap (short os 0) (sym m.is) ∙ g.shorts;
          gathered = λ t' c h.
              let next-is = (c.same_rows r).same_next in
              let u = unlinked_kept r (next t r) (λ q i j. c.before q (omega arith)) (λ q i j. g.unlinked q i (omega (arith, m.inside))) in
              let all = gathered_operand t' os r m.head m.rest o (rw next-is m.forward) (rw next-is u) (rw next-is h) in
              g.gathered t' (changed_wider c r end (omega (arith, m.forward)) (omega arith)) (rw m.is all);
        }

    -- an operator with its operands, and one that is short of them
    module _ (n : ℕ) (o : role os gathering_more.head ≡ operator n) where
      operator_short : short os 0 es ≡ lacks n gathering_more.rest || short os 0 (without n gathering_more.rest)
      unfolding short
      operator_short =
          let m = gathering_more in
          let one : short os 0 (cons m.head m.rest) ≡ short os n m.rest =
          ap (λ (k : ℕ). short os k m.rest) (by_operator os m.head (λ n. n) 0 n o) in
          sym g.shorts ∙ ap (short os 0) m.is ∙ one ∙ short_lacks os n m.rest

      pub gathering_short : lacks n gathering_more.rest ≡ true → short os 0 es ≡ true
      gathering_short k = operator_short ∙ rw k

      pub gathering_operator : {t' : List ℕ} → lacks n gathering_more.rest ≡ false → Changed t t' r (r + 1) → link t' r ≡ beyond t n (next t r)
          → Gathering s t' first end os es (beyond t n (next t r))
      gathering_operator {t'} k c is =
          let m = gathering_more in
          let order = beyond_order s t n (next t r) end m.rest m.nodes k in
          let within = written_order s t _ end _ (beyond_written s t n (next t r) end m.rest m.nodes k) in
          let u : Unlinked t' (r + 1) end = unlinked_kept (r + 1) end (λ q i j. c.behind q i) (λ q i. g.unlinked q (omega arith)) in
          record {
            rest = without n m.rest;
            from = omega (arith, g.from, m.forward, order);
            written = written_all_kept s c _ _ end (beyond_written s t n (next t r) end m.rest m.nodes k);
            unlinked = λ q i j. u q (omega (arith, m.forward, order)) j;
            shorts = sym (operator_short ∙ rw k);
            gathered = λ t'' d h.
                let all : Changed t t'' r end =
                changed_then (changed_wider c r end (omega arith) (omega (arith, m.forward, m.inside))) (changed_wider d r end (omega (arith, m.forward, order)) (omega arith)) in
                let past = beyond_changed all n (next t r) in
                let next-is = (all.same_rows r).same_next in
                let u' = unlinked_kept (r + 1) (beyond t n (next t r)) (λ q i j. d.before q (omega arith)) (λ q i j. u q i (omega (arith, within))) in
                let operands = gathered_operands s t'' os n (next t r) end m.rest (written_all_kept s all m.rest (next t r) end m.nodes) k
                (rw past (λ q i j. u' q (omega (arith, m.forward)) j)) (rw past h) in
                let link_is : link t'' r ≡ beyond t'' n (next t'' r) = rw (next-is, past, (d.before r (omega (arith, m.forward, order))).first) is in
                let one = gathered_operator t'' os r m.head m.rest n o link_is (rw next-is (λ q i j. u' q i (omega (arith, order)))) (rw next-is operands) in
                g.gathered t'' all (rw m.is one);
          }

-- All that the arity lists may tell, and one of them

pub record Held (s t : List ℕ) (a : Arities) (first end : ℕ) (t' : List ℕ) (r : ℕ) : Type 0 where
  pub operators : List Operator
  pub nodes : Nodes
  pub flat : FlatAt s t a first end operators nodes
  pub changed : Changed t t' first end
  pub marks : SameMarks t t'
  pub each : (os : List Operator) (es : Nodes) → FlatAt s t a first end os es → Gathering s t' first end os es r

-- the arity of the expression at a row, by all of them
abbrev pub ArityAt : List ℕ → List ℕ → Arities → ℕ → Option ℕ → Type 0
ArityAt s t a r n = (os : List Operator) (e : Node) → Tells s t a os → WrittenAt s t r e → n ≡ if_operator os e (λ n. Some n) None

-- an operator, with the row behind its operands, if it isn't short of them
pub record Passing (s : List ℕ) (a : Arities) (t : List ℕ) (r end : ℕ) (p : Option ℕ) : Type 0 where
  pub arity : ℕ
  pub is : ArityAt s t a r (Some arity)
  pub past : (s : List ℕ) (es : Nodes) → WrittenAll s t (next t r) end es → p ≡ (when lacks arity es then None else Some (beyond t arity (next t r)))

-- as the code has found them
pub passing : {s t : List ℕ} {a : Arities} {r q end n : ℕ} {found p : Option ℕ} → ArityAt s t a r (Some n) → q ≡ next t r
    → ((s : List ℕ) (es : Nodes) → WrittenAll s t q end es → found ≡ (when lacks n es then None else Some (beyond t n q))) → found ≡ p → Passing s a t r end p
passing {n = n} i behind past is = record { arity = n; is = i; past = λ s es w. sym is ∙ (rw behind at past) s es w }

module _ {s t : List ℕ} {a : Arities} {first end : ℕ} {t' : List ℕ} {r : ℕ} (h : Held s t a first end t' r) where
  pub held_one : Gathering s t' first end h.operators h.nodes r
  held_one = h.each h.operators h.nodes h.flat

  module _ (l : r < end) where
    pub held_more : MoreWritten s t' r end held_one.rest
    held_more = gathering_more held_one l

    pub held_inside : RowInside t' r
    held_inside = (written_whole s t' r held_more.head held_more.node).0

    pub held_few : end ≤ 65536
    held_few = let m = held_more in written_all_few s t' (next t' r) end m.rest m.nodes (written_few s t' r m.head m.node)

    pub held_operand : ArityAt s t' a r None → Held s t a first end t' (next t' r)
    held_operand found =
        record {
          operators = h.operators;
          nodes = h.nodes;
          flat = h.flat;
          changed = h.changed;
          marks = h.marks;
          each = λ os es f. let g = h.each os es f in let m = gathering_more g l in
              gathering_operand g l (role_operand os m.head (found os m.head (f.tells t' h.changed) m.node));
        }

    -- it is short of them
    module _ (o : Passing s a t' r end None) where
      lacking : (es : Nodes) → WrittenAll s t' (next t' r) end es → lacks o.arity es ≡ true
      lacking es w = go (lacks o.arity es) (o.past s es w)
        where
          go : (b : Bool) → None ≡ (when b then None else Some (beyond t' o.arity (next t' r))) → b ≡ true
          go true q = refl
          go false q = absurd (cc)

      pub held_short : (os : List Operator) (es : Nodes) → FlatAt s t a first end os es → short os 0 es ≡ true
      held_short os es f =
          let g = h.each os es f in
          let m = gathering_more g l in
          gathering_short g l o.arity (role_operator os m.head o.arity (o.is os m.head (f.tells t' h.changed) m.node)) (lacking m.rest m.nodes)

    -- it has them
    module _ {p : ℕ} (o : Passing s a t' r end (Some p)) where
      having : (es : Nodes) → WrittenAll s t' (next t' r) end es → (lacks o.arity es ≡ false) × (p ≡ beyond t' o.arity (next t' r))
      having es w = go (lacks o.arity es) (o.past s es w)
        where
          go : (b : Bool) → Some p ≡ (when b then None else Some (beyond t' o.arity (next t' r))) → (b ≡ false) × (p ≡ beyond t' o.arity (next t' r))
          go true q = absurd (cc)
          go false q = (refl, cc)

      pub held_operator : {t'' : List ℕ} → Changed t' t'' r (r + 1) → link t'' r ≡ p → (mark t'' r ≡ mark t' r) × (child t'' 1 r ≡ child t' 1 r)
          → Held s t a first end t'' p
      held_operator {t''} c is same =
          record {
            operators = h.operators;
            nodes = h.nodes;
            flat = h.flat;
            changed = changed_then h.changed (changed_wider c first end held_one.from (omega arith));
            marks = λ q.
                let o = at_one (λ j. (mark t'' j ≡ mark t' j) × (child t'' 1 j ≡ child t' 1 j)) c same (λ j e. rw (e.first, e.second) (refl, refl)) q in
                (o.0 ∙ (h.marks q).0, o.1 ∙ (h.marks q).1);
            each = λ os es f.
                let g = h.each os es f in
                let m = gathering_more g l in
                let past = having m.rest m.nodes in
                rw past.1
                (gathering_operator g l o.arity (role_operator os m.head o.arity (o.is os m.head (f.tells t' h.changed) m.node)) past.0 c (is ∙ past.1));
          }

      -- the row is behind it, and not behind the list
      pub held_forward : (r < p) × (p ≤ end)
      held_forward =
          let m = held_more in
          let past = having m.rest m.nodes in
          let inside = written_order s t' _ end _ (beyond_written s t' o.arity (next t' r) end m.rest m.nodes past.0) in
          (omega (arith, m.forward, past.1, beyond_order s t' o.arity (next t' r) end m.rest m.nodes past.0), omega (arith, inside, past.1))
