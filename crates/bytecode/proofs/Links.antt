-- Laws of what is linked: the row behind so many expressions, the operands of an operator, and the pieces that a flat list is gathered to.
-- Document 02, §1: "then as many next expressions as its arity". Assumes nothing.
use Prim.Native.Nat.{ℕ, zero, suc, ◌+◌, ◌*◌, ◌≤◌, ◌<◌}
use mathlib.Core.Path.{◌≡◌, refl, sym, ap, ◌∙◌}
use mathlib.Core.List.{List}
use mathlib.Core.Bool.{true, false, ◌||◌}
use native.Mathlib.Decide.{ℕ_discrete, dec_lt}
use native.Mathlib.Omega.{arith}
use Rattle.std.specs.Prelude.{Some, None}
use lib.ListN.{length}
use Rattle.spec.specs.Expr.{when◌then◌else◌}
use Rattle.spec.specs.Reading.{row_width}
use Rattle.spec.specs.Nodes.{Node, leaf, branch, bytecode, Nodes, empty, cons}
use Rattle.spec.specs.Bytecode.{Operator, if_operator, short}
use Rattle.spec.proofs.Made.{keep}
use Rattle.spec.proofs.Flat.{Role, operator, operand, role, by_role, by_its_role, by_operand, by_operator, without}
use Rattle.rows.specs.Rows.{kind, next, link, ReferenceAt, WrittenAt, WrittenAll}
use Rattle.rows.proofs.Nodes.{MoreWritten, written_done, written_more}
use Rattle.rows.proofs.Parts.{written_reference}
use Rattle.rows.proofs.Written.{written_each}
use Rattle.bytecode.specs.Numbers.{Same, Changed, Unlinked}
use Rattle.bytecode.specs.Gathered.{beyond, lacks, GatheredAt}
use Rattle.bytecode.proofs.Changing.{same_elsewhere}

-- Rows

-- what holds at the one row that is changed, and where a row is the same, holds at every row
pub at_one : {t t' : List ℕ} {r : ℕ} (P : ℕ → Type 0) → Changed t t' r (r + 1) → P r → ((q : ℕ) → Same t t' q → P q) → (q : ℕ) → P q
at_one {r = r} P c here there q = elim (ℕ_discrete q r) [ yes e ↦ rw e here | no n ↦ there q (same_elsewhere c q (omega arith) n) ]

-- no row is behind the last that a table can have
module _ (s t : List ℕ) where
  mutual
    unfolding WrittenAt

    pub written_few : (r : ℕ) (e : Node) → WrittenAt s t r e → next t r ≤ 65536
    written_few r (leaf q a) h = omega (arith, h.1.on, h.1.row.few)
    written_few r (branch q es) h = written_all_few (r + 1) (next t r) es h.2 (omega (arith, h.1.few))
    written_few r (bytecode q es o) h = absurd h

    pub written_all_few : (r end : ℕ) (es : Nodes) → WrittenAll s t r end es → r ≤ 65536 → end ≤ 65536
    written_all_few r end empty h l = omega (arith, h)
    written_all_few r end (cons e es) h l = written_all_few (next t r) end es h.3 (written_few r e h.2)

-- So many expressions

-- what is left of n expressions, from a row on
pub record Passed (s t : List ℕ) (first end n : ℕ) (es : Nodes) (r left : ℕ) : Type 0 where
  pub rest : Nodes
  pub written : WrittenAll s t r end rest
  pub lacking : lacks left rest ≡ lacks n es
  pub behind : beyond t left r ≡ beyond t n first

module _ {s t : List ℕ} {first end n : ℕ} {es : Nodes} where
  pub passed_none : WrittenAll s t first end es → Passed s t first end n es first n
  passed_none h = record { rest = es; written = h; lacking = refl; behind = refl }

  pub passed_all : {r : ℕ} → Passed s t first end n es r 0 → Some r ≡ (when lacks n es then None else Some (beyond t n first))
  unfolding lacks beyond
  passed_all p = rw (← p.lacking, ← p.behind)

  module _ {r left : ℕ} (p : Passed s t first end n es r (suc left)) where
    pub passed_few : end ≤ r → None ≡ (when lacks n es then None else Some (beyond t n first))
    unfolding lacks
    passed_few g =
        let none : lacks n es ≡ true = sym p.lacking ∙ ap (lacks (suc left)) (written_done s t r end p.rest p.written g) in
        rw none

    pub passed_more : r < end → MoreWritten s t r end p.rest
    passed_more g = written_more s t r end p.rest p.written g

    pub passed_next : r < end → Passed s t first end n es (next t r) left
    unfolding lacks beyond
    passed_next g =
        let m = passed_more g in
        record { rest = m.rest; written = m.nodes; lacking = ap (lacks (suc left)) (sym m.is) ∙ p.lacking; behind = p.behind }

-- Operators

-- by the arity that the code finds
module _ (os : List Operator) (e : Node) where
  pub role_operand : None ≡ if_operator os e (λ n. Some n) None → role os e ≡ operand
  role_operand h = go (role os e) (h ∙ by_its_role os e (λ n. Some n) None)
    where
      go : (x : Role) → None ≡ by_role (λ n. Some n) None x → x ≡ operand
      go (operator n) q = absurd (cc)
      go operand q = refl

  pub role_operator : (n : ℕ) → Some n ≡ if_operator os e (λ n. Some n) None → role os e ≡ operator n
  role_operator n h = go (role os e) (h ∙ by_its_role os e (λ n. Some n) None)
    where
      go : (x : Role) → Some n ≡ by_role (λ n. Some n) None x → x ≡ operator n
      go (operator k) q = let same : n ≡ k = cc in rw same
      go operand q = absurd (cc)

-- what is short of operands
pub short_lacks : (os : List Operator) (n : ℕ) (es : Nodes) → short os n es ≡ lacks n es || short os 0 (without n es)
unfolding short lacks without
short_lacks os zero es = refl
short_lacks os (suc n) empty = refl
short_lacks os (suc n) (cons e es) = short_lacks os n es

-- Behind the operands

module _ (s t : List ℕ) where
  pub beyond_written : (n r end : ℕ) (es : Nodes) → WrittenAll s t r end es → lacks n es ≡ false → WrittenAll s t (beyond t n r) end (without n es)
  unfolding beyond lacks without WrittenAt
  beyond_written zero r end es h l = h
  beyond_written (suc n) r end empty h l = absurd (cc)
  beyond_written (suc n) r end (cons e es) h l = beyond_written n (next t r) end es h.3 l

  pub beyond_order : (n r end : ℕ) (es : Nodes) → WrittenAll s t r end es → lacks n es ≡ false → r ≤ beyond t n r
  unfolding beyond lacks WrittenAt
  beyond_order zero r end es h l = omega arith
  beyond_order (suc n) r end empty h l = absurd (cc)
  beyond_order (suc n) r end (cons e es) h l = omega (arith, h.0, beyond_order n (next t r) end es h.3 l)

  pub beyond_kept : (n r end : ℕ) (es : Nodes) → WrittenAll s t r end es → lacks n es ≡ false → WrittenAll s t r (beyond t n r) (keep n es)
  unfolding beyond lacks keep WrittenAt
  beyond_kept zero r end es h l = refl
  beyond_kept (suc n) r end empty h l = absurd (cc)
  beyond_kept (suc n) r end (cons e es) h l =
      (h.0, beyond_order n (next t r) end es h.3 l, h.2, beyond_kept n (next t r) end es h.3 l)

  -- the first n are operands: nothing is linked up to the row behind them, the others are gathered
  pub gathered_operands : (os : List Operator) (n r end : ℕ) (es : Nodes) → WrittenAll s t r end es → lacks n es ≡ false → Unlinked t r (beyond t n r)
      → GatheredAt t os 0 (beyond t n r) (without n es) → GatheredAt t os n r es
  unfolding beyond lacks without GatheredAt WrittenAt
  gathered_operands os zero r end es h l u g = g
  gathered_operands os (suc n) r end empty h l u g = absurd (cc)
  gathered_operands os (suc n) r end (cons e es) h l u g =
      let order = beyond_order n (next t r) end es h.3 l in (
        λ q i j. u q i (omega arith),
        gathered_operands os n (next t r) end es h.3 l (λ q i j. u q (omega (arith, h.0)) j) g,
      )

  pub operands_gathered : (os : List Operator) (n r end : ℕ) (es : Nodes) → WrittenAll s t r end es → lacks n es ≡ false → GatheredAt t os n r es
      → Unlinked t r (beyond t n r) × GatheredAt t os 0 (beyond t n r) (without n es)
  unfolding beyond lacks without GatheredAt WrittenAt
  operands_gathered os zero r end es h l g = ((λ q i j. absurd (omega arith)), g)
  operands_gathered os (suc n) r end empty h l g = absurd (cc)
  operands_gathered os (suc n) r end (cons e es) h l g =
      let rest = operands_gathered os n (next t r) end es h.3 l g.1 in
      (λ q i j. elim (dec_lt q (next t r)) [ yes k ↦ g.0 q i k | no k ↦ rest.0 q (omega arith) j ], rest.1)

pub beyond_changed : {t t' : List ℕ} {from to : ℕ} → Changed t t' from to → (n r : ℕ) → beyond t' n r ≡ beyond t n r
unfolding beyond
beyond_changed c zero r = refl
beyond_changed {t} {t'} c (suc n) r = beyond_changed c n (next t' r) ∙ ap (beyond t n) (c.same_rows r).same_next

pub unlinked_kept : {t t' : List ℕ} (from to : ℕ) → ((r : ℕ) → from ≤ r → r < to → Same t t' r) → Unlinked t from to → Unlinked t' from to
unlinked_kept from to same u r h l = let z = same r h l in rw (z.first, z.second) (u r h l)

-- one more is gathered, by its role
module _ (t : List ℕ) (os : List Operator) (r : ℕ) (e : Node) (es : Nodes) where
  pub gathered_operand : role os e ≡ operand → r < next t r → Unlinked t r (next t r) → GatheredAt t os 0 (next t r) es
      → GatheredAt t os 0 r (cons e es)
  unfolding GatheredAt
  gathered_operand o l u g = (
    rw (by_operand os e (λ n. beyond t n (next t r)) 0 o) (u r (omega arith) l).0,
    λ q i j. u q (omega arith) j,
    rw (by_operand os e (λ n. n) 0 o) g,
  )

  pub gathered_operator : (n : ℕ) → role os e ≡ operator n → link t r ≡ beyond t n (next t r) → Unlinked t (r + 1) (next t r)
      → GatheredAt t os n (next t r) es → GatheredAt t os 0 r (cons e es)
  unfolding GatheredAt
  gathered_operator n o l u g = (rw (by_operator os e (λ n. beyond t n (next t r)) 0 n o) l, u, rw (by_operator os e (λ n. n) 0 n o) g)

-- every row of an expression is in the table, and each of a reference's kind is one
module _ (s t : List ℕ) where
  mutual
    unfolding WrittenAt

    pub written_inside : (r : ℕ) (e : Node) → WrittenAt s t r e → row_width * next t r ≤ length t
    written_inside r (leaf q a) h = omega (arith, h.1.on, h.1.row.inside)
    written_inside r (branch q es) h = written_all_inside (r + 1) (next t r) es h.2 (omega (arith, h.1.inside))
    written_inside r (bytecode q es o) h = absurd h

    written_all_inside : (r end : ℕ) (es : Nodes) → WrittenAll s t r end es → row_width * r ≤ length t → row_width * end ≤ length t
    written_all_inside r end empty h l = omega (arith, h)
    written_all_inside r end (cons e es) h l = written_all_inside (next t r) end es h.3 (written_inside r e h.2)

  pub written_references : (r : ℕ) (e : Node) → WrittenAt s t r e → (q : ℕ) → r ≤ q → q < next t r → kind t q ≡ 4 → ReferenceAt s t q
  unfolding WrittenAll
  written_references r e h q i j k =
      let f = written_each s t r (next t r) (cons e empty) (omega (arith, i, j), omega arith, h, refl) q i j in
      let w = written_reference s t q f.0 f.1 k in
      record { marker = w.marker; name = w.name; leaf_at = w.here }
