-- Laws of the join of two arrays that stand in the workspace. Document 01: "both arrays; their bytes joined". Assumes nothing.
use Prim.Native.Nat.{ℕ, ◌+◌, ◌-◌, ◌≤◌, ◌<◌}
use mathlib.Core.Path.{◌≡◌, refl, sym, ap, ◌∙◌}
use mathlib.Core.List.{List, [], ◌∷◌, ◌++◌, append_assoc, append-nil, head-eq_of_cons-eq}
use native.Mathlib.Omega.{arith}
use lib.ListN.{length, drop, length-append}
use lib.Seq.{slice, length-slice, drop-cons}
use borrow.Author.Tests.{lt-ltb}
use Rattle.std.specs.Prelude.{Ok, Option, Some, None}
use Rattle.spec.specs.Expr.{nil, array, int, ref, Expr, atom, form, more, only, array_head, atom_bytes, bytes, canonical}
use Rattle.spec.specs.Reading.{Token, opening, whole, tokens}
use Rattle.laws.proofs.Basics.{impossible}
use Rattle.laws.proofs.Fits.{FitsExpr, FitsAll}
use Rattle.laws.proofs.Spelling.{canonical_atom}
use Rattle.laws.proofs.Reading.{tokens_atom, tokens_form, canonical_expr}
use Rattle.laws.proofs.Steps.{split_size, split_rest}
use Rattle.atoms.specs.Tokens.{token_at, shown}
use Rattle.reader.proofs.Finding.{spelled_some}
use Rattle.writer.specs.Bytes.{put_at, Put}
use Rattle.writer.proofs.Puts.{written_on}
use Rattle.workspace.specs.Joins.{array_of, array_at}
use Rattle.workspace.specs.Completed.{Fitting, Stand, Untouched, Complete}
use Rattle.std.specs.declared.ops.Range.{Range}
use Rattle.workspace.specs.declared.values.State.{State}
use Rattle.workspace.proofs.Areas.{stand_size, slice_front, untouched_then, slice_below, put_untouched, slice_put, moved}
use Rattle.workspace.proofs.Completing.{charge, paid, Sized, completed, only_atom}
use Rattle.workspace.proofs.Spread.{slice_rest}

-- The join of two arrays

-- a part below the top, of i bytes, written behind bytes that stand from the top on
put_behind : (w new : List ℕ) (top p q at i : ℕ) (xs : List ℕ) → Put w top xs new at → q ≤ top → top + length xs ≤ length w → i ≡ q - p
    → Put w top (xs ++ slice p q w) (moved new p q at) (at + i)
put_behind w new top p q at i xs put h room long =
    let same : slice p q new ≡ slice p q w =
    rw put.is (slice_below (put_untouched w top xs room top (top + length xs) (omega arith) (omega arith)) p q h) in
    written_on {bs = xs} room put (record { place = omega (arith, length-slice p q w (omega arith)); is = ap (put_at new at) same })

-- two parts below the top, of i and j bytes, as one array, which has n bytes with its head
module _ (w : List ℕ) (st : State) (a b : Range ℕ) (fits : Fitting w st) (inside : a.end ≤ st.top) (inside' : b.end ≤ st.top)
    (i j n : ℕ) (first_long : i ≡ a.end - a.start) (second_long : j ≡ b.end - b.start) (sized : n ≡ length (array_head (i + j)) + (i + j)) where
  abbrev first : List ℕ
  first = slice a.start a.end w

  abbrev second : List ℕ
  second = slice b.start b.end w

  abbrev head : List ℕ
  head = array_head (i + j)

  first_size : length first ≡ i
  first_size = length-slice a.start a.end w (omega (arith, fits.paid, fits.below)) ∙ sym first_long

  second_size : length second ≡ j
  second_size = length-slice b.start b.end w (omega (arith, fits.paid, fits.below)) ∙ sym second_long

  join_bytes : canonical (only (atom (array (first ++ second)))) ≡ (head ++ first) ++ second
  unfolding atom_bytes
  join_bytes = (only_atom (array (first ++ second))).0 ∙ rw (length-append first second, first_size, second_size) (sym (append_assoc head first second))

  pub join_sized : Sized (only (atom (array (first ++ second)))) n
  join_sized = record { shallow = (only_atom (array (first ++ second))).1; size = ap length join_bytes ∙ simp (length-append, first_size, second_size) (omega arith) }

  -- the head above the top, behind it the two parts, then all of it moved down
  pub join_kept : {start : ℕ} (row : ℕ) {w₁ w₂ w₃ w' : List ℕ} {at : ℕ} {st' : State} → start ≤ st.top → Ok st' ≡ charge st n (start + n) row → Put w st.top head w₁ at
      → w₂ ≡ moved w₁ a.start a.end at → w₃ ≡ moved w₂ b.start b.end (at + i) → w' ≡ moved w₃ st.top (st.top + n) start
      → Complete w w' st start (only (atom (array (first ++ second)))) st'
  join_kept {start} row {w₁} {w₂} {w₃} {w'} {at} {st'} h is headed one two down =
      let few = paid st n (start + n) row (Ok st') is in
      let top : ℕ = st.top in
      let all = canonical (only (atom (array (first ++ second)))) in
      let size = join_sized.size in
      let room : top + length all ≤ length w = omega (arith, fits.paid, fits.below) in
      let part = length-append head first in
      let put₁ : Put w top (head ++ first) w₂ (at + i) = rw one (put_behind w w₁ top a.start a.end at i head headed inside (omega arith) first_long) in
      let put₂ = put_behind w w₂ top b.start b.end (at + i) j (head ++ first) put₁ inside' (omega (arith, first_size)) second_long in
      let put : w₃ ≡ put_at w top all = two ∙ put₂.is ∙ ap (put_at w top) (sym join_bytes) in
      let back : slice top (top + n) w₃ ≡ all = rw (put, ← size) (slice_put w top all room) in
      let others : Untouched w w₃ start st.floor = rw put (put_untouched w top all room start st.floor h (omega (arith, fits.paid))) in
      let fits₃ : Fitting w₃ st = record { paid = fits.paid; below = omega (arith, others.size, fits.below); short = omega (arith, others.size, fits.short) } in
      let k = completed join_sized st start row (Ok st') fits₃ h is (λ l. down ∙ ap (put_at w₃ start) back) in
      record { shallow = k.shallow; charged = k.charged; state = k.state; stand = k.stand; others = untouched_then others k.others }

-- Whether a value is an array

-- what begins a value's canonical bytes
abbrev front_token : Expr → ℕ → Token
front_token (atom a) p = whole a p (p + length (atom_bytes a))
front_token (form es) p = opening p

-- a value that is an array whose bytes are from p up to q
pub record IsArray (w : List ℕ) (to : ℕ) (e : Expr) (p q : ℕ) : Type 0 where
  pub own : List ℕ
  pub is : e ≡ atom (array own)
  pub order : p ≤ q
  pub end : q ≡ to
  pub part : slice p q w ≡ own

-- what the code is told of a value that ends at `to`
abbrev pub Operand : List ℕ → ℕ → Expr → Option (Range ℕ) → Type 0
Operand w to e (Some part) = IsArray w to e part.start part.end
Operand w to e None = (bs : List ℕ) → e ≡ atom (array bs) → ⊥

-- a value from byte p on, whatever is behind it
module _ (w : List ℕ) (p : ℕ) (e : Expr) (u : List ℕ) (fits : FitsExpr e) (here : drop p w ≡ bytes e ++ u) where
  stands_inside : p < length w
  stands_inside = omega (arith, split_size w p (bytes e) u here, spelled_some e (bytes e) (canonical_expr e fits))

  tokens_front : (x : Expr) → FitsExpr x → (ts : List Token) × (tokens p 0 (bytes x ++ u) ≡ front_token x p ∷ ts)
  unfolding bytes
  tokens_front (atom a) f = (tokens (p + length (atom_bytes a)) 0 u, tokens_atom a (atom_bytes a) (canonical_atom a f) p u)
  tokens_front (form es) f = (tokens (p + 1) 0 (canonical es ++ (0x02 ∷ u)), tokens_form (canonical es) p u)

  token_front : token_at w p ≡ front_token e p
  unfolding tokens
  token_front = head-eq_of_cons-eq (ap (λ (l : List ℕ). tokens p 0 l) (sym (drop-cons w p 0 stands_inside) ∙ here) ∙ (tokens_front e fits).1)

  -- an array's own bytes are the last of its canonical ones
  array_part : (bs : List ℕ) → e ≡ atom (array bs) → let to : ℕ = p + length (atom_bytes (array bs)) in slice (to - length bs) to w ≡ bs
  unfolding bytes atom_bytes
  array_part bs is =
      let hs = array_head (length bs) in
      let to : ℕ = p + length (hs ++ bs) in
      let split : drop p w ≡ hs ++ (bs ++ u) = here ∙ rw is (append_assoc hs bs u) in
      let from : to - length bs ≡ p + length hs = omega (arith, length-append hs bs) in
      slice_front (to - length bs) to w bs u (rw from (sym (split_rest w p hs (bs ++ u) split))) (omega (arith, length-append hs bs))

  operand : Operand w (p + length (bytes e)) e (array_at w p)
  unfolding bytes
  operand = rw (lt-ltb p (length w) stands_inside, token_front) (go e refl)
    where
      go : (x : Expr) → e ≡ x → Operand w (p + length (bytes x)) x (array_of (shown (front_token x p)))
      go (atom nil) is = λ bs q. impossible (cc)
      go (atom (array bs)) is = record { own = bs; is = refl; order = omega arith; end = refl; part = array_part bs is }
      go (atom (int v)) is = λ bs q. impossible (cc)
      go (atom (ref m n)) is = λ bs q. impossible (cc)
      go (form es) is = λ bs q. impossible (cc)

-- the two operands of a concat
module _ {w : List ℕ} {start top : ℕ} {a b : Expr} (there : Stand w start top (more a (only b))) (fits : FitsAll (more a (only b))) where
  operands_here : (u : List ℕ) × (drop start w ≡ bytes a ++ (bytes b ++ u))
  unfolding bytes
  operands_here =
      let both : canonical (more a (only b)) ≡ bytes a ++ bytes b = ap (λ (l : List ℕ). bytes a ++ l) (append-nil (bytes b)) in
      (_, slice_rest start top w (bytes a ++ bytes b) (there.bytes ∙ both) ∙ append_assoc (bytes a) (bytes b) _)

  pub operands_end : start + length (bytes a) + length (bytes b) ≡ top
  unfolding bytes
  operands_end = omega (arith, there.order, stand_size there, length-append (bytes a) (bytes b ++ []), length-append (bytes b) [])

  pub first_operand : {r : Option (Range ℕ)} → r ≡ array_at w start → Operand w (start + length (bytes a)) a r
  first_operand told = rw told (operand w start a (bytes b ++ operands_here.0) fits.0 operands_here.1)

  pub second_operand : {q : ℕ} {r : Option (Range ℕ)} → q ≡ start + length (bytes a) → r ≡ array_at w q → Operand w top b r
  second_operand {q} mid told =
      let behind = sym (split_rest w start (bytes a) (bytes b ++ operands_here.0) operands_here.1) in
      rw (told, mid, ← operands_end) (operand w (start + length (bytes a)) b operands_here.0 fits.1.0 behind)
