-- Where arguments stand, one after the other: the law behind the loop of `made::spread`, and where one of them is found again.
-- Document 01: "argument n", "the arguments without the first n". Assumes nothing.
use Prim.Native.Nat.{ℕ, zero, suc, ◌+◌, ◌-◌, ◌≤◌, ◌<◌}
use mathlib.Core.Path.{◌≡◌, refl, sym, ap, ◌∙◌, subst}
use mathlib.Core.List.{List, [], ◌++◌, append_assoc, append-nil}
use native.Mathlib.Omega.{arith}
use lib.ListN.{length, drop, get_or, set, length-drop, take-append-drop}
use lib.Seq.{slice, drop-drop, drop-append-le, get_or-set_same, get_or-set_other}
use Rattle.spec.specs.Expr.{Exprs, none, more, size, first, without, rows_all, deepest, bytes, canonical}
use Rattle.spec.specs.Reading.{tokens, check, rows_of}
use Rattle.spec.specs.Calls.{row_at}
use Rattle.laws.specs.Grammar.{Spells, SpellsAll}
use Rattle.laws.proofs.Fits.{FitsAll}
use Rattle.laws.proofs.Tokens.{tokens_few}
use Rattle.laws.proofs.Rows.{rows_few}
use Rattle.laws.proofs.Reading.{check_all, canonical_expr, canonical_spells, read_canonical}
use Rattle.laws.proofs.Steps.{split_size, split_rest, tokens_from}
use Rattle.laws.proofs.Items.{all_rows_count, rows_expr, spelled_rows, expr_first}
use Rattle.reader.specs.Passes.{RightFrom}
use Rattle.reader.proofs.Finding.{spelled_some}
use Rattle.workspace.specs.Packed.{pack, packed_from, packed_to}
use Rattle.workspace.specs.Completed.{Stand, ArgumentsAt}
use Rattle.rows.proofs.Slices.{slice_split, slice_take}
use Rattle.workspace.proofs.Packing.{from_packed, to_packed}
use Rattle.workspace.proofs.Areas.{stand_none, slice_front}

-- values with these bytes that can be read
pub record Values (s : List ℕ) (vs : Exprs) : Type 0 where
  pub is : s ≡ canonical vs
  pub fits : FitsAll vs
  pub shallow : deepest vs ≤ 64

-- values that are left at a byte are right
pub values_right : (s : List ℕ) (p : ℕ) (vs : Exprs) → Values (drop p s) vs → RightFrom s p 0
unfolding check tokens
values_right s p vs v =
    let x = drop p s in
    let spells : SpellsAll vs x = subst (SpellsAll vs) (sym v.is) (canonical_spells vs v.fits) in
    let counted : length (rows_of (tokens 0 0 x)) ≡ rows_all vs = ap length (spelled_rows vs x spells) ∙ all_rows_count vs x spells 0 in
    let few : rows_all vs ≤ length s = omega (arith, rows_few (tokens 0 0 x), tokens_few x 0 0, length-drop p s) in (
      0,
      0,
      ap (λ (l : List ℕ). check 0 (length s) (tokens p 0 l) 0 0) (sym (append-nil x))
          ∙ check_all (length s) vs x spells 0 p 0 0 [] (omega (arith, v.shallow)) (omega arith),
    )

-- of all values of a stream the first n are passed at byte p, where each stands is in `args`, and the others are left
pub record Spreading (s : List ℕ) (base : ℕ) (args : List ℕ) (p n : ℕ) (all left : Exprs) : Type 0 where
  pub inside : p ≤ length s
  pub few : n ≤ p
  pub values : Values s all
  pub others : Values (drop p s) left
  pub count : size all ≡ n + size left
  pub stand : (w args' : List ℕ) → slice base (base + length s) w ≡ s → ((i : ℕ) → i < n → get_or args' i 0 ≡ get_or args i 0)
      → ArgumentsAt w args' n (base + p) (base + length s) left → ArgumentsAt w args' 0 base (base + length s) all

pub spreading_start : {s : List ℕ} (base : ℕ) (args : List ℕ) {vs : Exprs} → Values s vs → Spreading s base args 0 0 vs vs
spreading_start base args v =
    let start : base + 0 ≡ base = omega arith in
    record { inside = omega arith; few = omega arith; values = v; others = v; count = omega arith; stand = λ w args' here same at. rw start at at }

-- a stream has one list of values
values_same : (s : List ℕ) (vs us : Exprs) → length s ≤ 65536 → Values s vs → Values s us → vs ≡ us
values_same s vs us short v u =
    let room : ℕ = rows_all vs + rows_all us in
    let one = rw (← v.is) at (read_canonical vs room v.fits v.shallow (rw (← v.is) short) (omega arith)) in
    let two = rw (← u.is) at (read_canonical us room u.fits u.shallow (rw (← u.is) short) (omega arith)) in
    cc

-- what is left from the start of a part on begins with the part
pub slice_rest : (a b : ℕ) (w x : List ℕ) → slice a b w ≡ x → drop a w ≡ x ++ drop (b - a) (drop a w)
slice_rest a b w x is =
    let rest = drop (b - a) (drop a w) in
    sym (take-append-drop (b - a) (drop a w)) ∙ ap (λ (l : List ℕ). l ++ rest) (sym (slice_take a b w) ∙ is)

-- bytes of a part of a list, as bytes of the list
part_slice : (w s : List ℕ) (base p : ℕ) (x y : List ℕ) → slice base (base + length s) w ≡ s → p ≤ length s → drop p s ≡ x ++ y
    → slice (base + p) (base + (p + length x)) w ≡ x
part_slice w s base p x y here h split =
    let rest = drop (base + length s - base) (drop base w) in
    let from : drop (base + p) w ≡ x ++ (y ++ rest) =
    sym (drop-drop p base w)
    ∙ ap (drop p) (slice_rest base (base + length s) w s here)
    ∙ drop-append-le p s rest h
    ∙ rw split (append_assoc x y rest) in
    slice_front (base + p) (base + (p + length x)) w x (y ++ rest) from (omega arith)

-- the first of the values that are left ends at e
pub record Ended (s : List ℕ) (base : ℕ) (args : List ℕ) (p n : ℕ) (all : Exprs) (e : ℕ) : Type 0 where
  pub forward : p < e
  pub inside : e ≤ length s
  pub left : Exprs
  pub next : Spreading s base (set args n (pack (base + p) (base + e))) e (n + 1) all left

module _ {s : List ℕ} {base : ℕ} {args : List ℕ} {p n : ℕ} {all : Exprs} where
  pub spreading_end : (left : Exprs) → Spreading s base args p n all left → length s ≤ p → length s ≤ 65536
      → (w : List ℕ) (vs : Exprs) → Values s vs → slice base (base + length s) w ≡ s → (n ≡ size vs) × ArgumentsAt w args 0 base (base + length s) vs
  unfolding size bytes ArgumentsAt
  spreading_end none f h short w vs v here =
      rw (values_same s vs all short v f.values) (omega (arith, f.count), f.stand w args here (λ i l. refl) (omega (arith, f.inside)))
  spreading_end (more c es) f h short w vs v here =
      let some = spelled_some c (bytes c) (canonical_expr c f.others.fits.0) in
      absurd (omega (arith, split_size s p (bytes c) (canonical es) f.others.is))

  pub spreading_turn : (left : Exprs) → Spreading s base args p n all left → (e : ℕ) → e ≡ (row_at (rows_of (tokens_from s p)) 0).end
      → (n < 64 → n < length args) → p < length s → Ended s base args p n all e
  unfolding size deepest bytes ArgumentsAt
  spreading_turn none f e at_end packs inside = absurd (omega (arith, ap length f.others.is, length-drop p s))
  spreading_turn (more c es) f e at_end packs inside =
      let v = f.others in
      let x = bytes c in
      let y = canonical es in
      let spells : Spells c x = canonical_expr c v.fits.0 in
      let length-left = split_size s p x y v.is in
      let some = spelled_some c x spells in
      let first : (row_at (rows_of (tokens_from s p)) 0).end ≡ p + length x =
      rw (v.is, rows_expr c x spells p y) (expr_first c x spells p (rows_of (tokens (p + length x) 0 y))).1 in
      let end : e ≡ p + length x = at_end ∙ first in
      record {
        forward = omega arith;
        inside = omega arith;
        left = es;
        next = record {
          inside = omega arith;
          few = omega (arith, f.few);
          values = f.values;
          others = record { is = rw end (sym (split_rest s p x y v.is)); fits = v.fits.1; shallow = omega (arith, v.shallow) };
          count = omega (arith, f.count);
          stand = λ w args' here same on. f.stand w args' here
              (λ i h. same i (omega arith) ∙ get_or-set_other args n i (pack (base + p) (base + e)) 0 (λ z. omega arith)) (
                base + e,
                omega arith,
                omega arith,
                rw end (part_slice w s base p x y here f.inside v.is),
                λ h. same n (omega arith) ∙ get_or-set_same args n (pack (base + p) (base + e)) 0 (packs h),
                on,
              );
        };
      }

-- Arguments found again

pub arguments_stand : (w args : List ℕ) (i from to : ℕ) (vs : Exprs) → to ≤ length w → ArgumentsAt w args i from to vs → Stand w from to vs
unfolding ArgumentsAt canonical
arguments_stand w args i from to none h a = rw a (stand_none to h)
arguments_stand w args i from to (more v vs) h a =
    let rest = arguments_stand w args (i + 1) a.0 to vs h a.5 in
    let first = a.1 in
    let later = a.2 in
    record { order = omega arith; inside = h; bytes = slice_split from a.0 to w (omega arith) later h ∙ rw (a.3, rest.bytes) }

-- an argument, whose part is packed, and with it those behind it, which end at `to`
pub record ArgumentAt (w : List ℕ) (packed to : ℕ) (vs : Exprs) : Type 0 where
  pub own : Stand w (packed_from packed) (packed_to packed) (first 1 vs)
  pub all : Stand w (packed_from packed) to vs

pub argument_at : (w args : List ℕ) (i from to : ℕ) (vs : Exprs) (n j : ℕ) → to ≤ length w → length w ≤ 65536 → ArgumentsAt w args i from to vs
    → n < size vs → j ≡ i + n → j < 64 → ArgumentAt w (get_or args j 0) to (without n vs)
unfolding ArgumentsAt canonical size without first
argument_at w args i from to none n j h g a l e k = absurd (omega arith)
argument_at w args i from to (more v vs) zero j h g a l e k =
    let here : j ≡ i = omega arith in
    let order = a.1 in
    let mid = a.2 in
    let begins = from_packed from a.0 order (omega arith) in
    rw (here, a.4 (omega arith)) record {
      own = rw (begins, to_packed from a.0 order (omega arith)) record { order = omega arith; inside = omega arith; bytes = a.3 ∙ sym (append-nil (bytes v)) };
      all = rw begins (arguments_stand w args i from to (more v vs) h a);
    }
argument_at w args i from to (more v vs) (suc n) j h g a l e k = argument_at w args (i + 1) a.0 to vs n j h g a.5 (omega arith) (omega arith) k
