-- Laws of parts of the workspace: one behind the other, what is written and what that leaves as it was, and a move.
-- Document 01: "Workspace" says how much; where in it is the code's own. Assumes nothing.
use Prim.Native.Nat.{ℕ, ◌+◌, ◌-◌, ◌≤◌}
use mathlib.Core.Path.{◌≡◌, refl, sym, ap, ◌∙◌}
use mathlib.Core.List.{List, [], ◌++◌, append_assoc, append-nil}
use lib.ListN.{length, take, drop, length-append, take-append-drop}
use lib.Seq.{slice, slice_empty, length-slice, length-take-le, take_at, drop_at, take-take, drop-drop}
use native.Mathlib.Omega.{arith}
use Rattle.std.specs.List.{copy_within}
use Rattle.writer.specs.Bytes.{put_at}
use Rattle.writer.proofs.Puts.{length_put_at}
use Rattle.spec.specs.Expr.{Exprs, none, append, canonical}
use Rattle.laws.proofs.Canonical.{canonical_append}
use Rattle.laws.proofs.Steps.{split_rest}
use Rattle.rows.proofs.Slices.{slice_split, slice_take}
use Rattle.workspace.specs.Completed.{Stand, Untouched}

-- Parts

pub stand_size : {w : List ℕ} {from to : ℕ} {vs : Exprs} → Stand w from to vs → length (canonical vs) ≡ to - from
stand_size {w} {from} {to} there = ap length (sym there.bytes) ∙ length-slice from to w there.inside

pub stand_none : {w : List ℕ} (a : ℕ) → a ≤ length w → Stand w a a none
unfolding canonical
stand_none {w} a h = record { order = omega arith; inside = h; bytes = slice_empty a w }

-- values one after the other
pub stand_append : {w : List ℕ} {a b c : ℕ} {vs us : Exprs} → Stand w a b vs → Stand w b c us → Stand w a c (append vs us)
stand_append {w} {a} {b} {c} {vs} {us} x y = record {
  order = omega (arith, x.order, y.order);
  inside = y.inside;
  bytes = slice_split a b c w x.order y.order y.inside ∙ rw (x.bytes, y.bytes) (sym (canonical_append vs us));
}

pub stand_part : {w : List ℕ} {from to : ℕ} {vs : Exprs} → Stand w from to vs → take (to - from) (drop from w) ≡ canonical vs
stand_part {w} {from} {to} there = sym (slice_take from to w) ∙ there.bytes

-- what stands in front of a rest is a part
pub slice_front : (a b : ℕ) (w x u : List ℕ) → drop a w ≡ x ++ u → b ≡ a + length x → slice a b w ≡ x
slice_front a b w x u is end = slice_take a b w ∙ rw is (take_at x u (b - a) (omega arith))

-- What is left as it was

pub untouched_none : (w : List ℕ) (below from : ℕ) → Untouched w w below from
untouched_none w below from = record { size = refl; lower = refl; upper = refl }

pub untouched_less : {w w' : List ℕ} {below from : ℕ} (below' from' : ℕ) → below' ≤ below → from ≤ from' → Untouched w w' below from
    → Untouched w w' below' from'
untouched_less {w} {w'} {below} {from} below' from' h h' u =
    let far : from + (from' - from) ≡ from' = omega arith in
    record {
      size = u.size;
      lower = sym (take-take below' below w' h) ∙ ap (take below') u.lower ∙ take-take below' below w h;
      upper = rw (← far) (sym (drop-drop (from' - from) from w') ∙ ap (drop (from' - from)) u.upper ∙ drop-drop (from' - from) from w);
    }

pub untouched_then : {w w' w'' : List ℕ} {below from : ℕ} → Untouched w w' below from → Untouched w' w'' below from → Untouched w w'' below from
untouched_then u v = record { size = v.size ∙ u.size; lower = v.lower ∙ u.lower; upper = v.upper ∙ u.upper }

module _ {w w' : List ℕ} {below from : ℕ} (u : Untouched w w' below from) where
  pub slice_below : (a b : ℕ) → b ≤ below → slice a b w' ≡ slice a b w
  slice_below a b h = ap (drop a) (untouched_less b from h (omega arith) u).lower

  slice_above : (a b : ℕ) → from ≤ a → slice a b w' ≡ slice a b w
  slice_above a b h =
      slice_take a b w' ∙ ap (take (b - a)) (untouched_less below a (omega arith) h u).upper ∙ sym (slice_take a b w)

  pub stand_below : {a b : ℕ} {vs : Exprs} → b ≤ below → Stand w a b vs → Stand w' a b vs
  stand_below {a} {b} h there =
      record { order = there.order; inside = omega (arith, u.size, there.inside); bytes = slice_below a b h ∙ there.bytes }

  pub stand_above : {a b : ℕ} {vs : Exprs} → from ≤ a → Stand w a b vs → Stand w' a b vs
  stand_above {a} {b} h there =
      record { order = there.order; inside = omega (arith, u.size, there.inside); bytes = slice_above a b h ∙ there.bytes }

-- What is written

module _ (w : List ℕ) (at : ℕ) (bs : List ℕ) (room : at + length bs ≤ length w) where
  put_split : put_at w at bs ≡ take at w ++ (bs ++ drop (at + length bs) w)
  unfolding put_at
  put_split = append_assoc (take at w) bs (drop (at + length bs) w)

  put_lower : take at (put_at w at bs) ≡ take at w
  put_lower = ap (take at) put_split ∙ take_at (take at w) (bs ++ drop (at + length bs) w) at (length-take-le at w (omega arith))

  put_from : drop at (put_at w at bs) ≡ bs ++ drop (at + length bs) w
  put_from = ap (drop at) put_split ∙ drop_at (take at w) (bs ++ drop (at + length bs) w) at (length-take-le at w (omega arith))

  pub put_untouched : (below from : ℕ) → below ≤ at → at + length bs ≤ from → Untouched w (put_at w at bs) below from
  put_untouched below from h h' =
      let upper = sym (split_rest (put_at w at bs) at bs (drop (at + length bs) w) put_from) in
      untouched_less below from h h' (record { size = length_put_at w at bs room; lower = put_lower; upper = upper })

  pub slice_put : slice at (at + length bs) (put_at w at bs) ≡ bs
  slice_put = slice_front at (at + length bs) (put_at w at bs) bs (drop (at + length bs) w) put_from refl

pub put_none : (w : List ℕ) (at : ℕ) → w ≡ put_at w at []
unfolding put_at
put_none w at = let here : at + 0 ≡ at = omega arith in rw (here, append-nil (take at w)) (sym (take-append-drop at w))

-- bytes written, and then those before them
pub put_before : (w : List ℕ) (at : ℕ) (bs cs : List ℕ) → at + length bs + length cs ≤ length w
    → put_at (put_at w (at + length bs) cs) at bs ≡ put_at w at (bs ++ cs)
unfolding put_at
put_before w at bs cs room =
    let mid : ℕ = at + length bs in
    let size : at + length (bs ++ cs) ≡ mid + length cs = simp length-append (omega arith) in
    let front = (put_untouched w mid cs room at (mid + length cs) (omega arith) (omega arith)).lower in
    rw (front, put_from w mid cs room, size)
    (sym (append_assoc (take at w ++ bs) cs (drop (mid + length cs) w))
    ∙ ap (λ (l : List ℕ). l ++ drop (mid + length cs) w) (append_assoc (take at w) bs cs))

-- Moves

-- the bytes from one up to another, moved to a third
abbrev pub moved : List ℕ → ℕ → ℕ → ℕ → List ℕ
moved w from to at = put_at w at (slice from to w)

-- by std's `copy_within`
pub moved_within : (w : List ℕ) {w' : List ℕ} (from to at : ℕ) → to ≤ length w → w' ≡ copy_within w from to at → w' ≡ moved w from to at
unfolding put_at
moved_within w from to at h is = is ∙ rw (length-slice from to w h, slice_take from to w) refl
