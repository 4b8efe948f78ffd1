-- Laws of `array_head`, by the tests that the code makes, and of `put_at` and `Put`: what was written keeps the length, and can be written on
-- where it ends. Assumes nothing.
use Prim.Native.Nat.{ℕ, ◌+◌, ◌-◌, ◌/◌, ◌%◌, ◌≤◌, ◌<◌}
use mathlib.Core.Path.{◌≡◌, refl, sym, ap, ◌∙◌}
use mathlib.Core.List.{List, [], ◌∷◌, ◌++◌, append_assoc}
use lib.ListN.{length, take, drop, length-append, length-drop}
use lib.Seq.{length-take-le, take_at, drop_at, drop-drop, sets, sets-eq}
use borrow.Rule.Slice.PartMut.{put_mid, Post-is}
use native.Mathlib.Omega.{arith}
use borrow.Author.Tests.{lt-ltb, le-ltb}
use Rattle.spec.specs.Expr.{array_head}
use Rattle.laws.proofs.Atoms.{head_bounds}
use Rattle.writer.specs.Bytes.{put_at, Put}

pub head_one : {n : ℕ} → n < 64 → array_head n ≡ (0xC0 + n) ∷ []
unfolding array_head
head_one {n} h = rw (lt-ltb n 64 h)

pub head_three : {n : ℕ} → 64 ≤ n → n < 256 → array_head n ≡ 0x03 ∷ 0xC1 ∷ n ∷ []
unfolding array_head
head_three {n} h l = rw (le-ltb n 64 h, lt-ltb n 256 l)

pub head_four : {n : ℕ} → 256 ≤ n → array_head n ≡ 0x03 ∷ 0xC2 ∷ (n / 256) ∷ (n % 256) ∷ []
unfolding array_head
head_four {n} h = rw (le-ltb n 64 (omega arith), le-ltb n 256 h)

pub ruleset heads = (head_one, head_three, head_four)

module _ (out : List ℕ) (to : ℕ) (bs : List ℕ) (room : to + length bs ≤ length out) where
  -- what stands up to the end of the bytes
  pub length_upto : length (take to out ++ bs) ≡ to + length bs
  length_upto = length-append (take to out) bs ∙ ap (λ (k : ℕ). k + length bs) (length-take-le to out (omega arith))

  pub length_put_at : length (put_at out to bs) ≡ length out
  unfolding put_at
  length_put_at =
      length-append (take to out ++ bs) (drop (to + length bs) out) ∙ rw (length_upto, length-drop (to + length bs) out) (omega arith)

  pub put_at_more : (cs : List ℕ) → put_at (put_at out to bs) (to + length bs) cs ≡ put_at out to (bs ++ cs)
  unfolding put_at
  put_at_more cs =
      let mid : ℕ = to + length bs in
      let rest = drop mid out in
      let size : to + length (bs ++ cs) ≡ mid + length cs = simp length-append (omega arith) in
      let front : take mid (take to out ++ bs ++ rest) ≡ take to out ++ bs = take_at (take to out ++ bs) rest mid length_upto in
      let back : drop (mid + length cs) (take to out ++ bs ++ rest) ≡ drop (mid + length cs) out =
      sym (drop-drop (length cs) mid (take to out ++ bs ++ rest))
      ∙ ap (drop (length cs)) (drop_at (take to out ++ bs) rest mid length_upto)
      ∙ drop-drop (length cs) mid out in
      rw (front, back, size, append_assoc (take to out) bs cs)

  -- by stores one after the other
  pub stored : Put out to bs (sets out to bs) (to + length bs)
  unfolding put_at
  stored = record { place = refl; is = sets-eq bs out to room }

  -- by a copy to the part from `to` on that has as many
  pub copied : let n : ℕ = to + length bs in Put out to bs (put_mid to (n - to) out bs) n
  unfolding put_at
  copied = record {
    place = refl;
    is = rw (Post-is to (to + length bs) out (omega arith)) (sym (append_assoc (take to out) bs (drop (to + length bs) out)));
  }

pub written_on : {out : List ℕ} {to : ℕ} {bs new : List ℕ} {mid : ℕ} {cs last : List ℕ} {past : ℕ}
    → to + length bs ≤ length out → Put out to bs new mid → Put new mid cs last past → Put out to (bs ++ cs) last past
written_on {out} {to} {bs} {new} {mid} {cs} room p q = record {
  place = q.place ∙ rw (p.place, length-append bs cs) (omega arith);
  is = q.is ∙ rw (p.is, p.place) (put_at_more out to bs room cs);
}

pub ruleset puts = (head_bounds, length-append)
