-- Laws of a part of a list: two parts one behind the other, and a part by its beginning and size. Document 01: "Bytes to expressions". Assumes nothing.
use Prim.Native.Nat.{ℕ, zero, suc, ◌-◌, ◌≤◌}
use mathlib.Core.Path.{◌≡◌, sym, ap, ◌∙◌}
use mathlib.Core.List.{List, [], ◌∷◌, ◌++◌}
use lib.ListN.{length, take, drop, take-append-drop}
use lib.Seq.{slice, length-take-le, take-nil, take-take, drop-append-le}
use native.Mathlib.Omega.{arith}

pub slice_split : (a b c : ℕ) (w : List ℕ) → a ≤ b → b ≤ c → c ≤ length w → slice a c w ≡ slice a b w ++ slice b c w
slice_split a b c w h h' h'' =
    let all = length-take-le c w h'' in
    let front = length-take-le b (take c w) (omega (arith, all)) in
    ap (drop a) (sym (take-append-drop b (take c w)))
    ∙ drop-append-le a (take b (take c w)) (drop b (take c w)) (omega (arith, front))
    ∙ ap (λ (l : List ℕ). drop a l ++ slice b c w) (take-take b c w h')

pub slice_take : (a b : ℕ) (w : List ℕ) → slice a b w ≡ take (b - a) (drop a w)
slice_take zero b w = let all : b - 0 ≡ b = omega arith in rw all
slice_take (suc a) zero w = let no : 0 - suc a ≡ 0 = omega arith in rw no
slice_take (suc a) (suc b) [] = sym (take-nil (suc b - suc a))
slice_take (suc a) (suc b) (x ∷ w) = let less : suc b - suc a ≡ b - a = omega arith in slice_take a b w ∙ rw less
