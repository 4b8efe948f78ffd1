-- What Item gives: the part that spells the item, which lies in its buffer, or none, and why. Document 01: "Item". Assumes nothing.
use Prim.Native.Nat.{ℕ, ◌≤◌}
use mathlib.Core.Path.{◌≡◌, refl, ap}
use mathlib.Core.List.{List}
use native.Mathlib.Omega.{arith}
use native.Mathlib.Decide.{dec_le}
use lib.ListN.{length, length-append}
use Rattle.spec.specs.Expr.{Exprs, size}
use Rattle.spec.specs.Reading.{Reading, refused, readable}
use Rattle.spec.specs.Calls.{Buffer, part, no_part, chosen, Item}
use Rattle.laws.specs.Demands.{Bytes}
use Rattle.laws.specs.Grammar.{item_reading, SpellsItem}
use Rattle.laws.proofs.Basics.{impossible}
use Rattle.laws.proofs.Theorems.{item_given, item_absent, item_unread}
use Rattle.bulk.specs.Promises.{NoSuchItem, unread, absent}

module _ (b : Buffer) (stream result : List ℕ) (k : ℕ) where
  -- what the definition gives: no part, and why, or the part that spells expression k
  pub data ItemIs : Type 0 where
    nothing : NoSuchItem (chosen b stream result) k → Item stream result b k ≡ no_part → ItemIs
    something : (es : Exprs) → SpellsItem b (chosen b stream result) es k (Item stream result b k) → ItemIs

  pub item_is : Bytes (chosen b stream result) → ItemIs
  item_is bytes = go (item_reading stream result b) refl
    where
      go : (x : Reading) → item_reading stream result b ≡ x → ItemIs
      go (refused w p) r = nothing (unread w p r) (item_unread stream result b k w p r)
      go (readable rs es) r = by_size (dec_le (size es) k)
        where
          by_size : Dec (size es ≤ k) → ItemIs
          by_size (yes l) = nothing (absent rs es r l) (item_absent stream result b k rs es r l)
          by_size (no l) = something es (item_given stream result b k rs es bytes r (omega (arith, l)))

  -- a part lies in its buffer
  pub item_inside : (start end : ℕ) → Bytes (chosen b stream result) → part b start end ≡ Item stream result b k
      → (start ≤ end) × (end ≤ length (chosen b stream result))
  item_inside start end bytes h = go (item_is bytes)
    where
      go : ItemIs → (start ≤ end) × (end ≤ length (chosen b stream result))
      go (nothing n e) = impossible (cc)
      go (something es i) =
          let piece = i.piece in
          let from : start ≡ i.from = cc i.is in
          let to : end ≡ i.to = cc i.is in
          let size = simp length-append at (ap length piece.is) in
          let first = piece.start in
          let last = piece.end in
          (omega arith, omega arith)
