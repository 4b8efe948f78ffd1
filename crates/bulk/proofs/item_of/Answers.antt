-- `bulk::item_of` meets its contract: the part from start to end, or none. Assumes nothing.
use Prim.Native.Nat.{ℕ, ◌≤◌}
use mathlib.Core.List.{List}
use native.Mathlib.Omega.{arith}
use mathlib.Core.Path.{◌≡◌, refl}
use lib.ListN.{length, get_or, length-take, length-drop}
use mir.Syntax.{w8}
use mir.Val.{Fits}
use denote.Ref.{Bor}
use borrow.Author.Rules.{rules}
use Rattle.std.specs.Prelude.{Option, Some, None}
use Rattle.spec.specs.Reading.{read}
use Rattle.spec.specs.Calls.{Buffer, of_stream, of_result, chosen, Item, item_read}
use Rattle.laws.proofs.Steps.{all_bytes}
use Rattle.reader.specs.Passes.{found_part}
use Rattle.reader.specs.declared.Part.{Part}
use Rattle.bulk.specs.Answers.{lent}
use Rattle.bulk.proofs.Items.{item_inside}
use Rattle.bulk.proofs.item_of.Goals as goal

chosen_lent : (b : Buffer) (stream result : Bor (List ℕ)) → (lent b stream result).now ≡ chosen b stream.now result.now
chosen_lent of_stream stream result = refl
chosen_lent of_result stream result = refl

-- the part that was told
told_part : (buffer : Bor (List ℕ)) (k : ℕ) (r : Option Part) → ((b : Buffer) → found_part b r ≡ item_read b k (read buffer.now (length buffer.now)))
    → (b : Buffer) (stream result : Bor (List ℕ)) → lent b stream result ≡ buffer → found_part b r ≡ Item stream.now result.now b k
unfolding Item
told_part buffer k r told b stream result same = rw (← chosen_lent b stream result, same) (told b)

-- it lies in the buffer
inside : (x : Bor (List ℕ)) (k : ℕ) (p : Part) → ((i : ℕ) → Fits w8 (get_or x.now i 0))
    → ((b : Buffer) → found_part b (Some p) ≡ item_read b k (read x.now (length x.now))) → (p.start ≤ p.end) × (p.end ≤ length x.now)
inside x k p bytes told =
    item_inside of_stream x.now x.now _ _ _ (all_bytes x.now (λ i. (bytes i).fits)) (told_part x k (Some p) told of_stream x x refl)

pub slice_bounds-result-count : goal.slice_bounds-result-count
slice_bounds-result-count c = (inside c.args.buffer c.args.k _ c.type_inv.buffer c.in-Some.ensures).0

pub slice_bounds-result-start : goal.slice_bounds-result-start
slice_bounds-result-start c =
    let i = inside c.args.buffer c.args.k _ c.type_inv.buffer c.in-Some.ensures in
    search rules

pub slice_bounds-result-end : goal.slice_bounds-result-end
slice_bounds-result-end c =
    let i = inside c.args.buffer c.args.k _ c.type_inv.buffer c.in-Some.ensures in
    search rules

pub returns-in-Some : goal.returns-in-Some
returns-in-Some c =
    let x = c.args.buffer in
    let i = inside x c.args.k _ c.type_inv.buffer c.in-Some.ensures in
    λ b stream res same. rw (← told_part x _ (Some c.in-Some.part) c.in-Some.ensures b stream res same) (record {
      bytes = rw (← chosen_lent b stream res, same);
      place = rw same (record { block = refl; offset = omega arith; size = simp (length-take, length-drop) (omega arith) });
    })

pub returns-in-None : goal.returns-in-None
returns-in-None c =
    let x = c.args.buffer in
    λ b stream res same. rw (← told_part x _ None c.in-None.ensures b stream res same) (record { bytes = refl; place = tt })
