-- `bulk::item` meets its contract: the part, in the buffer that was asked for.
-- Assumes nothing.
use mathlib.Core.Path.{refl}
use Rattle.spec.specs.Calls.{of_stream, of_result}
use Rattle.bulk.proofs.item.Goals as goal

pub returns-in-Stream : goal.returns-in-Stream
returns-in-Stream c =
    let a = c.args in
    rw c.in-Stream.is (c.item_of.ensures of_stream a.stream a.res refl)

pub returns-in-Result : goal.returns-in-Result
returns-in-Result c =
    let a = c.args in
    rw c.in-Result.is (c.item_of-in-Result.ensures of_result a.stream a.res refl)
