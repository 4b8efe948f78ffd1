-- `bulk::item_part` meets its contract: the place of the item, in the buffer that was asked for. Assumes nothing.
use Rattle.spec.specs.Calls.{of_stream, of_result, Item}
use Rattle.bulk.proofs.item_part.Goals as goal

pub returns-in-Stream : goal.returns-in-Stream
unfolding Item
returns-in-Stream c = rw c.in-Stream.is (c.locate.ensures of_stream)

pub returns-in-Result : goal.returns-in-Result
unfolding Item
returns-in-Result c = rw c.in-Result.is (c.locate-in-Result.ensures of_result)
