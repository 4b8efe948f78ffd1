-- `reader::check` meets its contract: a stream that is too long, or the pass over its tokens. Assumes nothing.
use Rattle.std.proofs.Common.{arith}
use Rattle.reader.proofs.Checking.{too_long}
use Rattle.reader.proofs.check.Goals as goal

pub returns-then-s-gt-STREAM_LIMIT : goal.returns-then-s-gt-STREAM_LIMIT
returns-then-s-gt-STREAM_LIMIT c = rw c.new.ensures (too_long c.args.s.now c.args.room (omega arith))
