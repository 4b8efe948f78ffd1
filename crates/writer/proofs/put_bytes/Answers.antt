-- `writer::put_bytes` meets its contract: a copy to a part of the output. Assumes nothing.
use Rattle.writer.proofs.Puts.{copied}
use Rattle.writer.proofs.put_bytes.Goals as goal

pub returns : goal.returns
returns c = rw c.copy_from_slice.ensures.after (copied c.args.out.now c.args.to c.args.part.now c.requires)
