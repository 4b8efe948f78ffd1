-- `writer::put_atom` meets its contract: an array's head, and its body behind it. Assumes nothing.
use Rattle.std.proofs.Common.{arith, length-append}
use Rattle.writer.proofs.Puts.{written_on}
use Rattle.writer.proofs.put_atom.Goals as goal

pub returns-in-Array : goal.returns-in-Array
returns-in-Array c =
    let room = simp (c.in-Array.is, length-append) at c.requires.body_in_bounds in
    rw c.in-Array.is (written_on (omega arith) c.put_head-past.ensures c.put_bytes.ensures)
