-- `bytecode::around::exchange` meets its contract. Assumes nothing.
use Rattle.std.proofs.Common.{◌∙◌}
use Rattle.bytecode.proofs.Exchanges.{exchanged_marks}
use Rattle.bytecode.proofs.around.exchange.Goals as goal

pub returns : goal.returns
returns c =
    let p = c.put_mark-2.ensures in
    let q = c.put_mark-3.ensures in
    exchanged_marks c.if-first-row.false c.requires.0 c.requires.1 (p.0, p.1 ∙ c.mark-new.ensures, p.2, p.3) (q.0, q.1 ∙ c.mark-mark.ensures, q.2, q.3)
