-- `bytecode::around::switch_one` meets its contract. Assumes nothing.
use Rattle.std.proofs.Common.{arith}
use Rattle.bytecode.specs.Named.{exchanged, joined}
use Rattle.bytecode.proofs.Named.{key_read, sought_vacant}
use Rattle.bytecode.proofs.Exchanges.{joined_put}
use Rattle.bytecode.proofs.around.switch_one.Goals as goal

pub put_child-requires-in-Err-2 : goal.put_child-requires-in-Err-2
put_child-requires-in-Err-2 c =
    let at = sought_vacant c.requires.0.2 c.in-Err.ensures in
    (omega (arith, at.2, c.put_child-in-Err.ensures.0.same_length, c.put_child.ensures.0.same_length), at.3, c.requires.1.leaf_at.row.few)

pub returns-in-Ok : goal.returns-in-Ok
returns-in-Ok c = exchanged (key_read c.requires.1 c.key-key.ensures) c.in-Ok.ensures c.exchange.ensures

pub returns-in-Err : goal.returns-in-Err
returns-in-Err c =
    let at = sought_vacant c.requires.0.2 c.in-Err.ensures in
    joined (key_read c.requires.1 c.key-key.ensures) c.in-Err.ensures
    (joined_put c.requires.1.leaf_at.row.inside at.2 at.3 c.put_child.ensures c.put_child-in-Err.ensures c.put_child-in-Err-2.ensures)
