-- `bytecode::arities::name` meets its contract. Assumes nothing.
use Rattle.std.proofs.Common.{◌+◌, arith}
use Rattle.laws.proofs.Steps.{all_bytes}
use Rattle.bytecode.proofs.Changing.{changed_none, changed_wider}
use Rattle.bytecode.proofs.Named.{sought_vacant, hang}
use Rattle.bytecode.proofs.Naming.{one_reference, one_key, one_twice, one_named}
use Rattle.bytecode.proofs.arities.name.Goals as goal

pub key-key-requires : goal.key-key-requires
key-key-requires c = let x = one_reference c.requires.0.2 c.requires.1 in (x.marker, x.name, x.here)

pub put_mark-requires : goal.put_mark-requires
put_mark-requires c = ((one_reference c.requires.0.2 c.requires.1).here.row.inside, omega (arith, c.requires.2))

pub put_child-requires : goal.put_child-requires
put_child-requires c =
    let n = c.requires.0.2 in
    let at = sought_vacant n.lists.tree c.in-Err.ensures in
    (rw c.put_mark.ensures.0.same_length at.2, at.3, (one_reference n c.requires.1).here.row.few)

pub returns-in-Ok : goal.returns-in-Ok
returns-in-Ok c = (
  changed_none _ _ _,
  λ e os n. one_twice n c.requires.1 (all_bytes c.args.s.now (λ i. (c.type_inv.s i).fits)) (one_key c.requires.0.2 c.requires.1 c.key-key.ensures) c.args.arity c.in-Ok.ensures,
)

pub returns-in-Err : goal.returns-in-Err
returns-in-Err c =
    let n = c.requires.0.2 in
    let here = (one_reference n c.requires.1).here in
    let key = one_key n c.requires.1 c.key-key.ensures in
    let at = sought_vacant n.lists.tree c.in-Err.ensures in
    let j = hang key (n.unlinked c.args.row (omega arith) (omega (arith, here.on))) c.in-Err.ensures at.1 (omega arith) c.put_mark.ensures c.put_child.ensures in (
      rw here.on (changed_wider j.2 c.args.list (c.args.row + 1) at.0 (omega arith)),
      λ e os n. one_named n c.requires.1 (all_bytes c.args.s.now (λ i. (c.type_inv.s i).fits)) key c.args.arity j.0 j.1,
    )
