-- `bytecode::scan::visit` meets its contract, by what the code finds (`proofs/Visits.antt`). Assumes nothing.
use Rattle.std.proofs.Common.{arith}
use Rattle.bytecode.proofs.Visits.{visiting, visit_row, visit_atom, some_head, headed_star, headed_nested, visit_other, visit_outside, visit_star, visit_nested}
use Rattle.bytecode.proofs.scan.visit.Goals as goal

pub element-requires : goal.element-requires
element-requires c = visit_row (visiting c.requires.2 c.requires.3 c.nearest-around.ensures)

pub returns-in_default : goal.returns-in_default
returns-in_default c end fs k l = visit_atom (visiting k l c.nearest-around.ensures) (rw c.in_default.is at c.element.ensures)

pub head_key-requires : goal.head_key-requires
head_key-requires c = some_head (visiting c.requires.2 c.requires.3 c.nearest-around.ensures) c.in-Branch.ensures

pub star-requires : goal.star-requires
star-requires c =
    let v = visiting c.requires.2 c.requires.3 c.nearest-around.ensures in
    headed_star v c.in-Branch.ensures c.type_inv.s c.head_key.ensures c.in-8241.is

pub nested-requires : goal.nested-requires
nested-requires c =
    let v = visiting c.requires.2 c.requires.3 c.nearest-around.ensures in
    headed_nested v c.in-Branch.ensures c.type_inv.s c.head_key.ensures c.in-8240.is

pub returns-in-8241 : goal.returns-in-8241
returns-in-8241 c end fs k l =
    let v = visiting k l c.nearest-around.ensures in
    visit_star v c.in-Branch.ensures c.type_inv.s c.head_key.ensures c.in-8241.is c.star.ensures

pub returns-in-8240 : goal.returns-in-8240
returns-in-8240 c end fs k l =
    let v = visiting k l c.nearest-around.ensures in
    visit_nested v c.in-Branch.ensures c.type_inv.s c.head_key.ensures (omega (arith, c.in-8240.is)) c.in-8240.is c.if-around-ne0.true
    c.nested.ensures

pub returns-in_default-head_key : goal.returns-in_default-head_key
returns-in_default-head_key c end fs k l =
    let v = visiting k l c.nearest-around.ensures in
    visit_outside v c.in-Branch.ensures c.type_inv.s c.head_key.ensures (omega (arith, c.in-8240.is)) c.if-around-ne0.false

pub returns-in_default-head_key-2 : goal.returns-in_default-head_key-2
returns-in_default-head_key-2 c end fs k l =
    let v = visiting k l c.nearest-around.ensures in
    visit_other v c.in-Branch.ensures c.type_inv.s c.head_key.ensures (λ z. omega (arith, z)) (λ z. omega (arith, z))
