-- `rows::forms::Form::operands` meets its contract: it goes from an element's row to the next. Assumes nothing.
use mathlib.Core.Path.{refl}
use native.Mathlib.Omega.{arith}
use Rattle.rows.proofs.Nodes.{nodes_done}
use Rattle.rows.proofs.Parts.{at_end, before_end, next_at, no_operand, one_operand, two_operands, more_operands}
use Rattle.rows.proofs.forms.Form.operands.Goals as goal

pub returns-then-is_empty : goal.returns-then-is_empty
returns-then-is_empty c s es h = rw (nodes_done _ _ _ _ _ es h (at_end c.is_empty.ensures c.if-is_empty.true))

pub next-second-requires : goal.next-second-requires
next-second-requires c = (next_at c.requires.2 (before_end c.is_empty.ensures c.if-is_empty.false) refl).whole

pub returns-then-end-second : goal.returns-then-end-second
returns-then-end-second c s es h =
    no_operand (next_at h (before_end c.is_empty.ensures c.if-is_empty.false) c.next-second.ensures) (omega arith)

pub next-third-requires : goal.next-third-requires
next-third-requires c =
    let f = next_at c.requires.2 (before_end c.is_empty.ensures c.if-is_empty.false) c.next-second.ensures in
    (next_at f.nodes (omega arith) refl).whole

pub returns-then-end-third : goal.returns-then-end-third
returns-then-end-third c s es h =
    let f = next_at h (before_end c.is_empty.ensures c.if-is_empty.false) c.next-second.ensures in
    one_operand f (next_at f.nodes (omega arith) c.next-third.ensures) (omega arith)

pub next-requires : goal.next-requires
next-requires c =
    let f = next_at c.requires.2 (before_end c.is_empty.ensures c.if-is_empty.false) c.next-second.ensures in
    let g = next_at f.nodes (omega arith) c.next-third.ensures in
    (next_at g.nodes (omega arith) refl).whole

pub returns-then-end-next : goal.returns-then-end-next
returns-then-end-next c s es h =
    let f = next_at h (before_end c.is_empty.ensures c.if-is_empty.false) c.next-second.ensures in
    let g = next_at f.nodes (omega arith) c.next-third.ensures in
    two_operands f g (next_at g.nodes (omega arith) c.next.ensures) (omega arith)

pub returns : goal.returns
returns c s es h =
    let f = next_at h (before_end c.is_empty.ensures c.if-is_empty.false) c.next-second.ensures in
    let g = next_at f.nodes (omega arith) c.next-third.ensures in
    more_operands f g (next_at g.nodes (omega arith) c.next.ensures) (omega arith)
