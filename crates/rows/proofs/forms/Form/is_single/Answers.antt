-- `rows::forms::Form::is_single` meets its contract: no expression, more than one, or the word that heads the only one. Assumes nothing.
use Prim.Native.Nat.{◌≤◌, ◌<◌}
use mathlib.Core.Path.{◌∙◌}
use borrow.Author.Rules.{rules}
use Rattle.rows.specs.Rows.{next}
use Rattle.rows.proofs.Nodes.{nodes_done, nodes_more, more_whole}
use Rattle.rows.proofs.Keys.{same_word}
use Rattle.rows.proofs.Parts.{at_end, before_end}
use Rattle.rows.proofs.forms.Form.is_single.Goals as goal
use Rattle.rows.proofs.forms.Form.is_single.Goals.{Then-self-next, then-not-is_empty, else-not-is_empty}

pub next-requires : goal.next-requires
next-requires c = (more_whole _ _ _ _ (nodes_more _ _ _ _ _ c.requires.0 c.requires.1 (before_end c.is_empty.ensures c.if-not-is_empty.true))).0

-- there is an expression, and no other
one : (c : Then-self-next) → (c.args.self.first < c.args.self.end) × (c.args.self.end ≤ next c.args.table.now c.args.self.first)
one c = elim c.if-not-is_empty.branch [ then-not-is_empty w ↦ search rules | else-not-is_empty w ↦ search rules ]

pub word_at-requires : goal.word_at-requires
word_at-requires c =
    let o = one (goal.at.word_at-requires c).Then-self-next in
    let f = nodes_more _ _ _ _ _ c.requires.0 c.requires.1 o.0 in
    (f.head, f.node)

pub returns-then-self-next : goal.returns-then-self-next
returns-then-self-next c es h =
    let o = one (goal.at.returns-then-self-next c).Then-self-next in
    let f = nodes_more _ _ _ _ _ es h o.0 in
    c.ne.ensures ∙ rw (same_word c.word_at.result _, f.is, nodes_done _ _ _ _ _ f.rest f.nodes o.1, c.word_at.ensures f.head f.node)

pub returns-else-self-next : goal.returns-else-self-next
returns-else-self-next c es h =
    c.if-self-next.false
    ∙ elim c.if-not-is_empty.branch [
      | then-not-is_empty w ↦
          let f = nodes_more _ _ _ _ _ es h (before_end c.is_empty.ensures w.if-not-is_empty.true) in
          rw (f.is, (nodes_more _ _ _ _ _ f.rest f.nodes (search rules)).is)
      | else-not-is_empty w ↦ rw (nodes_done _ _ _ _ _ es h (at_end c.is_empty.ensures w.if-not-is_empty.false))
    ]
