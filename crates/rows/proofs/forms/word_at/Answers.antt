-- `rows::forms::word_at` meets its contract. Assumes nothing.
use mathlib.Core.Bool.{false}
use Rattle.spec.specs.Nodes.{Node, elements}
use Rattle.rows.specs.Rows.{NodeAt}
use Rattle.rows.specs.Forms.{HeadAt}
use Rattle.rows.proofs.Nodes.{node_whole}
use Rattle.rows.proofs.Parts.{element_is, element_atom, element_head}
use Rattle.rows.proofs.forms.word_at.Goals as goal
use Rattle.rows.proofs.forms.word_at.Goals.{In-Branch}

pub element-requires : goal.element-requires
element-requires c = node_whole _ _ _ _ c.requires.0 c.requires.1

pub returns-in-Leaf : goal.returns-in-Leaf
returns-in-Leaf c e h = element_atom (rw (← c.in-Leaf.ensures) at (element_is _ _ false _ e h))

-- the form that is found heads the expression
head : (c : In-Branch) (e : Node) → NodeAt c.args.s.now c.args.table.now false c.args.row e → HeadAt c.args.s.now c.args.table.now c.in-Branch.form (elements e)
head c e h = element_head (rw (← c.in-Branch.ensures) at (element_is _ _ false _ e h))

pub word-requires : goal.word-requires
word-requires c = record { nodes = _; at = head (goal.at.word-requires c).In-Branch c.requires.0 c.requires.1 }

pub returns-in-Branch : goal.returns-in-Branch
returns-in-Branch c e h = c.word.ensures _ (head (goal.at.returns-in-Branch c).In-Branch e h)
