-- `rules::plan::unnamed` meets its contract. Assumes nothing.
use Rattle.std.proofs.Common.{◌≡◌, false}
use Rattle.spec.specs.Nodes.{subst, Node, elements, headed_by, Nodes}
use Rattle.rows.specs.Rows.{NodeAt, NodesAt}
use Rattle.rows.specs.Forms.{element_at, IsElement}
use Rattle.rows.specs.declared.forms.Node.{Node as Ranged}
use Rattle.rows.specs.declared.forms.Node.TheVariants.{Branch}
use Rattle.rows.specs.declared.words.Word.TheVariants.{Subst}
use Rattle.rows.proofs.Nodes.{MoreAt, nodes_done, nodes_more, more_whole}
use Rattle.rows.proofs.Parts.{at_end, before_end, element_is, element_head}
use Rattle.rules.specs.Planned.{calls_code}
use Rattle.rules.proofs.Expecting.{headed}
use Rattle.rules.proofs.Heading.{data_planned, call_planned, unnamed_rule, leaf_unheaded, element_code}
use Rattle.rules.proofs.plan.unnamed.Goals as goal
use Rattle.rules.proofs.plan.unnamed.Goals.{Else-is_empty, in_default-via-in-Leaf-1, in_default-via-in-Branch+else-eq}

-- the head
first : (c : Else-is_empty) → let i = c.args in
    (es : Nodes) → NodesAt i.s.now i.table.now i.form.flat i.form.first i.form.end es → MoreAt i.s.now i.table.now i.form.flat i.form.first i.form.end es
first c es at = nodes_more _ _ _ _ _ es at (before_end c.is_empty.ensures c.if-is_empty.false)

-- as the code's node
head_at : (c : Else-is_empty) (n : Ranged) (e : Node) → let i = c.args in
    n ≡ element_at i.table.now i.form.flat i.form.first → NodeAt i.s.now i.table.now i.form.flat i.form.first e → IsElement i.s.now i.table.now i.form.first n e
head_at c n e told at = rw told (element_is _ _ _ _ e at)

pub returns-then-is_empty : goal.returns-then-is_empty
returns-then-is_empty c associations definitions args r q es at w st h set =
    let none = nodes_done _ _ _ _ _ es at (at_end c.is_empty.ensures c.if-is_empty.true) in
    rw (c.make.ensures, none) (data_planned _ _ (rw none at at))

pub element-requires : goal.element-requires
element-requires c = more_whole _ _ _ _ (first c c.requires.0.nodes c.requires.0.at)

pub word-requires : goal.word-requires
word-requires c =
    let here = (goal.at.word-requires c).Else-is_empty in
    let f = first here c.requires.0.nodes c.requires.0.at in
    record { nodes = elements f.head; at = element_head (head_at here (Branch c.in-Branch.head) f.head c.in-Branch.ensures f.node) }

pub rest-body-requires : goal.rest-body-requires
rest-body-requires c =
    let here = (goal.at.rest-body-requires c).Else-is_empty in
    let f = first here c.requires.0.nodes c.requires.0.at in
    let own = head_at here (Branch c.in-Branch.head) f.head c.in-Branch.ensures f.node in
    (element_code own (headed c.word.result Subst f.head c.if-eq.ensures (c.word.ensures (elements f.head) (element_head own)))).0

pub rest-requires : goal.rest-requires
rest-requires c = (more_whole _ _ _ _ (first (goal.at.rest-requires c).Else-is_empty c.requires.0.nodes c.requires.0.at)).0

pub returns : goal.returns
returns c associations definitions args r q es at w st h set =
    let here = (goal.at.returns c).Else-is_empty in
    let f = first here es at in
    let own = head_at here (Branch c.in-Branch.head) f.head c.in-Branch.ensures f.node in
    let code = headed c.word.result Subst f.head c.if-eq.ensures (c.word.ensures (elements f.head) (element_head own)) in
    rw (f.is, unnamed_rule _ _ _ _ f.head f.rest h.scope f.node (rw f.is at (c.requires.1 es at)), code, c.rest-body.ensures, c.rest.ensures)
    (call_planned c.args.form f.head f.rest (rw f.is at at) (calls_code _ _ _ h.scope (element_code own code).1 set.sees.definitions))

pub returns-2 : goal.returns-2
returns-2 c associations definitions args r q es at w st h set =
    let here = (goal.at.returns-2 c).Else-is_empty in
    let f = first here es at in
    let plain : headed_by subst f.head ≡ false = elim c.in_default.branch [
      | in_default-via-in-Leaf-1 u ↦ leaf_unheaded (head_at here _ f.head c.element.ensures f.node) (cc)
      | in_default-via-in-Branch+else-eq u ↦
          (let own = head_at here (Branch u.in-Branch.head) f.head u.in-Branch.ensures f.node in
          headed u.word.result Subst f.head u.if-eq.ensures (u.word.ensures (elements f.head) (element_head own)))
    ] in
    rw (c.make-2.ensures, f.is, unnamed_rule _ _ _ _ f.head f.rest h.scope f.node (rw f.is at (c.requires.1 es at)), plain) (data_planned _ _ (rw f.is at at))
