-- `rules::plan::branch` meets its contract: the rule is that of the head's word. Assumes nothing.
use Rattle.std.proofs.Common.{refl, sym, ◌∙◌}
use Rattle.std.proofs.lemmas.Result.{err_from_is_err_and}
use Rattle.spec.specs.Nodes.{ns, define, concat, subst, arg, rest, plain}
use Rattle.spec.specs.Plan.{plan_arg, plan_rest, plan_form}
use Rattle.rows.proofs.Parts.{head_inside, head_led, element_head, element_unflat, element_unled, element_unmarked, element_marked}
use Rattle.rules.specs.Planned.{refuses}
use Rattle.rules.proofs.Associating.{some_linked}
use Rattle.rules.proofs.Heading.{form_answers, list_named, element_named, as_list, worded_nodes, worded_answers, bytecode_answers}
use Rattle.rules.proofs.plan.branch.Goals as goal

pub word-requires : goal.word-requires
word-requires c = record { nodes = _; at = element_head c.requires.1.1 }

-- Function names

pub ns-requires-clause-nodes_at : goal.ns-requires-clause-nodes_at
ns-requires-clause-nodes_at c = let el = c.requires.1.1 in worded_nodes ns refl el (c.in-Ns.ensures _ (element_head el))

pub returns-in-Ns : goal.returns-in-Ns
unfolding plan_form
returns-in-Ns c e el = worded_answers ns refl el (c.in-Ns.ensures _ (element_head el)) (λ es at led. c.ns.ensures _ _ _ es at led)

pub define-requires : goal.define-requires
define-requires c =
    let el = c.requires.1.1 in
    ((some_linked _ _ c.requires.0).few, element_unflat el, worded_nodes define refl el (c.in-Define.ensures _ (element_head el)))

pub returns-in-Define : goal.returns-in-Define
unfolding plan_form
returns-in-Define c e el = worded_answers define refl el (c.in-Define.ensures _ (element_head el)) (λ es at led. c.define.ensures _ _ _ _ es at)

pub returns-in-Subst : goal.returns-in-Subst
unfolding plan_form
returns-in-Subst c e el = worded_answers subst refl el (c.in-Subst.ensures _ (element_head el)) (λ es at led w st h set. refuses _)

pub concat-requires : goal.concat-requires
concat-requires c = let el = c.requires.1.1 in (element_unflat el, worded_nodes concat refl el (c.in-Concat.ensures _ (element_head el)))

pub returns-in-Concat : goal.returns-in-Concat
unfolding plan_form
returns-in-Concat c e el = worded_answers concat refl el (c.in-Concat.ensures _ (element_head el)) (λ es at led. c.concat.ensures _ _ _ _ _ es at)

pub number-requires : goal.number-requires
number-requires c = let el = c.requires.1.1 in worded_nodes arg refl el (c.in-Arg.ensures _ (element_head el))

pub returns-in_err-number-in-Arg : goal.returns-in_err-number-in-Arg
unfolding plan_form
returns-in_err-number-in-Arg c e el =
    let p = err_from_is_err_and c.from_residual.result c.from_residual.ensures.1 in
    rw (p.1, p.2) (worded_answers arg refl el (c.in-Arg.ensures _ (element_head el)) (λ es at led w st h set.
    rw (c.in_err-number-in-Arg.ensures.as_planned es (λ n. plan_arg n h.arguments) at) (refuses _)))

pub returns-in_ok-number-in-Arg : goal.returns-in_ok-number-in-Arg
unfolding plan_form
returns-in_ok-number-in-Arg c e el =
    worded_answers arg refl el (c.in-Arg.ensures _ (element_head el)) (λ es at led w st h set.
    rw (c.in_ok-number-in-Arg.ensures.as_planned es (λ n. plan_arg n h.arguments) at) (c.arguments.ensures _ _ w _ _ _ _ _ _ _ set.arguments))

pub number-requires-in-Rest : goal.number-requires-in-Rest
number-requires-in-Rest c = let el = c.requires.1.1 in worded_nodes rest refl el (c.in-Rest.ensures _ (element_head el))

pub returns-in_err-number-in-Rest : goal.returns-in_err-number-in-Rest
unfolding plan_form
returns-in_err-number-in-Rest c e el =
    let p = err_from_is_err_and c.from_residual-in_err-number-in-Rest.result c.from_residual-in_err-number-in-Rest.ensures.1 in
    rw (p.1, p.2) (worded_answers rest refl el (c.in-Rest.ensures _ (element_head el)) (λ es at led w st h set.
    rw (c.in_err-number-in-Rest.ensures.as_planned es (λ n. plan_rest n h.arguments) at) (refuses _)))

pub returns-in_ok-number-in-Rest : goal.returns-in_ok-number-in-Rest
unfolding plan_form
returns-in_ok-number-in-Rest c e el =
    worded_answers rest refl el (c.in-Rest.ensures _ (element_head el)) (λ es at led w st h set.
    rw (c.in_ok-number-in-Rest.ensures.as_planned es (λ n. plan_rest n h.arguments) at) (c.arguments-in-Rest.ensures _ _ w _ _ _ _ _ _ _ set.arguments))

-- A plain head

pub is_named-requires : goal.is_named-requires
is_named-requires c = head_inside _ _ _ _ (element_head c.requires.1.1)

pub mark-mark-requires : goal.mark-mark-requires
mark-mark-requires c = let el = c.requires.1.1 in (head_led _ _ _ _ (element_head el) (sym (element_named el c.if-is_named.ensures))).here.row.inside

pub bytecode-requires : goal.bytecode-requires
bytecode-requires c =
    let el = c.requires.1.1 in
    let led = element_named el c.if-is_named.ensures in
    let b = element_marked el led (λ z. c.if-mark-ne0.true (c.mark-mark.ensures ∙ z)) in
    (c.mark-mark.ensures, (head_led _ _ _ _ (element_head el) (sym led)).here.row.few, (_, _, b.outcome, b.at))

pub returns-then-mark-ne0 : goal.returns-then-mark-ne0
returns-then-mark-ne0 c e el =
    let b = element_marked el (element_named el c.if-is_named.ensures) (λ z. c.if-mark-ne0.true (c.mark-mark.ensures ∙ z)) in
    bytecode_answers _ _ _ b (λ o at. c.bytecode.ensures _ _ o at)

pub named-requires-clause-some_nodes : goal.named-requires-clause-some_nodes
named-requires-clause-some_nodes c =
    let el = c.requires.1.1 in
    let f = element_unmarked el (sym c.mark-mark.ensures ∙ c.if-mark-ne0.false) in
    (record { nodes = f.nodes; at = as_list el f.nodes f.at }, list_named _ _ _ c.if-is_named.ensures)

pub returns-then-is_named : goal.returns-then-is_named
unfolding plan_form
returns-then-is_named c e el =
    form_answers plain (element_unmarked el (sym c.mark-mark.ensures ∙ c.if-mark-ne0.false)) (c.in-Plain.ensures _ (element_head el))
    (λ es at led. c.named.ensures _ _ _ _ es (as_list el es at))

pub unnamed-requires : goal.unnamed-requires
unnamed-requires c =
    let el = c.requires.1.1 in
    let f = element_unled el (element_named el c.if-is_named.ensures) in
    (record { nodes = f.nodes; at = as_list el f.nodes f.at }, list_named _ _ _ c.if-is_named.ensures)

pub returns-else-is_named : goal.returns-else-is_named
unfolding plan_form
returns-else-is_named c e el =
    form_answers plain (element_unled el (element_named el c.if-is_named.ensures)) (c.in-Plain.ensures _ (element_head el))
    (λ es at led. c.unnamed.ensures _ _ _ _ _ es (as_list el es at))
