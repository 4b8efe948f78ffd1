-- `rows::forms::Form::word` meets its contract. Assumes nothing.
use mathlib.Core.Path.{ap, ◌∙◌}
use Rattle.laws.proofs.Steps.{all_bytes}
use Rattle.rows.proofs.Keys.{word_of}
use Rattle.rows.proofs.Parts.{head_worded}
use Rattle.rows.proofs.forms.Form.word.Goals as goal

pub returns : goal.returns
returns c es h =
    let stream = all_bytes c.args.s.now (λ i. (c.type_inv.s i).fits) in
    c.word.ensures ∙ ap word_of (c.head_key.ensures es h) ∙ head_worded _ _ _ stream es h
