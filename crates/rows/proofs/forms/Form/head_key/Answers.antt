-- `rows::forms::Form::head_key` meets its contract. Assumes nothing.
use mathlib.Core.Path.{sym, ◌∙◌}
use Rattle.rows.proofs.Parts.{head_inside, head_named, head_led, led_key, unled_key}
use Rattle.rows.proofs.forms.Form.head_key.Goals as goal

pub is_named-requires : goal.is_named-requires
is_named-requires c = head_inside _ _ _ c.requires.nodes c.requires.at

pub key-requires : goal.key-requires
key-requires c =
    let h = c.requires in
    let l = head_led _ _ _ h.nodes h.at (sym c.if-is_named.true ∙ c.is_named.ensures ∙ head_named _ _ _ h.nodes h.at) in
    (l.marker, l.name, l.here)

pub returns-then-is_named : goal.returns-then-is_named
returns-then-is_named c es h =
    let l = head_led _ _ _ es h (sym c.if-is_named.true ∙ c.is_named.ensures ∙ head_named _ _ _ es h) in
    led_key l c.key.result c.key.ensures

pub returns : goal.returns
returns c es h = unled_key es (sym c.if-is_named.false ∙ c.is_named.ensures ∙ head_named _ _ _ es h)
