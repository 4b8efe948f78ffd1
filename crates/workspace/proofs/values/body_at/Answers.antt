-- `workspace::values::body_at` meets its contract: an array's by `arrays::body`. Assumes nothing.
use Rattle.std.proofs.Common.{sym, ◌∙◌}
use Rattle.workspace.proofs.Completing.{array_leaf, body_array, body_other}
use Rattle.workspace.proofs.values.body_at.Goals as goal
use Rattle.workspace.proofs.values.body_at.Goals.{in-Array, in_default}

pub array_body-from-requires : goal.array_body-from-requires
array_body-from-requires c =
    let leaf = c.requires.1 in
    let is = array_leaf leaf (sym (c.atom_kind-kind.ensures _ _ leaf) ∙ c.in-Array.is) in
    (is.0, is.2)

pub returns : goal.returns
returns c a leaf =
    let kind = c.atom_kind-kind.ensures _ a leaf in
    elim c.match-kind.branch [
      | in-Array w ↦
          let is = array_leaf leaf (sym kind ∙ w.in-Array.is) in
          rw is.1 (body_array c.end.ensures w.in-Array.is is.2 (w.from-is ∙ w.array_body-from.ensures is.0 is.2))
      | in_default w ↦ body_other c.end.ensures a leaf kind w.in_default.not-Array (w.from-is ∙ w.start-from.ensures)
    ]
