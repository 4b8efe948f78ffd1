-- `workspace::values::own` meets its contract: its bytes are written if there is room. Assumes nothing.
use Rattle.std.proofs.Common.{sym, ap, ◌∙◌, arith}
use Rattle.laws.proofs.Steps.{all_bytes}
use Rattle.writer.specs.Bytes.{put_at}
use Rattle.workspace.proofs.Completing.{completed, leaf_short, only_atom, atom_sized}
use Rattle.workspace.proofs.values.own.Goals as goal

pub overflow_add-top : goal.overflow_add-top
overflow_add-top c =
    let leaf = c.requires.leaf_at.1 in
    omega (arith, c.put_leaf-n.ensures _ leaf, leaf_short (all_bytes c.args.s.now (λ i. (c.type_inv.s i).fits)) leaf, c.requires.fitting.paid)

pub returns : goal.returns
returns c a leaf =
    let put = c.put_leaf-n.ensures a leaf in
    completed (atom_sized put.0) _ _ _ _ c.requires.fitting (omega arith) c.charged.ensures (λ paid. put.1 paid ∙ ap (put_at _ _) (sym (only_atom a).0))
