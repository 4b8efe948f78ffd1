-- `bytecode::flat::judge` meets its contract. Assumes nothing.
use Rattle.std.proofs.Common.{sym}
use Rattle.laws.proofs.Steps.{all_bytes}
use Rattle.spec.specs.Nodes.{elements}
use Rattle.bytecode.proofs.Pieces.{atom_judged, form_piece, pieces_head, piece_reserved}
use Rattle.bytecode.proofs.flat.judge.Goals as goal

pub returns-in_default : goal.returns-in_default
returns-in_default c e h = atom_judged (rw c.in_default.is at h)

pub head_key-requires : goal.head_key-requires
head_key-requires c =
    let es = elements c.requires.0 in
    record { nodes = es; at = pieces_head _ _ _ es (form_piece (rw c.in-Branch.is at c.requires.1)).pieces }

pub returns-then-is_reserved : goal.returns-then-is_reserved
returns-then-is_reserved c e h =
    let named = piece_reserved (all_bytes c.args.s.now (λ i. (c.type_inv.s i).fits)) (rw c.in-Branch.is at h) c.head_key.ensures in
    rw (sym named, sym c.if-is_reserved.ensures)

pub returns-then-is_deep : goal.returns-then-is_deep
returns-then-is_deep c e h =
    let piece = rw c.in-Branch.is at h in
    let named = piece_reserved (all_bytes c.args.s.now (λ i. (c.type_inv.s i).fits)) piece c.head_key.ensures in
    rw (sym named, sym c.if-is_reserved.ensures, sym (c.if-is_deep.ensures _ e piece))

pub returns : goal.returns
returns c e h =
    let piece = rw c.in-Branch.is at h in
    let named = piece_reserved (all_bytes c.args.s.now (λ i. (c.type_inv.s i).fits)) piece c.head_key.ensures in
    rw (sym named, sym c.if-is_reserved.ensures, sym (c.if-is_deep.ensures _ e piece))
