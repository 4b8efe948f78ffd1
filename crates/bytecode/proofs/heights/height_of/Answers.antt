-- `bytecode::heights::height_of` meets its contract. Assumes nothing.
use Rattle.bytecode.proofs.Pieces.{atom_height, plain_written, plain_height}
use Rattle.bytecode.proofs.heights.height_of.Goals as goal

pub highest-requires : goal.highest-requires
highest-requires c = let is = c.in-Branch.is in (c.requires.1.0, _, plain_written (rw is at c.requires.0) (rw is at c.requires.1.2))

pub returns-in-Leaf : goal.returns-in-Leaf
returns-in-Leaf c s e h = atom_height (rw c.in-Leaf.is at h)

pub returns-in-Branch : goal.returns-in-Branch
returns-in-Branch c s e h = let is = c.in-Branch.is in plain_height (rw is at c.requires.0) (rw is at h) c.highest.result c.highest.ensures.1
