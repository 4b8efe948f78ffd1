-- Laws of a part of the workspace in one number: it gives back what was packed. Document 01: "Workspace". Assumes nothing.
use Prim.Native.Nat.{ℕ, ◌≤◌, ◌<◌}
use mathlib.Core.Path.{◌≡◌}
use native.Mathlib.Omega.{arith}
use Rattle.workspace.specs.Packed.{pack, packed_from, packed_to}

pub from_packed : (from to : ℕ) → from < to → to ≤ 65536 → packed_from (pack from to) ≡ from
from_packed from to h h' = omega arith

pub to_packed : (from to : ℕ) → from < to → to ≤ 65536 → packed_to (pack from to) ≡ to
to_packed from to h h' = omega arith
