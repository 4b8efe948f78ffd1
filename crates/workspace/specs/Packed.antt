-- A part of the workspace that is not empty, in one number. Document 01: "Workspace". Assumes nothing.
use Rattle.std.specs.Prelude.{ℕ, ◌+◌, ◌-◌, ◌*◌, ◌/◌, ◌%◌}

-- its first byte, and 65,536 times its last
abbrev pub pack : ℕ → ℕ → ℕ
pack from to = (to - 1) * 65536 + from

abbrev pub packed_from : ℕ → ℕ
packed_from p = p % 65536

abbrev pub packed_to : ℕ → ℕ
packed_to p = p / 65536 + 1
