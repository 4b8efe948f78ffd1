-- Definitions and associations as numbers. Document 01: "definitions that are visible", "associates ref's marker with id". Assumes nothing.
use Rattle.std.specs.Prelude.{ℕ, ◌+◌, ◌-◌, ◌*◌, ◌/◌, ◌%◌}

-- added to the key of a function
abbrev pub function_bit : ℕ
function_bit = 0x1000000

-- the buffer that an id's bytes are in: the stream
abbrev pub stream : ℕ
stream = 0

-- key and content of a definition: of a value the packed part where it stands, of a function the row of its `subst` form
abbrev pub definition : ℕ → ℕ → ℕ
definition key content = key * 4294967296 + content

abbrev pub key_in : ℕ → ℕ
key_in e = e / 4294967296

abbrev pub content_in : ℕ → ℕ
content_in e = e % 4294967296

-- a buffer, a place in it and a size
abbrev pub id : ℕ → ℕ → ℕ → ℕ
id buffer place size = (buffer * 65536 + place) * 64 + (size - 1)

-- a marker and an id
abbrev pub association : ℕ → ℕ → ℕ
association marker id = marker * 8388608 + id

abbrev pub marker_in : ℕ → ℕ
marker_in e = e / 8388608

abbrev pub place_in : ℕ → ℕ
place_in e = e / 64 % 65536

abbrev pub size_in : ℕ → ℕ
size_in e = e % 64 + 1
