-- How many bytes of text are gathered before they are written out; the code's `BUFFER_SIZE`. Assumes nothing.
use Rattle.std.specs.Prelude.{ℕ}

abbrev pub buffer_size : ℕ
buffer_size = 4096
