-- How large requests may be.
-- Worked examples: crates/tests_serving/stdin.
use Rattle.std.specs.Prelude.{ℕ}

-- the bytes of a head
abbrev pub MAX_HEAD_BYTES : ℕ
MAX_HEAD_BYTES = 16384

-- the header lines of a head
abbrev pub MAX_HEADER_LINES : ℕ
MAX_HEADER_LINES = 64

-- the bytes of a body
abbrev pub MAX_BODY_BYTES : ℕ
MAX_BODY_BYTES = 1048576
