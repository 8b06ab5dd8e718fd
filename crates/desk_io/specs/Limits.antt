-- How long a file may be.
-- Worked examples: crates/tests_parts/stdin.
use Rattle.std.specs.Prelude.{ℕ}

-- the bytes of a file
abbrev pub MAX_FILE_BYTES : ℕ
MAX_FILE_BYTES = 1048576
