-- How large files may be.
-- Worked examples: proofs/Example.antt.
use Rattle.std.specs.Prelude.{ℕ}

-- the bytes of a file's text
abbrev pub MAX_BYTES : ℕ
MAX_BYTES = 1048576
