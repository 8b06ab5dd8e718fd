-- How large tables, names and texts may be, and which days there are.
-- Worked examples: crates/desk_tables/proofs/Example.antt.
use Rattle.std.specs.Prelude.{ℕ, ℤ, pos, negsuc}

-- the bytes of a user's name
abbrev pub MAX_NAME_BYTES : ℕ
MAX_NAME_BYTES = 32

-- the bytes of a file's name
abbrev pub MAX_FILE_NAME_BYTES : ℕ
MAX_FILE_NAME_BYTES = 64

-- the bytes of a file's text
abbrev pub MAX_BYTES : ℕ
MAX_BYTES = 1048576

-- the files of the desk
abbrev pub MAX_FILES : ℕ
MAX_FILES = 256

-- the bytes of the texts of all files
abbrev pub MAX_ALL_BYTES : ℕ
MAX_ALL_BYTES = 16777216

-- the waivers of the desk
abbrev pub MAX_WAIVERS : ℕ
MAX_WAIVERS = 10000

-- the sign-offs of the desk
abbrev pub MAX_SIGN_OFFS : ℕ
MAX_SIGN_OFFS = 10000

-- the replies that are kept
abbrev pub MAX_REPLIES : ℕ
MAX_REPLIES = 50000

-- 0000-01-01, as a number of days since 1970-01-01
abbrev pub FIRST_DAY : ℤ
FIRST_DAY = negsuc 719527

-- 9999-12-31
abbrev pub LAST_DAY : ℤ
LAST_DAY = pos 2932896
