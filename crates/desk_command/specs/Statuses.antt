-- The exit statuses.
-- Worked examples: tools/test.
use Rattle.std.specs.Prelude.{ℕ}

-- the work was done; of a report: each finding of the first grade has a waiver that stands
abbrev pub DONE : ℕ
DONE = 0

-- a finding of the first grade has no waiver that stands
abbrev pub OPEN : ℕ
OPEN = 1

-- the module has no design
abbrev pub REFUSED : ℕ
REFUSED = 2

-- the words are no command
abbrev pub NO_COMMAND : ℕ
NO_COMMAND = 3

-- a read failed
abbrev pub UNREAD : ℕ
UNREAD = 4

-- a write failed
abbrev pub UNWRITTEN : ℕ
UNWRITTEN = 5

-- the keeper of the tables failed
abbrev pub UNKEPT : ℕ
UNKEPT = 6

-- the clock failed
abbrev pub NO_DAY : ℕ
NO_DAY = 7

-- the door failed
abbrev pub NO_DOOR : ℕ
NO_DOOR = 8

-- a file isn't there or is too long
abbrev pub NO_FILE : ℕ
NO_FILE = 9

-- a row of the tables breaks a rule
abbrev pub BAD_TABLES : ℕ
BAD_TABLES = 14

-- memory ran out
abbrev pub NO_MEMORY : ℕ
NO_MEMORY = 20
