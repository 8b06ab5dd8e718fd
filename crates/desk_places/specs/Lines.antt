-- Where the lines of a text begin.
-- Worked examples: crates/tests_parts/stdin.
use Rattle.std.specs.Prelude.{ℕ, ◌+◌, ◌==◌, List, [], ◌∷◌, Bool, cond}

abbrev pub is_line_feed : ℕ → Bool
is_line_feed byte = byte == 10

-- the places behind the line feeds of a text whose first byte stands at a place
abbrev pub behind_feeds : ℕ → List ℕ → List ℕ
behind_feeds at [] = []
behind_feeds at (byte ∷ text) =
    cond (is_line_feed byte) ((at + 1) ∷ behind_feeds (at + 1) text) (behind_feeds (at + 1) text)

-- the places at which lines begin: the first, and each behind a line feed
abbrev pub line_starts : List ℕ → List ℕ
line_starts text = 0 ∷ behind_feeds 0 text
