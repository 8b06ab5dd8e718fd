-- Texts on one line.
-- Worked examples: crates/tests_rows/stdin.
use Rattle.std.specs.Prelude.{ℕ, nat_lt, List, [], ◌∷◌, ◌++◌, Bool, false, ◌&&◌, if◌then◌else◌, codes, Option, None, Some}
use Rattle.rtl_tree.specs.Lexemes.{is_blank}

-- a byte as it is written: a printable one as it is, and any other as a question mark
abbrev pub shown : ℕ → ℕ
shown byte = if nat_lt 32 byte && nat_lt byte 127 then byte else 63

-- a byte behind a blank or behind none: of several blanks the first alone is written, as a space
abbrev pub byte_text : Bool → ℕ → List ℕ
byte_text behind byte =
    if is_blank byte then (if behind then [] else 32 ∷ []) else shown byte ∷ []

-- a text behind a blank or behind none, each run of blanks as one space
abbrev pub on_one_line : Bool → List ℕ → List ℕ
on_one_line behind [] = []
on_one_line behind (byte ∷ bytes) = byte_text behind byte ++ on_one_line (is_blank byte) bytes

-- the text of a fault, if it carries one
abbrev pub word_part : Option (List ℕ) → List ℕ
word_part None = []
word_part (Some word) = codes " " ++ on_one_line false word
