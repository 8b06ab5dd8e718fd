-- Short texts of printable characters, and words.
-- Worked examples: crates/desk_http/proofs/Example.antt.
use Rattle.std.specs.Prelude.{ℕ, Bool, false, ◌&&◌, ◌==◌, not, nat_le, List, [], ◌∷◌, length}
use Rattle.std.specs.List.{list_all}
use Rattle.rtl_tree.specs.Lexemes.{is_in_word, opens_word}

-- a space, or a visible character of ASCII
abbrev pub is_printable : ℕ → Bool
is_printable letter = nat_le 32 letter && nat_le letter 126

-- one to so many of these
abbrev pub is_label : ℕ → List ℕ → Bool
is_label most text =
    not (length text == 0) && nat_le (length text) most && list_all is_printable text

-- a word of the language, which may name a module
abbrev pub is_word : List ℕ → Bool
is_word [] = false
is_word (letter ∷ letters) = opens_word letter && list_all is_in_word (letter ∷ letters)
