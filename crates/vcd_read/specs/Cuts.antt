-- It serves inner contracts and proofs; no answer of the program is stated by it.
-- Where words begin and end.
use Rattle.std.specs.Prelude.{ℕ, suc, if◌then◌else◌, List, [], ◌∷◌, Option, None, Some}
use Rattle.vcd_read.specs.declared.word.Found.{Found}
use Rattle.vcd_read.specs.Words.{Word, is_blank, words}

-- how many blanks a text begins with
abbrev pub blanks : List ℕ → ℕ
blanks [] = 0
blanks (byte ∷ text) = if is_blank byte then suc (blanks text) else 0

-- how many other bytes a text begins with
abbrev pub solid : List ℕ → ℕ
solid [] = 0
solid (byte ∷ text) = if is_blank byte then 0 else suc (solid text)

-- the words of a text whose first is found
abbrev pub found_word : Option Found → List Word
found_word None = []
found_word (Some found) = record { at = found.at; text = found.word.now } ∷ words found.end found.rest.now
