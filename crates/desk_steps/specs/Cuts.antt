-- It serves inner contracts and proofs; no answer of the program is stated by it.
-- What the code cuts, as contracts see it.
use Rattle.std.specs.Prelude.{ℕ, suc, ◌+◌, ◌==◌, cond, length, List, [], ◌∷◌, Option, None, Some}
use Rattle.std.specs.Borrow.{Bor}
use Rattle.desk_steps.specs.Lines.{Cut, parts}

abbrev pub cut : (Bor (List ℕ) × Bor (List ℕ)) → Cut
cut (before, behind) = record { before = before.now; behind = behind.now }

-- the parts behind a mark, if one stands there
abbrev pub parts_behind : Option (List ℕ) → List (List ℕ)
parts_behind None = []
parts_behind (Some text) = parts 32 text

-- the first place at which a byte stands, or the length of the text
abbrev pub place_of : ℕ → List ℕ → ℕ
place_of mark [] = 0
place_of mark (byte ∷ text) = cond (byte == mark) 0 (suc (place_of mark text))

-- how much may be left to be read
abbrev pub left : Option (Bor (List ℕ)) → ℕ
left None = 0
left (Some text) = length text.now + 1
