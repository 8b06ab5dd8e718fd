-- Places in files, as they are written: FILE:LINE:COLUMN.
-- Worked examples: crates/desk_http/proofs/Example.antt.
use Rattle.std.specs.Prelude.{ℕ, ◌+◌, Bool, false, ◌&&◌, ◌==◌, not, List, [], ◌∷◌, length, take, drop, Option, Some, None, option_map, if◌then◌else◌}
use Rattle.std.specs.Borrow.{Bor}
use Rattle.std.specs.Option.{option_or}
use Rattle.std.specs.Str.{byte}
use Rattle.desk_numbers.specs.Numbers.{is_positive}

-- parts that are lent, as they are seen
abbrev pub plain_parts : Option (Bor (List ℕ) × Bor (List ℕ)) → Option (List ℕ × List ℕ)
plain_parts found = option_map (λ it. (it.0.now, it.1.now)) found

-- the place of the last colon of a text, whose first byte has this place
abbrev pub last_colon : ℕ → List ℕ → Option ℕ
last_colon place [] = None
last_colon place (letter ∷ letters) =
    option_or (last_colon (place + 1) letters) (if letter == byte ":" then Some place else None)

-- what is before the last colon of a text, and what is behind it
abbrev pub parted : List ℕ → Option (List ℕ × List ℕ)
parted text = option_map (λ at. (take at text, drop (at + 1) text)) (last_colon 0 text)

-- the parts are a file's name and a line
abbrev pub is_line : Option (List ℕ × List ℕ) → Bool
is_line None = false
is_line (Some parts) = not (length parts.0 == 0) && is_positive parts.1

-- the parts are a line of a file and a column
abbrev pub is_column : Option (List ℕ × List ℕ) → Bool
is_column None = false
is_column (Some parts) = is_positive parts.1 && is_line (parted parts.0)

-- one character or more, and two numbers from 1, with colons between
abbrev pub is_place : List ℕ → Bool
is_place text = is_column (parted text)
