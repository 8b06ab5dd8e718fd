-- Names of users.
-- Worked examples: crates/desk_tables/proofs/Example.antt.
use Rattle.std.specs.Prelude.{ℕ, Bool, ◌&&◌, ◌||◌, ◌==◌, not, nat_le, List, length, Option, Some, None, if◌then◌else◌}
use Rattle.std.specs.List.{list_all}
use Rattle.std.specs.Char.{is_ascii_digit, is_ascii_lowercase}
use Rattle.std.specs.Str.{byte}
use Rattle.desk_tables.specs.Limits.{MAX_NAME_BYTES}

-- a small letter, a digit, `_` or `-`
abbrev pub is_name_letter : ℕ → Bool
is_name_letter letter =
    is_ascii_lowercase letter || is_ascii_digit letter || letter == byte "_" || letter == byte "-"

-- one to 32 such characters
abbrev pub is_name : List ℕ → Bool
is_name text =
    not (length text == 0) && nat_le (length text) MAX_NAME_BYTES && list_all is_name_letter text

-- the name that is this text
abbrev pub name_of : List ℕ → Option (List ℕ)
name_of text = if is_name text then Some text else None
