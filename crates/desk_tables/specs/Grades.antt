-- The grades of sign-offs, by their words.
-- Worked examples: crates/desk_tables/proofs/Example.antt.
use Rattle.std.specs.Prelude.{ℕ, Bool, ◌||◌, bytes_eq, codes, List}
use Rattle.desk_tables.specs.declared.rows.Grade.{Grade}
use Rattle.desk_tables.specs.declared.rows.Grade.TheVariants.{Clean, Waived}

-- the word of a grade
abbrev pub grade_word : Grade → List ℕ
grade_word Clean = codes "clean"
grade_word Waived = codes "waived"

-- some grade has the word
abbrev pub is_grade_word : List ℕ → Bool
is_grade_word word = bytes_eq word (grade_word Clean) || bytes_eq word (grade_word Waived)
