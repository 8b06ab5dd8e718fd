-- Files in the order of the bytes of their names.
-- Worked examples: crates/desk_bodies/proofs/Example.antt.
use Rattle.std.specs.Prelude.{Bool, List, [], ◌∷◌, if◌then◌else◌}
use Rattle.std.specs.Cmp.Lexicographic.{slice_cmp}
use Rattle.std.specs.Ordering.{is_lt, nat_cmp}
use Rattle.desk_tables.specs.declared.rows.FileRow.{FileRow}

-- the name of the first is less
abbrev pub is_before : FileRow → FileRow → Bool
is_before row other = is_lt (slice_cmp nat_cmp row.name other.name)

-- a file among others in order: before the first whose name isn't less
abbrev pub placed : FileRow → List FileRow → List FileRow
placed row [] = row ∷ []
placed row (first ∷ others) =
    if is_before first row then first ∷ placed row others else row ∷ first ∷ others

-- the files in order
abbrev pub by_name : List FileRow → List FileRow
by_name [] = []
by_name (row ∷ rows) = placed row (by_name rows)
