-- Files by their names and texts, in the order of the bytes of their names.
-- Worked examples: crates/desk_files/proofs/Example.antt.
use Rattle.std.specs.Prelude.{ℕ, Bool, bytes_eq, not, List, [], ◌∷◌, ◌++◌, filter, insert, position, slice_get, slice_set, Option, Some, None, if◌then◌else◌}
use Rattle.std.specs.Cmp.Lexicographic.{slice_cmp}
use Rattle.std.specs.List.{list_any}
use Rattle.std.specs.Ordering.{is_lt, nat_cmp}
use Rattle.source_file.specs.declared.SourceFile.{SourceFile}

-- the file has the name
abbrev pub is_named : List ℕ → SourceFile → Bool
is_named name file = bytes_eq file.name name

-- the file's name is less
abbrev pub is_before : List ℕ → SourceFile → Bool
is_before name file = is_lt (slice_cmp nat_cmp file.name name)

-- the first place of a file whose name isn't less
abbrev pub place_of : List ℕ → List SourceFile → Option ℕ
place_of name files = position (λ file. not (is_before name file)) files

-- the file in place of one that has its name, or before one that hasn't
abbrev pub with_file_by : Option SourceFile → ℕ → SourceFile → List SourceFile → List SourceFile
with_file_by None place file files = files
with_file_by (Some held) place file files =
    if is_named file.name held then slice_set files place file else insert files place file

abbrev pub with_file_at : Option ℕ → SourceFile → List SourceFile → List SourceFile
with_file_at None file files = files ++ file ∷ []
with_file_at (Some place) file files = with_file_by (slice_get files place) place file files

-- the files with this one: in place of the one that has its name, or before all whose names are greater
abbrev pub with_file : SourceFile → List SourceFile → List SourceFile
with_file file files = with_file_at (place_of file.name files) file files

-- some file has the name
abbrev pub has_file : List ℕ → List SourceFile → Bool
has_file name files = list_any (is_named name) files

-- the files without that of a name
abbrev pub without_file : List ℕ → List SourceFile → List SourceFile
without_file name files = filter (λ file. not (is_named name file)) files
