-- Places in texts and files as an engineer reads them.
-- Worked examples: crates/tests_parts/stdin.
use Rattle.std.specs.Prelude.{ℕ, ◌+◌, List, [], ◌++◌, map, take, not, count_by, codes, slice_get, Option, None, Some}
use Rattle.std.specs.List.{suffix_len}
use Rattle.std.specs.Fmt.{decimal}
use Rattle.text_ground.specs.declared.text.Spot.{Spot}
use Rattle.source_file.specs.declared.SourceFile.{SourceFile}
use Rattle.desk_places.specs.Lines.{is_line_feed}
use Rattle.desk_places.specs.declared.lines.LineTable.{LineTable}
use Rattle.desk_places.specs.declared.placed_file.PlacedFile.{PlacedFile}
use Rattle.desk_places.specs.declared.sources.Sources.{Sources}

-- the line of a place, from 1: one more than the line feeds before it
abbrev pub line_of : List ℕ → ℕ → ℕ
line_of text at = 1 + count_by is_line_feed (take at text)

-- the column of a place, from 1: one more than the bytes between it and the last line feed before it
abbrev pub column_of : List ℕ → ℕ → ℕ
column_of text at = 1 + suffix_len (λ byte. not (is_line_feed byte)) (take at text)

-- a place: `file:line:column`
abbrev pub place_text : List ℕ → List ℕ → ℕ → List ℕ
place_text file text at = file ++ codes ":" ++ decimal (line_of text at) ++ codes ":" ++ decimal (column_of text at)

abbrev pub place_within : Option SourceFile → ℕ → List ℕ
place_within None at = []
place_within (Some file) at = place_text file.name file.text at

-- a spot: the place in the file with its number, and nothing where there is no such file
abbrev pub place_in : List SourceFile → Spot → List ℕ
place_in files spot = place_within (slice_get files spot.file) spot.at

-- the text of a table
abbrev pub text_of : LineTable → List ℕ
text_of table = table.text.now

-- what a contract sees of a file
abbrev pub file_of : PlacedFile → SourceFile
file_of placed = placed.file.now

-- what a contract sees of the files that were read
abbrev pub sources_of : Sources → List SourceFile
sources_of sources = map file_of sources.files.items
