-- It serves inner contracts and proofs; no answer of the program is stated by it.
-- What files show: their list, and for how many more there is room.
use Rattle.std.specs.Prelude.{ℕ, ◌-◌, List, vec_len, vec_capacity}
use Rattle.desk_files.specs.declared.files.Files.{Files}
use Rattle.source_file.specs.declared.SourceFile.{SourceFile}

abbrev pub list_of : Files → List SourceFile
list_of files = files.files.items

-- for how many more files there is room
abbrev pub room : Files → ℕ
room files = vec_capacity files.files - vec_len files.files
