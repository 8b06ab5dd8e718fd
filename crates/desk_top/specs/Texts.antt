-- The texts of files.
-- Worked examples: crates/tests_rows/stdin.
use Rattle.std.specs.Prelude.{ℕ, List, [], ◌∷◌, ◌++◌, Option, None, Some, Result, Ok, Err}
use Rattle.desk_io.specs.declared.shelf.ShelfFault.{ShelfFault}
use Rattle.desk_io.specs.Shelf.{Files, reading}
use Rattle.source_file.specs.declared.SourceFile.{SourceFile}

-- a text before others, if all of them were read
abbrev pub with_text : Result (List ℕ) ShelfFault → Option (List (List ℕ)) → Option (List (List ℕ))
with_text (Ok text) (Some others) = Some (text ∷ others)
with_text (Ok text) None = None
with_text (Err fault) others = None

-- the texts of files, if each of them is there and no longer than a file may be
abbrev pub texts_of : Files → List (List ℕ) → Option (List (List ℕ))
texts_of files [] = Some []
texts_of files (name ∷ names) = with_text (reading (files name)) (texts_of files names)

-- texts in front of others
abbrev pub joined : List (List ℕ) → Option (List (List ℕ)) → Option (List (List ℕ))
joined texts None = None
joined texts (Some others) = Some (texts ++ others)

-- files by their names and texts
abbrev pub named : List (List ℕ) → List (List ℕ) → List SourceFile
named [] texts = []
named (name ∷ names) [] = []
named (name ∷ names) (text ∷ texts) = record { name = name; text = text } ∷ named names texts
