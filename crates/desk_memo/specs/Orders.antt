-- Files in the order of their names.
-- Worked examples: crates/desk_answers/proofs/FreshExample.antt.
use Rattle.std.specs.Prelude.{◌≡◌, true, List, [], ◌∷◌, ⊤}
use Rattle.std.specs.List.{All}
use Rattle.desk_files.specs.Sources.{is_before}
use Rattle.source_file.specs.declared.SourceFile.{SourceFile}

-- each name is less than all those behind it
abbrev pub AreInOrder : List SourceFile → Type 0
AreInOrder [] = ⊤
AreInOrder (file ∷ files) =
    All (λ other. is_before other.name file ≡ true) files × AreInOrder files
