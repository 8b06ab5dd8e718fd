-- Files by their names and texts.
-- Worked examples: crates/tests_layers/stdin.
use Rattle.std.specs.Prelude.{ℕ, ◌≤◌, List, length, map}
use Rattle.std.specs.List.{All}
use Rattle.source_file.specs.declared.SourceFile.{SourceFile}

abbrev pub names_in : List SourceFile → List (List ℕ)
names_in files = map (λ file. file.name) files

abbrev pub texts_in : List SourceFile → List (List ℕ)
texts_in files = map (λ file. file.text) files

-- no text is longer than a file may be
abbrev pub AreShort : List SourceFile → Type 0
AreShort files = All (λ file. length file.text ≤ 1048576) files
