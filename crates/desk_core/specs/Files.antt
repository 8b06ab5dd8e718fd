-- The files of the rows of the tables, in the order of their names.
-- Worked examples: crates/tests_serving/stdin.
use Rattle.std.specs.Prelude.{◌≡◌, ℕ, List, find}
use Rattle.std.specs.Option.{option_map}
use Rattle.desk_tables.specs.Changes.{has_name}
use Rattle.desk_tables.specs.declared.change.Change.{Change}
use Rattle.desk_tables.specs.declared.change.Change.TheVariants.{PutFile, DropFile, Grant, Revoke, SignOff}
use Rattle.desk_tables.specs.declared.rows.FileRow.{FileRow}
use Rattle.desk_files.specs.Sources.{is_named, with_file, without_file}
use Rattle.source_file.specs.declared.SourceFile.{SourceFile}
use Rattle.design_db.specs.desk_memo.Orders.{AreInOrder}
use Rattle.source_file.specs.SourceFiles.{AreShort}

-- the file of a row
abbrev pub source_of : FileRow → SourceFile
source_of row = record { name = row.name; text = row.text }

-- these are the files of the rows, in the order of their names: for each name both have the same
-- text, or none
pub record AreFilesOf (rows : List FileRow) (files : List SourceFile) : Type 0 where
  pub in_order : AreInOrder files
  pub short : AreShort files
  pub same : (name : List ℕ) → find (is_named name) files ≡ option_map source_of (find (has_name name) rows)

-- what a change does to the files
abbrev pub files_changed : Change → List SourceFile → List SourceFile
files_changed (PutFile row reply) files = with_file (source_of row) files
files_changed (DropFile name reply) files = without_file name files
files_changed (Grant row reply) files = files
files_changed (Revoke id day reply) files = files
files_changed (SignOff row reply) files = files
