-- The files of rows that are taken one by one.
use Rattle.std.proofs.Common.{◌≡◌, ◌∙◌, ℕ, ◌+◌, ◌<◌, ◌≤◌, true, false, List, [], ◌∷◌, ◌++◌, length, zero, suc, take, get_or, None, refl, sym, ap, subst, arith}
use Rattle.std.specs.List.{fold}
use Rattle.std.proofs.lemmas.Bool.{and_parts, leb-true, not-false, or_parts}
use Rattle.std.proofs.lemmas.List.{get_or_default, take_all, take_more}
use Rattle.std.proofs.lemmas.Grind.{fold-append}
use Rattle.std.proofs.lemmas.List.Elements.{All-nil}
use Rattle.desk_files.specs.Limits.{MAX_BYTES}
use Rattle.desk_tables.specs.Changes as tables
use Rattle.desk_tables.specs.Changes.{has_name}
use Rattle.desk_tables.specs.Rules.{broken_row, file_breaks, has_file, is_sound_file}
use Rattle.desk_tables.specs.Tables.{Kept}
use Rattle.desk_tables.specs.declared.rows.FileRow.{FileRow}
use Rattle.desk_files.specs.Sources.{with_file}
use Rattle.source_file.specs.declared.SourceFile.{SourceFile}
use Rattle.desk_core.specs.Files.{AreFilesOf, source_of}
use Rattle.desk_sound.proofs.Placed.{row_put_past}
use Rattle.desk_sound.proofs.Tables.{sound_from}
use Rattle.desk_sound.proofs.Unbroken.{unbroken_at}
use Rattle.desk_core.proofs.Files.{files_put}

-- a row may stand behind those
pub record IsNextFile (before : List FileRow) (row : FileRow) : Type 0 where
  pub short : length row.text ≤ MAX_BYTES
  pub new : has_file row.name before ≡ false

-- a row of a new name stands behind the others
put_behind : (row : FileRow) (rows : List FileRow) → has_file row.name rows ≡ false → tables.with_file row rows ≡ rows ++ row ∷ []
put_behind row [] new = refl
put_behind row (held ∷ rows) new =
    let apart = or_parts (has_name row.name held) (has_file row.name rows) new in
    row_put_past row held rows apart.0 ∙ ap (λ it. held ∷ it) (put_behind row rows apart.1)

pub files_none : AreFilesOf [] []
files_none = record {
  in_order = tt;
  short = All-nil (λ file. length file.text ≤ MAX_BYTES);
  same = λ name. refl;
}

-- one row more
pub files_more : (rows : List FileRow) (place : ℕ) (row : FileRow) (files : List SourceFile) → place < length rows → row ≡ get_or rows place row → IsNextFile (take place rows) row → AreFilesOf (take place rows) files → AreFilesOf (take (place + 1) rows) (with_file (source_of row) files)
files_more rows place row files inside read next are =
    let whole : tables.with_file row (take place rows) ≡ take (place + 1) rows =
    put_behind row (take place rows) next.new
    ∙ ap (λ it. take place rows ++ it ∷ []) read
    ∙ sym (take_more rows place row inside) in
    subst (λ it. AreFilesOf it (with_file (source_of row) files)) whole (files_put row (take place rows) files next.short are)

-- all rows are taken
pub files_all : (rows : List FileRow) (place : ℕ) (files : List SourceFile) → length rows ≤ place → AreFilesOf (take place rows) files → AreFilesOf rows files
files_all rows place files ended are = subst (λ it. AreFilesOf it files) (take_all place rows ended) are

-- the files of rows, each put behind those before it
abbrev pub files_from : List FileRow → List SourceFile
files_from rows = fold (λ files row. with_file (source_of row) files) [] rows

-- each of these rows may stand behind those before it
abbrev pub AreNextFiles : List FileRow → Type 0
AreNextFiles rows = (place : ℕ) (row : FileRow) → place < length rows → row ≡ get_or rows place row → IsNextFile (take place rows) row

files_taken : (rows : List FileRow) (first : FileRow) (many : ℕ) → AreNextFiles rows → many ≤ length rows → AreFilesOf (take many rows) (files_from (take many rows))
files_taken rows first zero next inside = files_none
files_taken rows first (suc many) next inside =
    let row : FileRow = get_or rows many first in
    let within : many < length rows = omega arith in
    let read : row ≡ get_or rows many row = get_or_default rows many first row within in
    let next_many : suc many ≡ many + 1 = omega arith in
    let one : take (suc many) rows ≡ take many rows ++ row ∷ [] =
    ap (λ n. take n rows) next_many ∙ take_more rows many first within in
    let more : AreFilesOf (take (many + 1) rows) (with_file (source_of row) (files_from (take many rows))) =
    files_more rows many row (files_from (take many rows)) within read (next many row within read) (files_taken rows first many next (omega arith)) in
    subst (λ it. AreFilesOf it (files_from it)) (sym one)
    (subst (AreFilesOf (take many rows ++ row ∷ [])) (sym (fold-append (λ files row. with_file (source_of row) files) [] (take many rows) (row ∷ [])))
    (subst (λ it. AreFilesOf it (with_file (source_of row) (files_from (take many rows)))) (take_more rows many first within) more))

pub files_put_in_turn : (rows : List FileRow) → AreNextFiles rows → AreFilesOf rows (files_from rows)
files_put_in_turn [] next = files_none
files_put_in_turn (row ∷ rows) next =
    subst (λ it. AreFilesOf it (files_from it)) (take_all (length (row ∷ rows)) (row ∷ rows) (omega arith))
    (files_taken (row ∷ rows) row (length (row ∷ rows)) next (omega arith))

-- ---- tables that break no rule

pub next_file : (kept : Kept) (place : ℕ) (row : FileRow) → broken_row kept ≡ None → place < length kept.files → row ≡ get_or kept.files place row → IsNextFile (take place kept.files) row
next_file kept place row none inside read =
    let sound : file_breaks (take place kept.files) row ≡ false =
    ap (file_breaks (take place kept.files)) read ∙ unbroken_at file_breaks kept.files place row (sound_from kept none).files inside in
    let named = or_parts _ _ (or_parts _ _ sound).0 in
    let whole : is_sound_file row ≡ true = not-false _ (or_parts _ _ named.0).0 in
    record {
      short = leb-true _ _ (and_parts _ _ (and_parts _ _ whole).0).1;
      new = named.1;
    }

-- the rows of tables that break no rule, put one by one, are their files
pub files_of_start : (kept : Kept) → broken_row kept ≡ None → AreFilesOf kept.files (files_from kept.files)
files_of_start kept none = files_put_in_turn kept.files (λ place row. next_file kept place row none)
