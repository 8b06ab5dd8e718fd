-- The rules of the tables. A row is looked at with the rows before it in its table.
-- Worked examples: crates/desk_tables/proofs/Example.antt.
use Rattle.std.specs.Prelude.{ℕ, Bool, not, ◌&&◌, ◌||◌, ◌==◌, ◌+◌, nat_le, nat_lt, bytes_eq, List, [], ◌∷◌, ◌++◌, length, sum_by, is_some, option_map, Option, Some, None, if◌then◌else◌}
use Rattle.std.specs.List.{list_all, list_any}
use Rattle.std.specs.Char.{is_ascii_alphanumeric}
use Rattle.std.specs.Str.{byte, is_utf8}
use Rattle.sha2.specs.Sha256.{sha256}
use Rattle.rtl_rule.specs.Rows.{rule_with}
use Rattle.desk_tables.specs.Editions.{is_edition, is_version, version_of}
use Rattle.desk_tables.specs.Grades.{is_grade_word}
use Rattle.desk_tables.specs.Limits.{MAX_BYTES, MAX_ALL_BYTES, MAX_FILES, MAX_FILE_NAME_BYTES, MAX_REPLIES, MAX_SIGN_OFFS, MAX_WAIVERS}
use Rattle.desk_tables.specs.Tables.{Kept}
use Rattle.desk_tables.specs.declared.rows.MetaRow.{MetaRow}
use Rattle.desk_tables.specs.declared.rows.FileRow.{FileRow}
use Rattle.desk_tables.specs.declared.rows.WaiverRow.{WaiverRow}
use Rattle.desk_tables.specs.declared.rows.SignOffRow.{SignOffRow}
use Rattle.desk_tables.specs.declared.rows.ReplyRow.{ReplyRow}
use Rattle.desk_tables.specs.declared.rows.Table.{Table}
use Rattle.desk_tables.specs.declared.rows.Table.TheVariants.{Meta, Files, Waivers, SignOffs, Replies}

-- ---- files

-- a letter, a digit, `_`, `.` or `-`
abbrev pub is_file_letter : ℕ → Bool
is_file_letter letter =
    is_ascii_alphanumeric letter || letter == byte "_" || letter == byte "." || letter == byte "-"

-- one to 64 such characters
abbrev pub is_file_name : List ℕ → Bool
is_file_name name =
    not (length name == 0) && nat_le (length name) MAX_FILE_NAME_BYTES && list_all is_file_letter name

-- the row keeps the rules of a file that look at no other row
abbrev pub is_sound_file : FileRow → Bool
is_sound_file row =
    is_file_name row.name && nat_le (length row.text) MAX_BYTES && bytes_eq row.digest (sha256 row.text)

-- the bytes of these files' texts together
abbrev pub all_bytes : List FileRow → ℕ
all_bytes files = sum_by (λ row. length row.text) files

-- some of these files has the name
abbrev pub has_file : List ℕ → List FileRow → Bool
has_file name files = list_any (λ row. bytes_eq row.name name) files

abbrev pub file_breaks : List FileRow → FileRow → Bool
file_breaks before row =
    not (is_sound_file row) || nat_le MAX_FILES (length before) || has_file row.name before || nat_lt MAX_ALL_BYTES (all_bytes before + length row.text)

-- ---- waivers

-- the row keeps the rules of a waiver that look at no other row
abbrev pub is_sound_waiver : WaiverRow → Bool
is_sound_waiver row =
    is_utf8 row.top && is_utf8 row.target && is_file_name row.file && is_utf8 row.reason
    && is_some (rule_with row.rule) && not (bytes_eq row.owner row.asker)

abbrev pub waiver_breaks : List WaiverRow → WaiverRow → Bool
waiver_breaks before row =
    not (is_sound_waiver row) || nat_le MAX_WAIVERS (length before) || not (row.id.0 == length before + 1)

-- ---- sign-offs

-- in tables of this version the row keeps the rules of a sign-off that look at no other row
abbrev pub is_sound_signoff : ℕ → SignOffRow → Bool
is_sound_signoff version row =
    is_utf8 row.top && is_grade_word row.grade && is_edition version row.edition

abbrev pub signoff_breaks : ℕ → List SignOffRow → SignOffRow → Bool
signoff_breaks version before row =
    not (is_sound_signoff version row) || nat_le MAX_SIGN_OFFS (length before) || not (row.id == length before + 1)

-- ---- replies

-- the row keeps the rules of a reply that look at no other row
abbrev pub is_sound_reply : ReplyRow → Bool
is_sound_reply row = is_utf8 row.request && (row.status == 200 || row.status == 201)

-- some of these replies is to this user's request of this name
abbrev pub has_reply : List ℕ → List ℕ → List ReplyRow → Bool
has_reply user request replies =
    list_any (λ row. bytes_eq row.user user && bytes_eq row.request request) replies

abbrev pub reply_breaks : List ReplyRow → ReplyRow → Bool
reply_breaks before row =
    not (is_sound_reply row) || nat_le MAX_REPLIES (length before) || has_reply row.user row.request before

-- ---- tables

-- the number, from 1, of the first of these rows that breaks a rule, where those rows stand before them
abbrev pub first_broken : {Row : Type 0} → (List Row → Row → Bool) → List Row → List Row → Option ℕ
first_broken breaks before [] = None
first_broken breaks before (row ∷ rows) =
    if breaks before row then Some (length before + 1) else first_broken breaks (before ++ row ∷ []) rows

-- one row, of version 1 or 2
abbrev pub meta_breaks : List MetaRow → MetaRow → Bool
meta_breaks before row = not (is_version row.version) || nat_le 1 (length before)

abbrev pub broken_meta : List MetaRow → Option ℕ
broken_meta [] = Some 1
broken_meta (row ∷ rows) = first_broken meta_breaks [] (row ∷ rows)

abbrev pub or_else : {A : Type 0} → Option A → Option A → Option A
or_else None other = other
or_else (Some it) other = Some it

abbrev pub in_table : Table → Option ℕ → Option (Table × ℕ)
in_table table place = option_map (λ row. (table, row)) place

-- the first table that breaks a rule, and the number of its first row that does
abbrev pub broken_row : Kept → Option (Table × ℕ)
broken_row kept =
    or_else (in_table Meta (broken_meta kept.meta))
    (or_else (in_table Files (first_broken file_breaks [] kept.files))
    (or_else (in_table Waivers (first_broken waiver_breaks [] kept.waivers))
    (or_else (in_table SignOffs (first_broken (signoff_breaks (version_of kept.meta)) [] kept.signoffs))
    (in_table Replies (first_broken reply_breaks [] kept.replies)))))
