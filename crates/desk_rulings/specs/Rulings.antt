-- Which waivers of the tables stand for the findings of a module on a day.
-- Worked examples: crates/desk_rulings/proofs/Example.antt.
use Rattle.std.specs.Prelude.{ℕ, ℤ, int_le, Bool, ◌&&◌, ◌==◌, bytes_eq, List, count_by, find, is_none, map, option_map, slice_get, Option}
use Rattle.std.specs.Option.{option_and_then}
use Rattle.rtl_rule.specs.Rows.{row_of}
use Rattle.rtl_rule.specs.declared.finding.Key.{Key}
use Rattle.source_file.specs.declared.SourceFile.{SourceFile}
use Rattle.desk_rows.specs.Rows.{Waived}
use Rattle.desk_rows.specs.declared.Row.{Row}
use Rattle.desk_tables.specs.Changes.{has_name}
use Rattle.desk_tables.specs.Tables.{Kept}
use Rattle.desk_tables.specs.declared.rows.FileRow.{FileRow}
use Rattle.desk_tables.specs.declared.rows.WaiverId.{WaiverId}
use Rattle.desk_tables.specs.declared.rows.WaiverRow.{WaiverRow}
use Rattle.desk_rulings.specs.declared.ruled.Ruled.{Ruled}

-- what the rules say of a module: its findings with what is told of each, the files that it uses in
-- the order of their names, and these names
pub record Verdict : Type 0 where
  pub rows : List Row
  pub files : List SourceFile
  pub reached : List (List ℕ)

-- what a contract sees of a ruling
abbrev pub verdict_of : Ruled → Verdict
verdict_of ruled = record {
  rows = ruled.rows.now;
  files = map (λ file. file.now) ruled.files.now;
  reached = ruled.reached.now;
}

-- what names a finding across edits, and the digest of its file
pub record Site : Type 0 where
  pub key : Key
  pub digest : List ℕ

-- the digest of the file of a name
abbrev pub digest_of : List FileRow → List ℕ → Option (List ℕ)
digest_of rows name = option_map (λ row. row.digest) (find (has_name name) rows)

abbrev pub key_in : Row → SourceFile → Key
key_in one file = record {
  rule = one.finding.rule;
  target = one.told.target;
  file = file.name;
  at = one.finding.spot.at;
}

abbrev pub site_in : List FileRow → Row → SourceFile → Option Site
site_in rows one file =
    option_map (λ digest. record { key = key_in one file; digest = digest })
    (digest_of rows file.name)

-- the site of a finding; none where its file isn't kept
abbrev pub site_of : List FileRow → List SourceFile → Row → Option Site
site_of rows files one =
    option_and_then (site_in rows one) (slice_get files one.finding.spot.file)

-- the waiver is of the finding at the site, in a file with the same digest
abbrev pub is_for : Site → WaiverRow → Bool
is_for site row =
    bytes_eq row.rule (row_of site.key.rule).code && row.at == site.key.at
    && bytes_eq row.target site.key.target && bytes_eq row.file site.key.file
    && bytes_eq row.digest site.digest

-- it isn't revoked, and its last day is this day or later
abbrev pub stands : ℤ → WaiverRow → Bool
stands today row = is_none row.ended && int_le today row.last_day

-- it stands on this day and is of the finding at the site
abbrev pub covers : ℤ → Site → WaiverRow → Bool
covers today site row = stands today row && is_for site row

-- the number and the last day of the first waiver that covers a site
abbrev pub standing_in : ℤ → List WaiverRow → Site → Option (WaiverId × ℤ)
standing_in today rows site =
    option_map (λ row. (row.id, row.last_day)) (find (covers today site) rows)

-- a finding with the waiver that stands on a day, and its last day
abbrev pub standing_for : ℤ → Kept → List SourceFile → Row → Waived
standing_for today kept files one = record {
  row = one;
  waiver = option_and_then (standing_in today kept.waivers) (site_of kept.files files one);
}

-- each finding with the waiver that stands on a day
abbrev pub standing_of : ℤ → Kept → Verdict → List Waived
standing_of today kept verdict = map (standing_for today kept verdict.files) verdict.rows

-- a finding of the first grade has no waiver
abbrev pub is_open : Waived → Bool
is_open one = (row_of one.row.finding.rule).first_grade && is_none one.waiver

-- how many findings of the first grade have no waiver
abbrev pub left_of : List Waived → ℕ
left_of rows = count_by is_open rows
