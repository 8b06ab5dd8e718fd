-- What a request for a sign-off comes to, with what the rules say of its module.
-- Worked examples: crates/desk_rulings/proofs/Example.antt.
use Rattle.std.specs.Prelude.{ℕ, ◌+◌, ℤ, nat_lt, bytes_eq, codes, decimal, List, ◌++◌, length, find, flat_map, map, Option, Some, None, if◌then◌else◌}
use Rattle.std.specs.List.{filter_map}
use Rattle.hex.specs.Hex.{encode_lower}
use Rattle.sha2.specs.Sha256.{sha256}
use Rattle.rtl_rule.specs.Rows.{has_first_grade}
use Rattle.rtl_rule.specs.declared.finding.Finding.{Finding}
use Rattle.desk_rows.specs.declared.Row.{Row}
use Rattle.desk_tables.specs.Changes.{has_name}
use Rattle.desk_tables.specs.Editions.{EDITION}
use Rattle.desk_tables.specs.Grades.{grade_word}
use Rattle.desk_tables.specs.Tables.{Kept}
use Rattle.desk_tables.specs.declared.change.Change.TheVariants as change
use Rattle.desk_tables.specs.declared.rows.FileRow.{FileRow}
use Rattle.desk_tables.specs.declared.rows.Grade.{Grade}
use Rattle.desk_tables.specs.declared.rows.Grade.TheVariants.{Clean, Waived}
use Rattle.desk_tables.specs.declared.rows.SignOffRow.{SignOffRow}
use Rattle.desk_requests.specs.declared.ask.Request.{Request}
use Rattle.desk_bodies.specs.Bodies.{granted_text}
use Rattle.desk_bodies.specs.Refusals.{conflict_with, value_line}
use Rattle.desk_records.specs.Machine.{kept_row}
use Rattle.desk_records.specs.Outcomes.{Outcome, Told, Done}
use Rattle.desk_rulings.specs.Rulings.{Verdict, left_of, standing_of}

-- the rows of the files of these names
abbrev pub rows_of : List FileRow → List (List ℕ) → List FileRow
rows_of files names = filter_map (λ name. find (has_name name) files) names

-- the first of these files that a user put last
abbrev pub edited_by : List ℕ → List FileRow → Option FileRow
edited_by who rows = find (λ row. bytes_eq row.editor who) rows

-- a file by its name and its digest, on a line
abbrev pub reach_line : FileRow → List ℕ
reach_line row = row.name ++ codes " " ++ encode_lower row.digest ++ codes "\n"

-- the digest of files, by their names and digests
abbrev pub reach_of : List FileRow → List ℕ
reach_of rows = sha256 (flat_map reach_line rows)

-- the findings of rows
abbrev pub findings_of : List Row → List Finding
findings_of rows = map (λ one. one.finding) rows

-- clean where no finding is of the first grade
abbrev pub grade_of : List Row → Grade
grade_of rows = if has_first_grade (findings_of rows) then Waived else Clean

-- the next row of the sign-offs, of the desk's edition
abbrev pub signoff_row : List ℕ → Request → ℤ → Kept → Verdict → SignOffRow
signoff_row top request today kept verdict = record {
  id = length kept.signoffs + 1;
  top = top;
  who = request.user;
  day = today;
  grade = grade_word (grade_of verdict.rows);
  reach = reach_of (rows_of kept.files verdict.reached);
  edition = Some EDITION;
}

abbrev pub accepted : SignOffRow → Request → Outcome
accepted row request =
    Done (change.SignOff row (kept_row request 201 (granted_text row.grade row.id)))

abbrev pub unless_edited : Option FileRow → Outcome → Outcome
unless_edited None it = it
unless_edited (Some row) it = Told (conflict_with (value_line (codes "SignerEdited") row.name))

-- so many findings stand
abbrev pub findings_stand : ℕ → Outcome
findings_stand left = Told (conflict_with (value_line (codes "FindingsStand") (decimal left)))

-- what a request for a sign-off comes to: findings stand, or who signs put a file that the module
-- reaches, or it is accepted
abbrev pub signoff_outcome : List ℕ → Request → ℤ → Kept → Verdict → Outcome
signoff_outcome top request today kept verdict =
    let left = left_of (standing_of today kept verdict) in
    if nat_lt 0 left then findings_stand left
    else unless_edited (edited_by request.user (rows_of kept.files verdict.reached))
    (accepted (signoff_row top request today kept verdict) request)
