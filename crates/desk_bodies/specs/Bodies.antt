-- The bodies of replies in JSON (RFC 8259), without spaces, the keys in the order of their bytes.
-- Worked examples: crates/desk_bodies/proofs/Example.antt.
use Rattle.std.specs.Prelude.{ℕ, ℤ, List, [], ◌∷◌, ◌++◌, length, flat_map, decimal, codes, Bool, true, false, Option, Some, None}
use Rattle.hex.specs.Hex.{encode_lower}
use Rattle.json.specs.Print.{quoted}
use Rattle.desk_dates.specs.Dates.{date_text}
use Rattle.desk_bodies.specs.Orders.{by_name}
use Rattle.desk_tables.specs.declared.rows.FileRow.{FileRow}
use Rattle.desk_tables.specs.declared.rows.SignOffRow.{SignOffRow}
use Rattle.desk_tables.specs.declared.rows.WaiverRow.{WaiverRow}

-- ---- parts of objects

-- what leads to a text, and the text
unfoldable pub with_text : List ℕ → List ℕ → List ℕ
with_text lead text = lead ++ quoted text

-- what leads to a number, and the number
unfoldable pub with_number : List ℕ → ℕ → List ℕ
with_number lead number = lead ++ decimal number

-- the same, where there may be no number
unfoldable pub with_number_or_null : List ℕ → Option ℕ → List ℕ
with_number_or_null lead None = lead ++ codes "null"
with_number_or_null lead (Some number) = with_number lead number

-- what leads to a digest, and the digest in hexadecimal
unfoldable pub with_digest : List ℕ → List ℕ → List ℕ
with_digest lead digest = lead ++ codes "\"" ++ encode_lower digest ++ codes "\""

-- what leads to a day, and the day as a date
unfoldable pub with_day : List ℕ → ℤ → List ℕ
with_day lead day = lead ++ codes "\"" ++ date_text day ++ codes "\""

-- the same, where there may be no day
unfoldable pub with_day_or_null : List ℕ → Option ℤ → List ℕ
with_day_or_null lead None = lead ++ codes "null"
with_day_or_null lead (Some day) = with_day lead day

-- what leads to a digest, and the digest or `null`
unfoldable pub with_digest_or_null : List ℕ → Option (List ℕ) → List ℕ
with_digest_or_null lead None = lead ++ codes "null"
with_digest_or_null lead (Some digest) = with_digest lead digest

-- what the text of each of these is, with commas between
unfoldable pub listed : {Row : Type 0} → (Row → List ℕ) → List Row → List ℕ
listed text [] = []
listed text (row ∷ rows) = text row ++ flat_map (λ other. codes "," ++ text other) rows

-- a list of what the text of each of these is
unfoldable pub array : {Row : Type 0} → (Row → List ℕ) → List Row → List ℕ
array text rows = codes "[" ++ listed text rows ++ codes "]"

-- ---- files

-- a file
unfoldable pub file_text : FileRow → List ℕ
file_text row =
    with_number (codes "{\"bytes\":") (length row.text)
    ++ with_digest (codes ",\"digest\":") row.digest
    ++ with_text (codes ",\"name\":") row.name ++ codes "}"

-- a file with who last put it
unfoldable pub edited_text : FileRow → List ℕ
edited_text row =
    with_number (codes "{\"bytes\":") (length row.text)
    ++ with_digest (codes ",\"digest\":") row.digest
    ++ with_text (codes ",\"editor\":") row.editor
    ++ with_text (codes ",\"name\":") row.name ++ codes "}"

-- a file in a list, its digest under the name of the hash
unfoldable pub listed_file_text : FileRow → List ℕ
listed_file_text row =
    with_number (codes "{\"bytes\":") (length row.text)
    ++ with_text (codes ",\"editor\":") row.editor
    ++ with_text (codes ",\"file\":") row.name
    ++ with_digest (codes ",\"sha256\":") row.digest ++ codes "}"

-- all files, in the order of their names
abbrev pub files_text : List FileRow → List ℕ
files_text rows = array listed_file_text (by_name rows)

-- a name alone
unfoldable pub name_text : List ℕ → List ℕ
name_text name = with_text (codes "{\"name\":") name ++ codes "}"

-- ---- modules

unfoldable pub truth_text : Bool → List ℕ
truth_text true = codes "true"
truth_text false = codes "false"

-- whether it is known what the rules say of a module as its files are; the digest of these files; and the number of the last
-- sign-off of just these
unfoldable pub reach_text : Bool → Option (List ℕ) → Option ℕ → List ℕ
reach_text current reach signoff =
    codes "{\"current\":" ++ truth_text current
    ++ with_digest_or_null (codes ",\"reach\":") reach
    ++ with_number_or_null (codes ",\"signoff\":") signoff ++ codes "}"

-- ---- sign-offs

-- a number alone
unfoldable pub id_text : ℕ → List ℕ
id_text id = with_number (codes "{\"id\":") id ++ codes "}"

-- the word of a grade, and the number of a sign-off
unfoldable pub granted_text : List ℕ → ℕ → List ℕ
granted_text grade id =
    with_text (codes "{\"grade\":") grade
    ++ with_number (codes ",\"id\":") id ++ codes "}"

-- the members from `day` to `id`
unfoldable pub signoff_front : SignOffRow → List ℕ
signoff_front row =
    with_day (codes "{\"day\":") row.day
    ++ with_number_or_null (codes ",\"edition\":") row.edition
    ++ with_text (codes ",\"grade\":") row.grade ++ with_number (codes ",\"id\":") row.id

-- the members from `reach` to `who`
unfoldable pub signoff_end : SignOffRow → List ℕ
signoff_end row =
    with_digest (codes ",\"reach\":") row.reach ++ with_text (codes ",\"top\":") row.top
    ++ with_text (codes ",\"who\":") row.who ++ codes "}"

-- a sign-off
abbrev pub signoff_text : SignOffRow → List ℕ
signoff_text row = signoff_front row ++ signoff_end row

-- ---- waivers

-- the members from `asker` to `file`
unfoldable pub waiver_front : WaiverRow → List ℕ
waiver_front row =
    with_text (codes "{\"asker\":") row.asker ++ with_number (codes ",\"at\":") row.at
    ++ with_digest (codes ",\"digest\":") row.digest
    ++ with_day_or_null (codes ",\"ended\":") row.ended
    ++ with_text (codes ",\"file\":") row.file

-- the members from `id` to `reason`
unfoldable pub waiver_middle : WaiverRow → List ℕ
waiver_middle row =
    with_number (codes ",\"id\":") row.id.0 ++ with_day (codes ",\"last_day\":") row.last_day
    ++ with_text (codes ",\"owner\":") row.owner ++ with_text (codes ",\"reason\":") row.reason

-- the members from `rule` to `top`
unfoldable pub waiver_end : WaiverRow → List ℕ
waiver_end row =
    with_text (codes ",\"rule\":") row.rule ++ with_text (codes ",\"target\":") row.target
    ++ with_text (codes ",\"top\":") row.top ++ codes "}"

-- a waiver
abbrev pub waiver_text : WaiverRow → List ℕ
waiver_text row = waiver_front row ++ waiver_middle row ++ waiver_end row
