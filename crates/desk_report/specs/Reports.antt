-- The report of a ruling. Every line ends with a line feed.
-- Worked examples: crates/tests_rows/stdin.
use Rattle.std.specs.Prelude.{ℕ, ℤ, List, [], ◌∷◌, ◌++◌, length, count_by, is_some, Option, None, Some, Bool, true, false, codes}
use Rattle.std.specs.Fmt.{decimal}
use Rattle.rtl_rule.specs.Rows.{row_of}
use Rattle.demo_told.specs.declared.demo.Demo.{Demo}
use Rattle.demo_told.specs.declared.demo.Shown.{Shown}
use Rattle.desk_dates.specs.Dates.{date_text}
use Rattle.source_file.specs.declared.SourceFile.{SourceFile}
use Rattle.desk_places.specs.Places.{place_in}
use Rattle.desk_tables.specs.declared.rows.WaiverId.{WaiverId}
use Rattle.desk_rows.specs.Rows.{Waived}
use Rattle.desk_rows.specs.declared.Row.{Row}
use Rattle.desk_report.specs.Demos.{demo_line}

-- a line of this text
abbrev pub line : List ℕ → List ℕ
line text = text ++ 10 ∷ []

abbrev pub yes_or_no : Bool → List ℕ
yes_or_no true = codes "yes"
yes_or_no false = codes "no"

-- the waiver of a finding that stands: ` waived ID until YYYY-MM-DD`
abbrev pub waiver_text : Option (WaiverId × ℤ) → List ℕ
waiver_text None = []
waiver_text (Some (id, day)) =
    codes " waived " ++ (decimal id.0 ++ (codes " until " ++ date_text day))

-- a finding: `CODE Name TARGET PLACE`
abbrev pub finding_text : List SourceFile → Row → List ℕ
finding_text sources one =
    let rule = row_of one.finding.rule in
    rule.code ++ codes " " ++ rule.name ++ codes " " ++ one.told.target ++ codes " "
    ++ place_in sources one.finding.spot

-- its line, with its waiver behind it
abbrev pub finding_line : List SourceFile → Waived → List ℕ
finding_line sources one = line (finding_text sources one.row ++ waiver_text one.waiver)

-- where a finding shows, in a line below it
abbrev pub shown_line : Option (Demo × List ℕ × Shown) → List ℕ
shown_line None = []
shown_line (Some (demo, path, shown)) = demo_line demo path shown

-- rows, each with its waiver
abbrev pub findings_text : List SourceFile → List Waived → List ℕ
findings_text sources [] = []
findings_text sources (one ∷ others) =
    (finding_line sources one ++ shown_line one.row.told.demo) ++ findings_text sources others

-- the head: the top, whether its design is clean and firm, how many findings there are, and how many of them are waived
abbrev pub head_lines : List ℕ → Bool → Bool → ℕ → ℕ → List ℕ
head_lines top clean firm count waived =
    line (codes "module " ++ top) ++ line (codes "clean " ++ yes_or_no clean)
    ++ line (codes "firm " ++ yes_or_no firm)
    ++ line (codes "findings " ++ decimal count) ++ line (codes "waived " ++ decimal waived)

-- how many findings are waived
abbrev pub waived_count : List Waived → ℕ
waived_count rows = count_by (λ one. is_some one.waiver) rows

-- a report: its head, and the lines of each finding
abbrev pub report_text : List ℕ → List SourceFile → List Waived → Bool → Bool → List ℕ
report_text top sources rows clean firm =
    head_lines top clean firm (length rows) (waived_count rows) ++ findings_text sources rows

-- what is told of a generated design: how many stages and processes it has, whether it is clean, and how many findings it has
abbrev pub stages_report : ℕ → ℕ → Bool → ℕ → List ℕ
stages_report stages processes clean count =
    line (codes "stages " ++ decimal stages) ++ line (codes "processes " ++ decimal processes)
    ++ line (codes "clean " ++ yes_or_no clean) ++ line (codes "findings " ++ decimal count)
