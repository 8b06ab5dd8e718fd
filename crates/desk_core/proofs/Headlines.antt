-- What is signed clean shows in every simulation what its hardware shows.
use Rattle.std.proofs.Common.{◌≡◌, ◌∙◌, Bool, true, false, ℕ, List, [], ◌∷◌, Option, Some, None, drop, get_or, refl, sym, ap, subst, arith}
use Rattle.std.specs.Prelude.{ℤ, map, nat_lt, Result, Ok, Err, if◌then◌else◌}
use Rattle.std.proofs.lemmas.Bool.{cond-true}
use Rattle.json.specs.Print.{escape_byte}
use Rattle.rtl_tree.specs.TreeModule.{Circuit}
use Rattle.design_db.specs.elab_scope.Faults.{Answer as Fault}
use Rattle.rtl_flat.specs.Flats.{DesignParts}
use Rattle.design_db.specs.elab_names.Extracts.{extract}
use Rattle.design_db.specs.elab_names.LookUps.{AreUsed}
use Rattle.design_db.specs.rtl_elab.Designs.{library_of}
use Rattle.design_db.specs.rtl_elab.Elaborated.{elaborated}
use Rattle.design_db.specs.desk_memo.check_conditions.Foreign.{foreign_in}
use Rattle.design_db.specs.desk_memo.check_conditions.ToolNotes.{tool_noted}
use Rattle.design_db.specs.desk_memo.rtl_prep.Conditions.{FileConditions}
use Rattle.rtl_front.specs.Fronts.{AreAsked, AreSpelled}
use Rattle.design_db.specs.desk_build.Building.{Front, IsFront, Modules, Faulty}
use Rattle.source_file.specs.declared.SourceFile.{SourceFile}
use Rattle.rtl_flat.specs.declared.instance.Instance.{Instance}
use Rattle.rtl_flat.specs.declared.signal.Signal.{Signal}
use Rattle.rtl_rule.specs.Rows.{has_first_grade}
use Rattle.rtl_rule.specs.declared.finding.Finding.{Finding}
use Rattle.demo_told.specs.declared.demo.Demo.{Demo}
use Rattle.demo_told.specs.declared.demo.Shown.{Shown}
use Rattle.desk_rows.specs.declared.Row.{Row}
use Rattle.desk_report.specs.Tellings.{tellings}
use Rattle.desk_tables.specs.Changes.{reply_of}
use Rattle.desk_tables.specs.Grades.{grade_word}
use Rattle.desk_tables.specs.Tables.{Kept}
use Rattle.desk_tables.specs.declared.rows.FileRow.{FileRow}
use Rattle.desk_tables.specs.declared.rows.Grade.{Grade}
use Rattle.desk_tables.specs.declared.rows.Grade.TheVariants.{Clean, Waived}
use Rattle.desk_tables.specs.declared.rows.SignOffRow.{SignOffRow}
use Rattle.desk_tables.specs.declared.rows.Table.{Table}
use Rattle.desk_requests.specs.Replies.{Said}
use Rattle.desk_requests.specs.Requests.{changes}
use Rattle.desk_requests.specs.declared.ask.Ask.{Ask}
use Rattle.desk_requests.specs.declared.ask.Ask.TheVariants as ask
use Rattle.desk_requests.specs.declared.ask.Request.{Request}
use Rattle.desk_bodies.specs.Bodies.{granted_text, with_number, with_text}
use Rattle.desk_records.specs.Machine.{by_tables, change_outcome, full_refusal, full_table, request_outcome, unless_full, unless_kept}
use Rattle.desk_records.specs.Outcomes.{Outcome, Told, Done, Open, kept_said}
use Rattle.desk_rulings.specs.Rulings.{Verdict, left_of, standing_of}
use Rattle.desk_rulings.specs.SignOffs.{accepted, edited_by, findings_of, findings_stand, grade_of, rows_of, signoff_outcome, signoff_row, unless_edited}
use Rattle.source_file.specs.SourceFiles.{texts_in}
use Rattle.design_db.specs.desk_answers.Fresh.{sources_at}
use Rattle.design_db.specs.desk_memo.declared.answer.Answer.TheVariants.{Ruled, Refused}
use Rattle.design_db.specs.Answers.{Answer, IsOfDesign, IsOfFront}
use Rattle.desk_core.specs.Files.{AreFilesOf}
use Rattle.desk_core.specs.Headline.{IsNewSignOff, IsSignedClean, SaysClean}
use Rattle.desk_core.specs.Outcomes.{IsJudged, IsOpened, IsOutcome, IsSettled, judged_with, top_of, with_answer}
use Rattle.desk_core.specs.Reaches.{reach_asked}
use Rattle.desk_core.specs.Reports.{verdict_in}
use Rattle.desk_core.specs.Serving.{IsServed, Answered, Accepted, Serves, Served, Unavailable, OutOfMemory}

-- ---- grades by their texts

-- their texts differ at the first letter
graded_clean : (grade : Grade) (id id' : ℕ) → granted_text (grade_word grade) id ≡ granted_text (grade_word Clean) id' → grade ≡ Clean
unfolding granted_text with_text with_number escape_byte
graded_clean Clean id id' same = refl
graded_clean Waived id id' same =
    let letters : 119 ≡ 99 = ap (λ (text : List ℕ). get_or text 10 0) same in
    absurd (omega (arith, letters))

-- ---- replies that say clean

-- what an outcome says
abbrev SaysCleanIn : Outcome → Type 0
SaysCleanIn (Told answer) = SaysClean answer
SaysCleanIn (Done change) = SaysClean (kept_said (reply_of change))
SaysCleanIn Open = ⊥

-- a verdict of which that is so is clean
first_clean : (b : Bool) → (if b then Waived else Clean) ≡ Clean → b ≡ false
first_clean true is = absurd (cc)
first_clean false is = refl

clean_row : (grade : Grade) (row : SignOffRow) (request : Request) → row.grade ≡ grade_word grade → SaysCleanIn (accepted row request) → grade ≡ Clean
clean_row grade row request named says =
    graded_clean grade row.id says.id (ap (λ word. granted_text word row.id) (sym named) ∙ says.graded)

unedited_clean : (found : Option FileRow) (grade : Grade) (row : SignOffRow) (request : Request) → row.grade ≡ grade_word grade → SaysCleanIn (unless_edited found (accepted row request)) → grade ≡ Clean
unedited_clean None grade row request named says = clean_row grade row request named says
unedited_clean (Some held) grade row request named says = absurd (let no : 409 ≡ 201 = says.accepted in omega (arith, no))

signed_by : (stand : Bool) (left : ℕ) (found : Option FileRow) (grade : Grade) (row : SignOffRow) (request : Request) → row.grade ≡ grade_word grade → SaysCleanIn (if stand then findings_stand left else unless_edited found (accepted row request)) → grade ≡ Clean
signed_by true left found grade row request named says = absurd (let no : 409 ≡ 201 = says.accepted in omega (arith, no))
signed_by false left found grade row request named says = unedited_clean found grade row request named says

signed_clean : (top : List ℕ) (request : Request) (today : ℤ) (kept : Kept) (verdict : Verdict) → SaysCleanIn (signoff_outcome top request today kept verdict) → has_first_grade (findings_of verdict.rows) ≡ false
signed_clean top request today kept verdict says =
    let left : ℕ = left_of (standing_of today kept verdict) in
    first_clean (has_first_grade (findings_of verdict.rows))
    (signed_by (nat_lt 0 left) left (edited_by request.user (rows_of kept.files verdict.reached))
    (grade_of verdict.rows) (signoff_row top request today kept verdict) request refl says)

-- ---- the design of an answer

-- the findings of the rows are those that were found
told_findings : (signals : List Signal) (instances : List Instance) (found : List Finding) (shown : List (Option (Demo × Shown))) → findings_of (tellings signals instances found shown) ≡ found
told_findings signals instances [] shown = refl
told_findings signals instances (one ∷ others) shown =
    ap (λ rest. one ∷ rest) (told_findings signals instances others (drop 1 shown))

rows_clean : (signals : List Signal) (instances : List Instance) (found : List Finding) (shown : List (Option (Demo × Shown))) (rows : List Row) → rows ≡ tellings signals instances found shown → has_first_grade (findings_of rows) ≡ false → has_first_grade found ≡ false
rows_clean signals instances found shown rows are clean =
    sym (ap (λ its. has_first_grade (findings_of its)) are ∙ ap has_first_grade (told_findings signals instances found shown)) ∙ clean

of_design : (kept : Kept) (top : List ℕ) (files : List SourceFile) → AreFilesOf kept.files files → (circuits : List (List Circuit)) → AreSpelled (texts_in files) circuits → (conditions : List FileConditions) → AreAsked (texts_in files) conditions → (numbers : List ℕ) → AreUsed (library_of circuits) top numbers → (made : Result DesignParts Fault) → elaborated (extract numbers (library_of circuits)) top ≡ made → (answer : Answer) → IsOfDesign (sources_at numbers files) (tool_noted (map (foreign_in conditions) numbers) made) answer → (request : Request) (today : ℤ) → SaysCleanIn (judged_with (ask.SignOff top) request today kept files answer) → IsSignedClean kept top
of_design kept top files are circuits spelled conditions asked numbers used (Ok flat) same (Ruled verdict reached) is request today says =
    let graded : has_first_grade (findings_of verdict.rows.items) ≡ false = signed_clean top request today kept (verdict_in files verdict reached.items) says in
    let clean = rows_clean flat.parts.flat.signals flat.instances is.0.found is.0.shown verdict.rows.items is.0.told_is graded in
    record {
      design = flat;
      claim = record {
        files = files;
        are_files = are;
        circuits = circuits;
        spelled = spelled;
        numbers = numbers;
        used = used;
        flat = same;
        promised = is.0.promised clean;
      };
      hardware = is.0.hardware clean;
      conditions = conditions;
      asked = asked;
      findings = is.0.found;
      found = is.0.are_all;
      clean = clean;
      firmly = is.0.firmly;
    }
of_design kept top files are circuits spelled conditions asked numbers used (Ok flat) same (Refused line) is request today says = absurd is
of_design kept top files are circuits spelled conditions asked numbers used (Err fault) same (Ruled verdict reached) is request today says = absurd is
of_design kept top files are circuits spelled conditions asked numbers used (Err fault) same (Refused line) is request today says =
    absurd (let no : 422 ≡ 201 = says.accepted in omega (arith, no))

of_front : (kept : Kept) (top : List ℕ) (files : List SourceFile) → AreFilesOf kept.files files → (front : Front) → IsFront (texts_in files) front → (answer : Answer) → IsOfFront files top front answer → (request : Request) (today : ℤ) → SaysCleanIn (judged_with (ask.SignOff top) request today kept files answer) → IsSignedClean kept top
of_front kept top files are (Modules circuits conditions) both answer is request today says =
    of_design kept top files are circuits both.0 conditions both.1 is.numbers is.are_used (elaborated (extract is.numbers (library_of circuits)) top) refl answer is.is request today says
of_front kept top files are (Faulty number fault) spelled (Ruled verdict reached) is request today says = absurd is
of_front kept top files are (Faulty number fault) spelled (Refused line) is request today says =
    absurd (let no : 422 ≡ 201 = says.accepted in omega (arith, no))

-- ---- requests

judged_clean : (request : Request) (today : ℤ) (kept : Kept) (top : List ℕ) (outcome : Outcome) → request.ask ≡ ask.SignOff top → IsJudged request today kept top outcome → SaysCleanIn outcome → IsSignedClean kept top
judged_clean request today kept top outcome asks is says =
    let same : outcome ≡ judged_with (ask.SignOff top) request today kept is.files is.answer =
    is.is ∙ ap (λ it. with_answer it request today kept is.files is.answer) asks in
    of_front kept top is.files is.are_files is.fresh.front is.fresh.is_front is.answer is.fresh.is request today
    (subst SaysCleanIn same says)

with_room : (full : Option Table) (request : Request) (today : ℤ) (kept : Kept) (top : List ℕ) (outcome : Outcome) → request.ask ≡ ask.SignOff top → IsSettled request today kept (unless_full full Open) outcome → SaysCleanIn outcome → IsSignedClean kept top
with_room None request today kept top outcome asks is says =
    judged_clean request today kept top outcome asks
    (subst (λ (it : Ask). IsOpened request today kept (reach_asked it) (top_of it) outcome) asks is) says
with_room (Some table) request today kept top outcome asks is says =
    let told : SaysCleanIn (full_refusal table) = subst SaysCleanIn is says in
    absurd (let no : 409 ≡ 201 = told.accepted in omega (arith, no))

-- the tables refuse a new sign-off only where one is full
new_outcome : (request : Request) (today : ℤ) (kept : Kept) (top : List ℕ) → IsNewSignOff request kept top → request_outcome request today kept ≡ unless_full (full_table request.ask kept) Open
new_outcome request today kept top new =
    cond-true (changes request.ask) (change_outcome request today kept) (by_tables request.ask request today kept) (ap changes new.asks)
    ∙ ap (λ it. unless_kept it request.digest (unless_full (full_table request.ask kept) (by_tables request.ask request today kept))) new.none
    ∙ ap (λ it. unless_full (full_table request.ask kept) (by_tables it request today kept)) new.asks

outcome_clean : (request : Request) (today : ℤ) (kept : Kept) (top : List ℕ) (outcome : Outcome) → IsNewSignOff request kept top → IsOutcome request today kept outcome → SaysCleanIn outcome → IsSignedClean kept top
outcome_clean request today kept top outcome new is says =
    with_room (full_table request.ask kept) request today kept top outcome new.asks
    (subst (λ (it : Outcome). IsSettled request today kept it outcome) (new_outcome request today kept top new) is) says

served_clean : (request : Request) (today : ℤ) (kept : Kept) (top : List ℕ) (kept' : Kept) (answer : Said) → IsServed request today kept kept' answer → IsNewSignOff request kept top → SaysClean answer → IsSignedClean kept top
served_clean request today kept top kept' answer (Answered told is) new says =
    outcome_clean request today kept top (Told told) new is says
served_clean request today kept top kept' answer (Accepted change is) new says =
    outcome_clean request today kept top (Done change) new is says

pub headline : (request : Request) (today : ℤ) (faults faults' : ℕ) (kept : Kept) (top : List ℕ) (kept' : Kept) (answer : Said) → Serves request today faults faults' kept kept' answer → IsNewSignOff request kept top → SaysClean answer → IsSignedClean kept top
headline request today faults faults' kept top kept' answer (Served after told is calm) new says =
    served_clean request today kept top after told is new says
headline request today faults faults' kept top kept' answer (Unavailable rose) new says =
    absurd (let no : 503 ≡ 201 = says.accepted in omega (arith, no))
headline request today faults faults' kept top kept' answer (OutOfMemory calm) new says =
    absurd (let no : 507 ≡ 201 = says.accepted in omega (arith, no))
