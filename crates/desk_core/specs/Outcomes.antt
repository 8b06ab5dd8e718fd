-- What each request comes to, with what the files say where the tables alone don't settle it.
-- Worked examples: crates/tests_serving/stdin.
use Rattle.std.specs.Prelude.{◌≡◌, ℕ, ℤ, List, Option, Some, None, if◌then◌else◌}
use Rattle.source_file.specs.declared.SourceFile.{SourceFile}
use Rattle.desk_tables.specs.Tables.{Kept}
use Rattle.desk_requests.specs.declared.ask.Ask.{Ask}
use Rattle.desk_requests.specs.declared.ask.Ask.TheVariants as ask
use Rattle.desk_requests.specs.declared.ask.Request.{Request}
use Rattle.desk_service.specs.Service.{plainly}
use Rattle.desk_records.specs.Machine.{request_outcome}
use Rattle.desk_records.specs.Outcomes.{Outcome, Told, Done, Open}
use Rattle.desk_rulings.specs.Grants.{waive_outcome}
use Rattle.desk_rulings.specs.Rulings.{Verdict}
use Rattle.desk_rulings.specs.SignOffs.{signoff_outcome}
use Rattle.design_db.specs.desk_memo.declared.answer.Answer.TheVariants.{Ruled, Refused}
use Rattle.design_db.specs.Answers.{Answer, IsFresh}
use Rattle.desk_core.specs.Files.{AreFilesOf}
use Rattle.desk_core.specs.Reaches.{IsReached, reach_asked}
use Rattle.desk_core.specs.Reports.{Telling, telling, verdict_in}

-- the module has no design, and this line says why
abbrev pub refusal : List ℕ → Outcome
refusal line = Told (plainly 422 line)

-- the report of a day, or the line of a refusal
abbrev pub ruling_outcome : Telling → Outcome
ruling_outcome told = Told (plainly (if told.refused then 422 else 200) told.bytes)

-- what a request that waives or signs off comes to with what the rules say of its module
abbrev pub with_ruling : Ask → Request → ℤ → Kept → Verdict → Outcome
with_ruling (ask.SignOff top) request today kept verdict =
    signoff_outcome top request today kept verdict
with_ruling (ask.Waive it) request today kept verdict = waive_outcome it request today kept verdict
with_ruling _ request today kept verdict = Open

-- with an answer for its module
abbrev pub judged_with : Ask → Request → ℤ → Kept → List SourceFile → Answer → Outcome
judged_with it request today kept files (Ruled made reached) =
    with_ruling it request today kept (verdict_in files made reached.items)
judged_with it request today kept files (Refused line) = refusal line.items

-- what a request comes to with an answer for its module
abbrev pub with_answer : Ask → Request → ℤ → Kept → List SourceFile → Answer → Outcome
with_answer (ask.Ruling top) request today kept files answer =
    ruling_outcome (telling top today kept files answer)
with_answer it request today kept files answer = judged_with it request today kept files answer

-- the module whose ruling a request looks at
abbrev pub top_of : Ask → Option (List ℕ)
top_of (ask.Ruling top) = Some top
top_of (ask.SignOff top) = Some top
top_of (ask.Waive it) = Some it.top
top_of _ = None

-- it comes to this with what the files of the rows say of a module
pub record IsJudged (request : Request) (today : ℤ) (kept : Kept) (top : List ℕ) (outcome : Outcome) : Type 0 where
  pub files : List SourceFile
  pub are_files : AreFilesOf kept.files files
  pub answer : Answer
  pub fresh : IsFresh files top answer
  pub is : outcome ≡ with_answer request.ask request today kept files answer

abbrev pub IsJudgedFor : Request → ℤ → Kept → Option (List ℕ) → Outcome → Type 0
IsJudgedFor request today kept None outcome = ⊥
IsJudgedFor request today kept (Some top) outcome = IsJudged request today kept top outcome

-- it comes to this where the tables alone don't settle it: by a module's reach, or by its ruling
abbrev pub IsOpened : Request → ℤ → Kept → Option (List ℕ) → Option (List ℕ) → Outcome → Type 0
IsOpened request today kept (Some top) looks outcome = IsReached top kept outcome
IsOpened request today kept None looks outcome = IsJudgedFor request today kept looks outcome

abbrev pub IsSettled : Request → ℤ → Kept → Outcome → Outcome → Type 0
IsSettled request today kept Open outcome =
    IsOpened request today kept (reach_asked request.ask) (top_of request.ask) outcome
IsSettled request today kept (Told answer) outcome = outcome ≡ Told answer
IsSettled request today kept (Done change) outcome = outcome ≡ Done change

-- what a request comes to on a day: by the tables alone, or else with what the files of their rows
-- say of its module
abbrev pub IsOutcome : Request → ℤ → Kept → Outcome → Type 0
IsOutcome request today kept outcome =
    IsSettled request today kept (request_outcome request today kept) outcome
