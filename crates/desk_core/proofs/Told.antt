-- What an answer tells, and what a request comes to with it.
use Rattle.std.proofs.Common.{◌≡◌, ◌∙◌, ℕ, List, Option, Some, sym, ap, subst}
use Rattle.std.specs.Prelude.{ℤ, IfOk, IfSome, Ok, Err, Result}
use Rattle.text_ground.specs.declared.memory.Memory.{Memory}
use Rattle.source_file.specs.declared.SourceFile.{SourceFile}
use Rattle.desk_tables.specs.Tables.{Kept}
use Rattle.desk_requests.specs.declared.ask.Request.{Request}
use Rattle.desk_records.specs.Outcomes.{outcome}
use Rattle.desk_records.specs.declared.decision.Decision.{Decision}
use Rattle.design_db.specs.Answers.{Answer, IsFresh}
use Rattle.desk_core.specs.Files.{AreFilesOf}
use Rattle.desk_core.specs.Outcomes.{IsJudgedFor, top_of, with_answer}
use Rattle.desk_core.specs.Reports.{IsTold, telling, told_in}
use Rattle.desk_core.specs.declared.report.TopReport.{TopReport}

-- an answer that was found is fresh
pub fresh_of : (files : List SourceFile) (top : List ℕ) (answer : Answer) (found : Option Answer) → Some answer ≡ found → IfSome found (IsFresh files top) → IsFresh files top answer
fresh_of files top answer found same fresh =
    let P : Option Answer → Type 0 = λ it. IfSome it (IsFresh files top) in subst P (sym same) fresh

-- the files are those of the rows, however they are read
pub are_files : (kept records : Kept) (before after : List SourceFile) → records ≡ kept → after ≡ before → AreFilesOf records.files before → AreFilesOf kept.files after
are_files kept records before after same stays are =
    let P : Kept → Type 0 = λ it. AreFilesOf it.files after in
    let Q : List SourceFile → Type 0 = λ it. AreFilesOf records.files it in
    subst P same (subst Q (sym stays) are)

-- what is told by an answer that is fresh
pub told_by : (top : List ℕ) (today : ℤ) (kept rows : Kept) (files shown : List SourceFile) (answer : Answer) (result : Result TopReport Memory) → AreFilesOf kept.files files → IsFresh files top answer → rows ≡ kept → shown ≡ files → IfOk result (λ report. told_in report ≡ telling top today rows shown answer) → IfOk result (λ report. IsTold top today kept (told_in report))
told_by top today kept rows files shown answer (Ok report) are fresh same seen is =
    record {
      files = files;
      are_files = are;
      answer = answer;
      fresh = fresh;
      is =
          is
          ∙ ap (λ it. telling top today it shown answer) same
          ∙ ap (λ it. telling top today kept it answer) seen;
    }
told_by top today kept rows files shown answer (Err fault) are fresh same seen is = tt

-- what a request comes to with an answer that is fresh
pub judged_by : (request : Request) (today : ℤ) (top : List ℕ) (kept rows : Kept) (files shown : List SourceFile) (answer : Answer) (result : Result Decision Memory) → Some top ≡ top_of request.ask → AreFilesOf kept.files files → IsFresh files top answer → rows ≡ kept → shown ≡ files → IfOk result (λ made. outcome made ≡ with_answer request.ask request today rows shown answer) → IfOk result (λ made. IsJudgedFor request today kept (top_of request.ask) (outcome made))
judged_by request today top kept rows files shown answer (Ok made) looks are fresh same seen is =
    let P : Option (List ℕ) → Type 0 = λ it. IsJudgedFor request today kept it (outcome made) in
    subst P looks (record {
      files = files;
      are_files = are;
      answer = answer;
      fresh = fresh;
      is =
          is
          ∙ ap (λ it. with_answer request.ask request today it shown answer) same
          ∙ ap (λ it. with_answer request.ask request today kept it answer) seen;
    })
judged_by request today top kept rows files shown answer (Err fault) looks are fresh same seen is = tt
