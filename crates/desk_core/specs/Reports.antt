-- What is told of a module on a day.
-- Worked examples: crates/tests_serving/stdin.
use Rattle.std.specs.Prelude.{◌≡◌, ℕ, ℤ, Bool, true, false, find, List}
use Rattle.std.specs.List.{filter_map}
use Rattle.desk_report.specs.Reports.{report_text}
use Rattle.desk_files.specs.Sources.{is_named}
use Rattle.source_file.specs.declared.SourceFile.{SourceFile}
use Rattle.desk_tables.specs.Tables.{Kept}
use Rattle.design_db.specs.desk_verdict.declared.verdict.Verdict.{Verdict as Made}
use Rattle.desk_rulings.specs.Rulings.{Verdict, left_of, standing_of}
use Rattle.design_db.specs.desk_memo.declared.answer.Answer.TheVariants.{Ruled, Refused}
use Rattle.design_db.specs.Answers.{Answer, IsFresh}
use Rattle.desk_core.specs.Files.{AreFilesOf}
use Rattle.desk_core.specs.declared.report.TopReport.{TopReport}

-- the files of these names, in the order of the names
abbrev pub files_named : List (List ℕ) → List SourceFile → List SourceFile
files_named names files = filter_map (λ name. find (is_named name) files) names

-- what the rules say of a module, as waivers and sign-offs look at it: a finding's file is counted
-- among those that the module uses
abbrev pub verdict_in : List SourceFile → Made → List (List ℕ) → Verdict
verdict_in files made reached = record {
  rows = made.rows.items;
  files = files_named reached files;
  reached = reached;
}

-- what is told of a module: the bytes, whether they are a refusal, and how many findings of the
-- first grade have no waiver
pub record Telling : Type 0 where
  pub bytes : List ℕ
  pub refused : Bool
  pub left : ℕ

-- the report of the rules with the waivers that stand on the day
abbrev pub ruled_telling : List ℕ → ℤ → Kept → List SourceFile → Made → List (List ℕ) → Telling
ruled_telling top today kept files made reached =
    let verdict = verdict_in files made reached in
    let rows = standing_of today kept verdict in
    record {
      bytes = report_text top verdict.files rows made.clean made.firm;
      refused = false;
      left = left_of rows;
    }

-- the line of a refusal
abbrev pub refused_telling : List ℕ → Telling
refused_telling line = record { bytes = line; refused = true; left = 0 }

-- what an answer tells on a day
abbrev pub telling : List ℕ → ℤ → Kept → List SourceFile → Answer → Telling
telling top today kept files (Ruled made reached) =
    ruled_telling top today kept files made reached.items
telling top today kept files (Refused line) = refused_telling line.items

-- what is told of a module on a day: its files are those of the rows, and the answer is what they
-- say
pub record IsTold (top : List ℕ) (today : ℤ) (kept : Kept) (told : Telling) : Type 0 where
  pub files : List SourceFile
  pub are_files : AreFilesOf kept.files files
  pub answer : Answer
  pub fresh : IsFresh files top answer
  pub is : told ≡ telling top today kept files answer

-- what a contract sees of a report
abbrev pub told_in : TopReport → Telling
told_in report = record { bytes = report.bytes.items; refused = report.refused; left = report.left }
