-- What files say of a top by the rules.
-- Worked examples: crates/tests_serving/stdin.
use Rattle.std.specs.Prelude.{ℕ, List, Result}
use Rattle.rtl_flat.specs.Flats.{DesignParts}
use Rattle.desk_answers.specs.elab_scope.Faults.{Answer as Fault}
use Rattle.desk_answers.specs.desk_build.Building.{Front}
use Rattle.desk_answers.specs.Fresh as fresh
use Rattle.desk_answers.specs.Rulings as rulings
use Rattle.source_file.specs.declared.SourceFile.{SourceFile}
use Rattle.desk_memo.specs.Readings as read
use Rattle.desk_memo.specs.Rulings as kept
use Rattle.desk_memo.specs.declared.answer.Answer as answer
use Rattle.desk_verdict.specs.Verdicts.{IsVerdict}
use Rattle.desk_verdict.specs.declared.verdict.Verdict.{Verdict}

-- a verdict with the names of the files that the top uses, or the line that says why there is none
abbrev pub Answer : Type 0
Answer = answer.Answer Verdict

abbrev pub Reading : Type 0
Reading = read.Reading Verdict

abbrev pub Ruling : Type 0
Ruling = kept.Ruling Verdict

-- what the rules say of a design, or the line that says why there is none
abbrev pub IsOfDesign : List SourceFile → Result DesignParts Fault → Answer → Type 0
IsOfDesign used made answer = fresh.IsOfDesign IsVerdict used made answer

abbrev pub IsOfFront : List SourceFile → List ℕ → Front → Answer → Type 0
IsOfFront files top front answer = fresh.IsOfFront IsVerdict files top front answer

-- the answer is what the texts say of the top
abbrev pub IsFresh : List SourceFile → List ℕ → Answer → Type 0
IsFresh files top answer = fresh.IsFresh IsVerdict files top answer

-- what is kept is what some files said of its top
abbrev pub IsRuling : Ruling → Type 0
IsRuling ruling = rulings.IsRuling IsVerdict ruling
