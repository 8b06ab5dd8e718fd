-- What is told of a module's reach: by what is known of it, as nothing is worked out for this.
-- Worked examples: crates/tests_serving/stdin.
use Rattle.std.specs.Prelude.{◌≡◌, ◌⊎◌, ⊤, ℕ, false, true, List, Option, Some, None, IfSome}
use Rattle.source_file.specs.declared.SourceFile.{SourceFile}
use Rattle.desk_tables.specs.Tables.{Kept}
use Rattle.desk_requests.specs.Replies.{Said}
use Rattle.desk_requests.specs.declared.ask.Ask.{Ask}
use Rattle.desk_requests.specs.declared.ask.Ask.TheVariants as ask
use Rattle.desk_service.specs.Service.{no_memory}
use Rattle.desk_records.specs.Outcomes.{Outcome, Told}
use Rattle.desk_rulings.specs.Reaches.{no_reach, reach_outcome}
use Rattle.design_db.specs.desk_memo.declared.answer.Answer.TheVariants.{Ruled, Refused}
use Rattle.design_db.specs.Answers.{Answer, IsFresh}
use Rattle.design_db.specs.Stores.{Store, answer_of}
use Rattle.desk_core.specs.Files.{AreFilesOf}

-- the module whose reach is asked for
abbrev pub reach_asked : Ask → Option (List ℕ)
reach_asked (ask.Reach top) = Some top
reach_asked _ = None

-- what is told by the answer that is known, where one is
abbrev pub reach_with : List ℕ → Kept → Option Answer → Outcome
reach_with top kept None = no_reach false
reach_with top kept (Some (Ruled made reached)) = reach_outcome top kept reached.items
reach_with top kept (Some (Refused line)) = no_reach true

-- it comes to this by an answer that the files of the rows give, or by none
pub record IsReached (top : List ℕ) (kept : Kept) (outcome : Outcome) : Type 0 where
  pub files : List SourceFile
  pub are_files : AreFilesOf kept.files files
  pub answer : Option Answer
  pub fresh : IfSome answer (IsFresh files top)
  pub is : outcome ≡ reach_with top kept answer

-- it comes to what is told by the answer that is known, where a reach is asked for
abbrev pub IsReachOf : Option (List ℕ) → Kept → Store → Outcome → Type 0
IsReachOf None kept store outcome = ⊤
IsReachOf (Some top) kept store outcome = outcome ≡ reach_with top kept (answer_of store top)

-- and just this is answered, or that memory is wanting
abbrev pub SaysReach : Option (List ℕ) → Kept → Store → Said → Type 0
SaysReach asked kept store answer =
    IsReachOf asked kept store (Told answer) ⊎ (answer ≡ no_memory)

-- nothing changes where a reach is asked for
abbrev pub OnlyLooks : Option (List ℕ) → Store → Store → Type 0
OnlyLooks None old new = ⊤
OnlyLooks (Some top) old new = new ≡ old
