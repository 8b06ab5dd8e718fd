-- The desk as contracts see it.
-- Worked examples: crates/tests_serving/stdin.
use Rattle.std.specs.Prelude.{◌≡◌, ℕ, ⊤, true, List, Option, Some, None, IsSome}
use Rattle.std.specs.List.{All}
use Rattle.desk_tables.specs.Tables.{Kept}
use Rattle.desk_tables.specs.declared.rows.ReplyRow.{ReplyRow}
use Rattle.desk_requests.specs.declared.ask.Ask.{Ask}
use Rattle.desk_requests.specs.declared.ask.Ask.TheVariants as ask
use Rattle.desk_service.specs.Service.{is_accepted}
use Rattle.design_db.specs.desk_memo.Rulings.{others_of}
use Rattle.design_db.specs.Stores.{Store, answer_of, lasting_answer}
use Rattle.desk_core.specs.Files.{AreFilesOf}

-- what the desk keeps, and its files with what they said of modules
pub record Machine : Type 0 where
  pub kept : Kept
  pub store : Store

-- each reply that is kept says that its request was accepted
abbrev pub AreAccepted : List ReplyRow → Type 0
AreAccepted replies = All (λ row. is_accepted row.status ≡ true) replies

-- its files are those of the rows, and the kept replies are to what was accepted
pub record IsMachine (machine : Machine) : Type 0 where
  pub are_files : AreFilesOf machine.kept.files machine.store.files
  pub accepted : AreAccepted machine.kept.replies

-- where a ruling is asked for, the answer of its module is known
abbrev pub IsKnown : Ask → Store → Type 0
IsKnown (ask.Ruling top) store = IsSome (answer_of store top)
IsKnown _ store = ⊤

-- what is kept of the modules stays, but for that which is looked at
abbrev pub KeepsOthers : Option (List ℕ) → Store → Store → Type 0
KeepsOthers None old new = (new.rulings ≡ old.rulings) × (new.absent ≡ old.absent)
KeepsOthers (Some top) old new = others_of top new.rulings ≡ others_of top old.rulings

-- each answer that was there is as before, but for that of the last absent top
abbrev pub KeepsAnswers : Store → Store → Type 0
KeepsAnswers old new =
    (top : List ℕ) → IsSome (lasting_answer old top) → answer_of new top ≡ answer_of old top
