-- How a command's work ends, and how its bytes reach a sink.
-- Worked examples: crates/tests_rows/stdin, tools/test.
use Rattle.std.specs.Prelude.{◌≡◌, ◌≢◌, ℕ, ◌==◌, List, [], ◌++◌, Option, Result, Ok, Err, Bool, false, ◌||◌, ⊤, IfSome}
use Rattle.std.specs.Io.KnownBytes.{Appends}
use Rattle.desk_io.specs.declared.shelf.ShelfFault.{ShelfFault}
use Rattle.desk_io.specs.declared.shelf.ShelfFault.TheVariants as fault
use Rattle.desk_io.specs.Shelf.{Files}
use Rattle.desk_top.specs.declared.deliver.Ending.{Ending}
use Rattle.desk_top.specs.declared.deliver.Ending.TheVariants.{Clean, Open, Refused, NoCommand, Settled, Unsettled, Malformed, Shown, Same, NoNetlist, Agreed, Departed, NoDump, Counted}
use Rattle.desk_top.specs.declared.deliver.Stop.{Stop}
use Rattle.desk_top.specs.declared.deliver.Stop.TheVariants.{Unread, NoFile, Memory}
use Rattle.desk_top.specs.declared.deliver.Work.{Work}

-- an exit status, and the bytes that are written
pub record Outcome : Type 0 where
  pub status : ℕ
  pub bytes : List ℕ

abbrev pub status_of : Ending → ℕ
status_of Clean = 0
status_of Open = 1
status_of Refused = 2
status_of NoCommand = 3
status_of Settled = 0
status_of Unsettled = 11
status_of Malformed = 12
status_of Shown = 0
status_of Same = 10
status_of NoNetlist = 13
status_of Agreed = 0
status_of Departed = 15
status_of NoDump = 16
status_of Counted = 0

abbrev pub stop_status : Stop → ℕ
stop_status Unread = 4
stop_status NoFile = 9
stop_status Memory = 20

-- how a file that wasn't read stops the work
abbrev pub stop_of : ShelfFault → Stop
stop_of fault.Failed = Unread
stop_of fault.NoSuchFile = NoFile
stop_of fault.TooLong = NoFile
stop_of fault.Memory = Memory

-- the outcome of work that was done
abbrev pub outcome_of : Work → Outcome
outcome_of work = record { status = status_of work.ending; bytes = work.bytes.items }

-- the outcome where a file isn't there or is too long: nothing is written
abbrev pub no_file : Outcome
no_file = record { status = 9; bytes = [] }

-- the work has this outcome, unless a read failed or memory ran out
abbrev pub IsWork : (Outcome → Type 0) → Result Work Stop → Type 0
IsWork IsWanted (Ok work) = IsWanted (outcome_of work)
IsWork IsWanted (Err NoFile) = IsWanted no_file
IsWork IsWanted (Err Unread) = ⊤
IsWork IsWanted (Err Memory) = ⊤

-- the shelf's count of faults stays unless a read failed; a shelf that tells nothing may count a missing file too
abbrev pub IsCalmWork : {T : Type 0} → Option Files → Result T Stop → ℕ → ℕ → Type 0
IsCalmWork files (Ok work) before now = now ≡ before
IsCalmWork files (Err Unread) before now = ⊤
IsCalmWork files (Err NoFile) before now = IfSome files (λ held. now ≡ before)
IsCalmWork files (Err Memory) before now = now ≡ before

-- a front of the bytes was appended, where the bytes before and now are told
pub record FrontAppended (before now : Option (List ℕ)) (bytes : List ℕ) : Type 0 where
  pub front : List ℕ
  pub rest : List ℕ
  pub parts : bytes ≡ front ++ rest
  pub appended : Appends before now front

-- the outcome's status is answered and all its bytes were written, or a write failed, and a front of them was.
-- No write can fail where there is nothing to be written
pub record Delivers (wanted : Outcome) (status : ℕ) (before now : Option (List ℕ)) : Type 0 where
  pub exact : status ≢ 5 → status ≡ wanted.status
  pub whole : status ≢ 5 → Appends before now wanted.bytes
  pub front : FrontAppended before now wanted.bytes
  pub some_bytes : status ≡ 5 → wanted.bytes ≢ []

-- nothing is written, or a front of what is wanted
pub data IsCut (IsWanted : Outcome → Type 0) (before now : Option (List ℕ)) : Type 0 where
  Nothing : Appends before now [] → IsCut IsWanted before now
  Front : (wanted : Outcome) → IsWanted wanted → FrontAppended before now wanted.bytes → IsCut IsWanted before now

-- the statuses where a read failed or memory ran out
abbrev pub gave_up : ℕ → Bool
gave_up status = status == 4 || status == 20

-- the work is delivered, or nothing is written where it was given up
abbrev pub Finishes : Result Work Stop → ℕ → Option (List ℕ) → Option (List ℕ) → Type 0
Finishes (Ok work) status before now = (gave_up status ≡ false) × Delivers (outcome_of work) status before now
Finishes (Err stop) status before now = (status ≡ stop_status stop) × Appends before now []
