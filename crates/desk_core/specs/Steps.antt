-- It serves inner contracts and proofs; no answer of the program is stated by it.
-- What the files do with a change.
use Rattle.std.specs.Prelude.{◌≡◌, ◌≤◌, ℕ, List, length, ⊤}
use Rattle.desk_files.specs.Limits.{MAX_BYTES}
use Rattle.desk_io.specs.Causes.{Rose}
use Rattle.desk_files.specs.Sources.{with_file, without_file}
use Rattle.source_file.specs.declared.SourceFile.{SourceFile}
use Rattle.desk_tables.specs.Changes.{changed, reply_of}
use Rattle.desk_tables.specs.Tables.{Kept}
use Rattle.desk_tables.specs.declared.change.Change.{Change}
use Rattle.desk_tables.specs.declared.change.Change.TheVariants.{PutFile, DropFile, Grant, Revoke, SignOff}
use Rattle.desk_requests.specs.Replies.{Said}
use Rattle.desk_service.specs.Service.{no_memory, unavailable}
use Rattle.desk_records.specs.Outcomes.{kept_said}
use Rattle.design_db.specs.Stores.{Store, answer_of}
use Rattle.desk_core.specs.declared.next.Next.{Next}
use Rattle.desk_core.specs.declared.next.Next.TheVariants.{Puts, Drops, Stays}

-- the text of a file that a change puts is no longer than a file may be
abbrev pub IsShortChange : Change → Type 0
IsShortChange (PutFile row reply) = length row.text ≤ MAX_BYTES
IsShortChange (DropFile name reply) = ⊤
IsShortChange (Grant row reply) = ⊤
IsShortChange (Revoke id day reply) = ⊤
IsShortChange (SignOff row reply) = ⊤

-- what follows for the files
abbrev pub files_next : Next → List SourceFile → List SourceFile
files_next (Puts ready) files = with_file ready.file files
files_next (Drops name) files = without_file name files
files_next Stays files = files

-- it can follow where there is so much room
abbrev pub CanFollow : Next → ℕ → Type 0
CanFollow (Puts ready) room = (1 ≤ room) × (length ready.file.text ≤ MAX_BYTES)
CanFollow (Drops name) room = ⊤
CanFollow Stays room = ⊤

-- the files stay, and so do all answers and rulings
pub record IsSameStore (old new : Store) : Type 0 where
  pub files : new.files ≡ old.files
  pub answers : (top : List ℕ) → answer_of new top ≡ answer_of old top
  pub rulings : new.rulings ≡ old.rulings
  pub absent : new.absent ≡ old.absent

-- a change is made whole; or the keeper failed, or there was no memory, and then the tables stay
pub data IsMade (change : Change) (faults faults' : ℕ) (kept : Kept) : Kept → Said → Type 0 where
  Made :
      faults' ≡ faults →
      IsMade change faults faults' kept (changed change kept) (kept_said (reply_of change))
  Unkept : Rose faults faults' → IsMade change faults faults' kept kept unavailable
  NoMemory : faults' ≡ faults → IsMade change faults faults' kept kept no_memory
