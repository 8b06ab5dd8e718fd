-- What commands over the tables answer.
-- Worked examples: examples/server.sh.
use Rattle.std.specs.Prelude.{◌≡◌, ℕ, ℤ, List, [], ◌++◌, ◌==◌, codes, decimal, Option, None, Some, option_map, Result, Ok, Err, IfSome, if◌then◌else◌}
use Rattle.std.specs.Io.KnownBytes.{Appends}
use Rattle.desk_io.specs.Causes.{Rose}
use Rattle.desk_io.specs.declared.failed.Failed.{Failed}
use Rattle.desk_tables.specs.Migrations.{current}
use Rattle.desk_tables.specs.Rules.{broken_row}
use Rattle.desk_tables.specs.Tables.{Kept}
use Rattle.desk_tables.specs.declared.rows.Table.{Table}
use Rattle.desk_records.specs.Machine.{table_name}
use Rattle.desk_core.specs.Reports.{IsTold, Telling}
use Rattle.desk_links.specs.Doors.{Tells, Visits, IsSameVisits, with_port}
use Rattle.desk_server.specs.Exchanges.{Around, TakesDay}
use Rattle.desk_top.specs.Delivery.{Delivers, Outcome}
use Rattle.desk_command.specs.Statuses.{DONE, NO_MEMORY, OPEN, REFUSED, BAD_TABLES, NO_DAY, NO_DOOR, UNKEPT}
use Rattle.desk_command.specs.Servings.{DeskServes}
use Rattle.desk_command.specs.Words.{Order, Report, Serve}

-- what a sink has taken, before and after
pub record Taken : Type 0 where
  pub before : Option (List ℕ)
  pub after : Option (List ℕ)

abbrev pub taken_between : Option (List ℕ) → Option (List ℕ) → Taken
taken_between before after = record { before = before; after = after }

-- nothing is written
abbrev pub Keeps : Taken → Type 0
Keeps taken = Appends taken.before taken.after []

abbrev pub Writes : Outcome → ℕ → Taken → Type 0
Writes outcome status taken = Delivers outcome status taken.before taken.after

-- a row of a table breaks a rule
abbrev pub bad_tables : Table → ℕ → Outcome
bad_tables table row = record {
  status = BAD_TABLES;
  bytes = codes "bad table " ++ table_name table ++ codes " row " ++ decimal row ++ codes "\n";
}

-- the report of a module: each finding of the first grade has a waiver, or one hasn't, or there is
-- no design
abbrev pub report_outcome : Telling → Outcome
report_outcome told = record {
  status = if told.refused then REFUSED else (if told.left == 0 then DONE else OPEN);
  bytes = told.bytes;
}

-- what is done over sound tables, those that the keeper tells, where it tells them: those of version 1
-- are migrated first
pub record OverTables (told : Option Kept) (P : Kept → Type 0) : Type 0 where
  pub held : Kept
  pub are_told : IfSome told (λ tables. tables ≡ held)
  pub sound : broken_row held ≡ None
  pub holds : P (current held)

-- the tables couldn't be read or migrated, there was no memory, or a row breaks a rule
pub data IsUnstarted (told : Option Kept) (faults faults' : ℕ) (status : ℕ) (taken : Taken) : Type 0 where
  Unkept : status ≡ UNKEPT → Rose faults faults' → Keeps taken → IsUnstarted told faults faults' status taken
  NoMemory : status ≡ NO_MEMORY → faults' ≡ faults → Keeps taken → IsUnstarted told faults faults' status taken
  BadTables :
      (held : Kept) (table : Table) (row : ℕ) → IfSome told (λ tables. tables ≡ held) →
      broken_row held ≡ Some (table, row) → faults' ≡ faults →
      Writes (bad_tables table row) status taken → IsUnstarted told faults faults' status taken

-- what `report` answers over tables on a day: there was no memory, or the report of the day
pub data IsReportOn (top : List ℕ) (kept : Kept) (today : ℤ) (status : ℕ) (taken : Taken) : Type 0 where
  OutOfMemory : status ≡ NO_MEMORY → Keeps taken → IsReportOn top kept today status taken
  Reported :
      (told : Telling) → IsTold top today kept told → Writes (report_outcome told) status taken →
      IsReportOn top kept today status taken

-- what `report` answers over tables: the clock failed, or what it answers on the day that the clock
-- gives
pub data IsReport (top : List ℕ) (kept : Kept) (before after : Around) (status : ℕ) (taken : Taken) : Type 0 where
  NoDay :
      status ≡ NO_DAY → Rose before.clock after.clock → after.keeper ≡ before.keeper → Keeps taken →
      IsReport top kept before after status taken
  OnDay :
      (today : ℤ) → TakesDay before.days after.days today → after.clock ≡ before.clock →
      after.keeper ≡ before.keeper → IsReportOn top kept today status taken → IsReport top kept before after status taken

-- the clock isn't asked
abbrev pub IsUnasked : Around → Around → Type 0
IsUnasked before after = (after.days ≡ before.days) × (after.clock ≡ before.clock)

-- what `report` answers: the desk didn't start and the tables stay, or what it answers over the
-- tables, which are migrated where they are of version 1
pub data IsReported (top : List ℕ) (told told' : Option Kept) (before after : Around) (status : ℕ) (taken : Taken) : Type 0 where
  Unstarted :
      IsUnstarted told before.keeper after.keeper status taken → IsUnasked before after →
      told' ≡ told → IsReported top told told' before after status taken
  Started :
      OverTables told (λ kept. IsReport top kept before after status taken) →
      told' ≡ option_map current told → IsReported top told told' before after status taken

-- all links were served, or the door failed
abbrev pub IsEnded : Result Unit Failed → ℕ → ℕ → ℕ → Type 0
IsEnded (Ok done) door door' status = (status ≡ DONE) × (door' ≡ door)
IsEnded (Err fault) door door' status = (status ≡ NO_DOOR) × Rose door door'

-- the door failed to open and nothing changes; or it was opened at the port and no other, and then
-- links of it were served, one after the other
pub data IsLinked (port count : ℕ) (visits visits' : Option Visits) (door door' : ℕ) (before after : Around) (status : ℕ) (kept : Kept) : Kept → Type 0 where
  Shut :
      status ≡ NO_DOOR → Rose door door' → Tells visits visits' IsSameVisits → after ≡ before →
      IsLinked port count visits visits' door door' before after status kept kept
  Linked :
      (kept' : Kept) (result : Result Unit Failed) →
      Tells visits visits' (λ shut. DeskServes count result before after kept kept' (with_port port shut)) →
      IsEnded result door door' status →
      IsLinked port count visits visits' door door' before after status kept kept'

-- what `serve` does over tables: it leaves those of the links, and writes nothing
pub record IsServing (port count : ℕ) (told' : Option Kept) (visits visits' : Option Visits) (door door' : ℕ) (before after : Around) (status : ℕ) (taken : Taken) (held : Kept) : Type 0 where
  pub kept : Kept
  pub are_kept : IfSome told' (λ tables. tables ≡ kept)
  pub linked : IsLinked port count visits visits' door door' before after status held kept
  pub silent : Keeps taken

-- what `serve` does: the desk didn't start and nothing changes, or what it does over the tables,
-- which are migrated first
pub data IsServed (port count : ℕ) (told told' : Option Kept) (visits visits' : Option Visits) (door door' : ℕ) (before after : Around) (status : ℕ) (taken : Taken) : Type 0 where
  Unopened :
      IsUnstarted told before.keeper after.keeper status taken → IsUnasked before after →
      told' ≡ told → Tells visits visits' IsSameVisits → door' ≡ door →
      IsServed port count told told' visits visits' door door' before after status taken
  Opened :
      OverTables told (IsServing port count told' visits visits' door door' before after status taken) →
      IsServed port count told told' visits visits' door door' before after status taken

-- the tables, the door and the clock are left alone
abbrev pub IsLeft : Option Kept → Option Kept → Option Visits → Option Visits → ℕ → ℕ → Around → Around → Type 0
IsLeft told told' visits visits' door door' before after =
    (told' ≡ told) × (visits' ≡ visits) × (door' ≡ door) × (after ≡ before)

-- what the words ask for is done, where they are a command over the tables; else these, the door and
-- the clock are left alone
abbrev pub IsCommanded : Option Order → Option Kept → Option Kept → Option Visits → Option Visits → ℕ → ℕ → Around → Around → ℕ → Taken → Type 0
IsCommanded None told told' visits visits' door door' before after status taken =
    IsLeft told told' visits visits' door door' before after
IsCommanded (Some (Report top)) told told' visits visits' door door' before after status taken =
    IsReported top told told' before after status taken × (visits' ≡ visits) × (door' ≡ door)
IsCommanded (Some (Serve port count)) told told' visits visits' door door' before after status taken =
    IsServed port count told told' visits visits' door door' before after status taken
