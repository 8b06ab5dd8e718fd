-- Where the desk starts, and where it doesn't.
use Rattle.std.proofs.Common.{◌≡◌, ◌∙◌, ◌<◌, ℕ, Option, None, Some, Ok, Err, ap, arith, refl, subst, sym}
use Rattle.std.specs.Prelude.{IfSome, option_map}
use Rattle.desk_tables.specs.Migrations.{current}
use Rattle.desk_tables.specs.Tables.{Kept}
use Rattle.desk_tables.specs.declared.rows.Table.{Table}
use Rattle.desk_core.specs.Machine.{Machine}
use Rattle.desk_core.specs.Starting.{IsStart}
use Rattle.desk_core.specs.declared.start.StartFault.{StartFault}
use Rattle.desk_core.specs.declared.start.StartFault.TheVariants as fault
use Rattle.desk_command.specs.Statuses.{UNKEPT}
use Rattle.desk_command.specs.Commands.{BadTables, IsUnstarted, OverTables, Taken, Writes, bad_tables}

-- what holds of a started desk's tables is over those that the keeper tells
pub over_tables : (told : Option Kept) (desk : Machine) (P : Kept → Type 0) → IsStart told (Ok desk) → P desk.kept → OverTables told P
over_tables told desk P start holds =
    record {
      held = start.held;
      are_told = start.are_told;
      sound = start.over.1;
      holds = subst P start.over.0 holds;
    }

-- the keeper holds what the started desk keeps
pub held_after : (told told' : Option Kept) (desk : Machine) → IsStart told (Ok desk) → told' ≡ option_map current told → IfSome told' (λ held. held ≡ desk.kept)
held_after None told' desk start moved = subst (λ (it : Option Kept). IfSome it (λ held. held ≡ desk.kept)) (sym moved) tt
held_after (Some tables) told' desk start moved =
    subst (λ (it : Option Kept). IfSome it (λ held. held ≡ desk.kept)) (sym moved) (ap current start.are_told ∙ sym start.over.0)

-- the line on a row that breaks a rule is written
pub on_bad_tables : (told : Option Kept) (faults faults' : ℕ) (table : Table) (row status : ℕ) (taken : Taken) → IsStart told (Err (fault.BadTables table row)) → faults' ≡ faults → Writes (bad_tables table row) status taken → IsUnstarted told faults faults' status taken
on_bad_tables told faults faults' table row status taken start calm writes =
    BadTables start.held table row start.are_told start.over calm writes

-- where the keeper's count rose the desk didn't start for that
pub load_cause : (why : StartFault) (status before now : ℕ) → (why ≡ fault.Keeper → status ≡ UNKEPT) → ((why ≡ fault.Keeper → ⊥) → now ≡ before) → before < now → status ≡ UNKEPT
load_cause fault.Keeper status before now unkept calm more = unkept refl
load_cause (fault.BadTables table row) status before now unkept calm more =
    let same : now ≡ before = calm (λ is. cc) in absurd (omega (arith, same, more))
load_cause fault.Memory status before now unkept calm more =
    let same : now ≡ before = calm (λ is. cc) in absurd (omega (arith, same, more))
