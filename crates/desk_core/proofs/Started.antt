-- What the desk starts with.
use Rattle.std.proofs.Common.{◌≡◌, Option, Some, None, refl, sym}
use Rattle.std.specs.Prelude.{IfSome, Result}
use Rattle.desk_tables.specs.Tables.{Kept, new_tables}
use Rattle.desk_core.specs.Machine.{Machine}
use Rattle.desk_core.specs.Starting.{IsStart, IsStartOver}
use Rattle.desk_core.specs.declared.start.StartFault.{StartFault}

are_told : (told : Option Kept) (kept : Kept) → IfSome told (λ held. kept ≡ held) → IfSome told (λ held. held ≡ kept)
are_told None kept is = tt
are_told (Some held) kept is = sym is

-- over the tables that were loaded
pub starts_over : (told : Option Kept) (kept : Kept) (result : Result Machine StartFault) → IfSome told (λ held. kept ≡ held) → IsStartOver kept result → IsStart told result
starts_over told kept result is over =
    record { held = kept; are_told = are_told told kept is; over = over }

-- whatever the tables are
pub starts_any : (told : Option Kept) (result : Result Machine StartFault) → ((held : Kept) → IsStartOver held result) → IsStart told result
starts_any None result over = record { held = new_tables; are_told = tt; over = over new_tables }
starts_any (Some held) result over = record { held = held; are_told = refl; over = over held }
