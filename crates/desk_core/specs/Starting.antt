-- What the desk starts with.
-- Worked examples: crates/tests_serving/stdin.
use Rattle.std.specs.Prelude.{◌≡◌, Option, Some, None, Result, Ok, Err, IfSome, ⊤}
use Rattle.desk_tables.specs.Migrations.{current}
use Rattle.desk_tables.specs.Rules.{broken_row}
use Rattle.desk_tables.specs.Tables.{Kept}
use Rattle.desk_core.specs.Machine.{Machine}
use Rattle.desk_core.specs.declared.start.StartFault.{StartFault}
use Rattle.desk_core.specs.declared.start.StartFault.TheVariants.{Keeper, BadTables, Memory}

-- a desk keeps the tables that were held, those of version 1 migrated, where none of their rows
-- breaks a rule; else the first that does is told
abbrev pub IsStartOver : Kept → Result Machine StartFault → Type 0
IsStartOver held (Ok desk) = (desk.kept ≡ current held) × (broken_row held ≡ None)
IsStartOver held (Err Keeper) = ⊤
IsStartOver held (Err (BadTables table row)) = broken_row held ≡ Some (table, row)
IsStartOver held (Err Memory) = ⊤

-- so it is with some tables: those that the keeper tells, where it tells them
pub record IsStart (told : Option Kept) (result : Result Machine StartFault) : Type 0 where
  pub held : Kept
  pub are_told : IfSome told (λ tables. tables ≡ held)
  pub over : IsStartOver held result
