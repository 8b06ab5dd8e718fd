-- What is told of a module's reach: the files that it uses, as they are.
-- Worked examples: crates/desk_rulings/proofs/ReachExample.antt.
use Rattle.std.specs.Prelude.{ℕ, Bool, true, ◌&&◌, bytes_eq, List, [], ◌∷◌, Option, Some, None, if◌then◌else◌}
use Rattle.std.specs.Option.{option_or}
use Rattle.desk_tables.specs.Tables.{Kept}
use Rattle.desk_tables.specs.declared.rows.SignOffRow.{SignOffRow}
use Rattle.desk_bodies.specs.Bodies.{reach_text}
use Rattle.desk_records.specs.Machine.{json_answer}
use Rattle.desk_records.specs.Outcomes.{Outcome}
use Rattle.desk_rulings.specs.SignOffs.{reach_of, rows_of}

-- the sign-off is of the module, and its files had this digest
abbrev pub is_signed : List ℕ → List ℕ → SignOffRow → Bool
is_signed top reach row = bytes_eq row.top top && bytes_eq row.reach reach

-- the number of the last such sign-off
abbrev pub last_signed : List ℕ → List ℕ → List SignOffRow → Option ℕ
last_signed top reach [] = None
last_signed top reach (row ∷ rows) =
    option_or (last_signed top reach rows) (if is_signed top reach row then Some row.id else None)

-- what is told where the module's files have this digest
abbrev pub reach_answer : List ℕ → List ℕ → List SignOffRow → Outcome
reach_answer top reach rows = json_answer (reach_text true (Some reach) (last_signed top reach rows))

-- what is told where it is known what the rules say of a module, which uses the files of these names
abbrev pub reach_outcome : List ℕ → Kept → List (List ℕ) → Outcome
reach_outcome top kept reached =
    reach_answer top (reach_of (rows_of kept.files reached)) kept.signoffs

-- what is told where no files are: where it is known that the module has no design, and where nothing is known
abbrev pub no_reach : Bool → Outcome
no_reach current = json_answer (reach_text current None None)
