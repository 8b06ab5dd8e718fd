-- What is told of a module.
use Rattle.std.proofs.Common.{◌≡◌, ℕ, List, Option, None, Some, Ok, subst}
use Rattle.std.specs.Prelude.{ℤ}
use Rattle.desk_links.specs.Clocks.{GivesFirst}
use Rattle.desk_core.specs.Reports.{Telling}
use Rattle.desk_server.specs.Exchanges.{TakesDay}
use Rattle.desk_top.specs.Delivery.{Delivers}
use Rattle.desk_command.specs.Commands.{report_outcome}

-- the day that a clock gives is taken
pub day_taken : (days days' : Option (List ℤ)) (today : ℤ) → GivesFirst days days' (Ok today) → TakesDay days days' today
day_taken None days' today gives = tt
day_taken (Some before) None today gives = absurd gives
day_taken (Some before) (Some after) today gives = gives

-- these bytes with this status are the outcome of a report
pub told_delivered : (told : Telling) (status : ℕ) (bytes : List ℕ) (result : ℕ) (before after : Option (List ℕ)) → status ≡ (report_outcome told).status → bytes ≡ told.bytes → Delivers (record { status = status; bytes = bytes }) result before after → Delivers (report_outcome told) result before after
told_delivered told status bytes result before after same_status same_bytes delivers =
    let P : ℕ → Type 0 = λ (it : ℕ). Delivers (record { status = it; bytes = told.bytes }) result before after in
    let Q : List ℕ → Type 0 = λ (it : List ℕ). Delivers (record { status = status; bytes = it }) result before after in
    subst P same_status (subst Q same_bytes delivers)
