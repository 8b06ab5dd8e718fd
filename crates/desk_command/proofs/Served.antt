-- How the links of a door are served.
use Rattle.std.proofs.Common.{◌≡◌, ℕ, List, Option, None, Some, Result, Ok, Err, refl, subst}
use Rattle.std.specs.Prelude.{ℤ, IfSome}
use Rattle.std.proofs.KnownBytes.{Appends-nil}
use Rattle.desk_io.specs.declared.failed.Failed.{Failed}
use Rattle.desk_tables.specs.Tables.{Kept}
use Rattle.desk_links.specs.Doors.{IsSameVisits, Opens, Tells, Visits, with_port}
use Rattle.desk_core.specs.Machine.{Machine}
use Rattle.desk_core.specs.Starting.{IsStart}
use Rattle.desk_core.specs.Serving.{ServesRightly}
use Rattle.desk_server.specs.Exchanges.{Around, around}
use Rattle.desk_server.specs.Servings.{ServesCount}
use Rattle.desk_command.specs.Commands.{IsLinked, IsServed, IsServing, Opened, taken_between}
use Rattle.desk_command.specs.Servings.{DeskServes}
use Rattle.desk_command.proofs.Few.{are_few}
use Rattle.desk_command.proofs.Started.{over_tables}

-- where the door fails to open its visits are the same
pub stays_shut : (port : ℕ) (fault : Failed) (visits visits' : Option Visits) → Tells visits visits' (Opens port (Err fault)) → Tells visits visits' IsSameVisits
stays_shut port fault None visits' opens = tt
stays_shut port fault (Some before) None opens = absurd opens
stays_shut port fault (Some before) (Some after) opens = opens

-- what is told after the door was opened is told of one that is opened at the port
pub behind : (port : ℕ) (done : Unit) (visits visits' visits'' : Option Visits) (P : Visits → Visits → Type 0) → Tells visits visits' (Opens port (Ok done)) → Tells visits' visits'' P → Tells visits visits'' (λ shut. P (with_port port shut))
behind port done None visits' visits'' P opens holds = tt
behind port done (Some before) None visits'' P opens holds = absurd opens
behind port done (Some before) (Some middle) None P opens holds = absurd holds
behind port done (Some before) (Some middle) (Some after) P opens holds =
    let Q : Visits → Type 0 = λ (it : Visits). P it after in
    subst Q opens holds

-- few of the links that the desk serves are told that it is unavailable
pub desk_serves : (count : ℕ) (result : Result Unit Failed) (around around' : Around) (kept kept' : Kept) (visits visits' : Option Visits) → Tells visits visits' (ServesCount ServesRightly count result around around' kept kept') → Tells visits visits' (DeskServes count result around around' kept kept')
desk_serves count result around around' kept kept' None visits' serves = tt
desk_serves count result around around' kept kept' (Some before) None serves = absurd serves
desk_serves count result around around' kept kept' (Some before) (Some after) serves =
    record { serves = serves; few = are_few serves.served.inputs serves.served.links around around' kept kept' serves.served.run }

-- nothing changes where nothing is done
pub same_visits : (visits : Option Visits) → Tells visits visits IsSameVisits
same_visits None = tt
same_visits (Some visits) = refl

-- the desk starts over the keeper's tables and serves links of the door over them
pub opened : (port count : ℕ) (told told' : Option Kept) (desk desk' : Machine) (visits visits' : Option Visits) (door door' : ℕ) (days : Option (List ℤ)) (clock keeper keeper' : ℕ) (after : Around) (status : ℕ) (sink : Option (List ℕ)) → IsStart told (Ok desk) → keeper' ≡ keeper → IsLinked port count visits visits' door door' (around days clock keeper') after status desk.kept desk'.kept → IfSome told' (λ held. held ≡ desk'.kept) → IsServed port count told told' visits visits' door door' (around days clock keeper) after status (taken_between sink sink)
opened port count told told' desk desk' visits visits' door door' days clock keeper keeper' after status sink start same linked held =
    let P : ℕ → Type 0 = λ (it : ℕ). IsLinked port count visits visits' door door' (around days clock it) after status desk.kept desk'.kept in
    Opened (over_tables told desk (IsServing port count told' visits visits' door door' (around days clock keeper) after status (taken_between sink sink)) start
    (record {
      kept = desk'.kept;
      are_kept = held;
      linked = subst P same linked;
      silent = Appends-nil sink;
    }))
