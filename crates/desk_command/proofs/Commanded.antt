-- What the words ask for.
use Rattle.std.proofs.Common.{◌≡◌, ℕ, List, Option, None, Some, ap, refl, true}
use Rattle.desk_tables.specs.Tables.{Kept}
use Rattle.desk_links.specs.Doors.{Visits}
use Rattle.desk_server.specs.Exchanges.{Around}
use Rattle.desk_command.specs.Commands.{IsCommanded, IsLeft, IsReported, IsServed, Taken}
use Rattle.desk_top.specs.Delivery.{gave_up}
use Rattle.desk_command.specs.Statuses.{UNREAD}
use Rattle.desk_command.specs.Words.{Order, Report, Serve}

-- what each command does is done by the one that there is
pub commanded : (order : Option Order) (told told' : Option Kept) (visits visits' : Option Visits) (door door' : ℕ) (before after : Around) (status : ℕ) (taken : Taken)
    → ((top : List ℕ) → order ≡ Some (Report top) → IsReported top told told' before after status taken)
    → ((top : List ℕ) → order ≡ Some (Report top) → visits' ≡ visits)
    → ((top : List ℕ) → order ≡ Some (Report top) → door' ≡ door)
    → ((port count : ℕ) → order ≡ Some (Serve port count) → IsServed port count told told' visits visits' door door' before after status taken)
    → (order ≡ None → IsLeft told told' visits visits' door door' before after)
    → IsCommanded order told told' visits visits' door door' before after status taken
commanded None told told' visits visits' door door' before after status taken reported no_visits no_door served left = left refl
commanded (Some (Report top)) told told' visits visits' door door' before after status taken reported no_visits no_door served left = (reported top refl, no_visits top refl, no_door top refl)
commanded (Some (Serve port count)) told told' visits visits' door door' before after status taken reported no_visits no_door served left = served port count refl

-- where a read failed the work was given up
pub gave_up_unread : (status : ℕ) → status ≡ UNREAD → gave_up status ≡ true
gave_up_unread status is = ap gave_up is
