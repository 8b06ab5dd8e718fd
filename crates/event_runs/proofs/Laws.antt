-- The laws of events and runs, as they are stated.
use Rattle.event_model.specs.Queue.{power_up}
use Rattle.rtl_flat.specs.Flats.{Flat}
use Rattle.event_model.specs.Writes.{Values}
use Rattle.event_laws.specs.Steady.{AreLawful}
use Rattle.event_runs.specs.Laws.{DrivenAreResolved, DriversRest, HaveEffects, IsKept, IsKeptByRuns, IsKeptByRunning, IsKeptRunning, KeepsOrder, LeavesBits, LeavesInputs, NoneAreLate, OffersGive, OffersKeepOrder, OffersLeave, RunsKeepOrder, SoleDriverGives}
use Rattle.event_runs.specs.Nets.{AreOffered, AreResolved}
use Rattle.event_runs.specs.Plain.{AreStill, AreUnheard}
use Rattle.event_runs.specs.Writers.{IsOrderly}
use Rattle.event_runs.proofs.Effects as effects
use Rattle.event_runs.proofs.Inputs as input
use Rattle.event_runs.proofs.Late as late
use Rattle.event_runs.proofs.Nets as net
use Rattle.event_runs.proofs.Still as still

pub effect : (d : Flat) → HaveEffects d
effect d = effects.effect d

pub untouched : (d : Flat) → AreLawful d → LeavesBits d
untouched d lawful s event i k there h cannot = late.untouched d lawful s event there h i k cannot

pub input_stays : (d : Flat) → AreLawful d → LeavesInputs d
input_stays d lawful s event i there h is other = input.input_stays d lawful s h event there i is other

pub orderly_after : (d : Flat) → AreLawful d → KeepsOrder d
orderly_after d lawful = late.orderly_after d lawful

pub orderly_run : (d : Flat) → AreLawful d → RunsKeepOrder d
orderly_run d lawful = late.orderly_run d lawful

pub orderly_power_up : (d : Flat) → IsOrderly d (power_up d)
orderly_power_up d = late.orderly_power_up d

pub orderly_offer : (d : Flat) → OffersKeepOrder d
orderly_offer d = input.orderly_offer d

pub late_none : (d : Flat) → NoneAreLate d
late_none d = late.late_none d

pub still_after : (d : Flat) → AreLawful d → IsKeptRunning d (AreStill d)
still_after d lawful = still.still_after d lawful

pub still_run : (d : Flat) → AreLawful d → IsKeptByRunning d (AreStill d)
still_run d lawful = still.still_run d lawful

pub unheard_after : (d : Flat) → AreLawful d → (first : Values) → IsKeptRunning d (λ ran s. AreUnheard d ran first s)
unheard_after d lawful first ran s event there h = still.unheard_after d lawful ran first s event there h

pub unheard_run : (d : Flat) → AreLawful d → (first : Values) → IsKeptByRunning d (λ ran s. AreUnheard d ran first s)
unheard_run d lawful first ran s events can h = still.unheard_run d lawful ran first s events can h

pub resolved_after : (d : Flat) → AreLawful d → IsKept d (AreResolved d)
resolved_after d lawful = net.resolved_after d lawful

pub resolved_run : (d : Flat) → AreLawful d → IsKeptByRuns d (AreResolved d)
resolved_run d lawful = net.resolved_run d lawful

pub resolved_power_up : (d : Flat) → AreLawful d → AreResolved d (power_up d)
resolved_power_up d lawful = net.resolved_power_up d lawful

pub sole_driver : (d : Flat) → AreLawful d → SoleDriverGives d
sole_driver d lawful = net.sole_driver d lawful

pub driven_resolved : (d : Flat) → AreLawful d → DrivenAreResolved d
driven_resolved d lawful = record { alone = net.driven_from d lawful; together = net.resolved_from d lawful }

pub driver_rests : (d : Flat) → DriversRest d
driver_rests d s p target e h rest here = net.driver_value d s h.steady rest p target e here

pub offered_after : (d : Flat) → AreLawful d → (given : Values) → IsKept d (AreOffered d given)
offered_after d lawful given = input.offered_event d lawful given

pub offered_run : (d : Flat) → AreLawful d → (given : Values) → IsKeptByRuns d (AreOffered d given)
offered_run d lawful given = input.offered_run d lawful given

pub offer_leaves : (d : Flat) → OffersLeave d
offer_leaves d = input.offer_is

pub offer_gives : (d : Flat) → OffersGive d
offer_gives d = input.offered_offer d
