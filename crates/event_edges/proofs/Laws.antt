-- The laws of steps, as they are stated.
use Rattle.std.proofs.Common.{◌≢◌, ◌∙◌, false, [], ◌∷◌, refl, sym}
use Rattle.std.proofs.lemmas.List.Elements.{All-head, All-tail}
use Rattle.event_model.specs.Queue.{Event, Activate, after, run}
use Rattle.rtl_flat.specs.Flats.{Flat}
use Rattle.event_model.specs.Writes.{put}
use Rattle.event_runs.specs.event_laws.Steady.{AreLawful}
use Rattle.event_runs.proofs.event_laws_proofs.Lengths.{put_at}
use Rattle.event_runs.specs.Plain.{ran_after, ran_by}
use Rattle.event_edges.specs.Laws.{ActivationIsQuiet, AllTurn, DataIsQuiet, KeepsRegisters, KeepsTurning, MovesAreQuiet, MovesKeepDue, ResetsSet, RunsAreQuiet, RunsKeepTurning, SetAtRest, StepsBegin, TakesBeside, TakesEdges, TurnsCone, TurnsConeBeside}
use Rattle.event_edges.specs.Synchronous.{IsSynchronous}
use Rattle.event_edges.specs.Turned.{set_to}
use Rattle.event_edges.proofs.AtEdge as edge
use Rattle.event_edges.proofs.Due as due
use Rattle.event_edges.proofs.Going as going
use Rattle.event_edges.proofs.Moves as moves
use Rattle.event_edges.proofs.Ports.{resolves}
use Rattle.event_edges.proofs.Resets as reset
use Rattle.event_edges.proofs.Turns as turns

pub steps_begin : (d : Flat) → IsSynchronous d → StepsBegin d
steps_begin d sync c a b s start =
    record { turn = going.is_turn d sync c a b s start; turning = (going.starts d sync c a b s start).turning }

pub turning_after : (d : Flat) → IsSynchronous d → KeepsTurning d
turning_after d sync c a b old turn ran s event there active h =
    turns.turning_after d sync c a b old turn ran s h event there active
    (λ p target e is port. resolves d sync (put s.driver p (b ∷ [])) p target e port.from port.port b is port.link (put_at s.driver p p (b ∷ []) refl))

pub turning_run : (d : Flat) → IsSynchronous d → RunsKeepTurning d
turning_run d sync c a b old turn ran s [] can active h = h
turning_run d sync c a b old turn ran s (event ∷ events) can active h =
    turning_run d sync c a b old turn (ran_by ran event) (after d s event) events can.1 (All-tail (λ (e : Event). e ≢ Activate) event events active)
    (turning_after d sync c a b old turn ran s event can.0 (All-head (λ (e : Event). e ≢ Activate) event events active) h)

pub all_turned : (d : Flat) → IsSynchronous d → AllTurn d
all_turned d sync c a b s start events can active still =
    let turn = going.is_turn d sync c a b s start in
    going.all_turned d sync c a b s.value turn (ran_after (λ p. false) events) (run d (set_to s c b) events)
    (going.going_run d sync c a b s.value turn (λ p. false) (set_to s c b) events can active (going.starts d sync c a b s start)) still

pub activation_quiet : (d : Flat) → ActivationIsQuiet d
activation_quiet d s still = going.quiet_at d s still (after d s Activate) refl refl refl refl

pub quiet_run : (d : Flat) → IsSynchronous d → RunsAreQuiet d
quiet_run d sync s events can order quiet = due.quiet_run d sync s events order quiet can

pub cone_turns : (d : Flat) → IsSynchronous d → TurnsCone d
cone_turns d sync c a b = edge.cone_turns d sync c a b

pub at_edge : (d : Flat) → IsSynchronous d → TakesEdges d
at_edge d sync c a b = edge.at_edge d sync c a b

pub at_data : (d : Flat) → IsSynchronous d → KeepsRegisters d
at_data d sync s events can order quiet activated delayed rest p list body is i k may =
    sym (due.due_rest (run d s events) i k rest.no_active.updates rest.no_delayed)
    ∙ due.due_run d sync p list body is i k may s events order quiet can
    ∙ due.due_rest s i k activated delayed

pub resets_set : (d : Flat) → AreLawful d → ResetsSet d
resets_set d lawful p r active i k constant is =
    record {
      power_up = reset.set_power_up d lawful p r active i k constant is;
      offer = reset.set_offer d lawful p r active i k constant is;
      run = reset.set_run d lawful p r active i k constant is;
    }

pub set_at_rest : (d : Flat) → AreLawful d → SetAtRest d
set_at_rest d lawful p r active i k constant is s rest set now =
    reset.set_at_rest d lawful p r active i k constant is s rest set now

-- ---- data

pub data_quiet : (d : Flat) → IsSynchronous d → DataIsQuiet d
data_quiet d sync s step rest set =
    moves.quiet_offer d sync s (going.quiet_at d s rest.no_active s refl refl refl rest.no_delayed) step set

pub quiet_moves : (d : Flat) → IsSynchronous d → MovesAreQuiet d
quiet_moves d sync s moved can order quiet = (moves.quiet_moves d sync s moved can order quiet).behind

pub due_moves : (d : Flat) → IsSynchronous d → MovesKeepDue d
due_moves d sync s moved can order quiet = (moves.quiet_moves d sync s moved can order quiet).due

pub turned_beside : (d : Flat) → IsSynchronous d → TurnsConeBeside d
turned_beside d sync c a b = edge.turned_beside d sync c a b

pub taken_beside : (d : Flat) → IsSynchronous d → TakesBeside d
taken_beside d sync c a b = edge.taken_beside d sync c a b
