-- Moves from a quiet state, events and gifts of data: no clock, no reset and nothing that is due to a register changes.
use Rattle.std.proofs.Common.{◌≡◌, ◌∙◌, ℕ, List, [], ◌∷◌, Option, Some, refl, sym, ap, subst}
use Rattle.std.specs.Prelude.{IsSome, IsTrue}
use Rattle.rtl_bits.specs.declared.Bit.{Bit}
use Rattle.rtl_flat.specs.Flows.{body_flow}
use Rattle.rtl_flat.specs.Paths.{MayWrite}
use Rattle.rtl_flat.specs.Process.{Watched, Actions, Edge'}
use Rattle.event_model.specs.Queue.{State, Event, CanRun, doing_at, is_input, offer, run}
use Rattle.rtl_flat.specs.Flats.{Flat, widths}
use Rattle.event_model.specs.Traces.{Same}
use Rattle.event_model.specs.Writes.{put}
use Rattle.event_runs.proofs.event_laws_proofs.Lengths.{put_other}
use Rattle.net_model.specs.Control.{InClockCone, IsClockOrReset, IsReached, Itself, Through}
use Rattle.net_model.specs.Numbers.{bit}
use Rattle.event_runs.specs.Nets.{AreWide, offered_after}
use Rattle.event_runs.specs.Writers.{IsOrderly}
use Rattle.event_runs.proofs.Laws.{offer_leaves, orderly_after, orderly_offer}
use Rattle.event_runs.proofs.Signals.{net_input}
use Rattle.event_edges.specs.Moves.{CanMove, Give, IsMove, Move, Take, move_all, moved}
use Rattle.event_edges.specs.Quiet.{IsQuiet, IsQuietRun, SetData}
use Rattle.event_edges.specs.Registers.{due_bit}
use Rattle.event_edges.specs.Synchronous.{IsSynchronous}
use Rattle.event_edges.proofs.Cone.{port_net}
use Rattle.event_edges.proofs.Due.{at_rest, due_after, due_run, its_sole, of_body, quiet_run}
use Rattle.event_edges.proofs.Quiet.{cone_kept, quiet_after}

-- what holds behind a quiet state: it was left by a quiet run, and what is due to registers is as it was
pub record IsQuietEnd (d : Flat) (s t : State) : Type 0 where
  pub behind : IsQuietRun d s t
  pub due :
      (p : ℕ) (list : List Watched) (body : Actions) → doing_at d p ≡ Some (Edge' list body) →
      (i k : ℕ) → MayWrite (body_flow (widths d) body) i k → due_bit t i k ≡ due_bit s i k

-- what is offered to data inputs has their widths
pub set_wide : (d : Flat) (step : List (ℕ × List Bit)) → SetData d step → AreWide d step
set_wide d [] set = tt
set_wide d ((i, bits) ∷ step) set = (set.1, set_wide d step set.2)

module _ (d : Flat) (sync : IsSynchronous d) where
  -- ---- gifts

  -- an input of the cone is a clock or a reset
  input_clock : (i : ℕ) → IsTrue (is_input d i) → InClockCone d i → IsClockOrReset d i
  input_clock i input cone = by i cone.clock cone.is_clock cone.reached input
    where
      by : (i c : ℕ) → IsClockOrReset d c → IsReached d c i → IsTrue (is_input d i) → IsClockOrReset d i
      by _ c clock Itself input = clock
      by _ c clock (Through k j reached passed) input = absurd (net_input d j (port_net d sync k j passed) input)

  -- so data are offered to none
  pub cone_offered :
      (offered : ℕ → Option (List Bit)) (step : List (ℕ × List Bit)) → SetData d step →
      (i : ℕ) → IsTrue (is_input d i) → InClockCone d i → offered_after offered step i ≡ offered i
  cone_offered offered [] set i input cone = refl
  cone_offered offered ((j, bits) ∷ step) set i input cone =
      cone_offered (put offered j (Some bits)) step set.2 i input cone
      ∙ put_other offered j i (Some bits) (λ same. set.0.no_clock (subst (IsClockOrReset d) same (input_clock i input cone)))

  pub quiet_offer : (s : State) → IsQuiet d s → (step : List (ℕ × List Bit)) → SetData d step → IsQuiet d (offer s step)
  quiet_offer s quiet step set =
      subst (IsQuiet d) (sym (offer_leaves d s step))
      (record {
        offered = λ i input some cone.
            quiet.offered i input (subst (λ (o : Option (List Bit)). IsSome o) (cone_offered s.offered step set i input cone) some) cone;
        blocks = quiet.blocks;
        ports = quiet.ports;
        pending = quiet.pending;
        delayed = quiet.delayed;
      })

  -- ---- one move

  module _ (s : State) (order : IsOrderly d s) (quiet : IsQuiet d s) where
    orderly_moved : (move : Move) → IsMove d s move → IsOrderly d (moved d s move)
    orderly_moved (Take event) is = orderly_after d sync.lawful s event is order
    orderly_moved (Give step) is = orderly_offer d s step (set_wide d step is) order

    quiet_moved : (move : Move) → IsMove d s move → IsQuiet d (moved d s move)
    quiet_moved (Take event) is = quiet_after d sync s order quiet event is
    quiet_moved (Give step) is = quiet_offer s quiet step is

    cone_moved : (move : Move) → IsMove d s move → (i k : ℕ) → InClockCone d i → Same (moved d s move).value s.value i k
    cone_moved (Take event) is i k cone = cone_kept d sync s order quiet event is i k cone
    cone_moved (Give step) is i k cone = ap (λ (u : State). bit u.value i k) (offer_leaves d s step)

    due_moved :
        (move : Move) → IsMove d s move → (p : ℕ) (list : List Watched) (body : Actions) → doing_at d p ≡ Some (Edge' list body) →
        (i k : ℕ) → MayWrite (body_flow (widths d) body) i k → due_bit (moved d s move) i k ≡ due_bit s i k
    due_moved (Take event) is p list body does i k may =
        due_after d sync.lawful p list body does i k (of_body d sync p list body does i k may) (its_sole d sync p list body does i k may)
        s order event is (at_rest d sync s p (quiet.blocks p list body does) event is)
    due_moved (Give step) is p list body does i k may = ap (λ (u : State). due_bit u i k) (offer_leaves d s step)

  -- ---- moves and runs

  pub quiet_moves : (s : State) (moves : List Move) → CanMove d s moves → IsOrderly d s → IsQuiet d s → IsQuietEnd d s (move_all d s moves)
  quiet_moves s [] can order quiet =
      record {
        behind = record { order = order; quiet = quiet; cone = λ i k cone. refl };
        due = λ p list body does i k may. refl;
      }
  quiet_moves s (move ∷ moves) can order quiet =
      let rest = quiet_moves (moved d s move) moves can.1 (orderly_moved s order quiet move can.0) (quiet_moved s order quiet move can.0) in
      record {
        behind = record {
          order = rest.behind.order;
          quiet = rest.behind.quiet;
          cone = λ i k cone. rest.behind.cone i k cone ∙ cone_moved s order quiet move can.0 i k cone;
        };
        due = λ p list body does i k may.
            rest.due p list body does i k may ∙ due_moved s order quiet move can.0 p list body does i k may;
      }

  pub quiet_events : (s : State) (events : List Event) → CanRun d s events → IsOrderly d s → IsQuiet d s → IsQuietEnd d s (run d s events)
  quiet_events s events can order quiet =
      record {
        behind = quiet_run d sync s events order quiet can;
        due = λ p list body does i k may. due_run d sync p list body does i k may s events order quiet can;
      }
