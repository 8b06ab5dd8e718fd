use Rattle.std.proofs.Common.{ℕ, ◌≡◌, List, [], drop}
use Rattle.std.specs.Prelude.{None, Some}
use Rattle.std.specs.List.{slice_get}
use Rattle.rtl_flat.specs.declared.signal.Signal.{Signal}
use Rattle.name_map.specs.Values.{values_of}
use Rattle.vcd_read.specs.Frames.{variables_in}
use Rattle.vcd_signals.specs.Keys.{IsIn, known_behind, signal_key}
use Rattle.vcd_signals.proofs.keys.known.Given as goal

abbrev pub invariant-loop-entry : goal.invariant-loop-entry
invariant-loop-entry l =
    record {
      scopes : List (List ℕ);
      is_in : IsIn scopes l.walk;
      known : (i : ℕ) (signal : Signal) → slice_get l.signals i ≡ Some signal →
          known_behind (signal_key l.scope signal) (variables_in scopes (drop l.entry-index l.entries)) (values_of l.walk.known (signal_key l.scope signal))
          ≡ known_behind (signal_key l.scope signal) (variables_in [] l.entries) (Some None);
    }
