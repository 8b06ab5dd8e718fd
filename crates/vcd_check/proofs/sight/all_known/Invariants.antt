use Rattle.std.proofs.Common.{◌≡◌, drop}
use Rattle.std.specs.List.{list_all}
use Rattle.netlist_eval.specs.net_start.Stored.{places}
use Rattle.vcd_signals.specs.Recording.{kept}
use Rattle.vcd_check.specs.Departure.{is_known}
use Rattle.vcd_check.proofs.sight.all_known.Given as goal

abbrev pub invariant-loop-signal : goal.invariant-loop-signal
invariant-loop-signal l =
    list_all (λ i. is_known (kept l.recorder i)) (places l.signals)
    ≡ list_all (λ i. is_known (kept l.recorder i)) (places (drop l.signal-index l.signals))
