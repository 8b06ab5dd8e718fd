use Rattle.std.proofs.Common.{◌≡◌, ◌++◌, drop, map, true, length}
use Rattle.std.specs.List.{list_all}
use Rattle.rtl_flat.specs.Flats.{widths}
use Rattle.netlist_eval.specs.net_start.Stored.{places}
use Rattle.vcd_signals.specs.Recording.{flat_of, kept}
use Rattle.vcd_check.specs.Departure.{is_known, or_none}
use Rattle.vcd_check.proofs.sight.values.Given as goal

abbrev pub invariant-loop-signal : goal.invariant-loop-signal
invariant-loop-signal l = record {
  values : l.made.items ++ map (λ i. or_none (kept l.recorder i)) (places (drop l.signal-index l.signals)) ≡ map (λ i. or_none (kept l.recorder i)) (places l.signals);
  wide : map length l.made.items ++ map (widths (flat_of l.recorder)) (places (drop l.signal-index l.signals)) ≡ map (widths (flat_of l.recorder)) (places l.signals);
  known : list_all (λ i. is_known (kept l.recorder i)) (places (drop l.signal-index l.signals)) ≡ true;
}
