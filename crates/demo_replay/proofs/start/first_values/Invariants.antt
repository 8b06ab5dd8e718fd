use Rattle.std.proofs.Common.{◌≡◌, length, map, take}
use Rattle.rtl_flat.specs.Flats.{flat, widths}
use Rattle.netlist_eval.specs.net_start.Stored.{places}
use Rattle.demo_replay.specs.Setups.{first_value}
use Rattle.demo_replay.proofs.start.first_values.Given as goal

abbrev pub invariant-loop-signal : goal.invariant-loop-signal
invariant-loop-signal l =
    (l.values.items ≡ map (first_value (flat l.design) l.trial.number) (places (take l.signal-index l.signals))) × (map length l.values.items ≡ map (widths (flat l.design)) (places (take l.signal-index l.signals)))
