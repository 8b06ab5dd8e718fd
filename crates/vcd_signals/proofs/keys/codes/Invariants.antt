use Rattle.std.proofs.Common.{◌≡◌, map, take}
use Rattle.rtl_flat.specs.declared.signal.Signal.{Signal}
use Rattle.vcd_read.specs.Frames.{variables}
use Rattle.vcd_read.specs.Reading.{dump_of}
use Rattle.vcd_signals.specs.Keys.{first_code, signal_key}
use Rattle.vcd_signals.proofs.keys.codes.Given as goal

abbrev pub invariant-loop-signal : goal.invariant-loop-signal
invariant-loop-signal l =
    l.codes.items
    ≡ map (λ (signal : Signal). first_code (signal_key l.fn.scope signal) (variables (dump_of l.fn.dump)))
    (take l.signal-index l.fn.design.signals.items)
