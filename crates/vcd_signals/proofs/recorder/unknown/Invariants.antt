use Rattle.std.proofs.Common.{◌≡◌, map, replicate, take}
use Rattle.rtl_bits.specs.declared.Bit.TheVariants.{X}
use Rattle.rtl_flat.specs.declared.signal.Signal.{Signal}
use Rattle.vcd_signals.proofs.recorder.unknown.Given as goal

abbrev pub invariant-loop-signal : goal.invariant-loop-signal
invariant-loop-signal l =
    l.values.items ≡ map (λ (signal : Signal). replicate signal.width X) (take l.signal-index l.fn.design.signals.items)
