use Rattle.std.proofs.Common.{◌≡◌, map, replicate, take}
use Rattle.rtl_bits.specs.declared.Bit.TheVariants.{X}
use Rattle.rtl_flat.specs.declared.signal.Signal.{Signal}
use Rattle.vcd_signals.proofs.recorder.forget.Given as goal

abbrev pub invariant-loop-place : goal.invariant-loop-place
invariant-loop-place l =
    take l.place l.values ≡ map (λ (signal : Signal). replicate signal.width X) (take l.place l.fn.design.signals.items)
