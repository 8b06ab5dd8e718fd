use Rattle.std.proofs.Common.{ℕ, ◌≡◌, cond, take}
use Rattle.std.specs.List.{slice_get}
use Rattle.rtl_flat.specs.Signs.{width_in}
use Rattle.rtl_flat.specs.Value.{store}
use Rattle.vcd_signals.specs.Recording.{has, value_after}
use Rattle.vcd_signals.proofs.recorder.set_all.Given as goal

abbrev pub invariant-loop-signal : goal.invariant-loop-signal
invariant-loop-signal l =
    (i : ℕ) →
    store l.values i
    ≡ cond (has (take l.signal-index l.followers) i)
    (value_after (slice_get l.codes i) (width_in l.signals i) (record { code = l.code; bits = l.bits }) (store l.fn.values i))
    (store l.fn.values i)
