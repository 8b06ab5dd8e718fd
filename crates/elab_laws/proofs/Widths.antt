-- The widths of the signals of a design.
use Rattle.std.specs.Prelude.{ℕ, zero, suc, ◌<◌, ◌≤◌, List, [], ◌∷◌, length}
use Rattle.std.specs.List.{All}
use Rattle.std.proofs.Common.{arith}
use Rattle.std.proofs.lemmas.List.Elements.{All-head, All-tail}
use Rattle.rtl_flat.specs.declared.instance.Instance.{Instance}
use Rattle.rtl_flat.specs.declared.signal.Signal.{Signal}
use Rattle.rtl_flat.specs.Signs.{width_in}
use Rattle.rtl_flat.specs.WellFormed.{IsSignal}
use Rattle.elab_laws.specs.Laws.{SignalsLaw}

some_bits : (instances : List Instance) (signals : List Signal) → All (IsSignal instances) signals → (i : ℕ) → i < length signals → 1 ≤ width_in signals i
some_bits instances [] all i h = absurd (omega arith)
some_bits instances (s ∷ signals) all zero h = (All-head (IsSignal instances) s signals all).0
some_bits instances (s ∷ signals) all (suc i) h =
    some_bits instances signals (All-tail (IsSignal instances) s signals all) i (omega arith)

most_bits : (instances : List Instance) (signals : List Signal) → All (IsSignal instances) signals → (i : ℕ) → i < length signals → width_in signals i ≤ 128
most_bits instances [] all i h = absurd (omega arith)
most_bits instances (s ∷ signals) all zero h = (All-head (IsSignal instances) s signals all).1
most_bits instances (s ∷ signals) all (suc i) h =
    most_bits instances signals (All-tail (IsSignal instances) s signals all) i (omega arith)

pub signals_wide : SignalsLaw
signals_wide instances signals all =
    (some_bits instances signals all, most_bits instances signals all)
