-- Each signal of a design has a bit.
use Rattle.std.proofs.Common.{zero, suc, List, [], ◌∷◌, arith}
use Rattle.std.specs.List.{All}
use Rattle.std.proofs.lemmas.List.Elements.{All-head, All-tail}
use Rattle.rtl_flat.specs.declared.signal.Signal.{Signal}
use Rattle.rtl_flat.specs.declared.instance.Instance.{Instance}
use Rattle.rtl_flat.specs.WellFormed.{IsSignal}
use Rattle.rtl_flat.specs.Sizing.{HaveBits}

pub have_bits : (instances : List Instance) (signals : List Signal) → All (IsSignal instances) signals → HaveBits signals
have_bits instances [] h i below = absurd (omega arith)
have_bits instances (s ∷ signals) h zero below =
    (All-head (IsSignal instances) s signals h).0
have_bits instances (s ∷ signals) h (suc i) below =
    have_bits instances signals (All-tail (IsSignal instances) s signals h) i (omega arith)
