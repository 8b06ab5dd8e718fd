-- Widths of signals and of their values.
use Rattle.std.proofs.Common.{◌≡◌, ◌<◌, ℕ, zero, suc, List, [], ◌∷◌, length, get_or, refl, arith}
use Rattle.rtl_bits.specs.declared.Bit.{Bit}
use Rattle.rtl_flat.specs.declared.signal.Signal.{Signal}
use Rattle.rtl_flat.specs.Expression.{Tree}
use Rattle.rtl_flat.specs.Sizes.{IsSized}
use Rattle.rtl_flat.specs.Signs.{width_in, IsExpression}
use Rattle.rtl_flat.specs.Value.{widths}
use Rattle.rtl_flat.proofs.Stored.{sized_for_values}
use Rattle.event_write.specs.Stored.{AreStored}

pub width_at : (signals : List Signal) (i : ℕ) (d : Signal) → i < length signals → (get_or signals i d).width ≡ width_in signals i
width_at [] i d h = absurd (omega arith)
width_at (s ∷ signals) zero d h = refl
width_at (s ∷ signals) (suc i) d h = width_at signals i d (omega arith)

pub sized_here : (signals : List Signal) (values : List (List Bit)) (e : Tree) → AreStored signals values → IsExpression signals e → IsSized (length values) (widths values) e
sized_here signals values e stored h = sized_for_values signals values e stored.count stored.each h
