-- Whether a setting fits a top input.
use Rattle.std.proofs.Common.{◌≡◌, ℕ, zero, suc, ◌<◌, List, [], ◌∷◌, length, get_or, Option, None, Some, refl, sym, ap, arith}
use Rattle.rtl_flat.specs.declared.signal.Signal.{Signal}
use Rattle.rtl_flat.specs.Signs.{width_in}

pub width_at : (signals : List Signal) (i : ℕ) (x : Signal) → i < length signals → x ≡ get_or signals i x → width_in signals i ≡ x.width
width_at [] i x below is = absurd (omega (arith, below))
width_at (s ∷ signals) zero x below is = ap (λ (y : Signal). y.width) (sym is)
width_at (s ∷ signals) (suc i) x below is = width_at signals i x (omega (arith, below)) is
