-- Whether a signal is declared signed, by its place.
use Rattle.std.proofs.Common.{◌≡◌, ◌<◌, ◌≤◌, ℕ, zero, suc, false, List, [], ◌∷◌, length, get_or, refl, arith}
use Rattle.rtl_flat.specs.declared.signal.Signal.{Signal}
use Rattle.rtl_flat.specs.Sizing.{signed_in}

pub signed_at : (signals : List Signal) (i : ℕ) (d : Signal) → i < length signals → (get_or signals i d).signed ≡ signed_in signals i
signed_at [] i d h = absurd (omega arith)
signed_at (s ∷ signals) zero d h = refl
signed_at (s ∷ signals) (suc i) d h = signed_at signals i d (omega arith)

pub signed_past : (signals : List Signal) (i : ℕ) → length signals ≤ i → false ≡ signed_in signals i
signed_past [] i h = refl
signed_past (s ∷ signals) zero h = absurd (omega arith)
signed_past (s ∷ signals) (suc i) h = signed_past signals i (omega arith)
