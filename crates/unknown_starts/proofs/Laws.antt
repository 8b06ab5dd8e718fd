-- The laws of numbers for settled states, as they are stated.
use Rattle.std.proofs.Common.{◌≡◌, ℕ, true}
use Rattle.rtl_flat.specs.Flats.{Flat}
use Rattle.net_model.specs.Cycle.{Chain}
use Rattle.sign_unknown.specs.sign_cycles.Formed.{IsCleanClocked}
use Rattle.unknown_starts.specs.Starts.{ChoicesAlone, CompletesClean}
use Rattle.unknown_starts.proofs.Starts.{chosen, completed}

pub completes : (d : Flat) (chains : ℕ → Chain) (level : ℕ → ℕ) → CompletesClean d chains level
completes d chains level clean marked marks f s settled r choice =
    completed d chains level clean (λ i. marked i ≡ true) marks f s settled r choice

pub choices_alone : (d : Flat) (chains : ℕ → Chain) (level : ℕ → ℕ) → IsCleanClocked d chains level → ChoicesAlone d chains
choices_alone d chains level clean f s settled n completion = chosen d chains level clean f s settled n completion
