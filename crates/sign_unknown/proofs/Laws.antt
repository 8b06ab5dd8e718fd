-- The laws of simulation from unknown values, as they are stated.
use Rattle.std.proofs.Common.{◌≡◌, ℕ, true}
use Rattle.rtl_flat.specs.Flats.{Flat}
use Rattle.net_model.specs.Cycle.{Chain}
use Rattle.sign_unknown.specs.Laws.{SoundWhereRest, StepsSoundClean}
use Rattle.sign_unknown.proofs.Sound as sound

pub steps_sound : (d : Flat) (chains : ℕ → Chain) (level : ℕ → ℕ) → StepsSoundClean d chains level
steps_sound d chains level clean marked marks f =
    sound.steps_sound d chains level clean (λ i. marked i ≡ true) marks f

pub sound_where_rest : (d : Flat) (chains : ℕ → Chain) (level : ℕ → ℕ) → SoundWhereRest d chains level
sound_where_rest d chains level clean marked marks f rest =
    sound.sound_by d chains level clean (λ i. marked i ≡ true) marks f rest
