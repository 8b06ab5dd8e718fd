-- It serves inner contracts and proofs; no answer of the program is stated by it.
-- What holds of each state that events lead to, and sets that tell what is active in it.
use Rattle.std.specs.Prelude.{◌≡◌, ℕ, Bool, List, length, None, false, is_some}
use Rattle.rank_set.specs.Ranks.{flag}
use Rattle.event_model.specs.Queue.{State, doing_at, is_input, is_assignment}
use Rattle.rtl_flat.specs.Flats.{Flat}

-- only top inputs have an offered value, and only continuous assignments a pending one
pub record IsLawful (d : Flat) (s : State) : Type 0 where
  pub inputs : (i : ℕ) → is_input d i ≡ false → s.offered i ≡ None
  pub assignments : (p : ℕ) → is_assignment (doing_at d p) ≡ false → s.pending p ≡ None

-- flags for what is offered, what is pending and who is woken
pub record IsFlagged (d : Flat) (s : State) (offered pending woken : List Bool) : Type 0 where
  pub signals : length offered ≡ length d.signals
  pub drivers : length pending ≡ length d.tasks
  pub processes : length woken ≡ length d.tasks
  pub offered_are : (k : ℕ) → is_some (s.offered k) ≡ flag offered k
  pub pending_are : (k : ℕ) → is_some (s.pending k) ≡ flag pending k
  pub woken_are : (k : ℕ) → s.woken k ≡ flag woken k
