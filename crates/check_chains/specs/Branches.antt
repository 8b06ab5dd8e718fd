-- It serves inner contracts and proofs; no answer of the program is stated by it.
-- The branches of resets, statement by statement.
use Rattle.std.specs.Prelude.{ℕ, ◌≡◌, ◌<◌, ◌==◌, ◌↔◌, Bool, true, false, not, ◌&&◌, ◌||◌, List, [], ◌∷◌, Some, slice_index_or}
use Rattle.std.specs.List.{slice_get}
use Rattle.std.specs.Option.{IsSomeAnd}
use Rattle.std.specs.Ordering.{nat_cmp}
use Rattle.std.specs.BTreeSet.{BTreeSet, contains}
use Rattle.rtl_flat.specs.Process.{Action, Doing}
use Rattle.check_parts.specs.rtl_scan.declared.bits.Row.{Row}
use Rattle.net_model.specs.Cycle as cycle
use Rattle.rtl_rule.specs.Parts.{all_of}
use Rattle.rtl_flat.specs.Flats.{Flat}
use Rattle.check_chains.specs.Chains.{IsRegisterOf, IsResetBranch, resets_to}

-- ---- registers

-- whether a signal is marked; none past the end is
abbrev pub is_marked : List Bool → ℕ → Bool
is_marked marks s = slice_index_or marks s false

-- whether a row is of a signal that isn't marked
abbrev pub has_kept : List Bool → List Row → ℕ → Bool
has_kept marks [] s = false
has_kept marks (row ∷ others) s =
    (not (is_marked marks row.signal.0) && (s == row.signal.0)) || has_kept marks others s

-- the registers of a process
abbrev pub AreRegisters : Flat → Doing → BTreeSet ℕ → Type 0
AreRegisters d does registers =
    (s : ℕ) → contains nat_cmp registers s ≡ true ↔ IsRegisterOf d does s

-- ---- branches

abbrev pub GivesAt : Flat → List Action → ℕ → ℕ → Type 0
GivesAt d statements k s = IsSomeAnd (slice_get statements k) (resets_to d s)

-- the first n statements give registers that are seen, each once
pub record AreGiven (d : Flat) (statements : List Action) (n : ℕ) (registers seen : BTreeSet ℕ) : Type 0 where
  pub each : (k : ℕ) → k < n → (s : ℕ) × (contains nat_cmp registers s ≡ true) × GivesAt d statements k s
  pub from_seen : (s : ℕ) → contains nat_cmp seen s ≡ true → (k : ℕ) × (k < n) × GivesAt d statements k s
  pub to_seen : (s k : ℕ) → k < n → GivesAt d statements k s → contains nat_cmp seen s ≡ true
  pub once : (s j k : ℕ) → j < n → k < n → GivesAt d statements j s → GivesAt d statements k s → j ≡ k

-- some reset has a branch that isn't one
abbrev pub HasBad : Flat → Doing → List cycle.Guard → Type 0
HasBad d does resets =
    (k : ℕ) × (guard : cycle.Guard) × (slice_get resets k ≡ Some guard) × (IsResetBranch d does (all_of guard.branch) → ⊥)
