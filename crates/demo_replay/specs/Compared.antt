-- Which signals are compared for a finding, and in which trials.
-- Worked examples: crates/tests_rows/stdin.
use Rattle.std.specs.Prelude.{◌≡◌, ◌↔◌, ◌==◌, ◌<◌, ◌⊎◌, nat_lt, ℕ, Bool, true, false, cond, length, Some}
use Rattle.std.specs.List.{slice_get}
use Rattle.rtl_flat.specs.Process.{Task}
use Rattle.rtl_flat.specs.Signs.{Has}
use Rattle.net_model.specs.Solution.{IsLasting}
use Rattle.rtl_rule.specs.declared.finding.Finding.{Finding}
use Rattle.rtl_rule.specs.declared.rule.Rule.{Rule}
use Rattle.rtl_rule.specs.declared.rule.Rule.TheVariants.{NeverWakes}
use Rattle.rtl_flat.specs.Flats.{Flat}
use Rattle.rtl_rule.specs.Parts.{is_clocked}
use Rattle.netlist_eval.specs.check_chains.Chains.{IsRegisterOf}

-- a finding on a list that never wakes its process: nothing but power-up shows it
abbrev pub is_unwoken : Rule → Bool
is_unwoken NeverWakes = true
is_unwoken _ = false

-- the last trial for such a finding, and all others for any other
abbrev pub is_trial_of : Rule → ℕ → Bool
is_trial_of rule trial = cond (is_unwoken rule) (trial == 32) (nat_lt trial 32)

-- a register: a process that waits for edges may write it, and it is no temporary
pub record IsRegister (d : Flat) (s : ℕ) : Type 0 where
  pub process : ℕ
  pub task : Task
  pub there : slice_get d.tasks process ≡ Some task
  pub waits : is_clocked task.does ≡ true
  pub register : IsRegisterOf d task.does s

-- an output of the top
abbrev pub IsOutput : Flat → ℕ → Type 0
IsOutput d s = Has (λ signal. signal.top_output ≡ true) d.signals s

-- the signal of the finding
abbrev pub IsOwn : Finding → ℕ → Type 0
IsOwn finding s = finding.signal ≡ Some (record { 0 = s })

-- what is looked at: the outputs of the top, registers and the finding's signal; or that alone
abbrev pub IsWatched : Bool → Flat → Finding → ℕ → Type 0
IsWatched true d finding s = IsOwn finding s
IsWatched false d finding s =
    IsOutput d s ⊎ (IsRegister d s ⊎ IsOwn finding s)

-- a temporary is never compared
pub record IsCompared (d : Flat) (finding : Finding) (s : ℕ) : Type 0 where
  pub inside : s < length d.signals
  pub watched : IsWatched (is_unwoken finding.rule) d finding s
  pub lasting : IsLasting d s

-- a test tells which signals are
abbrev pub AreCompared : Flat → Finding → (ℕ → Bool) → Type 0
AreCompared d finding test = (s : ℕ) → test s ≡ true ↔ IsCompared d finding s
