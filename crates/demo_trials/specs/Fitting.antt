-- What the settings of a step have from the inputs.
use Rattle.std.specs.Prelude.{◌≡◌, ℕ, Bool, true, false, List, length}
use Rattle.std.specs.List.{All}
use Rattle.rtl_bits.specs.Bits.{has_unknown}
use Rattle.event_model.specs.declared.setting.Setting.{Setting}
use Rattle.demo_trials.specs.declared.input.Input.{Input}

-- each input meets a test of its signal's number and its width
abbrev pub InputsMeet : (ℕ → ℕ → Bool) → List Input → Type 0
InputsMeet test inputs = All (λ input. test input.signal.0 (length input.value) ≡ true) inputs

-- each setting meets it
abbrev pub SettingsMeet : (ℕ → ℕ → Bool) → List Setting → Type 0
SettingsMeet test settings = All (λ setting. test setting.signal.0 (length setting.value) ≡ true) settings

-- no input has a bit that is x or z
abbrev pub AreInputsKnown : List Input → Type 0
AreInputsKnown inputs = All (λ input. has_unknown input.value ≡ false) inputs

-- no setting gives one
abbrev pub AreSettingsKnown : List Setting → Type 0
AreSettingsKnown settings = All (λ setting. has_unknown setting.value ≡ false) settings
