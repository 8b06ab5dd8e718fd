-- It serves inner contracts and proofs; no answer of the program is stated by it.
-- Values that a step gives to inputs.
use Rattle.std.specs.Prelude.{◌≡◌, ℕ, true, List, length}
use Rattle.std.specs.List.{All}
use Rattle.rtl_bits.specs.declared.Bit.{Bit}
use Rattle.event_model.specs.declared.setting.Setting.{Setting}
use Rattle.event_model.specs.Queue.{is_input}
use Rattle.rtl_flat.specs.Flats.{Flat, widths}

-- the input and the value of a setting
abbrev pub set_of : Setting → ℕ × List Bit
set_of setting = (setting.signal.0, setting.value)

-- whether each setting gives a top input a value of its width
abbrev pub AreAllowed : Flat → List Setting → Type 0
AreAllowed d settings =
    All (λ setting. (is_input d setting.signal.0 ≡ true) × (length setting.value ≡ widths d setting.signal.0)) settings
