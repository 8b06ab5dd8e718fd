-- It serves inner contracts and proofs; no answer of the program is stated by it.
-- Whether settings fit the signals of a design.
use Rattle.std.specs.Prelude.{◌≡◌, ℕ, true, List, length}
use Rattle.std.specs.List.{All, slice_get}
use Rattle.rtl_bits.specs.declared.Bit.{Bit}
use Rattle.rtl_flat.specs.declared.signal.Signal.{Signal}
use Rattle.rtl_flat.specs.Signs.{width_in}
use Rattle.event_model.specs.declared.setting.Setting.{Setting}
use Rattle.event_model.specs.Queue.{is_input_of}

-- a value of a top input, which has its width
abbrev pub IsFitting : List Signal → ℕ → List Bit → Type 0
IsFitting signals number bits =
    (is_input_of (slice_get signals number) ≡ true) × (length bits ≡ width_in signals number)

abbrev pub AreFitting : List Signal → List Setting → Type 0
AreFitting signals settings = All (λ setting. IsFitting signals setting.signal.0 setting.value) settings
