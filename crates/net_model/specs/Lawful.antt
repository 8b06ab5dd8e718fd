-- Which steps the world around a design may take: values of inputs are known, and no clock, reset or gate changes beside
-- data or another of them.
-- Worked examples: crates/sign_cycles/proofs/Register.antt, crates/sign_off/proofs/Example.antt.
use Rattle.std.specs.Prelude.{◌≡◌, ◌≢◌, false, List, [], ◌∷◌, length}
use Rattle.std.specs.List.{All}
use Rattle.rtl_bits.specs.Bits.{has_unknown}
use Rattle.rtl_flat.specs.Flats.{Flat, widths}
use Rattle.event_model.specs.Writes.{Values}
use Rattle.net_model.specs.Gates.{IsControl, IsDataInput}
use Rattle.net_model.specs.Cycle.{Setting, Step, Data, Turn, given_after, settings}

-- a known value of the signal's width
pub record IsSetting (d : Flat) (setting : Setting) : Type 0 where
  pub wide : length setting.number ≡ widths d setting.input
  pub known : has_unknown setting.number ≡ false

-- a data input is set
pub record SetsData (d : Flat) (setting : Setting) : Type 0 where
  pub data_input : IsDataInput d setting.input
  pub can_be : IsSetting d setting

-- a control input is set to the other value, where `given` has what inputs are
pub record TurnsControl (d : Flat) (given : Values) (setting : Setting) : Type 0 where
  pub control : IsControl d setting.input
  pub can_be : IsSetting d setting
  pub other : setting.number ≢ given setting.input

-- a lawful step
abbrev pub IsLawfulStep : Flat → Values → Step → Type 0
IsLawfulStep d given (Data all) = All (SetsData d) all
IsLawfulStep d given (Turn setting) = TurnsControl d given setting

-- steps that are lawful one after another
abbrev pub AreLawfulSteps : Flat → Values → List Step → Type 0
AreLawfulSteps d given [] = Unit {0}
AreLawfulSteps d given (step ∷ others) =
    IsLawfulStep d given step × AreLawfulSteps d (given_after given (settings step)) others
