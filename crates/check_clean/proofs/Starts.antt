-- Steps that set inputs to known values of their widths, and states from which they start.
use Rattle.std.proofs.Common.{◌≤◌, ℕ, List, [], ◌∷◌, map, length, arith}
use Rattle.std.specs.List.{All}
use Rattle.std.proofs.lemmas.List.Elements.{All-cons, All-head, All-nil, All-tail}
use Rattle.rtl_bits.specs.declared.Bit.{Bit}
use Rattle.net_model.specs.Cycle.{Data, Setting, Step, Turn, settings}
use Rattle.net_model.specs.Lawful.{IsLawfulStep, IsSetting, SetsData}
use Rattle.rtl_flat.specs.Flats.{Flat, widths}
use Rattle.event_model.specs.Writes.{Values}
use Rattle.check_laws.specs.event_settling.Settling.{Fits}
use Rattle.check_laws.specs.event_settling.Ending.{Held}
use Rattle.check_clean.specs.Ending.{SettledAreReached}

pub settled_reached : (d : Flat) → SettledAreReached d
settled_reached d chains fill s n settled =
    Held s (record { rest = settled.rest; wide = settled.wide; drivers = settled.drivers })

module _ (d : Flat) where
  abbrev IsOffer : (ℕ × List Bit) → Type 0
  IsOffer one = length one.1 ≤ widths d one.0

  pub fits : (all : List Setting) → All (IsSetting d) all → Fits d (map (λ (setting : Setting). (setting.input, setting.number)) all)
  fits [] set = All-nil IsOffer
  fits (setting ∷ all) set =
      let wide = (All-head (IsSetting d) setting all set).wide in
      All-cons IsOffer (setting.input, setting.number) (map (λ (one : Setting). (one.input, one.number)) all) (omega (arith, wide))
      (fits all (All-tail (IsSetting d) setting all set))

  -- what lawful steps set
  data_set : (all : List Setting) → All (SetsData d) all → All (IsSetting d) all
  data_set [] set = All-nil (IsSetting d)
  data_set (setting ∷ all) set =
      All-cons (IsSetting d) setting all (All-head (SetsData d) setting all set).can_be (data_set all (All-tail (SetsData d) setting all set))

  pub step_set : (given : Values) (step : Step) → IsLawfulStep d given step → All (IsSetting d) (settings step)
  step_set given (Data all) set = data_set all set
  step_set given (Turn setting) set = All-cons (IsSetting d) setting [] set.can_be (All-nil (IsSetting d))
