-- The trials by which a finding is shown, numbered 0 to 32: the fill, the order, the number of steps and the begin of
-- each. Trial 32 begins at power-up.
-- Worked examples: proofs/Examples.antt.
use Rattle.std.specs.Prelude.{ℕ, ◌%◌, ◌==◌, ◌||◌, nat_lt, if◌then◌else◌, List, replicate, Option, None, Some}
use Rattle.rtl_bits.specs.declared.Bit.{Bit}
use Rattle.rtl_bits.specs.declared.Bit.TheVariants.{Zero, One}
use Rattle.rtl_bits.specs.Bits.{bits_of}
use Rattle.event_model.specs.declared.policy.Policy.{Policy}
use Rattle.event_model.specs.declared.policy.Policy.TheVariants.{Level, Ascending, Descending}
use Rattle.net_model.specs.declared.fill.Fill.{Fill}
use Rattle.net_model.specs.declared.fill.Fill.TheVariants as fill
use Rattle.demo_trials.specs.Draws.{drawn}

-- what stands for bits that have no number: 0 and 1 in turn
abbrev pub fill_of : ℕ → Fill
fill_of trial = if trial % 2 == 0 then fill.Zero else fill.One

-- the order in which events are taken: the three in turn, and by level at power-up
abbrev pub policy_of : ℕ → Policy
policy_of trial =
    if (trial == 32) || (trial % 3 == 0) then Level
    else if trial % 3 == 1 then Ascending
    else Descending

-- how many steps there are for so many inputs
abbrev pub step_count : ℕ → ℕ → ℕ
step_count trial inputs = if trial == 32 then 1 else if inputs == 0 then 0 else 16

-- what an input, register or latch begins with, by its path and width: the same bit in every place in trials 0 to 7, and
-- in trials 8 to 31 what step 0 draws for the path, modulo 2 to the width. At power-up no value is given
abbrev pub start_of : ℕ → List ℕ → ℕ → Option (List Bit)
start_of trial path width =
    if nat_lt trial 8 then Some (replicate width (if trial % 2 == 0 then Zero else One))
    else if nat_lt trial 32 then Some (bits_of width (drawn trial 0 path))
    else None
