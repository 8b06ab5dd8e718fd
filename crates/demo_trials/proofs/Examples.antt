-- Trials on small cases.
use Rattle.std.specs.Prelude.{ℕ, true, false, List, [], ◌∷◌, codes, Some, None}
use Rattle.std.proofs.Common.{◌≡◌, ◌%◌, refl, arith}
use Rattle.rtl_bits.specs.declared.Bit.{Bit}
use Rattle.rtl_bits.specs.declared.Bit.TheVariants.{Zero, One, X}
use Rattle.event_model.specs.declared.policy.Policy.TheVariants.{Level, Ascending, Descending}
use Rattle.event_model.specs.declared.setting.Setting.{Setting}
use Rattle.net_model.specs.declared.fill.Fill.TheVariants as fill
use Rattle.demo_trials.specs.Demos.{demo_text, is_path}
use Rattle.demo_trials.specs.Draws.{draw_text, leading_number}
use Rattle.demo_trials.specs.Steps.{Input, is_control_step, step_of}
use Rattle.demo_trials.specs.Trials.{fill_of, policy_of, start_of, step_count}
use Rattle.std.specs.Fmt.{digits}
use lib.Count.{count_trailing_zeros}

-- ---- what trials are run with

fills : fill_of 0 ∷ fill_of 7 ∷ fill_of 31 ∷ fill_of 32 ∷ [] ≡ fill.Zero ∷ fill.One ∷ fill.One ∷ fill.Zero ∷ []
fills = refl

orders : policy_of 0 ∷ policy_of 1 ∷ policy_of 2 ∷ policy_of 3 ∷ policy_of 31 ∷ []
    ≡ Level ∷ Ascending ∷ Descending ∷ Level ∷ Ascending ∷ []
orders = refl

-- 32 modulo 3 is 2, but power-up is taken by level
power_up_order : policy_of 32 ≡ Level
power_up_order = refl

counts : step_count 0 3 ∷ step_count 31 0 ∷ step_count 32 0 ∷ step_count 32 3 ∷ [] ≡ 16 ∷ 0 ∷ 1 ∷ 1 ∷ []
counts = refl

even_start : start_of 6 (codes "top.q") 2 ≡ Some (Zero ∷ Zero ∷ [])
even_start = refl

odd_start : start_of 7 (codes "top.q") 2 ≡ Some (One ∷ One ∷ [])
odd_start = refl

power_up_start : start_of 32 (codes "top.q") 2 ≡ None
power_up_start = refl

-- ---- draws

text : draw_text 31 16 (codes "top.q") ≡ codes "31/16/top.q"
unfolding digits
text = refl

-- 16 bytes count, and the first is the most significant
leading : leading_number (1 ∷ 0 ∷ 0 ∷ 0 ∷ 0 ∷ 0 ∷ 0 ∷ 0 ∷ 0 ∷ 0 ∷ 0 ∷ 0 ∷ 0 ∷ 0 ∷ 2 ∷ 3 ∷ 4 ∷ 5 ∷ [])
    ≡ 1329227995784915872903807060280345091
unfolding leading_number
leading = refl

-- ---- steps

-- the inputs `s[1:0]`, `a` and `b`, with these values
abbrev data_input : ℕ → List ℕ → List Bit → Input
data_input number path value =
    record { signal = record { 0 = number }; path = path; is_control = false; value = value }

abbrev three : List Bit → Bit → Bit → List Input
three s a b =
    data_input 0 (codes "top.s") s
    ∷ data_input 1 (codes "top.a") (a ∷ [])
    ∷ data_input 2 (codes "top.b") (b ∷ [])
    ∷ []

abbrev setting : ℕ → List Bit → Setting
setting number value = record { signal = record { 0 = number }; value = value }

-- trial 0, steps 1 to 5: s becomes 11, a 1, s 00, b 1, and s 11
first : step_of 0 1 (three (Zero ∷ Zero ∷ []) Zero Zero) ≡ setting 0 (One ∷ One ∷ []) ∷ []
unfolding count_trailing_zeros
first = refl

second : step_of 0 2 (three (One ∷ One ∷ []) Zero Zero) ≡ setting 1 (One ∷ []) ∷ []
unfolding count_trailing_zeros
second = refl

third : step_of 0 3 (three (One ∷ One ∷ []) One Zero) ≡ setting 0 (Zero ∷ Zero ∷ []) ∷ []
unfolding count_trailing_zeros
third = refl

fourth : step_of 0 4 (three (Zero ∷ Zero ∷ []) One Zero) ≡ setting 2 (One ∷ []) ∷ []
unfolding count_trailing_zeros
fourth = refl

fifth : step_of 0 5 (three (Zero ∷ Zero ∷ []) One One) ≡ setting 0 (One ∷ One ∷ []) ∷ []
unfolding count_trailing_zeros
fifth = refl

-- trial 4 is two inputs ahead, in turn
ahead : step_of 4 2 (three (Zero ∷ Zero ∷ []) Zero Zero) ≡ setting 0 (One ∷ One ∷ []) ∷ []
unfolding count_trailing_zeros
ahead = refl

-- the one step of trial 32 sets all inputs to 0
zeros : step_of 32 1 (three (X ∷ X ∷ []) X X)
    ≡ setting 0 (Zero ∷ Zero ∷ []) ∷ setting 1 (Zero ∷ []) ∷ setting 2 (Zero ∷ []) ∷ []
zeros = refl

-- no inputs, no settings
none : step_of 0 1 [] ≡ []
unfolding count_trailing_zeros
none = refl

abbrev clock : Input
clock = record { signal = record { 0 = 3 }; path = codes "top.clk"; is_control = true; value = Zero ∷ [] }

-- with a clock each second step is one of control, and with nothing else all are; without clocks and resets none is
every_second : is_control_step 1 (clock ∷ three [] X X) ∷ is_control_step 2 (clock ∷ three [] X X) ∷ [] ≡ false ∷ true ∷ []
every_second = refl

every : is_control_step 1 (clock ∷ []) ≡ true
every = refl

never : is_control_step 2 (three [] X X) ≡ false
never = refl

-- with one clock the draw makes no difference
any_mod_one : (n : ℕ) → n % 1 ≡ 0
any_mod_one n = omega arith

only_clock : step_of 8 2 (clock ∷ three [] X X) ≡ setting 3 (One ∷ []) ∷ []
only_clock = rw any_mod_one refl

-- ---- demonstrations

demo : demo_text 8 16 (codes "top.q") ≡ codes "trial 8 step 16 signal top.q\n"
unfolding digits
demo = refl

path : is_path (codes "top.q") ∷ is_path [] ∷ is_path (codes "q\n") ∷ [] ≡ true ∷ false ∷ false ∷ []
path = refl
