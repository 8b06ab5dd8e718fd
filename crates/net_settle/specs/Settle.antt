-- Steps that set data inputs.
use Rattle.std.specs.Prelude.{◌≡◌, ℕ, false, length, IsTrue}
use Rattle.rtl_bits.specs.Bits.{has_unknown}
use Rattle.event_model.specs.declared.setting.Setting.{Setting}
use Rattle.event_model.specs.Queue.{is_input}
use Rattle.rtl_flat.specs.Flats.{Flat, widths}
use Rattle.event_model.specs.Writes.{Values}
use Rattle.net_model.specs.declared.fill.Fill.{Fill}
use Rattle.net_model.specs.Cycle as cycle
use Rattle.net_model.specs.Cycle.{Chain, IsCycle, Step}
use Rattle.net_model.specs.Solution.{IsSolution}

-- the plain form of a setting
abbrev pub setting_view : Setting → cycle.Setting
setting_view setting = record { input = setting.signal.0; number = setting.value }

-- a top input is set to a known value of its width
pub record SetsInput (d : Flat) (setting : cycle.Setting) : Type 0 where
  pub input : IsTrue (is_input d setting.input)
  pub wide : length setting.number ≡ widths d setting.input
  pub known : has_unknown setting.number ≡ false

-- numbers that solve the equations for the inputs and the registers that are among them
abbrev pub IsSolved : Flat → Fill → Values → Type 0
IsSolved d f n = (held : Values) × IsSolution d f held n n

-- the numbers after a step, whatever clocks and resets are: a data step leaves registers
abbrev pub MakesCycle : Flat → Fill → Values → Step → Values → Type 0
MakesCycle d f old step new = (chains : ℕ → Chain) → IsCycle d chains f old step new
