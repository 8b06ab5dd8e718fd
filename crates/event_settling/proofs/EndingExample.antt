-- `always @(posedge clk) q <= a; assign y = q;` of one bit: its runs have 1,485 events at most.
use Rattle.std.proofs.Common.{◌≡◌, ℕ, List, refl}
use Rattle.rtl_bits.specs.declared.Bit.{Bit}
use Rattle.event_model.specs.Queue.{offer, power_up}
use Rattle.net_model.specs.Control.{InClockCone}
use Rattle.event_settling.specs.Settling.{Fits}
use Rattle.event_settling.proofs.Example.{design, lawful, level, settling}
use Rattle.event_settling.specs.Ending.{AllEnd, PowerUp, bound, first_wave, later_wave}
use Rattle.event_settling.proofs.Ends.{ends, steps_start}

-- through three levels, with two events of each of two processes: 2 + 2 * (2 + 2 * (2 + 2 * 2))
later : later_wave design ≡ 30
later = refl

-- the register may also make an update, with 30 events behind it: 33 + 2 * (33 + 2 * (33 + 2 * 33))
first : first_wave design ≡ 495
first = refl

-- for each of two inputs, and for what is woken at power-up
whole : bound design ≡ 1485
whole = refl

from_power_up : (step : List (ℕ × List Bit)) → Fits design step → AllEnd design (offer (power_up design) step)
from_power_up step fits =
    ends design lawful level (InClockCone design) settling (offer (power_up design) step) (steps_start design lawful (power_up design) step PowerUp fits)
