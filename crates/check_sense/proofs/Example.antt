-- The definitions at work on small designs.
use Rattle.std.proofs.Common.{◌≡◌, refl, ℕ, true, false, Some, None, List, [], ◌∷◌}
use Rattle.rtl_bits.specs.declared.Edge.TheVariants.{No}
use Rattle.text_ground.specs.declared.text.Spot.{Spot}
use Rattle.rtl_flat.specs.declared.expr.Join.TheVariants as join
use Rattle.rtl_flat.specs.declared.signal.Kind.{Kind}
use Rattle.rtl_flat.specs.declared.signal.Kind.TheVariants.{TopInput, Var}
use Rattle.rtl_flat.specs.declared.signal.Signal.{Signal}
use Rattle.rtl_flat.specs.Expression as sized
use Rattle.rtl_flat.specs.Process.{Watched, Actions, Doing, Task}
use Rattle.rtl_flat.specs.Process as part
use Rattle.rtl_rule.specs.Parts.{At, number}
use Rattle.rtl_flat.specs.Flats.{Flat}
use Rattle.check_sense.specs.Sense.{misses, never_wakes, never_wakes_at}

abbrev spot_at : ℕ → Spot
spot_at at = record { file = 0; at = at }

abbrev bit_of : Kind → ℕ → Signal
bit_of kind at =
    record { path = []; width = 1; signed = false; low = 0; kind = kind; top_output = false; instance = 0; spot = spot_at at }

abbrev read : ℕ → sized.Tree
read i = sized.Sized 1 false (spot_at 0) (sized.Whole i)

abbrev set : ℕ → sized.Tree → Actions
set target value =
    part.Then (part.Set (record { signal = target; selection = part.Whole; spot = spot_at 0 } ∷ []) value false (spot_at 0)) part.Done

abbrev item : ℕ → Watched
item i = record { signal = i; selection = part.Whole; edge = No; spot = spot_at 0 }

abbrev task_of : Doing → Task
task_of does = record { does = does; instance = 0; spot = spot_at 38 }

abbrev ports : List Signal
ports = bit_of TopInput 17 ∷ bit_of TopInput 20 ∷ bit_of Var 34 ∷ []

-- `module top(input a, b, output reg y); always @(a) y = a & b; endmodule`
abbrev gate : Doing
gate =
    part.Comb (Some (item 0 ∷ [])) (set 2 (sized.Sized 1 false (spot_at 0) (sized.Joined join.And false (read 0) (read 1))))

abbrev listed_a : Flat
listed_a =
    record { signals = ports; tasks = task_of gate ∷ [] }

b_is_missing : misses listed_a gate 1 ≡ true
b_is_missing = refl

a_is_listed : misses listed_a gate 0 ≡ false
a_is_listed = refl

y_is_not_read : misses listed_a gate 2 ≡ false
y_is_not_read = refl

a_wakes : never_wakes listed_a 0 gate ≡ false
a_wakes = refl

-- `always @* y = 1'b0;`
abbrev constant : Doing
constant = part.Comb None (set 2 (sized.Sized 1 false (spot_at 0) (sized.Literal [])))

abbrev nothing_listed : Flat
nothing_listed =
    record { signals = ports; tasks = task_of constant ∷ [] }

nothing_wakes : never_wakes nothing_listed 0 constant ≡ true
nothing_wakes = refl

abbrev site : At Doing
site = record { process = 0; task = task_of constant; it = constant }

at_y : (never_wakes_at nothing_listed site).signal ≡ number 2
at_y = refl
