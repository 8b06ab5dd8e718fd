-- Two registers that exchange their values at a clock's edge.
use Rattle.std.proofs.Common.{◌≡◌, ℕ, zero, suc, Bool, true, false, List, [], ◌∷◌, None, Some, refl, map}
use Rattle.rtl_bits.specs.declared.Bit.TheVariants.{Zero, One, X}
use Rattle.rtl_bits.specs.declared.Edge.TheVariants as edge
use Rattle.text_ground.specs.declared.text.Spot.{Spot}
use Rattle.rtl_flat.specs.declared.signal.Signal.{Signal}
use Rattle.rtl_flat.specs.declared.signal.Kind.{Kind}
use Rattle.rtl_flat.specs.declared.signal.Kind.TheVariants.{TopInput, Var}
use Rattle.rtl_flat.specs.Expression.{Tree, Sized}
use Rattle.rtl_flat.specs.Expression as tree
use Rattle.rtl_flat.specs.Paths.{Step, reads_bit, may_write_late}
use Rattle.rtl_flat.specs.Process.{Whole, Action, Set, If, Actions, Done, Then, Without, Doing, Edge'}
use Rattle.event_model.specs.declared.policy.Policy.TheVariants.{Descending}
use Rattle.event_model.specs.Writes.{Values}
use Rattle.event_model.specs.Queue.{State, Event, Input, Run, Delayed, Activate, run, offer, settled_at, power_up}
use Rattle.rtl_flat.specs.Flats.{Flat}
use Rattle.event_model.specs.Traces.{body_trace, makes, makes_now, makes_late}
use Rattle.event_model.specs.Bodies.{made}
use Rattle.event_model.specs.Order.{active}
use Rattle.event_model.specs.Policies.{chosen, budget, cost}

spot : Spot
spot = record { file = 0; at = 0 }

abbrev signal : Kind → Signal
signal kind = record { path = []; width = 1; signed = false; low = 0; kind = kind; top_output = false; instance = 0; spot = spot }

abbrev bit_of : ℕ → Tree
bit_of i = Sized 1 false spot (tree.Whole i)

abbrev set : ℕ → ℕ → Action
set to «from» = Set (record { signal = to; selection = Whole; spot = spot } ∷ []) (bit_of «from») true spot

-- always @(posedge clk) begin a <= b; b <= a; end
abbrev exchange : Doing
exchange =
    Edge' (record { signal = 0; selection = Whole; edge = edge.Pos; spot = spot } ∷ []) (Then (set 1 2) (Then (set 2 1) Done))

abbrev design : Flat
design =
    record {
      signals = signal TopInput ∷ signal Var ∷ signal Var ∷ [];
      tasks = record { does = exchange; instance = 0; spot = spot } ∷ [];
    }

-- a is 0 and b is 1
abbrev before : Values
before zero = Zero ∷ []
before (suc zero) = Zero ∷ []
before (suc (suc i)) = One ∷ []

abbrev risen : State
risen = offer (settled_at design before) ((0, One ∷ []) ∷ [])

-- the edge wakes the process, which asks for two updates; they become active when nothing else is left
abbrev events : List Event
events = Input 0 ∷ Run 0 ∷ Activate ∷ Delayed ∷ Delayed ∷ []

a_after : (run design risen events).value 1 ≡ One ∷ []
a_after = refl

b_after : (run design risen events).value 2 ≡ Zero ∷ []
b_after = refl

-- after the first update alone
a_between : (run design risen (Input 0 ∷ Run 0 ∷ Activate ∷ Delayed ∷ [])).value 1 ≡ One ∷ []
a_between = refl

b_between : (run design risen (Input 0 ∷ Run 0 ∷ Activate ∷ Delayed ∷ [])).value 2 ≡ One ∷ []
b_between = refl

first_choice : chosen Descending (λ p. None) design risen ≡ Some (Input 0)
first_choice = refl

second_choice : active design (run design risen (Input 0 ∷ [])) ≡ Run 0 ∷ []
second_choice = refl

-- four for the process, two nonblocking assignments, one input
budget_of_it : budget design ≡ 7
budget_of_it = refl

-- at power-up nothing is woken, and variables have x
nothing_woken : active design (power_up design) ≡ []
nothing_woken = refl

unknown : (power_up design).value 1 ≡ X ∷ []
unknown = refl

-- a clock that comes from x rises too
from_unknown : active design (run design (offer (power_up design) ((0, One ∷ []) ∷ [])) (Input 0 ∷ [])) ≡ Run 0 ∷ []
from_unknown = refl

-- having run, the process waits; the updates are still to be activated
then_waits : active design (run design risen (Input 0 ∷ Run 0 ∷ [])) ≡ []
then_waits = refl

run_cost_of_it : cost design (Run 0) ≡ 3
run_cost_of_it = refl

update_cost : cost design Delayed ≡ 0
update_cost = refl

-- ---- what one run goes through

abbrev widths_of_it : ℕ → ℕ
widths_of_it i = 1

-- if (b) a <= a; with the values above, where b is 1, and with a and b at 0
abbrev held : Actions
held = Then (If (bit_of 2) (Then (set 1 1) Done) Without spot) Done

abbrev all_zero : Values
all_zero i = Zero ∷ []

abbrev taken : List Step
taken = body_trace widths_of_it before held

abbrev skipped : List Step
skipped = body_trace widths_of_it all_zero held

-- it reads the condition, then what is assigned, then it writes; where the condition is 0 it reads that alone
reads_condition : map (reads_bit 2 0) taken ≡ true ∷ false ∷ false ∷ []
reads_condition = refl

reads_value : map (reads_bit 1 0) taken ≡ false ∷ true ∷ false ∷ []
reads_value = refl

writes_late : map (may_write_late 1 0) taken ≡ false ∷ false ∷ true ∷ []
writes_late = refl

skips : map (reads_bit 2 0) skipped ≡ true ∷ []
skips = refl

-- what a <= b makes is a write of bit 0 of a, later and not at once, and of no other bit
makes_it : map (makes 1 0) (made widths_of_it before (set 1 2)) ≡ true ∷ []
makes_it = refl

makes_it_late : map (makes_late 1 0) (made widths_of_it before (set 1 2)) ≡ true ∷ []
makes_it_late = refl

not_at_once : map (makes_now 1 0) (made widths_of_it before (set 1 2)) ≡ false ∷ []
not_at_once = refl

not_the_next_bit : map (makes 1 1) (made widths_of_it before (set 1 2)) ≡ false ∷ []
not_the_next_bit = refl
