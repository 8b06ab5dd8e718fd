-- The definitions at work on small designs.
use Rattle.std.proofs.Common.{◌≡◌, refl, ℕ, Bool, true, false, List, [], ◌∷◌, map, length}
use Rattle.rtl_bits.specs.declared.Bit.{Bit}
use Rattle.rtl_bits.specs.declared.Bit.TheVariants.{Z}
use Rattle.rtl_bits.specs.declared.Edge.{Edge}
use Rattle.rtl_bits.specs.declared.Edge.TheVariants.{Pos}
use Rattle.text_ground.specs.declared.text.Spot.{Spot}
use Rattle.rtl_flat.specs.declared.signal.Kind.{Kind}
use Rattle.rtl_flat.specs.declared.signal.Kind.TheVariants.{TopInput, Net, Var}
use Rattle.rtl_flat.specs.declared.signal.Signal.{Signal}
use Rattle.rtl_flat.specs.Expression as sized
use Rattle.rtl_flat.specs.Process.{Piece, Watched, Actions, Doing, Task}
use Rattle.rtl_flat.specs.Process as part
use Rattle.rtl_rule.specs.Parts.{At, has_some}
use Rattle.rtl_flat.specs.Flats.{Flat, widths}
use Rattle.check_assign.specs.Assigned.{IsSeveralDrivers, IsUndriven, IsTristate, first_target, now}

abbrev spot_at : ℕ → Spot
spot_at at = record { file = 0; at = at }

abbrev signal_of : ℕ → Kind → ℕ → Signal
signal_of width kind at =
    record { path = []; width = width; signed = false; low = 0; kind = kind; top_output = false; instance = 0; spot = spot_at at }

abbrev read : ℕ → sized.Tree
read i = sized.Sized 1 false (spot_at 0) (sized.Whole i)

abbrev piece : ℕ → ℕ → List Piece
piece i at = record { signal = i; selection = part.Whole; spot = spot_at at } ∷ []

abbrev task_of : Doing → Task
task_of does = record { does = does; instance = 0; spot = spot_at 38 }

abbrev parts : List Signal → List Doing → Flat
parts signals does =
    record { signals = signals; tasks = map task_of does }

abbrev literal : List Bit → sized.Tree
literal bits = sized.Sized (length bits) false (spot_at 0) (sized.Literal bits)

abbrev item : Edge → ℕ → Watched
item edge i = record { signal = i; selection = part.Whole; edge = edge; spot = spot_at 0 }

abbrev set : ℕ → sized.Tree → Bool → Actions
set target value delayed =
    part.Then (part.Set (piece target 61) value delayed (spot_at 60)) part.Done

abbrev at : Doing → At Doing
at does = record { process = 0; task = task_of does; it = does }

-- `rst_n`, `set_n`, `clk`, `d` and `q`
abbrev ports : List Signal
ports =
    signal_of 1 TopInput 17 ∷ signal_of 1 TopInput 24 ∷ signal_of 1 TopInput 31 ∷ signal_of 1 TopInput 36 ∷ signal_of 1 Var 50 ∷ []

-- `always @(posedge clk) q = d;`: the place is that of `q`
abbrev blocking : Doing
blocking = part.Edge' (item Pos 2 ∷ []) (set 4 (read 3) false)

abbrev stored : Flat
stored = parts ports (blocking ∷ [])

abbrev at_q : At ℕ
at_q = record { process = 0; task = task_of blocking; it = 4 }

q_is_blocking : has_some (widths stored) (now stored blocking) 4 ≡ true
q_is_blocking = refl

q_place : first_target stored false at_q ≡ spot_at 61
q_place = refl

-- `assign y = a; assign y = b;`
abbrev net : List Signal
net = signal_of 1 TopInput 17 ∷ signal_of 1 TopInput 20 ∷ signal_of 1 Net 30 ∷ []

abbrev drive : ℕ → Doing
drive i = part.Assign (piece 2 0) (read i)

abbrev second : At ℕ
second = record { process = 1; task = task_of (drive 1); it = 2 }

two_drivers : IsSeveralDrivers (parts net (drive 0 ∷ drive 1 ∷ [])) second
two_drivers = refl

no_driver : IsUndriven (parts net []) (2, signal_of 1 Net 30)
no_driver = refl

tristate : IsTristate (at (part.Assign (piece 2 0) (literal (Z ∷ []))))
tristate = refl
