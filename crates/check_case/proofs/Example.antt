-- The definitions at work on small cases.
use Rattle.std.proofs.Common.{◌≡◌, refl, ℕ, true, false, None, List, [], ◌∷◌, map, length}
use Rattle.rtl_bits.specs.declared.Bit.{Bit}
use Rattle.rtl_bits.specs.declared.Bit.TheVariants.{Zero, One, X}
use Rattle.rtl_flat.specs.declared.act.CaseKind.TheVariants.{Plain}
use Rattle.rtl_flat.specs.Process.{Action, Branches}
use Rattle.text_ground.specs.declared.text.Spot.{Spot}
use Rattle.rtl_flat.specs.declared.signal.Kind.{Kind}
use Rattle.rtl_flat.specs.declared.signal.Kind.TheVariants.{TopInput, Var}
use Rattle.rtl_flat.specs.declared.signal.Signal.{Signal}
use Rattle.rtl_flat.specs.Expression as sized
use Rattle.rtl_flat.specs.Process.{Piece, Watched, Actions, Doing, Task}
use Rattle.rtl_flat.specs.Process as part
use Rattle.rtl_rule.specs.Parts.{At}
use Rattle.rtl_flat.specs.Flats.{Flat}
use Rattle.check_case.specs.Cases.{IsParallelCase, IsUnknownItem, full_case_at, label_in}
use Rattle.rtl_rule.specs.Parts.{number}

abbrev spot_at : ℕ → Spot
spot_at at = record { file = 0; at = at }

abbrev signal_of : ℕ → Kind → ℕ → Signal
signal_of width kind at =
    record { path = []; width = width; signed = false; low = 0; kind = kind; top_output = false; instance = 0; spot = spot_at at }

abbrev read : ℕ → sized.Tree
read i = sized.Sized 1 false (spot_at 0) (sized.Whole i)

abbrev piece : ℕ → ℕ → List Piece
piece i at = record { signal = i; selection = part.Whole; spot = spot_at at } ∷ []

abbrev task_of : Doing → Task
task_of does = record { does = does; instance = 0; spot = spot_at 38 }

abbrev flat_of : List Signal → List Doing → Flat
flat_of signals does = record { signals = signals; tasks = map task_of does }

abbrev literal : List Bit → sized.Tree
literal bits = sized.Sized (length bits) false (spot_at 0) (sized.Literal bits)

abbrev set : ℕ → sized.Tree → Actions
set target value =
    part.Then (part.Set (piece target 0) value false (spot_at 0)) part.Done

-- `s` of two bits, `a`, `b` and `y`
abbrev ports : List Signal
ports =
    signal_of 2 TopInput 17 ∷ signal_of 1 TopInput 20 ∷ signal_of 1 TopInput 23 ∷ signal_of 1 Var 30 ∷ []

abbrev at : {A : Type 0} → A → Action → At A
at it one =
    record { process = 0; task = task_of (part.Comb None (part.Then one part.Done)); it = it }

-- `(* full_case *) case (s) 2'b00: y = a; 2'b01: y = b; endcase`
abbrev half : Action
half =
    part.Case Plain true false (sized.Sized 2 false (spot_at 0) (sized.Whole 0)) (part.Branch (literal (Zero ∷ Zero ∷ []) ∷ []) (set 3 (read 1)) (part.Branch (literal (One ∷ Zero ∷ []) ∷ []) (set 3 (read 2)) part.NoBranch)) part.Without (spot_at 40)

abbrev full : Flat
full = flat_of ports (part.Comb None (part.Then half part.Done) ∷ [])

y_is_found : (full_case_at full (at half half)).signal ≡ number 3
y_is_found = refl

-- `(* parallel_case *) case (1'b1) a: y = ..; b: y = ..; endcase`
abbrev overlapping : Action
overlapping =
    part.Case Plain false true (literal (One ∷ [])) (part.Branch (read 1 ∷ []) (set 3 (read 1)) (part.Branch (read 2 ∷ []) (set 3 (read 2)) part.NoBranch)) part.Without (spot_at 40)

overlapping_found : IsParallelCase (at overlapping overlapping)
overlapping_found = refl

x_label : IsUnknownItem (at (label_in Plain (literal (X ∷ []))) half)
x_label = refl
