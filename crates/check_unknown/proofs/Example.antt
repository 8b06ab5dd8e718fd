-- The definitions at work on small designs.
use Rattle.std.proofs.Common.{◌≡◌, refl, ℕ, false, List, [], ◌∷◌, map, length}
use Rattle.std.specs.Prelude.{pos}
use Rattle.rtl_bits.specs.declared.Bit.{Bit}
use Rattle.rtl_bits.specs.declared.Bit.TheVariants.{Zero, One, X}
use Rattle.rtl_flat.specs.declared.expr.Compare.TheVariants as compare
use Rattle.rtl_flat.specs.declared.expr.Join.TheVariants as join
use Rattle.text_ground.specs.declared.text.Spot.{Spot}
use Rattle.rtl_flat.specs.declared.signal.Kind.{Kind}
use Rattle.rtl_flat.specs.declared.signal.Kind.TheVariants.{TopInput, Net}
use Rattle.rtl_flat.specs.declared.signal.Signal.{Signal}
use Rattle.rtl_flat.specs.Expression as sized
use Rattle.rtl_flat.specs.Process.{Piece, Watched, Actions, Doing, Task}
use Rattle.rtl_flat.specs.Process as part
use Rattle.rtl_rule.specs.Parts.{At}
use Rattle.rtl_flat.specs.Flats.{Flat}
use Rattle.check_unknown.specs.Unknowns.{IsUnknownLiteral, IsDivideVariable, IsCaseEquality, Computed, Pick, divides_by_other, picks}

abbrev spot_at : ℕ → Spot
spot_at at = record { file = 0; at = at }

abbrev signal_of : ℕ → Kind → ℕ → Signal
signal_of width kind at =
    record { path = []; width = width; signed = false; low = 0; kind = kind; top_output = false; instance = 0; spot = spot_at at }

abbrev read : ℕ → sized.Tree
read i = sized.Sized 1 false (spot_at 0) (sized.Whole i)

abbrev piece : ℕ → ℕ → List Piece
piece i at = record { signal = i; selection = part.Whole; spot = spot_at at } ∷ []

abbrev task_of : Doing → Task
task_of does = record { does = does; instance = 0; spot = spot_at 38 }

abbrev parts : List Signal → List Doing → Flat
parts signals does =
    record { signals = signals; tasks = map task_of does }

abbrev literal : List Bit → sized.Tree
literal bits = sized.Sized (length bits) false (spot_at 0) (sized.Literal bits)

abbrev at : {A : Type 0} → A → Doing → At A
at it does = record { process = 0; task = task_of does; it = it }

-- `i` of three bits, `a` of six, `w` of eight and `y`
abbrev ports : List Signal
ports =
    signal_of 3 TopInput 17 ∷ signal_of 6 TopInput 20 ∷ signal_of 8 TopInput 23 ∷ signal_of 1 Net 30 ∷ []

-- `assign y = a[i];`
abbrev picked : ℕ → Doing
picked s =
    part.Assign (piece 3 0) (sized.Sized 1 false (spot_at 50) (sized.BitBy s 0 false (sized.Sized 3 false (spot_at 52) (sized.Whole 0))))

abbrev pick_of : ℕ → Pick
pick_of s =
    record { signal = s; low = 0; index = Computed (sized.Sized 3 false (spot_at 52) (sized.Whole 0)); spot = spot_at 50 }

one_pick : picks (picked 1) ≡ pick_of 1 ∷ []
one_pick = refl

x_literal : IsUnknownLiteral (at (part.Assign (piece 3 0) (literal (X ∷ []))) (picked 1))
x_literal = refl

abbrev stored : Flat
stored = parts ports (picked 1 ∷ [])

-- `y / w` and `y / 8'd6`
by_signal : IsDivideVariable stored (at (sized.Sized 1 false (spot_at 0) (sized.Joined join.Divide false (read 3) (read 3))) (picked 1))
by_signal = refl

by_six : IsDivideVariable stored (at (sized.Sized 4 false (spot_at 0) (sized.Joined join.Remainder false (literal (Zero ∷ One ∷ One ∷ Zero ∷ [])) (literal (Zero ∷ One ∷ One ∷ Zero ∷ [])))) (picked 1))
by_six = refl

-- `y / (w[9] === 1'bx)`: the divisor reads no bit, and is 1
by_no_bit : divides_by_other stored (sized.Sized 1 false (spot_at 0) (sized.Joined join.Divide false (read 3) (sized.Sized 1 false (spot_at 0) (sized.Compared compare.CaseEqual false (sized.Sized 1 false (spot_at 0) (sized.BitAt 2 0 (pos 9))) (literal (X ∷ [])))))) ≡ false
by_no_bit = refl

equality : IsCaseEquality (at (sized.Sized 1 false (spot_at 0) (sized.Compared compare.CaseEqual false (read 3) (read 3))) (picked 1))
equality = refl
