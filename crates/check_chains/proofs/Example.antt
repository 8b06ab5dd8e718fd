-- The definitions at work on small designs.
use Rattle.std.proofs.Common.{◌≡◌, refl, ℕ, Bool, true, false, List, [], ◌∷◌, None, Some, length}
use Rattle.rtl_bits.specs.declared.Bit.{Bit}
use Rattle.rtl_bits.specs.declared.Bit.TheVariants.{Zero, One, X}
use Rattle.rtl_bits.specs.declared.Edge.{Edge}
use Rattle.rtl_bits.specs.declared.Edge.TheVariants.{Pos, Neg}
use Rattle.rtl_flat.specs.declared.expr.Compare.TheVariants as compare
use Rattle.rtl_flat.specs.declared.expr.Fold.TheVariants as fold
use Rattle.text_ground.specs.declared.text.Spot.{Spot}
use Rattle.rtl_flat.specs.declared.signal.Kind.TheVariants.{TopInput}
use Rattle.rtl_flat.specs.Expression as sized
use Rattle.rtl_flat.specs.Flats.{Flat}
use Rattle.rtl_flat.specs.Process.{Piece, Watched, Actions, Doing, Task}
use Rattle.rtl_flat.specs.Process as part
use Rattle.rtl_rule.specs.Parts.{At}
use Rattle.check_chains.specs.Chains.{IsAsyncPair, IsResetPolarity, IsResetShape, test_of, tested}

abbrev spot_at : ℕ → Spot
spot_at at = record { file = 0; at = at }

abbrev read : ℕ → sized.Tree
read i = sized.Sized 1 false (spot_at 0) (sized.Whole i)

abbrev piece : ℕ → ℕ → List Piece
piece i at = record { signal = i; selection = part.Whole; spot = spot_at at } ∷ []

abbrev task_of : Doing → Task
task_of does = record { does = does; instance = 0; spot = spot_at 38 }

abbrev literal : List Bit → sized.Tree
literal bits = sized.Sized (length bits) false (spot_at 0) (sized.Literal bits)

abbrev item : Edge → ℕ → Watched
item edge i = record { signal = i; selection = part.Whole; edge = edge; spot = spot_at 0 }

abbrev set : ℕ → sized.Tree → Bool → Actions
set target value delayed =
    part.Then (part.Set (piece target 61) value delayed (spot_at 60)) part.Done

abbrev at : Doing → At Doing
at does = record { process = 0; task = task_of does; it = does }

-- a design of one signal of one bit, `r`
abbrev of_sign : Bool → Flat
of_sign signed =
    record { signals = record { path = []; width = 1; signed = signed; low = 0; kind = TopInput; top_output = false; instance = 0; spot = spot_at 0 } ∷ []; tasks = [] }

-- one where it has no sign
abbrev plain : Flat
plain = of_sign false

-- The signals are `rst_n`, `set_n`, `clk`, `d` and `q`.

abbrev low : ℕ → sized.Tree
low i = sized.Sized 1 false (spot_at 0) (sized.Folded fold.Negation (read i))

abbrev when : sized.Tree → Actions → Actions → Actions
when test taken other =
    part.Then (part.If test taken (part.With other) (spot_at 0)) part.Done

-- `if (!rst_n) q <= 1'b0; else if (!set_n) q <= 1'b1; else q <= d;`
abbrev two_resets : Doing
two_resets =
    part.Edge' (item Pos 2 ∷ item Neg 0 ∷ item Neg 1 ∷ []) (when (low 0) (set 4 (literal (Zero ∷ [])) true) (when (low 1) (set 4 (literal (One ∷ [])) true) (set 4 (read 3) true)))

two_resets_found : IsAsyncPair plain (at two_resets)
two_resets_found = refl

-- `if (rst_n) .. else ..` at `negedge rst_n`
abbrev turned : Doing
turned =
    part.Edge' (item Pos 2 ∷ item Neg 0 ∷ []) (when (read 0) (set 4 (literal (Zero ∷ [])) true) (set 4 (read 3) true))

turned_found : IsResetPolarity plain (at turned)
turned_found = refl

-- no `if` at all
abbrev shapeless : Doing
shapeless = part.Edge' (item Pos 2 ∷ item Neg 0 ∷ []) (set 4 (read 3) true)

shapeless_found : IsResetShape plain (at shapeless)
shapeless_found = refl

-- ---- tests by `==`: the operands have one width, and are signed where both sides are

abbrev same : Bool → List Bit → sized.Tree
same signed bits =
    sized.Sized 1 false (spot_at 0) (sized.Compared compare.Equal signed (sized.Sized (length bits) signed (spot_at 0) (sized.Whole 0)) (sized.Sized (length bits) signed (spot_at 0) (sized.Literal bits)))

-- `r == 1'b1`, and `r == 2'b01`
one_is_high : tested plain (same false (One ∷ [])) ≡ test_of 0 true
one_is_high = refl

wide_one_is_high : tested plain (same false (One ∷ Zero ∷ [])) ≡ test_of 0 true
wide_one_is_high = refl

-- `r == 2'b00`
zero_is_low : tested plain (same false (Zero ∷ Zero ∷ [])) ≡ test_of 0 false
zero_is_low = refl

-- `r == 2'b11` never holds, and `r == 1'bx` is never true
three_is_none : tested plain (same false (One ∷ One ∷ [])) ≡ None
three_is_none = refl

x_is_none : tested plain (same false (X ∷ [])) ≡ None
x_is_none = refl

-- `r == 1'sb1` of a signed `r` compares with -1, and `r == 1` extends it to all ones
signed_is_none : tested (of_sign true) (same true (One ∷ [])) ≡ None
signed_is_none = refl

wide_signed_is_none : tested (of_sign true) (same true (One ∷ Zero ∷ [])) ≡ None
wide_signed_is_none = refl

-- `r == 1'b1` of a signed `r` is one, and `r == 2'b01` isn't
narrow_is_high : tested (of_sign true) (same false (One ∷ [])) ≡ test_of 0 true
narrow_is_high = refl

wide_is_none : tested (of_sign true) (same false (One ∷ Zero ∷ [])) ≡ None
wide_is_none = refl
