-- The ranges of declarations (IEEE 1364-2001 section 3.3.1).
-- Worked examples: proofs/Examples.antt.
use Rattle.std.specs.Prelude.{ℕ, ◌+◌, ◌==◌, ℤ, pos, ◌-ℤ◌, min, nat_lt, int_le, unsigned_abs, Bool, true, false, ◌&&◌, if◌then◌else◌, List, [], ◌∷◌, ◌++◌, Option, None, Some, Ok}
use Rattle.rtl_const.specs.Constant.{Outcome, constant}
use Rattle.rtl_const.specs.Numbers.{Numbers}
use Rattle.rtl_tree.specs.TreeExpr.{Bounds}
use Rattle.elab_scope.specs.declared.known.Shape.{Shape}
use Rattle.elab_scope.specs.Faults.{Range, Refusal, Width}
use Rattle.elab_scope.specs.Rules.{fault, number_faults}
use Rattle.elab_items.specs.declared.reach.Reach.{Reach}
use Rattle.elab_items.specs.declared.reach.Reach.TheVariants.{Scalar, Bits, Hidden}

-- a range runs from its high end down to its low one, and no bit has a negative number
abbrev pub descends : ℤ → ℤ → Bool
descends msb lsb = int_le (pos 0) lsb && int_le lsb msb

-- whether there are at most so many bits from one end to the other
abbrev pub fits : ℕ → ℤ → ℤ → Bool
fits most msb lsb = nat_lt (unsigned_abs (msb -ℤ lsb)) most

-- the bits between two ends, where they are lawful and at most so many; no constant is above 4294967295
abbrev pub spanned : ℕ → Outcome → Outcome → Reach
spanned most (Ok msb) (Ok lsb) =
    if descends msb lsb && fits most msb lsb
    then Bits (unsigned_abs (msb -ℤ lsb) + 1) (min (unsigned_abs lsb) 4294967295) else Hidden
spanned most _ _ = Hidden

-- what a declaration reaches over, with the numbers that hold for its range
abbrev pub reach_of : ℕ → Numbers → Option Bounds → Reach
reach_of most numbers None = Scalar
reach_of most numbers (Some bounds) =
    spanned most (constant numbers bounds.msb) (constant numbers bounds.lsb)

-- a range of too many bits, and one that doesn't descend, at its bracket
abbrev pub span_faults : ℕ → ℕ → Outcome → Outcome → List Refusal
span_faults most at (Ok msb) (Ok lsb) =
    (if fits most msb lsb then [] else fault at Width ∷ [])
    ++ (if descends msb lsb then [] else fault at Range ∷ [])
span_faults most at _ _ = []

-- both ends of a range have a number
abbrev pub end_faults : ℕ → ℕ → Outcome → Outcome → List Refusal
end_faults most at msb lsb = number_faults msb ++ number_faults lsb ++ span_faults most at msb lsb

abbrev pub range_faults : ℕ → Numbers → Option Bounds → List Refusal
range_faults most numbers None = []
range_faults most numbers (Some bounds) =
    end_faults most bounds.at (constant numbers bounds.msb) (constant numbers bounds.lsb)

-- whether two declarations of one signal have equal ranges: none is equal to none alone. Of a range at fault the
-- numbers aren't known, and it is taken as equal to every other
abbrev pub agree : Reach → Reach → Bool
agree Scalar Scalar = true
agree Scalar (Bits width low) = false
agree Scalar Hidden = false
agree (Bits width low) Scalar = false
agree (Bits width low) (Bits other other_low) = (width == other) && (low == other_low)
agree (Bits width low) Hidden = true
agree Hidden Scalar = false
agree Hidden (Bits width low) = true
agree Hidden Hidden = true

-- the bits of a signal; none where its range is at fault
abbrev pub shape_of : Bool → Reach → Option Shape
shape_of signed Scalar = Some (record { width = 1; signed = signed; low = 0 })
shape_of signed (Bits width low) = Some (record { width = width; signed = signed; low = low })
shape_of signed Hidden = None
