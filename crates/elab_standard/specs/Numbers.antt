-- Constant expressions that are worth another number by the standard than by the desk (IEEE 1364-2001 section 4.1).
-- Worked examples: proofs/Examples.antt.
use Rattle.std.specs.Prelude.{ℕ, ◌+◌, ℤ, Bool, true, false, not, ◌||◌, List, [], ◌∷◌, ◌++◌, Option, None, Some, Ok, Err}
use Rattle.std.specs.Ordering.{int_eq}
use Rattle.rtl_bits.specs.declared.Bit.{Bit}
use Rattle.rtl_bits.specs.Bit.{known_bit}
use Rattle.rtl_bits.specs.Bits.{all_with, bits_of, extended, same_bit, truth_bit}
use Rattle.rtl_const.specs.Constant.{Outcome, constant, is_true}
use Rattle.rtl_tree.specs.TreeExpr.{Formula}
use Rattle.rtl_flat.specs.declared.note.Note.{Note}
use Rattle.rtl_flat.specs.declared.note.Reading.TheVariants.{ConstantValue, LoopSign}
use Rattle.elab_walk.specs.elab_scope.Names.{numbers_in}
use Rattle.elab_walk.specs.elab_scope.Own.{sign}
use Rattle.elab_walk.specs.elab_scope.Trees.{pattern}
use Rattle.elab_walk.specs.elab_scope.Widths.{bits, fitted}
use Rattle.elab_standard.specs.declared.uses.Home.{Home}
use Rattle.elab_standard.specs.Notes.{note_if, root_place}
use Rattle.elab_standard.specs.Scopes.{Scopes, restated}
use Rattle.elab_standard.specs.Worth.{own_worth, taken_worth, whole_number}

-- the desk's number
abbrev pub desk_number : Scopes → Formula → Outcome
desk_number s e = constant (numbers_in s.scope) e

-- whether a number of the desk isn't one of the standard
abbrev pub is_other : ℤ → Option ℤ → Bool
is_other n None = true
is_other n (Some m) = not (int_eq n m)

-- number against number; where the desk has none there is nothing to compare
abbrev pub number_differs : Outcome → Option ℤ → Bool
number_differs (Ok n) m = is_other n m
number_differs (Err fault) m = false

-- truth against truth
abbrev pub truth_differs : Outcome → List Bit → Bool
truth_differs (Ok n) a = not (same_bit (truth_bit a) (known_bit (is_true n)))
truth_differs (Err fault) a = false

-- a number modulo 2 to the width against bits of this width
abbrev pub bits_differ : Outcome → ℕ → List Bit → Bool
bits_differ (Ok n) width a = not (all_with same_bit a (bits_of width (pattern (Some n))))
bits_differ (Err fault) width a = false

-- an expression by itself
abbrev pub is_other_number : Scopes → Formula → Bool
is_other_number s e = number_differs (desk_number s e) (whole_number (sign (restated s) e) (own_worth s e))

abbrev pub is_other_truth : Scopes → Formula → Bool
is_other_truth s e = truth_differs (desk_number s e) (own_worth s e)

-- what an `integer` takes of it
abbrev pub is_other_count : Scopes → Formula → Bool
is_other_count s e = number_differs (desk_number s e) (whole_number true (taken_worth s 32 e))

-- what a range of so many bits takes of it
abbrev pub is_other_in : Scopes → ℕ → Formula → Bool
is_other_in s width e = bits_differ (desk_number s e) width (taken_worth s width e)

-- the same of an expression that is worked out by itself before
abbrev pub is_other_cut : Scopes → ℕ → Formula → Bool
is_other_cut s width e =
    bits_differ (desk_number s e) width (extended width (sign (restated s) e) (own_worth s e))

abbrev pub number_notes : Home → Scopes → Formula → List Note
number_notes home s e = note_if (is_other_number s e) home ConstantValue (root_place e)

abbrev pub truth_notes : Home → Scopes → Formula → List Note
truth_notes home s e = note_if (is_other_truth s e) home ConstantValue (root_place e)

-- the start or the step of a loop; without a sign other tools compare without one, or never end
abbrev pub count_notes : Home → Scopes → Formula → List Note
count_notes home s e =
    note_if (is_other_count s e) home ConstantValue (root_place e)
    ++ note_if (not (sign (restated s) e)) home LoopSign (root_place e)

-- a parameter's own value, and one that an instance gives it, in the width of its range
abbrev pub own_value_notes : Home → Scopes → Option ℕ → Formula → List Note
own_value_notes home s None e = number_notes home s e
own_value_notes home s (Some width) e =
    note_if (is_other_in s (bits (fitted width)) e) home ConstantValue (root_place e)

abbrev pub given_value_notes : Home → Scopes → Option ℕ → Formula → List Note
given_value_notes home s None e = number_notes home s e
given_value_notes home s (Some width) e =
    note_if (is_other_in s (bits (fitted width)) e || is_other_cut s (bits (fitted width)) e) home ConstantValue (root_place e)
