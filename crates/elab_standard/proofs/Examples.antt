-- Constant expressions at work.
use Rattle.std.specs.Prelude.{ℕ, Bool, false, true, negsuc, [], ◌∷◌, None, Some}
use Rattle.std.proofs.Common.{◌≡◌, refl}
use Rattle.name_map.specs.Values.{no_values, with_value}
use Rattle.rtl_bits.specs.Bits.{is_one_at}
use Rattle.rtl_const.specs.Constant.{clog2}
use Rattle.rtl_tree.specs.declared.tree.operators.BinaryOperator.TheVariants.{Power, Add, GreaterOrEqual}
use Rattle.rtl_tree.specs.declared.tree.operators.UnaryOperator.TheVariants.{Minus}
use Rattle.rtl_tree.specs.TreeExpr.{Formula, Number, Read, Apply, Unary, Binary}
use Rattle.rtl_flat.specs.declared.note.Reading.TheVariants.{ConstantValue}
use Rattle.rtl_tree.specs.declared.tree.operators.SystemFunction.TheVariants.{Signed, Clog2}
use Rattle.rtl_tree.specs.TreeStmt.{Action, Null, Branches, Labelled, no_branches, more_branches}
use Rattle.elab_walk.specs.elab_scope.declared.known.Known.TheVariants as known
use Rattle.elab_walk.specs.elab_scope.declared.known.Role.TheVariants.{Input}
use Rattle.elab_walk.specs.elab_scope.Names.{Meanings, no_meanings, with_meaning}
use Rattle.elab_standard.specs.declared.uses.Home.{Home}
use Rattle.elab_standard.specs.Cases.{is_case_misread}
use Rattle.elab_standard.specs.Notes.{note_at}
use Rattle.elab_standard.specs.Nested.{nested_notes}
use Rattle.elab_standard.specs.Numbers.{is_other_truth, number_notes, own_value_notes, truth_notes}
use Rattle.elab_standard.specs.Scopes.{Scopes}
use Rattle.elab_standard.specs.Standards.{own_standard}

-- no parameter
abbrev empty : Scopes
empty = record { scope = no_meanings; standards = no_values }

-- 4'd15 and the like
abbrev nibble : ℕ → ℕ → Formula
nibble n at = Number (record { width = 4; val = n; unk = 0; signed = false; sized = true; radix = 10 }) at

-- 8
abbrev plain : ℕ → Formula
plain n = Number (record { width = 32; val = n; unk = 0; signed = true; sized = false; radix = 10 }) 10

abbrev home : Home
home = record { file = 0; instance = 7 }

-- -4'd1 is 15 by the standard and -1 by the desk
abbrev minus_one : Formula
minus_one = Unary Minus 55 (nibble 1 56)

minus_one_is : own_standard empty minus_one ≡ record { width = 4; signed = false; bits = Some 15; sized = true }
unfolding is_one_at
minus_one_is = refl

minus_one_told : own_value_notes home empty None minus_one ≡ note_at home ConstantValue 55 ∷ []
unfolding is_one_at
minus_one_told = refl

-- in a range of 8 bits it is 255 to both
minus_one_in : own_value_notes home empty (Some 8) minus_one ≡ []
unfolding is_one_at
minus_one_in = refl

-- 4'd15 + 4'd1 is 0 by the standard, and true by the desk
sum_told : truth_notes home empty (Binary Add 13 (nibble 15 8) (nibble 1 16)) ≡ note_at home ConstantValue 13 ∷ []
unfolding is_one_at
sum_told = refl

-- 2 ** 10 is 1024 to both
power_untold : number_notes home empty (Binary Power 13 (plain 2) (plain 10)) ≡ []
unfolding is_one_at
power_untold = refl

-- 4'd2 ** 4 is 0 by the standard, and 16 by the desk
power_told : number_notes home empty (Binary Power 13 (nibble 2 8) (nibble 4 16)) ≡ note_at home ConstantValue 13 ∷ []
unfolding is_one_at
power_told = refl

-- $clog2(9) is 4 to both, and $clog2(4'd15 + 4'd2) is 0 by the standard and 5 by the desk
logarithm_untold : number_notes home empty (Apply Clog2 13 (plain 9)) ≡ []
unfolding is_one_at clog2
logarithm_untold = refl

logarithm_told : number_notes home empty (Apply Clog2 13 (Binary Add 26 (nibble 15 20) (nibble 2 29))) ≡ note_at home ConstantValue 13 ∷ []
unfolding is_one_at clog2
logarithm_told = refl

-- outside of constants the same is told of what is worked out before the design: of a power itself, and of the argument
-- of $clog2
nested_told : nested_notes home empty (Binary Add 40 (Binary Power 13 (nibble 2 8) (Binary Add 17 (nibble 15 16) (nibble 2 20))) (Apply Clog2 42 (Binary Add 50 (nibble 15 48) (nibble 2 53)))) ≡ note_at home ConstantValue 13 ∷ note_at home ConstantValue 50 ∷ []
unfolding is_one_at
nested_told = refl

-- a loop's number of -1 isn't below 4'd0 by the standard
abbrev at_minus_one : Scopes
at_minus_one =
    record { scope = with_meaning no_meanings (105 ∷ []) (known.Integer (Some (negsuc 0))); standards = no_values }

loop_told : is_other_truth at_minus_one (Binary GreaterOrEqual 17 (Read (record { text = 105 ∷ []; at = 15 })) (nibble 0 20)) ≡ true
unfolding is_one_at
loop_told = refl

-- ---- cases

-- an input a of 4 bits
abbrev with_a : Bool → Meanings
with_a signed =
    with_meaning no_meanings (97 ∷ []) (known.Signal 0 Input (Some (record { width = 4; signed = signed; low = 0 })))

abbrev a : Formula
a = Read (record { text = 97 ∷ []; at = 6 })

-- a number of so many bits
abbrev sized_number : ℕ → Bool → ℕ → Formula
sized_number width signed n =
    Number (record { width = width; val = n; unk = 0; signed = signed; sized = true; radix = 10 }) 10

-- a number without a width: 'h7c
abbrev hexadecimal : ℕ → Formula
hexadecimal n = Number (record { width = 32; val = n; unk = 0; signed = false; sized = false; radix = 16 }) 10

abbrev two : Formula → Formula → Branches
two one other = more_branches (Labelled (one ∷ other ∷ []) (Null 20)) no_branches

-- case ($signed(a)) $clog2(9), 1'sd1
worked_out_told : is_case_misread (with_a false) (Apply Signed 6 a) (two (Apply Clog2 10 (plain 9)) (sized_number 1 true 1)) ≡ true
unfolding is_one_at
worked_out_told = refl

-- case (a) 'h7c, 'h7d with a signed
extended_told : is_case_misread (with_a true) a (two (hexadecimal 124) (hexadecimal 125)) ≡ true
unfolding is_one_at
extended_told = refl

-- case ($signed(a)) 8, 1'sd1
recast_told : is_case_misread (with_a false) (Apply Signed 6 a) (two (plain 8) (sized_number 1 true 1)) ≡ true
unfolding is_one_at
recast_told = refl

-- case (a) 4'd0, 4'sd1 with a signed: nothing is extended
equal_untold : is_case_misread (with_a true) a (two (sized_number 4 false 0) (sized_number 4 true 1)) ≡ false
unfolding is_one_at
equal_untold = refl

-- case (a) 0, -1
minus_untold : is_case_misread (with_a false) a (two (plain 0) (Unary Minus 9 (plain 1))) ≡ false
unfolding is_one_at
minus_untold = refl
