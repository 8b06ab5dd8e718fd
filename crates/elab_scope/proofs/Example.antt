-- Powers, logarithms and runs of bits at work.
use Rattle.std.specs.Prelude.{ℕ, true, false, if◌then◌else◌, pos, [], ◌∷◌, None, Some}
use Rattle.std.specs.Str.{bytes_eq}
use Rattle.std.proofs.Common.{◌≡◌, refl}
use Rattle.rtl_bits.specs.Bits.{bits_of, is_one_at}
use Rattle.rtl_const.specs.Constant.{clog2}
use Rattle.rtl_const.specs.declared.fault.ConstFault.TheVariants.{NotConstant, Overflow}
use Rattle.rtl_tree.specs.declared.tree.operators.BinaryOperator.TheVariants.{Power}
use Rattle.rtl_tree.specs.declared.tree.operators.PartKind.{PartKind}
use Rattle.rtl_tree.specs.declared.tree.operators.PartKind.TheVariants.{Between, Up, Down}
use Rattle.rtl_tree.specs.declared.tree.operators.SystemFunction.TheVariants.{Clog2}
use Rattle.rtl_tree.specs.declared.tree.operators.UnaryOperator.TheVariants.{Minus}
use Rattle.rtl_tree.specs.TreeExpr.{Formula, Identifier, Number, Read, ReadPart, Parens, Apply, Unary, Binary}
use Rattle.rtl_flat.specs.Expression.{Sized}
use Rattle.rtl_flat.specs.Expression as tree
use Rattle.elab_scope.specs.declared.known.Known.TheVariants.{Signal, Parameter}
use Rattle.elab_scope.specs.declared.known.Role.TheVariants.{Net}
use Rattle.elab_scope.specs.declared.widths.Breadth.TheVariants.{Bits}
use Rattle.elab_scope.specs.Expressions.{faults}
use Rattle.elab_scope.specs.Faults.{Const, Range, Width, least}
use Rattle.elab_scope.specs.Names.{Meanings}
use Rattle.elab_scope.specs.Own.{breadth, sign}
use Rattle.elab_scope.specs.Rules.{fault}
use Rattle.elab_scope.specs.Trees.{tree_of, spot_in}

-- a net a of eight bits, [8:1], and a parameter w of 4
abbrev scope : Meanings
scope name =
    if bytes_eq name (97 ∷ []) then Some (Signal 0 Net (Some (record { width = 8; signed = false; low = 1 })))
    else if bytes_eq name (119 ∷ []) then Some (Parameter (Some (pos 4)) 32 true) else None

abbrev a : ℕ → Identifier
a at = record { text = 97 ∷ []; at = at }

abbrev w : ℕ → Identifier
w at = record { text = 119 ∷ []; at = at }

abbrev whole : ℕ → ℕ → Formula
whole n at = Number (record { width = 32; val = n; unk = 0; signed = true; sized = false; radix = 10 }) at

-- 4'dn
abbrev four_bits : ℕ → ℕ → Formula
four_bits n at = Number (record { width = 4; val = n; unk = 0; signed = false; sized = true; radix = 10 }) at

-- a ** b with its operator at 5
abbrev power : Formula → Formula → Formula
power base exponent = Binary Power 5 base exponent

-- 2 ** 10 is a literal of 32 bits
thousand : faults scope (power (whole 2 0) (whole 10 8)) ≡ []
thousand = refl

thousand_bits : tree_of 0 0 scope (power (whole 2 0) (whole 10 8)) (record { width = 40; signed = true }) ≡ Sized 40 true (spot_in 0 5) (tree.Literal (bits_of 40 1024))
unfolding is_one_at
thousand_bits = refl

-- (w) ** 2 is as wide as w
named : breadth scope (power (Parens 0 (Read (w 1))) (whole 2 8)) ≡ Bits 32
named = refl

named_faults : faults scope (power (Parens 0 (Read (w 1))) (whole 2 8)) ≡ []
named_faults = refl

-- 4'd2 ** 3 is 8, and 4'd2 ** 4 isn't one of four bits
short : faults scope (power (four_bits 2 0) (whole 3 8)) ≡ []
short = refl

long : faults scope (power (four_bits 2 0) (whole 4 8)) ≡ fault 5 (Const (Overflow 5)) ∷ []
long = refl

-- 2 ** 30, and 2 ** 31, which isn't one of 32 bits with a sign
widest : faults scope (power (whole 2 0) (whole 30 8)) ≡ []
widest = refl

too_wide : faults scope (power (whole 2 0) (whole 31 8)) ≡ fault 5 (Const (Overflow 5)) ∷ []
too_wide = refl

-- 2 ** -1
fraction : faults scope (power (whole 2 0) (Unary Minus 8 (whole 1 9))) ≡ fault 5 (Const (Overflow 5)) ∷ []
fraction = refl

-- -2 ** 2 and a ** 2
signed_base : faults scope (power (Unary Minus 0 (whole 2 1)) (whole 2 8)) ≡ fault 0 (Const (NotConstant 0)) ∷ []
signed_base = refl

read_base : faults scope (power (Read (a 0)) (whole 2 8)) ≡ fault 0 (Const (NotConstant 0)) ∷ []
read_base = refl

-- $clog2(1000) has 32 bits and a sign, and $clog2(a) no number
logarithm : tree_of 0 0 scope (Apply Clog2 3 (whole 1000 10)) (record { width = 32; signed = true }) ≡ Sized 32 true (spot_in 0 3) (tree.Literal (bits_of 32 10))
unfolding clog2
logarithm = refl

logarithm_sign : sign scope (Apply Clog2 3 (whole 1000 10)) ≡ true
logarithm_sign = refl

of_signal : faults scope (Apply Clog2 3 (Read (a 10))) ≡ fault 10 (Const (NotConstant 10)) ∷ []
of_signal = refl

abbrev select : PartKind → ℕ → ℕ → Formula
select kind first second = ReadPart (a 2) kind (whole first 4) (whole second 8)

abbrev selected : ℕ → ℕ → tree.Tree
selected low width = Sized 2 false (spot_in 0 2) (tree.Part 0 low width)

-- a[3 +: 2] is a[4:3], and a[3 -: 2] is a[3:2]
upwards : tree_of 0 0 scope (select Up 3 2) (record { width = 2; signed = false }) ≡ selected 2 2
upwards = refl

downwards : tree_of 0 0 scope (select Down 3 2) (record { width = 2; signed = false }) ≡ selected 1 2
downwards = refl

between : tree_of 0 0 scope (select Between 4 3) (record { width = 2; signed = false }) ≡ selected 2 2
between = refl

run_faults : faults scope (select Up 3 2) ≡ []
run_faults = refl

-- a[8 +: 2] and a[1 -: 2] leave the signal, and a[3 +: 0] has no bit
above : faults scope (select Up 8 2) ≡ fault 2 Range ∷ []
above = refl

below : faults scope (select Down 1 2) ≡ fault 2 Range ∷ []
below = refl

empty : least (faults scope (select Up 3 0)) ≡ Some (fault 2 Width)
empty = refl
