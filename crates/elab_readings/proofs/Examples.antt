-- Arguments, late parameters and signs of ports at work.
use Rattle.std.specs.Prelude.{ℕ, ℤ, pos, Bool, true, false, List, [], ◌∷◌, ◌++◌, Option, None, Some, map}
use Rattle.std.proofs.Common.{◌≡◌, refl}
use Rattle.name_map.specs.Values.{Values, no_values, with_value}
use Rattle.rtl_tree.specs.declared.tree.item.Direction.TheVariants.{Output}
use Rattle.rtl_tree.specs.declared.tree.operators.BinaryOperator.{BinaryOperator}
use Rattle.rtl_tree.specs.declared.tree.operators.BinaryOperator.TheVariants.{Power, Add, BitwiseAnd, Equal, ShiftLeft, ShiftRight}
use Rattle.rtl_tree.specs.declared.tree.operators.UnaryOperator.TheVariants.{BitwiseNot, Plus}
use Rattle.rtl_tree.specs.declared.tree.operators.SystemFunction.TheVariants as function
use Rattle.rtl_tree.specs.declared.tree.operators.PartKind.TheVariants.{Between}
use Rattle.rtl_tree.specs.TreeExpr.{Formula, Identifier, Number, Read, ReadBit, ReadPart, Parens, Apply, Concat, Repeat, Unary, Binary, Choose, no_formulas, more_formulas}
use Rattle.elab_uses.specs.elab_items.declared.entries.Form.TheVariants as form
use Rattle.elab_uses.specs.elab_items.declared.reach.Reach.TheVariants.{Bits}
use Rattle.elab_uses.specs.elab_items.Declarations.{Declaration, Listed, Signal, SignalRange}
use Rattle.elab_uses.specs.elab_items.Scopes.{roster_of}
use Rattle.elab_uses.specs.elab_items.Settings.{no_settings}
use Rattle.elab_uses.specs.elab_scope.declared.known.Known.{Known}
use Rattle.elab_uses.specs.elab_scope.declared.known.Known.TheVariants as known
use Rattle.elab_uses.specs.elab_scope.declared.known.Role.TheVariants as role
use Rattle.elab_uses.specs.elab_scope.Names.{Meanings, no_meanings, with_meaning}
use Rattle.elab_readings.specs.Connections.{hangs_on, names_late}
use Rattle.elab_readings.specs.Signs.{sign_notes}

abbrev named : ℕ → ℕ → Identifier
named letter at = record { text = letter ∷ []; at = at }

-- a number without a base or a width
abbrev whole : ℕ → Formula
whole n = Number (record { width = 32; val = n; unk = 0; signed = true; sized = false; radix = 10 }) 0

abbrev signal : ℕ → Bool → Known
signal width signed =
    known.Signal 0 role.Net (Some (record { width = width; signed = signed; low = 0 }))

-- a and b with 4 bits, s and t signed with 4 bits; the port has 8 bits
abbrev scope : Meanings
scope =
    with_meaning (with_meaning (with_meaning (with_meaning no_meanings (97 ∷ []) (signal 4 false)) (98 ∷ []) (signal 4 false)) (115 ∷ []) (signal 4 true)) (116 ∷ []) (signal 4 true)

abbrev port : Option Known
port = Some (signal 8 false)

abbrev a : Formula
a = Read (named 97 0)

abbrev b : Formula
b = Read (named 98 0)

abbrev s : Formula
s = Read (named 115 0)

abbrev t : Formula
t = Read (named 116 0)

abbrev by : BinaryOperator → Formula → Formula → Formula
by operator left right = Binary operator 0 left right

-- ---- arguments of which the port's width decides more than their extension: a + b, ~a, $signed(a), s & t, s[3:0], a << 1

abbrev moved : List Formula
moved =
    by Add a b ∷ Unary BitwiseNot 0 a ∷ Apply function.Signed 0 a ∷ by BitwiseAnd s t ∷ ReadPart (named 115 0) Between (whole 3) (whole 0) ∷ by ShiftLeft a (whole 1) ∷ []

moved_all : map (hangs_on port scope) moved ≡ true ∷ true ∷ true ∷ true ∷ true ∷ true ∷ []
moved_all = refl

-- ---- and such of which it doesn't: a, s, s[2:0], {a, b} with 8 bits, a & b, a ? a : b, a == b, a >> 1, {a + b}, +(s), $signed(s)

abbrev stay : List Formula
stay =
    a ∷ s ∷ ReadPart (named 115 0) Between (whole 2) (whole 0) ∷ Concat 0 (more_formulas a (more_formulas b no_formulas)) ∷ by BitwiseAnd a b ∷ Choose 0 a a b ∷ by Equal a b ∷ by ShiftRight a (whole 1) ∷ Concat 0 (more_formulas (by Add a b) no_formulas) ∷ Unary Plus 0 (Parens 0 s) ∷ Apply function.Signed 0 s ∷ []

none_stays : map (hangs_on port scope) stay ≡ false ∷ false ∷ false ∷ false ∷ false ∷ false ∷ false ∷ false ∷ false ∷ false ∷ false ∷ []
none_stays = refl

-- ---- nor of what is worked out before the design: 2'd2 ** 1 and $clog2(3)

abbrev worked_out : List Formula
worked_out =
    by Power (Number (record { width = 2; val = 2; unk = 0; signed = false; sized = true; radix = 10 }) 0) (whole 1) ∷ Apply function.Clog2 0 (whole 3) ∷ []

worked_out_stays : map (hangs_on port scope) worked_out ≡ false ∷ false ∷ []
worked_out_stays = refl

-- ---- a connection at 10 that names a parameter K, which is declared at 20: K, a & K, a[K] where K is a constant, and at 30

abbrev with_k : Meanings
with_k = with_meaning scope (75 ∷ []) (known.Parameter (Some (pos 2)) 32 true)

abbrev places : Values ℕ
places = with_value no_values (75 ∷ []) 20

abbrev k : Formula
k = Read (named 75 0)

late : map (names_late with_k places 10) (k ∷ by BitwiseAnd a k ∷ ReadBit (named 97 0) k ∷ ReadPart (named 97 0) Between k (whole 0) ∷ []) ≡ true ∷ true ∷ false ∷ false ∷ []
late = refl

not_late : names_late with_k places 30 k ≡ false
not_late = refl

-- ---- (q, r), then `output signed q; wire q;` and `output r; wire signed r;`: q alone is told, at its first declaration

abbrev declared : List Declaration
declared =
    Listed (named 113 1) ∷ Listed (named 114 2) ∷ SignalRange None ∷ Signal (form.Item Output None) true (named 113 10) ∷ SignalRange None ∷ Signal form.Wire false (named 113 20) ∷ SignalRange None ∷ Signal (form.Item Output None) false (named 114 30) ∷ SignalRange None ∷ Signal form.Wire true (named 114 40) ∷ []

told : map (λ note. note.spot.at) (sign_notes (record { file = 0; instance = 3 }) 5 (roster_of no_settings declared).scope (roster_of no_settings declared).signals declared) ≡ 10 ∷ []
told = refl
