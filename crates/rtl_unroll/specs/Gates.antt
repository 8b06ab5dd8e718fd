-- Gates as assignments (IEEE 1364-2001 sections 7.1 to 7.3).
-- Worked examples: crates/rtl_unroll/proofs/Examples.antt.
use Rattle.std.specs.Prelude.{ℕ, Bool, true, false, List, [], ◌∷◌, ◌++◌, map, Option, Some, None}
use Rattle.std.specs.List.{flat_map}
use Rattle.std.specs.Option.{option_map}
use Rattle.rtl_tree.specs.declared.tree.operators.UnaryOperator.TheVariants.{BitwiseNot}
use Rattle.rtl_tree.specs.declared.tree.operators.BinaryOperator.{BinaryOperator}
use Rattle.rtl_tree.specs.declared.tree.operators.BinaryOperator.TheVariants as operator
use Rattle.rtl_tree.specs.declared.tree.gate.GateKind.{GateKind}
use Rattle.rtl_tree.specs.declared.tree.gate.GateKind.TheVariants as kind
use Rattle.rtl_tree.specs.TreeExpr.{Identifier, Formula, Number, Read, ReadBit, ReadPart, Parens, Apply, Concat, Repeat, Unary, Binary, Choose, formula_place}
use Rattle.rtl_tree.specs.TreeStmt.{Target, Whole, Bit, Part, Pause, Span, Valued, target_place}
use Rattle.rtl_tree.specs.TreeItem.{GateDrive, ModuleItem, Gates}
use Rattle.rtl_tree.specs.TreeGate.{GateSpan, One, Two, GatePause, Gate}

-- ---- what a gate gives of its inputs (tables 7-3 and 7-4)

-- the operator that stands between the inputs of a gate; a gate of one input has none
abbrev pub operator_of : GateKind → Option BinaryOperator
operator_of kind.And = Some operator.BitwiseAnd
operator_of kind.Nand = Some operator.BitwiseAnd
operator_of kind.Or = Some operator.BitwiseOr
operator_of kind.Nor = Some operator.BitwiseOr
operator_of kind.Xor = Some operator.BitwiseXor
operator_of kind.Xnor = Some operator.BitwiseXor
operator_of kind.Buf = None
operator_of kind.Not = None

-- whether a gate gives the complement of what its name without `n` says
abbrev pub is_inverted : GateKind → Bool
is_inverted kind.And = false
is_inverted kind.Nand = true
is_inverted kind.Or = false
is_inverted kind.Nor = true
is_inverted kind.Xor = false
is_inverted kind.Xnor = true
is_inverted kind.Buf = false
is_inverted kind.Not = true

-- an input: in parentheses, so that it is told from the operators between inputs
abbrev pub input : Formula → Formula
input e = Parens (formula_place e) e

abbrev pub complement : ℕ → Formula → Formula
complement at e = Unary BitwiseNot at e

-- neighbours are joined; how inputs are grouped makes no difference, and pairs keep the value flat
abbrev pub pairs : BinaryOperator → ℕ → List Formula → List Formula
pairs operator at [] = []
pairs operator at (a ∷ []) = a ∷ []
pairs operator at (a ∷ b ∷ others) = Binary operator at a b ∷ pairs operator at others

-- neighbours are joined again and again, as often as there are elements in the list given first
abbrev pub joined : {A : Type 0} → List A → BinaryOperator → ℕ → List Formula → List Formula
joined [] operator at inputs = inputs
joined (turn ∷ turns) operator at inputs = joined turns operator at (pairs operator at inputs)

-- the value of one input: a buffer passes no z, as it would if it were the input itself
abbrev pub alone : Bool → ℕ → Formula → Formula
alone true at e = complement at (input e)
alone false at e = complement at (complement at (input e))

abbrev pub inverted_if : Bool → ℕ → Formula → Formula
inverted_if true at e = complement at e
inverted_if false at e = e

-- the value of several inputs
abbrev pub together : Bool → BinaryOperator → ℕ → List Formula → List Formula
together inverted operator at inputs =
    map (inverted_if inverted at) (joined inputs operator at (map input inputs))

-- ---- what a gate drives

-- a name, or a select of one, as an output
abbrev pub output_of : Formula → List Target
output_of (Read name) = Whole name ∷ []
output_of (ReadBit name index) = Bit name index ∷ []
output_of (ReadPart name kind first second) = Part name kind first second ∷ []
output_of (Number value at) = []
output_of (Parens at inner) = []
output_of (Apply function at inner) = []
output_of (Concat at parts) = []
output_of (Repeat at times parts) = []
output_of (Unary operator at operand) = []
output_of (Binary operator at left right) = []
output_of (Choose at condition taken otherwise) = []

-- outputs with a value, where there is one
abbrev pub driven : List Target → List Formula → List GateDrive
driven outputs [] = []
driven outputs (value ∷ others) = record { outputs = outputs; value = value } ∷ []

-- a gate of one input: each terminal but the last is an output, which are told first those before
abbrev pub one_input : Bool → ℕ → List Target → List Formula → List GateDrive
one_input inverted at outputs [] = []
one_input inverted at outputs (last ∷ []) = driven outputs (alone inverted at last ∷ [])
one_input inverted at outputs (output ∷ next ∷ others) =
    one_input inverted at (outputs ++ output_of output) (next ∷ others)

-- a gate of several inputs; of one, it is a buffer or an inverter
abbrev pub several_inputs : Bool → BinaryOperator → ℕ → Target → List Formula → List GateDrive
several_inputs inverted operator at output [] = []
several_inputs inverted operator at output (only ∷ []) = driven (output ∷ []) (alone inverted at only ∷ [])
several_inputs inverted operator at output (first ∷ next ∷ others) =
    driven (output ∷ []) (together inverted operator at (first ∷ next ∷ others))

abbrev pub drives_by : Option BinaryOperator → Bool → Gate → List GateDrive
drives_by (Some operator) inverted gate =
    several_inputs inverted operator (target_place gate.output) gate.output gate.terminals
drives_by None inverted gate =
    one_input inverted (target_place gate.output) (gate.output ∷ []) gate.terminals

abbrev pub drives_of : GateKind → Gate → List GateDrive
drives_of k gate = drives_by (operator_of k) (is_inverted k) gate

-- ---- items of gates

abbrev pub name_of : Gate → List Identifier
name_of gate = if_there gate.name
  where
    if_there : Option Identifier → List Identifier
    if_there None = []
    if_there (Some name) = name ∷ []

-- a delay is told at its mark alone: of two values the first stands for both
abbrev pub plain_pause : GatePause → Pause
plain_pause pause = record { at = pause.at; span = plain_span pause.span }
  where
    plain_span : GateSpan → Span
    plain_span (One span) = span
    plain_span (Two rise fall) = Valued rise

-- gates as an item: their names, and what they drive
abbrev pub gates_item : ℕ → GateKind → Option GatePause → List Gate → ModuleItem
gates_item at kind pause gates =
    Gates at (flat_map name_of gates) (option_map plain_pause pause) (flat_map (drives_of kind) gates)
