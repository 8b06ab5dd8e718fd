-- Which tokens spell which gates (IEEE 1364-2001 annex A.3).
-- Worked examples: crates/tests_layers/stdin.
use Rattle.std.specs.Prelude.{◌≡◌, Bool, true, false, List, [], ◌∷◌}
use Rattle.rtl_tree.specs.declared.tree.gate.GateKind.{GateKind}
use Rattle.rtl_tree.specs.declared.tree.gate.GateKind.TheVariants as kind
use Rattle.rtl_tree.specs.declared.symbol.Symbol.{Symbol}
use Rattle.rtl_tree.specs.declared.symbol.Symbol.TheVariants as symbol
use Rattle.rtl_tree.specs.TreeExpr.{Formula, Number, Read, ReadBit, ReadPart, Parens, Apply, Concat, Repeat, Unary, Binary, Choose}
use Rattle.rtl_tree.specs.TreeGate.{GateSpan, One, Two, GatePause, Gate}
use Rattle.text_grammar.specs.Grammar.{Spelling, ◌⨾◌, IsA, IsAt, IsName, IsOptional, AreListed}
use Rattle.text_grammar.specs.GrammarExpr.{IsExpression}
use Rattle.text_grammar.specs.GrammarStmt.{IsTarget, IsSpan}

abbrev pub gate_symbol : GateKind → Symbol
gate_symbol kind.And = symbol.And
gate_symbol kind.Nand = symbol.Nand
gate_symbol kind.Or = symbol.Or
gate_symbol kind.Nor = symbol.Nor
gate_symbol kind.Xor = symbol.Xor
gate_symbol kind.Xnor = symbol.Xnor
gate_symbol kind.Buf = symbol.Buf
gate_symbol kind.Not = symbol.Not

abbrev pub IsGateSpan : GateSpan → Spelling
IsGateSpan (One span) = IsSpan span
IsGateSpan (Two rise fall) =
    IsA symbol.OpenParen ⨾ IsExpression rise ⨾ IsA symbol.Comma ⨾ IsExpression fall ⨾ IsA symbol.CloseParen

-- the delay of gates
abbrev pub IsGatePause : GatePause → Spelling
IsGatePause pause = IsAt symbol.Hash pause.at ⨾ IsGateSpan pause.span

-- whether a gate has one input, and its other terminals are outputs
abbrev pub has_one_input : GateKind → Bool
has_one_input kind.And = false
has_one_input kind.Nand = false
has_one_input kind.Or = false
has_one_input kind.Nor = false
has_one_input kind.Xor = false
has_one_input kind.Xnor = false
has_one_input kind.Buf = true
has_one_input kind.Not = true

-- a name, or a select of one
abbrev pub is_named : Formula → Bool
is_named (Read name) = true
is_named (ReadBit name index) = true
is_named (ReadPart name kind first second) = true
is_named (Number value at) = false
is_named (Parens at inner) = false
is_named (Apply function at inner) = false
is_named (Concat at parts) = false
is_named (Repeat at times parts) = false
is_named (Unary operator at operand) = false
is_named (Binary operator at left right) = false
is_named (Choose at condition taken otherwise) = false

-- the terminals after the first output: inputs, or further outputs before one input
abbrev pub AreTerminals : Bool → List Formula → Type 0
AreTerminals false terminals = Unit {0}
AreTerminals true [] = Unit {0}
AreTerminals true (last ∷ []) = Unit {0}
AreTerminals true (output ∷ next ∷ others) = (is_named output ≡ true) × AreTerminals true (next ∷ others)

-- a gate
abbrev pub IsGate : GateKind → Gate → Spelling
IsGate k gate =
    λ tokens rest. AreTerminals (has_one_input k) gate.terminals
    × (IsOptional IsName gate.name ⨾ IsA symbol.OpenParen ⨾ IsTarget gate.output ⨾ IsA symbol.Comma ⨾ AreListed IsExpression gate.terminals ⨾ IsA symbol.CloseParen) tokens rest
