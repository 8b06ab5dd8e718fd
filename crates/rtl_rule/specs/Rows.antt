-- The table of the rules.
-- Worked examples: crates/tests_rows/stdin.
use Rattle.std.specs.Prelude.{ℕ, Bool, true, false, List, codes, Option, Some, None, position, slice_get}
use Rattle.std.specs.List.{list_any}
use Rattle.std.specs.Str.{bytes_eq}
use denote.Enum.Declared.{tag_of}
use Rattle.rtl_rule.specs.contracts.rule.Rule.{the_type}
use Rattle.rtl_rule.specs.declared.finding.Finding.{Finding}
use Rattle.rtl_rule.specs.declared.rule.Rule.{Rule}
use Rattle.rtl_rule.specs.declared.rule.TheConstants.{RULES}
use Rattle.rtl_rule.specs.declared.rule.Rule.TheVariants.{SenseMissing, NeverWakes, MixedEdges, BlockingState, NonblockingComb, MixedAssign, SeveralDrivers, Undriven, CombLoop, DerivedClock, ClockAsData, LatchInferred, Tristate, ResetShape, ResetPolarity, AsyncPair, ResetValue, FullCase, ParallelCase, UnknownItem, UnknownLiteral, SelectRange, DivideVariable, CaseEquality, DelayIgnored, InitialIgnored, TranslateOff, XOptimism, WildSelector, ParameterFormat, ConstantValue, PortContext, CaseSigns, TargetIndex, ListIndex, ToolMacro, PragmaWords, UnsizedNumber, PortSign, LateParameter, WholeSelect, LoopSign}

-- what the table says of a rule: its code, its name, whether it is of the first grade, whether a waiver may set its findings
-- aside, and whether agreement stands on it
pub record Line : Type 0 where
  pub code : List ℕ
  pub name : List ℕ
  pub first_grade : Bool
  pub waivable : Bool
  pub needed : Bool

-- a rule of the first grade that may be waived, and on which agreement stands
abbrev pub usual : List ℕ → List ℕ → Line
usual c name = record { code = c; name = name; first_grade = true; waivable = true; needed = true }

-- such a rule that is never waived
abbrev pub strict : List ℕ → List ℕ → Line
strict c name = record { code = c; name = name; first_grade = true; waivable = false; needed = true }

-- a rule of the first grade on which agreement doesn't stand: one on what synthesis leaves out of the text, which the flat
-- design hasn't either, on expressions that have one value where signals are known, or on text that another tool reads
-- otherwise than the flat design
abbrev pub apart : List ℕ → List ℕ → Line
apart c name = record { code = c; name = name; first_grade = true; waivable = true; needed = false }

-- a rule of the second grade that may be waived
abbrev pub second : List ℕ → List ℕ → Line
second c name = record { code = c; name = name; first_grade = false; waivable = true; needed = false }

abbrev pub row_of : Rule → Line
row_of SenseMissing = usual (codes "S1") (codes "SenseMissing")
row_of NeverWakes = usual (codes "S2") (codes "NeverWakes")
row_of MixedEdges = usual (codes "S3") (codes "MixedEdges")
row_of BlockingState = usual (codes "A1") (codes "BlockingState")
row_of NonblockingComb = usual (codes "A2") (codes "NonblockingComb")
row_of MixedAssign = usual (codes "A3") (codes "MixedAssign")
row_of SeveralDrivers = strict (codes "A4") (codes "SeveralDrivers")
row_of Undriven = usual (codes "A5") (codes "Undriven")
row_of CombLoop = strict (codes "A6") (codes "CombLoop")
row_of DerivedClock = usual (codes "A7") (codes "DerivedClock")
row_of ClockAsData = usual (codes "A8") (codes "ClockAsData")
row_of LatchInferred = usual (codes "L1") (codes "LatchInferred")
row_of Tristate = usual (codes "Z1") (codes "Tristate")
row_of ResetShape = usual (codes "R1") (codes "ResetShape")
row_of ResetPolarity = usual (codes "R2") (codes "ResetPolarity")
row_of AsyncPair = usual (codes "R3") (codes "AsyncPair")
row_of ResetValue = usual (codes "R4") (codes "ResetValue")
row_of FullCase = usual (codes "C1") (codes "FullCase")
row_of ParallelCase = usual (codes "C2") (codes "ParallelCase")
row_of UnknownItem = apart (codes "C3") (codes "UnknownItem")
row_of UnknownLiteral = usual (codes "X1") (codes "UnknownLiteral")
row_of SelectRange = usual (codes "X2") (codes "SelectRange")
row_of DivideVariable = usual (codes "X3") (codes "DivideVariable")
row_of CaseEquality = apart (codes "X4") (codes "CaseEquality")
row_of DelayIgnored = apart (codes "D1") (codes "DelayIgnored")
row_of InitialIgnored = apart (codes "D2") (codes "InitialIgnored")
row_of TranslateOff = apart (codes "D3") (codes "TranslateOff")
row_of XOptimism = second (codes "U1") (codes "XOptimism")
row_of WildSelector = second (codes "U2") (codes "WildSelector")
row_of ParameterFormat = apart (codes "P1") (codes "ParameterFormat")
row_of ConstantValue = apart (codes "P2") (codes "ConstantValue")
row_of PortContext = apart (codes "P3") (codes "PortContext")
row_of CaseSigns = apart (codes "P4") (codes "CaseSigns")
row_of TargetIndex = apart (codes "P5") (codes "TargetIndex")
row_of ListIndex = apart (codes "P6") (codes "ListIndex")
row_of ToolMacro = apart (codes "P7") (codes "ToolMacro")
row_of PragmaWords = apart (codes "P8") (codes "PragmaWords")
row_of UnsizedNumber = apart (codes "P9") (codes "UnsizedNumber")
row_of PortSign = apart (codes "P10") (codes "PortSign")
row_of LateParameter = apart (codes "P11") (codes "LateParameter")
row_of WholeSelect = apart (codes "P12") (codes "WholeSelect")
row_of LoopSign = apart (codes "P13") (codes "LoopSign")

-- whether agreement stands on a rule
abbrev pub is_needed : Rule → Bool
is_needed rule = (row_of rule).needed

-- all rules, in the order of the table
abbrev pub rules : List Rule
rules = RULES

-- the place of a rule among them
abbrev pub rule_number : Rule → ℕ
rule_number rule = tag_of the_type rule

abbrev pub rule_at : Option ℕ → Option Rule
rule_at None = None
rule_at (Some place) = slice_get rules place

-- the rule that has a code
abbrev pub rule_with : List ℕ → Option Rule
rule_with code = rule_at (position (λ rule. bytes_eq (row_of rule).code code) rules)

-- ---- lists of findings

-- whether one of some findings is of the first grade
abbrev pub has_first_grade : List Finding → Bool
has_first_grade findings = list_any (λ finding. (row_of finding.rule).first_grade) findings

-- whether one of them is of a rule on which agreement stands
abbrev pub has_needed : List Finding → Bool
has_needed findings = list_any (λ finding. is_needed finding.rule) findings
