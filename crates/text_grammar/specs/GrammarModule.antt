-- Which tokens spell which modules (IEEE 1364-2001 annexes A.1.3 to A.1.5).
-- Worked examples: crates/tests_layers/stdin.
use Rattle.std.specs.Prelude.{◌≡◌, ℕ, Bool, ◌&&◌, nat_le, List, [], ◌∷◌, Option, Some, None}
use Rattle.std.specs.List.{filter}
use Rattle.text_ground.specs.declared.dropped.Dropped.{Dropped}
use Rattle.rtl_tree.specs.declared.symbol.Symbol.TheVariants as symbol
use Rattle.rtl_tree.specs.Prepared.{Ready}
use Rattle.rtl_tree.specs.Symbols.{Terminal, terminals}
use Rattle.rtl_tree.specs.TreeModule.{Heading, HeaderParameter, HeaderPort, Header, Absent, Empty, Declared, Named, WrittenCircuit}
use Rattle.text_grammar.specs.Grammar.{Spelling, ◌⨾◌, Nothing, Never, IsA, IsAt, IsName, IsOptional, AreAll, AreMore, AreListed}
use Rattle.text_grammar.specs.GrammarExpr.{IsBounds}
use Rattle.text_grammar.specs.GrammarStmt.{Marked}
use Rattle.text_grammar.specs.GrammarItem.{IsHead, IsValue}
use Rattle.text_grammar.specs.GrammarWritten.{IsWritten}

-- something is there
abbrev pub IsThere : {A : Type 0} → Option A → Type 0
IsThere None = ⊥
IsThere (Some x) = Unit {0}

abbrev pub IsHeading : Heading → Spelling
IsHeading heading = IsAt symbol.Parameter heading.at ⨾ IsOptional IsBounds heading.bounds

abbrev pub IsParameter : HeaderParameter → Spelling
IsParameter parameter = IsOptional IsHeading parameter.heading ⨾ IsName parameter.name ⨾ IsValue parameter.value

-- the parameters in the head of a module, the first after `parameter`
abbrev pub AreParameters : List HeaderParameter → Spelling
AreParameters [] = Nothing
AreParameters (parameter ∷ parameters) =
    λ tokens rest. IsThere parameter.heading × (IsA symbol.Hash ⨾ IsA symbol.OpenParen ⨾ IsParameter parameter ⨾ AreMore IsParameter parameters ⨾ IsA symbol.CloseParen) tokens rest

abbrev pub IsPort : HeaderPort → Spelling
IsPort port = IsOptional IsHead port.head ⨾ IsName port.name

-- the ports in the head of a module: declared there, the first with its direction, or named alone
abbrev pub IsHeader : Header → Spelling
IsHeader Absent = Nothing
IsHeader Empty = IsA symbol.OpenParen ⨾ IsA symbol.CloseParen
IsHeader (Declared []) = Never
IsHeader (Declared (port ∷ ports)) =
    λ tokens rest. IsThere port.head × (IsA symbol.OpenParen ⨾ IsPort port ⨾ AreMore IsPort ports ⨾ IsA symbol.CloseParen) tokens rest
IsHeader (Named names) = IsA symbol.OpenParen ⨾ AreListed IsName names ⨾ IsA symbol.CloseParen

-- a region that begins neither before one place nor after another
abbrev pub is_between : ℕ → ℕ → Dropped → Bool
is_between first last region = nat_le first region.at && nat_le region.at last

-- a module of a text from which these regions were dropped: it has those between its first token and its last
abbrev pub IsCircuit : List Dropped → WrittenCircuit → Spelling
IsCircuit regions c =
    λ tokens rest. (last : ℕ) × (c.dropped ≡ filter (is_between c.at last) regions)
    × (IsAt symbol.Module c.at ⨾ IsName c.name ⨾ AreParameters c.parameters ⨾ IsHeader c.header ⨾ IsA symbol.Semicolon ⨾ AreAll IsWritten c.items ⨾ IsAt symbol.Endmodule last) tokens rest

-- a module with the attributes before it
abbrev pub IsMarkedCircuit : List Dropped → WrittenCircuit → Spelling
IsMarkedCircuit regions c = Marked (λ marks. IsCircuit regions c)

-- the modules of a text
abbrev pub AreCircuits : List Dropped → List WrittenCircuit → Spelling
AreCircuits regions = AreAll (IsMarkedCircuit regions)

-- tokens as the grammar sees them spell these modules, and nothing is left
pub record AreSpelled (regions : List Dropped) (tokens : List Terminal) (circuits : List WrittenCircuit) : Type 0 where
  pub spelled : AreCircuits regions circuits tokens []

-- a prepared text spells these modules
abbrev pub Spells : Ready → List WrittenCircuit → Type 0
Spells ready circuits = AreSpelled ready.dropped (terminals ready.text ready.tokens) circuits
