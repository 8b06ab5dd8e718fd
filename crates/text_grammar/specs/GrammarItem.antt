-- Which tokens spell which item of a module (IEEE 1364-2001 annexes A.1.5, A.2, A.4 and A.6): one case for each alternative.
-- Worked examples: crates/tests_layers/stdin.
use Rattle.std.specs.Prelude.{◌≡◌, ℕ, ◌⊎◌, Bool, true, false, List, [], ◌∷◌, Option, Some, None}
use Rattle.rtl_tree.specs.declared.tree.item.Direction.{Direction}
use Rattle.rtl_tree.specs.declared.tree.item.Direction.TheVariants as direction
use Rattle.rtl_tree.specs.declared.tree.item.PortKind.{PortKind}
use Rattle.rtl_tree.specs.declared.tree.item.PortKind.TheVariants as kind
use Rattle.rtl_tree.specs.declared.tree.item.ParameterKind.{ParameterKind}
use Rattle.rtl_tree.specs.declared.tree.item.ParameterKind.TheVariants as parameter
use Rattle.rtl_tree.specs.declared.tree.item.EventEdge.{EventEdge}
use Rattle.rtl_tree.specs.declared.tree.item.EventEdge.TheVariants as edge
use Rattle.rtl_tree.specs.declared.symbol.Symbol.{Symbol}
use Rattle.rtl_tree.specs.declared.symbol.Symbol.TheVariants as symbol
use Rattle.rtl_tree.specs.Symbols.{Terminal}
use Rattle.rtl_tree.specs.TreeExpr.{Formula}
use Rattle.rtl_tree.specs.TreeItem.{Head, Net, Variable, Valuation, Drive, Happening, Edge, Change, ChangeBit, ChangePart, Sensitivity, Star, StarInParens, Listed, Positional, Associated, Association, ByPosition, ByName, Instantiation, ModuleItem, Ports, Nets, Variables, Integers, Parameters, Drives, Gates, Always, Instances}
use Rattle.text_grammar.specs.Grammar.{Spelling, ◌⨾◌, Nothing, Never, IsA, IsAt, IsName, IsOptional, IsFlag, AreListed}
use Rattle.text_grammar.specs.GrammarExpr.{IsExpression, IsBounds}
use Rattle.text_grammar.specs.GrammarStmt.{IsTarget, IsPause, IsStatement}

-- ---- declarations

abbrev pub direction_symbol : Direction → Symbol
direction_symbol direction.Input = symbol.Input
direction_symbol direction.Output = symbol.Output

abbrev pub kind_symbol : PortKind → Symbol
kind_symbol kind.Wire = symbol.Wire
kind_symbol kind.Reg = symbol.Reg

abbrev pub IsKind : PortKind → Spelling
IsKind k = IsA (kind_symbol k)

-- what stands before the names of ports
abbrev pub IsHead : Head → Spelling
IsHead head =
    IsAt (direction_symbol head.direction) head.at ⨾ IsOptional IsKind head.kind ⨾ IsFlag symbol.Signed head.signed ⨾ IsOptional IsBounds head.bounds

-- a value that is given to a name
abbrev pub IsValue : Formula → Spelling
IsValue value = IsA symbol.Equals ⨾ IsExpression value

abbrev pub IsNet : Net → Spelling
IsNet net = IsName net.name ⨾ IsOptional IsValue net.value

-- an initial value, which isn't kept
abbrev pub IsInitial : Bool → Spelling
IsInitial false = Nothing
IsInitial true = λ tokens rest. (value : Formula) × IsValue value tokens rest

abbrev pub IsVariable : Variable → Spelling
IsVariable variable = IsName variable.name ⨾ IsInitial variable.initial

abbrev pub parameter_symbol : ParameterKind → Symbol
parameter_symbol parameter.Parameter = symbol.Parameter
parameter_symbol parameter.Local = symbol.Localparam

abbrev pub IsValuation : Valuation → Spelling
IsValuation valuation = IsName valuation.name ⨾ IsValue valuation.value

-- a continuous assignment
abbrev pub IsDrive : Drive → Spelling
IsDrive drive = IsTarget drive.target ⨾ IsValue drive.value

-- ---- event lists

abbrev pub edge_symbol : EventEdge → Symbol
edge_symbol edge.Posedge = symbol.Posedge
edge_symbol edge.Negedge = symbol.Negedge

abbrev pub IsHappening : Happening → Spelling
IsHappening (Edge e at name) = IsAt (edge_symbol e) at ⨾ IsName name
IsHappening (Change name) = IsName name
IsHappening (ChangeBit name index) = IsName name ⨾ IsA symbol.OpenBracket ⨾ IsExpression index ⨾ IsA symbol.CloseBracket
IsHappening (ChangePart name msb lsb) =
    IsName name ⨾ IsA symbol.OpenBracket ⨾ IsExpression msb ⨾ IsA symbol.Colon ⨾ IsExpression lsb ⨾ IsA symbol.CloseBracket

-- `or` or a comma
abbrev pub IsBetweenEvents : Spelling
IsBetweenEvents = λ tokens rest. IsA symbol.Or tokens rest ⊎ IsA symbol.Comma tokens rest

abbrev pub AreMoreEvents : List Happening → Spelling
AreMoreEvents [] = Nothing
AreMoreEvents (event ∷ events) = IsBetweenEvents ⨾ IsHappening event ⨾ AreMoreEvents events

abbrev pub AreEvents : List Happening → Spelling
AreEvents [] = Never
AreEvents (event ∷ events) = IsHappening event ⨾ AreMoreEvents events

-- what an `always` waits for, after its `@`
abbrev pub IsSensitivity : Sensitivity → Spelling
IsSensitivity Star = IsA symbol.Star
IsSensitivity StarInParens = IsA symbol.OpenParen ⨾ IsA symbol.Star ⨾ IsA symbol.CloseParen
IsSensitivity (Listed events) = IsA symbol.OpenParen ⨾ AreEvents events ⨾ IsA symbol.CloseParen

-- ---- arguments

-- the next token is at this place
abbrev pub Begins : ℕ → List Terminal → Type 0
Begins at [] = ⊥
Begins at (t ∷ ts) = t.at ≡ at

-- an argument by position, which may be empty
abbrev pub IsPositional : Positional → Spelling
IsPositional argument = λ tokens rest. Begins argument.at tokens × IsOptional IsExpression argument.value tokens rest

-- an argument by name
abbrev pub IsAssociated : Associated → Spelling
IsAssociated argument =
    IsAt symbol.Dot argument.at ⨾ IsName argument.name ⨾ IsA symbol.OpenParen ⨾ IsOptional IsExpression argument.value ⨾ IsA symbol.CloseParen

-- a single empty argument is no list of arguments
abbrev pub IsMoreThanEmpty : List Positional → Type 0
IsMoreThanEmpty [] = ⊥
IsMoreThanEmpty (argument ∷ next ∷ others) = Unit {0}
IsMoreThanEmpty (argument ∷ []) = HasValue argument.value
  where
    HasValue : Option Formula → Type 0
    HasValue None = ⊥
    HasValue (Some value) = Unit {0}

-- arguments, all by position or all by name
abbrev pub AreArguments : Association → Spelling
AreArguments (ByPosition arguments) = λ tokens rest. IsMoreThanEmpty arguments × AreListed IsPositional arguments tokens rest
AreArguments (ByName arguments) = AreListed IsAssociated arguments

-- the connections of an instance, which may be none
abbrev pub AreConnections : Association → Spelling
AreConnections (ByPosition []) = Nothing
AreConnections (ByPosition (argument ∷ arguments)) = AreArguments (ByPosition (argument ∷ arguments))
AreConnections (ByName arguments) = AreArguments (ByName arguments)

abbrev pub IsInstantiation : Instantiation → Spelling
IsInstantiation instantiation = IsName instantiation.name ⨾ IsA symbol.OpenParen ⨾ AreConnections instantiation.connections ⨾ IsA symbol.CloseParen

-- the parameters that an instance sets
abbrev pub AreSet : Association → Spelling
AreSet arguments = IsA symbol.Hash ⨾ IsA symbol.OpenParen ⨾ AreArguments arguments ⨾ IsA symbol.CloseParen

abbrev pub AreOverrides : Association → Spelling
AreOverrides (ByPosition []) = Nothing
AreOverrides (ByPosition (argument ∷ arguments)) = AreSet (ByPosition (argument ∷ arguments))
AreOverrides (ByName arguments) = AreSet (ByName arguments)

-- ---- items

-- an item after its attributes; what gates drive is made of them, and isn't written so
abbrev pub IsItem : ModuleItem → Spelling
IsItem (Ports head names) = IsHead head ⨾ AreListed IsName names ⨾ IsA symbol.Semicolon
IsItem (Nets at signed bounds nets) =
    IsAt symbol.Wire at ⨾ IsFlag symbol.Signed signed ⨾ IsOptional IsBounds bounds ⨾ AreListed IsNet nets ⨾ IsA symbol.Semicolon
IsItem (Variables at signed bounds variables) =
    IsAt symbol.Reg at ⨾ IsFlag symbol.Signed signed ⨾ IsOptional IsBounds bounds ⨾ AreListed IsVariable variables ⨾ IsA symbol.Semicolon
IsItem (Integers at names) = IsAt symbol.Integer at ⨾ AreListed IsName names ⨾ IsA symbol.Semicolon
IsItem (Parameters at k bounds values) =
    IsAt (parameter_symbol k) at ⨾ IsOptional IsBounds bounds ⨾ AreListed IsValuation values ⨾ IsA symbol.Semicolon
IsItem (Drives at pause drives) =
    IsAt symbol.Assign at ⨾ IsOptional IsPause pause ⨾ AreListed IsDrive drives ⨾ IsA symbol.Semicolon
IsItem (Gates at names pause drives) = Never
IsItem (Always at sensitivity body) = IsAt symbol.Always at ⨾ IsA symbol.At ⨾ IsSensitivity sensitivity ⨾ IsStatement body
IsItem (Instances child parameters instantiations) =
    IsName child ⨾ AreOverrides parameters ⨾ AreListed IsInstantiation instantiations ⨾ IsA symbol.Semicolon
