-- It serves inner contracts and proofs; no answer of the program is stated by it.
-- The builder as functions on tokens: the items of a module.
use Rattle.std.specs.Prelude.{ℕ, Bool, ◌||◌, if◌then◌else◌, List, [], length, Option, Some, None}
use Rattle.rtl_tree.specs.declared.symbol.Symbol.{Symbol}
use Rattle.rtl_tree.specs.declared.symbol.Symbol.TheVariants as symbol
use Rattle.rtl_tree.specs.declared.tree.operators.PartKind.TheVariants as selects
use Rattle.rtl_tree.specs.declared.tree.item.Direction.{Direction}
use Rattle.rtl_tree.specs.declared.tree.item.Direction.TheVariants as direction
use Rattle.rtl_tree.specs.declared.tree.item.PortKind.{PortKind}
use Rattle.rtl_tree.specs.declared.tree.item.PortKind.TheVariants as kind
use Rattle.rtl_tree.specs.declared.tree.item.ParameterKind.{ParameterKind}
use Rattle.rtl_tree.specs.declared.tree.item.ParameterKind.TheVariants as parameter
use Rattle.rtl_tree.specs.declared.tree.item.EventEdge.{EventEdge}
use Rattle.rtl_tree.specs.declared.tree.item.EventEdge.TheVariants as edge
use Rattle.rtl_tree.specs.Symbols.{Terminal}
use Rattle.rtl_tree.specs.TreeExpr.{Formula, Bounds}
use Rattle.rtl_tree.specs.TreeItem.{Head, Net, Variable, Valuation, Drive, Happening, Edge, Change, ChangeBit, ChangePart, Sensitivity, Star, StarInParens, Listed, Positional, Associated, Association, ByPosition, ByName, Instantiation, ModuleItem, Ports, Nets, Variables, Integers, Parameters, Drives, Always, Instances}
use Rattle.text_build.specs.Reading.{Parser, ◌>>=◌, ◌>>◌, pure, refuse, symbol_at, starts, after, place, advance, mark, name, either, optional, add, links, listed}
use Rattle.text_build.specs.ReadingExpr.{Reference, whole, bit, part, reference, expression, bounds}
use Rattle.text_build.specs.ReadingStmt.{after_value, pause, target, statement}

-- `d` is how deep expressions and statements may be nested

unfoldable pub any_expression : ℕ → Parser Formula
any_expression d = expression d

unfoldable pub range : ℕ → Parser (Option Bounds)
range d = optional symbol.OpenBracket (bounds (any_expression d))

-- ---- declarations

abbrev pub direction_by : Option Symbol → Parser Direction
direction_by (Some symbol.Input) = pure direction.Input
direction_by (Some symbol.Output) = pure direction.Output
direction_by o = refuse

-- the direction that comes next, which isn't taken
unfoldable pub direction_next : Parser Direction
direction_next = λ ts. direction_by (symbol_at ts) ts

abbrev pub kind_by : Option Symbol → Parser (Option PortKind)
kind_by (Some symbol.Wire) = advance >> pure (Some kind.Wire)
kind_by (Some symbol.Reg) = advance >> pure (Some kind.Reg)
kind_by o = pure None

unfoldable pub port_kind : Parser (Option PortKind)
port_kind = λ ts. kind_by (symbol_at ts) ts

-- a word that may be left out
unfoldable pub flag : Symbol → Parser Bool
flag s = λ ts. Some (starts s ts, after s ts)

unfoldable pub port_head : ℕ → Parser Head
port_head d =
    direction_next >>= (λ w. advance >>= (λ at. port_kind >>= (λ k. flag symbol.Signed >>= (λ s. range d >>= (λ b. pure (record { at = at; direction = w; kind = k; signed = s; bounds = b }))))))

unfoldable pub ports : ℕ → Parser ModuleItem
ports d = port_head d >>= (λ h. listed name >>= (λ names. mark symbol.Semicolon >> pure (Ports h names)))

-- a value that is given to a name
unfoldable pub value : ℕ → Parser Formula
value d = mark symbol.Equals >> any_expression d

unfoldable pub net : ℕ → Parser Net
net d = name >>= (λ n. optional symbol.Equals (value d) >>= (λ v. pure (record { name = n; value = v })))

unfoldable pub nets : ℕ → Parser ModuleItem
nets d =
    advance >>= (λ at. flag symbol.Signed >>= (λ s. range d >>= (λ b. listed (net d) >>= (λ all. mark symbol.Semicolon >> pure (Nets at s b all)))))

-- whether an initial value follows a name; it isn't kept
unfoldable pub initial : Parser Bool
initial = λ ts. Some (starts symbol.Equals ts, after_value ts)

unfoldable pub variable : Parser Variable
variable = name >>= (λ n. initial >>= (λ i. pure (record { name = n; initial = i })))

unfoldable pub variables : ℕ → Parser ModuleItem
variables d =
    advance >>= (λ at. flag symbol.Signed >>= (λ s. range d >>= (λ b. listed variable >>= (λ all. mark symbol.Semicolon >> pure (Variables at s b all)))))

unfoldable pub integers : Parser ModuleItem
integers = advance >>= (λ at. listed name >>= (λ names. mark symbol.Semicolon >> pure (Integers at names)))

unfoldable pub valuation : ℕ → Parser Valuation
valuation d = name >>= (λ n. value d >>= (λ v. pure (record { name = n; value = v })))

unfoldable pub parameters : ℕ → ParameterKind → Parser ModuleItem
parameters d k =
    advance >>= (λ at. range d >>= (λ b. listed (valuation d) >>= (λ all. mark symbol.Semicolon >> pure (Parameters at k b all))))

unfoldable pub drive : ℕ → Parser Drive
drive d = target d >>= (λ t. value d >>= (λ v. pure (record { target = t; value = v })))

unfoldable pub drives : ℕ → Parser ModuleItem
drives d =
    advance >>= (λ at. optional symbol.Hash (pause (any_expression d)) >>= (λ p. listed (drive d) >>= (λ all. mark symbol.Semicolon >> pure (Drives at p all))))

-- ---- event lists

unfoldable pub edge_of : EventEdge → Parser Happening
edge_of e = advance >>= (λ at. name >>= (λ n. pure (Edge e at n)))

-- a part of a name stands in an event with a colon alone
abbrev pub change_of : Reference → Option Happening
change_of (whole n) = Some (Change n)
change_of (bit n index) = Some (ChangeBit n index)
change_of (part n selects.Between msb lsb) = Some (ChangePart n msb lsb)
change_of (part n selects.Up base width) = None
change_of (part n selects.Down base width) = None

abbrev pub change_by : Option Happening → Parser Happening
change_by None = refuse
change_by (Some h) = pure h

unfoldable pub change : ℕ → Parser Happening
change d = reference (any_expression d) >>= (λ r. change_by (change_of r))

abbrev pub event_by : ℕ → Option Symbol → Parser Happening
event_by d (Some symbol.Posedge) = edge_of edge.Posedge
event_by d (Some symbol.Negedge) = edge_of edge.Negedge
event_by d o = change d

unfoldable pub event : ℕ → Parser Happening
event d = λ ts. event_by d (symbol_at ts) ts

-- `or` or a comma comes next
unfoldable pub joins_events : List Terminal → Bool
joins_events ts = starts symbol.Or ts || starts symbol.Comma ts

unfoldable pub after_joint : List Terminal → List Terminal
after_joint ts = if starts symbol.Or ts then after symbol.Or ts else after symbol.Comma ts

unfoldable pub events : ℕ → Parser (List Happening)
events d = λ ts. links (length ts) joins_events after_joint (add (event d)) [] ts

unfoldable pub star : Parser Sensitivity
star = advance >> pure Star

unfoldable pub star_in_parens : Parser Sensitivity
star_in_parens = advance >> mark symbol.CloseParen >> pure StarInParens

unfoldable pub listed_events : ℕ → Parser Sensitivity
listed_events d = events d >>= (λ all. mark symbol.CloseParen >> pure (Listed all))

unfoldable pub in_parens : ℕ → Parser Sensitivity
in_parens d = mark symbol.OpenParen >> either (starts symbol.Star) star_in_parens (listed_events d)

unfoldable pub sensitivity : ℕ → Parser Sensitivity
sensitivity d = either (starts symbol.Star) star (in_parens d)

unfoldable pub always : ℕ → Parser ModuleItem
always d = advance >>= (λ at. mark symbol.At >> sensitivity d >>= (λ w. statement d >>= (λ body. pure (Always at w body))))

-- ---- instances

-- an empty argument ends here
abbrev pub ends_argument : List Terminal → Bool
ends_argument ts = starts symbol.Comma ts || starts symbol.CloseParen ts

-- an expression, unless the argument is empty
unfoldable pub argument_value : ℕ → Parser (Option Formula)
argument_value d =
    either ends_argument (pure None) (any_expression d >>= (λ v. pure (Some v)))

unfoldable pub positional : ℕ → Parser Positional
positional d = place >>= (λ at. argument_value d >>= (λ v. pure (record { at = at; value = v })))

unfoldable pub associated : ℕ → Parser Associated
associated d =
    mark symbol.Dot >>= (λ at. name >>= (λ n. mark symbol.OpenParen >> argument_value d >>= (λ v. mark symbol.CloseParen >> pure (record { at = at; name = n; value = v }))))

unfoldable pub by_position : ℕ → Parser Association
by_position d = listed (positional d) >>= (λ all. pure (ByPosition all))

unfoldable pub by_name : ℕ → Parser Association
by_name d = listed (associated d) >>= (λ all. pure (ByName all))

unfoldable pub arguments : ℕ → Parser Association
arguments d = either (starts symbol.Dot) (by_name d) (by_position d)

unfoldable pub connections : ℕ → Parser Association
connections d = either (starts symbol.CloseParen) (pure (ByPosition [])) (arguments d)

unfoldable pub instantiation : ℕ → Parser Instantiation
instantiation d =
    name >>= (λ n. mark symbol.OpenParen >> connections d >>= (λ c. mark symbol.CloseParen >> pure (record { name = n; connections = c })))

unfoldable pub overrides_of : ℕ → Parser Association
overrides_of d = advance >> mark symbol.OpenParen >> arguments d >>= (λ a. mark symbol.CloseParen >> pure a)

unfoldable pub overrides : ℕ → Parser Association
overrides d = either (starts symbol.Hash) (overrides_of d) (pure (ByPosition []))

unfoldable pub instances : ℕ → Parser ModuleItem
instances d =
    name >>= (λ child. overrides d >>= (λ ps. listed (instantiation d) >>= (λ all. mark symbol.Semicolon >> pure (Instances child ps all))))

-- ---- items

abbrev pub item_by : ℕ → Option Symbol → Parser ModuleItem
item_by d (Some symbol.Input) = ports d
item_by d (Some symbol.Output) = ports d
item_by d (Some symbol.Wire) = nets d
item_by d (Some symbol.Reg) = variables d
item_by d (Some symbol.Integer) = integers
item_by d (Some symbol.Parameter) = parameters d parameter.Parameter
item_by d (Some symbol.Localparam) = parameters d parameter.Local
item_by d (Some symbol.Assign) = drives d
item_by d (Some symbol.Always) = always d
item_by d o = instances d

-- an item after its attributes
unfoldable pub item_after : ℕ → Parser ModuleItem
item_after d = λ ts. item_by d (symbol_at ts) ts
