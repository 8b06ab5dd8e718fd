-- It serves inner contracts and proofs; no answer of the program is stated by it.
-- What becomes of the tasks of items and modules.
use Rattle.std.specs.Prelude.{[], ◌∷◌, Option, Some, None}
use Rattle.rtl_tree.specs.declared.symbol.Symbol.{Symbol}
use Rattle.rtl_tree.specs.declared.symbol.Symbol.TheVariants as symbol
use Rattle.text_survey.specs.declared.task.Task.TheVariants as task
use Rattle.text_survey.specs.declared.task.Taking.TheVariants as taking
use Rattle.text_survey.specs.Table.{Step, go}
use Rattle.text_survey.specs.TableGenerate.{region}

abbrev pub plain_declaration : Option Symbol → Option Step
plain_declaration (Some symbol.Integer) = go taking.Token (task.Name ∷ task.Names ∷ task.Expect symbol.Semicolon ∷ [])
plain_declaration (Some symbol.Parameter) = go taking.Token (task.Range ∷ task.Setting ∷ task.Settings ∷ task.Expect symbol.Semicolon ∷ [])
plain_declaration (Some symbol.Localparam) = go taking.Token (task.Range ∷ task.Setting ∷ task.Settings ∷ task.Expect symbol.Semicolon ∷ [])
plain_declaration next = region next

abbrev pub declaration : Option Symbol → Option Step
declaration (Some symbol.Input) = go taking.Token (task.PortKind ∷ task.Sign ∷ task.Range ∷ task.Name ∷ task.Names ∷ task.Expect symbol.Semicolon ∷ [])
declaration (Some symbol.Output) = go taking.Token (task.PortKind ∷ task.Sign ∷ task.Range ∷ task.Name ∷ task.Names ∷ task.Expect symbol.Semicolon ∷ [])
declaration (Some symbol.Wire) = go taking.Token (task.Sign ∷ task.Range ∷ task.Net ∷ task.Nets ∷ task.Expect symbol.Semicolon ∷ [])
declaration (Some symbol.Reg) = go taking.Token (task.Sign ∷ task.Range ∷ task.Variable ∷ task.Variables ∷ task.Expect symbol.Semicolon ∷ [])
declaration next = plain_declaration next

-- an item that attributes may stand before
abbrev pub marked_item : Option Symbol → Option Step
marked_item (Some symbol.OpenAttribute) = go taking.Token (task.Attribute ∷ task.Attributes ∷ task.Expect symbol.CloseAttribute ∷ task.MarkedItem ∷ [])
marked_item (Some symbol.Assign) = go taking.Token (task.Delay ∷ task.Drive ∷ task.Drives ∷ task.Expect symbol.Semicolon ∷ [])
marked_item (Some symbol.Always) = go taking.Token (task.Expect symbol.At ∷ task.Sensitivity ∷ task.Statement ∷ [])
marked_item (Some symbol.Name) = go taking.Token (task.Overrides ∷ task.Instance ∷ task.Instances ∷ task.Expect symbol.Semicolon ∷ [])
marked_item next = declaration next

abbrev pub port_kind : Option Symbol → Option Step
port_kind (Some symbol.Wire) = go taking.Token []
port_kind (Some symbol.Reg) = go taking.Token []
port_kind next = go taking.Nothing []

abbrev pub initial : Option Symbol → Option Step
initial (Some symbol.Equals) = go taking.Node (task.Expression ∷ task.Forget ∷ [])
initial next = go taking.Nothing []

abbrev pub sensitivity : Option Symbol → Option Step
sensitivity (Some symbol.Star) = go taking.Token []
sensitivity (Some symbol.OpenParen) = go taking.Token (task.EventList ∷ [])
sensitivity next = None

abbrev pub event_list : Option Symbol → Option Step
event_list (Some symbol.Star) = go taking.Token (task.Expect symbol.CloseParen ∷ [])
event_list next = go taking.Nothing (task.Event ∷ task.Events ∷ task.Expect symbol.CloseParen ∷ [])

abbrev pub event : Option Symbol → Option Step
event (Some symbol.Posedge) = go taking.Token (task.Name ∷ [])
event (Some symbol.Negedge) = go taking.Token (task.Name ∷ [])
event (Some symbol.Name) = go taking.Token (task.EventSelect ∷ [])
event next = None

abbrev pub event_select_end : Option Symbol → Option Step
event_select_end (Some symbol.CloseBracket) = go taking.Token []
event_select_end (Some symbol.Colon) = go taking.Token (task.Expression ∷ task.Expect symbol.CloseBracket ∷ [])
event_select_end next = None

abbrev pub events : Option Symbol → Option Step
events (Some symbol.Or) = go taking.Token (task.Event ∷ task.Events ∷ [])
events (Some symbol.Comma) = go taking.Token (task.Event ∷ task.Events ∷ [])
events next = go taking.Nothing []

-- all by position or all by name; a single empty one is none
abbrev pub arguments : Option Symbol → Option Step
arguments (Some symbol.Dot) = go taking.Nothing (task.NamedArgument ∷ task.Associated ∷ [])
arguments (Some symbol.Comma) = go taking.Nothing (task.Positional ∷ [])
arguments next = go taking.Nothing (task.Expression ∷ task.Positional ∷ [])

abbrev pub argument : Option Symbol → Option Step
argument (Some symbol.Comma) = go taking.Nothing []
argument (Some symbol.CloseParen) = go taking.Nothing []
argument next = go taking.Nothing (task.Expression ∷ [])

abbrev pub source : Option Symbol → Option Step
source None = go taking.Nothing []
source (Some first) = go taking.Nothing (task.Module ∷ task.Source ∷ [])

-- a module; attributes may stand before it
abbrev pub one_module : Option Symbol → Option Step
one_module (Some symbol.OpenAttribute) = go taking.Token (task.Attribute ∷ task.Attributes ∷ task.Expect symbol.CloseAttribute ∷ task.Module ∷ [])
one_module (Some symbol.Module) = go taking.Token (task.Name ∷ task.Parameters ∷ task.Ports ∷ task.Expect symbol.Semicolon ∷ task.Items ∷ task.Expect symbol.Endmodule ∷ [])
one_module next = None

abbrev pub head_parameter : Option Symbol → Option Step
head_parameter (Some symbol.Parameter) = go taking.Token (task.Range ∷ task.Setting ∷ [])
head_parameter next = go taking.Nothing (task.Setting ∷ [])

-- the ports in the head of a module, after the parenthesis
abbrev pub port_list : Option Symbol → Option Step
port_list (Some symbol.CloseParen) = go taking.Token []
port_list (Some symbol.Input) = go taking.Nothing (task.Port ∷ task.HeadPorts ∷ task.Expect symbol.CloseParen ∷ [])
port_list (Some symbol.Output) = go taking.Nothing (task.Port ∷ task.HeadPorts ∷ task.Expect symbol.CloseParen ∷ [])
port_list next = go taking.Nothing (task.Name ∷ task.Names ∷ task.Expect symbol.CloseParen ∷ [])

abbrev pub port : Option Symbol → Option Step
port (Some symbol.Input) = go taking.Token (task.PortKind ∷ task.Sign ∷ task.Range ∷ task.Name ∷ [])
port (Some symbol.Output) = go taking.Token (task.PortKind ∷ task.Sign ∷ task.Range ∷ task.Name ∷ [])
port next = go taking.Nothing (task.Name ∷ [])
