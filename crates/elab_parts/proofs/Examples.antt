-- Items at work.
use Rattle.std.specs.Prelude.{ℕ, ◌+◌, false, if◌then◌else◌, [], ◌∷◌, None, Some}
use Rattle.std.specs.Str.{bytes_eq}
use Rattle.std.proofs.Common.{◌≡◌, refl}
use Rattle.rtl_tree.specs.declared.tree.operators.BinaryOperator.TheVariants.{BitwiseAnd}
use Rattle.rtl_tree.specs.declared.tree.operators.UnaryOperator.TheVariants.{BitwiseNot}
use Rattle.rtl_tree.specs.declared.tree.stmt.AssignmentKind.TheVariants.{Blocking}
use Rattle.rtl_tree.specs.TreeExpr.{Formula, Identifier, Read, Parens, Unary, Binary}
use Rattle.rtl_tree.specs.TreeStmt.{Whole, Named, Pause, Assign}
use Rattle.rtl_tree.specs.TreeItem.{ModuleItem, Integers, Nets, Drives, Gates, Always, Star}
use Rattle.elab_body.specs.elab_scope.declared.known.Known.TheVariants.{Signal}
use Rattle.elab_body.specs.elab_scope.declared.known.Role.TheVariants.{Input, Net, Variable}
use Rattle.elab_body.specs.elab_scope.Faults.{NotAssignable, Width}
use Rattle.elab_body.specs.elab_scope.Names.{Meanings}
use Rattle.elab_body.specs.elab_scope.Rules.{fault}
use Rattle.elab_body.specs.Steps.{Delay, Faulty, Nodes, Statement}
use Rattle.elab_parts.specs.Delays.{delay_in, item_delays}
use Rattle.elab_parts.specs.Gates.{input_faults, terminal_faults}
use Rattle.elab_parts.specs.Items.{item_steps, items_places}

-- an input a, a net w, a variable r and a net d of two bits
abbrev scope : Meanings
scope name =
    if bytes_eq name (97 ∷ []) then Some (Signal 0 Input (Some (record { width = 1; signed = false; low = 0 })))
    else if bytes_eq name (119 ∷ []) then Some (Signal 1 Net (Some (record { width = 1; signed = false; low = 0 })))
    else if bytes_eq name (114 ∷ []) then Some (Signal 2 Variable (Some (record { width = 1; signed = false; low = 0 })))
    else if bytes_eq name (100 ∷ []) then Some (Signal 3 Net (Some (record { width = 2; signed = false; low = 0 }))) else None

abbrev a : ℕ → Identifier
a at = record { text = 97 ∷ []; at = at }

abbrev w : ℕ → Identifier
w at = record { text = 119 ∷ []; at = at }

abbrev r : ℕ → Identifier
r at = record { text = 114 ∷ []; at = at }

abbrev d : ℕ → Identifier
d at = record { text = 100 ∷ []; at = at }

abbrev pause : ℕ → Pause
pause at = record { at = at; span = Named (a (at + 1)) }

-- wire w, name = value;
abbrev nets : Identifier → Identifier → ModuleItem
nets name value =
    Nets 10 false None (record { name = w 15; value = None } ∷ record { name = name; value = Some (Read value) } ∷ [])

-- assign #a w = a, w = a;
abbrev drives : ModuleItem
drives =
    Drives 20 (Some (pause 27)) (record { target = Whole (w 30); value = Read (a 34) } ∷ record { target = Whole (w 37); value = Read (a 41) } ∷ [])

-- always @* #a r = a;
abbrev combinational : ModuleItem
combinational = Always 50 Star (Assign (Whole (r 60)) Blocking (Some (pause 64)) (Read (a 67)))

-- buf #a (first, second, input);
abbrev buffer : Identifier → Identifier → Formula → ModuleItem
buffer first second input =
    Gates 70 [] (Some (pause 75)) (record { outputs = Whole first ∷ Whole second ∷ []; value = Unary BitwiseNot 80 (Unary BitwiseNot 80 (Parens 90 input)) } ∷ [])

-- a declaration drives nets alone
net_driven : item_steps scope (nets (w 18) (a 22)) ≡ Nodes 18 1 ∷ []
net_driven = refl

input_driven : item_steps scope (nets (a 18) (w 22)) ≡ Nodes 18 1 ∷ Faulty (fault 18 (NotAssignable (97 ∷ []))) ∷ []
input_driven = refl

-- a delay counts for each assignment, and stands in the process of each
two_delays : item_steps scope drives ≡ Delay 27 ∷ Nodes 30 1 ∷ Delay 27 ∷ Nodes 37 1 ∷ []
two_delays = refl

two_processes : item_delays 3 7 scope drives ≡ delay_in 3 7 27 ∷ delay_in 3 8 27 ∷ []
two_processes = refl

-- an `always` counts its statements and its delays
one_statement : item_steps scope combinational ≡ Nodes 50 0 ∷ Statement 60 ∷ Nodes 60 1 ∷ Delay 64 ∷ []
one_statement = refl

one_delay : item_delays 3 7 scope combinational ≡ delay_in 3 7 64 ∷ []
one_delay = refl

-- a gate is an assignment of each output
two_outputs : item_steps scope (buffer (w 80) (w 85) (Read (a 90))) ≡ Delay 75 ∷ Nodes 80 3 ∷ Delay 75 ∷ Nodes 85 3 ∷ []
two_outputs = refl

two_drivers : item_delays 3 7 scope (buffer (w 80) (w 85) (Read (a 90))) ≡ delay_in 3 7 75 ∷ delay_in 3 8 75 ∷ []
two_drivers = refl

-- a terminal has one bit: an output with two is told, and an input with two
wide_output : item_steps scope (buffer (w 80) (d 85) (Read (a 90))) ≡ Faulty (fault 85 Width) ∷ Delay 75 ∷ Nodes 80 3 ∷ Delay 75 ∷ Nodes 85 3 ∷ []
wide_output = refl

wide_input : terminal_faults scope (record { outputs = []; value = Binary BitwiseAnd 80 (Parens 90 (Read (a 90))) (Parens 93 (Read (d 93))) } ∷ []) ≡ fault 93 Width ∷ []
wide_input = refl

-- a name that isn't declared has no width that could be wrong
hidden_input : input_faults scope (Parens 90 (Read (record { text = 120 ∷ []; at = 90 }))) ≡ []
hidden_input = refl

-- what declares only has no process
places : items_places (Integers 5 [] ∷ nets (w 18) (a 22) ∷ drives ∷ combinational ∷ buffer (w 80) (w 85) (Read (a 90)) ∷ []) ≡ 18 ∷ 30 ∷ 37 ∷ 50 ∷ 80 ∷ 85 ∷ []
places = refl
