-- How what is spelled is nested, as the survey puts it together.
use Rattle.std.proofs.Common.{List, [], ◌∷◌, Option, Some, None}
use Rattle.rtl_tree.specs.TreeExpr.{Formula, Number, Read, ReadBit, ReadPart, Parens, Apply, Concat, Repeat, Unary, Binary, Choose, Formulas, no_formulas, more_formulas, Bounds}
use Rattle.rtl_tree.specs.TreeStmt.{Target, Whole, Bit, Part, Joined, Targets, no_targets, more_targets, Span, Fixed, Named, Valued, Pause, Action, Null, Delayed, Assign, If, IfElse, Case, For, Block, Actions, no_actions, more_actions, Branch, Labelled, Default, Branches, no_branches, more_branches, target_place}
use Rattle.rtl_tree.specs.TreeItem.{Head, Net, Valuation, Drive, Happening, Edge, Change, ChangeBit, ChangePart, Sensitivity, Star, StarInParens, Listed, Positional, Associated, Association, ByPosition, ByName, Instantiation, ModuleItem, Ports, Nets, Variables, Integers, Parameters, Drives, GateDrive, Gates, Always, Instances}
use Rattle.rtl_tree.specs.TreeGate.{GateSpan, One, Two, GatePause, Gate}
use Rattle.rtl_tree.specs.TreeWritten.{WrittenItem, Plain, Primitives, Genvars, Region, WrittenItems, no_items, more_items, GenerateBlock, Single, GenerateChoice, GenerateChoices, no_choices, more_choices}
use Rattle.rtl_tree.specs.TreeWritten as generate
use Rattle.rtl_tree.specs.TreeModule.{Heading, HeaderParameter, HeaderPort, Header, Absent, Empty, Declared, WrittenCircuit}
use Rattle.rtl_tree.specs.TreeModule as modules
use Rattle.text_survey.specs.Depths.{Nest, Nothing, Both, Within}

abbrev mutual
  pub nest : Formula → Nest
  nest (Number value at) = Within at Nothing
  nest (Read name) = Within name.at Nothing
  nest (ReadBit name index) = Within name.at (Both Nothing (nest index))
  nest (ReadPart name kind msb lsb) = Within name.at (Both (Both Nothing (nest msb)) (nest lsb))
  nest (Parens at inner) = Within at (Both Nothing (nest inner))
  nest (Apply s at inner) = Within at (Both Nothing (nest inner))
  nest (Concat at parts) = Within at (nest_row parts Nothing)
  nest (Repeat at times parts) = Within at (nest_row parts (Both Nothing (nest times)))
  nest (Unary op at operand) = Within at (nest operand)
  nest (Binary op at l r) = Within at (Both (nest l) (nest r))
  nest (Choose at c t o) = Within at (Both (Both (nest c) (nest t)) (nest o))

  -- a row after what stands before it
  pub nest_row : Formulas → Nest → Nest
  nest_row no_formulas before = before
  nest_row (more_formulas f fs) before = nest_row fs (Both before (nest f))

-- what becomes of what was read before an expression
abbrev pub beside : Formula → Nest → Nest
beside f before = Both before (nest f)

-- ---- what becomes of what was read before, after further things

abbrev pub skip : {A : Type 0} → A → Nest → Nest
skip x before = before

abbrev pub all_beside : {A : Type 0} → (A → Nest → Nest) → List A → Nest → Nest
all_beside g [] before = before
all_beside g (x ∷ xs) before = all_beside g xs (g x before)

abbrev pub valued : Option Formula → Nest → Nest
valued None before = before
valued (Some f) before = beside f before

abbrev pub bounded : Option Bounds → Nest → Nest
bounded None before = before
bounded (Some b) before = beside b.lsb (beside b.msb before)

abbrev pub spanned : Span → Nest → Nest
spanned (Fixed value) before = before
spanned (Named name) before = before
spanned (Valued value) before = beside value before

abbrev pub paused : Option Pause → Nest → Nest
paused None before = before
paused (Some p) before = spanned p.span before

-- ---- targets and statements

abbrev mutual
  pub nest_target : Target → Nest
  nest_target (Whole name) = Within name.at Nothing
  nest_target (Bit name index) = Within name.at (beside index Nothing)
  nest_target (Part name kind msb lsb) = Within name.at (beside lsb (beside msb Nothing))
  nest_target (Joined at parts) = Within at (nest_targets parts Nothing)

  pub nest_targets : Targets → Nest → Nest
  nest_targets no_targets before = before
  nest_targets (more_targets t others) before = nest_targets others (Both before (nest_target t))

abbrev mutual
  pub nest_action : Action → Nest
  nest_action (Null at) = Within at Nothing
  nest_action (Delayed p body) = Within p.at (Both (spanned p.span Nothing) (nest_action body))
  nest_action (Assign t k p value) = Within (target_place t) (beside value (paused p (Both Nothing (nest_target t))))
  nest_action (If at c a) = Within at (Both (beside c Nothing) (nest_action a))
  nest_action (IfElse at c a b) = Within at (Both (Both (beside c Nothing) (nest_action a)) (nest_action b))
  nest_action (Case at k full parallel selector bs) = Within at (nest_branches bs (beside selector Nothing))
  nest_action (For at i start c j step body) = Within at (Both (beside step (beside c (beside start Nothing))) (nest_action body))
  nest_action (Block at l body) = Within at (nest_actions body Nothing)

  pub nest_actions : Actions → Nest → Nest
  nest_actions no_actions before = before
  nest_actions (more_actions a others) before = nest_actions others (Both before (nest_action a))

  pub nest_branch : Branch → Nest → Nest
  nest_branch (Labelled labels body) before = Both (all_beside beside labels before) (nest_action body)
  nest_branch (Default at body) before = Both before (nest_action body)

  pub nest_branches : Branches → Nest → Nest
  nest_branches no_branches before = before
  nest_branches (more_branches b others) before = nest_branches others (nest_branch b before)

-- what becomes of what was read before a target or a statement
abbrev pub beside_target : Target → Nest → Nest
beside_target t before = Both before (nest_target t)

abbrev pub beside_action : Action → Nest → Nest
beside_action a before = Both before (nest_action a)

-- ---- items

abbrev pub net : Net → Nest → Nest
net n before = valued n.value before

abbrev pub setting : Formula → Nest → Nest
setting f before = beside f before

abbrev pub valuation : Valuation → Nest → Nest
valuation v before = beside v.value before

abbrev pub drive : Drive → Nest → Nest
drive d before = beside d.value (beside_target d.target before)

abbrev pub gate_drive : GateDrive → Nest → Nest
gate_drive d before = beside d.value (all_beside beside_target d.outputs before)

abbrev pub happening : Happening → Nest → Nest
happening (Edge e at name) before = before
happening (Change name) before = before
happening (ChangeBit name index) before = beside index before
happening (ChangePart name msb lsb) before = beside lsb (beside msb before)

abbrev pub awaited : Sensitivity → Nest → Nest
awaited Star before = before
awaited StarInParens before = before
awaited (Listed es) before = all_beside happening es before

abbrev pub positional : Positional → Nest → Nest
positional x before = valued x.value before

abbrev pub associated : Associated → Nest → Nest
associated x before = valued x.value before

abbrev pub arguments : Association → Nest → Nest
arguments (ByPosition xs) before = all_beside positional xs before
arguments (ByName xs) before = all_beside associated xs before

abbrev pub placed : Instantiation → Nest → Nest
placed p before = arguments p.connections before

abbrev pub in_item : ModuleItem → Nest → Nest
in_item (Ports h names) before = all_beside skip names (bounded h.bounds before)
in_item (Nets at signed bounds nets) before = all_beside net nets (bounded bounds before)
in_item (Variables at signed bounds variables) before = all_beside skip variables (bounded bounds before)
in_item (Integers at names) before = all_beside skip names before
in_item (Parameters at k bounds values) before = all_beside valuation values (bounded bounds before)
in_item (Drives at pause drives) before = all_beside drive drives (paused pause before)
in_item (Gates at names pause drives) before = all_beside gate_drive drives (paused pause before)
in_item (Always at s body) before = beside_action body (awaited s before)
in_item (Instances child parameters instantiations) before = all_beside placed instantiations (arguments parameters before)

-- ---- gates

abbrev pub gate_spanned : GateSpan → Nest → Nest
gate_spanned (One s) before = spanned s before
gate_spanned (Two rise fall) before = beside fall (beside rise before)

abbrev pub gate_paused : Option GatePause → Nest → Nest
gate_paused None before = before
gate_paused (Some p) before = gate_spanned p.span before

abbrev pub gate : Gate → Nest → Nest
gate g before = all_beside beside g.terminals (beside_target g.output before)

-- ---- generate constructs

abbrev mutual
  pub in_written : WrittenItem → Nest → Nest
  in_written (Plain item) before = in_item item before
  in_written (Primitives at kind pause gates) before = all_beside gate gates (gate_paused pause before)
  in_written (Genvars at names) before = all_beside skip names before
  in_written (Region at items) before = Both before (Within at (in_items items Nothing))
  in_written (generate.If at c taken) before = Both before (Within at (in_made taken (beside c Nothing)))
  in_written (generate.IfElse at c taken otherwise) before = Both before (Within at (in_made otherwise (in_made taken (beside c Nothing))))
  in_written (generate.Case at selector choices) before = Both before (Within at (in_choices choices (beside selector Nothing)))
  in_written (generate.For at i start c j step body) before = Both before (Within at (in_made body (beside step (beside c (beside start Nothing)))))

  pub in_items : WrittenItems → Nest → Nest
  in_items no_items before = before
  in_items (more_items i others) before = in_items others (in_written i before)

  pub in_made : GenerateBlock → Nest → Nest
  in_made (generate.Null at) before = Both before (Within at Nothing)
  in_made (Single item) before = in_written item before
  in_made (generate.Block at label items) before = Both before (Within at (in_items items Nothing))

  pub in_choice : GenerateChoice → Nest → Nest
  in_choice (generate.Labelled labels body) before = in_made body (all_beside beside labels before)
  in_choice (generate.Default at body) before = in_made body before

  pub in_choices : GenerateChoices → Nest → Nest
  in_choices no_choices before = before
  in_choices (more_choices c others) before = in_choices others (in_choice c before)

-- ---- modules

abbrev pub headed : Option Head → Nest → Nest
headed None before = before
headed (Some h) before = bounded h.bounds before

abbrev pub heading : Option Heading → Nest → Nest
heading None before = before
heading (Some h) before = bounded h.bounds before

abbrev pub head_parameter : HeaderParameter → Nest → Nest
head_parameter p before = beside p.value (heading p.heading before)

abbrev pub head_port : HeaderPort → Nest → Nest
head_port p before = headed p.head before

abbrev pub in_header : Header → Nest → Nest
in_header Absent before = before
in_header Empty before = before
in_header (Declared ports) before = all_beside head_port ports before
in_header (modules.Named names) before = all_beside skip names before

abbrev pub in_circuit : WrittenCircuit → Nest → Nest
in_circuit c before = all_beside in_written c.items (in_header c.header (all_beside head_parameter c.parameters before))
