-- The plain form of the items of a module as they are written: plain ones, gates, and generate constructs (IEEE 1364-2001 section
-- 12.1.3).
-- Worked examples: crates/tests_layers/stdin.
use Rattle.std.specs.Prelude.{ℕ, List, [], ◌∷◌, map, Option}
use Rattle.std.specs.Option.{option_map}
use Rattle.rtl_tree.specs.TreeExpr.{Identifier, Formula, identifier, formula}
use Rattle.rtl_tree.specs.TreeItem.{ModuleItem, module_item}
use Rattle.rtl_tree.specs.TreeGate.{GatePause, Gate, gate, gate_pause}
use Rattle.rtl_tree.specs.declared.tree.gate.GateKind.{GateKind}
use Rattle.rtl_tree.specs.declared.tree.written.GenerateBlock.{GenerateBlock as MadeBlock}
use Rattle.rtl_tree.specs.declared.tree.written.GenerateBlock.TheVariants as block
use Rattle.rtl_tree.specs.declared.tree.written.GenerateChoice.{GenerateChoice as MadeChoice}
use Rattle.rtl_tree.specs.declared.tree.written.GenerateChoice.TheVariants as chosen
use Rattle.rtl_tree.specs.declared.tree.written.WrittenItem as items
use Rattle.rtl_tree.specs.declared.tree.written.WrittenItem.TheVariants as written

mutual
  -- an item of a module as it is written
  pub data WrittenItem : Type 0 where
    Plain : (item : ModuleItem) → WrittenItem
    Primitives : (at : ℕ) (kind : GateKind) (pause : Option GatePause) (gates : List Gate) → WrittenItem
    Genvars : (at : ℕ) (names : List Identifier) → WrittenItem
    Region : (at : ℕ) (items : WrittenItems) → WrittenItem
    If : (at : ℕ) (condition : Formula) (taken : GenerateBlock) → WrittenItem
    IfElse : (at : ℕ) (condition : Formula) (taken otherwise : GenerateBlock) → WrittenItem
    Case : (at : ℕ) (selector : Formula) (choices : GenerateChoices) → WrittenItem
    For : (at : ℕ) (index : Identifier) (start condition : Formula) (stepped : Identifier) (step : Formula) (body : GenerateBlock) → WrittenItem

  -- items in a row
  pub data WrittenItems : Type 0 where
    no_items : WrittenItems
    more_items : (first : WrittenItem) (others : WrittenItems) → WrittenItems

  -- what a construct makes: nothing, an item alone, or the items between `begin` and `end`
  pub data GenerateBlock : Type 0 where
    Null : (at : ℕ) → GenerateBlock
    Single : (item : WrittenItem) → GenerateBlock
    Block : (at : ℕ) (label : Option Identifier) (items : WrittenItems) → GenerateBlock

  -- a choice of a generate `case`
  pub data GenerateChoice : Type 0 where
    Labelled : (labels : List Formula) (body : GenerateBlock) → GenerateChoice
    Default : (at : ℕ) (body : GenerateBlock) → GenerateChoice

  -- choices in a row
  pub data GenerateChoices : Type 0 where
    no_choices : GenerateChoices
    more_choices : (first : GenerateChoice) (others : GenerateChoices) → GenerateChoices

-- the row of a list of items
abbrev pub item_row : List WrittenItem → WrittenItems
item_row [] = no_items
item_row (first ∷ others) = more_items first (item_row others)

-- the list of a row of items
abbrev pub item_list : WrittenItems → List WrittenItem
item_list no_items = []
item_list (more_items first others) = first ∷ item_list others

-- the row of a list of choices
abbrev pub choice_row : List GenerateChoice → GenerateChoices
choice_row [] = no_choices
choice_row (first ∷ others) = more_choices first (choice_row others)

-- the list of a row of choices
abbrev pub choice_list : GenerateChoices → List GenerateChoice
choice_list no_choices = []
choice_list (more_choices first others) = first ∷ choice_list others

abbrev mutual
  pub written_item : items.WrittenItem → WrittenItem
  written_item (written.Plain item) = Plain (module_item item)
  written_item (written.Gates at kind delay gates) =
      Primitives at kind (option_map gate_pause delay) (map gate gates.items)
  written_item (written.Genvars at names) = Genvars at (map identifier names.items)
  written_item (written.Region' at shape row) = Region at (written_items row)
  written_item (written.If at condition taken) = If at (formula condition) (made taken)
  written_item (written.IfElse at condition taken otherwise) =
      IfElse at (formula condition) (made taken) (made otherwise)
  written_item (written.Case' at selector shape row) = Case at (formula selector) (choices row)
  written_item (written.For at index start condition stepped step body) =
      For at (identifier index) (formula start) (formula condition) (identifier stepped) (formula step) (made body)

  pub written_items : {m : _} → items.Row_of-WrittenItem m → WrittenItems
  written_items items.end_of-WrittenItem = no_items
  written_items (items.more_of-WrittenItem first others) = more_items (written_item first) (written_items others)

  pub made : MadeBlock → GenerateBlock
  made (block.Null at) = Null at
  made (block.Single' p item) = Single (written_item item)
  made (block.Block' at label shape row) = Block at (option_map identifier label) (written_items row)

  pub choice : MadeChoice → GenerateChoice
  choice (chosen.Labelled labels body) = Labelled (map formula labels.items) (made body)
  choice (chosen.Default at body) = Default at (made body)

  pub choices : {m : _} → items.Row_of-GenerateChoice m → GenerateChoices
  choices items.end_of-GenerateChoice = no_choices
  choices (items.more_of-GenerateChoice first others) = more_choices (choice first) (choices others)
