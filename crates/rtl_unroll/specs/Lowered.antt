-- Generate constructs with assignments in place of gates, and a label at each loop (IEEE 1364-2001 section 12.1.3, and
-- IEEE 1364-2005 section 12.4.3 for names of loops without a label).
-- Worked examples: crates/rtl_unroll/proofs/Examples.antt.
use Rattle.std.specs.Prelude.{ℕ, ◌+◌, ◌++◌, codes, None, Some}
use Rattle.std.specs.Fmt.{decimal}
use Rattle.rtl_tree.specs.TreeExpr.{Identifier}
use Rattle.rtl_tree.specs.TreeWritten.{WrittenItem, Plain, Primitives, Genvars, Region, If, IfElse, Case, For, WrittenItems, no_items, more_items, GenerateBlock, Null, Single, Block, GenerateChoice, Labelled, Default, GenerateChoices, no_choices, more_choices}
use Rattle.rtl_unroll.specs.Gates.{gates_item}
use Rattle.rtl_unroll.specs.Numbering.{without_outer, item_constructs, block_constructs, choice_constructs}

-- the label of a loop without one: `genblk` and its number, from 1, among the constructs of its scope
abbrev pub loop_name : ℕ → ℕ → Identifier
loop_name number at = record { text = codes "genblk" ++ decimal number; at = at }

abbrev mutual
  -- an item behind so many constructs of its scope
  pub lowered_item : ℕ → WrittenItem → WrittenItem
  lowered_item count (Plain item) = Plain item
  lowered_item count (Primitives at kind pause gates) = Plain (gates_item at kind pause gates)
  lowered_item count (Genvars at names) = Genvars at names
  lowered_item count (Region at items) = Region at (lowered_items count items)
  lowered_item count (If at condition taken) = If at condition (lowered_block (count + 1) taken)
  lowered_item count (IfElse at condition taken otherwise) =
      let behind = count + 1 + block_constructs taken in
      IfElse at condition (lowered_block (count + 1) taken) (lowered_block behind otherwise)
  lowered_item count (Case at selector choices) = Case at selector (lowered_choices (count + 1) choices)
  lowered_item count (For at index start condition stepped step body) =
      For at index start condition stepped step (lowered_body (count + 1) at body)

  pub lowered_items : ℕ → WrittenItems → WrittenItems
  lowered_items count no_items = no_items
  lowered_items count (more_items first others) =
      more_items (lowered_item count first) (lowered_items (count + item_constructs first) others)

  -- what a branch of a construct makes, where the construct is the last of so many
  pub lowered_block : ℕ → GenerateBlock → GenerateBlock
  lowered_block count (Null at) = Null at
  lowered_block count (Single item) = Single (lowered_item (without_outer item count) item)
  lowered_block count (Block at None items) = Block at None (lowered_items count items)
  lowered_block count (Block at (Some label) items) = Block at (Some label) (lowered_items 0 items)

  -- what the loop with a number, at a place, makes: always between `begin` and `end`, with a label
  pub lowered_body : ℕ → ℕ → GenerateBlock → GenerateBlock
  lowered_body number at (Null own) = Block own (Some (loop_name number at)) no_items
  lowered_body number at (Single item) =
      Block at (Some (loop_name number at)) (more_items (lowered_item 0 item) no_items)
  lowered_body number at (Block own None items) = Block own (Some (loop_name number at)) (lowered_items 0 items)
  lowered_body number at (Block own (Some label) items) = Block own (Some label) (lowered_items 0 items)

  pub lowered_choice : ℕ → GenerateChoice → GenerateChoice
  lowered_choice count (Labelled labels body) = Labelled labels (lowered_block count body)
  lowered_choice count (Default at body) = Default at (lowered_block count body)

  pub lowered_choices : ℕ → GenerateChoices → GenerateChoices
  lowered_choices count no_choices = no_choices
  lowered_choices count (more_choices first others) =
      more_choices (lowered_choice count first) (lowered_choices (count + choice_constructs first) others)
