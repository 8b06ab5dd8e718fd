-- How many generate constructs stand in a scope, by which a loop without a label is numbered (IEEE 1364-2001 section 12.1.3,
-- and IEEE 1364-2005 section 12.4.3 for names of loops without a label).
-- Worked examples: crates/rtl_unroll/proofs/Examples.antt.
use Rattle.std.specs.Prelude.{ℕ, ◌+◌, ◌-◌, Bool, true, false, None, Some}
use Rattle.rtl_tree.specs.TreeWritten.{WrittenItem, Plain, Primitives, Genvars, Region, If, IfElse, Case, For, WrittenItems, no_items, more_items, GenerateBlock, Null, Single, Block, GenerateChoice, Labelled, Default, GenerateChoices, no_choices, more_choices}

-- an `if` or a `case`
abbrev pub is_branching : WrittenItem → Bool
is_branching (Plain item) = false
is_branching (Primitives at kind pause gates) = false
is_branching (Genvars at names) = false
is_branching (Region at items) = false
is_branching (If at condition taken) = true
is_branching (IfElse at condition taken otherwise) = true
is_branching (Case at selector all) = true
is_branching (For at index start condition stepped step body) = false

-- a count without the construct that an item stands in alone: an `if` or a `case` there is that construct still
abbrev pub without_outer : WrittenItem → ℕ → ℕ
without_outer item count = less_if (is_branching item)
  where
    less_if : Bool → ℕ
    less_if true = count - 1
    less_if false = count

abbrev mutual
  -- how many constructs of its own scope an item is and holds; what a loop makes is a scope of its own
  pub item_constructs : WrittenItem → ℕ
  item_constructs (Plain item) = 0
  item_constructs (Primitives at kind pause gates) = 0
  item_constructs (Genvars at names) = 0
  item_constructs (Region at items) = items_constructs items
  item_constructs (If at condition taken) = 1 + block_constructs taken
  item_constructs (IfElse at condition taken otherwise) = 1 + block_constructs taken + block_constructs otherwise
  item_constructs (Case at selector choices) = 1 + choices_constructs choices
  item_constructs (For at index start condition stepped step body) = 1

  pub items_constructs : WrittenItems → ℕ
  items_constructs no_items = 0
  items_constructs (more_items first others) = item_constructs first + items_constructs others

  -- a block with a label is a scope of its own, and one without isn't
  pub block_constructs : GenerateBlock → ℕ
  block_constructs (Null at) = 0
  block_constructs (Single item) = without_outer item (item_constructs item)
  block_constructs (Block at None items) = items_constructs items
  block_constructs (Block at (Some label) items) = 0

  pub choice_constructs : GenerateChoice → ℕ
  choice_constructs (Labelled labels body) = block_constructs body
  choice_constructs (Default at body) = block_constructs body

  pub choices_constructs : GenerateChoices → ℕ
  choices_constructs no_choices = 0
  choices_constructs (more_choices first others) = choice_constructs first + choices_constructs others
