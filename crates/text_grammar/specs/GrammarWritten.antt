-- Which tokens spell which item of a module as it is written: plain ones, gates, and generate constructs (IEEE 1364-2001 section
-- 12.1.3 and annexes A.1.5, A.3.1 and A.4.2; the word `generate` may be left out, as in 1364-2005).
-- Worked examples: crates/tests_layers/stdin.
use Rattle.std.specs.Prelude.{◌≡◌, ℕ, ◌≤◌, ◌+◌, Bool, true, false}
use Rattle.rtl_tree.specs.declared.symbol.Symbol.TheVariants as symbol
use Rattle.rtl_tree.specs.TreeItem.{ModuleItem, Ports, Nets, Variables, Integers, Parameters, Drives, Gates, Always, Instances}
use Rattle.rtl_tree.specs.TreeWritten.{WrittenItem, Plain, Primitives, Genvars, Region, If, IfElse, Case, For, WrittenItems, no_items, more_items, GenerateBlock, Null, Single, Block, GenerateChoice, Labelled, Default, GenerateChoices, no_choices, more_choices}
use Rattle.text_grammar.specs.Grammar.{Spelling, ◌⨾◌, Nothing, Never, IsA, IsAt, IsName, IsOptional, AreListed}
use Rattle.text_grammar.specs.GrammarExpr.{IsExpression}
use Rattle.text_grammar.specs.GrammarStmt as statement
use Rattle.text_grammar.specs.GrammarStmt.{Marked, IsLabel, IsDefaultEnd}
use Rattle.text_grammar.specs.GrammarItem.{IsItem}
use Rattle.text_grammar.specs.GrammarGate.{IsGatePause, IsGate, gate_symbol}

-- whether an item ends in an `if` to which a following `else` would belong
abbrev pub item_ends_open : ModuleItem → Bool
item_ends_open (Always at sensitivity body) = statement.ends_open body
item_ends_open (Ports head names) = false
item_ends_open (Nets at signed bounds nets) = false
item_ends_open (Variables at signed bounds variables) = false
item_ends_open (Integers at names) = false
item_ends_open (Parameters at kind bounds values) = false
item_ends_open (Drives at pause drives) = false
item_ends_open (Gates at names pause drives) = false
item_ends_open (Instances child parameters instantiations) = false

abbrev mutual
  pub ends_open : WrittenItem → Bool
  ends_open (Plain item) = item_ends_open item
  ends_open (Primitives at kind pause gates) = false
  ends_open (Genvars at names) = false
  ends_open (Region at items) = false
  ends_open (If at condition taken) = true
  ends_open (IfElse at condition taken otherwise) = block_ends_open otherwise
  ends_open (Case at selector listed) = false
  ends_open (For at index start condition stepped step body) = block_ends_open body

  pub block_ends_open : GenerateBlock → Bool
  block_ends_open (Null at) = false
  block_ends_open (Single item) = ends_open item
  block_ends_open (Block at label items) = false

-- whether attributes may stand before an item; none stand before an `if`, a `case` or a `for` of generate
abbrev pub takes_attributes : WrittenItem → Bool
takes_attributes (Plain item) = true
takes_attributes (Primitives at kind pause gates) = true
takes_attributes (Genvars at names) = true
takes_attributes (Region at items) = true
takes_attributes (If at condition taken) = false
takes_attributes (IfElse at condition taken otherwise) = false
takes_attributes (Case at selector listed) = false
takes_attributes (For at index start condition stepped step body) = false

-- what is spelled after attributes, where they may stand before it
abbrev pub MarkedIf : Bool → Spelling → Spelling
MarkedIf true p = Marked (λ marks. p)
MarkedIf false p = p

-- how many choices of a case are its default
abbrev pub defaults : GenerateChoices → ℕ
defaults no_choices = 0
defaults (more_choices (Labelled labels body) others) = defaults others
defaults (more_choices (Default at body) others) = 1 + defaults others

abbrev mutual
  -- an item after its attributes; an `else` belongs to the nearest `if`
  pub IsUnmarked : WrittenItem → Spelling
  IsUnmarked (Plain item) = IsItem item
  IsUnmarked (Primitives at k pause gates) =
      IsAt (gate_symbol k) at ⨾ IsOptional IsGatePause pause ⨾ AreListed (IsGate k) gates ⨾ IsA symbol.Semicolon
  IsUnmarked (Genvars at names) = IsAt symbol.Genvar at ⨾ AreListed IsName names ⨾ IsA symbol.Semicolon
  IsUnmarked (Region at items) = IsAt symbol.Generate at ⨾ AreWritten items ⨾ IsA symbol.Endgenerate
  IsUnmarked (If at condition taken) =
      IsAt symbol.If at ⨾ IsA symbol.OpenParen ⨾ IsExpression condition ⨾ IsA symbol.CloseParen ⨾ IsMade taken
  IsUnmarked (IfElse at condition taken otherwise) =
      λ tokens rest. (block_ends_open taken ≡ false) × (IsAt symbol.If at ⨾ IsA symbol.OpenParen ⨾ IsExpression condition ⨾ IsA symbol.CloseParen ⨾ IsMade taken ⨾ IsA symbol.Else ⨾ IsMade otherwise) tokens rest
  IsUnmarked (Case at selector choices) =
      λ tokens rest. (defaults choices ≤ 1) × (IsAt symbol.Case at ⨾ IsA symbol.OpenParen ⨾ IsExpression selector ⨾ IsA symbol.CloseParen ⨾ AreChoices choices ⨾ IsA symbol.Endcase) tokens rest
  IsUnmarked (For at index start condition stepped step body) =
      IsAt symbol.For at ⨾ IsA symbol.OpenParen ⨾ IsName index ⨾ IsA symbol.Equals ⨾ IsExpression start ⨾ IsA symbol.Semicolon ⨾ IsExpression condition ⨾ IsA symbol.Semicolon
      ⨾ IsName stepped ⨾ IsA symbol.Equals ⨾ IsExpression step ⨾ IsA symbol.CloseParen ⨾ IsMade body

  -- items in a row
  pub AreWritten : WrittenItems → Spelling
  AreWritten no_items = Nothing
  AreWritten (more_items first others) = MarkedIf (takes_attributes first) (IsUnmarked first) ⨾ AreWritten others

  -- what a construct makes
  pub IsMade : GenerateBlock → Spelling
  IsMade (Null at) = IsAt symbol.Semicolon at
  IsMade (Single item) = MarkedIf (takes_attributes item) (IsUnmarked item)
  IsMade (Block at label items) = IsAt symbol.Begin at ⨾ IsOptional IsLabel label ⨾ AreWritten items ⨾ IsA symbol.End

  -- a choice of a case
  pub IsChoice : GenerateChoice → Spelling
  IsChoice (Labelled labels body) = AreListed IsExpression labels ⨾ IsA symbol.Colon ⨾ IsMade body
  IsChoice (Default at body) = IsAt symbol.Default at ⨾ IsDefaultEnd ⨾ IsMade body

  -- one or more choices
  pub AreChoices : GenerateChoices → Spelling
  AreChoices no_choices = Never
  AreChoices (more_choices first others) = IsChoice first ⨾ AreMoreChoices others

  -- further choices
  pub AreMoreChoices : GenerateChoices → Spelling
  AreMoreChoices no_choices = Nothing
  AreMoreChoices (more_choices first others) = IsChoice first ⨾ AreMoreChoices others

-- an item with the attributes before it
abbrev pub IsWritten : WrittenItem → Spelling
IsWritten item = MarkedIf (takes_attributes item) (IsUnmarked item)
