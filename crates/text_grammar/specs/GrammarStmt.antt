-- Which tokens spell which statement (IEEE 1364-2001 annexes A.6, A.8.5 and A.9.1): one case for each alternative.
-- Worked examples: crates/tests_layers/stdin.
use Rattle.std.specs.Prelude.{◌≡◌, ℕ, ◌≤◌, ◌+◌, ◌⊎◌, Bool, true, false, ◌||◌, List, codes}
use Rattle.std.specs.List.{list_any}
use Rattle.std.specs.Str.{bytes_eq}
use Rattle.rtl_tree.specs.declared.tree.stmt.AssignmentKind.{AssignmentKind}
use Rattle.rtl_tree.specs.declared.tree.stmt.AssignmentKind.TheVariants as assignment
use Rattle.rtl_tree.specs.declared.tree.stmt.CaseKind.{CaseKind}
use Rattle.rtl_tree.specs.declared.tree.stmt.CaseKind.TheVariants as kind
use Rattle.rtl_tree.specs.declared.symbol.Symbol.{Symbol}
use Rattle.rtl_tree.specs.declared.symbol.Symbol.TheVariants as symbol
use Rattle.rtl_tree.specs.TreeExpr.{Formula, Identifier}
use Rattle.rtl_tree.specs.TreeStmt.{Target, Whole, Bit, Part, Joined, Targets, no_targets, more_targets, Span, Fixed, Named, Valued, Pause, Action, Null, Delayed, Assign, If, IfElse, Case, For, Block, Actions, no_actions, more_actions, Branch, Labelled, Default, Branches, no_branches, more_branches}
use Rattle.text_grammar.specs.Grammar.{Spelling, ◌⨾◌, Nothing, Never, One, IsA, IsAt, IsName, IsNumber, IsOptional, AreAll, AreListed}
use Rattle.text_grammar.specs.GrammarExpr.{IsExpression, part_symbol}

-- ---- attributes (2.8)

-- the value of an attribute
abbrev pub IsAttributeValue : Spelling
IsAttributeValue = λ tokens rest. ((value : Formula) × IsExpression value tokens rest) ⊎ IsA symbol.Quoted tokens rest

-- an attribute with this name
abbrev pub IsAttribute : Identifier → Spelling
IsAttribute name = λ tokens rest. IsName name tokens rest ⊎ (IsName name ⨾ IsA symbol.Equals ⨾ IsAttributeValue) tokens rest

-- attributes in one pair of marks
abbrev pub AreMarked : List Identifier → Spelling
AreMarked names = IsA symbol.OpenAttribute ⨾ AreListed IsAttribute names ⨾ IsA symbol.CloseAttribute

-- all attributes before an item or a statement
abbrev pub AreAttributes : List (List Identifier) → Spelling
AreAttributes = AreAll AreMarked

-- what is spelled after the attributes before it
abbrev pub Marked : (List (List Identifier) → Spelling) → Spelling
Marked p = λ tokens rest. (attributes : List (List Identifier)) × (AreAttributes attributes ⨾ p attributes) tokens rest

-- one of the attributes has this name
abbrev pub names : List ℕ → List (List Identifier) → Bool
names text attributes = list_any (λ marked. list_any (λ name. bytes_eq name.text text) marked) attributes

-- ---- targets and delays

abbrev mutual
  -- the left side of an assignment
  pub IsTarget : Target → Spelling
  IsTarget (Whole name) = IsName name
  IsTarget (Bit name index) = IsName name ⨾ IsA symbol.OpenBracket ⨾ IsExpression index ⨾ IsA symbol.CloseBracket
  IsTarget (Part name kind first second) =
      IsName name ⨾ IsA symbol.OpenBracket ⨾ IsExpression first ⨾ IsA (part_symbol kind) ⨾ IsExpression second ⨾ IsA symbol.CloseBracket
  IsTarget (Joined at parts) = IsAt symbol.OpenBrace at ⨾ AreTargets parts ⨾ IsA symbol.CloseBrace

  -- one or more targets, with commas between them
  pub AreTargets : Targets → Spelling
  AreTargets no_targets = Never
  AreTargets (more_targets first others) = IsTarget first ⨾ AreMoreTargets others

  -- further targets, each after a comma
  pub AreMoreTargets : Targets → Spelling
  AreMoreTargets no_targets = Nothing
  AreMoreTargets (more_targets first others) = IsA symbol.Comma ⨾ IsTarget first ⨾ AreMoreTargets others

abbrev pub IsSpan : Span → Spelling
IsSpan (Fixed value) = IsNumber value
IsSpan (Named name) = IsName name
IsSpan (Valued value) = IsA symbol.OpenParen ⨾ IsExpression value ⨾ IsA symbol.CloseParen

-- a delay
abbrev pub IsPause : Pause → Spelling
IsPause pause = IsAt symbol.Hash pause.at ⨾ IsSpan pause.span

-- ---- statements

abbrev pub assignment_symbol : AssignmentKind → Symbol
assignment_symbol assignment.Blocking = symbol.Equals
assignment_symbol assignment.Nonblocking = symbol.LessEquals

abbrev pub case_symbol : CaseKind → Symbol
case_symbol kind.Plain = symbol.Case
case_symbol kind.Z = symbol.Casez
case_symbol kind.X = symbol.Casex

-- whether a statement ends in an `if` to which a following `else` would belong
abbrev pub ends_open : Action → Bool
ends_open (If at condition taken) = true
ends_open (IfElse at condition taken otherwise) = ends_open otherwise
ends_open (Delayed pause body) = ends_open body
ends_open (For at index start condition stepped step body) = ends_open body
ends_open (Null at) = false
ends_open (Assign target kind pause value) = false
ends_open (Case at kind full parallel selector items) = false
ends_open (Block at label body) = false

-- how many items of a case are its default
abbrev pub defaults : Branches → ℕ
defaults no_branches = 0
defaults (more_branches (Labelled labels body) others) = defaults others
defaults (more_branches (Default at body) others) = 1 + defaults others

-- the `)` after the selector of a case, and what the pragmas after it say
abbrev pub IsSelectorEnd : Bool → Bool → Spelling
IsSelectorEnd full parallel = One (λ t. (t.symbol ≡ symbol.CloseParen) × (t.full ≡ full) × (t.parallel ≡ parallel))

abbrev pub IsLabel : Identifier → Spelling
IsLabel name = IsA symbol.Colon ⨾ IsName name

-- the colon after `default`, which may be left out
abbrev pub IsDefaultEnd : Spelling
IsDefaultEnd = λ tokens rest. Nothing tokens rest ⊎ IsA symbol.Colon tokens rest

abbrev mutual
  -- a statement after these attributes; an `else` belongs to the nearest `if`; that a case is full or parallel is said by its
  -- attributes or by a pragma
  pub IsAction : List (List Identifier) → Action → Spelling
  IsAction attributes (Null at) = IsAt symbol.Semicolon at
  IsAction attributes (Delayed pause body) = IsPause pause ⨾ Marked (λ marks. IsAction marks body)
  IsAction attributes (Assign target kind pause value) =
      IsTarget target ⨾ IsA (assignment_symbol kind) ⨾ IsOptional IsPause pause ⨾ IsExpression value ⨾ IsA symbol.Semicolon
  IsAction attributes (If at condition taken) =
      IsAt symbol.If at ⨾ IsA symbol.OpenParen ⨾ IsExpression condition ⨾ IsA symbol.CloseParen ⨾ Marked (λ marks. IsAction marks taken)
  IsAction attributes (IfElse at condition taken otherwise) =
      λ tokens rest. (ends_open taken ≡ false) × (IsAt symbol.If at ⨾ IsA symbol.OpenParen ⨾ IsExpression condition ⨾ IsA symbol.CloseParen ⨾ Marked (λ marks. IsAction marks taken) ⨾ IsA symbol.Else ⨾ Marked (λ marks. IsAction marks otherwise)) tokens rest
  IsAction attributes (Case at kind full parallel selector branches) =
      λ tokens rest. (full_pragma : Bool) × (parallel_pragma : Bool) × (full ≡ (names (codes "full_case") attributes || full_pragma)) × (parallel ≡ (names (codes "parallel_case") attributes || parallel_pragma)) × (defaults branches ≤ 1)
      × (IsAt (case_symbol kind) at ⨾ IsA symbol.OpenParen ⨾ IsExpression selector ⨾ IsSelectorEnd full_pragma parallel_pragma ⨾ AreBranches branches ⨾ IsA symbol.Endcase) tokens rest
  IsAction attributes (For at index start condition stepped step body) =
      IsAt symbol.For at ⨾ IsA symbol.OpenParen ⨾ IsName index ⨾ IsA symbol.Equals ⨾ IsExpression start ⨾ IsA symbol.Semicolon ⨾ IsExpression condition ⨾ IsA symbol.Semicolon
      ⨾ IsName stepped ⨾ IsA symbol.Equals ⨾ IsExpression step ⨾ IsA symbol.CloseParen ⨾ Marked (λ marks. IsAction marks body)
  IsAction attributes (Block at label body) =
      IsAt symbol.Begin at ⨾ IsOptional IsLabel label ⨾ AreStatements body ⨾ IsA symbol.End

  -- statements in a row
  pub AreStatements : Actions → Spelling
  AreStatements no_actions = Nothing
  AreStatements (more_actions first others) = Marked (λ marks. IsAction marks first) ⨾ AreStatements others

  -- an item of a case
  pub IsBranch : Branch → Spelling
  IsBranch (Labelled labels body) = AreListed IsExpression labels ⨾ IsA symbol.Colon ⨾ Marked (λ marks. IsAction marks body)
  IsBranch (Default at body) = IsAt symbol.Default at ⨾ IsDefaultEnd ⨾ Marked (λ marks. IsAction marks body)

  -- one or more items of a case
  pub AreBranches : Branches → Spelling
  AreBranches no_branches = Never
  AreBranches (more_branches first others) = IsBranch first ⨾ AreMoreBranches others

  -- further items of a case
  pub AreMoreBranches : Branches → Spelling
  AreMoreBranches no_branches = Nothing
  AreMoreBranches (more_branches first others) = IsBranch first ⨾ AreMoreBranches others

-- a statement with the attributes before it
abbrev pub IsStatement : Action → Spelling
IsStatement a = Marked (λ marks. IsAction marks a)
