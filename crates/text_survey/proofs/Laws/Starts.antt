-- What begins an expression or a statement, and what comes after parts of lists.
use Rattle.std.proofs.Common.{◌≡◌, ℕ, ◌<◌, Bool, true, false, List, [], ◌∷◌, Option, Some, None, refl, ap, ◌∙◌, arith}
use Rattle.rtl_tree.specs.declared.symbol.Symbol.{Symbol}
use Rattle.rtl_tree.specs.declared.symbol.Symbol.TheVariants as symbol
use Rattle.rtl_tree.specs.declared.tree.operators.UnaryOperator.{UnaryOperator}
use Rattle.rtl_tree.specs.declared.tree.operators.UnaryOperator.TheVariants as unary
use Rattle.rtl_tree.specs.declared.tree.operators.SystemFunction.{SystemFunction}
use Rattle.rtl_tree.specs.declared.tree.operators.SystemFunction.TheVariants as sign
use Rattle.rtl_tree.specs.Symbols.{Terminal}
use Rattle.rtl_tree.specs.TreeExpr.{Formula, Number, Read, ReadBit, ReadPart, Parens, Apply, Concat, Repeat, Unary, Binary, Choose}
use Rattle.text_grammar.specs.Grammar.{IsA}
use Rattle.text_grammar.specs.GrammarExpr.{IsFormula, unary_symbol, function_symbol, level}
use Rattle.text_survey.specs.declared.task.Task.TheVariants as task
use Rattle.text_survey.specs.declared.task.Taking.TheVariants as taking
use Rattle.text_survey.specs.Table.{go, same_symbol, is_next, looseness}
use Rattle.text_survey.specs.Rule.{rule}
use Rattle.text_survey.specs.Machine.{symbol_at}
use Rattle.text_survey.proofs.Laws.Expressions.{head}

-- an expression begins here
abbrev pub opens : Option Symbol → Bool
opens (Some symbol.Number) = true
opens (Some symbol.Name) = true
opens (Some symbol.OpenParen) = true
opens (Some symbol.ToSigned) = true
opens (Some symbol.ToUnsigned) = true
opens (Some symbol.Clog2) = true
opens (Some symbol.OpenBrace) = true
opens (Some symbol.Plus) = true
opens (Some symbol.Minus) = true
opens (Some symbol.Bang) = true
opens (Some symbol.Tilde) = true
opens (Some symbol.Ampersand) = true
opens (Some symbol.TildeAmpersand) = true
opens (Some symbol.Bar) = true
opens (Some symbol.TildeBar) = true
opens (Some symbol.Caret) = true
opens (Some symbol.TildeCaret) = true
opens other = false

-- a statement begins here
abbrev pub begins : Option Symbol → Bool
begins (Some symbol.OpenAttribute) = true
begins (Some symbol.Semicolon) = true
begins (Some symbol.Hash) = true
begins (Some symbol.Name) = true
begins (Some symbol.OpenBrace) = true
begins (Some symbol.If) = true
begins (Some symbol.Case) = true
begins (Some symbol.Casez) = true
begins (Some symbol.Casex) = true
begins (Some symbol.Begin) = true
begins (Some symbol.For) = true
begins other = false

-- a part of a list ends here
abbrev pub closes : Option Symbol → Bool
closes (Some symbol.Comma) = true
closes (Some symbol.Semicolon) = true
closes (Some symbol.Colon) = true
closes (Some symbol.CloseParen) = true
closes (Some symbol.CloseBrace) = true
closes (Some symbol.CloseAttribute) = true
closes other = false

abbrev pub Opens : List Terminal → Type 0
Opens ts = opens (symbol_at ts) ≡ true

abbrev pub Begins : List Terminal → Type 0
Begins ts = begins (symbol_at ts) ≡ true

abbrev pub Closes : List Terminal → Type 0
Closes ts = closes (symbol_at ts) ≡ true

pub opens_by : (s : Symbol) (ts rest : List Terminal) → opens (Some s) ≡ true → IsA s ts rest → Opens ts
opens_by s ts rest e w = ap opens (head s ts rest w) ∙ e

pub begins_by : (s : Symbol) (ts rest : List Terminal) → begins (Some s) ≡ true → IsA s ts rest → Begins ts
begins_by s ts rest e w = ap begins (head s ts rest w) ∙ e

pub closes_by : (s : Symbol) (ts rest : List Terminal) → closes (Some s) ≡ true → IsA s ts rest → Closes ts
closes_by s ts rest e w = ap closes (head s ts rest w) ∙ e

opens_unary : (op : UnaryOperator) → opens (Some (unary_symbol op)) ≡ true
opens_unary unary.Plus = refl
opens_unary other = refl

opens_convert : (s : SystemFunction) → opens (Some (function_symbol s)) ≡ true
opens_convert sign.Signed = refl
opens_convert sign.Unsigned = refl
opens_convert sign.Clog2 = refl

pub formula_opens : (f : Formula) (k : ℕ) (ts rest : List Terminal) → IsFormula k f ts rest → Opens ts
formula_opens (Number value at) k ts rest w = opens_by symbol.Number ts rest refl (w.0, w.1, w.2.0)
formula_opens (Read name) k ts rest w = opens_by symbol.Name ts rest refl (w.0, w.1, w.2.0)
formula_opens (ReadBit name index) k ts rest w = opens_by symbol.Name ts w.0 refl (w.1.0, w.1.1, w.1.2.0)
formula_opens (ReadPart name kind msb lsb) k ts rest w = opens_by symbol.Name ts w.0 refl (w.1.0, w.1.1, w.1.2.0)
formula_opens (Parens at inner) k ts rest w = opens_by symbol.OpenParen ts w.0 refl (w.1.0, w.1.1, w.1.2.0)
formula_opens (Apply s at inner) k ts rest w = opens_by (function_symbol s) ts w.0 (opens_convert s) (w.1.0, w.1.1, w.1.2.0)
formula_opens (Concat at parts) k ts rest w = opens_by symbol.OpenBrace ts w.0 refl (w.1.0, w.1.1, w.1.2.0)
formula_opens (Repeat at times parts) k ts rest w = opens_by symbol.OpenBrace ts w.0 refl (w.1.0, w.1.1, w.1.2.0)
formula_opens (Unary op at operand) k ts rest w = opens_by (unary_symbol op) ts w.0 (opens_unary op) (w.1.0, w.1.1, w.1.2.0)
formula_opens (Binary op at l r) k ts rest w = formula_opens l (level op) ts w.1.0 w.1.1
formula_opens (Choose at c t o) k ts rest w = formula_opens c 11 ts w.1.0 w.1.1

-- ---- what a task does there

pub closes_ends : (o : Option Symbol) → closes o ≡ true → 12 < looseness o
closes_ends None h = cc
closes_ends (Some symbol.Comma) h = omega arith
closes_ends (Some symbol.Semicolon) h = omega arith
closes_ends (Some symbol.Colon) h = omega arith
closes_ends (Some symbol.CloseParen) h = omega arith
closes_ends (Some symbol.CloseBrace) h = omega arith
closes_ends (Some symbol.CloseAttribute) h = omega arith
closes_ends (Some other) h = cc

pub closes_equals : (o : Option Symbol) → closes o ≡ true → is_next symbol.Equals o ≡ false
unfolding same_symbol
closes_equals (Some symbol.Equals) h = cc
closes_equals None h = refl
closes_equals (Some other) h = refl

pub closes_initial : (o : Option Symbol) → closes o ≡ true → rule task.Initial o ≡ go taking.Nothing []
closes_initial (Some symbol.Equals) h = cc
closes_initial None h = refl
closes_initial (Some other) h = refl

pub opens_delay : (o : Option Symbol) → opens o ≡ true → is_next symbol.Hash o ≡ false
unfolding same_symbol
opens_delay (Some symbol.Hash) h = cc
opens_delay None h = refl
opens_delay (Some other) h = refl

pub opens_constant : (o : Option Symbol) → opens o ≡ true → rule task.AttributeConstant o ≡ go taking.Ahead (task.Expression ∷ task.Forget ∷ [])
opens_constant (Some symbol.Quoted) h = cc
opens_constant None h = refl
opens_constant (Some other) h = refl

pub opens_first : (o : Option Symbol) → opens o ≡ true → rule task.FirstBranch o ≡ go taking.Nothing (task.Expression ∷ task.Expressions ∷ task.Expect symbol.Colon ∷ task.Statement ∷ task.Branches ∷ [])
opens_first (Some symbol.Default) h = cc
opens_first None h = refl
opens_first (Some other) h = refl

pub opens_branches : (o : Option Symbol) → opens o ≡ true → rule task.Branches o ≡ go taking.Nothing (task.Expression ∷ task.Expressions ∷ task.Expect symbol.Colon ∷ task.Statement ∷ task.Branches ∷ [])
opens_branches (Some symbol.Default) h = cc
opens_branches (Some symbol.Endcase) h = cc
opens_branches None h = cc
opens_branches (Some other) h = refl

pub opens_labelled : (o : Option Symbol) → opens o ≡ true → rule task.Labelled o ≡ go taking.Nothing (task.Expression ∷ task.Expressions ∷ task.Expect symbol.Colon ∷ task.Statement ∷ task.Labelled ∷ [])
unfolding same_symbol
opens_labelled (Some symbol.Endcase) h = cc
opens_labelled None h = cc
opens_labelled (Some other) h = refl

pub opens_else : (o : Option Symbol) → opens o ≡ true → is_next symbol.Else o ≡ false
unfolding same_symbol
opens_else (Some symbol.Else) h = cc
opens_else None h = refl
opens_else (Some other) h = refl

pub begins_else : (o : Option Symbol) → begins o ≡ true → is_next symbol.Else o ≡ false
unfolding same_symbol
begins_else (Some symbol.Else) h = cc
begins_else None h = refl
begins_else (Some other) h = refl

pub begins_statements : (o : Option Symbol) → begins o ≡ true → rule task.Statements o ≡ go taking.Nothing (task.Statement ∷ task.Statements ∷ [])
unfolding same_symbol
begins_statements (Some symbol.End) h = cc
begins_statements None h = cc
begins_statements (Some other) h = refl

pub begins_colon : (o : Option Symbol) → begins o ≡ true → is_next symbol.Colon o ≡ false
unfolding same_symbol
begins_colon (Some symbol.Colon) h = cc
begins_colon None h = refl
begins_colon (Some other) h = refl

pub no_else : (o : Option Symbol) → is_next symbol.Else o ≡ false → rule task.Else o ≡ go taking.Nothing (task.Wrap ∷ task.Join ∷ [])
unfolding same_symbol
no_else (Some symbol.Else) h = cc
no_else None h = refl
no_else (Some other) h = refl
