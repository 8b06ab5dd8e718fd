-- The shortest text of a task is gone through where what follows fits.
use Rattle.std.proofs.Common.{◌≡◌, cond, Bool, true, false, List, [], ◌∷◌, Option, Some, None, refl, sym, ap, ◌∙◌, arith}
use Rattle.rtl_tree.specs.declared.symbol.Symbol.{Symbol}
use Rattle.rtl_tree.specs.declared.symbol.Symbol.TheVariants as symbol
use Rattle.rtl_tree.specs.Symbols.{Terminal}
use Rattle.text_grammar.specs.Grammar.{IsA}
use Rattle.text_survey.specs.declared.task.Level.{Level}
use Rattle.text_survey.specs.declared.task.Level.TheVariants as level
use Rattle.text_survey.specs.declared.task.Task.{Task}
use Rattle.text_survey.specs.declared.task.Task.TheVariants as task
use Rattle.text_survey.specs.declared.task.Taking.TheVariants as taking
use Rattle.text_survey.specs.Table.{go, is_next, same_symbol, optional, unless, tighter, looseness}
use Rattle.text_survey.specs.Rule.{rule}
use Rattle.text_survey.specs.Machine.{symbol_at}
use Rattle.text_survey.proofs.Laws.Means.{same_is}
use Rattle.text_survey.proofs.Laws.Operands.{no_link, no_choice, same_refl, rank_small}
use Rattle.text_survey.proofs.Laws.Steps.{Does, nothing, ◌▸◌, stay, look, token, node}
use Rattle.text_survey.proofs.Laws.Tails.{tail}
use Rattle.text_survey.proofs.Rows.{ends, ends_name, ends_part, ends_statement, is_end, fits, row, put, made}
use Rattle.text_survey.proofs.Keeps.{next_is, name_ends, part_ends}

it : (s : Symbol) (ts : List Terminal) → IsA s (made s ∷ ts) ts
it s ts = (made s, refl, refl)

expect : (s : Symbol) (ts : List Terminal) → Does (task.Expect s) (made s ∷ ts) ts
expect s ts = token s (ap (λ b. cond b (go taking.Token []) None) (same_refl s)) (it s ts) (nothing ts)

name : (ts : List Terminal) → Does task.Name (made symbol.Name ∷ ts) ts
unfolding same_symbol
name ts = token symbol.Name refl (it symbol.Name ts) (nothing ts)

-- ---- what is left out

apart_by : (P : Option Symbol → Bool) (mark s : Symbol) (b : Bool) → same_symbol s mark ≡ b → P (Some mark) ≡ false → P (Some s) ≡ true → b ≡ false
apart_by P mark s false e m h = refl
apart_by P mark s true e m h = absurd (no (sym h ∙ ap (λ x. P (Some x)) (same_is s mark e) ∙ m))
  where
    no : true ≡ false → ⊥
    no x = cc

-- another symbol comes next
apart : (P : Option Symbol → Bool) (mark : Symbol) (o : Option Symbol) → P (Some mark) ≡ false → P o ≡ true → is_next mark o ≡ false
apart P mark None m h = refl
apart P mark (Some s) m h = apart_by P mark s (same_symbol s mark) refl m h

left_out : (P : Option Symbol → Bool) (t : Task) (mark : Symbol) (tasks : List Task) (ts : List Terminal) → ((o : Option Symbol) → rule t o ≡ optional mark o tasks) → P (Some mark) ≡ false → P (symbol_at ts) ≡ true → Does t ts ts
left_out P t mark tasks ts e m h =
    stay (e (symbol_at ts) ∙ ap (λ b. cond b (go taking.Token tasks) (go taking.Nothing [])) (apart P mark (symbol_at ts) m h)) (nothing ts)

no_more : (t : Task) (mark : Symbol) (tasks : List Task) (ts : List Terminal) → ((o : Option Symbol) → rule t o ≡ unless mark o tasks) → is_next mark (symbol_at ts) ≡ true → Does t ts ts
no_more t mark tasks ts e h =
    stay (e (symbol_at ts) ∙ ap (λ b. cond b (go taking.Nothing []) (go taking.Nothing tasks)) h) (nothing ts)

-- the rule where this comes next
at : (t : Task) (mark : Symbol) (ts : List Terminal) → rule t (Some mark) ≡ go taking.Nothing [] → is_next mark (symbol_at ts) ≡ true → Does t ts ts
at t mark ts e h = stay (ap (rule t) (next_is mark (symbol_at ts) h) ∙ e) (nothing ts)

-- ---- expressions

loose : (o : Option Symbol) → ends o ≡ true → looseness o ≡ 13
loose None h = cc
loose (Some symbol.Semicolon) h = refl
loose (Some symbol.CloseParen) h = refl
loose (Some symbol.CloseBracket) h = refl
loose (Some symbol.CloseBrace) h = refl
loose (Some symbol.Colon) h = refl
loose (Some symbol.CloseAttribute) h = refl
loose (Some other) h = cc

chain_runs : (k : Level) (ts : List Terminal) → ends (symbol_at ts) ≡ true → Does (task.Chain k) ts ts
chain_runs k ts h = stay (no_link k (symbol_at ts) (omega (arith, loose (symbol_at ts) h, rank_small k))) (nothing ts)

choice_runs : (ts : List Terminal) → ends (symbol_at ts) ≡ true → Does task.Choice ts ts
choice_runs ts h = stay (no_choice (symbol_at ts) (omega (arith, loose (symbol_at ts) h))) (nothing ts)

select_runs : (ts : List Terminal) → ends_part (symbol_at ts) ≡ true → Does task.Select ts ts
select_runs ts h = left_out ends_part task.Select symbol.OpenBracket (task.Expression ∷ task.SelectEnd ∷ []) ts (λ o. refl) refl h

wrap : (ts : List Terminal) → Does task.Wrap ts ts
wrap ts = stay refl (nothing ts)

join : (ts : List Terminal) → Does task.Join ts ts
join ts = stay refl (nothing ts)

forget : (ts : List Terminal) → Does task.Forget ts ts
forget ts = stay refl (nothing ts)

-- a level of a name
Named : Level → Type 0
Named k = (ts : List Terminal) → ends (symbol_at ts) ≡ true → Does (task.Level k) (made symbol.Name ∷ ts) ts

operand_runs : Named level.Operand
unfolding Named
operand_runs ts h = node symbol.Name refl (it symbol.Name ts) (select_runs ts (part_ends (symbol_at ts) (name_ends (symbol_at ts) h)) ▸ wrap ts ▸ nothing ts)

up : (k : Level) → ((o : Option Symbol) → rule (task.Level k) o ≡ go taking.Nothing (task.Level (tighter k) ∷ task.Chain k ∷ [])) → Named (tighter k) → Named k
unfolding Named
up k e w ts h = stay (e (Some symbol.Name)) (w ts h ▸ chain_runs k ts h ▸ nothing ts)

power_runs : Named level.Power
power_runs = up level.Power (λ o. refl) operand_runs

product_runs : Named level.Product
product_runs = up level.Product (λ o. refl) power_runs

sum_runs : Named level.Sum
sum_runs = up level.Sum (λ o. refl) product_runs

shift_runs : Named level.Shift
shift_runs = up level.Shift (λ o. refl) sum_runs

comparison_runs : Named level.Comparison
comparison_runs = up level.Comparison (λ o. refl) shift_runs

equality_runs : Named level.Equality
equality_runs = up level.Equality (λ o. refl) comparison_runs

and_runs : Named level.And
and_runs = up level.And (λ o. refl) equality_runs

xor_runs : Named level.Xor
xor_runs = up level.Xor (λ o. refl) and_runs

or_runs : Named level.Or
or_runs = up level.Or (λ o. refl) xor_runs

logical_and_runs : Named level.LogicalAnd
logical_and_runs = up level.LogicalAnd (λ o. refl) or_runs

logical_or_runs : Named level.LogicalOr
logical_or_runs = up level.LogicalOr (λ o. refl) logical_and_runs

level_runs : (k : Level) → Named k
level_runs level.Operand = operand_runs
level_runs level.Power = power_runs
level_runs level.Product = product_runs
level_runs level.Sum = sum_runs
level_runs level.Shift = shift_runs
level_runs level.Comparison = comparison_runs
level_runs level.Equality = equality_runs
level_runs level.And = and_runs
level_runs level.Xor = xor_runs
level_runs level.Or = or_runs
level_runs level.LogicalAnd = logical_and_runs
level_runs level.LogicalOr = logical_or_runs

expression_runs : (ts : List Terminal) → ends (symbol_at ts) ≡ true → Does task.Expression (made symbol.Name ∷ ts) ts
unfolding Named
expression_runs ts h = stay refl (logical_or_runs ts h ▸ choice_runs ts h ▸ join ts ▸ nothing ts)

expressions_runs : (ts : List Terminal) → ends (symbol_at ts) ≡ true → Does task.Expressions ts ts
unfolding same_symbol
expressions_runs ts h = left_out ends task.Expressions symbol.Comma (task.Expression ∷ task.Expressions ∷ []) ts (λ o. refl) refl h

parts_runs : (ts : List Terminal) → Does task.Parts (made symbol.CloseBrace ∷ ts) ts
parts_runs ts = stay refl (expressions_runs (made symbol.CloseBrace ∷ ts) refl ▸ expect symbol.CloseBrace ts ▸ nothing ts)

-- ---- statements

constant_runs : (ts : List Terminal) → ends (symbol_at ts) ≡ true → Does task.AttributeConstant (made symbol.Name ∷ ts) ts
constant_runs ts h = look refl (expression_runs ts h ▸ forget ts ▸ nothing ts)

value_left_out : (ts : List Terminal) → ends (symbol_at ts) ≡ true → Does task.AttributeValue ts ts
value_left_out ts h = left_out ends task.AttributeValue symbol.Equals (task.AttributeConstant ∷ []) ts (λ o. refl) refl h

attribute_runs : (ts : List Terminal) → ends (symbol_at ts) ≡ true → Does task.Attribute (made symbol.Name ∷ ts) ts
unfolding same_symbol
attribute_runs ts h = token symbol.Name refl (it symbol.Name ts) (value_left_out ts h ▸ nothing ts)

target_runs : (ts : List Terminal) → ends_part (symbol_at ts) ≡ true → Does task.Target (made symbol.Name ∷ ts) ts
target_runs ts h = node symbol.Name refl (it symbol.Name ts) (select_runs ts h ▸ wrap ts ▸ join ts ▸ nothing ts)

statement_runs : (ts : List Terminal) → Does task.Statement (made symbol.Semicolon ∷ ts) ts
statement_runs ts = node symbol.Semicolon refl (it symbol.Semicolon ts) (wrap ts ▸ join ts ▸ nothing ts)

no_else : (o : Option Symbol) → ends_statement o ≡ true → rule task.Else o ≡ go taking.Nothing (task.Wrap ∷ task.Join ∷ [])
no_else None h = refl
no_else (Some symbol.Else) h = cc
no_else (Some other) h = refl

else_runs : (ts : List Terminal) → ends_statement (symbol_at ts) ≡ true → Does task.Else ts ts
else_runs ts h = stay (no_else (symbol_at ts) h) (wrap ts ▸ join ts ▸ nothing ts)

labelled_runs : (ts : List Terminal) → is_next symbol.Endcase (symbol_at ts) ≡ true → Does task.Labelled ts ts
labelled_runs ts h =
    no_more task.Labelled symbol.Endcase (task.Expression ∷ task.Expressions ∷ task.Expect symbol.Colon ∷ task.Statement ∷ task.Labelled ∷ []) ts (λ o. refl) h

colon_runs : (ts : List Terminal) → is_next symbol.Semicolon (symbol_at ts) ≡ true → Does task.DefaultColon ts ts
unfolding same_symbol
colon_runs ts h = at task.DefaultColon symbol.Semicolon ts refl h

first_branch_runs : (ts : List Terminal) → is_next symbol.Endcase (symbol_at ts) ≡ true → Does task.FirstBranch (made symbol.Default ∷ made symbol.Semicolon ∷ ts) ts
unfolding same_symbol
first_branch_runs ts h =
    token symbol.Default refl (it symbol.Default (made symbol.Semicolon ∷ ts)) (colon_runs (made symbol.Semicolon ∷ ts) refl ▸ statement_runs ts ▸ labelled_runs ts h ▸ nothing ts)

-- ---- items

names_runs : (ts : List Terminal) → ends (symbol_at ts) ≡ true → Does task.Names ts ts
names_runs ts h = left_out ends task.Names symbol.Comma (task.Name ∷ task.Names ∷ []) ts (λ o. refl) refl h

marked_item_runs : (ts : List Terminal) → Does task.MarkedItem (made symbol.Integer ∷ made symbol.Name ∷ made symbol.Semicolon ∷ ts) ts
marked_item_runs ts =
    token symbol.Integer refl (it symbol.Integer (made symbol.Name ∷ made symbol.Semicolon ∷ ts))
    (name (made symbol.Semicolon ∷ ts) ▸ names_runs (made symbol.Semicolon ∷ ts) refl ▸ expect symbol.Semicolon ts ▸ nothing ts)

item_runs : (ts : List Terminal) → Does task.Item (made symbol.Integer ∷ made symbol.Name ∷ made symbol.Semicolon ∷ ts) ts
item_runs ts = stay refl (marked_item_runs ts ▸ nothing ts)

made_runs : (ts : List Terminal) → Does task.Made (made symbol.Semicolon ∷ ts) ts
made_runs ts = node symbol.Semicolon refl (it symbol.Semicolon ts) (wrap ts ▸ join ts ▸ nothing ts)

no_made_else : (o : Option Symbol) → ends_statement o ≡ true → rule task.MadeElse o ≡ go taking.Nothing (task.Wrap ∷ task.Join ∷ [])
no_made_else None h = refl
no_made_else (Some symbol.Else) h = cc
no_made_else (Some other) h = refl

made_else_runs : (ts : List Terminal) → ends_statement (symbol_at ts) ≡ true → Does task.MadeElse ts ts
made_else_runs ts h = stay (no_made_else (symbol_at ts) h) (wrap ts ▸ join ts ▸ nothing ts)

choices_end : (ts : List Terminal) → is_next symbol.Endcase (symbol_at ts) ≡ true → Does task.LabelledChoices ts ts
choices_end ts h =
    no_more task.LabelledChoices symbol.Endcase (task.Expression ∷ task.Expressions ∷ task.Expect symbol.Colon ∷ task.Made ∷ task.LabelledChoices ∷ []) ts (λ o. refl) h

first_choice_runs : (ts : List Terminal) → is_next symbol.Endcase (symbol_at ts) ≡ true → Does task.FirstChoice (made symbol.Default ∷ made symbol.Semicolon ∷ ts) ts
unfolding same_symbol
first_choice_runs ts h =
    token symbol.Default refl (it symbol.Default (made symbol.Semicolon ∷ ts)) (colon_runs (made symbol.Semicolon ∷ ts) refl ▸ made_runs ts ▸ choices_end ts h ▸ nothing ts)

value_runs : (ts : List Terminal) → ends (symbol_at ts) ≡ true → Does task.Value ts ts
value_runs ts h = left_out ends task.Value symbol.Equals (task.Expression ∷ []) ts (λ o. refl) refl h

no_initial : (o : Option Symbol) → ends o ≡ true → rule task.Initial o ≡ go taking.Nothing []
no_initial None h = refl
no_initial (Some symbol.Equals) h = cc
no_initial (Some other) h = refl

initial_runs : (ts : List Terminal) → ends (symbol_at ts) ≡ true → Does task.Initial ts ts
initial_runs ts h = stay (no_initial (symbol_at ts) h) (nothing ts)

net_runs : (ts : List Terminal) → ends (symbol_at ts) ≡ true → Does task.Net (made symbol.Name ∷ ts) ts
unfolding same_symbol
net_runs ts h = token symbol.Name refl (it symbol.Name ts) (value_runs ts h ▸ nothing ts)

variable_runs : (ts : List Terminal) → ends (symbol_at ts) ≡ true → Does task.Variable (made symbol.Name ∷ ts) ts
unfolding same_symbol
variable_runs ts h = token symbol.Name refl (it symbol.Name ts) (initial_runs ts h ▸ nothing ts)

setting_runs : (ts : List Terminal) → ends (symbol_at ts) ≡ true → Does task.Setting (made symbol.Name ∷ made symbol.Equals ∷ made symbol.Name ∷ ts) ts
unfolding same_symbol
setting_runs ts h =
    token symbol.Name refl (it symbol.Name (made symbol.Equals ∷ made symbol.Name ∷ ts)) (expect symbol.Equals (made symbol.Name ∷ ts) ▸ expression_runs ts h ▸ nothing ts)

drive_runs : (ts : List Terminal) → ends (symbol_at ts) ≡ true → Does task.Drive (made symbol.Name ∷ made symbol.Equals ∷ made symbol.Name ∷ ts) ts
drive_runs ts h =
    stay refl (target_runs (made symbol.Equals ∷ made symbol.Name ∷ ts) refl ▸ expect symbol.Equals (made symbol.Name ∷ ts) ▸ expression_runs ts h ▸ nothing ts)

event_list_runs : (ts : List Terminal) → Does task.EventList (made symbol.Star ∷ made symbol.CloseParen ∷ ts) ts
event_list_runs ts = token symbol.Star refl (it symbol.Star (made symbol.CloseParen ∷ ts)) (expect symbol.CloseParen ts ▸ nothing ts)

event_select_runs : (ts : List Terminal) → ends_name (symbol_at ts) ≡ true → Does task.EventSelect ts ts
unfolding same_symbol
event_select_runs ts h = left_out ends_name task.EventSelect symbol.OpenBracket (task.Expression ∷ task.EventSelectEnd ∷ []) ts (λ o. refl) refl h

event_runs : (ts : List Terminal) → ends_name (symbol_at ts) ≡ true → Does task.Event (made symbol.Name ∷ ts) ts
event_runs ts h = token symbol.Name refl (it symbol.Name ts) (event_select_runs ts h ▸ nothing ts)

no_event : (o : Option Symbol) → ends_name o ≡ true → rule task.Events o ≡ go taking.Nothing []
no_event None h = refl
no_event (Some symbol.Or) h = cc
no_event (Some symbol.Comma) h = cc
no_event (Some other) h = refl

events_runs : (ts : List Terminal) → ends_name (symbol_at ts) ≡ true → Does task.Events ts ts
events_runs ts h = stay (no_event (symbol_at ts) h) (nothing ts)

-- ---- gates

no_comma : (o : Option Symbol) → ends o ≡ true → rule task.AfterName o ≡ go taking.Nothing tail
no_comma None h = cc
no_comma (Some symbol.Comma) h = cc
no_comma (Some other) h = refl

after_name_runs : (ts : List Terminal) → ends (symbol_at ts) ≡ true → Does task.AfterName ts ts
after_name_runs ts h =
    stay (no_comma (symbol_at ts) h) (
    chain_runs level.Power ts h ▸ chain_runs level.Product ts h ▸ chain_runs level.Sum ts h ▸ chain_runs level.Shift ts h ▸ chain_runs level.Comparison ts h ▸ chain_runs level.Equality ts h
    ▸ chain_runs level.And ts h ▸ chain_runs level.Xor ts h ▸ chain_runs level.Or ts h ▸ chain_runs level.LogicalAnd ts h ▸ chain_runs level.LogicalOr ts h ▸ choice_runs ts h ▸ join ts ▸ nothing ts)

output_runs : (ts : List Terminal) → ends (symbol_at ts) ≡ true → Does task.OutputOrInput (made symbol.Name ∷ ts) ts
output_runs ts h = node symbol.Name refl (it symbol.Name ts) (select_runs ts (part_ends (symbol_at ts) (name_ends (symbol_at ts) h)) ▸ wrap ts ▸ after_name_runs ts h ▸ nothing ts)

gate_name_runs : (ts : List Terminal) → is_next symbol.OpenParen (symbol_at ts) ≡ true → Does task.GateName ts ts
unfolding same_symbol
gate_name_runs ts h = at task.GateName symbol.OpenParen ts refl h

gate_runs : (ts : List Terminal) → Does task.Gate (made symbol.OpenParen ∷ made symbol.Name ∷ made symbol.Comma ∷ made symbol.Name ∷ made symbol.CloseParen ∷ ts) ts
unfolding same_symbol
gate_runs ts =
    let close = made symbol.CloseParen ∷ ts in
    let input = made symbol.Name ∷ close in
    let output = made symbol.Name ∷ made symbol.Comma ∷ input in
    stay refl (
    gate_name_runs (made symbol.OpenParen ∷ output) refl ▸ expect symbol.OpenParen output ▸ target_runs (made symbol.Comma ∷ input) refl ▸ expect symbol.Comma input
    ▸ expression_runs close refl ▸ expressions_runs close refl ▸ expect symbol.CloseParen ts ▸ nothing ts)

buffer_runs : (ts : List Terminal) → Does task.Buffer (made symbol.OpenParen ∷ made symbol.Name ∷ made symbol.Comma ∷ made symbol.Name ∷ made symbol.CloseParen ∷ ts) ts
unfolding same_symbol
buffer_runs ts =
    let close = made symbol.CloseParen ∷ ts in
    let input = made symbol.Name ∷ close in
    let output = made symbol.Name ∷ made symbol.Comma ∷ input in
    stay refl (
    gate_name_runs (made symbol.OpenParen ∷ output) refl ▸ expect symbol.OpenParen output ▸ target_runs (made symbol.Comma ∷ input) refl ▸ expect symbol.Comma input
    ▸ output_runs close refl ▸ expect symbol.CloseParen ts ▸ nothing ts)

-- ---- instances

connections_runs : (ts : List Terminal) → is_next symbol.CloseParen (symbol_at ts) ≡ true → Does task.Connections ts ts
connections_runs ts h = no_more task.Connections symbol.CloseParen (task.Arguments ∷ []) ts (λ o. refl) h

argument_runs : (ts : List Terminal) → is_next symbol.CloseParen (symbol_at ts) ≡ true → Does task.Argument ts ts
argument_runs ts h = at task.Argument symbol.CloseParen ts refl h

positional_runs : (ts : List Terminal) → is_next symbol.CloseParen (symbol_at ts) ≡ true → Does task.Positional ts ts
unfolding same_symbol
positional_runs ts h = at task.Positional symbol.CloseParen ts refl h

associated_runs : (ts : List Terminal) → is_next symbol.CloseParen (symbol_at ts) ≡ true → Does task.Associated ts ts
unfolding same_symbol
associated_runs ts h = at task.Associated symbol.CloseParen ts refl h

arguments_runs : (ts : List Terminal) → is_next symbol.CloseParen (symbol_at ts) ≡ true → Does task.Arguments (made symbol.Name ∷ ts) ts
arguments_runs ts h = stay refl (expression_runs ts (ap ends (next_is symbol.CloseParen (symbol_at ts) h)) ▸ positional_runs ts h ▸ nothing ts)

instance_runs : (ts : List Terminal) → Does task.Instance (made symbol.Name ∷ made symbol.OpenParen ∷ made symbol.CloseParen ∷ ts) ts
unfolding same_symbol
instance_runs ts =
    token symbol.Name refl (it symbol.Name (made symbol.OpenParen ∷ made symbol.CloseParen ∷ ts))
    (expect symbol.OpenParen (made symbol.CloseParen ∷ ts) ▸ connections_runs (made symbol.CloseParen ∷ ts) refl ▸ expect symbol.CloseParen ts ▸ nothing ts)

named_runs : (ts : List Terminal) → Does task.NamedArgument (made symbol.Dot ∷ made symbol.Name ∷ made symbol.OpenParen ∷ made symbol.CloseParen ∷ ts) ts
unfolding same_symbol
named_runs ts =
    token symbol.Dot refl (it symbol.Dot (made symbol.Name ∷ made symbol.OpenParen ∷ made symbol.CloseParen ∷ ts))
    (name (made symbol.OpenParen ∷ made symbol.CloseParen ∷ ts) ▸ expect symbol.OpenParen (made symbol.CloseParen ∷ ts) ▸ argument_runs (made symbol.CloseParen ∷ ts) refl ▸ expect symbol.CloseParen ts ▸ nothing ts)

-- ---- modules

items_runs : (ts : List Terminal) → is_next symbol.Endmodule (symbol_at ts) ≡ true → Does task.Items ts ts
items_runs ts h = no_more task.Items symbol.Endmodule (task.Item ∷ task.Items ∷ []) ts (λ o. refl) h

parameters_runs : (ts : List Terminal) → ends (symbol_at ts) ≡ true → Does task.Parameters ts ts
parameters_runs ts h =
    left_out ends task.Parameters symbol.Hash (task.Expect symbol.OpenParen ∷ task.FirstParameter ∷ task.HeadParameters ∷ task.Expect symbol.CloseParen ∷ []) ts (λ o. refl) refl h

ports_runs : (ts : List Terminal) → ends (symbol_at ts) ≡ true → Does task.Ports ts ts
ports_runs ts h = left_out ends task.Ports symbol.OpenParen (task.PortList ∷ []) ts (λ o. refl) refl h

module_runs : (ts : List Terminal) → Does task.Module (made symbol.Module ∷ made symbol.Name ∷ made symbol.Semicolon ∷ made symbol.Endmodule ∷ ts) ts
unfolding same_symbol
module_runs ts =
    let inside = made symbol.Endmodule ∷ ts in
    let after = made symbol.Semicolon ∷ inside in
    token symbol.Module refl (it symbol.Module (made symbol.Name ∷ after))
    (name after ▸ parameters_runs after refl ▸ ports_runs after refl ▸ expect symbol.Semicolon inside ▸ items_runs inside refl ▸ expect symbol.Endmodule ts ▸ nothing ts)

range_runs : (ts : List Terminal) → is_next symbol.Name (symbol_at ts) ≡ true → Does task.Range ts ts
unfolding same_symbol
range_runs ts h = at task.Range symbol.Name ts refl h

first_parameter_runs : (ts : List Terminal) → ends (symbol_at ts) ≡ true → Does task.FirstParameter (made symbol.Parameter ∷ made symbol.Name ∷ made symbol.Equals ∷ made symbol.Name ∷ ts) ts
unfolding same_symbol
first_parameter_runs ts h =
    let setting = made symbol.Name ∷ made symbol.Equals ∷ made symbol.Name ∷ ts in
    token symbol.Parameter refl (it symbol.Parameter setting) (range_runs setting refl ▸ setting_runs ts h ▸ nothing ts)

head_parameter_runs : (ts : List Terminal) → ends (symbol_at ts) ≡ true → Does task.HeadParameter (made symbol.Name ∷ made symbol.Equals ∷ made symbol.Name ∷ ts) ts
head_parameter_runs ts h = stay refl (setting_runs ts h ▸ nothing ts)

port_runs : (ts : List Terminal) → Does task.Port (made symbol.Name ∷ ts) ts
port_runs ts = stay refl (name ts ▸ nothing ts)

source_runs : (ts : List Terminal) → is_end (symbol_at ts) ≡ true → Does task.Source ts ts
source_runs [] h = stay refl (nothing [])
source_runs (t ∷ ts) h = cc

-- ---- each task

pub runs : (t : Task) (ts : List Terminal) → fits t (symbol_at ts) ≡ true → Does t (put (row t) ts) ts
unfolding same_symbol Named
runs (task.Expect s) ts h = expect s ts
runs task.Wrap ts h = wrap ts
runs task.Join ts h = join ts
runs task.Forget ts h = forget ts
runs (task.Level k) ts h = level_runs k ts h
runs (task.Chain k) ts h = chain_runs k ts h
runs task.Expression ts h = expression_runs ts h
runs task.Choice ts h = choice_runs ts h
runs task.Select ts h = select_runs ts h
runs task.SelectEnd ts h = token symbol.CloseBracket refl (it symbol.CloseBracket ts) (nothing ts)
runs task.Parts ts h = parts_runs ts
runs task.Expressions ts h = expressions_runs ts h
runs task.Attribute ts h = attribute_runs ts h
runs task.Attributes ts h = left_out ends task.Attributes symbol.Comma (task.Attribute ∷ task.Attributes ∷ []) ts (λ o. refl) refl h
runs task.AttributeValue ts h = value_left_out ts h
runs task.AttributeConstant ts h = constant_runs ts h
runs task.Target ts h = target_runs ts h
runs task.Targets ts h = left_out ends_name task.Targets symbol.Comma (task.Target ∷ task.Targets ∷ []) ts (λ o. refl) refl h
runs task.Delay ts h = at task.Delay symbol.Name ts refl h
runs task.Ticks ts h = token symbol.Name refl (it symbol.Name ts) (nothing ts)
runs task.Assigner ts h = token symbol.Equals refl (it symbol.Equals ts) (nothing ts)
runs task.Statement ts h = statement_runs ts
runs task.Else ts h = else_runs ts h
runs task.Label ts h = left_out ends_statement task.Label symbol.Colon (task.Name ∷ []) ts (λ o. refl) refl h
runs task.Statements ts h = no_more task.Statements symbol.End (task.Statement ∷ task.Statements ∷ []) ts (λ o. refl) h
runs task.FirstBranch ts h = first_branch_runs ts h
runs task.Branches ts h = at task.Branches symbol.Endcase ts refl h
runs task.Labelled ts h = labelled_runs ts h
runs task.DefaultColon ts h = colon_runs ts h
runs task.Item ts h = item_runs ts
runs task.MarkedItem ts h = marked_item_runs ts
runs task.RegionItems ts h = no_more task.RegionItems symbol.Endgenerate (task.Item ∷ task.RegionItems ∷ []) ts (λ o. refl) h
runs task.BlockItems ts h = no_more task.BlockItems symbol.End (task.Item ∷ task.BlockItems ∷ []) ts (λ o. refl) h
runs task.Made ts h = made_runs ts
runs task.MadeElse ts h = made_else_runs ts h
runs task.FirstChoice ts h = first_choice_runs ts h
runs task.Choices ts h = at task.Choices symbol.Endcase ts refl h
runs task.LabelledChoices ts h = choices_end ts h
runs task.Items ts h = items_runs ts h
runs task.Name ts h = name ts
runs task.Names ts h = names_runs ts h
runs task.PortKind ts h = at task.PortKind symbol.Name ts refl h
runs task.Sign ts h = at task.Sign symbol.Name ts refl h
runs task.Range ts h = range_runs ts h
runs task.Value ts h = value_runs ts h
runs task.Initial ts h = initial_runs ts h
runs task.Net ts h = net_runs ts h
runs task.Nets ts h = left_out ends task.Nets symbol.Comma (task.Net ∷ task.Nets ∷ []) ts (λ o. refl) refl h
runs task.Variable ts h = variable_runs ts h
runs task.Variables ts h = left_out ends task.Variables symbol.Comma (task.Variable ∷ task.Variables ∷ []) ts (λ o. refl) refl h
runs task.Setting ts h = setting_runs ts h
runs task.Settings ts h = left_out ends task.Settings symbol.Comma (task.Setting ∷ task.Settings ∷ []) ts (λ o. refl) refl h
runs task.Drive ts h = drive_runs ts h
runs task.Drives ts h = left_out ends task.Drives symbol.Comma (task.Drive ∷ task.Drives ∷ []) ts (λ o. refl) refl h
runs task.Sensitivity ts h = token symbol.Star refl (it symbol.Star ts) (nothing ts)
runs task.EventList ts h = event_list_runs ts
runs task.Event ts h = event_runs ts h
runs task.Events ts h = events_runs ts h
runs task.EventSelect ts h = event_select_runs ts h
runs task.EventSelectEnd ts h = token symbol.CloseBracket refl (it symbol.CloseBracket ts) (nothing ts)
runs task.GateDelay ts h = at task.GateDelay symbol.OpenParen ts refl h
runs task.GateTicks ts h = token symbol.Name refl (it symbol.Name ts) (nothing ts)
runs task.Fall ts h = at task.Fall symbol.CloseParen ts refl h
runs task.GateName ts h = gate_name_runs ts h
runs task.Gate ts h = gate_runs ts
runs task.Gates ts h = left_out ends task.Gates symbol.Comma (task.Gate ∷ task.Gates ∷ []) ts (λ o. refl) refl h
runs task.Buffer ts h = buffer_runs ts
runs task.Buffers ts h = left_out ends task.Buffers symbol.Comma (task.Buffer ∷ task.Buffers ∷ []) ts (λ o. refl) refl h
runs task.OutputOrInput ts h = output_runs ts h
runs task.AfterName ts h = after_name_runs ts h
runs task.Overrides ts h = at task.Overrides symbol.Name ts refl h
runs task.Instance ts h = instance_runs ts
runs task.Instances ts h = left_out ends task.Instances symbol.Comma (task.Instance ∷ task.Instances ∷ []) ts (λ o. refl) refl h
runs task.Connections ts h = connections_runs ts h
runs task.Arguments ts h = arguments_runs ts h
runs task.Argument ts h = argument_runs ts h
runs task.Positional ts h = positional_runs ts h
runs task.NamedArgument ts h = named_runs ts
runs task.Associated ts h = associated_runs ts h
runs task.Source ts h = source_runs ts h
runs task.Module ts h = module_runs ts
runs task.Parameters ts h = parameters_runs ts h
runs task.FirstParameter ts h = first_parameter_runs ts h
runs task.HeadParameter ts h = head_parameter_runs ts h
runs task.HeadParameters ts h = left_out ends task.HeadParameters symbol.Comma (task.HeadParameter ∷ task.HeadParameters ∷ []) ts (λ o. refl) refl h
runs task.Ports ts h = ports_runs ts h
runs task.PortList ts h = token symbol.CloseParen refl (it symbol.CloseParen ts) (nothing ts)
runs task.Port ts h = port_runs ts
runs task.HeadPorts ts h = left_out ends task.HeadPorts symbol.Comma (task.Port ∷ task.HeadPorts ∷ []) ts (λ o. refl) refl h
