-- What is spelled is gone through: generate constructs.
use Rattle.std.proofs.Common.{◌≡◌, ℕ, ◌≤◌, Bool, true, false, List, [], ◌∷◌, Option, Some, None, refl, sym, ap, subst, ◌∙◌, arith}
use Rattle.rtl_tree.specs.declared.symbol.Symbol.{Symbol}
use Rattle.rtl_tree.specs.declared.symbol.Symbol.TheVariants as symbol
use Rattle.rtl_tree.specs.declared.tree.gate.GateKind.{GateKind}
use Rattle.rtl_tree.specs.Symbols.{Terminal}
use Rattle.rtl_tree.specs.TreeExpr.{Formula, Identifier}
use Rattle.rtl_tree.specs.TreeItem.{ModuleItem}
use Rattle.rtl_tree.specs.TreeGate.{GatePause, Gate}
use Rattle.rtl_tree.specs.TreeWritten.{WrittenItem, Plain, Primitives, Genvars, Region, If, IfElse, Case, For, WrittenItems, no_items, more_items, GenerateBlock, Null, Single, Block, GenerateChoice, Labelled, Default, GenerateChoices, no_choices, more_choices}
use Rattle.text_grammar.specs.Grammar.{Spelling, ◌⨾◌, IsA, IsName}
use Rattle.text_grammar.specs.GrammarExpr.{IsExpression}
use Rattle.text_grammar.specs.GrammarStmt.{Marked}
use Rattle.text_grammar.specs.GrammarItem.{IsItem}
use Rattle.text_grammar.specs.GrammarGate.{gate_symbol}
use Rattle.text_grammar.specs.GrammarWritten.{ends_open, block_ends_open, defaults, IsUnmarked, AreWritten, IsMade, IsChoice, AreChoices, AreMoreChoices, IsWritten}
use Rattle.text_survey.specs.declared.task.Task.{Task}
use Rattle.text_survey.specs.declared.task.Task.TheVariants as task
use Rattle.text_survey.specs.declared.task.Taking.TheVariants as taking
use Rattle.text_survey.specs.Table.{go, is_next, same_symbol}
use Rattle.text_survey.specs.Rule.{rule}
use Rattle.text_survey.specs.Machine.{symbol_at}
use Rattle.text_survey.specs.Depths.{Nest, Depths, counted}
use Rattle.text_survey.proofs.Laws.Counts.{Runs, Does, ◌▸◌, ◌▹◌, same, grow, told, nothing, stay, token, node}
use Rattle.text_survey.proofs.Laws.Nests.{beside, skip, in_written, in_items, in_made, in_choices}
use Rattle.text_survey.proofs.Laws.Expressions.{head, expect, ends, Not, apart, expression_runs}
use Rattle.text_survey.proofs.Laws.Starts.{opens, closes_by, closes_ends, formula_opens, opens_else}
use Rattle.text_survey.proofs.Laws.Lists.{listed_run, ended, marked_run}
use Rattle.text_survey.proofs.Laws.Statements.{false_true, finished, label_run, labels_opens, colon_run}
use Rattle.text_survey.proofs.Laws.Declarations.{name_each, name_run}
use Rattle.text_survey.proofs.Laws.PlainItems.{item_run, begins_marked, begin_gate, begins_by, item_begins, marks_begin}
use Rattle.text_survey.proofs.Laws.Gates.{gates_run}

-- ---- how items and blocks begin

-- an item begins here
abbrev pub begins_item : Option Symbol → Bool
begins_item (Some symbol.If) = true
begins_item (Some symbol.Case) = true
begins_item (Some symbol.For) = true
begins_item other = begins_marked other

-- what a construct makes begins here
abbrev begins_made : Option Symbol → Bool
begins_made (Some symbol.Semicolon) = true
begins_made (Some symbol.Begin) = true
begins_made other = begins_item other

marked_begins : (o : Option Symbol) → begins_marked o ≡ true → begins_item o ≡ true
marked_begins (Some symbol.If) h = refl
marked_begins (Some symbol.Case) h = refl
marked_begins (Some symbol.For) h = refl
marked_begins None h = cc
marked_begins (Some other) h = h

item_made : (o : Option Symbol) → begins_item o ≡ true → begins_made o ≡ true
item_made (Some symbol.Semicolon) h = refl
item_made (Some symbol.Begin) h = refl
item_made None h = cc
item_made (Some other) h = h

marked_rule : (o : Option Symbol) → begins_marked o ≡ true → rule task.Item o ≡ go taking.Nothing (task.MarkedItem ∷ [])
marked_rule (Some symbol.If) h = cc
marked_rule (Some symbol.Case) h = cc
marked_rule (Some symbol.For) h = cc
marked_rule None h = refl
marked_rule (Some other) h = refl

single_rule : (o : Option Symbol) → begins_item o ≡ true → rule task.Made o ≡ go taking.Nothing (task.Item ∷ [])
single_rule (Some symbol.Semicolon) h = cc
single_rule (Some symbol.Begin) h = cc
single_rule None h = refl
single_rule (Some other) h = refl

pub begin_else : (o : Option Symbol) → begins_item o ≡ true → is_next symbol.Else o ≡ false
unfolding same_symbol
begin_else (Some symbol.Else) h = cc
begin_else None h = refl
begin_else (Some other) h = refl

begin_colon : (o : Option Symbol) → begins_made o ≡ true → is_next symbol.Colon o ≡ false
unfolding same_symbol
begin_colon (Some symbol.Colon) h = cc
begin_colon None h = refl
begin_colon (Some other) h = refl

begin_region : (o : Option Symbol) → begins_item o ≡ true → rule task.RegionItems o ≡ go taking.Nothing (task.Item ∷ task.RegionItems ∷ [])
unfolding same_symbol
begin_region (Some symbol.Endgenerate) h = cc
begin_region None h = cc
begin_region (Some other) h = refl

begin_block : (o : Option Symbol) → begins_item o ≡ true → rule task.BlockItems o ≡ go taking.Nothing (task.Item ∷ task.BlockItems ∷ [])
unfolding same_symbol
begin_block (Some symbol.End) h = cc
begin_block None h = cc
begin_block (Some other) h = refl

no_else : (o : Option Symbol) → is_next symbol.Else o ≡ false → rule task.MadeElse o ≡ go taking.Nothing (task.Wrap ∷ task.Join ∷ [])
unfolding same_symbol
no_else (Some symbol.Else) h = cc
no_else None h = refl
no_else (Some other) h = refl

begins_with : (s : Symbol) (ts rest : List Terminal) → begins_item (Some s) ≡ true → IsA s ts rest → begins_item (symbol_at ts) ≡ true
begins_with s ts rest e w = ap begins_item (head s ts rest w) ∙ e

made_begins_with : (s : Symbol) (ts rest : List Terminal) → begins_made (Some s) ≡ true → IsA s ts rest → begins_made (symbol_at ts) ≡ true
made_begins_with s ts rest e w = ap begins_made (head s ts rest w) ∙ e

-- a spelling that begins with what attributes may stand before
Opening : Spelling → Type 0
Opening p = (ts rest : List Terminal) → p ts rest → begins_marked (symbol_at ts) ≡ true

opened : (p : Spelling) → Opening p → (ts rest : List Terminal) → Marked (λ marks. p) ts rest → begins_marked (symbol_at ts) ≡ true
unfolding Opening
opened p b ts rest w =
    let v = w.1 in
    marks_begin w.0 ts v.0 v.1 (b v.0 rest v.2)

primitives_open : (at : ℕ) (k : GateKind) (pause : Option GatePause) (gates : List Gate) → Opening (IsUnmarked (Primitives at k pause gates))
unfolding Opening
primitives_open at k pause gates ts rest w = begins_by (gate_symbol k) ts w.0 (begin_gate k) (w.1.0, w.1.1, w.1.2.0)

genvars_open : (at : ℕ) (names : List Identifier) → Opening (IsUnmarked (Genvars at names))
unfolding Opening
genvars_open at names ts rest w = begins_by symbol.Genvar ts w.0 refl (w.1.0, w.1.1, w.1.2.0)

region_opens : (at : ℕ) (items : WrittenItems) → Opening (IsUnmarked (Region at items))
unfolding Opening
region_opens at items ts rest w = begins_by symbol.Generate ts w.0 refl (w.1.0, w.1.1, w.1.2.0)

pub written_begins : (i : WrittenItem) (ts rest : List Terminal) → IsWritten i ts rest → begins_item (symbol_at ts) ≡ true
unfolding Opening
written_begins (Plain item) ts rest w = marked_begins (symbol_at ts) (opened (IsItem item) (item_begins item) ts rest w)
written_begins (Primitives at k pause gates) ts rest w = marked_begins (symbol_at ts) (opened (IsUnmarked (Primitives at k pause gates)) (primitives_open at k pause gates) ts rest w)
written_begins (Genvars at names) ts rest w = marked_begins (symbol_at ts) (opened (IsUnmarked (Genvars at names)) (genvars_open at names) ts rest w)
written_begins (Region at items) ts rest w = marked_begins (symbol_at ts) (opened (IsUnmarked (Region at items)) (region_opens at items) ts rest w)
written_begins (If at c taken) ts rest w = begins_with symbol.If ts w.0 refl (w.1.0, w.1.1, w.1.2.0)
written_begins (IfElse at c taken otherwise) ts rest w =
    let v = w.1 in
    begins_with symbol.If ts v.0 refl (v.1.0, v.1.1, v.1.2.0)
written_begins (Case at selector cs) ts rest w =
    let v = w.1 in
    begins_with symbol.Case ts v.0 refl (v.1.0, v.1.1, v.1.2.0)
written_begins (For at i start c j step body) ts rest w = begins_with symbol.For ts w.0 refl (w.1.0, w.1.1, w.1.2.0)

made_begins : (b : GenerateBlock) (ts rest : List Terminal) → IsMade b ts rest → begins_made (symbol_at ts) ≡ true
made_begins (Null at) ts rest w = made_begins_with symbol.Semicolon ts rest refl (w.0, w.1, w.2.0)
made_begins (Single item) ts rest w = item_made (symbol_at ts) (written_begins item ts rest w)
made_begins (Block at label items) ts rest w = made_begins_with symbol.Begin ts w.0 refl (w.1.0, w.1.1, w.1.2.0)

-- ---- items by their forms

-- no `else` comes where one would belong to the item
Shut : WrittenItem → List Terminal → Type 0
Shut i ts = ends_open i ≡ true → Not symbol.Else ts

ShutBlock : GenerateBlock → List Terminal → Type 0
ShutBlock b ts = block_ends_open b ≡ true → Not symbol.Else ts

-- the claims of an item, of what a construct makes, and of items up to a token
Good : WrittenItem → Type 0
Good i = (ts rest : List Terminal) → IsWritten i ts rest → Shut i rest → Does task.Item ts rest (grow (in_written i))

GoodMade : GenerateBlock → Type 0
GoodMade b = (ts rest : List Terminal) → IsMade b ts rest → ShutBlock b rest → Does task.Made ts rest (grow (in_made b))

record GoodRow (items : WrittenItems) : Type 0 where
  region : (ts mid rest : List Terminal) → AreWritten items ts mid → IsA symbol.Endgenerate mid rest → Does task.RegionItems ts mid (grow (in_items items))
  block : (ts mid rest : List Terminal) → AreWritten items ts mid → IsA symbol.End mid rest → Does task.BlockItems ts mid (grow (in_items items))

-- an item with the attributes before it
by_marks : (p : Spelling) (g : Nest → Nest) → Opening p → (ts rest : List Terminal) → Marked (λ marks. p) ts rest → ((mid : List Terminal) → p mid rest → Does task.MarkedItem mid rest (grow g)) → Does task.Item ts rest (grow g)
by_marks p g b ts rest w run =
    let v = w.1 in
    stay (marked_rule (symbol_at ts) (opened p b ts rest w)) (
    marked_run task.MarkedItem refl w.0 ts v.0 rest v.1 (grow g) (λ d. refl) (run v.0 v.2) ▸ nothing rest)

good_plain : (item : ModuleItem) → Good (Plain item)
unfolding Good Shut Opening
good_plain item ts rest w s = by_marks (IsItem item) (in_written (Plain item)) (item_begins item) ts rest w (λ mid v. item_run item mid rest v s)

good_primitives : (at : ℕ) (k : GateKind) (pause : Option GatePause) (gates : List Gate) → Good (Primitives at k pause gates)
unfolding Good
good_primitives at k pause gates ts rest w s =
    by_marks (IsUnmarked (Primitives at k pause gates)) (in_written (Primitives at k pause gates)) (primitives_open at k pause gates) ts rest w (λ mid v. gates_run at k pause gates mid rest v)

good_genvars : (at : ℕ) (names : List Identifier) → Good (Genvars at names)
unfolding Good
good_genvars at names ts rest w s =
    by_marks (IsUnmarked (Genvars at names)) (in_written (Genvars at names)) (genvars_open at names) ts rest w
    (λ mid v. token symbol.Genvar refl (v.1.0, v.1.1, v.1.2.0) (ended IsName task.Name task.Names skip ((λ o. refl), (λ d. refl)) name_each names v.0 rest v.2))

good_region : (at : ℕ) (items : WrittenItems) → GoodRow items → Good (Region at items)
unfolding Good
good_region at items g ts rest w s =
    by_marks (IsUnmarked (Region at items)) (in_written (Region at items)) (region_opens at items) ts rest w
    (λ mid v.
    let u = v.2 in
    node symbol.Generate at refl v.1 (g.region v.0 u.0 rest u.1 u.2 ▸ expect symbol.Endgenerate u.0 rest u.2 ▸ finished rest))

good_if : (at : ℕ) (c : Formula) (a : GenerateBlock) → GoodMade a → Good (If at c a)
unfolding Good GoodMade Shut ShutBlock
good_if at c a g ts rest w s =
    let v = w.2 in
    let u = v.2 in
    let z = u.2 in
    node symbol.If at refl w.1 (
    expect symbol.OpenParen w.0 v.0 v.1 ▸ expression_runs c v.0 u.0 u.1 (ends symbol.CloseParen u.0 z.0 refl z.1) ▸ expect symbol.CloseParen u.0 z.0 z.1
    ▸ g z.0 rest z.2 (λ e. s refl) ▸ stay (no_else (symbol_at rest) (s refl)) (finished rest) ▸ nothing rest)

good_if_else : (at : ℕ) (c : Formula) (a b : GenerateBlock) → GoodMade a → GoodMade b → Good (IfElse at c a b)
unfolding Good GoodMade Shut ShutBlock
good_if_else at c a b g h ts rest x s =
    let w = x.1 in
    let v = w.2 in
    let u = v.2 in
    let z = u.2 in
    let y = z.2 in
    let q = y.2 in
    node symbol.If at refl w.1 (
    expect symbol.OpenParen w.0 v.0 v.1 ▸ expression_runs c v.0 u.0 u.1 (ends symbol.CloseParen u.0 z.0 refl z.1) ▸ expect symbol.CloseParen u.0 z.0 z.1
    ▸ g z.0 y.0 y.1 (λ e. absurd (false_true (block_ends_open a) x.0 e))
    ▸ token symbol.Else refl q.1 (h q.0 rest q.2 s ▸ finished rest)
    ▸ nothing rest)

good_for : (at : ℕ) (i : Identifier) (start c : Formula) (j : Identifier) (step : Formula) (body : GenerateBlock) → GoodMade body → Good (For at i start c j step body)
unfolding Good GoodMade Shut ShutBlock
good_for at i start c j step body g ts rest w s =
    let w2 = w.2 in
    let w3 = w2.2 in
    let w4 = w3.2 in
    let w5 = w4.2 in
    let w6 = w5.2 in
    let w7 = w6.2 in
    let w8 = w7.2 in
    let w9 = w8.2 in
    let w10 = w9.2 in
    let w11 = w10.2 in
    let w12 = w11.2 in
    node symbol.For at refl w.1 (
    expect symbol.OpenParen w.0 w2.0 w2.1 ▸ name_run i w2.0 w3.0 w3.1 ▸ expect symbol.Equals w3.0 w4.0 w4.1
    ▸ expression_runs start w4.0 w5.0 w5.1 (ends symbol.Semicolon w5.0 w6.0 refl w6.1) ▸ expect symbol.Semicolon w5.0 w6.0 w6.1
    ▸ expression_runs c w6.0 w7.0 w7.1 (ends symbol.Semicolon w7.0 w8.0 refl w8.1) ▸ expect symbol.Semicolon w7.0 w8.0 w8.1
    ▸ name_run j w8.0 w9.0 w9.1 ▸ expect symbol.Equals w9.0 w10.0 w10.1
    ▸ expression_runs step w10.0 w11.0 w11.1 (ends symbol.CloseParen w11.0 w12.0 refl w12.1) ▸ expect symbol.CloseParen w11.0 w12.0 w12.1
    ▸ g w12.0 rest w12.2 s ▸ finished rest)

-- ---- items in a row, and blocks

-- an item is followed by another, or by what ends the row
row_else : (items : WrittenItems) (end : Symbol) (ts mid rest : List Terminal) → same_symbol end symbol.Else ≡ false → AreWritten items ts mid → IsA end mid rest → Not symbol.Else ts
row_else no_items end ts mid rest a w e = subst (λ x. Not symbol.Else x) (sym w) (apart end symbol.Else mid rest a e)
row_else (more_items i others) end ts mid rest a w e = begin_else (symbol_at ts) (written_begins i ts w.0 w.1)

row_none : GoodRow no_items
unfolding same_symbol
row_none =
    record {
      region = λ ts mid rest w e. subst (λ x. Does task.RegionItems x mid same) (sym w) (stay (ap (λ o. rule task.RegionItems o) (head symbol.Endgenerate mid rest e)) (nothing mid));
      block = λ ts mid rest w e. subst (λ x. Does task.BlockItems x mid same) (sym w) (stay (ap (λ o. rule task.BlockItems o) (head symbol.End mid rest e)) (nothing mid));
    }

row_more : (i : WrittenItem) (others : WrittenItems) → Good i → GoodRow others → GoodRow (more_items i others)
unfolding Good Shut same_symbol
row_more i others g h =
    record {
      region = λ ts mid rest w e.
          stay (begin_region (symbol_at ts) (written_begins i ts w.0 w.1)) (
          g ts w.0 w.1 (λ o. row_else others symbol.Endgenerate w.0 mid rest refl w.2 e) ▸ h.region w.0 mid rest w.2 e ▸ nothing mid);
      block = λ ts mid rest w e.
          stay (begin_block (symbol_at ts) (written_begins i ts w.0 w.1)) (
          g ts w.0 w.1 (λ o. row_else others symbol.End w.0 mid rest refl w.2 e) ▸ h.block w.0 mid rest w.2 e ▸ nothing mid);
    }

row_colon : (items : WrittenItems) (ts mid rest : List Terminal) → AreWritten items ts mid → IsA symbol.End mid rest → Not symbol.Colon ts
unfolding same_symbol
row_colon no_items ts mid rest w e = subst (λ x. Not symbol.Colon x) (sym w) (apart symbol.End symbol.Colon mid rest refl e)
row_colon (more_items i others) ts mid rest w e = begin_colon (symbol_at ts) (item_made (symbol_at ts) (written_begins i ts w.0 w.1))

good_null : (at : ℕ) → GoodMade (Null at)
unfolding GoodMade
good_null at ts rest w s = node symbol.Semicolon at refl w (finished rest)

good_single : (i : WrittenItem) → Good i → GoodMade (Single i)
unfolding Good GoodMade Shut ShutBlock
good_single i g ts rest w s = stay (single_rule (symbol_at ts) (written_begins i ts rest w)) (g ts rest w s ▸ nothing rest)

good_block : (at : ℕ) (l : Option Identifier) (items : WrittenItems) → GoodRow items → GoodMade (Block at l items)
unfolding GoodMade
good_block at l items g ts rest w s =
    let v = w.2 in
    let u = v.2 in
    node symbol.Begin at refl w.1 (
    label_run l w.0 v.0 v.1 (row_colon items v.0 u.0 rest u.1 u.2) ▸ g.block v.0 u.0 rest u.1 u.2 ▸ expect symbol.End u.0 rest u.2 ▸ finished rest)

-- ---- cases

choice_else : (cs : GenerateChoices) (ts mid rest : List Terminal) → AreMoreChoices cs ts mid → IsA symbol.Endcase mid rest → Not symbol.Else ts
unfolding same_symbol
choice_else no_choices ts mid rest w e = subst (λ x. Not symbol.Else x) (sym w) (apart symbol.Endcase symbol.Else mid rest refl e)
choice_else (more_choices (Labelled [] body) others) ts mid rest w e = absurd w.1.1
choice_else (more_choices (Labelled (f ∷ fs) body) others) ts mid rest w e =
    let v = w.1.1 in
    opens_else (symbol_at ts) (formula_opens f 12 ts v.0 v.1)
choice_else (more_choices (Default at body) others) ts mid rest w e =
    let v = w.1.1 in
    apart symbol.Default symbol.Else ts w.1.0 refl (v.0, v.1, v.2.0)

-- the claims of choices: before the default, and after it
record GoodChoices (cs : GenerateChoices) : Type 0 where
  before : (ts mid rest : List Terminal) → AreMoreChoices cs ts mid → defaults cs ≤ 1 → IsA symbol.Endcase mid rest → Does task.Choices ts mid (grow (in_choices cs))
  after : (ts mid rest : List Terminal) → AreMoreChoices cs ts mid → defaults cs ≤ 0 → IsA symbol.Endcase mid rest → Does task.LabelledChoices ts mid (grow (in_choices cs))
  first : (ts mid rest : List Terminal) → AreChoices cs ts mid → defaults cs ≤ 1 → IsA symbol.Endcase mid rest → Does task.FirstChoice ts mid (grow (in_choices cs))

opens_first : (o : Option Symbol) → opens o ≡ true → rule task.FirstChoice o ≡ go taking.Nothing (task.Expression ∷ task.Expressions ∷ task.Expect symbol.Colon ∷ task.Made ∷ task.Choices ∷ [])
opens_first (Some symbol.Default) h = cc
opens_first None h = refl
opens_first (Some other) h = refl

opens_choices : (o : Option Symbol) → opens o ≡ true → rule task.Choices o ≡ go taking.Nothing (task.Expression ∷ task.Expressions ∷ task.Expect symbol.Colon ∷ task.Made ∷ task.Choices ∷ [])
opens_choices (Some symbol.Default) h = cc
opens_choices (Some symbol.Endcase) h = cc
opens_choices None h = cc
opens_choices (Some other) h = refl

opens_labelled : (o : Option Symbol) → opens o ≡ true → rule task.LabelledChoices o ≡ go taking.Nothing (task.Expression ∷ task.Expressions ∷ task.Expect symbol.Colon ∷ task.Made ∷ task.LabelledChoices ∷ [])
unfolding same_symbol
opens_labelled (Some symbol.Endcase) h = cc
opens_labelled None h = cc
opens_labelled (Some other) h = refl

no_more : GoodChoices no_choices
unfolding same_symbol
no_more =
    record {
      before = λ ts mid rest w d e. subst (λ x. Does task.Choices x mid same) (sym w) (stay (ap (λ o. rule task.Choices o) (head symbol.Endcase mid rest e)) (nothing mid));
      after = λ ts mid rest w d e. subst (λ x. Does task.LabelledChoices x mid same) (sym w) (stay (ap (λ o. rule task.LabelledChoices o) (head symbol.Endcase mid rest e)) (nothing mid));
      first = λ ts mid rest w d e. absurd w;
    }

labelled_part : (fs : List Formula) (body : GenerateBlock) (others : GenerateChoices) (t : Task) → GoodMade body
    → ((ts mid rest : List Terminal) → AreMoreChoices others ts mid → IsA symbol.Endcase mid rest → Does t ts mid (grow (in_choices others)))
    → (ts mid rest : List Terminal) → (IsChoice (Labelled fs body) ⨾ AreMoreChoices others) ts mid → IsA symbol.Endcase mid rest
    → Runs (task.Expression ∷ task.Expressions ∷ task.Expect symbol.Colon ∷ task.Made ∷ t ∷ []) ts mid (grow (in_choices (more_choices (Labelled fs body) others)))
unfolding GoodMade ShutBlock same_symbol
labelled_part fs body others t g h ts mid rest w e =
    let v = w.1 in
    let u = v.2 in
    listed_run IsExpression task.Expression task.Expressions beside ((λ o. refl), (λ d. refl)) (λ f ts' rest' x c. expression_runs f ts' rest' x (closes_ends (symbol_at rest') c)) fs ts v.0 v.1
    (closes_by symbol.Colon v.0 u.0 refl u.1) (apart symbol.Colon symbol.Comma v.0 u.0 refl u.1)
    ▹ expect symbol.Colon v.0 u.0 u.1 ▸ g u.0 w.0 u.2 (λ o. choice_else others w.0 mid rest w.2 e) ▸ h w.0 mid rest w.2 e ▸ nothing mid

default_part : (at : ℕ) (body : GenerateBlock) (others : GenerateChoices) → GoodMade body → GoodChoices others → (t : Task) → ((d : Depths) → counted t d ≡ d)
    → rule t (Some symbol.Default) ≡ go taking.Token (task.DefaultColon ∷ task.Made ∷ task.LabelledChoices ∷ []) → (ts mid rest : List Terminal)
    → (IsChoice (Default at body) ⨾ AreMoreChoices others) ts mid → defaults others ≤ 0 → IsA symbol.Endcase mid rest → Does t ts mid (grow (in_choices (more_choices (Default at body) others)))
unfolding GoodMade ShutBlock
default_part at body others g h t k r ts mid rest w d e =
    let v = w.1 in
    let u = v.2 in
    told (λ x. grow (in_choices others) (grow (in_made body) (counted t x))) (grow (in_choices (more_choices (Default at body) others))) (λ x. ap (λ z. grow (in_choices others) (grow (in_made body) z)) (k x))
    (token symbol.Default r (v.1.0, v.1.1, v.1.2.0) (
    colon_run v.0 u.0 u.1 (begin_colon (symbol_at u.0) (made_begins body u.0 w.0 u.2))
    ▸ g u.0 w.0 u.2 (λ o. choice_else others w.0 mid rest w.2 e) ▸ h.after w.0 mid rest w.2 d e ▸ nothing mid))

more_labelled : (fs : List Formula) (body : GenerateBlock) (others : GenerateChoices) → GoodMade body → GoodChoices others → GoodChoices (more_choices (Labelled fs body) others)
more_labelled fs body others g h =
    record {
      before = λ ts mid rest w d e.
          stay (opens_choices (symbol_at ts) (labels_opens fs ts w.1.0 w.1.1)) (
          labelled_part fs body others task.Choices g (λ ts' mid' rest' x y. h.before ts' mid' rest' x d y) ts mid rest w e);
      after = λ ts mid rest w d e.
          stay (opens_labelled (symbol_at ts) (labels_opens fs ts w.1.0 w.1.1)) (
          labelled_part fs body others task.LabelledChoices g (λ ts' mid' rest' x y. h.after ts' mid' rest' x d y) ts mid rest w e);
      first = λ ts mid rest w d e.
          stay (opens_first (symbol_at ts) (labels_opens fs ts w.1.0 w.1.1)) (
          labelled_part fs body others task.Choices g (λ ts' mid' rest' x y. h.before ts' mid' rest' x d y) ts mid rest w e);
    }

more_default : (at : ℕ) (body : GenerateBlock) (others : GenerateChoices) → GoodMade body → GoodChoices others → GoodChoices (more_choices (Default at body) others)
more_default at body others g h =
    record {
      before = λ ts mid rest w d e. default_part at body others g h task.Choices (λ d. refl) refl ts mid rest w (omega (arith, d)) e;
      after = λ ts mid rest w d e. absurd (omega (arith, d));
      first = λ ts mid rest w d e. default_part at body others g h task.FirstChoice (λ d. refl) refl ts mid rest w (omega (arith, d)) e;
    }

good_case : (at : ℕ) (selector : Formula) (cs : GenerateChoices) → GoodChoices cs → Good (Case at selector cs)
unfolding Good
good_case at selector cs g ts rest x s =
    let w = x.1 in
    let v = w.2 in
    let u = v.2 in
    let z = u.2 in
    let y = z.2 in
    node symbol.Case at refl w.1 (
    expect symbol.OpenParen w.0 v.0 v.1 ▸ expression_runs selector v.0 u.0 u.1 (ends symbol.CloseParen u.0 z.0 refl z.1) ▸ expect symbol.CloseParen u.0 z.0 z.1
    ▸ g.first z.0 y.0 rest y.1 x.0 y.2 ▸ expect symbol.Endcase y.0 rest y.2 ▸ finished rest)

-- ---- all of them

mutual
  all : (i : WrittenItem) → Good i
  all (Plain item) = good_plain item
  all (Primitives at k pause gates) = good_primitives at k pause gates
  all (Genvars at names) = good_genvars at names
  all (Region at items) = good_region at items (row items)
  all (If at c taken) = good_if at c taken (block taken)
  all (IfElse at c taken otherwise) = good_if_else at c taken otherwise (block taken) (block otherwise)
  all (Case at selector cs) = good_case at selector cs (choices cs)
  all (For at i start c j step body) = good_for at i start c j step body (block body)

  row : (items : WrittenItems) → GoodRow items
  row no_items = row_none
  row (more_items i others) = row_more i others (all i) (row others)

  block : (b : GenerateBlock) → GoodMade b
  block (Null at) = good_null at
  block (Single item) = good_single item (all item)
  block (Block at label items) = good_block at label items (row items)

  choices : (cs : GenerateChoices) → GoodChoices cs
  choices no_choices = no_more
  choices (more_choices c others) = one_choice c others (choices others)

  one_choice : (c : GenerateChoice) (others : GenerateChoices) → GoodChoices others → GoodChoices (more_choices c others)
  one_choice (Labelled labels body) others h = more_labelled labels body others (block body) h
  one_choice (Default at body) others h = more_default at body others (block body) h

-- an item where no `else` comes
pub written_run : (i : WrittenItem) (ts rest : List Terminal) → IsWritten i ts rest → Not symbol.Else rest → Does task.Item ts rest (grow (in_written i))
unfolding Good Shut
written_run i ts rest w n = all i ts rest w (λ e. n)
