-- What is spelled is gone through: statements.
use Rattle.std.proofs.Common.{◌≡◌, ℕ, ◌<◌, ◌≤◌, inl, inr, Bool, true, false, List, [], ◌∷◌, Option, Some, None, refl, sym, ap, subst, ◌∙◌, arith}
use Rattle.rtl_tree.specs.declared.symbol.Symbol.TheVariants as symbol
use Rattle.rtl_tree.specs.declared.tree.stmt.AssignmentKind.{AssignmentKind}
use Rattle.rtl_tree.specs.declared.tree.stmt.AssignmentKind.TheVariants as assignment
use Rattle.rtl_tree.specs.declared.tree.stmt.CaseKind.{CaseKind}
use Rattle.rtl_tree.specs.declared.tree.stmt.CaseKind.TheVariants as kind
use Rattle.rtl_tree.specs.Symbols.{Terminal}
use Rattle.rtl_tree.specs.TreeExpr.{Formula, Identifier}
use Rattle.rtl_tree.specs.TreeStmt.{target_place, Target, Whole, Bit, Part, Joined, Pause, Action, Null, Delayed, Assign, If, IfElse, Case, For, Block, Actions, no_actions, more_actions, Branch, Labelled, Default, Branches, no_branches, more_branches}
use Rattle.text_grammar.specs.Grammar.{◌⨾◌, IsA, IsName, IsOptional, AreListed}
use Rattle.text_grammar.specs.GrammarExpr.{IsExpression}
use Rattle.text_grammar.specs.GrammarStmt.{IsTarget, AreAttributes, assignment_symbol, case_symbol, ends_open, defaults, IsLabel, IsDefaultEnd, IsAction, AreStatements, IsBranch, AreBranches, AreMoreBranches, IsStatement}
use Rattle.text_survey.specs.declared.task.Task.{Task}
use Rattle.text_survey.specs.declared.task.Task.TheVariants as task
use Rattle.text_survey.specs.declared.task.Taking.TheVariants as taking
use Rattle.text_survey.specs.Table.{go, same_symbol, looseness}
use Rattle.text_survey.specs.Rule.{rule}
use Rattle.text_survey.specs.Machine.{symbol_at}
use Rattle.text_survey.specs.Depths.{Depths, counted, place}
use Rattle.text_survey.proofs.Laws.Counts.{Runs, Does, ◌▸◌, ◌▹◌, same, grow, told, nothing, stay, look, token, node}
use Rattle.text_survey.proofs.Laws.Nests.{beside, beside_action, nest_actions, nest_branches}
use Rattle.text_survey.proofs.Laws.Expressions.{head, wrap, join, expect, ends, Not, apart, left_out, expression_runs}
use Rattle.text_survey.proofs.Laws.Starts.{Opens, Begins, begins, begins_by, closes_by, closes_ends, formula_opens, opens_delay, opens_first, opens_branches, opens_labelled, opens_else, begins_else, begins_statements, begins_colon, no_else}
use Rattle.text_survey.proofs.Laws.Lists.{ended_node, listed_run, marked_run, delay_run, ticks_run, target_run}

-- ---- how statements begin

assign_begins : (t : Target) (ts rest : List Terminal) → IsTarget t ts rest → Begins ts
assign_begins (Whole name) ts rest w = begins_by symbol.Name ts rest refl (w.0, w.1, w.2.0)
assign_begins (Bit name index) ts rest w = begins_by symbol.Name ts w.0 refl (w.1.0, w.1.1, w.1.2.0)
assign_begins (Part name kind msb lsb) ts rest w = begins_by symbol.Name ts w.0 refl (w.1.0, w.1.1, w.1.2.0)
assign_begins (Joined at parts) ts rest w = begins_by symbol.OpenBrace ts w.0 refl (w.1.0, w.1.1, w.1.2.0)

begins_case : (k : CaseKind) → begins (Some (case_symbol k)) ≡ true
begins_case kind.Plain = refl
begins_case kind.Z = refl
begins_case kind.X = refl

action_begins : (marks : List (List Identifier)) (a : Action) (ts rest : List Terminal) → IsAction marks a ts rest → Begins ts
action_begins marks (Null at) ts rest w = begins_by symbol.Semicolon ts rest refl (w.0, w.1, w.2.0)
action_begins marks (Delayed pause body) ts rest w =
    let v = w.1.1 in
    begins_by symbol.Hash ts w.1.0 refl (v.0, v.1, v.2.0)
action_begins marks (Assign target k pause value) ts rest w = assign_begins target ts w.0 w.1
action_begins marks (If at condition taken) ts rest w = begins_by symbol.If ts w.0 refl (w.1.0, w.1.1, w.1.2.0)
action_begins marks (IfElse at condition taken otherwise) ts rest w =
    let v = w.1 in
    begins_by symbol.If ts v.0 refl (v.1.0, v.1.1, v.1.2.0)
action_begins marks (Case at k full parallel selector listed) ts rest w =
    let v = w.5 in
    begins_by (case_symbol k) ts v.0 (begins_case k) (v.1.0, v.1.1, v.1.2.0)
action_begins marks (For at index start condition stepped step body) ts rest w = begins_by symbol.For ts w.0 refl (w.1.0, w.1.1, w.1.2.0)
action_begins marks (Block at label body) ts rest w = begins_by symbol.Begin ts w.0 refl (w.1.0, w.1.1, w.1.2.0)

marked_begins : (marks : List (List Identifier)) (ts mid : List Terminal) → AreAttributes marks ts mid → Begins mid → Begins ts
marked_begins [] ts mid w b = subst (λ x. Begins x) (sym w) b
marked_begins (names ∷ others) ts mid w b = begins_by symbol.OpenAttribute ts w.1.0 refl w.1.1

pub statement_begins : (a : Action) (ts rest : List Terminal) → IsStatement a ts rest → Begins ts
statement_begins a ts rest w =
    let v = w.1 in
    marked_begins w.0 ts v.0 v.1 (action_begins w.0 a v.0 rest v.2)

-- ---- what comes after statements

-- no `else` comes where one would belong to the statement
abbrev pub Shut : Action → List Terminal → Type 0
Shut a ts = ends_open a ≡ true → Not symbol.Else ts

shut : (a : Action) (ts : List Terminal) → Not symbol.Else ts → Shut a ts
shut a ts n e = n

pub false_true : (b : Bool) → b ≡ false → b ≡ true → ⊥
false_true b e f = cc

-- ---- statements by their forms

pub finished : (ts : List Terminal) → Runs (task.Wrap ∷ task.Join ∷ []) ts ts ended_node
finished ts = wrap ts ▸ join ts ▸ nothing ts

-- the claim of a statement
Good : Action → Type 0
Good a = (marks : List (List Identifier)) (ts rest : List Terminal) → IsAction marks a ts rest → Shut a rest → Does task.Statement ts rest (grow (beside_action a))

good_marked : (a : Action) → Good a → (ts rest : List Terminal) → IsStatement a ts rest → Shut a rest → Does task.Statement ts rest (grow (beside_action a))
unfolding Good
good_marked a g ts rest w s =
    let v = w.1 in
    marked_run task.Statement refl w.0 ts v.0 rest v.1 (grow (beside_action a)) (λ d. refl) (g w.0 v.0 rest v.2 s)

good_null : (at : ℕ) → Good (Null at)
unfolding Good
good_null at marks ts rest w s = node symbol.Semicolon at refl w (finished rest)

good_delayed : (p : Pause) (body : Action) → Good body → Good (Delayed p body)
unfolding Good
good_delayed p body g marks ts rest w s =
    let v = w.1 in
    node symbol.Hash p.at refl v.1 (ticks_run p.span v.0 w.0 v.2 ▸ good_marked body g w.0 rest w.2 s ▸ finished rest)

assigner_rule : (k : AssignmentKind) → rule task.Assigner (Some (assignment_symbol k)) ≡ go taking.Token []
assigner_rule assignment.Blocking = refl
assigner_rule assignment.Nonblocking = refl

assigner_loose : (k : AssignmentKind) → 0 < looseness (Some (assignment_symbol k))
assigner_loose assignment.Blocking = omega arith
assigner_loose assignment.Nonblocking = omega arith

target_opens : (t : Target) (ts rest : List Terminal) → IsTarget t ts rest
    → rule task.Statement (symbol_at ts) ≡ go taking.Ahead (task.Target ∷ task.Assigner ∷ task.Delay ∷ task.Expression ∷ task.Expect symbol.Semicolon ∷ task.Wrap ∷ task.Join ∷ [])
target_opens (Whole name) ts rest w = ap (λ o. rule task.Statement o) (head symbol.Name ts rest (w.0, w.1, w.2.0))
target_opens (Bit name index) ts rest w = ap (λ o. rule task.Statement o) (head symbol.Name ts w.0 (w.1.0, w.1.1, w.1.2.0))
target_opens (Part name kind msb lsb) ts rest w = ap (λ o. rule task.Statement o) (head symbol.Name ts w.0 (w.1.0, w.1.1, w.1.2.0))
target_opens (Joined at parts) ts rest w = ap (λ o. rule task.Statement o) (head symbol.OpenBrace ts w.0 (w.1.0, w.1.1, w.1.2.0))

target_at : (t : Target) (ts rest : List Terminal) → IsTarget t ts rest → place ts ≡ target_place t
target_at (Whole name) ts rest w = ap place w.1 ∙ ap (λ (n : Identifier). n.at) w.2.1
target_at (Bit name index) ts rest w = ap place w.1.1 ∙ ap (λ (n : Identifier). n.at) w.1.2.1
target_at (Part name kind msb lsb) ts rest w = ap place w.1.1 ∙ ap (λ (n : Identifier). n.at) w.1.2.1
target_at (Joined at parts) ts rest w = ap place w.1.1 ∙ w.1.2.1

good_assign : (t : Target) (k : AssignmentKind) (p : Option Pause) (value : Formula) → Good (Assign t k p value)
unfolding Good
good_assign t k p value marks ts rest w s =
    let v = w.2 in
    let u = v.2 in
    let z = u.2 in
    look (target_place t) (target_at t ts w.0 w.1) (target_opens t ts w.0 w.1) (
    target_run t ts w.0 w.1 (subst (λ o. 0 < looseness o) (sym (head (assignment_symbol k) w.0 v.0 v.1)) (assigner_loose k))
    ▸ token (assignment_symbol k) (assigner_rule k) v.1 (nothing v.0)
    ▸ delay_run p v.0 u.0 u.1 (opens_delay (symbol_at u.0) (formula_opens value 12 u.0 z.0 z.1))
    ▸ expression_runs value u.0 z.0 z.1 (ends symbol.Semicolon z.0 rest refl z.2)
    ▸ expect symbol.Semicolon z.0 rest z.2 ▸ finished rest)

good_if : (at : ℕ) (c : Formula) (a : Action) → Good a → Good (If at c a)
unfolding Good
good_if at c a g marks ts rest w s =
    let v = w.2 in
    let u = v.2 in
    let z = u.2 in
    node symbol.If at refl w.1 (
    expect symbol.OpenParen w.0 v.0 v.1 ▸ expression_runs c v.0 u.0 u.1 (ends symbol.CloseParen u.0 z.0 refl z.1) ▸ expect symbol.CloseParen u.0 z.0 z.1
    ▸ good_marked a g z.0 rest z.2 (shut a rest (s refl)) ▸ stay (no_else (symbol_at rest) (s refl)) (finished rest) ▸ nothing rest)

good_if_else : (at : ℕ) (c : Formula) (a b : Action) → Good a → Good b → Good (IfElse at c a b)
unfolding Good
good_if_else at c a b g h marks ts rest x s =
    let w = x.1 in
    let v = w.2 in
    let u = v.2 in
    let z = u.2 in
    let y = z.2 in
    let q = y.2 in
    node symbol.If at refl w.1 (
    expect symbol.OpenParen w.0 v.0 v.1 ▸ expression_runs c v.0 u.0 u.1 (ends symbol.CloseParen u.0 z.0 refl z.1) ▸ expect symbol.CloseParen u.0 z.0 z.1
    ▸ good_marked a g z.0 y.0 y.1 (λ e. absurd (false_true (ends_open a) x.0 e))
    ▸ token symbol.Else refl q.1 (good_marked b h q.0 rest q.2 s ▸ finished rest)
    ▸ nothing rest)

pub name_run : (n : Identifier) (ts rest : List Terminal) → IsName n ts rest → Does task.Name ts rest same
unfolding same_symbol
name_run n ts rest w = token symbol.Name refl (w.0, w.1, w.2.0) (nothing rest)

good_for : (at : ℕ) (i : Identifier) (start c : Formula) (j : Identifier) (step : Formula) (body : Action) → Good body → Good (For at i start c j step body)
unfolding Good
good_for at i start c j step body g marks ts rest w s =
    let w2 = w.2 in
    let w3 = w2.2 in
    let w4 = w3.2 in
    let w5 = w4.2 in
    let w6 = w5.2 in
    let w7 = w6.2 in
    let w8 = w7.2 in
    let w9 = w8.2 in
    let w10 = w9.2 in
    let w11 = w10.2 in
    let w12 = w11.2 in
    node symbol.For at refl w.1 (
    expect symbol.OpenParen w.0 w2.0 w2.1 ▸ name_run i w2.0 w3.0 w3.1 ▸ expect symbol.Equals w3.0 w4.0 w4.1
    ▸ expression_runs start w4.0 w5.0 w5.1 (ends symbol.Semicolon w5.0 w6.0 refl w6.1) ▸ expect symbol.Semicolon w5.0 w6.0 w6.1
    ▸ expression_runs c w6.0 w7.0 w7.1 (ends symbol.Semicolon w7.0 w8.0 refl w8.1) ▸ expect symbol.Semicolon w7.0 w8.0 w8.1
    ▸ name_run j w8.0 w9.0 w9.1 ▸ expect symbol.Equals w9.0 w10.0 w10.1
    ▸ expression_runs step w10.0 w11.0 w11.1 (ends symbol.CloseParen w11.0 w12.0 refl w12.1) ▸ expect symbol.CloseParen w11.0 w12.0 w12.1
    ▸ good_marked body g w12.0 rest w12.2 s ▸ finished rest)

-- ---- blocks

GoodRow : Actions → Type 0
GoodRow actions = (ts mid rest : List Terminal) → AreStatements actions ts mid → IsA symbol.End mid rest → Does task.Statements ts mid (grow (nest_actions actions))

-- a statement of a block is followed by another, or by `end`
row_shut : (actions : Actions) (ts mid rest : List Terminal) → AreStatements actions ts mid → IsA symbol.End mid rest → Not symbol.Else ts
unfolding same_symbol
row_shut no_actions ts mid rest w e = subst (λ x. Not symbol.Else x) (sym w) (apart symbol.End symbol.Else mid rest refl e)
row_shut (more_actions a others) ts mid rest w e = begins_else (symbol_at ts) (statement_begins a ts w.0 w.1)

row_none : GoodRow no_actions
unfolding GoodRow same_symbol
row_none ts mid rest w e = subst (λ x. Does task.Statements x mid same) (sym w) (stay (ap (λ o. rule task.Statements o) (head symbol.End mid rest e)) (nothing mid))

row_more : (a : Action) (others : Actions) → Good a → GoodRow others → GoodRow (more_actions a others)
unfolding GoodRow
row_more a others g h ts mid rest w e =
    stay (begins_statements (symbol_at ts) (statement_begins a ts w.0 w.1)) (
    good_marked a g ts w.0 w.1 (shut a w.0 (row_shut others w.0 mid rest w.2 e)) ▸ h w.0 mid rest w.2 e ▸ nothing mid)

pub label_run : (l : Option Identifier) (ts rest : List Terminal) → IsOptional IsLabel l ts rest → Not symbol.Colon rest → Does task.Label ts rest same
unfolding same_symbol
label_run None ts rest w n = subst (λ x. Does task.Label x rest same) (sym w) (left_out task.Label symbol.Colon (task.Name ∷ []) rest (λ o. refl) (λ d. refl) n)
label_run (Some n) ts rest w m = token symbol.Colon refl w.1 (name_run n w.0 rest w.2 ▸ nothing rest)

row_colon : (actions : Actions) (ts mid rest : List Terminal) → AreStatements actions ts mid → IsA symbol.End mid rest → Not symbol.Colon ts
unfolding same_symbol
row_colon no_actions ts mid rest w e = subst (λ x. Not symbol.Colon x) (sym w) (apart symbol.End symbol.Colon mid rest refl e)
row_colon (more_actions a others) ts mid rest w e = begins_colon (symbol_at ts) (statement_begins a ts w.0 w.1)

good_block : (at : ℕ) (l : Option Identifier) (body : Actions) → GoodRow body → Good (Block at l body)
unfolding Good GoodRow
good_block at l body g marks ts rest w s =
    let v = w.2 in
    let u = v.2 in
    node symbol.Begin at refl w.1 (
    label_run l w.0 v.0 v.1 (row_colon body v.0 u.0 rest u.1 u.2) ▸ g v.0 u.0 rest u.1 u.2 ▸ expect symbol.End u.0 rest u.2 ▸ finished rest)

-- ---- cases

branch_shut : (bs : Branches) (ts mid rest : List Terminal) → AreMoreBranches bs ts mid → IsA symbol.Endcase mid rest → Not symbol.Else ts
unfolding same_symbol
branch_shut no_branches ts mid rest w e = subst (λ x. Not symbol.Else x) (sym w) (apart symbol.Endcase symbol.Else mid rest refl e)
branch_shut (more_branches (Labelled [] body) others) ts mid rest w e = absurd w.1.1
branch_shut (more_branches (Labelled (f ∷ fs) body) others) ts mid rest w e =
    let v = w.1.1 in
    opens_else (symbol_at ts) (formula_opens f 12 ts v.0 v.1)
branch_shut (more_branches (Default at body) others) ts mid rest w e =
    let v = w.1.1 in
    apart symbol.Default symbol.Else ts w.1.0 refl (v.0, v.1, v.2.0)

-- the claims of items of a case: before the default, and after it
record GoodBranches (bs : Branches) : Type 0 where
  before : (ts mid rest : List Terminal) → AreMoreBranches bs ts mid → defaults bs ≤ 1 → IsA symbol.Endcase mid rest → Does task.Branches ts mid (grow (nest_branches bs))
  after : (ts mid rest : List Terminal) → AreMoreBranches bs ts mid → defaults bs ≤ 0 → IsA symbol.Endcase mid rest → Does task.Labelled ts mid (grow (nest_branches bs))
  first : (ts mid rest : List Terminal) → AreBranches bs ts mid → defaults bs ≤ 1 → IsA symbol.Endcase mid rest → Does task.FirstBranch ts mid (grow (nest_branches bs))

no_more : GoodBranches no_branches
unfolding same_symbol
no_more =
    record {
      before = λ ts mid rest w d e. subst (λ x. Does task.Branches x mid same) (sym w) (stay (ap (λ o. rule task.Branches o) (head symbol.Endcase mid rest e)) (nothing mid));
      after = λ ts mid rest w d e. subst (λ x. Does task.Labelled x mid same) (sym w) (stay (ap (λ o. rule task.Labelled o) (head symbol.Endcase mid rest e)) (nothing mid));
      first = λ ts mid rest w d e. absurd w;
    }

pub labels_opens : (fs : List Formula) (ts rest : List Terminal) → AreListed IsExpression fs ts rest → Opens ts
labels_opens [] ts rest w = absurd w
labels_opens (f ∷ fs) ts rest w = formula_opens f 12 ts w.0 w.1

labelled_part : (fs : List Formula) (body : Action) (others : Branches) (t : Task) → Good body
    → ((ts mid rest : List Terminal) → AreMoreBranches others ts mid → IsA symbol.Endcase mid rest → Does t ts mid (grow (nest_branches others)))
    → (ts mid rest : List Terminal) → (IsBranch (Labelled fs body) ⨾ AreMoreBranches others) ts mid → IsA symbol.Endcase mid rest
    → Runs (task.Expression ∷ task.Expressions ∷ task.Expect symbol.Colon ∷ task.Statement ∷ t ∷ []) ts mid (grow (nest_branches (more_branches (Labelled fs body) others)))
unfolding same_symbol
labelled_part fs body others t g h ts mid rest w e =
    let v = w.1 in
    let u = v.2 in
    listed_run IsExpression task.Expression task.Expressions beside ((λ o. refl), (λ d. refl)) (λ f ts' rest' x c. expression_runs f ts' rest' x (closes_ends (symbol_at rest') c)) fs ts v.0 v.1
    (closes_by symbol.Colon v.0 u.0 refl u.1) (apart symbol.Colon symbol.Comma v.0 u.0 refl u.1)
    ▹ expect symbol.Colon v.0 u.0 u.1 ▸ good_marked body g u.0 w.0 u.2 (shut body w.0 (branch_shut others w.0 mid rest w.2 e)) ▸ h w.0 mid rest w.2 e ▸ nothing mid

pub colon_run : (ts rest : List Terminal) → IsDefaultEnd ts rest → Not symbol.Colon rest → Does task.DefaultColon ts rest same
unfolding same_symbol
colon_run ts rest (inl w) n = subst (λ x. Does task.DefaultColon x rest same) (sym w) (left_out task.DefaultColon symbol.Colon [] rest (λ o. refl) (λ d. refl) n)
colon_run ts rest (inr w) n = token symbol.Colon refl w (nothing rest)

default_part : (at : ℕ) (body : Action) (others : Branches) → Good body → GoodBranches others → (t : Task) → ((d : Depths) → counted t d ≡ d)
    → rule t (Some symbol.Default) ≡ go taking.Token (task.DefaultColon ∷ task.Statement ∷ task.Labelled ∷ []) → (ts mid rest : List Terminal)
    → (IsBranch (Default at body) ⨾ AreMoreBranches others) ts mid → defaults others ≤ 0 → IsA symbol.Endcase mid rest → Does t ts mid (grow (nest_branches (more_branches (Default at body) others)))
default_part at body others g h t k r ts mid rest w d e =
    let v = w.1 in
    let u = v.2 in
    told (λ x. grow (nest_branches others) (grow (beside_action body) (counted t x))) (grow (nest_branches (more_branches (Default at body) others))) (λ x. ap (λ z. grow (nest_branches others) (grow (beside_action body) z)) (k x))
    (token symbol.Default r (v.1.0, v.1.1, v.1.2.0) (
    colon_run v.0 u.0 u.1 (begins_colon (symbol_at u.0) (statement_begins body u.0 w.0 u.2))
    ▸ good_marked body g u.0 w.0 u.2 (shut body w.0 (branch_shut others w.0 mid rest w.2 e)) ▸ h.after w.0 mid rest w.2 d e ▸ nothing mid))

more_labelled : (fs : List Formula) (body : Action) (others : Branches) → Good body → GoodBranches others → GoodBranches (more_branches (Labelled fs body) others)
more_labelled fs body others g h =
    record {
      before = λ ts mid rest w d e.
          stay (opens_branches (symbol_at ts) (labels_opens fs ts w.1.0 w.1.1)) (
          labelled_part fs body others task.Branches g (λ ts' mid' rest' x y. h.before ts' mid' rest' x d y) ts mid rest w e);
      after = λ ts mid rest w d e.
          stay (opens_labelled (symbol_at ts) (labels_opens fs ts w.1.0 w.1.1)) (
          labelled_part fs body others task.Labelled g (λ ts' mid' rest' x y. h.after ts' mid' rest' x d y) ts mid rest w e);
      first = λ ts mid rest w d e.
          stay (opens_first (symbol_at ts) (labels_opens fs ts w.1.0 w.1.1)) (
          labelled_part fs body others task.Branches g (λ ts' mid' rest' x y. h.before ts' mid' rest' x d y) ts mid rest w e);
    }

more_default : (at : ℕ) (body : Action) (others : Branches) → Good body → GoodBranches others → GoodBranches (more_branches (Default at body) others)
more_default at body others g h =
    record {
      before = λ ts mid rest w d e. default_part at body others g h task.Branches (λ d. refl) refl ts mid rest w (omega (arith, d)) e;
      after = λ ts mid rest w d e. absurd (omega (arith, d));
      first = λ ts mid rest w d e. default_part at body others g h task.FirstBranch (λ d. refl) refl ts mid rest w (omega (arith, d)) e;
    }

case_rule : (k : CaseKind) → rule task.Statement (Some (case_symbol k))
    ≡ go taking.Node (task.Expect symbol.OpenParen ∷ task.Expression ∷ task.Expect symbol.CloseParen ∷ task.FirstBranch ∷ task.Expect symbol.Endcase ∷ task.Wrap ∷ task.Join ∷ [])
case_rule kind.Plain = refl
case_rule kind.Z = refl
case_rule kind.X = refl

good_case : (at : ℕ) (k : CaseKind) (full parallel : Bool) (selector : Formula) (bs : Branches) → GoodBranches bs → Good (Case at k full parallel selector bs)
unfolding Good
good_case at k full parallel selector bs g marks ts rest x s =
    let w = x.5 in
    let v = w.2 in
    let u = v.2 in
    let z = u.2 in
    let y = z.2 in
    let closing : IsA symbol.CloseParen u.0 z.0 = (z.1.0, z.1.1, z.1.2.0) in
    node (case_symbol k) at (case_rule k) w.1 (
    expect symbol.OpenParen w.0 v.0 v.1 ▸ expression_runs selector v.0 u.0 u.1 (ends symbol.CloseParen u.0 z.0 refl closing) ▸ expect symbol.CloseParen u.0 z.0 closing
    ▸ g.first z.0 y.0 rest y.1 x.4 y.2 ▸ expect symbol.Endcase y.0 rest y.2 ▸ finished rest)

-- ---- all of them

mutual
  all : (a : Action) → Good a
  all (Null at) = good_null at
  all (Delayed pause body) = good_delayed pause body (all body)
  all (Assign target k pause value) = good_assign target k pause value
  all (If at condition taken) = good_if at condition taken (all taken)
  all (IfElse at condition taken otherwise) = good_if_else at condition taken otherwise (all taken) (all otherwise)
  all (Case at k full parallel selector bs) = good_case at k full parallel selector bs (branches bs)
  all (For at index start condition stepped step body) = good_for at index start condition stepped step body (all body)
  all (Block at label body) = good_block at label body (row body)

  row : (actions : Actions) → GoodRow actions
  row no_actions = row_none
  row (more_actions a others) = row_more a others (all a) (row others)

  branches : (bs : Branches) → GoodBranches bs
  branches no_branches = no_more
  branches (more_branches b others) = one_branch b others (branches others)

  one_branch : (b : Branch) (others : Branches) → GoodBranches others → GoodBranches (more_branches b others)
  one_branch (Labelled labels body) others h = more_labelled labels body others (all body) h
  one_branch (Default at body) others h = more_default at body others (all body) h

pub statement_runs : (a : Action) (ts rest : List Terminal) → IsStatement a ts rest → Shut a rest → Does task.Statement ts rest (grow (beside_action a))
statement_runs a ts rest w s = good_marked a (all a) ts rest w s
