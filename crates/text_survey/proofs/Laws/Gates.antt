-- What is spelled is gone through: gates.
use Rattle.std.proofs.Common.{◌≡◌, ℕ, ◌<◌, ◌≤◌, ◌⊎◌, inl, inr, Bool, true, false, List, [], ◌∷◌, ◌++◌, Option, Some, None, refl, sym, ap, subst, ◌∙◌, arith}
use Rattle.rtl_tree.specs.declared.symbol.Symbol.{Symbol}
use Rattle.rtl_tree.specs.declared.symbol.Symbol.TheVariants as symbol
use Rattle.rtl_tree.specs.declared.tree.gate.GateKind.{GateKind}
use Rattle.rtl_tree.specs.declared.tree.gate.GateKind.TheVariants as kind
use Rattle.rtl_tree.specs.declared.tree.operators.SystemFunction.{SystemFunction}
use Rattle.rtl_tree.specs.declared.tree.operators.SystemFunction.TheVariants as function
use Rattle.rtl_tree.specs.declared.tree.operators.UnaryOperator.{UnaryOperator}
use Rattle.rtl_tree.specs.declared.tree.operators.UnaryOperator.TheVariants as unary
use Rattle.rtl_tree.specs.Symbols.{Terminal}
use Rattle.rtl_tree.specs.TreeExpr.{Formula, Number, Read, ReadBit, ReadPart, Parens, Apply, Concat, Repeat, Unary, Binary, Choose, Identifier}
use Rattle.rtl_tree.specs.TreeStmt.{Fixed, Named, Valued}
use Rattle.rtl_tree.specs.TreeGate.{GateSpan, One, Two, GatePause, Gate}
use Rattle.text_grammar.specs.Grammar.{Spelling, ◌⨾◌, IsA, IsAt, IsName, IsOptional, AreListed}
use Rattle.text_grammar.specs.GrammarExpr.{IsFormula, IsExpression, function_symbol, unary_symbol}
use Rattle.text_grammar.specs.GrammarStmt.{IsTarget}
use Rattle.text_grammar.specs.GrammarGate.{gate_symbol, IsGateSpan, IsGatePause, has_one_input, is_named, AreTerminals, IsGate}
use Rattle.text_survey.specs.declared.task.Task.{Task}
use Rattle.text_survey.specs.declared.task.Task.TheVariants as task
use Rattle.text_survey.specs.declared.task.Taking.TheVariants as taking
use Rattle.text_survey.specs.Table.{go, is_next, same_symbol, looseness}
use Rattle.text_survey.specs.Rule.{rule}
use Rattle.text_survey.specs.Machine.{symbol_at}
use Rattle.text_survey.specs.Depths.{Nest, Nothing, Within, Depths, begun, reading, ReadsOn}
use Rattle.text_survey.proofs.Laws.Counts.{Does, ◌▸◌, ◌▹◌, same, push, grow, nothing, trans_read, stay, token, one, one_taken}
use Rattle.text_survey.proofs.Laws.Nests.{nest, beside, all_beside, gate_spanned, gate_paused, gate}
use Rattle.text_survey.proofs.Laws.Operands.{no_select}
use Rattle.text_survey.proofs.Laws.Expressions.{head, wrap, join, expect, ends, Not, apart, left_out, bit, part, name_at, level_some, expression_runs}
use Rattle.text_survey.proofs.Laws.Starts.{closes_by, closes_ends}
use Rattle.text_survey.proofs.Laws.Lists.{Each, listed_run, ended, target_run}
use Rattle.text_survey.proofs.Laws.Tails.{tail, tail_runs, Led, led}

-- a gate, by whether it has one input
abbrev pub IsGateOf : Bool → Gate → Spelling
IsGateOf b g =
    λ tokens rest. AreTerminals b g.terminals
    × (IsOptional IsName g.name ⨾ IsA symbol.OpenParen ⨾ IsTarget g.output ⨾ IsA symbol.Comma ⨾ AreListed IsExpression g.terminals ⨾ IsA symbol.CloseParen) tokens rest

-- ---- delays

ticks_run : (s : GateSpan) (ts rest : List Terminal) → IsGateSpan s ts rest → Does task.GateTicks ts rest (grow (gate_spanned s))
unfolding same_symbol
ticks_run (One (Fixed value)) ts rest w = token symbol.Number refl (w.0, w.1, w.2.0) (nothing rest)
ticks_run (One (Named name)) ts rest w = token symbol.Name refl (w.0, w.1, w.2.0) (nothing rest)
ticks_run (One (Valued value)) ts rest w =
    let v = w.2 in
    token symbol.OpenParen refl w.1 (
    expression_runs value w.0 v.0 v.1 (ends symbol.CloseParen v.0 rest refl v.2)
    ▸ left_out task.Fall symbol.Comma (task.Expression ∷ []) v.0 (λ o. refl) (λ d. refl) (apart symbol.CloseParen symbol.Comma v.0 rest refl v.2)
    ▸ expect symbol.CloseParen v.0 rest v.2 ▸ nothing rest)
ticks_run (Two rise fall) ts rest w =
    let v = w.2 in
    let u = v.2 in
    let z = u.2 in
    token symbol.OpenParen refl w.1 (
    expression_runs rise w.0 v.0 v.1 (ends symbol.Comma v.0 u.0 refl u.1)
    ▸ token symbol.Comma refl u.1 (expression_runs fall u.0 z.0 z.1 (ends symbol.CloseParen z.0 rest refl z.2) ▸ nothing z.0)
    ▸ expect symbol.CloseParen z.0 rest z.2 ▸ nothing rest)

delay_run : (p : Option GatePause) (ts rest : List Terminal) → IsOptional IsGatePause p ts rest → Not symbol.Hash rest → Does task.GateDelay ts rest (grow (gate_paused p))
unfolding same_symbol
delay_run None ts rest w n = subst (λ x. Does task.GateDelay x rest same) (sym w) (left_out task.GateDelay symbol.Hash (task.GateTicks ∷ []) rest (λ o. refl) (λ d. refl) n)
delay_run (Some p) ts rest w n = token symbol.Hash refl (w.1.0, w.1.1, w.1.2.0) (ticks_run p.span w.0 rest w.2 ▸ nothing rest)

-- ---- outputs and the input of gates with one input

-- a name comes next
is_name : Option Symbol → Bool
is_name (Some symbol.Name) = true
is_name other = false

-- a name with its select
name_steps : (name : Identifier) (inner : Nest → Nest) (ts mid rest : List Terminal) → IsName name ts mid → Does task.Select mid rest (grow inner) → (others : List Task) (d : Depths)
    → ReadsOn (reading (task.OutputOrInput ∷ others) ts d) (reading (task.AfterName ∷ others) rest (push (Within name.at (inner Nothing)) d))
name_steps name inner ts mid rest w s others d =
    let selected = s ▸ wrap rest ▸ nothing rest in
    trans_read (reading (task.OutputOrInput ∷ others) ts d) (reading (task.Select ∷ task.Wrap ∷ task.AfterName ∷ others) mid (begun taking.Node name.at d))
    (reading (task.AfterName ∷ others) rest (push (Within name.at (inner Nothing)) d))
    (one_taken task.OutputOrInput (record { taking = taking.Node; tasks = task.Select ∷ task.Wrap ∷ task.AfterName ∷ [] }) symbol.Name name.at ts mid others d refl (λ a ends'. refl) (name_at name ts mid w))
    (selected.runs (task.AfterName ∷ others) (begun taking.Node name.at d))

named_steps : (f : Formula) (ts rest : List Terminal) → is_named f ≡ true → IsFormula 0 f ts rest → 0 < looseness (symbol_at rest) → (others : List Task) (d : Depths)
    → ReadsOn (reading (task.OutputOrInput ∷ others) ts d) (reading (task.AfterName ∷ others) rest (push (nest f) d))
named_steps (Read name) ts rest e w h others d = name_steps name (λ n. n) ts rest rest w (stay (no_select (symbol_at rest) h) (nothing rest)) others d
named_steps (ReadBit name index) ts rest e w h others d = name_steps name (beside index) ts w.0 rest w.1 (bit w.0 rest index (expression_runs index) w.2) others d
named_steps (ReadPart name k first second) ts rest e w h others d =
    name_steps name (λ n. beside second (beside first n)) ts w.0 rest w.1 (part w.0 rest k first second (expression_runs first) (expression_runs second) w.2) others d
named_steps (Number value at) ts rest e w h others d = cc
named_steps (Parens at inner) ts rest e w h others d = cc
named_steps (Apply s at inner) ts rest e w h others d = cc
named_steps (Concat at parts) ts rest e w h others d = cc
named_steps (Repeat at times parts) ts rest e w h others d = cc
named_steps (Unary op at operand) ts rest e w h others d = cc
named_steps (Binary op at l r) ts rest e w h others d = cc
named_steps (Choose at c t o) ts rest e w h others d = cc

unnamed : (s : Symbol) (ts rest : List Terminal) → is_name (Some s) ≡ false → IsA s ts rest → is_name (symbol_at ts) ≡ true → ⊥
unnamed s ts rest e w h = no_true (is_name (Some s)) e (sym (ap is_name (head s ts rest w)) ∙ h)
  where
    no_true : (b : Bool) → b ≡ false → b ≡ true → ⊥
    no_true b x y = cc

no_function : (s : SystemFunction) → is_name (Some (function_symbol s)) ≡ false
unfolding is_name
no_function function.Signed = refl
no_function function.Unsigned = refl
no_function function.Clog2 = refl

no_operator : (op : UnaryOperator) → is_name (Some (unary_symbol op)) ≡ false
unfolding is_name
no_operator unary.Plus = refl
no_operator other = refl

-- an operand that begins with a name
named : (f : Formula) (ts rest : List Terminal) → IsFormula 0 f ts rest → is_name (symbol_at ts) ≡ true → is_named f ≡ true
unfolding is_name
named (Read name) ts rest w h = refl
named (ReadBit name index) ts rest w h = refl
named (ReadPart name k first second) ts rest w h = refl
named (Number value at) ts rest w h = absurd (unnamed symbol.Number ts rest refl (w.0, w.1, w.2.0) h)
named (Parens at inner) ts rest w h = absurd (unnamed symbol.OpenParen ts w.0 refl (w.1.0, w.1.1, w.1.2.0) h)
named (Apply s at inner) ts rest w h = absurd (unnamed (function_symbol s) ts w.0 (no_function s) (w.1.0, w.1.1, w.1.2.0) h)
named (Concat at parts) ts rest w h = absurd (unnamed symbol.OpenBrace ts w.0 refl (w.1.0, w.1.1, w.1.2.0) h)
named (Repeat at times parts) ts rest w h = absurd (unnamed symbol.OpenBrace ts w.0 refl (w.1.0, w.1.1, w.1.2.0) h)
named (Unary op at operand) ts rest w h = absurd (unnamed (unary_symbol op) ts w.0 (no_operator op) (w.1.0, w.1.1, w.1.2.0) h)
named (Binary op at l r) ts rest w h = absurd (omega (arith, w.0, level_some op))
named (Choose at c t o) ts rest w h = absurd (omega (arith, w.0))

tight : (f : Formula) (ts rest : List Terminal) → is_named f ≡ true → IsExpression f ts rest → IsFormula 0 f ts rest
tight (Read name) ts rest e w = w
tight (ReadBit name index) ts rest e w = w
tight (ReadPart name k first second) ts rest e w = w
tight (Number value at) ts rest e w = w
tight (Parens at inner) ts rest e w = w
tight (Apply s at inner) ts rest e w = w
tight (Concat at parts) ts rest e w = w
tight (Repeat at times parts) ts rest e w = w
tight (Unary op at operand) ts rest e w = w
tight (Binary op at l r) ts rest e w = cc
tight (Choose at c t o) ts rest e w = cc

no_comma : (o : Option Symbol) → looseness o ≤ 12 → is_next symbol.Comma o ≡ false
unfolding same_symbol
no_comma (Some symbol.Comma) h = absurd (omega (arith, h))
no_comma None h = refl
no_comma (Some other) h = refl

rest_rule : (o : Option Symbol) → is_next symbol.Comma o ≡ false → rule task.AfterName o ≡ go taking.Nothing tail
unfolding same_symbol
rest_rule (Some symbol.Comma) h = cc
rest_rule None h = refl
rest_rule (Some other) h = refl

plain_rule : (o : Option Symbol) → is_name o ≡ false → rule task.OutputOrInput o ≡ go taking.Nothing (task.Expression ∷ [])
unfolding is_name
plain_rule (Some symbol.Name) h = cc
plain_rule None h = refl
plain_rule (Some other) h = refl

-- the operand that an expression begins with is followed by no select and no comma
followed : (ts mid rest : List Terminal) (l : Led ts mid) → IsA symbol.CloseParen mid rest → (0 < looseness (symbol_at l.mid)) × Not symbol.Comma l.mid
unfolding same_symbol
followed ts mid rest l c = by_next l.next
  where
    by_next : (l.mid ≡ mid) ⊎ ((1 ≤ looseness (symbol_at l.mid)) × (looseness (symbol_at l.mid) ≤ 12)) → (0 < looseness (symbol_at l.mid)) × Not symbol.Comma l.mid
    by_next (inl e) =
        subst (λ x. (0 < looseness (symbol_at x)) × Not symbol.Comma x) (sym e)
        (omega (arith, ends symbol.CloseParen mid rest refl c), apart symbol.CloseParen symbol.Comma mid rest refl c)
    by_next (inr n) = (omega (arith, n.0), no_comma (symbol_at l.mid) n.1)

-- the last terminal
last_by : (f : Formula) (ts mid rest : List Terminal) → IsExpression f ts mid → IsA symbol.CloseParen mid rest → (b : Bool) → is_name (symbol_at ts) ≡ b → Does task.OutputOrInput ts mid (grow (beside f))
last_by f ts mid rest w c true e =
    let l = led f 12 ts mid w in
    let g = l.first in
    let n = followed ts mid rest l c in
    record {
      runs = λ others d.
          trans_read (reading (task.OutputOrInput ∷ others) ts d) (reading (task.AfterName ∷ others) l.mid (push (nest g) d)) (reading others mid (grow (beside f) d))
          (named_steps g ts l.mid (named g ts l.mid l.spelled e) l.spelled n.0 others d)
          (trans_read (reading (task.AfterName ∷ others) l.mid (push (nest g) d)) (reading (tail ++ others) l.mid (push (nest g) d)) (reading others mid (grow (beside f) d))
          (one task.AfterName (record { taking = taking.Nothing; tasks = tail }) l.mid others (push (nest g) d) (rest_rule (symbol_at l.mid) n.1))
          (tail_runs f g ts l.mid mid w (ends symbol.CloseParen mid rest refl c) l.spelled n.0 others d));
    }
last_by f ts mid rest w c false e = stay (plain_rule (symbol_at ts) e) (expression_runs f ts mid w (ends symbol.CloseParen mid rest refl c) ▸ nothing mid)

last_run : (f : Formula) (ts mid rest : List Terminal) → IsExpression f ts mid → IsA symbol.CloseParen mid rest → Does task.OutputOrInput ts mid (grow (beside f))
last_run f ts mid rest w c = last_by f ts mid rest w c (is_name (symbol_at ts)) refl

terminals_run : (fs : List Formula) (ts mid rest : List Terminal) → AreListed IsExpression fs ts mid → AreTerminals true fs → IsA symbol.CloseParen mid rest → Does task.OutputOrInput ts mid (grow (all_beside beside fs))
terminals_run [] ts mid rest w a c = absurd w
terminals_run (f ∷ []) ts mid rest w a c = last_run f ts mid rest (subst (λ x. IsExpression f ts x) w.2 w.1) c
terminals_run (f ∷ g ∷ fs) ts mid rest w a c =
    let v = w.2 in
    let others' = terminals_run (g ∷ fs) v.0 mid rest v.2 a.1 c in
    let after' = token symbol.Comma refl v.1 (join v.0 ▸ others' ▸ nothing mid) in
    record {
      runs = λ others d.
          trans_read (reading (task.OutputOrInput ∷ others) ts d) (reading (task.AfterName ∷ others) w.0 (push (nest f) d)) (reading others mid (grow (all_beside beside (f ∷ g ∷ fs)) d))
          (named_steps f ts w.0 a.0 (tight f ts w.0 a.0 w.1) (omega (arith, ends symbol.Comma w.0 v.0 refl v.1)) others d)
          (after'.runs others (push (nest f) d));
    }

-- ---- gates

name_run : (n : Option Identifier) (ts mid rest : List Terminal) → IsOptional IsName n ts mid → IsA symbol.OpenParen mid rest → Does task.GateName ts mid same
unfolding same_symbol
name_run None ts mid rest w o = subst (λ x. Does task.GateName x mid same) (sym w) (left_out task.GateName symbol.Name [] mid (λ x. refl) (λ d. refl) (apart symbol.OpenParen symbol.Name mid rest refl o))
name_run (Some n) ts mid rest w o = token symbol.Name refl (w.0, w.1, w.2.0) (nothing mid)

gate_each : Each (IsGateOf false) task.Gate gate
unfolding same_symbol
gate_each g ts rest x c =
    let w = x.1 in
    let w2 = w.2 in
    let w3 = w2.2 in
    let w4 = w3.2 in
    let w5 = w4.2 in
    stay refl (
    name_run g.name ts w.0 w2.0 w.1 w2.1 ▸ expect symbol.OpenParen w.0 w2.0 w2.1
    ▸ target_run g.output w2.0 w3.0 w3.1 (omega (arith, ends symbol.Comma w3.0 w4.0 refl w4.1)) ▸ expect symbol.Comma w3.0 w4.0 w4.1
    ▸ listed_run IsExpression task.Expression task.Expressions beside ((λ o. refl), (λ d. refl)) (λ f ts' rest' y d. expression_runs f ts' rest' y (closes_ends (symbol_at rest') d)) g.terminals w4.0 w5.0 w5.1
    (closes_by symbol.CloseParen w5.0 rest refl w5.2) (apart symbol.CloseParen symbol.Comma w5.0 rest refl w5.2)
    ▹ expect symbol.CloseParen w5.0 rest w5.2 ▸ nothing rest)

buffer_each : Each (IsGateOf true) task.Buffer gate
buffer_each g ts rest x c =
    let w = x.1 in
    let w2 = w.2 in
    let w3 = w2.2 in
    let w4 = w3.2 in
    let w5 = w4.2 in
    stay refl (
    name_run g.name ts w.0 w2.0 w.1 w2.1 ▸ expect symbol.OpenParen w.0 w2.0 w2.1
    ▸ target_run g.output w2.0 w3.0 w3.1 (omega (arith, ends symbol.Comma w3.0 w4.0 refl w4.1)) ▸ expect symbol.Comma w3.0 w4.0 w4.1
    ▸ terminals_run g.terminals w4.0 w5.0 rest w5.1 x.0 w5.2
    ▸ expect symbol.CloseParen w5.0 rest w5.2 ▸ nothing rest)

name_delay : (n : Option Identifier) (ts mid rest : List Terminal) → IsOptional IsName n ts mid → IsA symbol.OpenParen mid rest → Not symbol.Hash ts
unfolding same_symbol
name_delay None ts mid rest w o = subst (λ x. Not symbol.Hash x) (sym w) (apart symbol.OpenParen symbol.Hash mid rest refl o)
name_delay (Some n) ts mid rest w o = apart symbol.Name symbol.Hash ts mid refl (w.0, w.1, w.2.0)

gates_delay : (k : GateKind) (gs : List Gate) (ts rest : List Terminal) → AreListed (IsGate k) gs ts rest → Not symbol.Hash ts
gates_delay k [] ts rest w = absurd w
gates_delay k (g ∷ gs) ts rest w =
    let v = w.1.1 in
    let u = v.2 in
    name_delay g.name ts v.0 u.0 v.1 u.1

gate_rule : (k : GateKind) → has_one_input k ≡ false → rule task.MarkedItem (Some (gate_symbol k)) ≡ go taking.Token (task.GateDelay ∷ task.Gate ∷ task.Gates ∷ task.Expect symbol.Semicolon ∷ [])
gate_rule kind.And e = refl
gate_rule kind.Nand e = refl
gate_rule kind.Or e = refl
gate_rule kind.Nor e = refl
gate_rule kind.Xor e = refl
gate_rule kind.Xnor e = refl
gate_rule kind.Buf e = cc
gate_rule kind.Not e = cc

buffer_rule : (k : GateKind) → has_one_input k ≡ true → rule task.MarkedItem (Some (gate_symbol k)) ≡ go taking.Token (task.GateDelay ∷ task.Buffer ∷ task.Buffers ∷ task.Expect symbol.Semicolon ∷ [])
buffer_rule kind.And e = cc
buffer_rule kind.Nand e = cc
buffer_rule kind.Or e = cc
buffer_rule kind.Nor e = cc
buffer_rule kind.Xor e = cc
buffer_rule kind.Xnor e = cc
buffer_rule kind.Buf e = refl
buffer_rule kind.Not e = refl

gates_by : (at : ℕ) (k : GateKind) (p : Option GatePause) (gs : List Gate) (ts rest : List Terminal) → (IsAt (gate_symbol k) at ⨾ IsOptional IsGatePause p ⨾ AreListed (IsGate k) gs ⨾ IsA symbol.Semicolon) ts rest
    → (b : Bool) → has_one_input k ≡ b → Does task.MarkedItem ts rest (grow (λ before. all_beside gate gs (gate_paused p before)))
gates_by at k p gs ts rest w false e =
    let w2 = w.2 in
    let v = w2.2 in
    token (gate_symbol k) (gate_rule k e) (w.1.0, w.1.1, w.1.2.0) (
    delay_run p w.0 w2.0 w2.1 (gates_delay k gs w2.0 v.0 v.1)
    ▸ ended (IsGate k) task.Gate task.Gates gate ((λ o. refl), (λ d. refl)) (λ g ts' rest' x c. gate_each g ts' rest' (subst (λ b. IsGateOf b g ts' rest') e x) c) gs w2.0 rest w2.2)
gates_by at k p gs ts rest w true e =
    let w2 = w.2 in
    let v = w2.2 in
    token (gate_symbol k) (buffer_rule k e) (w.1.0, w.1.1, w.1.2.0) (
    delay_run p w.0 w2.0 w2.1 (gates_delay k gs w2.0 v.0 v.1)
    ▸ ended (IsGate k) task.Buffer task.Buffers gate ((λ o. refl), (λ d. refl)) (λ g ts' rest' x c. buffer_each g ts' rest' (subst (λ b. IsGateOf b g ts' rest') e x) c) gs w2.0 rest w2.2)

pub gates_run : (at : ℕ) (k : GateKind) (p : Option GatePause) (gs : List Gate) (ts rest : List Terminal) → (IsAt (gate_symbol k) at ⨾ IsOptional IsGatePause p ⨾ AreListed (IsGate k) gs ⨾ IsA symbol.Semicolon) ts rest
    → Does task.MarkedItem ts rest (grow (λ before. all_beside gate gs (gate_paused p before)))
gates_run at k p gs ts rest w = gates_by at k p gs ts rest w (has_one_input k) refl
