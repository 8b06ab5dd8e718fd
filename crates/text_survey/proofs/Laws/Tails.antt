-- The rest of an expression of which the first operand was read.
use Rattle.std.proofs.Common.{◌≡◌, ℕ, ◌<◌, ◌≤◌, ◌⊎◌, inl, inr, List, [], ◌∷◌, ◌++◌, None, refl, sym, ap, subst, ◌∙◌, arith}
use Rattle.rtl_tree.specs.declared.symbol.Symbol.TheVariants as symbol
use Rattle.rtl_tree.specs.Symbols.{Terminal}
use Rattle.rtl_tree.specs.TreeExpr.{Formula, Number, Read, ReadBit, ReadPart, Parens, Apply, Concat, Repeat, Unary, Binary, Choose}
use Rattle.text_grammar.specs.GrammarExpr.{IsFormula, IsExpression, binary_symbol, level}
use Rattle.text_survey.specs.declared.task.Level.TheVariants as grade
use Rattle.text_survey.specs.declared.task.Task.{Task}
use Rattle.text_survey.specs.declared.task.Task.TheVariants as task
use Rattle.text_survey.specs.Table.{looseness}
use Rattle.text_survey.specs.Machine.{symbol_at}
use Rattle.text_survey.specs.Depths.{Depths, advance, reading, ReadsOn}
use Rattle.text_survey.proofs.Laws.Counts.{push, grow, trans_read, between, framed}
use Rattle.text_survey.proofs.Laws.Nests.{nest, beside}
use Rattle.text_survey.proofs.Laws.Expressions.{head, Ends, level_some, level_small, grade_loose, expression_runs, operand_runs}

-- what is to be done after the first operand of an expression
abbrev pub tail : List Task
tail =
    task.Chain grade.Power ∷ task.Chain grade.Product ∷ task.Chain grade.Sum ∷ task.Chain grade.Shift ∷ task.Chain grade.Comparison ∷ task.Chain grade.Equality ∷
    task.Chain grade.And ∷ task.Chain grade.Xor ∷ task.Chain grade.Or ∷ task.Chain grade.LogicalAnd ∷ task.Chain grade.LogicalOr ∷ task.Choice ∷ task.Join ∷ []

-- an expression begins with an operand
descent : (ts : List Terminal) (d : Depths) → ReadsOn (reading (task.Expression ∷ []) ts d) (reading (task.Level grade.Operand ∷ tail) ts d)
unfolding advance
descent ts d = (12, refl)

nothing_on : (ts : List Terminal) (d : Depths) → advance [] ts d ≡ None
unfolding advance
nothing_on ts d = refl

-- the first operand is read, and then the rest
pub tail_runs : (f g : Formula) (ts mid rest : List Terminal) → IsExpression f ts rest → Ends rest → IsFormula 0 g ts mid → 0 < looseness (symbol_at mid) → (others : List Task) (d : Depths)
    → ReadsOn (reading (tail ++ others) mid (push (nest g) d)) (reading others rest (grow (beside f) d))
tail_runs f g ts mid rest w h x l others d =
    let whole = (expression_runs f ts rest w h).runs [] d in
    let some = trans_read (reading (task.Expression ∷ []) ts d) (reading (task.Level grade.Operand ∷ tail) ts d) (reading tail mid (push (nest g) d)) (descent ts d) ((operand_runs g ts mid x l).runs tail d) in
    framed tail others mid rest (push (nest g) d) (grow (beside f) d)
    (between (reading (task.Expression ∷ []) ts d) (reading [] rest (grow (beside f) d)) (reading tail mid (push (nest g) d)) whole (nothing_on rest (grow (beside f) d)) some)

-- ---- the first operand

-- an expression begins with this operand, after which it ends or an operator comes
pub record Led (ts rest : List Terminal) : Type 0 where
  pub first : Formula
  pub mid : List Terminal
  pub spelled : IsFormula 0 first ts mid
  pub next : (mid ≡ rest) ⊎ ((1 ≤ looseness (symbol_at mid)) × (looseness (symbol_at mid) ≤ 12))

-- what is an operand by itself
itself : (f : Formula) (ts rest : List Terminal) → IsFormula 0 f ts rest → Led ts rest
itself f ts rest w = record { first = f; mid = rest; spelled = w; next = inl refl }

next_by : (mid rest : List Terminal) → 1 ≤ looseness (symbol_at rest) → looseness (symbol_at rest) ≤ 12 → (mid ≡ rest) ⊎ ((1 ≤ looseness (symbol_at mid)) × (looseness (symbol_at mid) ≤ 12))
    → (1 ≤ looseness (symbol_at mid)) × (looseness (symbol_at mid) ≤ 12)
next_by mid rest a b (inl e) = subst (λ x. (1 ≤ looseness (symbol_at x)) × (looseness (symbol_at x) ≤ 12)) (sym e) (a, b)
next_by mid rest a b (inr n) = n

-- an operator comes after the left operand
passed : (ts mid rest : List Terminal) → Led ts mid → 1 ≤ looseness (symbol_at mid) → looseness (symbol_at mid) ≤ 12 → Led ts rest
passed ts mid rest l a b = record { first = l.first; mid = l.mid; spelled = l.spelled; next = inr (next_by l.mid mid a b l.next) }

pub led : (f : Formula) (k : ℕ) (ts rest : List Terminal) → IsFormula k f ts rest → Led ts rest
led (Number value at) k ts rest w = itself (Number value at) ts rest w
led (Read name) k ts rest w = itself (Read name) ts rest w
led (ReadBit name index) k ts rest w = itself (ReadBit name index) ts rest w
led (ReadPart name kind first second) k ts rest w = itself (ReadPart name kind first second) ts rest w
led (Parens at inner) k ts rest w = itself (Parens at inner) ts rest w
led (Apply s at inner) k ts rest w = itself (Apply s at inner) ts rest w
led (Concat at parts) k ts rest w = itself (Concat at parts) ts rest w
led (Repeat at times parts) k ts rest w = itself (Repeat at times parts) ts rest w
led (Unary op at operand) k ts rest w = itself (Unary op at operand) ts rest w
led (Binary op at l r) k ts rest w =
    let x = w.1 in
    let v = x.2 in
    let loose : looseness (symbol_at x.0) ≡ level op = ap looseness (head (binary_symbol op) x.0 v.0 (v.1.0, v.1.1, v.1.2.0)) ∙ grade_loose op in
    passed ts x.0 rest (led l (level op) ts x.0 x.1) (omega (arith, loose, level_some op)) (omega (arith, loose, level_small op))
led (Choose at c t o) k ts rest w =
    let x = w.1 in
    let v = x.2 in
    let loose : looseness (symbol_at x.0) ≡ 12 = ap looseness (head symbol.Question x.0 v.0 (v.1.0, v.1.1, v.1.2.0)) in
    passed ts x.0 rest (led c 11 ts x.0 x.1) (omega (arith, loose)) (omega (arith, loose))
