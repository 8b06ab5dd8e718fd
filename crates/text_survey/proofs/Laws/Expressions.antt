-- What is spelled is gone through: expressions.
use Rattle.std.proofs.Math.Nat.{eq-or-lt_of_le}
use Rattle.std.proofs.Common.{◌≡◌, ℕ, zero, suc, ◌+◌, ◌-◌, ◌<◌, ◌≤◌, ◌⊎◌, inl, inr, cond, false, List, [], ◌∷◌, Option, Some, None, refl, sym, ap, subst, ◌∙◌, arith}
use Rattle.rtl_tree.specs.declared.symbol.Symbol.{Symbol}
use Rattle.rtl_tree.specs.declared.symbol.Symbol.TheVariants as symbol
use Rattle.rtl_tree.specs.declared.tree.operators.UnaryOperator.{UnaryOperator}
use Rattle.rtl_tree.specs.declared.tree.operators.UnaryOperator.TheVariants as unary
use Rattle.rtl_tree.specs.declared.tree.operators.BinaryOperator.{BinaryOperator}
use Rattle.rtl_tree.specs.declared.tree.operators.BinaryOperator.TheVariants as binary
use Rattle.rtl_tree.specs.declared.tree.operators.SystemFunction.{SystemFunction}
use Rattle.rtl_tree.specs.declared.tree.operators.SystemFunction.TheVariants as sign
use Rattle.rtl_tree.specs.declared.tree.operators.PartKind.{PartKind}
use Rattle.rtl_tree.specs.declared.tree.operators.PartKind.TheVariants as kind
use Rattle.rtl_tree.specs.Symbols.{Terminal}
use Rattle.rtl_tree.specs.TreeExpr.{Identifier, Formula, Number, Read, ReadBit, ReadPart, Parens, Apply, Concat, Repeat, Unary, Binary, Choose, Formulas, no_formulas, more_formulas}
use Rattle.text_grammar.specs.Grammar.{◌⨾◌, IsA, IsAt, IsName}
use Rattle.text_grammar.specs.GrammarExpr.{IsFormula, AreFormulas, AreMoreFormulas, unary_symbol, binary_symbol, level, function_symbol, part_symbol}
use Rattle.text_survey.specs.declared.task.Level.{Level}
use Rattle.text_survey.specs.declared.task.Level.TheVariants as grade
use Rattle.text_survey.specs.declared.task.Task.{Task}
use Rattle.text_survey.specs.declared.task.Task.TheVariants as task
use Rattle.text_survey.specs.declared.task.Taking.TheVariants as taking
use Rattle.text_survey.specs.Table.{go, is_next, optional, same_symbol, rank, tighter, looseness}
use Rattle.text_survey.specs.Rule.{rule}
use Rattle.text_survey.specs.Machine.{symbol_at}
use Rattle.text_survey.specs.Depths.{Depths, wrapped, joined, counted, begun, Nest, Both, Within, reading, ReadsOn}
use Rattle.text_survey.proofs.Laws.Nests.{nest, nest_row, beside}
use Rattle.text_survey.proofs.Laws.Counts.{Runs, Does, ◌▸◌, ◌▹◌, same, push, grow, told, nothing, trans_read, stay, token, node, operator, one, one_taken}
use Rattle.text_survey.proofs.Laws.Operands.{no_select, no_choice, no_link, next_link, tighter_rank, by_level, same_rank, same_refl, rank_small}

-- ---- small things

pub head : (s : Symbol) (ts rest : List Terminal) → IsA s ts rest → symbol_at ts ≡ Some s
head s ts rest w = ap symbol_at w.1 ∙ ap (λ x. Some x) w.2

pub wrap : (ts : List Terminal) → Does task.Wrap ts ts (λ d. wrapped d.places d.top d.under)
wrap ts = stay refl (nothing ts)

pub join : (ts : List Terminal) → Does task.Join ts ts (λ d. joined d.places d.top d.under)
join ts = stay refl (nothing ts)

pub expect : (s : Symbol) (ts rest : List Terminal) → IsA s ts rest → Does (task.Expect s) ts rest same
expect s ts rest w = token s (ap (λ b. cond b (go taking.Token []) None) (same_refl s)) w (nothing rest)

-- an expression ends here
abbrev pub Ends : List Terminal → Type 0
Ends ts = 12 < looseness (symbol_at ts)

pub ends : (s : Symbol) (ts rest : List Terminal) → looseness (Some s) ≡ 13 → IsA s ts rest → Ends ts
ends s ts rest e w = omega (arith, ap looseness (head s ts rest w), e)

-- this token doesn't come next
abbrev pub Not : Symbol → List Terminal → Type 0
Not mark ts = is_next mark (symbol_at ts) ≡ false

pub apart : (s mark : Symbol) (ts rest : List Terminal) → same_symbol s mark ≡ false → IsA s ts rest → Not mark ts
apart s mark ts rest e w = ap (λ o. is_next mark o) (head s ts rest w) ∙ e

pub left_out : (t : Task) (mark : Symbol) (tasks : List Task) (ts : List Terminal) → ((o : Option Symbol) → rule t o ≡ optional mark o tasks) → ((d : Depths) → counted t d ≡ d) → Not mark ts → Does t ts ts same
left_out t mark tasks ts e p h =
    told (λ d. counted t d) same p (stay (e (symbol_at ts) ∙ ap (λ b. cond b (go taking.Token tasks) (go taking.Nothing [])) h) (nothing ts))

-- ---- levels

-- the work of a level, up to further operators of it
abbrev Chained : Level → (Depths → Depths) → List Terminal → List Terminal → Type 0
Chained k e ts rest = (others : List Task) (d : Depths) → ReadsOn (reading (task.Level k ∷ others) ts d) (reading (task.Chain k ∷ others) rest (e d))

record Reads (k : Level) (e : Depths → Depths) (ts rest : List Terminal) : Type 0 where
  done : rank k < looseness (symbol_at rest) → Does (task.Level k) ts rest e
  chained : 1 ≤ rank k → rank k - 1 < looseness (symbol_at rest) → Chained k e ts rest

level_step : (k : Level) (ts : List Terminal) → 1 ≤ rank k → (others : List Task) (d : Depths)
    → ReadsOn (reading (task.Level k ∷ others) ts d) (reading (task.Level (tighter k) ∷ task.Chain k ∷ others) ts d)
level_step k ts h others d = one (task.Level k) (record { taking = taking.Nothing; tasks = task.Level (tighter k) ∷ task.Chain k ∷ [] }) ts others d (by_level k (symbol_at ts) h)

enter : (k : Level) (e : Depths → Depths) (ts rest : List Terminal) → 1 ≤ rank k → Does (task.Level (tighter k)) ts rest e → Chained k e ts rest
enter k e ts rest h w others d =
    trans_read (reading (task.Level k ∷ others) ts d) (reading (task.Level (tighter k) ∷ task.Chain k ∷ others) ts d) (reading (task.Chain k ∷ others) rest (e d))
    (level_step k ts h others d) (w.runs (task.Chain k ∷ others) d)

finish : (k : Level) (e : Depths → Depths) (ts rest : List Terminal) → Chained k e ts rest → rank k < looseness (symbol_at rest) → Does (task.Level k) ts rest e
finish k e ts rest c h =
    let stop : Does (task.Chain k) rest rest same = stay (no_link k (symbol_at rest) h) (nothing rest) in
    record { runs = λ others d. trans_read (reading (task.Level k ∷ others) ts d) (reading (task.Chain k ∷ others) rest (e d)) (reading others rest (e d)) (c others d) (stop.runs others (e d)) }

climb : (n : ℕ) (j k : Level) (e : Depths → Depths) (ts rest : List Terminal) → rank k ≡ n + rank j → Does (task.Level j) ts rest e → rank k < looseness (symbol_at rest) → Does (task.Level k) ts rest e
climb zero j k e ts rest r w h = subst (λ x. Does (task.Level x) ts rest e) (same_rank j k (omega (arith, r))) w
climb (suc n) j k e ts rest r w h =
    finish k e ts rest
    (enter k e ts rest (omega (arith, r)) (climb n j (tighter k) e ts rest (omega (arith, r, tighter_rank k)) w (omega (arith, tighter_rank k, h))))
    h

-- what is read on a level, on any level that is looser
reads_above : (j k : Level) (e : Depths → Depths) (ts rest : List Terminal) → rank j < rank k → (rank j < looseness (symbol_at rest) → Does (task.Level j) ts rest e) → Reads k e ts rest
reads_above j k e ts rest l w =
    record {
      done = λ h. climb (rank k - rank j) j k e ts rest (omega (arith, l)) (w (omega (arith, l, h))) h;
      chained = λ p h.
          enter k e ts rest p
          (climb (rank k - 1 - rank j) j (tighter k) e ts rest (omega (arith, l, tighter_rank k)) (w (omega (arith, l, h))) (omega (arith, tighter_rank k, h)));
    }

operand_or_looser : (k : Level) → (rank k ≡ 0) ⊎ (0 < rank k)
operand_or_looser grade.Operand = inl refl
operand_or_looser other = inr (omega arith)

operand_by : (k : Level) (e : Depths → Depths) (ts rest : List Terminal) → (0 < looseness (symbol_at rest) → Does (task.Level grade.Operand) ts rest e) → (rank k ≡ 0) ⊎ (0 < rank k) → Reads k e ts rest
operand_by k e ts rest w (inl r) =
    record {
      done = λ h. subst (λ x. Does (task.Level x) ts rest e) (same_rank grade.Operand k (sym r)) (w (omega (arith, r, h)));
      chained = λ p h. absurd (omega (arith, r, p));
    }
operand_by k e ts rest w (inr l) = reads_above grade.Operand k e ts rest l w

operand_reads : (k : Level) (e : Depths → Depths) (ts rest : List Terminal) → (0 < looseness (symbol_at rest) → Does (task.Level grade.Operand) ts rest e) → Reads k e ts rest
operand_reads k e ts rest w = operand_by k e ts rest w (operand_or_looser k)

chain_by : (j k : Level) (e : Depths → Depths) (ts rest : List Terminal) → 1 ≤ rank j → (rank j - 1 < looseness (symbol_at rest) → Chained j e ts rest) → (rank j ≡ rank k) ⊎ (rank j < rank k) → Reads k e ts rest
chain_by j k e ts rest p c (inl r) =
    subst (λ x. Reads x e ts rest) (same_rank j k r)
    (record { done = λ h. finish j e ts rest (c (omega (arith, h))) h; chained = λ q h. c h })
chain_by j k e ts rest p c (inr l) = reads_above j k e ts rest l (λ h. finish j e ts rest (c (omega (arith, h))) h)

equal_or_less : (a b : ℕ) → a ≤ b → (a ≡ b) ⊎ (a < b)
equal_or_less a b h = eq-or-lt_of_le h

-- ---- operators

-- the level of an operator
pub grade_of : BinaryOperator → Level
grade_of binary.Power = grade.Power
grade_of binary.Multiply = grade.Product
grade_of binary.Divide = grade.Product
grade_of binary.Modulus = grade.Product
grade_of binary.Add = grade.Sum
grade_of binary.Subtract = grade.Sum
grade_of binary.ShiftLeft = grade.Shift
grade_of binary.ShiftRight = grade.Shift
grade_of binary.ArithmeticShiftLeft = grade.Shift
grade_of binary.ArithmeticShiftRight = grade.Shift
grade_of binary.Less = grade.Comparison
grade_of binary.LessOrEqual = grade.Comparison
grade_of binary.Greater = grade.Comparison
grade_of binary.GreaterOrEqual = grade.Comparison
grade_of binary.Equal = grade.Equality
grade_of binary.NotEqual = grade.Equality
grade_of binary.CaseEqual = grade.Equality
grade_of binary.CaseNotEqual = grade.Equality
grade_of binary.BitwiseAnd = grade.And
grade_of binary.BitwiseXor = grade.Xor
grade_of binary.BitwiseXnor = grade.Xor
grade_of binary.BitwiseOr = grade.Or
grade_of binary.LogicalAnd = grade.LogicalAnd
grade_of binary.LogicalOr = grade.LogicalOr

grade_rank : (op : BinaryOperator) → rank (grade_of op) ≡ level op
unfolding grade_of
grade_rank binary.Add = refl
grade_rank other = refl

pub grade_loose : (op : BinaryOperator) → looseness (Some (binary_symbol op)) ≡ level op
grade_loose binary.Add = refl
grade_loose other = refl

pub level_some : (op : BinaryOperator) → 1 ≤ level op
level_some binary.Add = omega arith
level_some other = omega arith

pub level_small : (op : BinaryOperator) → level op ≤ 11
level_small binary.Add = omega arith
level_small other = omega arith

unary_rule : (op : UnaryOperator) → rule (task.Level grade.Operand) (Some (unary_symbol op)) ≡ go taking.Operator (task.Level grade.Operand ∷ task.Wrap ∷ [])
unary_rule unary.Plus = refl
unary_rule other = refl

convert_rule : (s : SystemFunction) → rule (task.Level grade.Operand) (Some (function_symbol s)) ≡ go taking.Node (task.Expect symbol.OpenParen ∷ task.Expression ∷ task.Expect symbol.CloseParen ∷ task.Wrap ∷ [])
convert_rule sign.Signed = refl
convert_rule sign.Unsigned = refl
convert_rule sign.Clog2 = refl

part_rule : (k : PartKind) → rule task.SelectEnd (Some (part_symbol k)) ≡ go taking.Token (task.Expression ∷ task.Expect symbol.CloseBracket ∷ [])
part_rule kind.Between = refl
part_rule kind.Up = refl
part_rule kind.Down = refl

part_loose : (k : PartKind) → looseness (Some (part_symbol k)) ≡ 13
part_loose kind.Between = refl
part_loose kind.Up = refl
part_loose kind.Down = refl

-- ---- expressions

-- what is spelled by an expression is gone through
record Good (f : Formula) : Type 0 where
  reads : (k : Level) (ts rest : List Terminal) → IsFormula (rank k) f ts rest → Reads k (push (nest f)) ts rest
  whole : (ts rest : List Terminal) → IsFormula 12 f ts rest → Ends rest → Does task.Expression ts rest (grow (beside f))

record GoodRow (fs : Formulas) : Type 0 where
  row : (ts rest : List Terminal) → AreFormulas fs ts rest → Ends rest → Not symbol.Comma rest → Runs (task.Expression ∷ task.Expressions ∷ []) ts rest (grow (nest_row fs))
  others : (ts rest : List Terminal) → AreMoreFormulas fs ts rest → Ends rest → Not symbol.Comma rest → Does task.Expressions ts rest (grow (nest_row fs))
  -- a row up to its brace
  braced : (ts rest : List Terminal) → (AreFormulas fs ⨾ IsA symbol.CloseBrace) ts rest → Runs (task.Expression ∷ task.Parts ∷ []) ts rest (grow (nest_row fs))

whole_of : (n : Nest) (ts rest : List Terminal) → Does (task.Level grade.LogicalOr) ts rest (push n) → Ends rest → Does task.Expression ts rest (grow (λ before. Both before n))
whole_of n ts rest w h = stay refl (w ▸ stay (no_choice (symbol_at rest) h) (nothing rest) ▸ join rest ▸ nothing rest)

-- an operand
Base : Formula → Type 0
Base f = (ts rest : List Terminal) → IsFormula 0 f ts rest → 0 < looseness (symbol_at rest) → Does (task.Level grade.Operand) ts rest (push (nest f))

-- an expression between others, as it is gone through
abbrev pub Whole : Formula → Type 0
Whole f = (ts rest : List Terminal) → IsFormula 12 f ts rest → Ends rest → Does task.Expression ts rest (grow (beside f))

-- the select of a name
pub bit : (ts rest : List Terminal) (index : Formula) → Whole index
    → (IsA symbol.OpenBracket ⨾ IsFormula 12 index ⨾ IsA symbol.CloseBracket) ts rest → Does task.Select ts rest (grow (beside index))
unfolding same_symbol
bit ts rest index g w =
    token symbol.OpenBracket refl w.1 (
    g w.0 w.2.0 w.2.1 (ends symbol.CloseBracket w.2.0 rest refl w.2.2)
    ▸ token symbol.CloseBracket refl w.2.2 (nothing rest)
    ▸ nothing rest)

pub part : (ts rest : List Terminal) (k : PartKind) (first second : Formula) → Whole first → Whole second
    → (IsA symbol.OpenBracket ⨾ IsFormula 12 first ⨾ IsA (part_symbol k) ⨾ IsFormula 12 second ⨾ IsA symbol.CloseBracket) ts rest → Does task.Select ts rest (grow (λ before. beside second (beside first before)))
unfolding same_symbol
part ts rest k first second g h w =
    let v = w.2.2 in
    token symbol.OpenBracket refl w.1 (
    g w.0 w.2.0 w.2.1 (ends (part_symbol k) w.2.0 v.0 (part_loose k) v.1)
    ▸ token (part_symbol k) (part_rule k) v.1 (h v.0 v.2.0 v.2.1 (ends symbol.CloseBracket v.2.0 rest refl v.2.2) ▸ expect symbol.CloseBracket v.2.0 rest v.2.2 ▸ nothing rest)
    ▸ nothing rest)

-- ---- operands

-- an operand, by what is spelled on the tightest level
good_operand : (f : Formula) → ((k : ℕ) (ts rest : List Terminal) → IsFormula k f ts rest → IsFormula 0 f ts rest) → Base f → Good f
unfolding Base
good_operand f same' base =
    record {
      reads = λ k ts rest w. operand_reads k (push (nest f)) ts rest (base ts rest (same' (rank k) ts rest w));
      whole = λ ts rest w h. whole_of (nest f) ts rest ((operand_reads grade.LogicalOr (push (nest f)) ts rest (base ts rest (same' 12 ts rest w))).done (omega (arith, h))) h;
    }

-- a name at its place
pub name_at : (name : Identifier) (ts rest : List Terminal) → IsName name ts rest → IsAt symbol.Name name.at ts rest
name_at name ts rest w = (w.0, w.1, (w.2.0, ap (λ (n : Identifier). n.at) w.2.1))

good_number : (value : _) (at : ℕ) → Good (Number value at)
unfolding Base
good_number value at =
    good_operand (Number value at) (λ k ts rest w. w) (λ ts rest w h. node symbol.Number at refl (w.0, w.1, (w.2.0, w.2.2)) (wrap rest ▸ nothing rest))

good_read : (name : _) → Good (Read name)
unfolding Base
good_read name =
    good_operand (Read name) (λ k ts rest w. w) (λ ts rest w h. node symbol.Name name.at refl (name_at name ts rest w) (stay (no_select (symbol_at rest) h) (nothing rest) ▸ wrap rest ▸ nothing rest))

good_bit : (name : _) (index : Formula) → Good index → Good (ReadBit name index)
unfolding Base
good_bit name index g =
    good_operand (ReadBit name index) (λ k ts rest w. w)
    (λ ts rest w h. node symbol.Name name.at refl (name_at name ts w.0 w.1) (bit w.0 rest index g.whole w.2 ▸ wrap rest ▸ nothing rest))

good_part : (name : _) (k : PartKind) (first second : Formula) → Good first → Good second → Good (ReadPart name k first second)
unfolding Base
good_part name k first second g h =
    good_operand (ReadPart name k first second) (λ j ts rest w. w)
    (λ ts rest w x. node symbol.Name name.at refl (name_at name ts w.0 w.1) (part w.0 rest k first second g.whole h.whole w.2 ▸ wrap rest ▸ nothing rest))

good_parens : (at : ℕ) (inner : Formula) → Good inner → Good (Parens at inner)
unfolding Base
good_parens at inner g =
    good_operand (Parens at inner) (λ k ts rest w. w)
    (λ ts rest w h. node symbol.OpenParen at refl w.1 (
    g.whole w.0 w.2.0 w.2.1 (ends symbol.CloseParen w.2.0 rest refl w.2.2) ▸ expect symbol.CloseParen w.2.0 rest w.2.2 ▸ wrap rest ▸ nothing rest))

good_convert : (s : SystemFunction) (at : ℕ) (inner : Formula) → Good inner → Good (Apply s at inner)
unfolding Base
good_convert s at inner g =
    good_operand (Apply s at inner) (λ k ts rest w. w)
    (λ ts rest w h.
    let v = w.2.2 in
    node (function_symbol s) at (convert_rule s) w.1 (
    expect symbol.OpenParen w.0 w.2.0 w.2.1 ▸ g.whole w.2.0 v.0 v.1 (ends symbol.CloseParen v.0 rest refl v.2) ▸ expect symbol.CloseParen v.0 rest v.2 ▸ wrap rest ▸ nothing rest))

good_unary : (op : UnaryOperator) (at : ℕ) (operand : Formula) → Good operand → Good (Unary op at operand)
unfolding Base
good_unary op at operand g =
    good_operand (Unary op at operand) (λ k ts rest w. w)
    (λ ts rest w h.
    operator (unary_symbol op) at (unary_rule op) w.1 ((g.reads grade.Operand w.0 rest w.2).done h ▸ wrap rest ▸ nothing rest))

-- ---- operators between operands

-- an operator with its right operand
link_runs : (op : BinaryOperator) (at : ℕ) (r : Formula) → Good r → (k : Level) → k ≡ grade_of op → (mid rest : List Terminal)
    → (IsAt (binary_symbol op) at ⨾ IsFormula (level op - 1) r) mid rest → rank k - 1 < looseness (symbol_at rest) → (others : List Task) (d : Depths) (l : Nest)
    → ReadsOn (reading (task.Chain k ∷ others) mid (push l d)) (reading (task.Chain k ∷ others) rest (push (Within at (Both l (nest r))) d))
link_runs op at r h k e mid rest w less others d l =
    let rank_is : rank k ≡ level op = ap rank e ∙ grade_rank op in
    let right : IsFormula (rank (tighter k)) r w.0 rest = subst (λ n. IsFormula n r w.0 rest) (sym (tighter_rank k ∙ ap (λ n. n - 1) rank_is)) w.2 in
    let rest_done = (h.reads (tighter k) w.0 rest right).done (omega (arith, tighter_rank k, less)) ▸ join rest ▸ wrap rest ▸ nothing rest in
    let start' = one_taken (task.Chain k) (record { taking = taking.Operator; tasks = task.Level (tighter k) ∷ task.Join ∷ task.Wrap ∷ task.Chain k ∷ [] }) (binary_symbol op) at mid w.0 others (push l d)
    (next_link k (Some (binary_symbol op)) (grade_loose op ∙ sym rank_is)) (λ a ends. refl) w.1 in
    trans_read (reading (task.Chain k ∷ others) mid (push l d))
    (reading (task.Level (tighter k) ∷ task.Join ∷ task.Wrap ∷ task.Chain k ∷ others) w.0 (begun taking.Operator at (push l d)))
    (reading (task.Chain k ∷ others) rest (push (Within at (Both l (nest r))) d))
    start' (rest_done.runs (task.Chain k ∷ others) (begun taking.Operator at (push l d)))

good_link : (op : BinaryOperator) (at : ℕ) (l r : Formula) → Good l → Good r → (k : Level) → k ≡ grade_of op → (ts rest : List Terminal)
    → (IsFormula (level op) l ⨾ IsAt (binary_symbol op) at ⨾ IsFormula (level op - 1) r) ts rest → rank k - 1 < looseness (symbol_at rest) → Chained k (push (nest (Binary op at l r))) ts rest
good_link op at l r g h k e ts rest w less others d =
    let v = w.2 in
    let rank_is : rank k ≡ level op = ap rank e ∙ grade_rank op in
    let loose : looseness (symbol_at w.0) ≡ level op =
    ap looseness (head (binary_symbol op) w.0 v.0 (v.1.0, v.1.1, v.1.2.0)) ∙ grade_loose op in
    let left : IsFormula (rank k) l ts w.0 = subst (λ n. IsFormula n l ts w.0) (sym rank_is) w.1 in
    let some : 1 ≤ rank k = omega (arith, level_some op, rank_is) in
    trans_read (reading (task.Level k ∷ others) ts d) (reading (task.Chain k ∷ others) w.0 (push (nest l) d)) (reading (task.Chain k ∷ others) rest (push (nest (Binary op at l r)) d))
    ((g.reads k ts w.0 left).chained some (omega (arith, loose, rank_is, some)) others d)
    (link_runs op at r h k e w.0 rest v less others d (nest l))

good_binary : (op : BinaryOperator) (at : ℕ) (l r : Formula) → Good l → Good r → Good (Binary op at l r)
good_binary op at l r g h =
    let some : 1 ≤ rank (grade_of op) = omega (arith, level_some op, grade_rank op) in
    record {
      reads = λ k ts rest w.
          chain_by (grade_of op) k (push (nest (Binary op at l r))) ts rest some (λ less. good_link op at l r g h (grade_of op) refl ts rest w.1 less)
          (equal_or_less (rank (grade_of op)) (rank k) (omega (arith, grade_rank op, w.0)));
      whole = λ ts rest w e.
          whole_of (nest (Binary op at l r)) ts rest
          ((chain_by (grade_of op) grade.LogicalOr (push (nest (Binary op at l r))) ts rest some (λ less. good_link op at l r g h (grade_of op) refl ts rest w.1 less)
          (equal_or_less (rank (grade_of op)) 11 (rank_small (grade_of op)))).done (omega (arith, e)))
          e;
    }

good_choose : (at : ℕ) (c t o : Formula) → Good c → Good t → Good o → Good (Choose at c t o)
good_choose at c t o gc gt go' =
    record {
      reads = λ k ts rest w. absurd (omega (arith, w.0, rank_small k));
      whole = λ ts rest w e.
          let v = w.1.2 in
          let u = v.2.2 in
          let loose : looseness (symbol_at w.1.0) ≡ 12 = ap looseness (head symbol.Question w.1.0 v.0 (v.1.0, v.1.1, v.1.2.0)) in
          stay refl (
          (gc.reads grade.LogicalOr ts w.1.0 w.1.1).done (omega (arith, loose))
          ▸ operator symbol.Question at refl v.1 (
          gt.whole v.0 v.2.0 v.2.1 (ends symbol.Colon v.2.0 u.0 refl u.1) ▸ expect symbol.Colon v.2.0 u.0 u.1 ▸ go'.whole u.0 rest u.2 e ▸ wrap rest ▸ nothing rest)
          ▸ join rest ▸ nothing rest);
    }

-- ---- rows

good_none : GoodRow no_formulas
good_none =
    record {
      row = λ ts rest w e n. absurd w;
      others = λ ts rest w e n. subst (λ x. Does task.Expressions x rest same) (sym w) (left_out task.Expressions symbol.Comma (task.Expression ∷ task.Expressions ∷ []) rest (λ o. refl) (λ d. refl) n);
      braced = λ ts rest w. absurd w.1;
    }

-- what comes after an expression of a row
after_first : (fs : Formulas) (ts rest : List Terminal) → AreMoreFormulas fs ts rest → Ends rest → Ends ts
after_first no_formulas ts rest w e = subst (λ x. Ends x) (sym w) e
after_first (more_formulas f fs) ts rest w e = ends symbol.Comma ts w.0 refl w.1

parts_stay : (fs : Formulas) (ts mid rest : List Terminal) → AreMoreFormulas fs ts mid → IsA symbol.CloseBrace mid rest
    → rule task.Parts (symbol_at ts) ≡ go taking.Nothing (task.Expressions ∷ task.Expect symbol.CloseBrace ∷ [])
parts_stay no_formulas ts mid rest w v = ap (λ o. rule task.Parts o) (ap symbol_at w ∙ head symbol.CloseBrace mid rest v)
parts_stay (more_formulas f fs) ts mid rest w v = ap (λ o. rule task.Parts o) (head symbol.Comma ts w.0 w.1)

good_more : (f : Formula) (fs : Formulas) → Good f → GoodRow fs → GoodRow (more_formulas f fs)
unfolding same_symbol
good_more f fs g h =
    record {
      row = λ ts rest w e n. g.whole ts w.0 w.1 (after_first fs w.0 rest w.2 e) ▸ h.others w.0 rest w.2 e n ▸ nothing rest;
      others = λ ts rest w e n.
          let v = w.2 in
          token symbol.Comma refl w.1 (g.whole w.0 v.0 v.1 (after_first fs v.0 rest v.2 e) ▸ h.others v.0 rest v.2 e n ▸ nothing rest);
      braced = λ ts rest w.
          let v = w.1 in
          let e = ends symbol.CloseBrace w.0 rest refl w.2 in
          g.whole ts v.0 v.1 (after_first fs v.0 w.0 v.2 e)
          ▸ stay (parts_stay fs v.0 w.0 rest v.2 w.2)
          (h.others v.0 w.0 v.2 e (apart symbol.CloseBrace symbol.Comma w.0 rest refl w.2) ▸ expect symbol.CloseBrace w.0 rest w.2 ▸ nothing rest)
          ▸ nothing rest;
    }

good_concat : (at : ℕ) (parts : Formulas) → GoodRow parts → Good (Concat at parts)
unfolding Base
good_concat at parts g =
    good_operand (Concat at parts) (λ k ts rest w. w)
    (λ ts rest w h. node symbol.OpenBrace at refl w.1 (g.braced w.0 rest w.2 ▹ wrap rest ▸ nothing rest))

good_repeat : (at : ℕ) (times : Formula) (parts : Formulas) → Good times → GoodRow parts → Good (Repeat at times parts)
unfolding Base same_symbol
good_repeat at times parts g h =
    good_operand (Repeat at times parts) (λ k ts rest w. w)
    (λ ts rest w x.
    let v = w.2.2 in
    let u = v.2 in
    let z = u.2 in
    node symbol.OpenBrace at refl w.1 (
    g.whole w.0 w.2.0 w.2.1 (ends symbol.OpenBrace w.2.0 v.0 refl v.1)
    ▸ token symbol.OpenBrace refl v.1 (
    h.row v.0 u.0 u.1 (ends symbol.CloseBrace u.0 z.0 refl z.1) (apart symbol.CloseBrace symbol.Comma u.0 z.0 refl z.1)
    ▹ expect symbol.CloseBrace u.0 z.0 z.1 ▸ expect symbol.CloseBrace z.0 rest z.2 ▸ nothing rest)
    ▸ wrap rest ▸ nothing rest))

mutual
  all : (f : Formula) → Good f
  all (Number value at) = good_number value at
  all (Read name) = good_read name
  all (ReadBit name index) = good_bit name index (all index)
  all (ReadPart name k first second) = good_part name k first second (all first) (all second)
  all (Parens at inner) = good_parens at inner (all inner)
  all (Apply s at inner) = good_convert s at inner (all inner)
  all (Concat at parts) = good_concat at parts (rows parts)
  all (Repeat at times parts) = good_repeat at times parts (all times) (rows parts)
  all (Unary op at operand) = good_unary op at operand (all operand)
  all (Binary op at l r) = good_binary op at l r (all l) (all r)
  all (Choose at c t o) = good_choose at c t o (all c) (all t) (all o)

  rows : (fs : Formulas) → GoodRow fs
  rows no_formulas = good_none
  rows (more_formulas f fs) = good_more f fs (all f) (rows fs)

pub expression_runs : (f : Formula) → Whole f
expression_runs f = (all f).whole

-- an operand
pub operand_runs : (f : Formula) (ts rest : List Terminal) → IsFormula 0 f ts rest → 0 < looseness (symbol_at rest) → Does (task.Level grade.Operand) ts rest (push (nest f))
operand_runs f ts rest w h = ((all f).reads grade.Operand ts rest w).done h
