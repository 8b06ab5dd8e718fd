-- What was gone through is spelled: expressions.
use Rattle.std.proofs.Common.{◌≡◌, ℕ, ◌-◌, ◌≤◌, ◌⊎◌, inl, inr, cond, Bool, true, false, nat_eq, List, [], ◌∷◌, Some, None, refl, sym, ap, subst, ◌∙◌, eqb-true, arith}
use Rattle.rtl_tree.specs.declared.symbol.Symbol.{Symbol}
use Rattle.rtl_tree.specs.declared.symbol.Symbol.TheVariants as symbol
use Rattle.rtl_tree.specs.declared.tree.operators.UnaryOperator.{UnaryOperator}
use Rattle.rtl_tree.specs.declared.tree.operators.UnaryOperator.TheVariants as unary
use Rattle.rtl_tree.specs.declared.tree.operators.BinaryOperator.{BinaryOperator}
use Rattle.rtl_tree.specs.declared.tree.operators.BinaryOperator.TheVariants as binary
use Rattle.rtl_tree.specs.declared.tree.operators.SystemFunction.{SystemFunction}
use Rattle.rtl_tree.specs.declared.tree.operators.SystemFunction.TheVariants as sign
use Rattle.rtl_tree.specs.declared.tree.operators.PartKind.{PartKind}
use Rattle.rtl_tree.specs.declared.tree.operators.PartKind.TheVariants as kind
use Rattle.rtl_tree.specs.Symbols.{Terminal}
use Rattle.rtl_tree.specs.TreeExpr.{Formula, Number, Read, ReadBit, ReadPart, Parens, Apply, Concat, Repeat, Unary, Binary, Choose, more_formulas, formula_row}
use Rattle.text_grammar.specs.Grammar.{IsA, AreMore, identifier_of}
use Rattle.text_grammar.specs.GrammarExpr.{IsFormula, IsExpression, AreMoreFormulas, unary_symbol, binary_symbol, level, function_symbol, part_symbol}
use Rattle.text_grammar.specs.GrammarGate.{is_named}
use Rattle.text_survey.specs.declared.task.Level.{Level}
use Rattle.text_survey.specs.declared.task.Level.TheVariants as grade
use Rattle.text_survey.specs.declared.task.Task.{Task}
use Rattle.text_survey.specs.declared.task.Task.TheVariants as task
use Rattle.text_survey.specs.declared.task.Taking.TheVariants as taking
use Rattle.text_survey.specs.Table.{go, rank, tighter, looseness, link}
use Rattle.text_survey.specs.Rule.{rule}
use Rattle.text_survey.specs.Machine.{symbol_at}
use Rattle.text_survey.proofs.Laws.Operands.{tighter_rank, rank_small}
use Rattle.text_survey.proofs.Laws.Expressions.{Not}
use Rattle.text_survey.proofs.Laws.Means.{Any, Onward, Means, AllMean, Then, IsNumbered, Numbered, to, wrapped, was_optional, was_more}

-- what the step of a task says of it
abbrev pub Sound : Task → Type 0
Sound t = (ts rest : List Terminal) → Numbered ts → Then (rule t (symbol_at ts)) ts rest → Means t ts rest

-- the same, where a token with this symbol comes
abbrev pub SoundAt : Task → Type 0
SoundAt t = (a : Terminal) (ts rest : List Terminal) (s : Symbol) → a.symbol ≡ s → IsNumbered a → Then (rule t (Some s)) (a ∷ ts) rest → Means t (a ∷ ts) rest

abbrev pub SoundEnd : Task → Type 0
SoundEnd t = (rest : List Terminal) → Then (rule t None) [] rest → Means t [] rest

pub sound_by : (t : Task) → SoundAt t → SoundEnd t → Sound t
sound_by t f g [] rest n w = g rest w
sound_by t f g (a ∷ ts) rest n w = f a ts rest a.symbol refl n w

-- ---- operands

pub moved : (k : ℕ) (f : Formula) (ts mid rest : List Terminal) → mid ≡ rest → IsFormula k f ts mid → IsFormula k f ts rest
moved k f ts mid rest e w = subst (λ x. IsFormula k f ts x) e w

-- a name with its select
pub selected_name : (a : Terminal) (ts mid rest : List Terminal) → a.symbol ≡ symbol.Name → Means task.Select ts mid → mid ≡ rest → (f : Formula) × (is_named f ≡ true) × IsFormula 0 f (a ∷ ts) rest
selected_name a ts mid rest e (inl w) m = (Read (identifier_of a), refl, (a, ap (λ x. a ∷ x) (w ∙ m), (e, refl)))
selected_name a ts mid rest e (inr (inl w)) m =
    (ReadBit (identifier_of a) w.0, refl, moved 0 (ReadBit (identifier_of a) w.0) (a ∷ ts) mid rest m (ts, (a, refl, (e, refl)), w.1))
selected_name a ts mid rest e (inr (inr w)) m =
    let p = w.0 in
    (ReadPart (identifier_of a) p.0 p.1 p.2, refl, moved 0 (ReadPart (identifier_of a) p.0 p.1 p.2) (a ∷ ts) mid rest m (ts, (a, refl, (e, refl)), w.1))

selected : (a : Terminal) (ts mid rest : List Terminal) → a.symbol ≡ symbol.Name → Means task.Select ts mid → mid ≡ rest → Any (IsFormula 0) (a ∷ ts) rest
selected a ts mid rest e w m =
    let f = selected_name a ts mid rest e w m in
    (f.0, f.2)

braced : (a : Terminal) (ts : List Terminal) (f : Formula) (mid end rest : List Terminal) → a.symbol ≡ symbol.OpenBrace → IsExpression f ts mid → Means task.Parts mid end → end ≡ rest
    → Any (IsFormula 0) (a ∷ ts) rest
braced a ts f mid end rest e w (inl v) m =
    let u = v.1 in
    (Concat a.at (more_formulas f v.0), moved 0 (Concat a.at (more_formulas f v.0)) (a ∷ ts) end rest m (ts, (a, refl, (e, refl)), (u.0, (mid, w, u.1), u.2)))
braced a ts f mid end rest e w (inr v) m =
    (Repeat a.at f v.0, moved 0 (Repeat a.at f v.0) (a ∷ ts) end rest m (ts, (a, refl, (e, refl)), (mid, w, v.1)))

sound_unary : (op : UnaryOperator) (a : Terminal) (ts rest : List Terminal) → a.symbol ≡ unary_symbol op → AllMean (task.Level grade.Operand ∷ task.Wrap ∷ []) ts rest → Any (IsFormula 0) (a ∷ ts) rest
sound_unary op a ts rest e w =
    let f = w.1 in
    (Unary op a.at f.0, (ts, (a, refl, (e, refl)), moved 0 f.0 ts w.0 rest (wrapped w.0 rest w.2) f.1))

sound_convert : (s : SystemFunction) (a : Terminal) (ts rest : List Terminal) → a.symbol ≡ function_symbol s
    → AllMean (task.Expect symbol.OpenParen ∷ task.Expression ∷ task.Expect symbol.CloseParen ∷ task.Wrap ∷ []) ts rest → Any (IsFormula 0) (a ∷ ts) rest
sound_convert s a ts rest e w =
    let v = w.2 in
    let f = v.1 in
    let u = v.2 in
    (Apply s a.at f.0, (ts, (a, refl, (e, refl)), (w.0, w.1, (v.0, f.1, to symbol.CloseParen v.0 u.0 rest u.1 (wrapped u.0 rest u.2)))))

operand_at : SoundAt (task.Level grade.Operand)
operand_at a ts rest symbol.Number e n w =
    let v = n e in
    (Number v.0 a.at, (a, ap (λ x. a ∷ x) (wrapped ts rest w), (e, v.1, refl)))
operand_at a ts rest symbol.Name e n w = selected a ts w.0 rest e w.1 (wrapped w.0 rest w.2)
operand_at a ts rest symbol.OpenParen e n w =
    let f = w.1 in
    let v = w.2 in
    (Parens a.at f.0, (ts, (a, refl, (e, refl)), (w.0, f.1, to symbol.CloseParen w.0 v.0 rest v.1 (wrapped v.0 rest v.2))))
operand_at a ts rest symbol.ToSigned e n w = sound_convert sign.Signed a ts rest e w
operand_at a ts rest symbol.ToUnsigned e n w = sound_convert sign.Unsigned a ts rest e w
operand_at a ts rest symbol.Clog2 e n w = sound_convert sign.Clog2 a ts rest e w
operand_at a ts rest symbol.OpenBrace e n w =
    let f = w.1 in
    let v = w.2 in
    braced a ts f.0 w.0 v.0 rest e f.1 v.1 (wrapped v.0 rest v.2)
operand_at a ts rest symbol.Plus e n w = sound_unary unary.Plus a ts rest e w
operand_at a ts rest symbol.Minus e n w = sound_unary unary.Minus a ts rest e w
operand_at a ts rest symbol.Bang e n w = sound_unary unary.LogicalNot a ts rest e w
operand_at a ts rest symbol.Tilde e n w = sound_unary unary.BitwiseNot a ts rest e w
operand_at a ts rest symbol.Ampersand e n w = sound_unary unary.ReduceAnd a ts rest e w
operand_at a ts rest symbol.TildeAmpersand e n w = sound_unary unary.ReduceNand a ts rest e w
operand_at a ts rest symbol.Bar e n w = sound_unary unary.ReduceOr a ts rest e w
operand_at a ts rest symbol.TildeBar e n w = sound_unary unary.ReduceNor a ts rest e w
operand_at a ts rest symbol.Caret e n w = sound_unary unary.ReduceXor a ts rest e w
operand_at a ts rest symbol.TildeCaret e n w = sound_unary unary.ReduceXnor a ts rest e w
operand_at a ts rest other e n w = absurd w

-- ---- levels

pub looser : (j k : ℕ) (f : Formula) (ts rest : List Terminal) → j ≤ k → IsFormula j f ts rest → IsFormula k f ts rest
looser j k (Number value at) ts rest h w = w
looser j k (Read name) ts rest h w = w
looser j k (ReadBit name index) ts rest h w = w
looser j k (ReadPart name kind msb lsb) ts rest h w = w
looser j k (Parens at inner) ts rest h w = w
looser j k (Apply s at inner) ts rest h w = w
looser j k (Concat at parts) ts rest h w = w
looser j k (Repeat at times parts) ts rest h w = w
looser j k (Unary op at operand) ts rest h w = w
looser j k (Binary op at l r) ts rest h w = (omega (arith, w.0), w.1)
looser j k (Choose at c t o) ts rest h w = (omega (arith, w.0), w.1)

level_steps : (k : Level) (ts rest : List Terminal) → 1 ≤ rank k → AllMean (task.Level (tighter k) ∷ task.Chain k ∷ []) ts rest → Any (IsFormula (rank k)) ts rest
level_steps k ts rest p w =
    let f = w.1 in
    let v = w.2 in
    let g = v.1 p ts f.0 (looser (rank (tighter k)) (rank k) f.0 ts w.0 (omega (arith, tighter_rank k)) f.1) in
    (g.0, moved (rank k) g.0 ts v.0 rest v.2 g.1)

pub sound_level : (k : Level) → Sound (task.Level k)
sound_level grade.Operand ts rest n w = sound_by (task.Level grade.Operand) operand_at (λ rest' w'. absurd w') ts rest n w
sound_level other ts rest n w = level_steps other ts rest (omega arith) w

-- the operator that a token is, where one of this rank comes
Linked : ℕ → Symbol → Type 0
Linked k s = (op : BinaryOperator) × (s ≡ binary_symbol op) × (level op ≡ k)

linked : (s : Symbol) (k : ℕ) → 1 ≤ k → k ≤ 11 → looseness (Some s) ≡ k → Linked k s
unfolding Linked
linked symbol.StarStar k p q e = (binary.Power, refl, e)
linked symbol.Star k p q e = (binary.Multiply, refl, e)
linked symbol.Slash k p q e = (binary.Divide, refl, e)
linked symbol.Percent k p q e = (binary.Modulus, refl, e)
linked symbol.Plus k p q e = (binary.Add, refl, e)
linked symbol.Minus k p q e = (binary.Subtract, refl, e)
linked symbol.ShiftLeft k p q e = (binary.ShiftLeft, refl, e)
linked symbol.ShiftRight k p q e = (binary.ShiftRight, refl, e)
linked symbol.ArithmeticShiftLeft k p q e = (binary.ArithmeticShiftLeft, refl, e)
linked symbol.ArithmeticShiftRight k p q e = (binary.ArithmeticShiftRight, refl, e)
linked symbol.Less k p q e = (binary.Less, refl, e)
linked symbol.LessEquals k p q e = (binary.LessOrEqual, refl, e)
linked symbol.Greater k p q e = (binary.Greater, refl, e)
linked symbol.GreaterEquals k p q e = (binary.GreaterOrEqual, refl, e)
linked symbol.EqualEquals k p q e = (binary.Equal, refl, e)
linked symbol.BangEquals k p q e = (binary.NotEqual, refl, e)
linked symbol.CaseEquals k p q e = (binary.CaseEqual, refl, e)
linked symbol.CaseBangEquals k p q e = (binary.CaseNotEqual, refl, e)
linked symbol.Ampersand k p q e = (binary.BitwiseAnd, refl, e)
linked symbol.Caret k p q e = (binary.BitwiseXor, refl, e)
linked symbol.TildeCaret k p q e = (binary.BitwiseXnor, refl, e)
linked symbol.Bar k p q e = (binary.BitwiseOr, refl, e)
linked symbol.AndAnd k p q e = (binary.LogicalAnd, refl, e)
linked symbol.OrOr k p q e = (binary.LogicalOr, refl, e)
linked other k p q e = absurd (omega (arith, e))

onward_link : (k : Level) (a : Terminal) (ts rest : List Terminal) → 1 ≤ rank k → Linked (rank k) a.symbol → AllMean (task.Level (tighter k) ∷ task.Join ∷ task.Wrap ∷ task.Chain k ∷ []) ts rest
    → Onward (rank k) (rank k) (a ∷ ts) rest
unfolding Linked
onward_link k a ts rest p l w begun f x =
    let r = w.1 in
    let v = w.2 in
    let u = v.2 in
    let z = u.2 in
    let same : w.0 ≡ u.0 = v.1 ∙ u.1 in
    let left' : IsFormula (level l.0) f begun (a ∷ ts) = subst (λ n. IsFormula n f begun (a ∷ ts)) (sym l.2) x in
    let right' : IsFormula (level l.0 - 1) r.0 ts u.0 =
    subst (λ n. IsFormula n r.0 ts u.0) (tighter_rank k ∙ ap (λ n. n - 1) (sym l.2)) (moved (rank (tighter k)) r.0 ts w.0 u.0 same r.1) in
    let g = z.1 p begun (Binary l.0 a.at f r.0) (omega (arith, l.2), (a ∷ ts, left', (ts, (a, refl, (l.1, refl)), right'))) in
    (g.0, moved (rank k) g.0 begun z.0 rest z.2 g.1)

chain_by : (k : Level) (ts rest : List Terminal) (b : Bool) → nat_eq (looseness (symbol_at ts)) (rank k) ≡ b → 1 ≤ rank k → Then (cond b (link k) (go taking.Nothing [])) ts rest → Onward (rank k) (rank k) ts rest
chain_by k [] rest true e p w = absurd (omega (arith, eqb-true 13 (rank k) e, rank_small k))
chain_by k (a ∷ ts) rest true e p w =
    onward_link k a ts rest p (linked a.symbol (rank k) p (rank_small k) (eqb-true (looseness (Some a.symbol)) (rank k) e)) w
chain_by k ts rest false e p w = λ begun f x. (f, moved (rank k) f begun ts rest w x)

pub sound_chain : (k : Level) → Sound (task.Chain k)
sound_chain k ts rest n w p = chain_by k ts rest (nat_eq (looseness (symbol_at ts)) (rank k)) refl p w

choice_at : SoundAt task.Choice
choice_at a ts rest symbol.Question e n w =
    λ begun f x.
    let t = w.1 in
    let v = w.2 in
    let u = v.2 in
    let o = u.1 in (
      Choose a.at f t.0 o.0,
      (omega arith, (a ∷ ts, x, (ts, (a, refl, (e, refl)), (w.0, t.1, (v.0, v.1, moved 12 o.0 v.0 u.0 rest (wrapped u.0 rest u.2) o.1))))),
    )
choice_at a ts rest other e n w = λ begun f x. (f, looser 11 12 f begun rest (omega arith) (moved 11 f begun (a ∷ ts) rest w x))

choice_end : SoundEnd task.Choice
choice_end rest w = λ begun f x. (f, looser 11 12 f begun rest (omega arith) (moved 11 f begun [] rest w x))

pub sound_choice : Sound task.Choice
sound_choice = sound_by task.Choice choice_at choice_end

pub sound_expression : Sound task.Expression
sound_expression ts rest n w =
    let f = w.1 in
    let v = w.2 in
    let g = v.1 ts f.0 f.1 in
    let u = v.2 in
    (g.0, moved 12 g.0 ts v.0 rest (u.1 ∙ u.2) g.1)

-- ---- selects, parts and rows

part_end : (k : PartKind) (a : Terminal) (ts rest : List Terminal) → a.symbol ≡ part_symbol k → AllMean (task.Expression ∷ task.Expect symbol.CloseBracket ∷ []) ts rest → Means task.SelectEnd (a ∷ ts) rest
part_end k a ts rest e w =
    let f = w.1 in
    let v = w.2 in
    inr ((k, f.0), (ts, (a, refl, e), (w.0, f.1, to symbol.CloseBracket w.0 v.0 rest v.1 v.2)))

select_end_at : SoundAt task.SelectEnd
select_end_at a ts rest symbol.CloseBracket e n w = inl (a, ap (λ x. a ∷ x) w, e)
select_end_at a ts rest symbol.Colon e n w = part_end kind.Between a ts rest e w
select_end_at a ts rest symbol.PlusColon e n w = part_end kind.Up a ts rest e w
select_end_at a ts rest symbol.MinusColon e n w = part_end kind.Down a ts rest e w
select_end_at a ts rest other e n w = absurd w

pub sound_select_end : Sound task.SelectEnd
sound_select_end = sound_by task.SelectEnd select_end_at (λ rest w. absurd w)

select_by : (ts rest : List Terminal) (mid : List Terminal) (f : Formula) (end : List Terminal) → IsA symbol.OpenBracket ts mid → IsExpression f mid end → (last : List Terminal) → Means task.SelectEnd end last → last ≡ rest
    → Means task.Select ts rest
select_by ts rest mid f end o x last (inl c) e = inr (inl (f, (mid, o, (end, x, to symbol.CloseBracket end last rest c e))))
select_by ts rest mid f end o x last (inr c) e =
    let v = c.1 in
    let u = v.2 in
    inr (inr ((c.0.0, f, c.0.1), (mid, o, (end, x, (v.0, v.1, (u.0, u.1, to symbol.CloseBracket u.0 last rest u.2 e))))))

pub sound_select : Sound task.Select
sound_select ts rest n w = by_option (was_optional symbol.OpenBracket (task.Expression ∷ task.SelectEnd ∷ []) ts rest w)
  where
    by_option : ((mid : List Terminal) × IsA symbol.OpenBracket ts mid × AllMean (task.Expression ∷ task.SelectEnd ∷ []) mid rest) ⊎ ((ts ≡ rest) × Not symbol.OpenBracket ts) → Means task.Select ts rest
    by_option (inr v) = inl v.0
    by_option (inl v) =
        let u = v.2 in
        let f = u.1 in
        let z = u.2 in
        select_by ts rest v.0 f.0 u.0 v.1 f.1 z.0 z.1 z.2

pub as_row : (fs : List Formula) (ts rest : List Terminal) → AreMore IsExpression fs ts rest → AreMoreFormulas (formula_row fs) ts rest
as_row [] ts rest w = w
as_row (f ∷ fs) ts rest w =
    let v = w.2 in
    (w.0, w.1, (v.0, v.1, as_row fs v.0 rest v.2))

pub sound_expressions : Sound task.Expressions
sound_expressions ts rest n w = was_more IsExpression task.Expression task.Expressions (λ a b x. x) (λ a b x. x) ts rest w

plain_parts : (ts rest : List Terminal) → AllMean (task.Expressions ∷ task.Expect symbol.CloseBrace ∷ []) ts rest → Means task.Parts ts rest
plain_parts ts rest w =
    let fs = w.1 in
    let v = w.2 in
    inl (formula_row fs.0, (w.0, as_row fs.0 ts w.0 fs.1, to symbol.CloseBrace w.0 v.0 rest v.1 v.2))

parts_at : SoundAt task.Parts
parts_at a ts rest symbol.OpenBrace e n w =
    let f = w.1 in
    let v = w.2 in
    let fs = v.1 in
    let u = v.2 in
    let z = u.2 in
    inr (more_formulas f.0 (formula_row fs.0), (ts, (a, refl, e), (v.0, (w.0, f.1, as_row fs.0 w.0 v.0 fs.1), (u.0, u.1, to symbol.CloseBrace u.0 z.0 rest z.1 z.2))))
parts_at a ts rest other e n w = plain_parts (a ∷ ts) rest w

pub sound_parts : Sound task.Parts
sound_parts = sound_by task.Parts parts_at (λ rest w. plain_parts [] rest w)
