-- What was gone through is spelled: statements.
use Rattle.std.proofs.Common.{◌≡◌, ℕ, ◌≤◌, ◌⊎◌, inl, inr, Bool, true, false, ◌||◌, List, [], ◌∷◌, Some, None, refl, sym, ap, subst, ◌∙◌, codes, arith}
use Rattle.rtl_tree.specs.declared.symbol.Symbol.TheVariants as symbol
use Rattle.rtl_tree.specs.declared.tree.stmt.AssignmentKind.TheVariants as assignment
use Rattle.rtl_tree.specs.declared.tree.stmt.CaseKind.{CaseKind}
use Rattle.rtl_tree.specs.declared.tree.stmt.CaseKind.TheVariants as kind
use Rattle.rtl_tree.specs.Symbols.{Terminal}
use Rattle.rtl_tree.specs.TreeExpr.{Formula, Identifier}
use Rattle.rtl_tree.specs.TreeStmt.{Whole, Bit, Part, Joined, no_targets, more_targets, Fixed, Named, Valued, Action, Null, Delayed, Assign, If, IfElse, Case, For, Block, no_actions, more_actions, Labelled, Default, no_branches, more_branches}
use Rattle.text_grammar.specs.Grammar.{IsA, IsName, AreMore, identifier_of}
use Rattle.text_grammar.specs.GrammarExpr.{IsExpression}
use Rattle.text_grammar.specs.GrammarStmt.{IsAttributeValue, IsAttribute, names, IsTarget, AreMoreTargets, IsSpan, case_symbol, ends_open, defaults, IsAction, AreStatements, IsBranch, AreBranches, AreMoreBranches, IsStatement}
use Rattle.text_survey.specs.declared.task.Task.TheVariants as task
use Rattle.text_survey.specs.Machine.{symbol_at}
use Rattle.text_survey.proofs.Laws.Operands.{same_refl}
use Rattle.text_survey.specs.Table.{is_next, same_symbol}
use Rattle.text_survey.proofs.Laws.Expressions.{Not, head}
use Rattle.text_survey.proofs.Laws.Means.{Any, Means, AllMean, to, finished, was_required, was_optional, was_unless, was_more}
use Rattle.text_survey.proofs.Laws.SoundExpressions.{Sound, SoundAt, sound_by}

-- ---- attributes

constant_plain : (ts rest : List Terminal) → AllMean (task.Expression ∷ task.Forget ∷ []) ts rest → IsAttributeValue ts rest
constant_plain ts rest w =
    let f = w.1 in
    let v = w.2 in
    inl (f.0, subst (λ x. IsExpression f.0 ts x) (v.1 ∙ v.2) f.1)

constant_at : SoundAt task.AttributeConstant
constant_at a ts rest symbol.Quoted e n w = inr (a, ap (λ x. a ∷ x) w, e)
constant_at a ts rest other e n w = constant_plain (a ∷ ts) rest w

pub sound_constant : Sound task.AttributeConstant
sound_constant = sound_by task.AttributeConstant constant_at (λ rest w. constant_plain [] rest w)

value_of : (ts rest : List Terminal) → IsAttributeValue ts rest → (end : List Terminal) → rest ≡ end → IsAttributeValue ts end
value_of ts rest w end e = subst (λ x. IsAttributeValue ts x) e w

pub sound_value : Sound task.AttributeValue
sound_value ts rest n w = by_option (was_optional symbol.Equals (task.AttributeConstant ∷ []) ts rest w)
  where
    by_option : ((mid : List Terminal) × IsA symbol.Equals ts mid × AllMean (task.AttributeConstant ∷ []) mid rest) ⊎ ((ts ≡ rest) × Not symbol.Equals ts) → Means task.AttributeValue ts rest
    by_option (inr v) = inl v.0
    by_option (inl v) =
        let u = v.2 in
        inr (v.0, v.1, value_of v.0 u.0 u.1 rest u.2)

attribute_by : (a : Terminal) (ts mid rest : List Terminal) → a.symbol ≡ symbol.Name → Means task.AttributeValue ts mid → mid ≡ rest → Any IsAttribute (a ∷ ts) rest
attribute_by a ts mid rest w (inl v) e = (identifier_of a, inl (a, ap (λ x. a ∷ x) (v ∙ e), (w, refl)))
attribute_by a ts mid rest w (inr v) e = (identifier_of a, inr (ts, (a, refl, (w, refl)), (v.0, v.1, value_of v.0 mid v.2 rest e)))

-- a name that was taken
pub named : (ts mid : List Terminal) → IsA symbol.Name ts mid → Any IsName ts mid
named ts mid w = (identifier_of w.0, (w.0, w.1, (w.2, refl)))

pub sound_attribute : Sound task.Attribute
sound_attribute ts rest n w =
    let v = was_required symbol.Name (task.AttributeValue ∷ []) ts rest w in
    let x = v.1 in
    let u = v.2 in
    subst (λ y. Any IsAttribute y rest) (sym x.1) (attribute_by x.0 v.0 u.0 rest x.2 u.1 u.2)

pub sound_attributes : Sound task.Attributes
sound_attributes ts rest n w = was_more IsAttribute task.Attribute task.Attributes (λ a b x. x) (λ a b x. x) ts rest w

-- ---- targets and delays

target_by : (a : Terminal) (ts mid rest : List Terminal) → a.symbol ≡ symbol.Name → Means task.Select ts mid → mid ≡ rest → Any IsTarget (a ∷ ts) rest
target_by a ts mid rest e (inl w) m = (Whole (identifier_of a), (a, ap (λ x. a ∷ x) (w ∙ m), (e, refl)))
target_by a ts mid rest e (inr (inl w)) m =
    (Bit (identifier_of a) w.0, subst (λ x. IsTarget (Bit (identifier_of a) w.0) (a ∷ ts) x) m (ts, (a, refl, (e, refl)), w.1))
target_by a ts mid rest e (inr (inr w)) m =
    let p = w.0 in
    (Part (identifier_of a) p.0 p.1 p.2, subst (λ x. IsTarget (Part (identifier_of a) p.0 p.1 p.2) (a ∷ ts) x) m (ts, (a, refl, (e, refl)), w.1))

target_at : SoundAt task.Target
target_at a ts rest symbol.Name e n w = target_by a ts w.0 rest e w.1 (finished w.0 rest w.2)
target_at a ts rest symbol.OpenBrace e n w =
    let t = w.1 in
    let v = w.2 in
    let others = v.1 in
    let u = v.2 in
    (Joined a.at (more_targets t.0 others.0), (ts, (a, refl, (e, refl)), (v.0, (w.0, t.1, others.1), to symbol.CloseBrace v.0 u.0 rest u.1 (finished u.0 rest u.2))))
target_at a ts rest other e n w = absurd w

pub sound_target : Sound task.Target
sound_target = sound_by task.Target target_at (λ rest w. absurd w)

pub sound_targets : Sound task.Targets
sound_targets ts rest n w = by_option (was_optional symbol.Comma (task.Target ∷ task.Targets ∷ []) ts rest w)
  where
    by_option : ((mid : List Terminal) × IsA symbol.Comma ts mid × AllMean (task.Target ∷ task.Targets ∷ []) mid rest) ⊎ ((ts ≡ rest) × Not symbol.Comma ts) → Means task.Targets ts rest
    by_option (inr v) = (no_targets, v.0)
    by_option (inl v) =
        let u = v.2 in
        let t = u.1 in
        let z = u.2 in
        let others = z.1 in
        (more_targets t.0 others.0, (v.0, v.1, (u.0, t.1, subst (λ x. AreMoreTargets others.0 u.0 x) z.2 others.1)))

ticks_at : SoundAt task.Ticks
ticks_at a ts rest symbol.Number e n w =
    let v = n e in
    (Fixed v.0, (a, ap (λ x. a ∷ x) w, (e, v.1)))
ticks_at a ts rest symbol.Name e n w = (Named (identifier_of a), (a, ap (λ x. a ∷ x) w, (e, refl)))
ticks_at a ts rest symbol.OpenParen e n w =
    let f = w.1 in
    let v = w.2 in
    (Valued f.0, (ts, (a, refl, e), (w.0, f.1, to symbol.CloseParen w.0 v.0 rest v.1 v.2)))
ticks_at a ts rest other e n w = absurd w

pub sound_ticks : Sound task.Ticks
sound_ticks = sound_by task.Ticks ticks_at (λ rest w. absurd w)

pub sound_delay : Sound task.Delay
sound_delay ts rest n w = by_option (was_optional symbol.Hash (task.Ticks ∷ []) ts rest w)
  where
    by_option : ((mid : List Terminal) × IsA symbol.Hash ts mid × AllMean (task.Ticks ∷ []) mid rest) ⊎ ((ts ≡ rest) × Not symbol.Hash ts) → Means task.Delay ts rest
    by_option (inr v) = (None, v.0)
    by_option (inl v) =
        let h = v.1 in
        let u = v.2 in
        let s = u.1 in
        (Some (record { at = h.0.at; span = s.0 }), (v.0, (h.0, h.1, (h.2, refl)), subst (λ x. IsSpan s.0 v.0 x) u.2 s.1))

assigner_at : SoundAt task.Assigner
assigner_at a ts rest symbol.Equals e n w = (assignment.Blocking, (a, ap (λ x. a ∷ x) w, e))
assigner_at a ts rest symbol.LessEquals e n w = (assignment.Nonblocking, (a, ap (λ x. a ∷ x) w, e))
assigner_at a ts rest other e n w = absurd w

pub sound_assigner : Sound task.Assigner
sound_assigner = sound_by task.Assigner assigner_at (λ rest w. absurd w)

-- ---- statements

-- a statement that was gone through
abbrev pub Done : List Terminal → List Terminal → Type 0
Done = Means task.Statement

done : (ts mid rest : List Terminal) → mid ≡ rest → Done ts mid → Done ts rest
done ts mid rest e w = subst (λ x. Done ts x) e w

plain : (a : Action) (ts rest : List Terminal) → IsAction [] a ts rest → IsStatement a ts rest
plain a ts rest w = ([], (ts, refl, w))

no_true : (b : Bool) → b ≡ false → b ≡ true → ⊥
no_true b e f = cc

-- the same under other attributes: only a case depends on them
remarked : (a : Action) (marks others : List (List Identifier)) (ts rest : List Terminal) → IsAction marks a ts rest → (b : Action) × IsAction others b ts rest × (ends_open b ≡ ends_open a)
remarked (Null at) marks others ts rest w = (Null at, w, refl)
remarked (Delayed p body) marks others ts rest w = (Delayed p body, w, refl)
remarked (Assign t k p v) marks others ts rest w = (Assign t k p v, w, refl)
remarked (If at c a) marks others ts rest w = (If at c a, w, refl)
remarked (IfElse at c a b) marks others ts rest w = (IfElse at c a b, w, refl)
remarked (For at i s c j t body) marks others ts rest w = (For at i s c j t body, w, refl)
remarked (Block at l body) marks others ts rest w = (Block at l body, w, refl)
remarked (Case at k full parallel selector bs) marks others ts rest w =
    (Case at k (names (codes "full_case") others || w.0) (names (codes "parallel_case") others || w.1) selector bs, (w.0, w.1, refl, refl, w.4, w.5), refl)

marked : (a : Terminal) (ts m1 m2 m3 m4 rest : List Terminal) → a.symbol ≡ symbol.OpenAttribute → Any IsAttribute ts m1 → Any (AreMore IsAttribute) m1 m2 → IsA symbol.CloseAttribute m2 m3 → Done m3 m4 → m4 ≡ rest → Done (a ∷ ts) rest
marked a ts m1 m2 m3 m4 rest e x xs c s f =
    let st = s.1 in
    let w = st.0 in
    let v = w.1 in
    let r = remarked s.0 w.0 ((x.0 ∷ xs.0) ∷ w.0) v.0 m4 v.2 in
    done (a ∷ ts) m4 rest f
    (r.0, (((x.0 ∷ xs.0) ∷ w.0, (v.0, (m3, (ts, (a, refl, e), (m2, (m1, x.1, xs.1), c)), v.1), r.1)), λ o. st.1 (sym r.2 ∙ o)))

assigned : (ts rest : List Terminal) → AllMean (task.Target ∷ task.Assigner ∷ task.Delay ∷ task.Expression ∷ task.Expect symbol.Semicolon ∷ task.Wrap ∷ task.Join ∷ []) ts rest → Done ts rest
assigned ts rest w =
    let t = w.1 in
    let v = w.2 in
    let k = v.1 in
    let u = v.2 in
    let p = u.1 in
    let z = u.2 in
    let f = z.1 in
    let y = z.2 in
    let a = Assign t.0 k.0 p.0 f.0 in
    (a, (plain a ts rest (w.0, t.1, (v.0, k.1, (u.0, p.1, (z.0, f.1, to symbol.Semicolon z.0 y.0 rest y.1 (finished y.0 rest y.2))))), λ o. absurd (no_true false refl o)))

pub else_there : (xs ys : List Terminal) → IsA symbol.Else xs ys → Not symbol.Else xs → ⊥
else_there xs ys v n = no_true (is_next symbol.Else (symbol_at xs)) n (ap (λ o. is_next symbol.Else o) (head symbol.Else xs ys v) ∙ same_refl symbol.Else)

closed : (a : Action) (ts rest : List Terminal) → (ends_open a ≡ true → Not symbol.Else ts) → IsA symbol.Else ts rest → ends_open a ≡ false
closed a ts rest f w = closed_by (ends_open a) refl
  where
    closed_by : (b : Bool) → ends_open a ≡ b → ends_open a ≡ false
    closed_by false e = e
    closed_by true e = absurd (else_there ts rest w (f e))

if_by : (a : Terminal) (ts m1 m2 m3 m4 m5 rest : List Terminal) (c : Formula) → a.symbol ≡ symbol.If → IsA symbol.OpenParen ts m1 → IsExpression c m1 m2 → IsA symbol.CloseParen m2 m3 → Done m3 m4 → Means task.Else m4 m5 → m5 ≡ rest
    → Done (a ∷ ts) rest
if_by a ts m1 m2 m3 m4 m5 rest c e o x p s (inl w) f =
    let st = s.1 in
    let b = If a.at c s.0 in
    done (a ∷ ts) m5 rest f
    (b, (plain b (a ∷ ts) m5 (ts, (a, refl, (e, refl)), (m1, o, (m2, x, (m3, p, subst (λ y. IsStatement s.0 m3 y) w.0 st.0)))), λ q. w.1))
if_by a ts m1 m2 m3 m4 m5 rest c e o x p s (inr w) f =
    let st = s.1 in
    let v = w.1 in
    let so = v.2 in
    let b = IfElse a.at c s.0 w.0 in
    done (a ∷ ts) m5 rest f
    (b, (plain b (a ∷ ts) m5 (closed s.0 m4 v.0 st.1 v.1, (ts, (a, refl, (e, refl)), (m1, o, (m2, x, (m3, p, (m4, st.0, (v.0, v.1, so.0))))))), so.1))

case_by : (k : CaseKind) (a : Terminal) (ts rest : List Terminal) → a.symbol ≡ case_symbol k
    → AllMean (task.Expect symbol.OpenParen ∷ task.Expression ∷ task.Expect symbol.CloseParen ∷ task.FirstBranch ∷ task.Expect symbol.Endcase ∷ task.Wrap ∷ task.Join ∷ []) ts rest → Done (a ∷ ts) rest
case_by k a ts rest e w =
    let v = w.2 in
    let f = v.1 in
    let u = v.2 in
    let p = u.1 in
    let z = u.2 in
    let bs = z.1 in
    let listed = bs.1 in
    let y = z.2 in
    let c = Case a.at k (names (codes "full_case") [] || p.0.full) (names (codes "parallel_case") [] || p.0.parallel) f.0 bs.0 in (
      c,
      (
        plain c (a ∷ ts) rest (
          p.0.full,
          p.0.parallel,
          refl,
          refl,
          listed.1,
          (ts, (a, refl, (e, refl)), (w.0, w.1, (v.0, f.1, (u.0, (p.0, p.1, (p.2, refl, refl)), (z.0, listed.0, to symbol.Endcase z.0 y.0 rest y.1 (finished y.0 rest y.2)))))),
        ),
        λ o. absurd (no_true false refl o),
      ),
    )

for_by : (a : Terminal) (ts rest : List Terminal) → a.symbol ≡ symbol.For
    → AllMean (task.Expect symbol.OpenParen ∷ task.Name ∷ task.Expect symbol.Equals ∷ task.Expression ∷ task.Expect symbol.Semicolon ∷ task.Expression ∷ task.Expect symbol.Semicolon ∷ task.Name ∷ task.Expect symbol.Equals ∷ task.Expression ∷ task.Expect symbol.CloseParen ∷ task.Statement ∷ task.Wrap ∷ task.Join ∷ []) ts rest
    → Done (a ∷ ts) rest
for_by a ts rest e w1 =
    let w2 = w1.2 in
    let w3 = w2.2 in
    let w4 = w3.2 in
    let w5 = w4.2 in
    let w6 = w5.2 in
    let w7 = w6.2 in
    let w8 = w7.2 in
    let w9 = w8.2 in
    let w10 = w9.2 in
    let w11 = w10.2 in
    let w12 = w11.2 in
    let i = w2.1 in
    let start = w4.1 in
    let c = w6.1 in
    let j = w8.1 in
    let step = w10.1 in
    let s = done w11.0 w12.0 rest (finished w12.0 rest w12.2) w12.1 in
    let st = s.1 in
    let b = For a.at i.0 start.0 c.0 j.0 step.0 s.0 in (
      b,
      (
        plain b (a ∷ ts) rest
            (ts, (a, refl, (e, refl)), (w1.0, w1.1, (w2.0, i.1, (w3.0, w3.1, (w4.0, start.1, (w5.0, w5.1, (w6.0, c.1, (w7.0, w7.1, (w8.0, j.1, (w9.0, w9.1, (w10.0, step.1, (w11.0, w11.1, st.0)))))))))))),
        st.1,
      ),
    )

statement_at : SoundAt task.Statement
statement_at a ts rest symbol.OpenAttribute e n w =
    let v = w.2 in
    let u = v.2 in
    let z = u.2 in
    marked a ts w.0 v.0 u.0 z.0 rest e w.1 v.1 u.1 z.1 z.2
statement_at a ts rest symbol.Semicolon e n w =
    (Null a.at, (plain (Null a.at) (a ∷ ts) rest (a, ap (λ x. a ∷ x) (finished ts rest w), (e, refl)), λ o. absurd (no_true false refl o)))
statement_at a ts rest symbol.Hash e n w =
    let t = w.1 in
    let v = w.2 in
    let s = done w.0 v.0 rest (finished v.0 rest v.2) v.1 in
    let st = s.1 in
    let b = Delayed (record { at = a.at; span = t.0 }) s.0 in
    (b, (plain b (a ∷ ts) rest (w.0, (ts, (a, refl, (e, refl)), t.1), st.0), st.1))
statement_at a ts rest symbol.Name e n w = assigned (a ∷ ts) rest w
statement_at a ts rest symbol.OpenBrace e n w = assigned (a ∷ ts) rest w
statement_at a ts rest symbol.If e n w =
    let v = w.2 in
    let f = v.1 in
    let u = v.2 in
    let z = u.2 in
    let y = z.2 in
    if_by a ts w.0 v.0 u.0 z.0 y.0 rest f.0 e w.1 f.1 u.1 z.1 y.1 y.2
statement_at a ts rest symbol.Case e n w = case_by kind.Plain a ts rest e w
statement_at a ts rest symbol.Casez e n w = case_by kind.Z a ts rest e w
statement_at a ts rest symbol.Casex e n w = case_by kind.X a ts rest e w
statement_at a ts rest symbol.Begin e n w =
    let l = w.1 in
    let v = w.2 in
    let body = v.1 in
    let u = v.2 in
    let b = Block a.at l.0 body.0 in
    (b, (plain b (a ∷ ts) rest (ts, (a, refl, (e, refl)), (w.0, l.1, (v.0, body.1, to symbol.End v.0 u.0 rest u.1 (finished u.0 rest u.2)))), λ o. absurd (no_true false refl o)))
statement_at a ts rest symbol.For e n w = for_by a ts rest e w
statement_at a ts rest other e n w = absurd w

pub sound_statement : Sound task.Statement
sound_statement = sound_by task.Statement statement_at (λ rest w. absurd w)

else_at : SoundAt task.Else
unfolding same_symbol
else_at a ts rest symbol.Else e n w =
    let s = done ts w.0 rest (finished w.0 rest w.2) w.1 in
    inr (s.0, (ts, (a, refl, e), s.1))
else_at a ts rest other e n w =
    let f = finished (a ∷ ts) rest w in
    inl (f, subst (λ x. Not symbol.Else x) f (ap (λ o. is_next symbol.Else (Some o)) e))

pub sound_else : Sound task.Else
sound_else = sound_by task.Else else_at (λ rest w. inl (finished [] rest w, subst (λ x. Not symbol.Else x) (finished [] rest w) refl))

pub sound_label : Sound task.Label
sound_label ts rest n w = by_option (was_optional symbol.Colon (task.Name ∷ []) ts rest w)
  where
    by_option : ((mid : List Terminal) × IsA symbol.Colon ts mid × AllMean (task.Name ∷ []) mid rest) ⊎ ((ts ≡ rest) × Not symbol.Colon ts) → Means task.Label ts rest
    by_option (inr v) = (None, v.0)
    by_option (inl v) =
        let u = v.2 in
        let i = u.1 in
        (Some i.0, (v.0, v.1, subst (λ x. IsName i.0 v.0 x) u.2 i.1))

pub sound_statements : Sound task.Statements
sound_statements ts rest n w = by_choice (was_unless symbol.End (task.Statement ∷ task.Statements ∷ []) ts rest w)
  where
    by_choice : (ts ≡ rest) ⊎ AllMean (task.Statement ∷ task.Statements ∷ []) ts rest → Means task.Statements ts rest
    by_choice (inl e) = (no_actions, e)
    by_choice (inr v) =
        let s = v.1 in
        let st = s.1 in
        let u = v.2 in
        let others = u.1 in
        (more_actions s.0 others.0, (v.0, st.0, subst (λ x. AreStatements others.0 v.0 x) u.2 others.1))

-- ---- cases

default_by : (a : Terminal) (ts rest : List Terminal) → a.symbol ≡ symbol.Default → AllMean (task.DefaultColon ∷ task.Statement ∷ task.Labelled ∷ []) ts rest
    → Any (λ bs ts rest. (AreBranches bs ts rest × AreMoreBranches bs ts rest) × (defaults bs ≤ 1)) (a ∷ ts) rest
default_by a ts rest e w =
    let v = w.2 in
    let s = v.1 in
    let st = s.1 in
    let u = v.2 in
    let bs = u.1 in
    let listed = bs.1 in
    let last = subst (λ x. AreMoreBranches bs.0 v.0 x) u.2 listed.0 in
    let one : IsBranch (Default a.at s.0) (a ∷ ts) v.0 = (ts, (a, refl, (e, refl)), (w.0, w.1, st.0)) in
    (more_branches (Default a.at s.0) bs.0, (((v.0, one, last), (v.0, one, last)), omega (arith, listed.1)))

labels_by : (limit : ℕ) (ts m1 m2 m3 m4 rest : List Terminal) → Any IsExpression ts m1 → Any (AreMore IsExpression) m1 m2 → IsA symbol.Colon m2 m3 → Done m3 m4
    → Any (λ bs ts rest. AreMoreBranches bs ts rest × (defaults bs ≤ limit)) m4 rest → Any (λ bs ts rest. (AreBranches bs ts rest × AreMoreBranches bs ts rest) × (defaults bs ≤ limit)) ts rest
labels_by limit ts m1 m2 m3 m4 rest f fs c s bs =
    let st = s.1 in
    let listed = bs.1 in
    let one : IsBranch (Labelled (f.0 ∷ fs.0) s.0) ts m4 = (m2, (m1, f.1, fs.1), (m3, c, st.0)) in
    (more_branches (Labelled (f.0 ∷ fs.0) s.0) bs.0, (((m4, one, listed.0), (m4, one, listed.0)), listed.1))

moved_branches : (limit : ℕ) (ts mid rest : List Terminal) → mid ≡ rest → Any (λ bs ts rest. AreMoreBranches bs ts rest × (defaults bs ≤ limit)) ts mid → Any (λ bs ts rest. AreMoreBranches bs ts rest × (defaults bs ≤ limit)) ts rest
moved_branches limit ts mid rest e w = subst (λ x. Any (λ bs ts rest. AreMoreBranches bs ts rest × (defaults bs ≤ limit)) ts x) e w

labelled_steps : (ts rest : List Terminal) → AllMean (task.Expression ∷ task.Expressions ∷ task.Expect symbol.Colon ∷ task.Statement ∷ task.Branches ∷ []) ts rest
    → Any (λ bs ts rest. (AreBranches bs ts rest × AreMoreBranches bs ts rest) × (defaults bs ≤ 1)) ts rest
labelled_steps ts rest w =
    let v = w.2 in
    let u = v.2 in
    let z = u.2 in
    let y = z.2 in
    labels_by 1 ts w.0 v.0 u.0 z.0 rest w.1 v.1 u.1 z.1 (moved_branches 1 z.0 y.0 rest y.2 y.1)

as_first : (ts rest : List Terminal) → Any (λ bs ts rest. (AreBranches bs ts rest × AreMoreBranches bs ts rest) × (defaults bs ≤ 1)) ts rest → Means task.FirstBranch ts rest
as_first ts rest w =
    let v = w.1 in
    (w.0, (v.0.0, v.1))

as_more : (limit : ℕ) (ts rest : List Terminal) → Any (λ bs ts rest. (AreBranches bs ts rest × AreMoreBranches bs ts rest) × (defaults bs ≤ limit)) ts rest → Any (λ bs ts rest. AreMoreBranches bs ts rest × (defaults bs ≤ limit)) ts rest
as_more limit ts rest w =
    let v = w.1 in
    (w.0, (v.0.1, v.1))

first_at : SoundAt task.FirstBranch
first_at a ts rest symbol.Default e n w = as_first (a ∷ ts) rest (default_by a ts rest e w)
first_at a ts rest other e n w = as_first (a ∷ ts) rest (labelled_steps (a ∷ ts) rest w)

pub sound_first : Sound task.FirstBranch
sound_first = sound_by task.FirstBranch first_at (λ rest w. as_first [] rest (labelled_steps [] rest w))

branches_at : SoundAt task.Branches
branches_at a ts rest symbol.Endcase e n w = (no_branches, (w, omega arith))
branches_at a ts rest symbol.Default e n w = as_more 1 (a ∷ ts) rest (default_by a ts rest e w)
branches_at a ts rest other e n w = as_more 1 (a ∷ ts) rest (labelled_steps (a ∷ ts) rest w)

pub sound_branches : Sound task.Branches
sound_branches = sound_by task.Branches branches_at (λ rest w. as_more 1 [] rest (labelled_steps [] rest w))

pub sound_labelled : Sound task.Labelled
sound_labelled ts rest n w = by_choice (was_unless symbol.Endcase (task.Expression ∷ task.Expressions ∷ task.Expect symbol.Colon ∷ task.Statement ∷ task.Labelled ∷ []) ts rest w)
  where
    by_choice : (ts ≡ rest) ⊎ AllMean (task.Expression ∷ task.Expressions ∷ task.Expect symbol.Colon ∷ task.Statement ∷ task.Labelled ∷ []) ts rest → Means task.Labelled ts rest
    by_choice (inl e) = (no_branches, (e, omega arith))
    by_choice (inr x) =
        let v = x.2 in
        let u = v.2 in
        let z = u.2 in
        let y = z.2 in
        as_more 0 ts rest (labels_by 0 ts x.0 v.0 u.0 z.0 rest x.1 v.1 u.1 z.1 (moved_branches 0 z.0 y.0 rest y.2 y.1))

pub sound_colon : Sound task.DefaultColon
sound_colon ts rest n w = by_option (was_optional symbol.Colon [] ts rest w)
  where
    by_option : ((mid : List Terminal) × IsA symbol.Colon ts mid × AllMean [] mid rest) ⊎ ((ts ≡ rest) × Not symbol.Colon ts) → Means task.DefaultColon ts rest
    by_option (inr v) = inl v.0
    by_option (inl v) = inr (to symbol.Colon ts v.0 rest v.1 v.2)
