-- What was gone through is spelled: generate constructs.
use Rattle.std.proofs.Common.{◌≡◌, ℕ, ◌≤◌, ◌⊎◌, inl, inr, Bool, true, false, List, [], ◌∷◌, Some, refl, sym, ap, subst, arith}
use Rattle.rtl_tree.specs.declared.symbol.Symbol.TheVariants as symbol
use Rattle.rtl_tree.specs.Symbols.{Terminal}
use Rattle.rtl_tree.specs.TreeExpr.{Formula}
use Rattle.rtl_tree.specs.TreeWritten.{WrittenItem, If, IfElse, Case, For, no_items, more_items, GenerateBlock, Null, Single, Block, Labelled, Default, no_choices, more_choices}
use Rattle.text_grammar.specs.Grammar.{IsA, AreMore}
use Rattle.text_grammar.specs.GrammarExpr.{IsExpression}
use Rattle.text_grammar.specs.GrammarStmt.{Marked}
use Rattle.text_grammar.specs.GrammarWritten.{block_ends_open, takes_attributes, MarkedIf, defaults, IsUnmarked, AreWritten, IsMade, IsChoice, AreChoices, AreMoreChoices, IsWritten}
use Rattle.text_survey.specs.declared.task.Task.TheVariants as task
use Rattle.text_survey.specs.Table.{is_next, same_symbol}
use Rattle.text_survey.proofs.Laws.Expressions.{Not}
use Rattle.text_survey.proofs.Laws.Means.{Any, Means, AllMean, to, finished, was_unless}
use Rattle.text_survey.proofs.Laws.SoundExpressions.{Sound, SoundAt, sound_by}
use Rattle.text_survey.proofs.Laws.SoundStatements.{else_there}

no_true : (b : Bool) → b ≡ false → b ≡ true → ⊥
no_true b e f = cc

-- an item that was gone through
abbrev Done : List Terminal → List Terminal → Type 0
Done = Means task.Item

done : (ts mid rest : List Terminal) → mid ≡ rest → Done ts mid → Done ts rest
done ts mid rest e w = subst (λ x. Done ts x) e w

-- what a construct makes that was gone through
abbrev IsDone : List Terminal → List Terminal → Type 0
IsDone = Means task.Made

is_done : (ts mid rest : List Terminal) → mid ≡ rest → IsDone ts mid → IsDone ts rest
is_done ts mid rest e w = subst (λ x. IsDone ts x) e w

-- ---- items

marked : (i : WrittenItem) (ts rest : List Terminal) → takes_attributes i ≡ true → Marked (λ marks. IsUnmarked i) ts rest → IsWritten i ts rest
marked i ts rest t w = subst (λ b. MarkedIf b (IsUnmarked i) ts rest) (sym t) w

by_marks : (ts rest : List Terminal) → AllMean (task.MarkedItem ∷ []) ts rest → Done ts rest
by_marks ts rest w =
    let i = w.1 in
    let g = i.1 in
    done ts w.0 rest w.2 (i.0, (marked i.0 ts w.0 g.0 g.1, g.2))

closed : (b : GenerateBlock) (ts rest : List Terminal) → (block_ends_open b ≡ true → Not symbol.Else ts) → IsA symbol.Else ts rest → block_ends_open b ≡ false
closed b ts rest f w = closed_by (block_ends_open b) refl
  where
    closed_by : (c : Bool) → block_ends_open b ≡ c → block_ends_open b ≡ false
    closed_by false e = e
    closed_by true e = absurd (else_there ts rest w (f e))

if_by : (a : Terminal) (ts m1 m2 m3 m4 m5 rest : List Terminal) (c : Formula) → a.symbol ≡ symbol.If → IsA symbol.OpenParen ts m1 → IsExpression c m1 m2 → IsA symbol.CloseParen m2 m3 → IsDone m3 m4 → Means task.MadeElse m4 m5 → m5 ≡ rest
    → Done (a ∷ ts) rest
if_by a ts m1 m2 m3 m4 m5 rest c e o x p s (inl w) f =
    let st = s.1 in
    done (a ∷ ts) m5 rest f
    (If a.at c s.0, ((ts, (a, refl, (e, refl)), (m1, o, (m2, x, (m3, p, subst (λ y. IsMade s.0 m3 y) w.0 st.0)))), λ q. w.1))
if_by a ts m1 m2 m3 m4 m5 rest c e o x p s (inr w) f =
    let st = s.1 in
    let v = w.1 in
    let so = v.2 in
    done (a ∷ ts) m5 rest f
    (IfElse a.at c s.0 w.0, ((closed s.0 m4 v.0 st.1 v.1, (ts, (a, refl, (e, refl)), (m1, o, (m2, x, (m3, p, (m4, st.0, (v.0, v.1, so.0))))))), so.1))

case_by : (a : Terminal) (ts rest : List Terminal) → a.symbol ≡ symbol.Case
    → AllMean (task.Expect symbol.OpenParen ∷ task.Expression ∷ task.Expect symbol.CloseParen ∷ task.FirstChoice ∷ task.Expect symbol.Endcase ∷ task.Wrap ∷ task.Join ∷ []) ts rest → Done (a ∷ ts) rest
case_by a ts rest e w =
    let v = w.2 in
    let f = v.1 in
    let u = v.2 in
    let z = u.2 in
    let cs = z.1 in
    let listed = cs.1 in
    let y = z.2 in
    (Case a.at f.0 cs.0, ((listed.1, (ts, (a, refl, (e, refl)), (w.0, w.1, (v.0, f.1, (u.0, u.1, (z.0, listed.0, to symbol.Endcase z.0 y.0 rest y.1 (finished y.0 rest y.2))))))), λ o. absurd (no_true false refl o)))

for_by : (a : Terminal) (ts rest : List Terminal) → a.symbol ≡ symbol.For
    → AllMean (task.Expect symbol.OpenParen ∷ task.Name ∷ task.Expect symbol.Equals ∷ task.Expression ∷ task.Expect symbol.Semicolon ∷ task.Expression ∷ task.Expect symbol.Semicolon ∷ task.Name ∷ task.Expect symbol.Equals ∷ task.Expression ∷ task.Expect symbol.CloseParen ∷ task.Made ∷ task.Wrap ∷ task.Join ∷ []) ts rest
    → Done (a ∷ ts) rest
for_by a ts rest e w1 =
    let w2 = w1.2 in
    let w3 = w2.2 in
    let w4 = w3.2 in
    let w5 = w4.2 in
    let w6 = w5.2 in
    let w7 = w6.2 in
    let w8 = w7.2 in
    let w9 = w8.2 in
    let w10 = w9.2 in
    let w11 = w10.2 in
    let w12 = w11.2 in
    let i = w2.1 in
    let start = w4.1 in
    let c = w6.1 in
    let j = w8.1 in
    let step = w10.1 in
    let s = is_done w11.0 w12.0 rest (finished w12.0 rest w12.2) w12.1 in
    let st = s.1 in (
      For a.at i.0 start.0 c.0 j.0 step.0 s.0,
      (
        (ts, (a, refl, (e, refl)), (w1.0, w1.1, (w2.0, i.1, (w3.0, w3.1, (w4.0, start.1, (w5.0, w5.1, (w6.0, c.1, (w7.0, w7.1, (w8.0, j.1, (w9.0, w9.1, (w10.0, step.1, (w11.0, w11.1, st.0)))))))))))),
        st.1,
      ),
    )

item_at : SoundAt task.Item
item_at a ts rest symbol.If e n w =
    let v = w.2 in
    let f = v.1 in
    let u = v.2 in
    let z = u.2 in
    let y = z.2 in
    if_by a ts w.0 v.0 u.0 z.0 y.0 rest f.0 e w.1 f.1 u.1 z.1 y.1 y.2
item_at a ts rest symbol.Case e n w = case_by a ts rest e w
item_at a ts rest symbol.For e n w = for_by a ts rest e w
item_at a ts rest other e n w = by_marks (a ∷ ts) rest w

pub sound_item : Sound task.Item
sound_item = sound_by task.Item item_at (λ rest w. by_marks [] rest w)

-- ---- items in a row, and blocks

row_more : (ts m1 m2 rest : List Terminal) → Done ts m1 → Any AreWritten m1 m2 → m2 ≡ rest → Any AreWritten ts rest
row_more ts m1 m2 rest i is e = (more_items i.0 is.0, (m1, i.1.0, subst (λ x. AreWritten is.0 m1 x) e is.1))

pub sound_region_items : Sound task.RegionItems
sound_region_items ts rest n w = by_choice (was_unless symbol.Endgenerate (task.Item ∷ task.RegionItems ∷ []) ts rest w)
  where
    by_choice : (ts ≡ rest) ⊎ AllMean (task.Item ∷ task.RegionItems ∷ []) ts rest → Means task.RegionItems ts rest
    by_choice (inl e) = (no_items, e)
    by_choice (inr v) =
        let u = v.2 in
        row_more ts v.0 u.0 rest v.1 u.1 u.2

pub sound_block_items : Sound task.BlockItems
sound_block_items ts rest n w = by_choice (was_unless symbol.End (task.Item ∷ task.BlockItems ∷ []) ts rest w)
  where
    by_choice : (ts ≡ rest) ⊎ AllMean (task.Item ∷ task.BlockItems ∷ []) ts rest → Means task.BlockItems ts rest
    by_choice (inl e) = (no_items, e)
    by_choice (inr v) =
        let u = v.2 in
        row_more ts v.0 u.0 rest v.1 u.1 u.2

single : (ts rest : List Terminal) → AllMean (task.Item ∷ []) ts rest → IsDone ts rest
single ts rest w =
    let i = done ts w.0 rest w.2 w.1 in
    (Single i.0, i.1)

made_at : SoundAt task.Made
made_at a ts rest symbol.Semicolon e n w =
    (Null a.at, ((a, ap (λ x. a ∷ x) (finished ts rest w), (e, refl)), λ o. absurd (no_true false refl o)))
made_at a ts rest symbol.Begin e n w =
    let l = w.1 in
    let v = w.2 in
    let items = v.1 in
    let u = v.2 in
    (Block a.at l.0 items.0, ((ts, (a, refl, (e, refl)), (w.0, l.1, (v.0, items.1, to symbol.End v.0 u.0 rest u.1 (finished u.0 rest u.2)))), λ o. absurd (no_true false refl o)))
made_at a ts rest other e n w = single (a ∷ ts) rest w

pub sound_made : Sound task.Made
sound_made = sound_by task.Made made_at (λ rest w. single [] rest w)

else_at : SoundAt task.MadeElse
unfolding same_symbol
else_at a ts rest symbol.Else e n w =
    let s = is_done ts w.0 rest (finished w.0 rest w.2) w.1 in
    inr (s.0, (ts, (a, refl, e), s.1))
else_at a ts rest other e n w =
    let f = finished (a ∷ ts) rest w in
    inl (f, subst (λ x. Not symbol.Else x) f (ap (λ o. is_next symbol.Else (Some o)) e))

pub sound_else : Sound task.MadeElse
sound_else = sound_by task.MadeElse else_at (λ rest w. inl (finished [] rest w, subst (λ x. Not symbol.Else x) (finished [] rest w) refl))

-- ---- cases

-- choices of which so many at most are defaults, as the first and as further ones
abbrev AreSome : ℕ → List Terminal → List Terminal → Type 0
AreSome limit = Any (λ cs ts rest. (AreChoices cs ts rest × AreMoreChoices cs ts rest) × (defaults cs ≤ limit))

default_by : (a : Terminal) (ts rest : List Terminal) → a.symbol ≡ symbol.Default → AllMean (task.DefaultColon ∷ task.Made ∷ task.LabelledChoices ∷ []) ts rest → AreSome 1 (a ∷ ts) rest
default_by a ts rest e w =
    let v = w.2 in
    let s = v.1 in
    let st = s.1 in
    let u = v.2 in
    let cs = u.1 in
    let listed = cs.1 in
    let last = subst (λ x. AreMoreChoices cs.0 v.0 x) u.2 listed.0 in
    let one : IsChoice (Default a.at s.0) (a ∷ ts) v.0 = (ts, (a, refl, (e, refl)), (w.0, w.1, st.0)) in
    (more_choices (Default a.at s.0) cs.0, (((v.0, one, last), (v.0, one, last)), omega (arith, listed.1)))

labels_by : (limit : ℕ) (ts m1 m2 m3 m4 rest : List Terminal) → Any IsExpression ts m1 → Any (AreMore IsExpression) m1 m2 → IsA symbol.Colon m2 m3 → IsDone m3 m4
    → Any (λ cs ts rest. AreMoreChoices cs ts rest × (defaults cs ≤ limit)) m4 rest → AreSome limit ts rest
labels_by limit ts m1 m2 m3 m4 rest f fs c s cs =
    let st = s.1 in
    let listed = cs.1 in
    let one : IsChoice (Labelled (f.0 ∷ fs.0) s.0) ts m4 = (m2, (m1, f.1, fs.1), (m3, c, st.0)) in
    (more_choices (Labelled (f.0 ∷ fs.0) s.0) cs.0, (((m4, one, listed.0), (m4, one, listed.0)), listed.1))

moved_choices : (limit : ℕ) (ts mid rest : List Terminal) → mid ≡ rest → Any (λ cs ts rest. AreMoreChoices cs ts rest × (defaults cs ≤ limit)) ts mid → Any (λ cs ts rest. AreMoreChoices cs ts rest × (defaults cs ≤ limit)) ts rest
moved_choices limit ts mid rest e w = subst (λ x. Any (λ cs ts rest. AreMoreChoices cs ts rest × (defaults cs ≤ limit)) ts x) e w

labelled_steps : (ts rest : List Terminal) → AllMean (task.Expression ∷ task.Expressions ∷ task.Expect symbol.Colon ∷ task.Made ∷ task.Choices ∷ []) ts rest → AreSome 1 ts rest
labelled_steps ts rest w =
    let v = w.2 in
    let u = v.2 in
    let z = u.2 in
    let y = z.2 in
    labels_by 1 ts w.0 v.0 u.0 z.0 rest w.1 v.1 u.1 z.1 (moved_choices 1 z.0 y.0 rest y.2 y.1)

as_first : (ts rest : List Terminal) → AreSome 1 ts rest → Means task.FirstChoice ts rest
as_first ts rest w =
    let v = w.1 in
    (w.0, (v.0.0, v.1))

as_more : (limit : ℕ) (ts rest : List Terminal) → AreSome limit ts rest → Any (λ cs ts rest. AreMoreChoices cs ts rest × (defaults cs ≤ limit)) ts rest
as_more limit ts rest w =
    let v = w.1 in
    (w.0, (v.0.1, v.1))

first_at : SoundAt task.FirstChoice
first_at a ts rest symbol.Default e n w = as_first (a ∷ ts) rest (default_by a ts rest e w)
first_at a ts rest other e n w = as_first (a ∷ ts) rest (labelled_steps (a ∷ ts) rest w)

pub sound_first : Sound task.FirstChoice
sound_first = sound_by task.FirstChoice first_at (λ rest w. as_first [] rest (labelled_steps [] rest w))

choices_at : SoundAt task.Choices
choices_at a ts rest symbol.Endcase e n w = (no_choices, (w, omega arith))
choices_at a ts rest symbol.Default e n w = as_more 1 (a ∷ ts) rest (default_by a ts rest e w)
choices_at a ts rest other e n w = as_more 1 (a ∷ ts) rest (labelled_steps (a ∷ ts) rest w)

pub sound_choices : Sound task.Choices
sound_choices = sound_by task.Choices choices_at (λ rest w. as_more 1 [] rest (labelled_steps [] rest w))

pub sound_labelled : Sound task.LabelledChoices
sound_labelled ts rest n w = by_choice (was_unless symbol.Endcase (task.Expression ∷ task.Expressions ∷ task.Expect symbol.Colon ∷ task.Made ∷ task.LabelledChoices ∷ []) ts rest w)
  where
    by_choice : (ts ≡ rest) ⊎ AllMean (task.Expression ∷ task.Expressions ∷ task.Expect symbol.Colon ∷ task.Made ∷ task.LabelledChoices ∷ []) ts rest → Means task.LabelledChoices ts rest
    by_choice (inl e) = (no_choices, (e, omega arith))
    by_choice (inr x) =
        let v = x.2 in
        let u = v.2 in
        let z = u.2 in
        let y = z.2 in
        as_more 0 ts rest (labels_by 0 ts x.0 v.0 u.0 z.0 rest x.1 v.1 u.1 z.1 (moved_choices 0 z.0 y.0 rest y.2 y.1))
