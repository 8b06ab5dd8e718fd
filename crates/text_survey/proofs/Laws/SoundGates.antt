-- What was gone through is spelled: gates.
use Rattle.std.proofs.Common.{◌≡◌, ℕ, ◌≤◌, ◌⊎◌, inl, inr, true, false, List, [], ◌∷◌, Some, None, refl, sym, ap, subst, ◌∙◌, arith}
use Rattle.rtl_tree.specs.declared.symbol.Symbol.TheVariants as symbol
use Rattle.rtl_tree.specs.Symbols.{Terminal}
use Rattle.rtl_tree.specs.TreeExpr.{Formula}
use Rattle.rtl_tree.specs.TreeStmt.{Fixed, Named, Valued}
use Rattle.rtl_tree.specs.TreeGate.{One, Two, Gate}
use Rattle.text_grammar.specs.Grammar.{IsA, identifier_of}
use Rattle.text_grammar.specs.GrammarExpr.{IsFormula, IsExpression}
use Rattle.text_grammar.specs.GrammarGate.{IsGateSpan}
use Rattle.text_survey.specs.declared.task.Level.{Level}
use Rattle.text_survey.specs.declared.task.Level.TheVariants as grade
use Rattle.text_survey.specs.declared.task.Task.TheVariants as task
use Rattle.text_survey.specs.Table.{rank}
use Rattle.text_survey.proofs.Laws.Expressions.{Not}
use Rattle.text_survey.proofs.Laws.Tails.{tail}
use Rattle.text_survey.proofs.Laws.Gates.{IsGateOf}
use Rattle.text_survey.proofs.Laws.Means.{Any, AreOutputs, Means, AllMean, to, was_optional, was_more}
use Rattle.text_survey.proofs.Laws.SoundExpressions.{Sound, SoundAt, sound_by, moved, looser, selected_name}
use Rattle.text_survey.proofs.Laws.SoundStatements.{named}
use Rattle.text_survey.proofs.Laws.SoundItems.{ends_at}

-- ---- delays

pub sound_fall : Sound task.Fall
sound_fall ts rest n w = by_option (was_optional symbol.Comma (task.Expression ∷ []) ts rest w)
  where
    by_option : ((mid : List Terminal) × IsA symbol.Comma ts mid × AllMean (task.Expression ∷ []) mid rest) ⊎ ((ts ≡ rest) × Not symbol.Comma ts) → Means task.Fall ts rest
    by_option (inr v) = inl v.0
    by_option (inl v) =
        let u = v.2 in
        let f = ends_at IsExpression v.0 u.0 rest u.1 u.2 in
        inr (f.0, (v.0, v.1, f.1))

-- one time in parentheses, or two
ticks_by : (a : Terminal) (ts m1 m2 m3 rest : List Terminal) → a.symbol ≡ symbol.OpenParen → Any IsExpression ts m1 → Means task.Fall m1 m2 → IsA symbol.CloseParen m2 m3 → m3 ≡ rest → Any IsGateSpan (a ∷ ts) rest
ticks_by a ts m1 m2 m3 rest e f (inl w) c h =
    (One (Valued f.0), (ts, (a, refl, e), (m1, f.1, subst (λ x. IsA symbol.CloseParen x rest) (sym w) (to symbol.CloseParen m2 m3 rest c h))))
ticks_by a ts m1 m2 m3 rest e f (inr w) c h =
    let v = w.1 in
    (Two f.0 w.0, (ts, (a, refl, e), (m1, f.1, (v.0, v.1, (m2, v.2, to symbol.CloseParen m2 m3 rest c h)))))

ticks_at : SoundAt task.GateTicks
ticks_at a ts rest symbol.Number e n w =
    let v = n e in
    (One (Fixed v.0), (a, ap (λ x. a ∷ x) w, (e, v.1)))
ticks_at a ts rest symbol.Name e n w = (One (Named (identifier_of a)), (a, ap (λ x. a ∷ x) w, (e, refl)))
ticks_at a ts rest symbol.OpenParen e n w =
    let v = w.2 in
    let u = v.2 in
    ticks_by a ts w.0 v.0 u.0 rest e w.1 v.1 u.1 u.2
ticks_at a ts rest other e n w = absurd w

pub sound_ticks : Sound task.GateTicks
sound_ticks = sound_by task.GateTicks ticks_at (λ rest w. absurd w)

pub sound_delay : Sound task.GateDelay
sound_delay ts rest n w = by_option (was_optional symbol.Hash (task.GateTicks ∷ []) ts rest w)
  where
    by_option : ((mid : List Terminal) × IsA symbol.Hash ts mid × AllMean (task.GateTicks ∷ []) mid rest) ⊎ ((ts ≡ rest) × Not symbol.Hash ts) → Means task.GateDelay ts rest
    by_option (inr v) = (None, v.0)
    by_option (inl v) =
        let h = v.1 in
        let u = v.2 in
        let s = ends_at IsGateSpan v.0 u.0 rest u.1 u.2 in
        (Some (record { at = h.0.at; span = s.0 }), (v.0, (h.0, h.1, (h.2, refl)), s.1))

-- ---- outputs and the input of gates with one input

chain_on : (k : Level) (j : ℕ) (ts mid begun : List Terminal) → 1 ≤ rank k → j ≤ rank k → Means (task.Chain k) ts mid → Any (IsFormula j) begun ts → Any (IsFormula (rank k)) begun mid
chain_on k j ts mid begun p q c x = c p begun x.0 (looser j (rank k) x.0 begun ts q x.1)

-- the rest of an expression goes on after its first operand
tail_on : (ts rest begun : List Terminal) (f : Formula) → AllMean tail ts rest → IsFormula 0 f begun ts → Any IsExpression begun rest
tail_on ts rest begun f w x =
    let x1 = chain_on grade.Power 0 ts w.0 begun (omega arith) (omega arith) w.1 (f, x) in
    let w1 = w.2 in
    let x2 = chain_on grade.Product 1 w.0 w1.0 begun (omega arith) (omega arith) w1.1 x1 in
    let w2 = w1.2 in
    let x3 = chain_on grade.Sum 2 w1.0 w2.0 begun (omega arith) (omega arith) w2.1 x2 in
    let w3 = w2.2 in
    let x4 = chain_on grade.Shift 3 w2.0 w3.0 begun (omega arith) (omega arith) w3.1 x3 in
    let w4 = w3.2 in
    let x5 = chain_on grade.Comparison 4 w3.0 w4.0 begun (omega arith) (omega arith) w4.1 x4 in
    let w5 = w4.2 in
    let x6 = chain_on grade.Equality 5 w4.0 w5.0 begun (omega arith) (omega arith) w5.1 x5 in
    let w6 = w5.2 in
    let x7 = chain_on grade.And 6 w5.0 w6.0 begun (omega arith) (omega arith) w6.1 x6 in
    let w7 = w6.2 in
    let x8 = chain_on grade.Xor 7 w6.0 w7.0 begun (omega arith) (omega arith) w7.1 x7 in
    let w8 = w7.2 in
    let x9 = chain_on grade.Or 8 w7.0 w8.0 begun (omega arith) (omega arith) w8.1 x8 in
    let w9 = w8.2 in
    let x10 = chain_on grade.LogicalAnd 9 w8.0 w9.0 begun (omega arith) (omega arith) w9.1 x9 in
    let w10 = w9.2 in
    let x11 = chain_on grade.LogicalOr 10 w9.0 w10.0 begun (omega arith) (omega arith) w10.1 x10 in
    let w11 = w10.2 in
    let g = w11.1 begun x11.0 x11.1 in
    let z = w11.2 in
    (g.0, moved 12 g.0 begun w11.0 rest (z.1 ∙ z.2) g.1)

after_tail : (ts rest : List Terminal) → AllMean tail ts rest → Means task.AfterName ts rest
after_tail ts rest w begun f named' x =
    let g = tail_on ts rest begun f w x in
    (g.0 ∷ [], ((rest, g.1, refl), tt))

-- a comma after an output
after_comma : (a : Terminal) (ts rest : List Terminal) → a.symbol ≡ symbol.Comma → (fs : List Formula) → AreOutputs fs ts rest → Means task.AfterName (a ∷ ts) rest
after_comma a ts rest e [] w begun f named' x = absurd w.0
after_comma a ts rest e (g ∷ fs) w begun f named' x =
    (f ∷ g ∷ fs, ((a ∷ ts, looser 0 12 f begun (a ∷ ts) (omega arith) x, (ts, (a, refl, e), w.0)), (named', w.1)))

after_at : SoundAt task.AfterName
after_at a ts rest symbol.Comma e n w =
    let v = w.2 in
    let fs = ends_at AreOutputs w.0 v.0 rest v.1 v.2 in
    after_comma a ts rest e fs.0 (subst (λ x. AreOutputs fs.0 x rest) (sym w.1) fs.1)
after_at a ts rest other e n w = after_tail (a ∷ ts) rest w

pub sound_after : Sound task.AfterName
sound_after = sound_by task.AfterName after_at (λ rest w. after_tail [] rest w)

output_plain : (ts rest : List Terminal) → AllMean (task.Expression ∷ []) ts rest → Any AreOutputs ts rest
output_plain ts rest w =
    let f = w.1 in
    (f.0 ∷ [], ((w.0, f.1, w.2), tt))

output_at : SoundAt task.OutputOrInput
output_at a ts rest symbol.Name e n w =
    let v = w.2 in
    let u = v.2 in
    let f = selected_name a ts w.0 v.0 e w.1 v.1 in
    ends_at AreOutputs (a ∷ ts) u.0 rest (u.1 (a ∷ ts) f.0 f.1 f.2) u.2
output_at a ts rest other e n w = output_plain (a ∷ ts) rest w

pub sound_output : Sound task.OutputOrInput
sound_output = sound_by task.OutputOrInput output_at (λ rest w. output_plain [] rest w)

-- ---- gates

pub sound_gate_name : Sound task.GateName
sound_gate_name ts rest n w = by_option (was_optional symbol.Name [] ts rest w)
  where
    by_option : ((mid : List Terminal) × IsA symbol.Name ts mid × AllMean [] mid rest) ⊎ ((ts ≡ rest) × Not symbol.Name ts) → Means task.GateName ts rest
    by_option (inr v) = (None, v.0)
    by_option (inl v) =
        let i = named ts rest (to symbol.Name ts v.0 rest v.1 v.2) in
        (Some i.0, i.1)

pub sound_gate : Sound task.Gate
sound_gate ts rest n w =
    let w2 = w.2 in
    let w3 = w2.2 in
    let w4 = w3.2 in
    let w5 = w4.2 in
    let w6 = w5.2 in
    let w7 = w6.2 in
    let i = w.1 in
    let t = w3.1 in
    let f = w5.1 in
    let fs = w6.1 in
    let g : Gate = record { name = i.0; output = t.0; terminals = f.0 ∷ fs.0 } in
    (g, (tt, (w.0, i.1, (w2.0, w2.1, (w3.0, t.1, (w4.0, w4.1, (w6.0, (w5.0, f.1, fs.1), to symbol.CloseParen w6.0 w7.0 rest w7.1 w7.2)))))))

pub sound_gates : Sound task.Gates
sound_gates ts rest n w = was_more (IsGateOf false) task.Gate task.Gates (λ a b x. x) (λ a b x. x) ts rest w

pub sound_buffer : Sound task.Buffer
sound_buffer ts rest n w =
    let w2 = w.2 in
    let w3 = w2.2 in
    let w4 = w3.2 in
    let w5 = w4.2 in
    let w6 = w5.2 in
    let i = w.1 in
    let t = w3.1 in
    let fs = w5.1 in
    let listed = fs.1 in
    let g : Gate = record { name = i.0; output = t.0; terminals = fs.0 } in
    (g, (listed.1, (w.0, i.1, (w2.0, w2.1, (w3.0, t.1, (w4.0, w4.1, (w5.0, listed.0, to symbol.CloseParen w5.0 w6.0 rest w6.1 w6.2)))))))

pub sound_buffers : Sound task.Buffers
sound_buffers ts rest n w = was_more (IsGateOf true) task.Buffer task.Buffers (λ a b x. x) (λ a b x. x) ts rest w
