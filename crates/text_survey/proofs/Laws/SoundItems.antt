-- What was gone through is spelled: items.
use Rattle.std.proofs.Common.{◌≡◌, ◌⊎◌, inl, inr, true, false, List, [], ◌∷◌, Some, None, refl, ap, subst, ◌∙◌}
use Rattle.rtl_tree.specs.declared.symbol.Symbol.TheVariants as symbol
use Rattle.rtl_tree.specs.declared.tree.item.PortKind.TheVariants as kind
use Rattle.rtl_tree.specs.declared.tree.item.EventEdge.{EventEdge}
use Rattle.rtl_tree.specs.declared.tree.item.EventEdge.TheVariants as edge
use Rattle.rtl_tree.specs.Symbols.{Terminal}
use Rattle.rtl_tree.specs.TreeExpr.{Formula}
use Rattle.rtl_tree.specs.TreeItem.{Edge, Change, ChangeBit, ChangePart, Star, StarInParens, Listed}
use Rattle.text_grammar.specs.Grammar.{Spelling, IsA, IsName, IsOptional, identifier_of}
use Rattle.text_grammar.specs.GrammarExpr.{IsExpression}
use Rattle.text_grammar.specs.GrammarItem.{IsValue, IsNet, IsInitial, IsVariable, IsValuation, IsDrive, edge_symbol, IsHappening, AreMoreEvents}
use Rattle.text_survey.specs.declared.task.Task.TheVariants as task
use Rattle.text_survey.proofs.Laws.Expressions.{Not}
use Rattle.text_survey.proofs.Laws.Means.{Any, Means, AllMean, to, was_required, was_optional, was_more}
use Rattle.text_survey.proofs.Laws.SoundExpressions.{Sound, SoundAt, sound_by}
use Rattle.text_survey.proofs.Laws.SoundStatements.{named}

-- one thing that ends elsewhere
pub ends_at : {A : Type 0} (p : A → Spelling) (ts mid rest : List Terminal) → Any p ts mid → mid ≡ rest → Any p ts rest
ends_at p ts mid rest w e = subst (λ x. Any p ts x) e w

pub sound_name : Sound task.Name
sound_name ts rest n w =
    let v = was_required symbol.Name [] ts rest w in
    named ts rest (to symbol.Name ts v.0 rest v.1 v.2)

pub sound_names : Sound task.Names
sound_names ts rest n w = was_more IsName task.Name task.Names (λ a b x. x) (λ a b x. x) ts rest w

kind_at : SoundAt task.PortKind
kind_at a ts rest symbol.Wire e n w = (Some kind.Wire, (a, ap (λ x. a ∷ x) w, e))
kind_at a ts rest symbol.Reg e n w = (Some kind.Reg, (a, ap (λ x. a ∷ x) w, e))
kind_at a ts rest other e n w = (None, w)

pub sound_kind : Sound task.PortKind
sound_kind = sound_by task.PortKind kind_at (λ rest w. (None, w))

pub sound_sign : Sound task.Sign
sound_sign ts rest n w = by_option (was_optional symbol.Signed [] ts rest w)
  where
    by_option : ((mid : List Terminal) × IsA symbol.Signed ts mid × AllMean [] mid rest) ⊎ ((ts ≡ rest) × Not symbol.Signed ts) → Means task.Sign ts rest
    by_option (inr v) = (false, v.0)
    by_option (inl v) = (true, to symbol.Signed ts v.0 rest v.1 v.2)

pub sound_range : Sound task.Range
sound_range ts rest n w = by_option (was_optional symbol.OpenBracket (task.Expression ∷ task.Expect symbol.Colon ∷ task.Expression ∷ task.Expect symbol.CloseBracket ∷ []) ts rest w)
  where
    by_option : ((mid : List Terminal) × IsA symbol.OpenBracket ts mid × AllMean (task.Expression ∷ task.Expect symbol.Colon ∷ task.Expression ∷ task.Expect symbol.CloseBracket ∷ []) mid rest) ⊎ ((ts ≡ rest) × Not symbol.OpenBracket ts)
        → Means task.Range ts rest
    by_option (inr v) = (None, v.0)
    by_option (inl v) =
        let o = v.1 in
        let u = v.2 in
        let f = u.1 in
        let z = u.2 in
        let y = z.2 in
        let g = y.1 in
        let q = y.2 in
        (Some (record { at = o.0.at; msb = f.0; lsb = g.0 }), (v.0, (o.0, o.1, (o.2, refl)), (u.0, f.1, (z.0, z.1, (y.0, g.1, to symbol.CloseBracket y.0 q.0 rest q.1 q.2)))))

pub sound_value : Sound task.Value
sound_value ts rest n w = by_option (was_optional symbol.Equals (task.Expression ∷ []) ts rest w)
  where
    by_option : ((mid : List Terminal) × IsA symbol.Equals ts mid × AllMean (task.Expression ∷ []) mid rest) ⊎ ((ts ≡ rest) × Not symbol.Equals ts) → Means task.Value ts rest
    by_option (inr v) = (None, v.0)
    by_option (inl v) =
        let u = v.2 in
        let f = ends_at IsExpression v.0 u.0 rest u.1 u.2 in
        (Some f.0, (v.0, v.1, f.1))

initial_at : SoundAt task.Initial
initial_at a ts rest symbol.Equals e n w =
    let v = w.2 in
    let f = ends_at IsExpression ts w.0 rest w.1 (v.1 ∙ v.2) in
    (true, (f.0, (ts, (a, refl, e), f.1)))
initial_at a ts rest other e n w = (false, w)

pub sound_initial : Sound task.Initial
sound_initial = sound_by task.Initial initial_at (λ rest w. (false, w))

pub sound_net : Sound task.Net
sound_net ts rest n w =
    let v = was_required symbol.Name (task.Value ∷ []) ts rest w in
    let i = named ts v.0 v.1 in
    let u = v.2 in
    let x = ends_at (IsOptional IsValue) v.0 u.0 rest u.1 u.2 in
    (record { name = i.0; value = x.0 }, (v.0, i.1, x.1))

pub sound_nets : Sound task.Nets
sound_nets ts rest n w = was_more IsNet task.Net task.Nets (λ a b x. x) (λ a b x. x) ts rest w

pub sound_variable : Sound task.Variable
sound_variable ts rest n w =
    let v = was_required symbol.Name (task.Initial ∷ []) ts rest w in
    let i = named ts v.0 v.1 in
    let u = v.2 in
    let x = ends_at IsInitial v.0 u.0 rest u.1 u.2 in
    (record { name = i.0; initial = x.0 }, (v.0, i.1, x.1))

pub sound_variables : Sound task.Variables
sound_variables ts rest n w = was_more IsVariable task.Variable task.Variables (λ a b x. x) (λ a b x. x) ts rest w

pub sound_setting : Sound task.Setting
sound_setting ts rest n w =
    let v = was_required symbol.Name (task.Expect symbol.Equals ∷ task.Expression ∷ []) ts rest w in
    let i = named ts v.0 v.1 in
    let u = v.2 in
    let z = u.2 in
    let x = ends_at IsExpression u.0 z.0 rest z.1 z.2 in
    (record { name = i.0; value = x.0 }, (v.0, i.1, (u.0, u.1, x.1)))

pub sound_settings : Sound task.Settings
sound_settings ts rest n w = was_more IsValuation task.Setting task.Settings (λ a b x. x) (λ a b x. x) ts rest w

pub sound_drive : Sound task.Drive
sound_drive ts rest n w =
    let t = w.1 in
    let v = w.2 in
    let u = v.2 in
    let x = ends_at IsExpression v.0 u.0 rest u.1 u.2 in
    (record { target = t.0; value = x.0 }, (w.0, t.1, (v.0, v.1, x.1)))

pub sound_drives : Sound task.Drives
sound_drives ts rest n w = was_more IsDrive task.Drive task.Drives (λ a b x. x) (λ a b x. x) ts rest w

-- ---- event lists

sensitivity_by : (a : Terminal) (ts mid rest : List Terminal) → a.symbol ≡ symbol.OpenParen → Means task.EventList ts mid → mid ≡ rest → Means task.Sensitivity (a ∷ ts) rest
sensitivity_by a ts mid rest e (inl w) m = (StarInParens, (ts, (a, refl, e), (w.0, w.1, to symbol.CloseParen w.0 mid rest w.2 m)))
sensitivity_by a ts mid rest e (inr w) m =
    let v = w.1 in
    (Listed w.0, (ts, (a, refl, e), (v.0, v.1, to symbol.CloseParen v.0 mid rest v.2 m)))

sensitivity_at : SoundAt task.Sensitivity
sensitivity_at a ts rest symbol.Star e n w = (Star, (a, ap (λ x. a ∷ x) w, e))
sensitivity_at a ts rest symbol.OpenParen e n w = sensitivity_by a ts w.0 rest e w.1 w.2
sensitivity_at a ts rest other e n w = absurd w

pub sound_sensitivity : Sound task.Sensitivity
sound_sensitivity = sound_by task.Sensitivity sensitivity_at (λ rest w. absurd w)

listed : (ts rest : List Terminal) → AllMean (task.Event ∷ task.Events ∷ task.Expect symbol.CloseParen ∷ []) ts rest → Means task.EventList ts rest
listed ts rest w =
    let h = w.1 in
    let v = w.2 in
    let hs = v.1 in
    let u = v.2 in
    inr (h.0 ∷ hs.0, (v.0, (w.0, h.1, hs.1), to symbol.CloseParen v.0 u.0 rest u.1 u.2))

event_list_at : SoundAt task.EventList
event_list_at a ts rest symbol.Star e n w = inl (ts, (a, refl, e), to symbol.CloseParen ts w.0 rest w.1 w.2)
event_list_at a ts rest other e n w = listed (a ∷ ts) rest w

pub sound_event_list : Sound task.EventList
sound_event_list = sound_by task.EventList event_list_at (λ rest w. listed [] rest w)

event_end_at : SoundAt task.EventSelectEnd
event_end_at a ts rest symbol.CloseBracket e n w = inl (a, ap (λ x. a ∷ x) w, e)
event_end_at a ts rest symbol.Colon e n w =
    let f = w.1 in
    let v = w.2 in
    inr (f.0, (ts, (a, refl, e), (w.0, f.1, to symbol.CloseBracket w.0 v.0 rest v.1 v.2)))
event_end_at a ts rest other e n w = absurd w

pub sound_event_select_end : Sound task.EventSelectEnd
sound_event_select_end = sound_by task.EventSelectEnd event_end_at (λ rest w. absurd w)

event_select_by : (ts rest : List Terminal) (mid : List Terminal) (f : Formula) (end : List Terminal) → IsA symbol.OpenBracket ts mid → IsExpression f mid end → (last : List Terminal) → Means task.EventSelectEnd end last → last ≡ rest
    → Means task.EventSelect ts rest
event_select_by ts rest mid f end o x last (inl c) e = inr (inl (f, (mid, o, (end, x, to symbol.CloseBracket end last rest c e))))
event_select_by ts rest mid f end o x last (inr c) e =
    let v = c.1 in
    let u = v.2 in
    inr (inr ((f, c.0), (mid, o, (end, x, (v.0, v.1, (u.0, u.1, to symbol.CloseBracket u.0 last rest u.2 e))))))

pub sound_event_select : Sound task.EventSelect
sound_event_select ts rest n w = by_option (was_optional symbol.OpenBracket (task.Expression ∷ task.EventSelectEnd ∷ []) ts rest w)
  where
    by_option : ((mid : List Terminal) × IsA symbol.OpenBracket ts mid × AllMean (task.Expression ∷ task.EventSelectEnd ∷ []) mid rest) ⊎ ((ts ≡ rest) × Not symbol.OpenBracket ts) → Means task.EventSelect ts rest
    by_option (inr v) = inl v.0
    by_option (inl v) =
        let u = v.2 in
        let f = u.1 in
        let z = u.2 in
        event_select_by ts rest v.0 f.0 u.0 v.1 f.1 z.0 z.1 z.2

edge_by : (d : EventEdge) (a : Terminal) (ts rest : List Terminal) → a.symbol ≡ edge_symbol d → AllMean (task.Name ∷ []) ts rest → Any IsHappening (a ∷ ts) rest
edge_by d a ts rest e w =
    let i = ends_at IsName ts w.0 rest w.1 w.2 in
    (Edge d a.at i.0, (ts, (a, refl, (e, refl)), i.1))

change_by : (a : Terminal) (ts mid rest : List Terminal) → a.symbol ≡ symbol.Name → Means task.EventSelect ts mid → mid ≡ rest → Any IsHappening (a ∷ ts) rest
change_by a ts mid rest e (inl w) m = (Change (identifier_of a), (a, ap (λ x. a ∷ x) (w ∙ m), (e, refl)))
change_by a ts mid rest e (inr (inl w)) m =
    (ChangeBit (identifier_of a) w.0, subst (λ x. IsHappening (ChangeBit (identifier_of a) w.0) (a ∷ ts) x) m (ts, (a, refl, (e, refl)), w.1))
change_by a ts mid rest e (inr (inr w)) m =
    let p = w.0 in
    (ChangePart (identifier_of a) p.0 p.1, subst (λ x. IsHappening (ChangePart (identifier_of a) p.0 p.1) (a ∷ ts) x) m (ts, (a, refl, (e, refl)), w.1))

event_at : SoundAt task.Event
event_at a ts rest symbol.Posedge e n w = edge_by edge.Posedge a ts rest e w
event_at a ts rest symbol.Negedge e n w = edge_by edge.Negedge a ts rest e w
event_at a ts rest symbol.Name e n w = change_by a ts w.0 rest e w.1 w.2
event_at a ts rest other e n w = absurd w

pub sound_event : Sound task.Event
sound_event = sound_by task.Event event_at (λ rest w. absurd w)

events_by : (a : Terminal) (ts rest : List Terminal) → (a.symbol ≡ symbol.Or) ⊎ (a.symbol ≡ symbol.Comma) → AllMean (task.Event ∷ task.Events ∷ []) ts rest → Any AreMoreEvents (a ∷ ts) rest
events_by a ts rest e w =
    let h = w.1 in
    let v = w.2 in
    let hs = ends_at AreMoreEvents w.0 v.0 rest v.1 v.2 in
    (h.0 ∷ hs.0, (ts, elim e [ inl x ↦ inl (a, refl, x) | inr x ↦ inr (a, refl, x) ], (w.0, h.1, hs.1)))

events_at : SoundAt task.Events
events_at a ts rest symbol.Or e n w = events_by a ts rest (inl e) w
events_at a ts rest symbol.Comma e n w = events_by a ts rest (inr e) w
events_at a ts rest other e n w = ([], w)

pub sound_events : Sound task.Events
sound_events = sound_by task.Events events_at (λ rest w. ([], w))
