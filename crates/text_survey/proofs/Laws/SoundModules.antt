-- What was gone through is spelled: instances, items and modules.
use Rattle.std.proofs.Common.{◌≡◌, ◌⊎◌, inl, inr, Bool, true, false, List, [], ◌∷◌, Option, Some, None, refl, sym, ap, subst, ◌∙◌}
use Rattle.std.specs.List.{filter}
use Rattle.rtl_tree.specs.declared.symbol.Symbol.TheVariants as symbol
use Rattle.rtl_tree.specs.declared.tree.item.Direction.{Direction}
use Rattle.rtl_tree.specs.declared.tree.item.Direction.TheVariants as direction
use Rattle.rtl_tree.specs.declared.tree.item.ParameterKind.{ParameterKind}
use Rattle.rtl_tree.specs.declared.tree.item.ParameterKind.TheVariants as parameter
use Rattle.rtl_tree.specs.declared.tree.gate.GateKind.{GateKind}
use Rattle.rtl_tree.specs.declared.tree.gate.GateKind.TheVariants as kind
use Rattle.rtl_tree.specs.Symbols.{Terminal}
use Rattle.rtl_tree.specs.TreeExpr.{Formula, Identifier}
use Rattle.rtl_tree.specs.TreeItem.{Head, Positional, Association, ByPosition, ByName, ModuleItem, Ports, Nets, Variables, Integers, Parameters, Drives, Always, Instances}
use Rattle.rtl_tree.specs.TreeWritten.{WrittenItem, Plain, Primitives, Genvars, Region}
use Rattle.rtl_tree.specs.TreeModule.{HeaderParameter, Absent, Empty, Declared, Named, WrittenCircuit}
use Rattle.text_grammar.specs.Grammar.{◌⨾◌, IsA, IsName, IsOptional, AreAll, AreMore, AreListed, identifier_of}
use Rattle.text_grammar.specs.GrammarExpr.{IsExpression}
use Rattle.text_grammar.specs.GrammarItem.{direction_symbol, IsHead, parameter_symbol, IsPositional, IsAssociated, AreArguments, AreConnections, IsInstantiation, AreOverrides, IsItem}
use Rattle.text_grammar.specs.GrammarGate.{gate_symbol, has_one_input}
use Rattle.text_grammar.specs.GrammarWritten.{item_ends_open, ends_open, takes_attributes, IsUnmarked, IsWritten}
use Rattle.text_grammar.specs.GrammarModule.{IsThere, IsParameter, IsPort, IsHeader, is_between, IsMarkedCircuit, AreCircuits}
use Rattle.text_survey.specs.declared.task.Task.TheVariants as task
use Rattle.text_survey.specs.Table.{is_next}
use Rattle.text_survey.specs.Machine.{symbol_at}
use Rattle.text_survey.proofs.Laws.Expressions.{Not, head}
use Rattle.text_survey.proofs.Laws.Operands.{same_refl}
use Rattle.text_survey.proofs.Laws.Gates.{IsGateOf}
use Rattle.text_survey.proofs.Laws.Starts.{opens, formula_opens}
use Rattle.text_survey.proofs.Laws.Means.{Any, Means, AllMean, to, finished, was_required, was_optional, was_unless, was_more}
use Rattle.text_survey.proofs.Laws.SoundExpressions.{Sound, SoundAt, sound_by}
use Rattle.text_survey.proofs.Laws.SoundStatements.{named}
use Rattle.text_survey.proofs.Laws.SoundItems.{ends_at}

-- ---- arguments

no_expression : (f : Formula) (rest : List Terminal) → IsExpression f [] rest → ⊥
no_expression f rest w = never (formula_opens f 12 [] rest w)
  where
    never : opens None ≡ true → ⊥
    never e = cc

argument_plain : (a : Terminal) (ts rest : List Terminal) → AllMean (task.Expression ∷ []) (a ∷ ts) rest → Any IsPositional (a ∷ ts) rest
argument_plain a ts rest w =
    let f = ends_at IsExpression (a ∷ ts) w.0 rest w.1 w.2 in
    (record { at = a.at; value = Some f.0 }, (refl, f.1))

argument_at : SoundAt task.Argument
argument_at a ts rest symbol.Comma e n w = (record { at = a.at; value = None }, (refl, w))
argument_at a ts rest symbol.CloseParen e n w = (record { at = a.at; value = None }, (refl, w))
argument_at a ts rest other e n w = argument_plain a ts rest w

pub sound_argument : Sound task.Argument
sound_argument = sound_by task.Argument argument_at (λ rest w. absurd (no_expression w.1.0 w.0 w.1.1))

pub sound_positional : Sound task.Positional
sound_positional ts rest n w = by_option (was_optional symbol.Comma (task.Argument ∷ task.Positional ∷ []) ts rest w)
  where
    by_option : ((mid : List Terminal) × IsA symbol.Comma ts mid × AllMean (task.Argument ∷ task.Positional ∷ []) mid rest) ⊎ ((ts ≡ rest) × Not symbol.Comma ts) → Means task.Positional ts rest
    by_option (inr v) = ([], (v.0, subst (λ x. Not symbol.Comma x) v.0 v.1))
    by_option (inl v) =
        let u = v.2 in
        let p = u.1 in
        let z = u.2 in
        let ps = subst (λ x. Means task.Positional u.0 x) z.2 z.1 in
        let q = ps.1 in
        (p.0 ∷ ps.0, ((v.0, v.1, (u.0, p.1, q.0)), q.1))

pub sound_named : Sound task.NamedArgument
sound_named ts rest n w =
    let v = was_required symbol.Dot (task.Name ∷ task.Expect symbol.OpenParen ∷ task.Argument ∷ task.Expect symbol.CloseParen ∷ []) ts rest w in
    let d = v.1 in
    let u = v.2 in
    let i = u.1 in
    let z = u.2 in
    let y = z.2 in
    let p = y.1 in
    let q = y.2 in (
      record { at = d.0.at; name = i.0; value = p.0.value },
      (v.0, (d.0, d.1, (d.2, refl)), (u.0, i.1, (z.0, z.1, (y.0, p.1.1, to symbol.CloseParen y.0 q.0 rest q.1 q.2)))),
    )

pub sound_associated : Sound task.Associated
sound_associated ts rest n w = was_more IsAssociated task.NamedArgument task.Associated (λ a b x. x) (λ a b x. x) ts rest w

no_true : (b : Bool) → b ≡ false → b ≡ true → ⊥
no_true b e f = cc

empty_by : (a : Terminal) (ts rest : List Terminal) → a.symbol ≡ symbol.Comma → (ps : List Positional) → AreMore IsPositional ps (a ∷ ts) rest → Not symbol.Comma rest → Any AreArguments (a ∷ ts) rest
empty_by a ts rest e [] w n =
    absurd (no_true (is_next symbol.Comma (symbol_at rest)) n (ap (λ x. is_next symbol.Comma (symbol_at x)) (sym w) ∙ ap (λ s. is_next symbol.Comma (Some s)) e ∙ same_refl symbol.Comma))
empty_by a ts rest e (p ∷ ps) w n = (ByPosition (record { at = a.at; value = None } ∷ p ∷ ps), (tt, (a ∷ ts, (refl, refl), w)))

valued_by : (a : Terminal) (ts mid rest : List Terminal) (f : Formula) → IsExpression f (a ∷ ts) mid → (ps : List Positional) → AreMore IsPositional ps mid rest → Any AreArguments (a ∷ ts) rest
valued_by a ts mid rest f x [] w = (ByPosition (record { at = a.at; value = Some f } ∷ []), (tt, (mid, (refl, x), w)))
valued_by a ts mid rest f x (p ∷ ps) w = (ByPosition (record { at = a.at; value = Some f } ∷ p ∷ ps), (tt, (mid, (refl, x), w)))

arguments_at : SoundAt task.Arguments
arguments_at a ts rest symbol.Dot e n w =
    let x = w.1 in
    let v = w.2 in
    let xs = ends_at (AreMore IsAssociated) w.0 v.0 rest v.1 v.2 in
    (ByName (x.0 ∷ xs.0), (w.0, x.1, xs.1))
arguments_at a ts rest symbol.Comma e n w =
    let ps = subst (λ x. Means task.Positional (a ∷ ts) x) w.2 w.1 in
    let q = ps.1 in
    empty_by a ts rest e ps.0 q.0 q.1
arguments_at a ts rest other e n w =
    let f = w.1 in
    let v = w.2 in
    let ps = subst (λ x. Means task.Positional w.0 x) v.2 v.1 in
    let q = ps.1 in
    valued_by a ts w.0 rest f.0 f.1 ps.0 q.0

pub sound_arguments : Sound task.Arguments
sound_arguments = sound_by task.Arguments arguments_at (λ rest w. absurd (no_expression w.1.0 w.0 w.1.1))

connected : (a : Association) (ts rest : List Terminal) → AreArguments a ts rest → AreConnections a ts rest
connected (ByPosition []) ts rest w = absurd w.0
connected (ByPosition (x ∷ xs)) ts rest w = w
connected (ByName xs) ts rest w = w

pub sound_connections : Sound task.Connections
sound_connections ts rest n w = by_choice (was_unless symbol.CloseParen (task.Arguments ∷ []) ts rest w)
  where
    by_choice : (ts ≡ rest) ⊎ AllMean (task.Arguments ∷ []) ts rest → Means task.Connections ts rest
    by_choice (inl e) = (ByPosition [], e)
    by_choice (inr v) =
        let a = ends_at AreArguments ts v.0 rest v.1 v.2 in
        (a.0, connected a.0 ts rest a.1)

set_by : (a : Association) (ts m1 m2 m3 rest : List Terminal) → IsA symbol.Hash ts m1 → IsA symbol.OpenParen m1 m2 → AreArguments a m2 m3 → IsA symbol.CloseParen m3 rest → AreOverrides a ts rest
set_by (ByPosition []) ts m1 m2 m3 rest h o w c = absurd w.0
set_by (ByPosition (x ∷ xs)) ts m1 m2 m3 rest h o w c = (m1, h, (m2, o, (m3, w, c)))
set_by (ByName xs) ts m1 m2 m3 rest h o w c = (m1, h, (m2, o, (m3, w, c)))

pub sound_overrides : Sound task.Overrides
sound_overrides ts rest n w = by_option (was_optional symbol.Hash (task.Expect symbol.OpenParen ∷ task.Arguments ∷ task.Expect symbol.CloseParen ∷ []) ts rest w)
  where
    by_option : ((mid : List Terminal) × IsA symbol.Hash ts mid × AllMean (task.Expect symbol.OpenParen ∷ task.Arguments ∷ task.Expect symbol.CloseParen ∷ []) mid rest) ⊎ ((ts ≡ rest) × Not symbol.Hash ts) → Means task.Overrides ts rest
    by_option (inr v) = (ByPosition [], v.0)
    by_option (inl v) =
        let u = v.2 in
        let z = u.2 in
        let a = z.1 in
        let y = z.2 in
        (a.0, set_by a.0 ts v.0 u.0 z.0 rest v.1 u.1 a.1 (to symbol.CloseParen z.0 y.0 rest y.1 y.2))

pub sound_instance : Sound task.Instance
sound_instance ts rest n w =
    let v = was_required symbol.Name (task.Expect symbol.OpenParen ∷ task.Connections ∷ task.Expect symbol.CloseParen ∷ []) ts rest w in
    let i = named ts v.0 v.1 in
    let u = v.2 in
    let z = u.2 in
    let a = z.1 in
    let y = z.2 in
    (record { name = i.0; connections = a.0 }, (v.0, i.1, (u.0, u.1, (z.0, a.1, to symbol.CloseParen z.0 y.0 rest y.1 y.2))))

pub sound_instances : Sound task.Instances
sound_instances ts rest n w = was_more IsInstantiation task.Instance task.Instances (λ a b x. x) (λ a b x. x) ts rest w

-- ---- items

-- an item that no `else` could belong to
unmarked : (i : WrittenItem) → takes_attributes i ≡ true → ends_open i ≡ false → (ts rest : List Terminal) → IsUnmarked i ts rest → Means task.MarkedItem ts rest
unmarked i t e ts rest w = (i, (t, ([], (ts, refl, w)), λ o. absurd (no_true (ends_open i) e o)))

plain : (i : ModuleItem) → item_ends_open i ≡ false → (ts rest : List Terminal) → IsItem i ts rest → Means task.MarkedItem ts rest
plain i e ts rest w = unmarked (Plain i) refl e ts rest w

ports_by : (d : Direction) (a : Terminal) (ts rest : List Terminal) → a.symbol ≡ direction_symbol d
    → AllMean (task.PortKind ∷ task.Sign ∷ task.Range ∷ task.Name ∷ task.Names ∷ task.Expect symbol.Semicolon ∷ []) ts rest → Means task.MarkedItem (a ∷ ts) rest
ports_by d a ts rest e w =
    let w2 = w.2 in
    let w3 = w2.2 in
    let w4 = w3.2 in
    let w5 = w4.2 in
    let w6 = w5.2 in
    let k = w.1 in
    let s = w2.1 in
    let b = w3.1 in
    let i = w4.1 in
    let is = w5.1 in
    plain (Ports (record { at = a.at; direction = d; kind = k.0; signed = s.0; bounds = b.0 }) (i.0 ∷ is.0)) refl (a ∷ ts) rest
    (w3.0, (ts, (a, refl, (e, refl)), (w.0, k.1, (w2.0, s.1, b.1))), (w5.0, (w4.0, i.1, is.1), to symbol.Semicolon w5.0 w6.0 rest w6.1 w6.2))

parameters_by : (k : ParameterKind) (a : Terminal) (ts rest : List Terminal) → a.symbol ≡ parameter_symbol k
    → AllMean (task.Range ∷ task.Setting ∷ task.Settings ∷ task.Expect symbol.Semicolon ∷ []) ts rest → Means task.MarkedItem (a ∷ ts) rest
parameters_by k a ts rest e w =
    let w2 = w.2 in
    let w3 = w2.2 in
    let w4 = w3.2 in
    let b = w.1 in
    let i = w2.1 in
    let is = w3.1 in
    plain (Parameters a.at k b.0 (i.0 ∷ is.0)) refl (a ∷ ts) rest
    (ts, (a, refl, (e, refl)), (w.0, b.1, (w3.0, (w2.0, i.1, is.1), to symbol.Semicolon w3.0 w4.0 rest w4.1 w4.2)))

-- gates of a kind, by whether it has one input
primitives_by : (k : GateKind) (b : Bool) → has_one_input k ≡ b → (a : Terminal) (ts m1 m2 m3 m4 rest : List Terminal) → a.symbol ≡ gate_symbol k → Means task.GateDelay ts m1 → Any (IsGateOf b) m1 m2 → Any (AreMore (IsGateOf b)) m2 m3
    → IsA symbol.Semicolon m3 m4 → m4 ≡ rest → Means task.MarkedItem (a ∷ ts) rest
primitives_by k b h a ts m1 m2 m3 m4 rest e p g gs s f =
    let listed = subst (λ x. AreListed (IsGateOf x) (g.0 ∷ gs.0) m1 m3) (sym h) (m2, g.1, gs.1) in
    unmarked (Primitives a.at k p.0 (g.0 ∷ gs.0)) refl refl (a ∷ ts) rest (ts, (a, refl, (e, refl)), (m1, p.1, (m3, listed, to symbol.Semicolon m3 m4 rest s f)))

many_by : (k : GateKind) → has_one_input k ≡ false → (a : Terminal) (ts rest : List Terminal) → a.symbol ≡ gate_symbol k → AllMean (task.GateDelay ∷ task.Gate ∷ task.Gates ∷ task.Expect symbol.Semicolon ∷ []) ts rest
    → Means task.MarkedItem (a ∷ ts) rest
many_by k h a ts rest e w =
    let w2 = w.2 in
    let w3 = w2.2 in
    let w4 = w3.2 in
    primitives_by k false h a ts w.0 w2.0 w3.0 w4.0 rest e w.1 w2.1 w3.1 w4.1 w4.2

buffers_by : (k : GateKind) → has_one_input k ≡ true → (a : Terminal) (ts rest : List Terminal) → a.symbol ≡ gate_symbol k → AllMean (task.GateDelay ∷ task.Buffer ∷ task.Buffers ∷ task.Expect symbol.Semicolon ∷ []) ts rest
    → Means task.MarkedItem (a ∷ ts) rest
buffers_by k h a ts rest e w =
    let w2 = w.2 in
    let w3 = w2.2 in
    let w4 = w3.2 in
    primitives_by k true h a ts w.0 w2.0 w3.0 w4.0 rest e w.1 w2.1 w3.1 w4.1 w4.2

marked_item_at : SoundAt task.MarkedItem
marked_item_at a ts rest symbol.OpenAttribute e n w =
    let v = w.2 in
    let u = v.2 in
    let z = u.2 in
    let x = w.1 in
    let xs = v.1 in
    let i = subst (λ r. Means task.MarkedItem u.0 r) z.2 z.1 in
    let g = i.1 in
    let m = g.1 in
    let y = m.1 in
    (i.0, (g.0, ((x.0 ∷ xs.0) ∷ m.0, (y.0, (u.0, (ts, (a, refl, e), (v.0, (w.0, x.1, xs.1), u.1)), y.1), y.2)), g.2))
marked_item_at a ts rest symbol.Input e n w = ports_by direction.Input a ts rest e w
marked_item_at a ts rest symbol.Output e n w = ports_by direction.Output a ts rest e w
marked_item_at a ts rest symbol.Wire e n w =
    let w2 = w.2 in
    let w3 = w2.2 in
    let w4 = w3.2 in
    let w5 = w4.2 in
    let s = w.1 in
    let b = w2.1 in
    let i = w3.1 in
    let is = w4.1 in
    plain (Nets a.at s.0 b.0 (i.0 ∷ is.0)) refl (a ∷ ts) rest
    (ts, (a, refl, (e, refl)), (w.0, s.1, (w2.0, b.1, (w4.0, (w3.0, i.1, is.1), to symbol.Semicolon w4.0 w5.0 rest w5.1 w5.2))))
marked_item_at a ts rest symbol.Reg e n w =
    let w2 = w.2 in
    let w3 = w2.2 in
    let w4 = w3.2 in
    let w5 = w4.2 in
    let s = w.1 in
    let b = w2.1 in
    let i = w3.1 in
    let is = w4.1 in
    plain (Variables a.at s.0 b.0 (i.0 ∷ is.0)) refl (a ∷ ts) rest
    (ts, (a, refl, (e, refl)), (w.0, s.1, (w2.0, b.1, (w4.0, (w3.0, i.1, is.1), to symbol.Semicolon w4.0 w5.0 rest w5.1 w5.2))))
marked_item_at a ts rest symbol.Integer e n w =
    let v = w.2 in
    let u = v.2 in
    let i = w.1 in
    let is = v.1 in
    plain (Integers a.at (i.0 ∷ is.0)) refl (a ∷ ts) rest (ts, (a, refl, (e, refl)), (v.0, (w.0, i.1, is.1), to symbol.Semicolon v.0 u.0 rest u.1 u.2))
marked_item_at a ts rest symbol.Parameter e n w = parameters_by parameter.Parameter a ts rest e w
marked_item_at a ts rest symbol.Localparam e n w = parameters_by parameter.Local a ts rest e w
marked_item_at a ts rest symbol.Assign e n w =
    let w2 = w.2 in
    let w3 = w2.2 in
    let w4 = w3.2 in
    let p = w.1 in
    let i = w2.1 in
    let is = w3.1 in
    plain (Drives a.at p.0 (i.0 ∷ is.0)) refl (a ∷ ts) rest (ts, (a, refl, (e, refl)), (w.0, p.1, (w3.0, (w2.0, i.1, is.1), to symbol.Semicolon w3.0 w4.0 rest w4.1 w4.2)))
marked_item_at a ts rest symbol.Always e n w =
    let v = w.2 in
    let s = v.1 in
    let u = v.2 in
    let b = subst (λ x. Means task.Statement v.0 x) u.2 u.1 in
    let st = b.1 in
    (Plain (Always a.at s.0 b.0), (refl, ([], (a ∷ ts, refl, (ts, (a, refl, (e, refl)), (w.0, w.1, (v.0, s.1, st.0))))), st.1))
marked_item_at a ts rest symbol.Name e n w =
    let w2 = w.2 in
    let w3 = w2.2 in
    let w4 = w3.2 in
    let o = w.1 in
    let i = w2.1 in
    let is = w3.1 in
    plain (Instances (identifier_of a) o.0 (i.0 ∷ is.0)) refl (a ∷ ts) rest
    (ts, (a, refl, (e, refl)), (w.0, o.1, (w3.0, (w2.0, i.1, is.1), to symbol.Semicolon w3.0 w4.0 rest w4.1 w4.2)))
marked_item_at a ts rest symbol.And e n w = many_by kind.And refl a ts rest e w
marked_item_at a ts rest symbol.Nand e n w = many_by kind.Nand refl a ts rest e w
marked_item_at a ts rest symbol.Or e n w = many_by kind.Or refl a ts rest e w
marked_item_at a ts rest symbol.Nor e n w = many_by kind.Nor refl a ts rest e w
marked_item_at a ts rest symbol.Xor e n w = many_by kind.Xor refl a ts rest e w
marked_item_at a ts rest symbol.Xnor e n w = many_by kind.Xnor refl a ts rest e w
marked_item_at a ts rest symbol.Buf e n w = buffers_by kind.Buf refl a ts rest e w
marked_item_at a ts rest symbol.Not e n w = buffers_by kind.Not refl a ts rest e w
marked_item_at a ts rest symbol.Genvar e n w =
    let v = w.2 in
    let u = v.2 in
    let i = w.1 in
    let is = v.1 in
    unmarked (Genvars a.at (i.0 ∷ is.0)) refl refl (a ∷ ts) rest (ts, (a, refl, (e, refl)), (v.0, (w.0, i.1, is.1), to symbol.Semicolon v.0 u.0 rest u.1 u.2))
marked_item_at a ts rest symbol.Generate e n w =
    let v = w.2 in
    let is = w.1 in
    unmarked (Region a.at is.0) refl refl (a ∷ ts) rest (ts, (a, refl, (e, refl)), (w.0, is.1, to symbol.Endgenerate w.0 v.0 rest v.1 (finished v.0 rest v.2)))
marked_item_at a ts rest other e n w = absurd w

pub sound_marked_item : Sound task.MarkedItem
sound_marked_item = sound_by task.MarkedItem marked_item_at (λ rest w. absurd w)

pub sound_items : Sound task.Items
sound_items ts rest n w = by_choice (was_unless symbol.Endmodule (task.Item ∷ task.Items ∷ []) ts rest w)
  where
    by_choice : (ts ≡ rest) ⊎ AllMean (task.Item ∷ task.Items ∷ []) ts rest → Means task.Items ts rest
    by_choice (inl e) = ([], e)
    by_choice (inr v) =
        let i = v.1 in
        let u = v.2 in
        let is = ends_at (AreAll IsWritten) v.0 u.0 rest u.1 u.2 in
        (i.0 ∷ is.0, (v.0, i.1.0, is.1))

-- ---- heads of modules

headed : (a : Terminal) (ts rest : List Terminal) → a.symbol ≡ symbol.Parameter → AllMean (task.Range ∷ task.Setting ∷ []) ts rest → Any (λ p ts rest. IsParameter p ts rest × IsThere p.heading) (a ∷ ts) rest
headed a ts rest e w =
    let b = w.1 in
    let v = w.2 in
    let s = subst (λ x. Means task.Setting w.0 x) v.2 v.1 in
    let p : HeaderParameter = record { heading = Some (record { at = a.at; bounds = b.0 }); name = s.0.name; value = s.0.value } in
    (p, ((w.0, (ts, (a, refl, (e, refl)), b.1), s.1), tt))

pub sound_first_parameter : Sound task.FirstParameter
sound_first_parameter ts rest n w =
    let v = was_required symbol.Parameter (task.Range ∷ task.Setting ∷ []) ts rest w in
    let x = v.1 in
    subst (λ y. Means task.FirstParameter y rest) (sym x.1) (headed x.0 v.0 rest x.2 v.2)

headless : (ts rest : List Terminal) → AllMean (task.Setting ∷ []) ts rest → Any IsParameter ts rest
headless ts rest w =
    let s = subst (λ x. Means task.Setting ts x) w.2 w.1 in
    (record { heading = None; name = s.0.name; value = s.0.value }, (ts, refl, s.1))

parameter_at : SoundAt task.HeadParameter
parameter_at a ts rest symbol.Parameter e n w =
    let p = headed a ts rest e w in
    let v = p.1 in
    (p.0, v.0)
parameter_at a ts rest other e n w = headless (a ∷ ts) rest w

pub sound_parameter : Sound task.HeadParameter
sound_parameter = sound_by task.HeadParameter parameter_at (λ rest w. headless [] rest w)

pub sound_head_parameters : Sound task.HeadParameters
sound_head_parameters ts rest n w = was_more IsParameter task.HeadParameter task.HeadParameters (λ a b x. x) (λ a b x. x) ts rest w

pub sound_parameters : Sound task.Parameters
sound_parameters ts rest n w = by_option (was_optional symbol.Hash (task.Expect symbol.OpenParen ∷ task.FirstParameter ∷ task.HeadParameters ∷ task.Expect symbol.CloseParen ∷ []) ts rest w)
  where
    by_option : ((mid : List Terminal) × IsA symbol.Hash ts mid × AllMean (task.Expect symbol.OpenParen ∷ task.FirstParameter ∷ task.HeadParameters ∷ task.Expect symbol.CloseParen ∷ []) mid rest) ⊎ ((ts ≡ rest) × Not symbol.Hash ts)
        → Means task.Parameters ts rest
    by_option (inr v) = ([], v.0)
    by_option (inl v) =
        let u = v.2 in
        let z = u.2 in
        let p = z.1 in
        let q = p.1 in
        let y = z.2 in
        let ps = y.1 in
        let x = y.2 in
        (p.0 ∷ ps.0, (q.1, (v.0, v.1, (u.0, u.1, (z.0, q.0, (y.0, ps.1, to symbol.CloseParen y.0 x.0 rest x.1 x.2))))))

directed : (d : Direction) (a : Terminal) (ts rest : List Terminal) → a.symbol ≡ direction_symbol d → AllMean (task.PortKind ∷ task.Sign ∷ task.Range ∷ task.Name ∷ []) ts rest → Any IsPort (a ∷ ts) rest
directed d a ts rest e w =
    let w2 = w.2 in
    let w3 = w2.2 in
    let w4 = w3.2 in
    let k = w.1 in
    let s = w2.1 in
    let b = w3.1 in
    let i = ends_at IsName w3.0 w4.0 rest w4.1 w4.2 in
    (record { head = Some (record { at = a.at; direction = d; kind = k.0; signed = s.0; bounds = b.0 }); name = i.0 }, (w3.0, (ts, (a, refl, (e, refl)), (w.0, k.1, (w2.0, s.1, b.1))), i.1))

undirected : (ts rest : List Terminal) → AllMean (task.Name ∷ []) ts rest → Any IsPort ts rest
undirected ts rest w =
    let i = ends_at IsName ts w.0 rest w.1 w.2 in
    (record { head = None; name = i.0 }, (ts, refl, i.1))

port_at : SoundAt task.Port
port_at a ts rest symbol.Input e n w = directed direction.Input a ts rest e w
port_at a ts rest symbol.Output e n w = directed direction.Output a ts rest e w
port_at a ts rest other e n w = undirected (a ∷ ts) rest w

pub sound_port : Sound task.Port
sound_port = sound_by task.Port port_at (λ rest w. undirected [] rest w)

pub sound_head_ports : Sound task.HeadPorts
sound_head_ports ts rest n w = was_more IsPort task.Port task.HeadPorts (λ a b x. x) (λ a b x. x) ts rest w

directed_name : (d : Direction) → Some (direction_symbol d) ≡ Some symbol.Name → ⊥
directed_name direction.Input e = cc
directed_name direction.Output e = cc

there : (h : Option Head) (i : Identifier) (d : Direction) (a : Terminal) (ts mid : List Terminal) → a.symbol ≡ direction_symbol d → (IsOptional IsHead h ⨾ IsName i) (a ∷ ts) mid → IsThere h
there (Some h) i d a ts mid e w = tt
there None i d a ts mid e w =
    let v = w.2 in
    absurd (directed_name d (ap (λ s. Some s) (sym e) ∙ ap symbol_at w.1 ∙ head symbol.Name w.0 mid (v.0, v.1, v.2.0)))

declared : (d : Direction) (a : Terminal) (ts rest : List Terminal) → a.symbol ≡ direction_symbol d → AllMean (task.Port ∷ task.HeadPorts ∷ task.Expect symbol.CloseParen ∷ []) (a ∷ ts) rest → Means task.PortList (a ∷ ts) rest
declared d a ts rest e w begun o =
    let p = w.1 in
    let v = w.2 in
    let ps = v.1 in
    let u = v.2 in
    (Declared (p.0 ∷ ps.0), (there p.0.head p.0.name d a ts w.0 e p.1, (a ∷ ts, o, (w.0, p.1, (v.0, ps.1, to symbol.CloseParen v.0 u.0 rest u.1 u.2)))))

names_only : (ts rest : List Terminal) → AllMean (task.Name ∷ task.Names ∷ task.Expect symbol.CloseParen ∷ []) ts rest → Means task.PortList ts rest
names_only ts rest w begun o =
    let i = w.1 in
    let v = w.2 in
    let is = v.1 in
    let u = v.2 in
    (Named (i.0 ∷ is.0), (ts, o, (v.0, (w.0, i.1, is.1), to symbol.CloseParen v.0 u.0 rest u.1 u.2)))

port_list_at : SoundAt task.PortList
port_list_at a ts rest symbol.CloseParen e n w = λ begun o. (Empty, (a ∷ ts, o, (a, ap (λ x. a ∷ x) w, e)))
port_list_at a ts rest symbol.Input e n w = declared direction.Input a ts rest e w
port_list_at a ts rest symbol.Output e n w = declared direction.Output a ts rest e w
port_list_at a ts rest other e n w = names_only (a ∷ ts) rest w

pub sound_port_list : Sound task.PortList
sound_port_list = sound_by task.PortList port_list_at (λ rest w. names_only [] rest w)

pub sound_ports : Sound task.Ports
sound_ports ts rest n w = by_option (was_optional symbol.OpenParen (task.PortList ∷ []) ts rest w)
  where
    by_option : ((mid : List Terminal) × IsA symbol.OpenParen ts mid × AllMean (task.PortList ∷ []) mid rest) ⊎ ((ts ≡ rest) × Not symbol.OpenParen ts) → Means task.Ports ts rest
    by_option (inr v) = (Absent, v.0)
    by_option (inl v) =
        let u = v.2 in
        let h = u.1 ts v.1 in
        (h.0, subst (λ x. IsHeader h.0 ts x) u.2 h.1)

-- ---- modules

module_at : SoundAt task.Module
module_at a ts rest symbol.OpenAttribute e n w =
    λ regions.
    let v = w.2 in
    let u = v.2 in
    let z = u.2 in
    let x = w.1 in
    let xs = v.1 in
    let c = z.1 regions in
    let m = subst (λ y. IsMarkedCircuit regions c.0 u.0 y) z.2 c.1 in
    let y = m.1 in
    (c.0, ((x.0 ∷ xs.0) ∷ m.0, (y.0, (u.0, (ts, (a, refl, e), (v.0, (w.0, x.1, xs.1), u.1)), y.1), y.2)))
module_at a ts rest symbol.Module e n w =
    λ regions.
    let w2 = w.2 in
    let w3 = w2.2 in
    let w4 = w3.2 in
    let w5 = w4.2 in
    let w6 = w5.2 in
    let i = w.1 in
    let ps = w2.1 in
    let h = w3.1 in
    let is = w5.1 in
    let last = to symbol.Endmodule w5.0 w6.0 rest w6.1 w6.2 in
    let c : WrittenCircuit = record { at = a.at; name = i.0; parameters = ps.0; header = h.0; items = is.0; dropped = filter (is_between a.at last.0.at) regions } in (
      c,
      (
        [],
        (
          a ∷ ts,
          refl,
          (last.0.at, refl, (ts, (a, refl, (e, refl)), (w.0, i.1, (w2.0, ps.1, (w3.0, h.1, (w4.0, w4.1, (w5.0, is.1, (last.0, last.1, (last.2, refl))))))))),
        ),
      ),
    )
module_at a ts rest other e n w = absurd w

pub sound_module : Sound task.Module
sound_module = sound_by task.Module module_at (λ rest w. absurd w)

pub sound_source : Sound task.Source
sound_source [] rest n w = λ regions. ([], w)
sound_source (a ∷ ts) rest n w =
    λ regions.
    let c = w.1 regions in
    let v = w.2 in
    let cs = v.1 regions in
    (c.0 ∷ cs.0, (w.0, c.1, subst (λ x. AreCircuits regions cs.0 w.0 x) v.2 cs.1))
