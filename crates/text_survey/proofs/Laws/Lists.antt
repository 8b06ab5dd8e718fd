-- What is spelled is gone through: lists, attributes, delays and targets.
use Rattle.std.proofs.Common.{◌≡◌, ◌<◌, inl, inr, List, [], ◌∷◌, Option, Some, None, refl, sym, ap, subst, arith}
use Rattle.rtl_tree.specs.declared.symbol.Symbol.{Symbol}
use Rattle.rtl_tree.specs.declared.symbol.Symbol.TheVariants as symbol
use Rattle.rtl_tree.specs.Symbols.{Terminal}
use Rattle.rtl_tree.specs.TreeExpr.{Identifier}
use Rattle.rtl_tree.specs.TreeStmt.{Target, Whole, Bit, Part, Joined, Targets, no_targets, more_targets, Span, Fixed, Named, Valued, Pause}
use Rattle.text_grammar.specs.Grammar.{Spelling, ◌⨾◌, IsA, IsOptional, AreMore, AreListed}
use Rattle.text_grammar.specs.GrammarStmt.{IsAttributeValue, IsAttribute, AreAttributes, IsTarget, AreTargets, AreMoreTargets, IsSpan, IsPause}
use Rattle.text_survey.specs.declared.task.Task.{Task}
use Rattle.text_survey.specs.declared.task.Task.TheVariants as task
use Rattle.text_survey.specs.declared.task.Taking.TheVariants as taking
use Rattle.text_survey.specs.Table.{go, optional, same_symbol, looseness}
use Rattle.text_survey.specs.Rule.{rule}
use Rattle.text_survey.specs.Machine.{symbol_at}
use Rattle.text_survey.specs.Depths.{Nest, Depths, wrapped, joined, forgotten, behind_place, counted, place}
use Rattle.text_survey.proofs.Laws.Counts.{Runs, Does, ◌▸◌, ◌▹◌, same, grow, told, nothing, stay, look, token, node}
use Rattle.text_survey.proofs.Laws.Nests.{skip, all_beside, spanned, paused, nest_targets, beside_target}
use Rattle.text_survey.proofs.Laws.Operands.{no_select}
use Rattle.text_survey.proofs.Laws.Expressions.{wrap, join, expect, ends, Not, apart, left_out, bit, part, name_at, expression_runs}
use Rattle.text_survey.proofs.Laws.Starts.{Closes, closes_by, formula_opens, closes_ends, closes_equals, opens_constant}

-- ---- lists

-- each part of a list is gone through where it closes
abbrev pub Each : {A : Type 0} → (A → Spelling) → Task → (A → Nest → Nest) → Type 0
Each {A} p one g = (x : A) (ts rest : List Terminal) → p x ts rest → Closes rest → Does one ts rest (grow (g x))

-- further ones
abbrev pub Many : Task → Task → Type 0
Many one many = ((o : Option Symbol) → rule many o ≡ optional symbol.Comma o (one ∷ many ∷ [])) × ((d : Depths) → counted many d ≡ d)

many_token : (one many : Task) → Many one many → rule many (Some symbol.Comma) ≡ go taking.Token (one ∷ many ∷ [])
unfolding same_symbol
many_token one many m = m.0 (Some symbol.Comma)

more_closes : {A : Type 0} (p : A → Spelling) (xs : List A) (ts rest : List Terminal) → AreMore p xs ts rest → Closes rest → Closes ts
more_closes p [] ts rest w c = subst (λ x. Closes x) (sym w) c
more_closes p (x ∷ xs) ts rest w c = closes_by symbol.Comma ts w.0 refl w.1

pub more_run : {A : Type 0} (p : A → Spelling) (one many : Task) (g : A → Nest → Nest) → Many one many → Each p one g → (xs : List A) (ts rest : List Terminal) → AreMore p xs ts rest → Closes rest → Not symbol.Comma rest
    → Does many ts rest (grow (all_beside g xs))
more_run p one many g m each [] ts rest w c n =
    subst (λ x. Does many x rest same) (sym w) (left_out many symbol.Comma (one ∷ many ∷ []) rest m.0 m.1 n)
more_run p one many g m each (x ∷ xs) ts rest w c n =
    let v = w.2 in
    told (λ d. grow (all_beside g xs) (grow (g x) (counted many d))) (grow (all_beside g (x ∷ xs))) (λ d. ap (λ z. grow (all_beside g xs) (grow (g x) z)) (m.1 d))
    (token symbol.Comma (many_token one many m) w.1 (
    each x w.0 v.0 v.1 (more_closes p xs v.0 rest v.2 c) ▸ more_run p one many g m each xs v.0 rest v.2 c n ▸ nothing rest))

pub listed_run : {A : Type 0} (p : A → Spelling) (one many : Task) (g : A → Nest → Nest) → Many one many → Each p one g → (xs : List A) (ts rest : List Terminal) → AreListed p xs ts rest → Closes rest → Not symbol.Comma rest
    → Runs (one ∷ many ∷ []) ts rest (grow (all_beside g xs))
listed_run p one many g m each [] ts rest w c n = absurd w
listed_run p one many g m each (x ∷ xs) ts rest w c n =
    each x ts w.0 w.1 (more_closes p xs w.0 rest w.2 c) ▸ more_run p one many g m each xs w.0 rest w.2 c n ▸ nothing rest

-- a list up to its semicolon
pub ended : {A : Type 0} (p : A → Spelling) (one many : Task) (g : A → Nest → Nest) → Many one many → Each p one g → (xs : List A) (ts rest : List Terminal) → (AreListed p xs ⨾ IsA symbol.Semicolon) ts rest
    → Runs (one ∷ many ∷ task.Expect symbol.Semicolon ∷ []) ts rest (grow (all_beside g xs))
unfolding same_symbol
ended p one many g m each xs ts rest w =
    listed_run p one many g m each xs ts w.0 w.1 (closes_by symbol.Semicolon w.0 rest refl w.2) (apart symbol.Semicolon symbol.Comma w.0 rest refl w.2)
    ▹ expect symbol.Semicolon w.0 rest w.2 ▸ nothing rest

-- ---- attributes

pub forget : (ts : List Terminal) → Does task.Forget ts ts (λ d. forgotten (behind_place d.places) d.top d.under)
forget ts = stay refl (nothing ts)

constant_runs : (ts rest : List Terminal) → IsAttributeValue ts rest → Closes rest → Does task.AttributeConstant ts rest same
constant_runs ts rest (inl w) c =
    look (place ts) refl (opens_constant (symbol_at ts) (formula_opens w.0 12 ts rest w.1)) (
    expression_runs w.0 ts rest w.1 (closes_ends (symbol_at rest) c) ▸ forget rest ▸ nothing rest)
constant_runs ts rest (inr w) c = token symbol.Quoted refl w (nothing rest)

attribute_runs : Each IsAttribute task.Attribute skip
unfolding same_symbol
attribute_runs name ts rest (inl w) c =
    token symbol.Name refl (w.0, w.1, w.2.0) (
    left_out task.AttributeValue symbol.Equals (task.AttributeConstant ∷ []) rest (λ o. refl) (λ d. refl) (closes_equals (symbol_at rest) c) ▸ nothing rest)
attribute_runs name ts rest (inr w) c =
    let v = w.2 in
    token symbol.Name refl (w.1.0, w.1.1, w.1.2.0) (
    token symbol.Equals refl v.1 (constant_runs v.0 rest v.2 c ▸ nothing rest) ▸ nothing rest)

none_beside : {A : Type 0} (xs : List A) (before : Nest) → all_beside skip xs before ≡ before
none_beside [] before = refl
none_beside (x ∷ xs) before = none_beside xs before

attributes_run : (names : List Identifier) (ts rest : List Terminal) → AreListed IsAttribute names ts rest → Closes rest → Not symbol.Comma rest → Runs (task.Attribute ∷ task.Attributes ∷ []) ts rest same
attributes_run names ts rest w c n =
    told (grow (all_beside skip names)) same (λ d. ap (λ z. record { places = d.places; top = z; under = d.under }) (none_beside names d.top))
    (listed_run IsAttribute task.Attribute task.Attributes skip ((λ o. refl), (λ d. refl)) attribute_runs names ts rest w c n)

-- a task before which attributes may stand
abbrev pub Takes : Task → Type 0
Takes t = rule t (Some symbol.OpenAttribute) ≡ go taking.Token (task.Attribute ∷ task.Attributes ∷ task.Expect symbol.CloseAttribute ∷ t ∷ [])

pub marked_run : (t : Task) → Takes t → (attributes : List (List Identifier)) (ts mid rest : List Terminal) → AreAttributes attributes ts mid → (f : Depths → Depths) → ((d : Depths) → counted t d ≡ d) → Does t mid rest f → Does t ts rest f
unfolding same_symbol
marked_run t e [] ts mid rest w f k v = subst (λ x. Does t x rest f) (sym w) v
marked_run t e (names ∷ others) ts mid rest w f k v =
    let a = w.1 in
    let b = a.2 in
    told (λ d. f (counted t d)) f (λ d. ap f (k d))
    (token symbol.OpenAttribute e a.1 (
    attributes_run names a.0 b.0 b.1
    (closes_by symbol.CloseAttribute b.0 w.0 refl b.2) (apart symbol.CloseAttribute symbol.Comma b.0 w.0 refl b.2)
    ▹ expect symbol.CloseAttribute b.0 w.0 b.2 ▸ marked_run t e others w.0 mid rest w.2 f k v ▸ nothing rest))

-- ---- delays

pub ticks_run : (s : Span) (ts rest : List Terminal) → IsSpan s ts rest → Does task.Ticks ts rest (grow (spanned s))
ticks_run (Fixed value) ts rest w = token symbol.Number refl (w.0, w.1, w.2.0) (nothing rest)
ticks_run (Named name) ts rest w = token symbol.Name refl (w.0, w.1, w.2.0) (nothing rest)
ticks_run (Valued value) ts rest w =
    let v = w.2 in
    token symbol.OpenParen refl w.1 (
    expression_runs value w.0 v.0 v.1 (ends symbol.CloseParen v.0 rest refl v.2) ▸ expect symbol.CloseParen v.0 rest v.2 ▸ nothing rest)

pub delay_run : (p : Option Pause) (ts rest : List Terminal) → IsOptional IsPause p ts rest → Not symbol.Hash rest → Does task.Delay ts rest (grow (paused p))
unfolding same_symbol
delay_run None ts rest w n = subst (λ x. Does task.Delay x rest same) (sym w) (left_out task.Delay symbol.Hash (task.Ticks ∷ []) rest (λ o. refl) (λ d. refl) n)
delay_run (Some p) ts rest w n = token symbol.Hash refl (w.1.0, w.1.1, w.1.2.0) (ticks_run p.span w.0 rest w.2 ▸ nothing rest)

-- ---- targets

-- a name with its select, of a target
-- what was read last, within a node and beside what was before
abbrev pub ended_node : Depths → Depths
ended_node d = wrap_join (wrapped d.places d.top d.under)
  where
    wrap_join : Depths → Depths
    wrap_join x = joined x.places x.top x.under

target_end : (ts : List Terminal) → Runs (task.Wrap ∷ task.Join ∷ []) ts ts ended_node
target_end ts = wrap ts ▸ join ts ▸ nothing ts

targets_close : (others : Targets) (ts rest : List Terminal) → AreMoreTargets others ts rest → Closes rest → Closes ts
targets_close no_targets ts rest w c = subst (λ x. Closes x) (sym w) c
targets_close (more_targets first others) ts rest w c = closes_by symbol.Comma ts w.0 refl w.1

closed_select : (ts : List Terminal) → Closes ts → 0 < looseness (symbol_at ts)
closed_select ts c = omega (arith, closes_ends (symbol_at ts) c)

mutual
  unfolding same_symbol

  pub target_run : (t : Target) (ts rest : List Terminal) → IsTarget t ts rest → 0 < looseness (symbol_at rest) → Does task.Target ts rest (grow (beside_target t))
  target_run (Whole name) ts rest w h =
      node symbol.Name name.at refl (name_at name ts rest w) (stay (no_select (symbol_at rest) h) (nothing rest) ▸ target_end rest)
  target_run (Bit name index) ts rest w h =
      node symbol.Name name.at refl (name_at name ts w.0 w.1) (bit w.0 rest index (expression_runs index) w.2 ▸ target_end rest)
  target_run (Part name kind msb lsb) ts rest w h =
      node symbol.Name name.at refl (name_at name ts w.0 w.1) (part w.0 rest kind msb lsb (expression_runs msb) (expression_runs lsb) w.2 ▸ target_end rest)
  target_run (Joined at parts) ts rest w h =
      let v = w.2 in
      node symbol.OpenBrace at refl w.1 (
      targets_run parts w.0 v.0 v.1 (closes_by symbol.CloseBrace v.0 rest refl v.2) (apart symbol.CloseBrace symbol.Comma v.0 rest refl v.2)
      ▹ expect symbol.CloseBrace v.0 rest v.2 ▸ target_end rest)

  pub targets_run : (parts : Targets) (ts rest : List Terminal) → AreTargets parts ts rest → Closes rest → Not symbol.Comma rest → Runs (task.Target ∷ task.Targets ∷ []) ts rest (grow (nest_targets parts))
  targets_run no_targets ts rest w c n = absurd w
  targets_run (more_targets first others) ts rest w c n =
      target_run first ts w.0 w.1 (closed_select w.0 (targets_close others w.0 rest w.2 c)) ▸ more_targets_run others w.0 rest w.2 c n ▸ nothing rest

  pub more_targets_run : (parts : Targets) (ts rest : List Terminal) → AreMoreTargets parts ts rest → Closes rest → Not symbol.Comma rest → Does task.Targets ts rest (grow (nest_targets parts))
  more_targets_run no_targets ts rest w c n =
      subst (λ x. Does task.Targets x rest same) (sym w) (left_out task.Targets symbol.Comma (task.Target ∷ task.Targets ∷ []) rest (λ o. refl) (λ d. refl) n)
  more_targets_run (more_targets first others) ts rest w c n =
      let v = w.2 in
      token symbol.Comma refl w.1 (
      target_run first w.0 v.0 v.1 (closed_select v.0 (targets_close others v.0 rest v.2 c)) ▸ more_targets_run others v.0 rest v.2 c n ▸ nothing rest)
