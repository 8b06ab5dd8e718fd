-- Items with generate constructs among them: those that are proper are no constructs, and nothing else is told of these.
use Rattle.std.proofs.Common.{◌≡◌, ℕ, zero, suc, true, List, [], ◌∷◌, Some, refl, sym, subst}
use Rattle.rtl_tree.specs.declared.symbol.Symbol.{Symbol}
use Rattle.rtl_tree.specs.declared.symbol.Symbol.TheVariants as symbol
use Rattle.rtl_tree.specs.Symbols.{Terminal}
use Rattle.rtl_tree.specs.TreeExpr.{Formula}
use Rattle.rtl_tree.specs.TreeWritten.{WrittenItem, Plain, Primitives, Genvars, Region, If, IfElse, Case, For, GenerateBlock}
use Rattle.text_grammar.specs.Grammar.{Spelling}
use Rattle.text_grammar.specs.GrammarExpr.{IsExpression}
use Rattle.text_grammar.specs.GrammarStmt.{IsLabel}
use Rattle.text_grammar.specs.GrammarWritten.{IsUnmarked, IsWritten}
use Rattle.text_build.specs.Reading.{Parser, and_then, ◌>>◌, symbol_at, starts, after, name, until}
use Rattle.text_build.specs.ReadingExpr.{expression}
use Rattle.text_build.specs.ReadingStmt.{attributes, no_colon, step_of, label}
use Rattle.text_build.specs.ReadingGenerate.{null, single, block, made_by, made, alternative, conditional, labelled, otherwise, choice, case_of, loop_of, genvars, region, simple, marked, within_by, within, item}
use Rattle.text_build.specs.Sound.{IsPlain}
use Rattle.text_build.specs.ProperModule.{IsProperWritten}
use Rattle.text_build.proofs.Gives.{Gives, Sound, bind, weaken, either_gives, behind, behind_found, a_gives, next_gives, found_gives, name_gives, optional_gives, starts_symbol}
use Rattle.text_build.proofs.Lists.{listed_gives, until_gives}
use Rattle.text_build.proofs.Each.{If as Where}
use Rattle.text_build.proofs.Exprs.{expression_gives}
use Rattle.text_build.proofs.CertainTargets.{no_attributes}
use Rattle.text_build.proofs.Stmts.{default_by}
use Rattle.text_build.proofs.Items.{written_gives}

-- nothing is told of what was read, but that no attributes are left
abbrev Any : {A : Type 0} → A → Spelling
Any x ts rest = Unit {0}

-- an item after no attributes, if it is proper
abbrev IsAlone : WrittenItem → Spelling
IsAlone = Where IsProperWritten IsUnmarked

-- an item, if it is proper
abbrev pub IsItemIf : WrittenItem → Spelling
IsItemIf = Where IsProperWritten IsWritten

module _ (i : Parser WrittenItem) (c : Sound i Any) where
  made_from : (s : Symbol) (ts : List Terminal) → IsPlain ts → symbol_at ts ≡ Some s → Gives (made_by (Some s) i ts) (λ b rest. Any b ts rest × IsPlain rest)
  unfolding null block single label
  made_from symbol.Semicolon ts pl h = bind (next_gives symbol.Semicolon ts pl h) (λ at m w. record { given = (tt, w.1) })
  made_from symbol.Begin ts pl h =
      bind (next_gives symbol.Begin ts pl h)
      (λ at m w. bind (optional_gives {S = IsLabel} symbol.Colon label m w.1 (λ k. behind_found symbol.Colon name name_gives m w.1 (starts_symbol symbol.Colon m k)))
      (λ l m1 v. bind (until_gives i Any c symbol.End m1 v.1)
      (λ all m2 u. bind (a_gives symbol.End m2 u.1) (λ x m3 z. record { given = (tt, z.1) }))))
  made_from s ts pl h = bind (c ts pl) (λ x m w. record { given = (tt, w.1) })

  made_gives : Sound (made i) Any
  unfolding made single
  made_gives [] pl = bind (c [] pl) (λ x m w. record { given = (tt, w.1) })
  made_gives (t ∷ ts) pl = made_from t.symbol (t ∷ ts) pl refl

  region_gives : (ts : List Terminal) → IsPlain ts → starts symbol.Generate ts ≡ true → Gives (region i ts) (λ x rest. IsAlone x ts rest × IsPlain rest)
  unfolding region
  region_gives ts pl h =
      bind (found_gives symbol.Generate ts pl h)
      (λ at m w. bind (until_gives i Any c symbol.Endgenerate m w.1)
      (λ all m1 v. bind (a_gives symbol.Endgenerate m1 v.1) (λ x m2 u. record { given = (λ p. absurd p, u.1) })))

module _ (e : Parser Formula) (ce : Sound e IsExpression) (b : Parser GenerateBlock) (cb : Sound b Any) where
  conditional_gives : (ts : List Terminal) → IsPlain ts → symbol_at ts ≡ Some symbol.If → Gives (conditional e b ts) (λ x rest. IsItemIf x ts rest × IsPlain rest)
  unfolding conditional alternative
  conditional_gives ts pl h =
      bind (next_gives symbol.If ts pl h)
      (λ at m w. bind (behind symbol.OpenParen e ce m w.1)
      (λ condition m1 v. bind (behind symbol.CloseParen b cb m1 v.1)
      (λ taken m2 u. either_gives _ _ _ m2
      (λ k. bind (behind_found symbol.Else b cb m2 u.1 (starts_symbol symbol.Else m2 k)) (λ other m3 z. record { given = (λ p. absurd p, z.1) }))
      (λ k. record { given = (λ p. absurd p, u.1) }))))

  choice_gives : Sound (choice e b) Any
  unfolding choice otherwise labelled no_colon
  choice_gives ts pl =
      either_gives _ _ _ ts
      (λ h. bind (found_gives symbol.Default ts pl h)
      (λ at m w. bind (cb (after symbol.Colon m) (default_by m w.1 (starts symbol.Colon m) refl).1) (λ body m1 v. record { given = (tt, v.1) })))
      (λ h. bind (listed_gives e ce ts pl) (λ labels m w. bind (behind symbol.Colon b cb m w.1) (λ body m1 v. record { given = (tt, v.1) })))

  case_gives : (ts : List Terminal) → IsPlain ts → symbol_at ts ≡ Some symbol.Case → Gives (case_of e b ts) (λ x rest. IsItemIf x ts rest × IsPlain rest)
  unfolding case_of
  case_gives ts pl h =
      bind (next_gives symbol.Case ts pl h)
      (λ at m w. bind (behind symbol.OpenParen e ce m w.1)
      (λ selector m1 v. bind (behind symbol.CloseParen (until symbol.Endcase (choice e b)) (until_gives (choice e b) Any choice_gives symbol.Endcase) m1 v.1)
      (λ all m2 u. bind (a_gives symbol.Endcase m2 u.1) (λ x m3 z. record { given = (λ p. absurd p, z.1) }))))

  step_gives : Sound (step_of e) Any
  unfolding step_of
  step_gives ts pl = bind (name_gives ts pl) (λ n m w. bind (behind symbol.Equals e ce m w.1) (λ x m1 v. record { given = (tt, v.1) }))

  loop_gives : (ts : List Terminal) → IsPlain ts → symbol_at ts ≡ Some symbol.For → Gives (loop_of e b ts) (λ x rest. IsItemIf x ts rest × IsPlain rest)
  unfolding loop_of
  loop_gives ts pl h =
      bind (next_gives symbol.For ts pl h)
      (λ at m w. bind (behind symbol.OpenParen (step_of e) step_gives m w.1)
      (λ first m1 v. bind (behind symbol.Semicolon e ce m1 v.1)
      (λ condition m2 u. bind (behind symbol.Semicolon (step_of e) step_gives m2 u.1)
      (λ next m3 z. bind (behind symbol.CloseParen b cb m3 z.1) (λ body m4 y. record { given = (λ p. absurd p, y.1) })))))

-- ---- items

simple_gives : (d : ℕ) → Sound (simple d) IsAlone
unfolding simple genvars
simple_gives d ts pl =
    either_gives _ _ _ ts
    (λ h. bind (found_gives symbol.Genvar ts pl h)
    (λ at m w. bind (listed_gives name name_gives m w.1) (λ names m1 v. bind (a_gives symbol.Semicolon m1 v.1) (λ x m2 u. record { given = (λ p. (m, w.0, (m1, v.0, u.0)), u.1) }))))
    (λ h. written_gives d ts pl)

-- what is proper may have attributes
as_written : (x : WrittenItem) (ts rest : List Terminal) → IsProperWritten x → IsUnmarked x ts rest → IsWritten x ts rest
as_written (Plain i) ts rest p w = ([], (ts, refl, w))
as_written (Primitives at kind pause gates) ts rest p w = ([], (ts, refl, w))
as_written (Genvars at names) ts rest p w = ([], (ts, refl, w))
as_written (Region at items) ts rest p w = absurd p
as_written (If at condition taken) ts rest p w = absurd p
as_written (IfElse at condition taken otherwise) ts rest p w = absurd p
as_written (Case at selector all) ts rest p w = absurd p
as_written (For at index start condition stepped step body) ts rest p w = absurd p

-- there are no attributes
marks_give : (p : Parser WrittenItem) → Sound p IsAlone → Sound (attributes >> p) IsItemIf
marks_give p c ts pl =
    subst (λ o. Gives (and_then o (λ marks. p)) (λ x rest. IsItemIf x ts rest × IsPlain rest)) (sym (no_attributes ts pl))
    (weaken (c ts pl) (λ x rest w. (λ q. as_written x ts rest q (w.0 q), w.1)))

module _ (d k : ℕ) (i : Parser WrittenItem) (c : Sound i Any) where
  marked_gives : Sound (marked (simple d) i) IsItemIf
  unfolding marked
  marked_gives ts pl = marks_give _ (λ us q. either_gives _ _ _ us (λ h. region_gives i c us q h) (λ h. simple_gives d us q)) ts pl

  within_from : (s : Symbol) (ts : List Terminal) → IsPlain ts → symbol_at ts ≡ Some s → Gives (within_by (Some s) (simple d) (expression k) i ts) (λ x rest. IsItemIf x ts rest × IsPlain rest)
  within_from symbol.If ts pl h = conditional_gives (expression k) (expression_gives k) (made i) (made_gives i c) ts pl h
  within_from symbol.Case ts pl h = case_gives (expression k) (expression_gives k) (made i) (made_gives i c) ts pl h
  within_from symbol.For ts pl h = loop_gives (expression k) (expression_gives k) (made i) (made_gives i c) ts pl h
  within_from s ts pl h = marked_gives ts pl

  within_gives : Sound (within (simple d) (expression k) i) IsItemIf
  unfolding within
  within_gives [] pl = marked_gives [] pl
  within_gives (t ∷ ts) pl = within_from t.symbol (t ∷ ts) pl refl

-- an item
pub item_gives : (d k : ℕ) → Sound (item d k) IsItemIf
unfolding item
item_gives d zero ts pl = marks_give (simple d) (simple_gives d) ts pl
item_gives d (suc k) ts pl = within_gives d k (item d k) (λ us q. weaken (item_gives d k us q) (λ x rest w. (tt, w.1))) ts pl
