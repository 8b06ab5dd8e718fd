-- Statements, whose cases are proper.
use Rattle.std.proofs.Common.{◌≡◌, ℕ, zero, suc, Bool, true, false, List, [], ◌∷◌, Some, inl, inr, refl, sym, subst, ◌∙◌}
use Rattle.rtl_tree.specs.declared.symbol.Symbol.{Symbol}
use Rattle.rtl_tree.specs.declared.symbol.Symbol.TheVariants as symbol
use Rattle.rtl_tree.specs.declared.tree.stmt.CaseKind.{CaseKind}
use Rattle.rtl_tree.specs.declared.tree.stmt.CaseKind.TheVariants as kind
use Rattle.rtl_tree.specs.Symbols.{Terminal}
use Rattle.rtl_tree.specs.TreeExpr.{Formula, Identifier}
use Rattle.rtl_tree.specs.TreeStmt.{Target, Action, action_row, Branch, branch_row}
use Rattle.text_grammar.specs.Grammar.{Spelling, ◌⨾◌, IsA, IsName, AreAll}
use Rattle.text_grammar.specs.GrammarExpr.{IsExpression}
use Rattle.text_grammar.specs.GrammarStmt.{IsTarget, IsPause, assignment_symbol, case_symbol, ends_open, IsLabel, IsDefaultEnd, IsAction, AreStatements, IsBranch, AreBranches, AreMoreBranches, IsStatement}
use Rattle.text_build.specs.Reading.{Parser, and_then, symbol_at, starts, after, name}
use Rattle.text_build.specs.ReadingExpr.{expression}
use Rattle.text_build.specs.ReadingStmt.{no_marks, pause, target, null, delayed, kind_by, assignment_kind, assign, alternative, conditional, labelled, no_colon, otherwise, branch, case_of, step_of, loop_of, label, block, action_by, action, statement_within, statement}
use Rattle.text_build.proofs.Laws.Tokens.{after_not}
use Rattle.text_build.specs.Sound.{IsPlain}
use Rattle.text_build.specs.Proper.{HasItem, IsProper, AreProper, IsProperBranch, AreProperBranches}
use Rattle.text_build.proofs.Gives.{Gives, Sound, bind, weaken, either_gives, behind, behind_found, a_gives, a_of, token_gives, next_gives, found_gives, name_gives, optional_gives, starts_symbol, after_found}
use Rattle.text_build.proofs.Lists.{listed_gives, until_gives}
use Rattle.text_build.proofs.Exprs.{expression_gives}
use Rattle.text_build.proofs.CertainTargets.{no_attributes, target_gives, pause_gives}

-- a statement that an `else` follows doesn't end in an `if` that would take it
abbrev Closed : Action → List Terminal → Type 0
Closed a rest = starts symbol.Else rest ≡ true → ends_open a ≡ false

-- a statement after no attributes, if it is proper
abbrev IsAct : Action → Spelling
IsAct a ts rest = Closed a rest × (IsProper a → IsAction [] a ts rest)

-- a statement, if it is proper
abbrev pub IsStat : Action → Spelling
IsStat a ts rest = Closed a rest × (IsProper a → IsStatement a ts rest)

-- an item of a case, if it is proper
abbrev IsItemOf : Branch → Spelling
IsItemOf b ts rest = IsProperBranch b → IsBranch b ts rest

-- ---- rows

statements_row : (xs : List Action) (ts rest : List Terminal) → AreAll IsStat xs ts rest → AreProper (action_row xs) → AreStatements (action_row xs) ts rest
statements_row [] ts rest w p = w
statements_row (x ∷ xs) ts rest w p = (w.0, w.1.1 p.0, statements_row xs w.0 rest w.2 p.1)

more_branches_row : (xs : List Branch) (ts rest : List Terminal) → AreAll IsItemOf xs ts rest → AreProperBranches (branch_row xs) → AreMoreBranches (branch_row xs) ts rest
more_branches_row [] ts rest w p = w
more_branches_row (x ∷ xs) ts rest w p = (w.0, w.1 p.0, more_branches_row xs w.0 rest w.2 p.1)

branches_row : (xs : List Branch) (ts rest : List Terminal) → AreAll IsItemOf xs ts rest → HasItem (branch_row xs) → AreProperBranches (branch_row xs) → AreBranches (branch_row xs) ts rest
branches_row [] ts rest w i p = absurd i
branches_row (x ∷ xs) ts rest w i p = (w.0, w.1 p.0, more_branches_row xs w.0 rest w.2 p.1)

-- ---- the parts of a statement

kind_from : (s : Symbol) (ts : List Terminal) → IsPlain ts → symbol_at ts ≡ Some s → Gives (kind_by (Some s) ts) (λ k rest. IsA (assignment_symbol k) ts rest × IsPlain rest)
kind_from symbol.Equals ts pl h = bind (next_gives symbol.Equals ts pl h) (λ at m w. record { given = (a_of symbol.Equals at ts m w.0, w.1) })
kind_from symbol.LessEquals ts pl h = bind (next_gives symbol.LessEquals ts pl h) (λ at m w. record { given = (a_of symbol.LessEquals at ts m w.0, w.1) })
kind_from s ts pl h = record { given = tt }

kind_gives : Sound assignment_kind (λ k. IsA (assignment_symbol k))
unfolding assignment_kind
kind_gives [] pl = record { given = tt }
kind_gives (t ∷ ts) pl = kind_from t.symbol (t ∷ ts) pl refl

pub default_by : (ts : List Terminal) → IsPlain ts → (o : Bool) → starts symbol.Colon ts ≡ o → IsDefaultEnd ts (after symbol.Colon ts) × IsPlain (after symbol.Colon ts)
default_by ts pl true e = let q = after_found symbol.Colon ts pl e in (inr q.0, q.1)
default_by ts pl false e = (inl (sym (after_not symbol.Colon ts e)), subst IsPlain (sym (after_not symbol.Colon ts e)) pl)

-- a step of a loop
abbrev IsStep : Identifier × Formula → Spelling
IsStep p = IsName p.0 ⨾ IsA symbol.Equals ⨾ IsExpression p.1

module _ (e : Parser Formula) (t : Parser Target) (s : Parser Action) (ce : Sound e IsExpression) (ct : Sound t IsTarget) (cs : Sound s IsStat) where
  null_gives : (ts : List Terminal) → IsPlain ts → symbol_at ts ≡ Some symbol.Semicolon → Gives (null ts) (λ a rest. IsAct a ts rest × IsPlain rest)
  unfolding null
  null_gives ts pl h = bind (next_gives symbol.Semicolon ts pl h) (λ at m w. record { given = ((λ q. refl, λ p. w.0), w.1) })

  delayed_gives : (ts : List Terminal) → IsPlain ts → symbol_at ts ≡ Some symbol.Hash → Gives (delayed e s ts) (λ a rest. IsAct a ts rest × IsPlain rest)
  unfolding delayed
  delayed_gives ts pl h =
      bind (pause_gives e ce ts pl h) (λ x m w. bind (cs m w.1) (λ body m1 v. record { given = ((v.0.0, λ p. (m, w.0, v.0.1 p)), v.1) }))

  conditional_gives : (ts : List Terminal) → IsPlain ts → symbol_at ts ≡ Some symbol.If → Gives (conditional e s ts) (λ a rest. IsAct a ts rest × IsPlain rest)
  unfolding conditional alternative
  conditional_gives ts pl h =
      bind (next_gives symbol.If ts pl h)
      (λ at m w. bind (behind symbol.OpenParen e ce m w.1)
      (λ condition m1 v. bind (behind symbol.CloseParen s cs m1 v.1)
      (λ taken m2 u. either_gives _ _ _ m2
      (λ k. bind (behind_found symbol.Else s cs m2 u.1 (starts_symbol symbol.Else m2 k))
      (λ other m3 z. record {
        given = ((z.0.2.0, λ p. (u.0.2.0 k, (m, w.0, (v.0.0, v.0.1, (m1, v.0.2, (u.0.0, u.0.1, (m2, u.0.2.1 p.0, (z.0.0, z.0.1, z.0.2.1 p.1)))))))), z.1);
      }))
      (λ k. record {
        given = ((λ q. let z : true ≡ false = sym q ∙ k in absurd (cc), λ p. (m, w.0, (v.0.0, v.0.1, (m1, v.0.2, (u.0.0, u.0.1, u.0.2.1 p))))), u.1);
      }))))

  labelled_gives : Sound (labelled e s) IsItemOf
  unfolding labelled
  labelled_gives ts pl =
      bind (listed_gives e ce ts pl) (λ labels m w. bind (behind symbol.Colon s cs m w.1) (λ body m1 v. record { given = (λ p. (m, w.0, (v.0.0, v.0.1, v.0.2.1 p)), v.1) }))

  otherwise_gives : (ts : List Terminal) → IsPlain ts → starts symbol.Default ts ≡ true → Gives (otherwise s ts) (λ b rest. IsItemOf b ts rest × IsPlain rest)
  unfolding otherwise no_colon
  otherwise_gives ts pl h =
      bind (found_gives symbol.Default ts pl h)
      (λ at m w. let q = default_by m w.1 (starts symbol.Colon m) refl in
      bind (cs (after symbol.Colon m) q.1) (λ body m1 v. record { given = (λ p. (m, w.0, (after symbol.Colon m, q.0, v.0.1 p)), v.1) }))

  branch_gives : Sound (branch e s) IsItemOf
  unfolding branch
  branch_gives ts pl = either_gives _ _ _ ts (λ h. otherwise_gives ts pl h) (λ h. labelled_gives ts pl)

  case_gives : (k : CaseKind) (ts : List Terminal) → IsPlain ts → symbol_at ts ≡ Some (case_symbol k) → Gives (case_of k no_marks e s ts) (λ a rest. IsAct a ts rest × IsPlain rest)
  unfolding case_of
  case_gives k ts pl h =
      bind (next_gives (case_symbol k) ts pl h)
      (λ at m w. bind (behind symbol.OpenParen e ce m w.1)
      (λ selector m1 v. bind (token_gives symbol.CloseParen m1 v.1)
      (λ close m2 u. bind (until_gives (branch e s) IsItemOf branch_gives symbol.Endcase m2 u.1)
      (λ branches m3 z. bind (a_gives symbol.Endcase m3 z.1)
      (λ x m4 y. record {
        given = ((λ q. refl, λ p. (close.full, close.parallel, refl, refl, p.1, (m, w.0, (v.0.0, v.0.1, (m1, v.0.2, (m2, (close, u.0.0, (u.0.1, refl, refl)), (m3, branches_row branches m2 m3 z.0 p.0 p.2, y.0))))))), y.1);
      })))))

  step_gives : Sound (step_of e) IsStep
  unfolding step_of
  step_gives ts pl = bind (name_gives ts pl) (λ n m w. bind (behind symbol.Equals e ce m w.1) (λ x m1 v. record { given = ((m, w.0, v.0), v.1) }))

  loop_gives : (ts : List Terminal) → IsPlain ts → symbol_at ts ≡ Some symbol.For → Gives (loop_of e s ts) (λ a rest. IsAct a ts rest × IsPlain rest)
  unfolding loop_of
  loop_gives ts pl h =
      bind (next_gives symbol.For ts pl h)
      (λ at m w. bind (behind symbol.OpenParen (step_of e) step_gives m w.1)
      (λ first m1 v. bind (behind symbol.Semicolon e ce m1 v.1)
      (λ condition m2 u. bind (behind symbol.Semicolon (step_of e) step_gives m2 u.1)
      (λ next m3 z. bind (behind symbol.CloseParen s cs m3 z.1)
      (λ body m4 y. record {
        given = ((y.0.2.0, λ p. (m, w.0, (v.0.0, v.0.1, (v.0.2.0, v.0.2.1, (v.0.2.2.0, v.0.2.2.1, (m1, v.0.2.2.2, (u.0.0, u.0.1, (m2, u.0.2, (z.0.0, z.0.1, (z.0.2.0, z.0.2.1, (z.0.2.2.0, z.0.2.2.1, (m3, z.0.2.2.2, (y.0.0, y.0.1, y.0.2.1 p))))))))))))), y.1);
      })))))

  block_gives : (ts : List Terminal) → IsPlain ts → symbol_at ts ≡ Some symbol.Begin → Gives (block s ts) (λ a rest. IsAct a ts rest × IsPlain rest)
  unfolding block label
  block_gives ts pl h =
      bind (next_gives symbol.Begin ts pl h)
      (λ at m w. bind (optional_gives {S = IsLabel} symbol.Colon label m w.1 (λ k. behind_found symbol.Colon name name_gives m w.1 (starts_symbol symbol.Colon m k)))
      (λ l m1 v. bind (until_gives s IsStat cs symbol.End m1 v.1)
      (λ body m2 u. bind (a_gives symbol.End m2 u.1)
      (λ x m3 z. record { given = ((λ q. refl, λ p. (m, w.0, (m1, v.0, (m2, statements_row body m1 m2 u.0 p, z.0)))), z.1) }))))

  assign_gives : Sound (assign e t) IsAct
  unfolding assign
  assign_gives ts pl =
      bind (ct ts pl)
      (λ to m w. bind (kind_gives m w.1)
      (λ k m1 v. bind (optional_gives {S = IsPause} symbol.Hash (pause e) m1 v.1 (λ x. pause_gives e ce m1 v.1 (starts_symbol symbol.Hash m1 x)))
      (λ p m2 u. bind (ce m2 u.1)
      (λ value m3 z. bind (a_gives symbol.Semicolon m3 z.1)
      (λ x m4 y. record { given = ((λ q. refl, λ i. (m, w.0, (m1, v.0, (m2, u.0, (m3, z.0, y.0))))), y.1) })))))

  action_from : (x : Symbol) (ts : List Terminal) → IsPlain ts → symbol_at ts ≡ Some x → Gives (action_by (Some x) no_marks e t s ts) (λ a rest. IsAct a ts rest × IsPlain rest)
  action_from symbol.Semicolon ts pl h = null_gives ts pl h
  action_from symbol.Hash ts pl h = delayed_gives ts pl h
  action_from symbol.If ts pl h = conditional_gives ts pl h
  action_from symbol.Case ts pl h = case_gives kind.Plain ts pl h
  action_from symbol.Casez ts pl h = case_gives kind.Z ts pl h
  action_from symbol.Casex ts pl h = case_gives kind.X ts pl h
  action_from symbol.For ts pl h = loop_gives ts pl h
  action_from symbol.Begin ts pl h = block_gives ts pl h
  action_from x ts pl h = assign_gives ts pl

  action_gives : Sound (action no_marks e t s) IsAct
  unfolding action
  action_gives [] pl = assign_gives [] pl
  action_gives (x ∷ ts) pl = action_from x.symbol (x ∷ ts) pl refl

  within_gives : Sound (statement_within e t s) IsStat
  unfolding statement_within
  within_gives ts pl =
      subst (λ o. Gives (and_then o (λ marks. action marks e t s)) (λ a rest. IsStat a ts rest × IsPlain rest)) (sym (no_attributes ts pl))
      (weaken (action_gives ts pl) (λ a rest w. ((w.0.0, λ p. ([], (ts, refl, w.0.1 p))), w.1)))

-- a statement, if it is proper
pub statement_gives : (d : ℕ) → Sound (statement d) IsStat
unfolding statement
statement_gives zero ts pl = record { given = tt }
statement_gives (suc d) ts pl =
    within_gives (expression d) (target d) (statement d) (expression_gives d) (target_gives d) (statement_gives d) ts pl
