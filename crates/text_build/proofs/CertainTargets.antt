-- Attributes where there are none, targets and delays.
use Rattle.std.proofs.Common.{◌≡◌, ℕ, zero, suc, true, false, List, [], ◌∷◌, length, Some, None, refl}
use Rattle.rtl_tree.specs.declared.symbol.Symbol.{Symbol}
use Rattle.rtl_tree.specs.declared.symbol.Symbol.TheVariants as symbol
use Rattle.rtl_tree.specs.Symbols.{Terminal}
use Rattle.rtl_tree.specs.TreeExpr.{Formula}
use Rattle.rtl_tree.specs.TreeStmt.{Target, target_row}
use Rattle.text_grammar.specs.Grammar.{AreMore, AreListed}
use Rattle.text_grammar.specs.GrammarExpr.{IsExpression}
use Rattle.text_grammar.specs.GrammarStmt.{IsTarget, AreTargets, AreMoreTargets, IsSpan, IsPause}
use Rattle.text_build.specs.Reading.{Parser, symbol_at, starts, repeat}
use Rattle.text_build.specs.ReadingExpr.{Reference, whole, bit, part, expression}
use Rattle.text_build.specs.ReadingStmt.{no_marks, marked, attributes, target_of, part_target, joined, target, fixed, named, valued, span_by, span, pause}
use Rattle.text_build.proofs.Steps.{turns_stop}
use Rattle.text_build.specs.Sound.{IsPlain}
use Rattle.text_build.proofs.Gives.{Gives, Sound, bind, either_gives, behind, a_gives, next_gives, found_gives, literal_gives, name_gives}
use Rattle.text_build.proofs.Lists.{listed_gives}
use Rattle.text_build.proofs.References.{IsReference, reference_gives}
use Rattle.text_build.proofs.Exprs.{expression_gives}

plain_start : (ts : List Terminal) → IsPlain ts → starts symbol.OpenAttribute ts ≡ false
unfolding starts
plain_start [] p = refl
plain_start (t ∷ ts) p = p.0

-- there are no attributes
pub no_attributes : (ts : List Terminal) → IsPlain ts → attributes ts ≡ Some (no_marks, ts)
unfolding attributes repeat
no_attributes ts p = turns_stop (length ts) (starts symbol.OpenAttribute) marked no_marks ts (plain_start ts p)

-- ---- targets

more_row : (xs : List Target) (ts rest : List Terminal) → AreMore IsTarget xs ts rest → AreMoreTargets (target_row xs) ts rest
more_row [] ts rest w = w
more_row (x ∷ xs) ts rest w = (w.0, w.1, (w.2.0, w.2.1, more_row xs w.2.0 rest w.2.2))

whole_row : (xs : List Target) (ts rest : List Terminal) → AreListed IsTarget xs ts rest → AreTargets (target_row xs) ts rest
whole_row [] ts rest w = absurd w
whole_row (x ∷ xs) ts rest w = (w.0, w.1, more_row xs w.0 rest w.2)

target_is : (r : Reference) (ts rest : List Terminal) → IsReference r ts rest → IsTarget (target_of r) ts rest
target_is (whole n) ts rest w = w
target_is (bit n i) ts rest w = w
target_is (part n k a b) ts rest w = w

part_gives : (e : Parser Formula) → Sound e IsExpression → Sound (part_target e) IsTarget
unfolding part_target
part_gives e c ts pl = bind (reference_gives e c ts pl) (λ r m w. record { given = (target_is r ts m w.0, w.1) })

joined_gives : (t : Parser Target) → Sound t IsTarget → (ts : List Terminal) → IsPlain ts → starts symbol.OpenBrace ts ≡ true → Gives (joined t ts) (λ x rest. IsTarget x ts rest × IsPlain rest)
unfolding joined
joined_gives t c ts pl h =
    bind (found_gives symbol.OpenBrace ts pl h)
    (λ at m w. bind (listed_gives t c m w.1)
    (λ parts m1 v. bind (a_gives symbol.CloseBrace m1 v.1) (λ x m2 u. record { given = ((m, w.0, (m1, whole_row parts m m1 v.0, u.0)), u.1) })))

pub target_gives : (d : ℕ) → Sound (target d) IsTarget
unfolding target
target_gives zero ts pl = record { given = tt }
target_gives (suc d) ts pl =
    either_gives _ _ _ ts (λ h. joined_gives (target d) (target_gives d) ts pl h) (λ h. part_gives (expression d) (expression_gives d) ts pl)

-- ---- delays

module _ (e : Parser Formula) (c : Sound e IsExpression) where
  span_from : (s : Symbol) → Sound (span_by (Some s) e) IsSpan
  unfolding fixed named valued
  span_from symbol.Number ts pl = bind (literal_gives ts pl) (λ v m w. record { given = w })
  span_from symbol.Name ts pl = bind (name_gives ts pl) (λ n m w. record { given = w })
  span_from s ts pl =
      bind (behind symbol.OpenParen e c ts pl) (λ v m w. bind (a_gives symbol.CloseParen m w.1) (λ x m1 u. record { given = ((w.0.0, w.0.1, (m, w.0.2, u.0)), u.1) }))

  span_none : Sound (span_by None e) IsSpan
  unfolding valued
  span_none ts pl =
      bind (behind symbol.OpenParen e c ts pl) (λ v m w. bind (a_gives symbol.CloseParen m w.1) (λ x m1 u. record { given = ((w.0.0, w.0.1, (m, w.0.2, u.0)), u.1) }))

  span_gives : Sound (span e) IsSpan
  unfolding span
  span_gives [] pl = span_none [] pl
  span_gives (t ∷ ts) pl = span_from t.symbol (t ∷ ts) pl

  -- a delay, whose mark comes next
  pub pause_gives : (ts : List Terminal) → IsPlain ts → symbol_at ts ≡ Some symbol.Hash → Gives (pause e ts) (λ p rest. IsPause p ts rest × IsPlain rest)
  unfolding pause
  pause_gives ts pl h = bind (next_gives symbol.Hash ts pl h) (λ at m w. bind (span_gives m w.1) (λ s m1 v. record { given = ((m, w.0, v.0), v.1) }))
