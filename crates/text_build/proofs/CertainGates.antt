-- Gates, if they are proper.
use Rattle.std.proofs.Common.{◌≡◌, ℕ, List, [], ◌∷◌, Some}
use Rattle.rtl_tree.specs.declared.symbol.Symbol.{Symbol}
use Rattle.rtl_tree.specs.declared.symbol.Symbol.TheVariants as symbol
use Rattle.rtl_tree.specs.declared.tree.gate.GateKind.{GateKind}
use Rattle.rtl_tree.specs.Symbols.{Terminal}
use Rattle.rtl_tree.specs.TreeExpr.{Formula}
use Rattle.rtl_tree.specs.TreeStmt.{Span}
use Rattle.text_grammar.specs.Grammar.{IsName}
use Rattle.text_grammar.specs.GrammarExpr.{IsExpression}
use Rattle.text_grammar.specs.GrammarStmt.{IsSpan}
use Rattle.text_grammar.specs.GrammarGate.{gate_symbol, has_one_input, IsGateSpan, IsGatePause, IsGate}
use Rattle.text_grammar.specs.GrammarWritten.{IsUnmarked}
use Rattle.text_build.specs.Reading.{Parser, symbol_at, name, listed}
use Rattle.text_build.specs.ReadingStmt.{fixed, named, target}
use Rattle.text_build.specs.ReadingItem.{any_expression}
use Rattle.text_build.specs.ReadingGate.{rest_of_one, rest_of_two, in_parens, alone, gate_span_by, gate_span, gate_pause, gate, gates}
use Rattle.text_build.specs.Sound.{IsPlain}
use Rattle.text_build.specs.ProperModule.{IsProperGate, IsProperWritten}
use Rattle.text_build.proofs.Gives.{Gives, Sound, bind, either_gives, behind, behind_found, a_gives, next_gives, name_gives, literal_gives, optional_gives, starts_symbol}
use Rattle.text_build.proofs.Lists.{listed_gives}
use Rattle.text_build.proofs.Each.{If, each_listed}
use Rattle.text_build.proofs.Exprs.{expression_gives}
use Rattle.text_build.proofs.CertainTargets.{target_gives}

any_gives : (d : ℕ) → Sound (any_expression d) IsExpression
unfolding any_expression
any_gives d = expression_gives d

-- ---- delays

fixed_gives : Sound fixed IsSpan
unfolding fixed
fixed_gives ts pl = bind (literal_gives ts pl) (λ v m w. record { given = w })

named_gives : Sound named IsSpan
unfolding named
named_gives ts pl = bind (name_gives ts pl) (λ n m w. record { given = w })

alone_gives : (p : Parser Span) → Sound p IsSpan → Sound (alone p) IsGateSpan
unfolding alone
alone_gives p c ts pl = bind (c ts pl) (λ s m w. record { given = w })

module _ (e : Parser Formula) (c : Sound e IsExpression) where
  parens_give : Sound (in_parens e) IsGateSpan
  unfolding in_parens rest_of_one rest_of_two
  parens_give ts pl =
      bind (behind symbol.OpenParen e c ts pl)
      (λ first m w. either_gives _ _ _ m
      (λ h. bind (behind_found symbol.Comma e c m w.1 (starts_symbol symbol.Comma m h))
      (λ fall m1 v. bind (a_gives symbol.CloseParen m1 v.1)
      (λ x m2 u. record { given = ((w.0.0, w.0.1, (m, w.0.2, (v.0.0, v.0.1, (m1, v.0.2, u.0)))), u.1) })))
      (λ h. bind (a_gives symbol.CloseParen m w.1) (λ x m1 u. record { given = ((w.0.0, w.0.1, (m, w.0.2, u.0)), u.1) })))

  span_from : (s : Symbol) → Sound (gate_span_by (Some s) e) IsGateSpan
  span_from symbol.Number ts pl = alone_gives fixed fixed_gives ts pl
  span_from symbol.Name ts pl = alone_gives named named_gives ts pl
  span_from s ts pl = parens_give ts pl

  span_gives : Sound (gate_span e) IsGateSpan
  unfolding gate_span
  span_gives [] pl = parens_give [] pl
  span_gives (t ∷ ts) pl = span_from t.symbol (t ∷ ts) pl

  -- a delay, whose mark comes next
  pause_gives : (ts : List Terminal) → IsPlain ts → symbol_at ts ≡ Some symbol.Hash → Gives (gate_pause e ts) (λ p rest. IsGatePause p ts rest × IsPlain rest)
  unfolding gate_pause
  pause_gives ts pl h = bind (next_gives symbol.Hash ts pl h) (λ at m w. bind (span_gives m w.1) (λ s m1 v. record { given = ((m, w.0, v.0), v.1) }))

-- ---- gates

gate_gives : (d : ℕ) (k : GateKind) → Sound (gate d) (If (IsProperGate (has_one_input k)) (IsGate k))
unfolding gate
gate_gives d k ts pl =
    bind (optional_gives {S = IsName} symbol.Name name ts pl (λ h. name_gives ts pl))
    (λ n m w. bind (behind symbol.OpenParen (target d) (target_gives d) m w.1)
    (λ t m1 v. bind (behind symbol.Comma (listed (any_expression d)) (listed_gives (any_expression d) (any_gives d)) m1 v.1)
    (λ all m2 u. bind (a_gives symbol.CloseParen m2 u.1)
    (λ x m3 z. record {
      given = (λ p. (p, (m, w.0, (v.0.0, v.0.1, (m1, v.0.2, (u.0.0, u.0.1, (m2, u.0.2, z.0)))))), z.1);
    }))))

pub gates_give : (d : ℕ) (k : GateKind) (ts : List Terminal) → IsPlain ts → symbol_at ts ≡ Some (gate_symbol k) → Gives (gates d k ts) (λ i rest. If IsProperWritten IsUnmarked i ts rest × IsPlain rest)
unfolding gates
gates_give d k ts pl h =
    bind (next_gives (gate_symbol k) ts pl h)
    (λ at m w. bind (optional_gives {S = IsGatePause} symbol.Hash (gate_pause (any_expression d)) m w.1 (λ q. pause_gives (any_expression d) (any_gives d) m w.1 (starts_symbol symbol.Hash m q)))
    (λ p m1 v. bind (listed_gives (gate d) (gate_gives d k) m1 v.1)
    (λ all m2 u. bind (a_gives symbol.Semicolon m2 u.1)
    (λ x m3 z. record {
      given = (λ q. (m, w.0, (m1, v.0, (m2, each_listed (IsProperGate (has_one_input k)) (IsGate k) all m1 m2 u.0 q, z.0))), z.1);
    }))))
