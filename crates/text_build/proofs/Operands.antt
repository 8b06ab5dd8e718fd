-- Operands: what isn't joined by an operator.
use Rattle.std.proofs.Common.{◌≡◌, ℕ, ◌≤◌, true, false, List, [], ◌∷◌, length, Option, Some, None, refl, sym, ap, subst, ◌∙◌, arith}
use Rattle.rtl_tree.specs.declared.symbol.Symbol.{Symbol}
use Rattle.rtl_tree.specs.declared.symbol.Symbol.TheVariants as symbol
use Rattle.rtl_tree.specs.declared.tree.operators.UnaryOperator.{UnaryOperator}
use Rattle.rtl_tree.specs.declared.tree.operators.SystemFunction.{SystemFunction}
use Rattle.rtl_tree.specs.declared.tree.operators.SystemFunction.TheVariants as function
use Rattle.rtl_tree.specs.Symbols.{Terminal}
use Rattle.rtl_tree.specs.TreeExpr.{Formula, formula_row}
use Rattle.text_grammar.specs.Grammar.{IsA, IsAt, AreMore, AreListed}
use Rattle.text_grammar.specs.GrammarExpr.{unary_symbol, function_symbol, IsFormula, AreFormulas, AreMoreFormulas}
use Rattle.text_build.specs.Reading.{Parser, symbol_at, starts, after, place, mark, commas, listed}
use Rattle.text_build.specs.ReadingExpr.{unary_of, goes, Reference, whole, bit, part, read_of, number, read, parens, application, replication, more_listed, concatenation, braces, operation, prefix_by, operand_by, operand}
use Rattle.text_build.specs.Sound.{IsPlain}
use Rattle.text_build.proofs.Gives.{Gives, Sound, bind, weaken, either_gives, behind, behind_found, a_gives, a_of, next_gives, found_gives, literal_gives, starts_symbol}
use Rattle.text_build.proofs.Lists.{links_gives, more_joins, listed_gives}
use Rattle.text_build.proofs.CertainOperators.{IsPrefix, prefix_is}
use Rattle.text_build.proofs.References.{IsReference, reference_gives}

-- a row of expressions is spelled as their list is
pub more_row : (fs : List Formula) (ts rest : List Terminal) → AreMore (IsFormula 12) fs ts rest → AreMoreFormulas (formula_row fs) ts rest
more_row [] ts rest w = w
more_row (f ∷ fs) ts rest w = (w.0, w.1, (w.2.0, w.2.1, more_row fs w.2.0 rest w.2.2))

pub whole_row : (fs : List Formula) (ts rest : List Terminal) → AreListed (IsFormula 12) fs ts rest → AreFormulas (formula_row fs) ts rest
whole_row [] ts rest w = absurd w
whole_row (f ∷ fs) ts rest w = (w.0, w.1, more_row fs w.0 rest w.2)

-- what is read at each level has that level, and no operator of it follows
abbrev pub Levels : (ℕ → Parser Formula) → Type 0
Levels e = (k : ℕ) → k ≤ 12 → Sound (e k) (λ f ts rest. IsFormula k f ts rest × (goes k rest ≡ false))

place_of : List Terminal → ℕ
place_of [] = 0
place_of (t ∷ ts) = t.at

number_gives : Sound number (IsFormula 0)
unfolding number place place_of
number_gives [] pl = record { given = tt }
number_gives (t ∷ ts) pl =
    bind (literal_gives (t ∷ ts) pl) (λ v m w. record { given = ((w.0.0, w.0.1, (w.0.2.0, w.0.2.1, sym (ap place_of w.0.1))), w.1) })

read_is : (r : Reference) (ts rest : List Terminal) → IsReference r ts rest → IsFormula 0 (read_of r) ts rest
read_is (whole n) ts rest w = w
read_is (bit n i) ts rest w = w
read_is (part n k a b) ts rest w = w

module _ (e : Parser Formula) (c : Sound e (IsFormula 12)) where
  read_gives : Sound (read e) (IsFormula 0)
  unfolding read
  read_gives ts pl = bind (reference_gives e c ts pl) (λ r m w. record { given = (read_is r ts m w.0, w.1) })

  parens_gives : (ts : List Terminal) → IsPlain ts → symbol_at ts ≡ Some symbol.OpenParen → Gives (parens e ts) (λ f rest. IsFormula 0 f ts rest × IsPlain rest)
  unfolding parens
  parens_gives ts pl h =
      bind (next_gives symbol.OpenParen ts pl h)
      (λ at m w. bind (c m w.1) (λ x m1 v. bind (a_gives symbol.CloseParen m1 v.1) (λ y m2 u. record { given = ((m, w.0, (m1, v.0, u.0)), u.1) })))

  application_gives : (s : SystemFunction) (ts : List Terminal) → IsPlain ts → symbol_at ts ≡ Some (function_symbol s) → Gives (application s e ts) (λ f rest. IsFormula 0 f ts rest × IsPlain rest)
  unfolding application
  application_gives s ts pl h =
      bind (next_gives (function_symbol s) ts pl h)
      (λ at m w. bind (behind symbol.OpenParen e c m w.1)
      (λ x m1 v. bind (a_gives symbol.CloseParen m1 v.1) (λ y m2 u. record { given = ((m, w.0, (v.0.0, v.0.1, (m1, v.0.2, u.0))), u.1) })))

  -- `{times` was read, and `{` comes next
  replication_gives : (at : ℕ) (times : Formula) (ts m m1 : List Terminal) → IsAt symbol.OpenBrace at ts m → IsFormula 12 times m m1 → IsPlain m1 → starts symbol.OpenBrace m1 ≡ true
      → Gives (replication e at times m1) (λ f rest. IsFormula 0 f ts rest × IsPlain rest)
  unfolding replication
  replication_gives at times ts m m1 a b pl h =
      bind (behind_found symbol.OpenBrace (listed e) (listed_gives e c) m1 pl (starts_symbol symbol.OpenBrace m1 h))
      (λ parts m2 w. bind (behind symbol.CloseBrace (mark symbol.CloseBrace) (a_gives symbol.CloseBrace) m2 w.1)
      (λ y m3 u. record { given = ((m, a, (m1, b, (w.0.0, w.0.1, (m2, whole_row parts w.0.0 m2 w.0.2, u.0)))), u.1) }))

  -- expressions after the first
  more_gives : (first : Formula) (m : List Terminal) → IsPlain m
      → Gives (more_listed e first m) (λ all rest. ((xs : List Formula) × (all ≡ first ∷ xs) × AreMore (IsFormula 12) xs m rest) × IsPlain rest)
  unfolding more_listed commas
  more_gives first m pl =
      either_gives _ _ _ m
      (λ h. bind (found_gives symbol.Comma m pl h)
      (λ at m1 w. weaken (links_gives e (IsFormula 12) (AreMore (IsFormula 12)) (IsA symbol.Comma) (starts symbol.Comma) (after symbol.Comma) c (more_joins (IsFormula 12)) (length m1) (first ∷ []) m1 w.1)
      (λ all rest l. ((l.0.first ∷ l.0.others, l.0.is, (m1, a_of symbol.Comma at m m1 w.0, (l.0.middle, l.0.head, l.0.tail))), l.1))))
      (λ h. record { given = (([], refl, refl), pl) })

  concatenation_gives : (at : ℕ) (first : Formula) (ts m m1 : List Terminal) → IsAt symbol.OpenBrace at ts m → IsFormula 12 first m m1 → IsPlain m1
      → Gives (concatenation e at first m1) (λ f rest. IsFormula 0 f ts rest × IsPlain rest)
  unfolding concatenation
  concatenation_gives at first ts m m1 a b pl =
      bind (more_gives first m1 pl)
      (λ parts m2 w. bind (a_gives symbol.CloseBrace m2 w.1)
      (λ y m3 u. record {
        given = ((m, a, (m2, subst (λ fs. AreFormulas (formula_row fs) m m2) (sym w.0.1) (m1, b, more_row w.0.0 m1 m2 w.0.2), u.0)), u.1);
      }))

  braces_gives : (ts : List Terminal) → IsPlain ts → symbol_at ts ≡ Some symbol.OpenBrace → Gives (braces e ts) (λ f rest. IsFormula 0 f ts rest × IsPlain rest)
  unfolding braces
  braces_gives ts pl h =
      bind (next_gives symbol.OpenBrace ts pl h)
      (λ at m w. bind (c m w.1)
      (λ first m1 v. either_gives _ _ _ m1 (λ k. replication_gives at first ts m m1 w.0 v.0 v.1 k) (λ k. concatenation_gives at first ts m m1 w.0 v.0 v.1)))

module _ (e : ℕ → Parser Formula) (c : Levels e) where
  pub all_levels : Sound (e 12) (IsFormula 12)
  all_levels ts pl = weaken (c 12 (omega arith) ts pl) (λ f rest w. (w.0.0, w.1))

  prefix_gives : (o : Option UnaryOperator) (s : Symbol) → IsPrefix o s → (ts : List Terminal) → IsPlain ts → symbol_at ts ≡ Some s
      → Gives (prefix_by o (e 0) ts) (λ f rest. IsFormula 0 f ts rest × IsPlain rest)
  unfolding operation
  prefix_gives None s i ts pl h = record { given = tt }
  prefix_gives (Some op) s i ts pl h =
      bind (next_gives (unary_symbol op) ts pl (h ∙ ap (λ x. Some x) i))
      (λ at m w. bind (c 0 (omega arith) m w.1) (λ x r v. record { given = ((m, w.0, v.0.0), v.1) }))

  operand_from : (s : Symbol) (ts : List Terminal) → IsPlain ts → symbol_at ts ≡ Some s → Gives (operand_by (Some s) e ts) (λ f rest. IsFormula 0 f ts rest × IsPlain rest)
  operand_from symbol.Number ts pl h = number_gives ts pl
  operand_from symbol.Name ts pl h = read_gives (e 12) all_levels ts pl
  operand_from symbol.OpenParen ts pl h = parens_gives (e 12) all_levels ts pl h
  operand_from symbol.ToSigned ts pl h = application_gives (e 12) all_levels function.Signed ts pl h
  operand_from symbol.ToUnsigned ts pl h = application_gives (e 12) all_levels function.Unsigned ts pl h
  operand_from symbol.Clog2 ts pl h = application_gives (e 12) all_levels function.Clog2 ts pl h
  operand_from symbol.OpenBrace ts pl h = braces_gives (e 12) all_levels ts pl h
  operand_from s ts pl h = prefix_gives (unary_of s) s (prefix_is s) ts pl h

  -- an operand has the tightest level
  pub operand_gives : Sound (operand e) (IsFormula 0)
  unfolding operand
  operand_gives [] pl = record { given = tt }
  operand_gives (t ∷ ts) pl = operand_from t.symbol (t ∷ ts) pl refl
