-- Names with a selection, and ranges.
use Rattle.std.proofs.Common.{◌≡◌, true, List, Option, Some, None}
use Rattle.rtl_tree.specs.declared.symbol.Symbol.TheVariants as symbol
use Rattle.rtl_tree.specs.declared.tree.operators.PartKind.{PartKind}
use Rattle.rtl_tree.specs.Symbols.{Terminal}
use Rattle.rtl_tree.specs.TreeExpr.{Identifier, Formula}
use Rattle.text_grammar.specs.Grammar.{Spelling, ◌⨾◌, IsA, IsName}
use Rattle.text_grammar.specs.GrammarExpr.{part_symbol, IsFormula, IsBounds}
use Rattle.text_build.specs.Reading.{Parser, symbol_at, starts}
use Rattle.text_build.specs.ReadingExpr.{Reference, whole, bit, part, part_by, rest_of_bit, rest_of_part, rest_by, rest_of_selection, selection, selected, reference, bounds}
use Rattle.text_build.specs.Sound.{IsPlain}
use Rattle.text_build.proofs.Gives.{Gives, Sound, bind, either_gives, behind, a_gives, name_gives, found_gives}

-- a name, one bit of it, or a part of it
abbrev pub IsReference : Reference → Spelling
IsReference (whole n) = IsName n
IsReference (bit n index) = IsName n ⨾ IsA symbol.OpenBracket ⨾ IsFormula 12 index ⨾ IsA symbol.CloseBracket
IsReference (part n kind first second) = IsName n ⨾ IsA symbol.OpenBracket ⨾ IsFormula 12 first ⨾ IsA (part_symbol kind) ⨾ IsFormula 12 second ⨾ IsA symbol.CloseBracket

module _ (e : Parser Formula) (c : Sound e (IsFormula 12)) where
  -- `[first` was read after a name
  rest_gives : (o : Option PartKind) (n : Identifier) (first : Formula) (ts m m0 m1 : List Terminal) → IsName n ts m → IsA symbol.OpenBracket m m0 → IsFormula 12 first m0 m1 → IsPlain m1
      → Gives (rest_by o e n first m1) (λ r rest. IsReference r ts rest × IsPlain rest)
  unfolding rest_of_bit rest_of_part
  rest_gives None n first ts m m0 m1 w o f pl = bind (a_gives symbol.CloseBracket m1 pl) (λ at m3 w3. record { given = ((m, w, (m0, o, (m1, f, w3.0))), w3.1) })
  rest_gives (Some k) n first ts m m0 m1 w o f pl =
      bind (behind (part_symbol k) e c m1 pl)
      (λ second m2 w2. bind (a_gives symbol.CloseBracket m2 w2.1)
      (λ at m3 w3. record { given = ((m, w, (m0, o, (m1, f, (w2.0.0, w2.0.1, (m2, w2.0.2, w3.0))))), w3.1) }))

  selected_gives : (n : Identifier) (ts m : List Terminal) → IsName n ts m → IsPlain m → Gives (selected e n m) (λ r rest. IsReference r ts rest × IsPlain rest)
  unfolding selected selection rest_of_selection
  selected_gives n ts m w pl =
      either_gives _ _ _ m
      (λ h. bind (behind symbol.OpenBracket e c m pl)
      (λ first m1 w1. rest_gives (part_by (symbol_at m1)) n first ts m w1.0.0 m1 w w1.0.1 w1.0.2 w1.1))
      (λ h. record { given = (w, pl) })

  pub reference_gives : Sound (reference e) IsReference
  unfolding reference
  reference_gives ts pl = bind (name_gives ts pl) (λ n m w. selected_gives n ts m w.0 w.1)

  -- a range, whose bracket a test found
  pub bounds_gives : (ts : List Terminal) → IsPlain ts → starts symbol.OpenBracket ts ≡ true → Gives (bounds e ts) (λ b rest. IsBounds b ts rest × IsPlain rest)
  unfolding bounds
  bounds_gives ts pl h =
      bind (found_gives symbol.OpenBracket ts pl h)
      (λ at m w. bind (c m w.1)
      (λ msb m1 w1. bind (behind symbol.Colon e c m1 w1.1)
      (λ lsb m2 w2. bind (a_gives symbol.CloseBracket m2 w2.1)
      (λ x m3 w3. record { given = ((m, w.0, (m1, w1.0, (w2.0.0, w2.0.1, (m2, w2.0.2, w3.0)))), w3.1) }))))
