-- It serves laws; no answer of the program is stated by it.
-- When what the builder reads is what the grammar spells.
use Rattle.std.specs.Prelude.{◌≡◌, ℕ, false, List, [], ◌∷◌, Some}
use Rattle.rtl_tree.specs.declared.symbol.Symbol.TheVariants as symbol
use Rattle.rtl_tree.specs.Symbols.{Terminal}
use Rattle.rtl_tree.specs.TreeExpr.{Formula}
use Rattle.text_grammar.specs.GrammarExpr.{IsExpression}
use Rattle.text_build.specs.Reading.{same_symbol}
use Rattle.text_build.specs.ReadingExpr.{expression}

-- no token begins attributes
abbrev pub IsPlain : List Terminal → Type 0
IsPlain [] = Unit {0}
IsPlain (t ∷ ts) = (same_symbol t.symbol symbol.OpenAttribute ≡ false) × IsPlain ts

-- where an expression was read, the tokens spell it
abbrev pub ExpressionsAreSound : Type 0
ExpressionsAreSound =
    (d : ℕ) (ts rest : List Terminal) (f : Formula) → IsPlain ts → expression d ts ≡ Some (f, rest) → IsExpression f ts rest
