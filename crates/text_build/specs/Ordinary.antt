-- It serves inner contracts and proofs; no answer of the program is stated by it.
-- Texts of which trees may be read without a survey.
use Rattle.std.specs.Prelude.{ℕ, zero, suc, Bool, true, false, if◌then◌else◌, List, [], ◌∷◌}
use denote.Enum.Bare.{sameb}
use Rattle.rtl_tree.specs.contracts.symbol.Symbol.{the_type}
use Rattle.rtl_tree.specs.declared.symbol.Symbol.{Symbol}
use Rattle.rtl_tree.specs.declared.symbol.Symbol.TheVariants as symbol
use Rattle.rtl_tree.specs.Symbols.{Terminal}
use Rattle.text_build.specs.declared.ordinary.TheConstants.{MOST_TOKENS}

-- a token begins attributes, or says that there are generate constructs
abbrev pub needs_survey : Symbol → Bool
needs_survey symbol.OpenAttribute = true
needs_survey symbol.Generate = true
needs_survey symbol.Genvar = true
needs_survey s = false

-- no token needs a survey, a semicolon is among the first so many tokens, and then among each so many as may follow one another
abbrev pub is_ordinary_in : ℕ → List Terminal → Bool
is_ordinary_in left [] = true
is_ordinary_in zero (t ∷ ts) = false
is_ordinary_in (suc left) (t ∷ ts) =
    if needs_survey t.symbol
    then false
    else if sameb the_type t.symbol symbol.Semicolon then is_ordinary_in MOST_TOKENS ts else is_ordinary_in left ts

abbrev pub is_ordinary : List Terminal → Bool
is_ordinary = is_ordinary_in MOST_TOKENS
