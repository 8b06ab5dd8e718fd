-- Preparation as a whole: regions are dropped first, then macros and conditional text are read, then `initial` constructs are
-- dropped, and among the tokens that are left the comments that tell nothing are found.
-- Worked examples: crates/tests_layers/stdin.
use Rattle.std.specs.Prelude.{ℕ, Option, Some, None, List, [], ◌∷◌, ◌++◌, Result, Ok, Err}
use Rattle.rtl_tree.specs.declared.token.Token.{Token}
use Rattle.rtl_tree.specs.Prepared.{Ready}
use Rattle.rtl_prep.specs.declared.directive.Chain.{Chain}
use Rattle.rtl_prep.specs.Stops.{Stop, Alone, and_then}
use Rattle.rtl_prep.specs.Regions.{regions}
use Rattle.rtl_prep.specs.Initials.{initials}
use Rattle.rtl_prep.specs.Comments.{comments}
use Rattle.rtl_prep.specs.Macros.{no_macros}
use Rattle.rtl_prep.specs.Reading.{Place, read}

abbrev pub start : Place
start = record { passed = 0; chains = []; macros = no_macros; gained = record { kept = []; used = 0 } }

-- the place of the first chain that is open
unfoldable pub outermost : Option ℕ → List Chain → Option ℕ
outermost o [] = o
outermost o (c ∷ cs) = outermost (Some c.at) cs

abbrev pub ends : Option ℕ → Place → Result (List Token) Stop
ends None p = Ok p.gained.kept
ends (Some at) p = Err (Alone at)

abbrev pub finished : Place → Result (List Token) Stop
finished p = ends (outermost None p.chains) p

-- the tokens of the text that is kept, with macros replaced
unfoldable pub conditions : List ℕ → List Token → Result (List Token) Stop
conditions text ts = and_then (read text ts start) (λ p. finished p)

-- what is prepared from a text and its tokens, or the first step that can't be done
unfoldable pub prepared : List ℕ → List Token → Result Ready Stop
prepared text ts =
    and_then (regions ts) (λ c. and_then (conditions text c.kept) (λ kept. and_then (initials text c.dropped kept) (λ s.
    Ok (record { tokens = s.kept; dropped = s.dropped ++ comments text s.kept; text = text }))))
