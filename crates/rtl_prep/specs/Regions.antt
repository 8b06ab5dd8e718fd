-- Regions that synthesis is told not to see.
-- Worked examples: crates/tests_layers/stdin.
use Rattle.std.specs.Prelude.{ℕ, Bool, true, false, Option, Some, None, List, [], ◌∷◌, ◌++◌, Result, Ok, Err}
use Rattle.rtl_tree.specs.declared.token.Tok.{Tok}
use Rattle.rtl_tree.specs.declared.token.Tok.TheVariants.{Pragma}
use Rattle.rtl_tree.specs.declared.token.Pragma.TheVariants.{TranslateOff, TranslateOn}
use Rattle.rtl_tree.specs.declared.token.Token.{Token}
use Rattle.text_ground.specs.declared.dropped.Dropped.{Dropped}
use Rattle.text_ground.specs.declared.dropped.DropKind.TheVariants as kind
use Rattle.rtl_prep.specs.declared.region.Cut as region
use Rattle.rtl_prep.specs.Stops.{Stop, Alone, and_then, each}

-- how far the tokens are read: the place of the region that is open, the tokens that are kept, and the regions so far
pub record Cut : Type 0 where
  pub opened : Option ℕ
  pub kept : List Token
  pub dropped : List Dropped

abbrev pub seen : region.Cut → Cut
seen c = record { opened = c.opened; kept = c.kept.items; dropped = c.dropped.items }

abbrev pub whole : Cut
whole = record { opened = None; kept = []; dropped = [] }

abbrev pub region_at : ℕ → Dropped
region_at at = record { kind = kind.TranslateOff; at = at }

-- the token begins or ends a region
abbrev pub bounds : Tok → Bool
bounds (Pragma TranslateOff) = true
bounds (Pragma TranslateOn) = true
bounds kind = false

abbrev pub bounds_region : Token → Bool
bounds_region t = bounds t.kind

abbrev pub cut_at : Tok → Option ℕ → Cut → Token → Result Cut Stop
cut_at (Pragma TranslateOff) None c t = Ok (record { opened = Some t.at; kept = c.kept; dropped = c.dropped ++ region_at t.at ∷ [] })
cut_at (Pragma TranslateOn) None c t = Err (Alone t.at)
cut_at (Pragma TranslateOn) (Some at) c t = Ok (record { opened = None; kept = c.kept; dropped = c.dropped })
cut_at kind None c t = Ok (record { opened = None; kept = c.kept ++ t ∷ []; dropped = c.dropped })
cut_at kind (Some at) c t = Ok c

-- a region goes from `translate_off` to the next `translate_on`, with all between them
unfoldable pub cut : Cut → Token → Result Cut Stop
cut c t = cut_at t.kind c.opened c t

abbrev pub closed : Option ℕ → Cut → Result Cut Stop
closed None c = Ok c
closed (Some at) c = Err (Alone at)

-- the tokens outside the regions, with the regions
unfoldable pub regions : List Token → Result Cut Stop
regions ts = and_then (each cut whole ts) (λ c. closed c.opened c)
