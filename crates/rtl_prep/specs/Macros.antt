-- Macros and their replacement (IEEE 1364-2001 section 19.3).
-- Worked examples: crates/tests_layers/stdin.
use Rattle.std.specs.Prelude.{ℕ, zero, suc, ◌+◌, Bool, true, false, if◌then◌else◌, nat_lt, Option, Some, None, List, [], ◌∷◌, ◌++◌, length, Result, Ok, Err}
use Rattle.std.specs.Option.{option_map}
use Rattle.std.specs.Str.{bytes_eq}
use Rattle.rtl_tree.specs.declared.token.Tok.{Tok}
use Rattle.rtl_tree.specs.declared.token.Tok.TheVariants.{Directive}
use Rattle.rtl_tree.specs.declared.token.Token.{Token}
use Rattle.rtl_tree.specs.declared.token.TheConstants.{MAX_TOKENS}
use Rattle.rtl_prep.specs.declared.replace.TheConstants.{MAX_REPLACEMENTS}
use Rattle.rtl_prep.specs.declared.directive.Known.{Known}
use Rattle.rtl_prep.specs.Stops.{Stop, Refused, Loops, Full, and_then}
use Rattle.rtl_prep.specs.Directives.{name_of, directive_of}

-- a macro: its body, and whether its replacement is being read
pub record Macro : Type 0 where
  pub body : List Token
  pub busy : Bool

-- what each name stands for
abbrev pub Macros : Type 0
Macros = List ℕ → Option Macro

abbrev pub no_macros : Macros
no_macros name = None

-- the same, but that one name stands for this, or for nothing
abbrev pub with_macro : Macros → List ℕ → Option Macro → Macros
with_macro macros name m = λ other. if bytes_eq name other then m else macros other

abbrev pub set_busy : Bool → Macro → Macro
set_busy busy m = record { body = m.body; busy = busy }

-- the same, but that the macro of one name is being read, or isn't
abbrev pub marked : Bool → Macros → List ℕ → Macros
marked busy macros name = with_macro macros name (option_map (set_busy busy) (macros name))

-- the tokens that are kept, and how many replacements there were
pub record Gained : Type 0 where
  pub kept : List Token
  pub used : ℕ

abbrev pub with_kept : Gained → Token → Gained
with_kept g t = record { kept = g.kept ++ t ∷ []; used = g.used }

-- one more token is kept
unfoldable pub keep : Gained → Token → Result Gained Stop
keep g t = if nat_lt (length g.kept) MAX_TOKENS then Ok (with_kept g t) else Err (Full t.at)

abbrev pub one_more : Gained → Gained
one_more g = record { kept = g.kept; used = g.used + 1 }

-- a token at the place of the use
abbrev pub moved : Token → ℕ → Token
moved t at = record { kind = t.kind; from = t.from; to = t.to; at = at }

abbrev pub is_directive : Tok → Bool
is_directive Directive = true
is_directive kind = false

-- the tokens of a body one after the other, where `uses name` is what the use of a macro in it gives
unfoldable pub replaced : List ℕ → (List ℕ → Gained → Result Gained Stop) → ℕ → List Token → Gained → Result Gained Stop
replaced text uses at [] g = Ok g
replaced text uses at (t ∷ ts) g =
    and_then (if is_directive t.kind then uses (name_of text t) g else keep g (moved t at)) (replaced text uses at ts)

abbrev pub begun_as : Option Known → Option Macro → List ℕ → ℕ → Gained → Result Macro Stop
begun_as (Some known) m name at g = Err (Refused name at)
begun_as None None name at g = Err (Refused name at)
begun_as None (Some m) name at g =
    if m.busy then Err (Loops name at) else if nat_lt g.used MAX_REPLACEMENTS then Ok m else Err (Full at)

-- the macro whose replacement begins at the use of a name
unfoldable pub begun : Macros → List ℕ → ℕ → Gained → Result Macro Stop
begun macros name at g = begun_as (directive_of name) (macros name) name at g

-- a use of a name at a place: its macro's body takes its stead, macros within it replaced likewise. Each replacement within another
-- counts, so they are nested at most as deep as there may be replacements.
unfoldable pub used : ℕ → List ℕ → Macros → ℕ → List ℕ → Gained → Result Gained Stop
used zero text macros at name g = and_then (begun macros name at g) (λ m. Err (Full at))
used (suc n) text macros at name g =
    and_then (begun macros name at g) (λ m. replaced text (used n text (marked true macros name) at) at m.body (one_more g))
