-- Terminal symbols, in the steps in which they are found.
-- Worked examples: crates/tests_layers/stdin.
use Rattle.std.specs.Prelude.{ℕ, ◌%◌, if◌then◌else◌, Option, None, Some, Bool, true, false, ◌||◌, List, [], ◌∷◌}
use Rattle.std.specs.List.{slice_get}
use Rattle.rtl_tree.specs.declared.token.Token.{Token}
use Rattle.rtl_tree.specs.declared.symbol.Symbol.{Symbol}
use Rattle.rtl_tree.specs.declared.symbol.Symbol.TheVariants.{Refused, Name}
use Rattle.rtl_tree.specs.Symbols.{Terminal, Sight, is_system, lookup, symbol, slice}

-- what a word is that stands in no table
abbrev pub unlisted : List ℕ → Symbol
unlisted text = if is_system text then Refused else Name

-- the low five bits of the first byte, by which tables are parted into buckets
abbrev pub bucket : List ℕ → ℕ
bucket [] = 0
bucket (b ∷ bs) = b % 32

-- what a bucket has for a text, or else something else
abbrev pub lookup_at : Option (List (List ℕ × Symbol)) → Symbol → List ℕ → Symbol
lookup_at None other text = other
lookup_at (Some rows) other text = lookup rows other text

-- what a table in buckets has for a text
abbrev pub lookup_in : List (List (List ℕ × Symbol)) → Symbol → List ℕ → Symbol
lookup_in buckets other text = lookup_at (slice_get buckets (bucket text)) other text

-- the standard has it, and this language doesn't
abbrev pub is_refused : Symbol → Bool
is_refused Refused = true
is_refused other = false

-- a token with no pragma after it
abbrev pub bare : List ℕ → Token → Terminal
bare text t = record { symbol = symbol t.kind (slice text t); kind = t.kind; at = t.at; text = slice text t; full = false; parallel = false }

-- a terminal with what the pragmas after it say
abbrev pub marked : Terminal → Bool → Bool → Terminal
marked t full parallel =
    record { symbol = t.symbol; kind = t.kind; at = t.at; text = t.text; full = t.full || full; parallel = t.parallel || parallel }

-- terminals with what comes after them
abbrev pub joined : List Terminal → Sight → List Terminal
joined [] after = after.terminals
joined (t ∷ []) after = marked t after.full after.parallel ∷ after.terminals
joined (t ∷ next ∷ others) after = t ∷ joined (next ∷ others) after
