-- What it means that tokens spell something, and the smallest things that they spell (IEEE 1364-2001 annex A).
-- Worked examples: crates/tests_layers/stdin.
use Rattle.std.specs.Prelude.{◌≡◌, ℕ, Bool, true, false, List, [], ◌∷◌, Option, Some, None}
use Rattle.rtl_tree.specs.declared.literal.Literal.{Literal}
use Rattle.rtl_tree.specs.declared.token.Tok.TheVariants as tok
use Rattle.rtl_tree.specs.declared.symbol.Symbol.{Symbol}
use Rattle.rtl_tree.specs.declared.symbol.Symbol.TheVariants.{Name, Number, Comma}
use Rattle.rtl_tree.specs.Symbols.{Terminal}
use Rattle.rtl_tree.specs.TreeExpr.{Identifier}

-- `s tokens rest`: the tokens begin with a spelling of something, and `rest` is left
abbrev pub Spelling : Type 1
Spelling = List Terminal → List Terminal → Type 0

-- one spelling after another
infixr 12 ◌⨾◌
abbrev pub ◌⨾◌ : Spelling → Spelling → Spelling
p ⨾ q = λ tokens rest. (middle : List Terminal) × p tokens middle × q middle rest

-- no token
abbrev pub Nothing : Spelling
Nothing tokens rest = tokens ≡ rest

-- what nothing spells
abbrev pub Never : Spelling
Never tokens rest = ⊥

-- one token, of which this holds
abbrev pub One : (Terminal → Type 0) → Spelling
One holds tokens rest = (t : Terminal) × (tokens ≡ t ∷ rest) × holds t

-- a token with this symbol
abbrev pub IsA : Symbol → Spelling
IsA symbol = One (λ t. t.symbol ≡ symbol)

-- a token with this symbol, at this place
abbrev pub IsAt : Symbol → ℕ → Spelling
IsAt symbol at = One (λ t. (t.symbol ≡ symbol) × (t.at ≡ at))

abbrev pub identifier_of : Terminal → Identifier
identifier_of t = record { text = t.text; at = t.at }

-- a name
abbrev pub IsName : Identifier → Spelling
IsName name = One (λ t. (t.symbol ≡ Name) × (identifier_of t ≡ name))

-- a number with this value
abbrev pub IsNumber : Literal → Spelling
IsNumber value = One (λ t. (t.symbol ≡ Number) × (t.kind ≡ tok.Number value))

-- a number with this value, at this place
abbrev pub IsNumberAt : Literal → ℕ → Spelling
IsNumberAt value at = One (λ t. (t.symbol ≡ Number) × (t.kind ≡ tok.Number value) × (t.at ≡ at))

-- what may be left out
abbrev pub IsOptional : {A : Type 0} → (A → Spelling) → Option A → Spelling
IsOptional p None = Nothing
IsOptional p (Some x) = p x

-- a token that is there or isn't
abbrev pub IsFlag : Symbol → Bool → Spelling
IsFlag symbol false = Nothing
IsFlag symbol true = IsA symbol

-- several in a row
abbrev pub AreAll : {A : Type 0} → (A → Spelling) → List A → Spelling
AreAll p [] = Nothing
AreAll p (x ∷ xs) = p x ⨾ AreAll p xs

-- further ones, each after a comma
abbrev pub AreMore : {A : Type 0} → (A → Spelling) → List A → Spelling
AreMore p [] = Nothing
AreMore p (x ∷ xs) = IsA Comma ⨾ p x ⨾ AreMore p xs

-- one or more, with commas between them
abbrev pub AreListed : {A : Type 0} → (A → Spelling) → List A → Spelling
AreListed p [] = Never
AreListed p (x ∷ xs) = p x ⨾ AreMore p xs
