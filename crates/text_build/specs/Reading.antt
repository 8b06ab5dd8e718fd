-- It serves inner contracts and proofs; no answer of the program is stated by it.
-- The builder as functions on tokens: what its code answers. Laws say that this is what the grammar spells. Here: single tokens, and what repeats.
use Rattle.std.specs.Prelude.{◌≡◌, ℕ, zero, suc, Bool, false, if◌then◌else◌, List, [], ◌∷◌, ◌++◌, length, Option, Some, None, Result, Ok, Err}
use denote.Enum.Bare.{sameb}
use Rattle.rtl_tree.specs.contracts.symbol.Symbol.{the_type}
use Rattle.rtl_tree.specs.declared.symbol.Symbol.{Symbol}
use Rattle.rtl_tree.specs.declared.symbol.Symbol.TheVariants as symbol
use Rattle.rtl_tree.specs.declared.literal.Literal.{Literal}
use Rattle.rtl_tree.specs.declared.token.Tok.{Tok}
use Rattle.rtl_tree.specs.declared.token.Tok.TheVariants as tok
use Rattle.rtl_tree.specs.Symbols.{Terminal}
use Rattle.text_grammar.specs.Grammar.{identifier_of}
use Rattle.rtl_tree.specs.TreeExpr.{Identifier}
use Rattle.text_build.specs.declared.fault.BuildFault.{BuildFault}
use Rattle.text_build.specs.declared.fault.BuildFault.TheVariants.{NotSpelled, Memory}

-- what was read, and the tokens that are left
abbrev pub Outcome : Type 0 → Type 0
Outcome A = Option (A × List Terminal)

abbrev pub Parser : Type 0 → Type 0
Parser A = List Terminal → Outcome A

abbrev pub and_then : {A B : Type 0} → Outcome A → (A → Parser B) → Outcome B
and_then None f = None
and_then (Some p) f = f p.0 p.1

infixl 10 ◌>>=◌
abbrev pub ◌>>=◌ : {A B : Type 0} → Parser A → (A → Parser B) → Parser B
p >>= f = λ ts. and_then (p ts) f

infixl 10 ◌>>◌
abbrev pub ◌>>◌ : {A B : Type 0} → Parser A → Parser B → Parser B
p >> q = p >>= (λ _. q)

abbrev pub pure : {A : Type 0} → A → Parser A
pure a = λ ts. Some (a, ts)

abbrev pub refuse : {A : Type 0} → Parser A
refuse = λ ts. None

-- the answer of a call for an outcome: its value, and the tokens that are left
abbrev pub Reads : {A B : Type 0} → (A → B) → Outcome B → Result A BuildFault → List Terminal → Type 0
Reads view outcome (Ok x) rest = outcome ≡ Some (view x, rest)
Reads view outcome (Err NotSpelled) rest = outcome ≡ None
Reads view outcome (Err Memory) rest = Unit {0}

-- ---- tokens

unfoldable pub same_symbol : Symbol → Symbol → Bool
same_symbol a b = sameb the_type a b

abbrev pub symbol_at : List Terminal → Option Symbol
symbol_at [] = None
symbol_at (t ∷ ts) = Some t.symbol

-- a token of this symbol comes next
unfoldable pub starts : Symbol → List Terminal → Bool
starts s [] = false
starts s (t ∷ ts) = same_symbol t.symbol s

-- what is left after a token of this symbol, where one comes next
unfoldable pub after : Symbol → List Terminal → List Terminal
after s [] = []
after s (t ∷ ts) = if same_symbol t.symbol s then ts else t ∷ ts

-- a token of this symbol
unfoldable pub token : Symbol → Parser Terminal
token s [] = None
token s (t ∷ ts) = if same_symbol t.symbol s then Some (t, ts) else None

-- the place of the next token
unfoldable pub place : Parser ℕ
place [] = None
place (t ∷ ts) = Some (t.at, t ∷ ts)

-- the next token, whatever it is: its place
unfoldable pub advance : Parser ℕ
advance [] = None
advance (t ∷ ts) = Some (t.at, ts)

-- the place of a token of this symbol
unfoldable pub mark : Symbol → Parser ℕ
mark s = token s >>= (λ t. pure t.at)

unfoldable pub name : Parser Identifier
name = token symbol.Name >>= (λ t. pure (identifier_of t))

abbrev pub value_of : Tok → Option Literal
value_of (tok.Number value) = Some value
value_of kind = None

abbrev pub literal_by : Option Literal → Parser Literal
literal_by None = refuse
literal_by (Some value) = pure value

-- a number
unfoldable pub literal : Parser Literal
literal = token symbol.Number >>= (λ t. literal_by (value_of t.kind))

-- ---- what may be left out, and what repeats

-- one or the other, by what comes next
unfoldable pub either : {A : Type 0} → (List Terminal → Bool) → Parser A → Parser A → Parser A
either test p q = λ ts. if test ts then p ts else q ts

-- what begins with a token of this symbol, or nothing
unfoldable pub optional : {A : Type 0} → Symbol → Parser A → Parser (Option A)
optional s p = either (starts s) (p >>= (λ x. pure (Some x))) (pure None)

-- one more in a list
abbrev pub add : {A : Type 0} → Parser A → List A → Parser (List A)
add p found = p >>= (λ x. pure (found ++ x ∷ []))

-- at most `n` steps, as long as a test of the next token holds
unfoldable pub turns : {A : Type 0} → ℕ → (List Terminal → Bool) → (A → Parser A) → A → Parser A
turns zero test step a = pure a
turns (suc n) test step a = λ ts. if test ts then (step a >>= turns n test step) ts else Some (a, ts)

unfoldable pub repeat : {A : Type 0} → (List Terminal → Bool) → (A → Parser A) → A → Parser A
repeat test step a = λ ts. turns (length ts) test step a ts

-- at most `n` more in a list, before a token of this symbol
unfoldable pub until_in : {A : Type 0} → ℕ → Symbol → Parser A → List A → Parser (List A)
until_in zero s p found = pure found
until_in (suc n) s p found = λ ts. if starts s ts then Some (found, ts) else (add p found >>= until_in n s p) ts

-- all before a token of this symbol
unfoldable pub until : {A : Type 0} → Symbol → Parser A → Parser (List A)
until s p = λ ts. until_in (length ts) s p [] ts

-- steps with separators between them: whether one comes next, and what is left after it
unfoldable pub links : {A : Type 0} → ℕ → (List Terminal → Bool) → (List Terminal → List Terminal) → (A → Parser A) → A → Parser A
links zero test left step a = refuse
links (suc n) test left step a = step a >>= (λ b ts. if test ts then links n test left step b (left ts) else Some (b, left ts))

-- steps with commas between them
unfoldable pub commas : {A : Type 0} → (A → Parser A) → A → Parser A
commas step a = λ ts. links (length ts) (starts symbol.Comma) (after symbol.Comma) step a ts

-- one or more, with commas between them
unfoldable pub listed : {A : Type 0} → Parser A → Parser (List A)
listed p = commas (add p) []
