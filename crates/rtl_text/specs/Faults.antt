-- What stops the lexer first.
-- Worked examples: crates/tests_layers/stdin.
use Rattle.std.specs.Prelude.{◌≡◌, ℕ, ◌+◌, ◌<◌, ◌≤◌, ◌⊎◌, false, IsTrue, List, ◌∷◌, ◌++◌, length, codes, None, Result, Ok, Err}
use Rattle.std.specs.List.{prefix_len}
use Rattle.rtl_tree.specs.declared.token.Token.{Token}
use Rattle.rtl_tree.specs.declared.token.TheConstants.{MAX_WORD, MAX_TOKENS}
use Rattle.rtl_tree.specs.declared.token.Form.{Form}
use Rattle.rtl_tree.specs.declared.token.Form.TheVariants.{Name, Numeral, Ticked}
use Rattle.rtl_tree.specs.Literal.{literal}
use Rattle.rtl_tree.specs.Lexemes.{is_blank, is_ascii, HasForm, has_end}
use Rattle.rtl_tree.specs.Splits.{Piece, tokens_of, outside, Stands, IsPiece, Upto, Splits}
use Rattle.rtl_text.specs.declared.fault.LexFault.{LexFault}
use Rattle.rtl_text.specs.declared.fault.LexFault.TheVariants.{NotAscii, BadNumber, BadCharacter, OpenComment, TooManyTokens, Memory}

-- a number by its form stands there and has no value
abbrev pub IsBadNumber : List ℕ → Type 0
IsBadNumber text = (body : List ℕ) × Stands Numeral body text × (literal body ≡ None)

-- an ASCII character that is no blank and begins no token
abbrev pub IsBadCharacter : List ℕ → Type 0
IsBadCharacter text =
    (b : ℕ) × (rest : List ℕ) × (text ≡ b ∷ rest) × IsTrue (is_ascii b) × (is_blank b ≡ false)
    × ((form : Form) (body tail : List ℕ) → text ≡ body ++ tail → HasForm form body → ⊥)

-- a word with more bytes than a word may have
abbrev pub IsLongWord : List ℕ → Type 0
IsLongWord text = (body : List ℕ) × (Stands Name body text ⊎ Stands Ticked body text) × (MAX_WORD < length body)

abbrev pub IsOpenComment : List ℕ → Type 0
IsOpenComment text = (inside : List ℕ) × (text ≡ codes "/*" ++ inside) × (has_end inside ≡ false)

abbrev pub IsNotAscii : List ℕ → Type 0
IsNotAscii text = (b : ℕ) × (rest : List ℕ) × (text ≡ b ∷ rest) × (is_ascii b ≡ false)

-- the first byte of a piece that isn't ASCII, outside comments, and where it is
abbrev pub IsForeign : ℕ → Piece → ℕ → Type 0
IsForeign at piece place = (prefix_len is_ascii (outside piece) < length (outside piece)) × (place ≡ at + prefix_len is_ascii (outside piece))

-- the token that is one too many, and its place
abbrev pub IsPassed : List Token → ℕ → Type 0
IsPassed tokens place = (front : List Token) × (back : List Token) × (t : Token) × (tokens ≡ front ++ t ∷ back) × (length front ≡ MAX_TOKENS) × (place ≡ t.at)

-- what stops the lexer where the text up to the place `at` splits into these tokens and `rest` follows
abbrev pub Halts : LexFault → List Token → ℕ → List ℕ → Type 0
Halts (NotAscii place) tokens at rest =
    ((place ≡ at) × IsNotAscii rest)
    ⊎ ((piece : Piece) × IsPiece rest piece × (length (tokens ++ tokens_of at piece) ≤ MAX_TOKENS) × IsForeign at piece place)
Halts (BadNumber place) tokens at rest = (place ≡ at) × IsBadNumber rest
Halts (BadCharacter place) tokens at rest = ((place ≡ at) × IsBadCharacter rest) ⊎ ((place ≡ at + MAX_WORD) × IsLongWord rest)
Halts (OpenComment place) tokens at rest = (place ≡ at) × IsOpenComment rest
Halts (TooManyTokens place) tokens at rest = (piece : Piece) × IsPiece rest piece × IsPassed (tokens ++ tokens_of at piece) place
Halts Memory tokens at rest = ⊥

-- the fault at the least place: up to it the text splits, into no more tokens than it may have
abbrev pub IsFirst : List ℕ → LexFault → Type 0
IsFirst text fault = (tokens : List Token) × (at : ℕ) × (rest : List ℕ) × Upto text tokens at rest × (length tokens ≤ MAX_TOKENS) × Halts fault tokens at rest

-- the answer for a text, but for want of memory: its tokens, or its first fault
abbrev pub Answers : List ℕ → Result (List Token) LexFault → Type 0
Answers text (Ok tokens) = Splits text tokens × (length tokens ≤ MAX_TOKENS)
Answers text (Err fault) = IsFirst text fault

-- a refusal: the first fault, or want of memory, which may come at any time
abbrev pub Refuses : List ℕ → LexFault → Type 0
Refuses text Memory = Unit {0}
Refuses text fault = IsFirst text fault

-- why one more token isn't taken: there are as many as there may be, or memory ran out
abbrev pub IsFull : ℕ → ℕ → LexFault → Type 0
IsFull count at (TooManyTokens place) = (MAX_TOKENS ≤ count) × (place ≡ at)
IsFull count at Memory = Unit {0}
IsFull count at fault = ⊥

-- what a turn of the lexer does that begins after these tokens: whatever text splits so far, it splits further, or the fault is its first
abbrev pub Turn : List Token → ℕ → List ℕ → Result (Unit {0}) LexFault → List Token → ℕ → List ℕ → Type 0
Turn tokens at rest (Ok done) tokens' at' rest' = (length rest' < length rest) × ((text : List ℕ) → Upto text tokens at rest → Upto text tokens' at' rest')
Turn tokens at rest (Err fault) tokens' at' rest' = (text : List ℕ) → Upto text tokens at rest → Refuses text fault

-- a call says this answer, or that memory ran out
abbrev pub Says : Result (List Token) LexFault → Result (List Token) LexFault → Type 0
Says answer (Ok tokens) = Ok tokens ≡ answer
Says answer (Err Memory) = Unit {0}
Says answer (Err fault) = Err fault ≡ answer
