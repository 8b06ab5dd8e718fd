-- Which tokens a text splits into (IEEE 1364-2001 clause 2).
-- Worked examples: crates/tests_layers/stdin.
use Rattle.std.specs.Prelude.{◌≡◌, ℕ, ◌+◌, ◌≤◌, Bool, true, false, ◌||◌, ◌&&◌, if◌then◌else◌, IsTrue, Option, Some, None, List, [], ◌∷◌, ◌++◌, length, take, drop, codes}
use Rattle.std.specs.Str.{bytes_eq}
use Rattle.rtl_tree.specs.declared.token.Tok.{Tok}
use Rattle.rtl_tree.specs.declared.token.Tok.TheVariants.{Word, Number, Str, Mark, Directive}
use Rattle.rtl_tree.specs.declared.token.Tok.TheVariants as kinds
use Rattle.rtl_tree.specs.declared.token.Token.{Token}
use Rattle.rtl_tree.specs.declared.token.TheConstants.{MAX_WORD}
use Rattle.rtl_tree.specs.declared.token.Pragma.{Pragma}
use Rattle.rtl_tree.specs.declared.token.Pragma.TheVariants.{TranslateOff, TranslateOn, Case, Loose}
use Rattle.rtl_tree.specs.Token.{token}
use Rattle.rtl_tree.specs.Literal.{literal}
use Rattle.rtl_tree.specs.Lexemes.{is_blank, is_in_line, is_ascii, Each, Stops, HasForm, IsLongest, leads, has_end}
use Rattle.rtl_tree.specs.declared.token.Form.{Form}
use Rattle.rtl_tree.specs.declared.token.Form.TheVariants.{Name, Numeral, Quoted, Sign, Ticked}

-- ---- pragmas

-- a byte in front of words: a word of its own where a blank or the end follows
abbrev pub join : ℕ → List ℕ → List (List ℕ) → List (List ℕ)
join b [] words = (b ∷ []) ∷ words
join b (c ∷ cs) [] = (b ∷ []) ∷ []
join b (c ∷ cs) (w ∷ ws) = if is_blank c then (b ∷ []) ∷ w ∷ ws else (b ∷ w) ∷ ws

-- the words of a comment, parted by blanks
abbrev pub words : List ℕ → List (List ℕ)
words [] = []
words (b ∷ bs) = if is_blank b then words bs else join b bs (words bs)

abbrev pub is_vendor : List ℕ → Bool
is_vendor word = bytes_eq word (codes "synopsys") || bytes_eq word (codes "synthesis")

abbrev pub is_full : List ℕ → Bool
is_full word = bytes_eq word (codes "full_case")

abbrev pub is_parallel : List ℕ → Bool
is_parallel word = bytes_eq word (codes "parallel_case")

abbrev pub told_by_one : List ℕ → Option Pragma
told_by_one word =
    if bytes_eq word (codes "translate_off") then Some TranslateOff else
    if bytes_eq word (codes "translate_on") then Some TranslateOn else
    if is_full word then Some (Case true false) else
    if is_parallel word then Some (Case false true) else None

abbrev pub told_by_two : List ℕ → List ℕ → Option Pragma
told_by_two v w = if (is_full v && is_parallel w) || (is_parallel v && is_full w) then Some (Case true true) else None

abbrev pub told : List (List ℕ) → Option Pragma
told [] = None
told (v ∷ []) = None
told (v ∷ w ∷ []) = if is_vendor v then told_by_one w else None
told (v ∷ w ∷ x ∷ []) = if is_vendor v then told_by_two w x else None
told (v ∷ w ∷ x ∷ y ∷ ws) = None

-- the words by which comments for tools begin, as their handbooks have them
abbrev pub is_tool : List ℕ → Bool
is_tool word =
    is_vendor word || bytes_eq word (codes "pragma") || bytes_eq word (codes "cadence") || bytes_eq word (codes "ambit")
    || bytes_eq word (codes "exemplar") || bytes_eq word (codes "altera") || bytes_eq word (codes "xilinx")

-- whether a part stands somewhere in a text
abbrev pub holds : List ℕ → List ℕ → Bool
holds part [] = false
holds part (b ∷ bs) = bytes_eq (take (length part) (b ∷ bs)) part || holds part bs

-- whether one of the words that pragmas have stands anywhere in it
abbrev pub has_pragma_word : List ℕ → Bool
has_pragma_word text =
    holds (codes "full_case") text || holds (codes "parallel_case") text || holds (codes "translate_off") text
    || holds (codes "translate_on") text

-- whether a comment with these words and this inside is worded like a pragma
abbrev pub is_loose : List (List ℕ) → List ℕ → Bool
is_loose [] inside = false
is_loose (word ∷ words) inside = is_tool word && has_pragma_word inside

abbrev pub told_or_loose : Option Pragma → Bool → Option Pragma
told_or_loose (Some p) loose = Some p
told_or_loose None loose = if loose then Some Loose else None

-- what a comment with this inside tells synthesis: it has exactly the words, with nothing else; one that is worded like a
-- pragma and has others tells nothing, and is kept, since other tools read such comments in their own ways
unfoldable pub pragma : List ℕ → Option Pragma
pragma inside = told_or_loose (told (words inside)) (is_loose (words inside) inside)

-- ---- pieces

-- what a text is made of: blanks, comments by their inside, a `(*` that is two marks, and tokens by their kind and text
pub data Piece : Type 0 where
  Blank : Piece
  Line : (inside : List ℕ) → Piece
  Block : (inside : List ℕ) → Piece
  Star : Piece
  One : (kind : Tok) (body : List ℕ) → Piece

abbrev pub size : Piece → ℕ
size Blank = 1
size (Line inside) = 2 + length inside
size (Block inside) = 4 + length inside
size Star = 2
size (One kind body) = length body

abbrev pub if_pragma : ℕ → ℕ → Option Pragma → List Token
if_pragma at size None = []
if_pragma at size (Some p) = token (kinds.Pragma p) at size ∷ []

-- the tokens of a piece that begins at a place
abbrev pub tokens_of : ℕ → Piece → List Token
tokens_of at Blank = []
tokens_of at (Line inside) = if_pragma at (2 + length inside) (pragma inside)
tokens_of at (Block inside) = if_pragma at (4 + length inside) (pragma inside)
tokens_of at Star = token Mark at 1 ∷ token Mark (at + 1) 1 ∷ []
tokens_of at (One kind body) = token kind at (length body) ∷ []

-- the bytes of a piece that stand outside comments
abbrev pub outside : Piece → List ℕ
outside (One kind body) = body
outside piece = []

-- the kind of a token of a form; a word is only so long, and a number has the value of its text
abbrev pub IsKind : Tok → Form → List ℕ → Type 0
IsKind Word form body = (form ≡ Name) × (length body ≤ MAX_WORD)
IsKind (Number value) form body = (form ≡ Numeral) × (literal body ≡ Some value)
IsKind Str form body = form ≡ Quoted
IsKind Mark form body = form ≡ Sign
IsKind Directive form body = (form ≡ Ticked) × (length body ≤ MAX_WORD)
IsKind (kinds.Pragma p) form body = ⊥

-- `//` or `/*` begins a text
abbrev pub BeginsComment : List ℕ → Type 0
BeginsComment text = (rest : List ℕ) × (IsTrue (leads 47 rest || leads 42 rest)) × (text ≡ 47 ∷ rest)

-- `(*`, optional blanks and `)` begin a text
abbrev pub BeginsStar : List ℕ → Type 0
BeginsStar text = (gap rest : List ℕ) × (text ≡ codes "(*" ++ (gap ++ (codes ")" ++ rest))) × Each is_blank gap

-- a token of this form and text stands at the front of a text: it is the longest there, and no comment begins
abbrev pub Stands : Form → List ℕ → List ℕ → Type 0
Stands form body text =
    (rest : List ℕ) × (text ≡ body ++ rest) × HasForm form body × IsLongest body rest × (¬ BeginsComment text) × (¬ BeginsStar text)

-- the piece that begins a text: a line comment goes to the line's end, a block comment to the first `*/`
abbrev pub IsPiece : List ℕ → Piece → Type 0
IsPiece text Blank = (b : ℕ) × (rest : List ℕ) × (text ≡ b ∷ rest) × IsTrue (is_blank b)
IsPiece text (Line inside) = (rest : List ℕ) × (text ≡ codes "//" ++ (inside ++ rest)) × Each is_in_line inside × Stops is_in_line rest
IsPiece text (Block inside) = (rest : List ℕ) × (text ≡ codes "/*" ++ (inside ++ (codes "*/" ++ rest))) × (has_end (inside ++ codes "*") ≡ false)
IsPiece text Star = BeginsStar text
IsPiece text (One kind body) = (form : Form) × Stands form body text × IsKind kind form body

-- ---- splits

-- The text up to the place `at` splits into these tokens, and `rest` follows there. Outside comments there are only
-- ASCII characters.
pub data Upto (text : List ℕ) : List Token → ℕ → List ℕ → Type 0 where
  start : Upto text [] 0 text
  more : (tokens : List Token) (at : ℕ) (rest : List ℕ) (piece : Piece) → Upto text tokens at rest → IsPiece rest piece → Each is_ascii (outside piece)
      → Upto text (tokens ++ tokens_of at piece) (at + size piece) (drop (size piece) rest)

-- a whole text splits into these tokens
abbrev pub Splits : List ℕ → List Token → Type 0
Splits text tokens = Upto text tokens (length text) []
