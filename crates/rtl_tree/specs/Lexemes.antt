-- The tokens of a text by their form (IEEE 1364-2001 clause 2).
-- Worked examples: crates/tests_layers/stdin.
use Rattle.std.specs.Prelude.{◌≡◌, ℕ, ◌≤◌, Bool, true, false, ◌||◌, ◌&&◌, not, if◌then◌else◌, ◌==◌, nat_le, IsTrue, List, [], ◌∷◌, ◌++◌, length, codes, ◌⊎◌}
use Rattle.std.specs.Char.{is_ascii_alphabetic, is_ascii_alphanumeric}
use Rattle.rtl_tree.specs.declared.token.Form.{Form}
use Rattle.rtl_tree.specs.declared.token.Form.TheVariants.{Name, Numeral, Quoted, Sign, Ticked}

-- ---- characters

-- space, tab, line feed, form feed and carriage return (2.2)
abbrev pub is_blank : ℕ → Bool
is_blank b = b == 32 || b == 9 || b == 10 || b == 12 || b == 13

-- anything but the line's end
abbrev pub is_in_line : ℕ → Bool
is_in_line b = not (b == 10)

-- a letter or `_` (2.7)
abbrev pub opens_word : ℕ → Bool
opens_word b = is_ascii_alphabetic b || b == 95

-- a letter, a digit, `_` or `$` (2.7)
abbrev pub is_in_word : ℕ → Bool
is_in_word b = is_ascii_alphanumeric b || b == 95 || b == 36

abbrev pub is_decimal : ℕ → Bool
is_decimal b = nat_le 48 b && nat_le b 57

-- a decimal digit or `_`
abbrev pub is_in_decimal : ℕ → Bool
is_in_decimal b = is_decimal b || b == 95

-- `x` or `X`, the unknown digit
abbrev pub is_x : ℕ → Bool
is_x b = b == 120 || b == 88

-- `z`, `Z` or `?`, the digit of high impedance
abbrev pub is_z : ℕ → Bool
is_z b = b == 122 || b == 90 || b == 63

-- `a` to `f`, in either case
abbrev pub is_hex_letter : ℕ → Bool
is_hex_letter b = (nat_le 97 b && nat_le b 102) || (nat_le 65 b && nat_le b 70)

-- a digit of some base, or `_` (2.5.1)
abbrev pub is_in_digits : ℕ → Bool
is_in_digits b = is_in_decimal b || is_hex_letter b || is_x b || is_z b

-- `b`, `o`, `d` or `h`, in either case
abbrev pub is_base : ℕ → Bool
is_base b = b == 98 || b == 66 || b == 111 || b == 79 || b == 100 || b == 68 || b == 104 || b == 72

-- `s` or `S`
abbrev pub is_sign : ℕ → Bool
is_sign b = b == 115 || b == 83

abbrev pub is_ascii : ℕ → Bool
is_ascii b = nat_le b 127

-- each byte passes
abbrev pub Each : (ℕ → Bool) → List ℕ → Type 0
Each p [] = Unit {0}
Each p (b ∷ bs) = IsTrue (p b) × Each p bs

-- the text is at its end, or its first byte doesn't pass
abbrev pub Stops : (ℕ → Bool) → List ℕ → Type 0
Stops p [] = Unit {0}
Stops p (b ∷ bs) = p b ≡ false

-- ---- tokens

-- a letter or `_`, and what goes on with a word (2.7)
abbrev pub IsName : List ℕ → Type 0
IsName [] = ⊥
IsName (b ∷ bs) = IsTrue (opens_word b) × Each is_in_word bs

-- a name, or `$` before one (2.7, 2.7.3)
abbrev pub IsWord : List ℕ → Type 0
IsWord [] = ⊥
IsWord (b ∷ bs) = IsName (b ∷ bs) ⊎ ((b ≡ 36) × IsName bs)

-- a backquote before a name (2.7.4)
abbrev pub IsDirective : List ℕ → Type 0
IsDirective [] = ⊥
IsDirective (b ∷ bs) = (b ≡ 96) × IsName bs

-- decimal digits and `_`, a digit first (2.5.1)
abbrev pub IsDecimal : List ℕ → Type 0
IsDecimal [] = ⊥
IsDecimal (b ∷ bs) = IsTrue (is_decimal b) × Each is_in_decimal bs

-- a base letter, blanks, and the digits of any base
abbrev pub IsDigits : List ℕ → Type 0
IsDigits [] = ⊥
IsDigits (b ∷ bs) = IsTrue (is_base b) × ((gap digits : List ℕ) × (bs ≡ gap ++ digits) × Each is_blank gap × Each is_in_digits digits)

-- an optional `s` before that
abbrev pub IsSigned : List ℕ → Type 0
IsSigned [] = ⊥
IsSigned (b ∷ bs) = IsDigits (b ∷ bs) ⊎ (IsTrue (is_sign b) × IsDigits bs)

-- `'` before that
abbrev pub IsBased : List ℕ → Type 0
IsBased [] = ⊥
IsBased (b ∷ bs) = (b ≡ 39) × IsSigned bs

-- a decimal, or a base with its digits, which a width may stand before (2.5.1)
abbrev pub IsNumeral : List ℕ → Type 0
IsNumeral body = IsDecimal body ⊎ (IsBased body
    ⊎ ((width gap based : List ℕ) × (body ≡ width ++ (gap ++ based)) × IsDecimal width × Each is_blank gap × IsBased based))

-- what follows a string's opening quote, through the quote that closes it on its line; `\` takes the next character with it (2.6)
abbrev pub IsInside : Bool → List ℕ → Type 0
IsInside escaped [] = ⊥
IsInside true (b ∷ bs) = IsTrue (is_in_line b) × IsInside false bs
IsInside false (b ∷ bs) = ((b ≡ 34) × (bs ≡ []))
    ⊎ (((b ≡ 92) × IsInside true bs) ⊎ (IsTrue (is_in_line b && not (b == 34) && not (b == 92)) × IsInside false bs))

abbrev pub IsQuoted : List ℕ → Type 0
IsQuoted [] = ⊥
IsQuoted (b ∷ bs) = (b ≡ 34) × IsInside false bs

abbrev pub has : List ℕ → ℕ → Bool
has [] b = false
has (c ∷ cs) b = b == c || has cs b

-- the marks of one character
unfoldable pub is_single : ℕ → Bool
is_single b = has (codes "()[]{};:,.=+-*/%&|^~!<>?@#") b

-- the marks of two: ~& ~| ~^ ^~ == != <= >= && || << >> ** +: -: -> (* *)
unfoldable pub is_pair : ℕ → ℕ → Bool
is_pair a b =
    if a == 126 then has (codes "&|^") b else
    if a == 94 then b == 126 else
    if a == 61 || a == 33 then b == 61 else
    if a == 60 then has (codes "=<") b else
    if a == 62 then has (codes "=>") b else
    if a == 38 then b == 38 else
    if a == 124 then b == 124 else
    if a == 42 then has (codes "*)") b else
    if a == 43 then b == 58 else
    if a == 45 then has (codes ":>") b else
    if a == 40 then b == 42 else false

-- the marks of three: === !== >>> <<<
unfoldable pub is_triple : ℕ → ℕ → ℕ → Bool
is_triple a b c = ((a == 61 || a == 33) && b == 61 && c == 61) || ((a == 62 || a == 60) && b == a && c == a)

-- an operator or a punctuation mark (2.4)
abbrev pub IsSign : List ℕ → Type 0
IsSign [] = ⊥
IsSign (a ∷ []) = IsTrue (is_single a)
IsSign (a ∷ b ∷ []) = IsTrue (is_pair a b)
IsSign (a ∷ b ∷ c ∷ []) = IsTrue (is_triple a b c)
IsSign (a ∷ b ∷ c ∷ d ∷ bs) = ⊥

abbrev pub HasForm : Form → List ℕ → Type 0
HasForm Name body = IsWord body
HasForm Numeral body = IsNumeral body
HasForm Quoted body = IsQuoted body
HasForm Sign body = IsSign body
HasForm Ticked body = IsDirective body

-- no token of any form that begins where `body` begins is longer than it
abbrev pub IsLongest : List ℕ → List ℕ → Type 0
IsLongest body rest = (form : Form) (other tail : List ℕ) → body ++ rest ≡ other ++ tail → HasForm form other → length other ≤ length body

-- ---- comments

-- whether a byte is the text's first
abbrev pub leads : ℕ → List ℕ → Bool
leads c [] = false
leads c (b ∷ bs) = b == c

-- whether `*/` stands somewhere in a text
abbrev pub has_end : List ℕ → Bool
has_end [] = false
has_end (b ∷ bs) = (b == 42 && leads 47 bs) || has_end bs
