-- It serves inner contracts and proofs; no answer of the program is stated by it.
-- The longest token at the front of a text, as the code finds it. `slice_index text 0` is 0 at the text's end.
use Rattle.std.specs.Prelude.{ℕ, ◌+◌, Bool, false, ◌&&◌, not, if◌then◌else◌, ◌==◌, List, [], ◌∷◌, drop, slice_index, Option, Some, None}
use Rattle.std.specs.Option.{option_map}
use Rattle.std.specs.List.{prefix_len}
use Rattle.rtl_tree.specs.declared.token.Form.{Form}
use Rattle.rtl_tree.specs.declared.token.Form.TheVariants.{Name, Numeral, Quoted, Sign, Ticked}
use Rattle.rtl_tree.specs.Lexemes.{is_blank, opens_word, is_in_word, is_decimal, is_in_decimal, is_in_digits, is_base, is_sign, is_single, is_pair, is_triple}

abbrev pub first : List ℕ → ℕ
first text = slice_index text 0

-- how many bytes a name has after a first byte
unfoldable pub name_at : List ℕ → Option ℕ
name_at text = if opens_word (first text) then Some (1 + prefix_len is_in_word (drop 1 text)) else None

-- how many bytes a string has after its opening quote
abbrev pub inside_at : Bool → List ℕ → Option ℕ
inside_at escaped [] = None
inside_at escaped (b ∷ bs) =
    if b == 10 then None else
    if not escaped && b == 34 then Some 1 else
    option_map (λ n. 1 + n) (inside_at (not escaped && b == 92) bs)

-- how many bytes a base and its digits have
unfoldable pub digits_at : List ℕ → Option ℕ
digits_at text =
    if is_base (first text)
    then Some (1 + prefix_len is_blank (drop 1 text) + prefix_len is_in_digits (drop (prefix_len is_blank (drop 1 text)) (drop 1 text)))
    else None

-- the same with an `s` before it
unfoldable pub signed_at : List ℕ → Option ℕ
signed_at text = if is_sign (first text) then option_map (λ n. 1 + n) (digits_at (drop 1 text)) else digits_at text

-- the same with a quote before it
unfoldable pub based_at : List ℕ → Option ℕ
based_at text = if first text == 39 then option_map (λ n. 1 + n) (signed_at (drop 1 text)) else None

-- where a width and blanks end
abbrev pub base_from : List ℕ → ℕ
base_from text = prefix_len is_in_decimal text + prefix_len is_blank (drop (prefix_len is_in_decimal text) text)

abbrev pub decimal_or : List ℕ → Option ℕ → ℕ
decimal_or text None = prefix_len is_in_decimal text
decimal_or text (Some n) = base_from text + n

-- how many bytes a number has that begins with a digit
unfoldable pub sized_at : List ℕ → ℕ
sized_at text = decimal_or text (based_at (drop (base_from text) text))

-- how many bytes the mark has whose first byte is `a`
unfoldable pub mark_at : ℕ → List ℕ → ℕ
mark_at a text =
    if is_triple a (first text) (first (drop 1 text)) then 3 else
    if is_pair a (first text) then 2 else 1

abbrev pub formed : Form → Option ℕ → Option (Form × ℕ)
formed form size = option_map (λ n. (form, n)) size

-- the form of the longest token at the front, and how many bytes it has
unfoldable pub form_at : List ℕ → Option (Form × ℕ)
form_at text =
    if opens_word (first text) then formed Name (name_at text) else
    if first text == 36 then formed Name (option_map (λ n. 1 + n) (name_at (drop 1 text))) else
    if first text == 96 then formed Ticked (option_map (λ n. 1 + n) (name_at (drop 1 text))) else
    if first text == 34 then formed Quoted (option_map (λ n. 1 + n) (inside_at false (drop 1 text))) else
    if is_decimal (first text) then Some (Numeral, sized_at text) else
    if first text == 39 then formed Numeral (based_at text) else
    if is_single (first text) then Some (Sign, mark_at (first text) (drop 1 text)) else None
