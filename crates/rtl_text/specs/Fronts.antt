-- It serves inner contracts and proofs; no answer of the program is stated by it.
-- What stands at the front of a text, as the code finds it.
use Rattle.std.specs.Prelude.{ℕ, ◌+◌, nat_le, Bool, ◌&&◌, not, if◌then◌else◌, ◌==◌, List, [], ◌∷◌, length, take, drop, Option, Some, None}
use Rattle.std.specs.Option.{option_map}
use Rattle.std.specs.List.{prefix_len}
use Rattle.rtl_tree.specs.declared.token.Tok.{Tok}
use Rattle.rtl_tree.specs.declared.token.Tok.TheVariants.{Word, Number, Str, Mark, Directive}
use Rattle.rtl_tree.specs.declared.token.TheConstants.{MAX_WORD}
use Rattle.rtl_tree.specs.declared.token.Form.{Form}
use Rattle.rtl_tree.specs.declared.token.Form.TheVariants.{Name, Numeral, Quoted, Sign, Ticked}
use Rattle.rtl_tree.specs.declared.token.Pragma.{Pragma}
use Rattle.rtl_tree.specs.declared.literal.Literal.{Literal}
use Rattle.rtl_tree.specs.Literal.{literal}
use Rattle.rtl_tree.specs.Lexemes.{is_blank, is_in_line, is_ascii}
use Rattle.rtl_tree.specs.Splits.{is_vendor, told_by_one, told_by_two, is_tool, has_pragma_word, told_or_loose}
use Rattle.rtl_text.specs.Forms.{first, form_at}
use Rattle.rtl_text.specs.declared.front.Front.{Front}
use Rattle.rtl_text.specs.declared.front.Front.TheVariants.{Gap, Note, Star, One, NotAscii, BadNumber, BadCharacter, LongWord, OpenComment}

-- ---- comments

abbrev pub is_no_blank : ℕ → Bool
is_no_blank b = not (is_blank b)

abbrev pub without_blanks : List ℕ → List ℕ
without_blanks text = drop (prefix_len is_blank text) text

-- the first word, empty where there is none
abbrev pub word_of : List ℕ → List ℕ
word_of text = take (prefix_len is_no_blank (without_blanks text)) (without_blanks text)

abbrev pub after_word : List ℕ → List ℕ
after_word text = drop (prefix_len is_no_blank (without_blanks text)) (without_blanks text)

abbrev pub told_at : List ℕ → List ℕ → List ℕ → Option Pragma
told_at v w x =
    if length x == 0 then (if length w == 0 then told_by_one v else told_by_two v w) else None

abbrev pub told_after : List ℕ → Option Pragma
told_after text = told_at (word_of text) (word_of (after_word text)) (word_of (after_word (after_word text)))

-- what it tells where it is exactly a pragma
abbrev pub exact_at : List ℕ → Option Pragma
exact_at text = if is_vendor (word_of text) then told_after (after_word text) else None

-- whether it is worded like a pragma
abbrev pub loose_at : List ℕ → Bool
loose_at text = is_tool (word_of text) && has_pragma_word text

unfoldable pub pragma_at : List ℕ → Option Pragma
pragma_at text = told_or_loose (exact_at text) (loose_at text)

abbrev pub noted : ℕ → Option Pragma → Front
noted size None = Gap size
noted size (Some p) = Note p size

-- how many bytes stand before the first `*/`
abbrev pub end_at : List ℕ → Option ℕ
end_at [] = None
end_at (b ∷ bs) = if b == 42 && first bs == 47 then Some 0 else option_map (λ n. 1 + n) (end_at bs)

unfoldable pub line_at : List ℕ → Front
line_at text = noted (2 + prefix_len is_in_line text) (pragma_at (take (prefix_len is_in_line text) text))

abbrev pub block_of : List ℕ → Option ℕ → Front
block_of text None = OpenComment
block_of text (Some n) = noted (4 + n) (pragma_at (take n text))

unfoldable pub block_at : List ℕ → Front
block_at text = block_of text (end_at text)

-- ---- tokens

abbrev pub valued : ℕ → Option Literal → Front
valued size None = BadNumber
valued size (Some value) = One (Number value) size

-- a word, where it isn't too long
abbrev pub worded : Tok → ℕ → Front
worded kind size = if nat_le size MAX_WORD then One kind size else LongWord

unfoldable pub judged : List ℕ → Form → ℕ → Front
judged text Name size = worded Word size
judged text Numeral size = valued size (literal (take size text))
judged text Quoted size = One Str size
judged text Sign size = One Mark size
judged text Ticked size = worded Directive size

abbrev pub token_of : List ℕ → Option (Form × ℕ) → Front
token_of text None = if is_ascii (first text) then BadCharacter else NotAscii
token_of text (Some found) = judged text found.0 found.1

unfoldable pub token_at : List ℕ → Front
token_at text = token_of text (form_at text)

-- whether `(*`, blanks and `)` come
unfoldable pub star_at : List ℕ → Bool
star_at text = first text == 40 && first (drop 1 text) == 42 && first (without_blanks (drop 2 text)) == 41

unfoldable pub front : List ℕ → Front
front text =
    if is_blank (first text) then Gap 1 else
    if first text == 47 && first (drop 1 text) == 47 then line_at (drop 2 text) else
    if first text == 47 && first (drop 1 text) == 42 then block_at (drop 2 text) else
    if star_at text then Star else token_at text
