-- The piece or the fault that stands at the front of a text is what the code finds there.
use Rattle.std.proofs.Common.{◌≡◌, ℕ, ◌+◌, ◌<◌, ◌≤◌, nat_le, ◌⊎◌, inl, inr, Bool, true, false, cond, not, ◌&&◌, ◌==◌, List, [], ◌∷◌, ◌++◌, length, take, drop, codes, Option, Some, None, refl, sym, ap, ap₂, ◌∙◌, arith, eqb-true, take-append-drop}
use Rattle.std.proofs.lemmas.Bool.Decides.{nat_tests}
use Rattle.rtl_tree.specs.declared.token.Tok.{Tok}
use Rattle.rtl_tree.specs.declared.token.Tok.TheVariants.{Word, Number, Str, Mark, Directive}
use Rattle.rtl_tree.specs.declared.token.Tok.TheVariants as kinds
use Rattle.rtl_tree.specs.declared.token.TheConstants.{MAX_WORD}
use Rattle.rtl_tree.specs.declared.token.Form.{Form}
use Rattle.rtl_tree.specs.declared.token.Form.TheVariants.{Name, Numeral, Sign, Ticked}
use Rattle.rtl_tree.specs.Literal.{literal}
use Rattle.rtl_tree.specs.Lexemes.{is_blank, is_in_line, is_ascii, opens_word, is_decimal, is_single, Each, Stops, HasForm, has_end}
use Rattle.rtl_tree.specs.Splits.{pragma, Piece, Blank, Line, Block, Star, One, IsKind, BeginsComment, BeginsStar, Stands, IsPiece}
use Rattle.rtl_text.specs.declared.front.Front.TheVariants as fronts
use Rattle.rtl_text.specs.Forms.{first, form_at}
use Rattle.rtl_text.specs.Fronts.{without_blanks, pragma_at, noted, line_at, block_of, block_at, valued, judged, token_of, token_at, star_at, front}
use Rattle.rtl_text.specs.Faults.{IsBadNumber, IsBadCharacter, IsLongWord, IsOpenComment, IsNotAscii}
use Rattle.rtl_text.proofs.Runs.{take_front, prefix_exact}
use Rattle.rtl_text.proofs.FormTakes.{TakesForm, form_takes}
use Rattle.rtl_text.proofs.FormAgain.{when, unless, all_have}
use Rattle.rtl_text.proofs.Pragmas.{pragma_is}
use Rattle.rtl_text.proofs.Ends.{and_both, end_again, never_again}
use Rattle.rtl_text.proofs.Fronts.{front_of, stands_found, star_takes, star_again}

-- ---- where a token stands, the code comes to it

is_false : (o : Bool) → (o ≡ true → ⊥) → o ≡ false
is_false true f = absurd (f refl)
is_false false f = refl

none_at : (b : ℕ) (bs : List ℕ) → opens_word b ≡ false → (b == 36) ≡ false → (b == 96) ≡ false → (b == 34) ≡ false → is_decimal b ≡ false → (b == 39) ≡ false → is_single b ≡ false → form_at (b ∷ bs) ≡ None
unfolding form_at
none_at b bs o1 o2 o3 o4 o5 o6 o7 =
    unless (opens_word b) _ _ _ o1 (unless (b == 36) _ _ _ o2 (unless (b == 96) _ _ _ o3 (unless (b == 34) _ _ _ o4 (unless (is_decimal b) _ _ _ o5 (unless (b == 39) _ _ _ o6 (unless (is_single b) _ _ _ o7 refl))))))

is_no_blank : ℕ → Bool
is_no_blank b = not (is_blank b)

single_no_blank : (b : ℕ) → is_single b ≡ true → not (is_blank b) ≡ true
unfolding is_single is_no_blank
single_no_blank b h = all_have is_no_blank (codes "()[]{};:,.=+-*/%&|^~!<>?@#") b refl h

single_ascii : (b : ℕ) → is_single b ≡ true → is_ascii b ≡ true
unfolding is_single
single_ascii b h = all_have is_ascii (codes "()[]{};:,.=+-*/%&|^~!<>?@#") b refl h

formless : (b : ℕ) (bs : List ℕ) → is_blank b ≡ true → form_at (b ∷ bs) ≡ None
formless b bs h =
    none_at b bs (grind (arith, nat_tests)) (grind (arith, nat_tests)) (grind (arith, nat_tests)) (grind (arith, nat_tests)) (grind (arith, nat_tests)) (grind (arith, nat_tests))
    (is_false (is_single b) (λ s. let no : false ≡ true = sym (ap not h) ∙ single_no_blank b s in cc))

foreign_formless : (b : ℕ) (bs : List ℕ) → is_ascii b ≡ false → form_at (b ∷ bs) ≡ None
foreign_formless b bs h =
    none_at b bs (grind (arith, nat_tests)) (grind (arith, nat_tests)) (grind (arith, nat_tests)) (grind (arith, nat_tests)) (grind (arith, nat_tests)) (grind (arith, nat_tests))
    (is_false (is_single b) (λ s. let no : false ≡ true = sym h ∙ single_ascii b s in cc))

not_twice : (b : ℕ) (c : ℕ) (bs : List ℕ) → (b == 47 && first bs == c) ≡ true → (0 == c) ≡ false → b ∷ bs ≡ 47 ∷ c ∷ drop 1 bs
not_twice b c [] h z = let w = and_both (b == 47) (0 == c) h in let no : false ≡ true = sym z ∙ w.1 in cc
not_twice b c (d ∷ ds) h z = let w = and_both (b == 47) (d == c) h in ap₂ (λ x y. x ∷ y ∷ ds) (eqb-true b 47 w.0) (eqb-true d c w.1)

comes_to : (b : ℕ) (bs : List ℕ) → is_blank b ≡ false → (b == 47 && first bs == 47) ≡ false → (b == 47 && first bs == 42) ≡ false → star_at (b ∷ bs) ≡ false → front (b ∷ bs) ≡ token_at (b ∷ bs)
unfolding front
comes_to b bs k l m s = unless (is_blank b) _ _ _ k (unless (b == 47 && first bs == 47) _ _ _ l (unless (b == 47 && first bs == 42) _ _ _ m (unless (star_at (b ∷ bs)) _ _ _ s refl)))

nothing : form_at [] ≡ None
unfolding form_at is_single
nothing = refl

token_reached : (text : List ℕ) (r : Form × ℕ) → form_at text ≡ Some r → (¬ BeginsComment text) → (¬ BeginsStar text) → front text ≡ token_at text
token_reached [] r e c s = let no : ◌≡◌ {A = Option (Form × ℕ)} None (Some r) = sym nothing ∙ e in cc
token_reached (b ∷ bs) r e c s =
    comes_to b bs
    (is_false (is_blank b) (λ k. let no : ◌≡◌ {A = Option (Form × ℕ)} None (Some r) = sym (formless b bs k) ∙ e in cc))
    (is_false (b == 47 && first bs == 47) (λ k. c (47 ∷ drop 1 bs, refl, not_twice b 47 bs k refl)))
    (is_false (b == 47 && first bs == 42) (λ k. c (42 ∷ drop 1 bs, refl, not_twice b 42 bs k refl)))
    (is_false (star_at (b ∷ bs)) (λ k. s (star_takes (b ∷ bs) k)))

token_is : (text : List ℕ) (o : Option (Form × ℕ)) → form_at text ≡ o → token_at text ≡ token_of text o
unfolding token_at
token_is text o e = ap (λ x. token_of text x) e

stands_front : (form : Form) (body text : List ℕ) → Stands form body text → front text ≡ judged text form (length body)
stands_front form body text h =
    let e = stands_found form body text h in
    token_reached text (form, length body) e h.4 h.5 ∙ token_is text (Some (form, length body)) e

taken : (body text : List ℕ) → (form : Form) → Stands form body text → take (length body) text ≡ body
taken body text form h = ap (λ xs. take (length body) xs) h.1 ∙ take_front body h.0

short_word : (n : ℕ) → n ≤ MAX_WORD → nat_le n MAX_WORD ≡ true
short_word n h = grind (arith, nat_tests)

long_word : (n : ℕ) → MAX_WORD < n → nat_le n MAX_WORD ≡ false
long_word n h = grind (arith, nat_tests)

kind_front : (kind : Tok) (form : Form) (body text : List ℕ) → Stands form body text → IsKind kind form body → judged text form (length body) ≡ fronts.One kind (length body)
unfolding judged
kind_front Word form body text h k = ap (λ f. judged text f (length body)) k.0 ∙ ap (λ o. cond o (fronts.One Word (length body)) fronts.LongWord) (short_word (length body) k.1)
kind_front (Number value) form body text h k =
    ap (λ f. judged text f (length body)) k.0 ∙ ap (λ xs. valued (length body) (literal xs)) (taken body text form h) ∙ ap (λ o. valued (length body) o) k.1
kind_front Str form body text h k = ap (λ f. judged text f (length body)) k
kind_front Mark form body text h k = ap (λ f. judged text f (length body)) k
kind_front Directive form body text h k = ap (λ f. judged text f (length body)) k.0 ∙ ap (λ o. cond o (fronts.One Directive (length body)) fronts.LongWord) (short_word (length body) k.1)
kind_front (kinds.Pragma p) form body text h k = absurd k

line_front : (inside rest : List ℕ) → Each is_in_line inside → Stops is_in_line rest → front (47 ∷ 47 ∷ inside ++ rest) ≡ noted (2 + length inside) (pragma inside)
unfolding front line_at
line_front inside rest e s =
    ap (λ n. noted (2 + n) (pragma_at (take n (inside ++ rest)))) (prefix_exact is_in_line inside rest e s)
    ∙ ap (λ xs. noted (2 + length inside) (pragma_at xs)) (take_front inside rest)
    ∙ ap (λ o. noted (2 + length inside) o) (pragma_is inside)

block_front : (inside rest : List ℕ) → has_end (inside ++ 42 ∷ []) ≡ false → front (47 ∷ 42 ∷ inside ++ (42 ∷ 47 ∷ rest)) ≡ noted (4 + length inside) (pragma inside)
unfolding front block_at
block_front inside rest e =
    ap (λ o. block_of (inside ++ (42 ∷ 47 ∷ rest)) o) (end_again inside rest e)
    ∙ ap (λ xs. noted (4 + length inside) (pragma_at xs)) (take_front inside (42 ∷ 47 ∷ rest))
    ∙ ap (λ o. noted (4 + length inside) o) (pragma_is inside)

star_front : (xs : List ℕ) → star_at (40 ∷ 42 ∷ xs) ≡ true → front (40 ∷ 42 ∷ xs) ≡ fronts.Star
unfolding front
star_front xs h = when (star_at (40 ∷ 42 ∷ xs)) _ _ _ h refl

blank_front : (b : ℕ) (bs : List ℕ) → is_blank b ≡ true → front (b ∷ bs) ≡ fronts.Gap 1
unfolding front
blank_front b bs h = when (is_blank b) _ _ _ h refl

pub piece_again : (text : List ℕ) (piece : Piece) → IsPiece text piece → front text ≡ front_of piece
piece_again text Blank h = ap (λ xs. front xs) h.2 ∙ blank_front h.0 h.1 h.3
piece_again text (Line inside) h = ap (λ xs. front xs) h.1 ∙ line_front inside h.0 h.2 h.3
piece_again text (Block inside) h = ap (λ xs. front xs) h.1 ∙ block_front inside h.0 h.2
piece_again text Star h =
    let s : star_at (40 ∷ 42 ∷ h.0 ++ (41 ∷ h.1)) ≡ true = star_again (40 ∷ 42 ∷ h.0 ++ (41 ∷ h.1)) (h.0, h.1, refl, h.3) in
    ap (λ xs. front xs) h.2 ∙ star_front (h.0 ++ (41 ∷ h.1)) s
piece_again text (One kind body) h = stands_front h.0 body text h.1 ∙ kind_front kind h.0 body text h.1 h.2

-- ---- faults

pub number_again : (text : List ℕ) → IsBadNumber text → front text ≡ fronts.BadNumber
unfolding judged
number_again text h =
    stands_front Numeral h.0 text h.1
    ∙ ap (λ xs. valued (length h.0) (literal xs)) (taken h.0 text Numeral h.1)
    ∙ ap (λ o. valued (length h.0) o) h.2

word_front : (text body : List ℕ) → Stands Name body text ⊎ Stands Ticked body text → MAX_WORD < length body → front text ≡ fronts.LongWord
unfolding judged
word_front text body (inl h) l = stands_front Name body text h ∙ ap (λ o. cond o (fronts.One Word (length body)) fronts.LongWord) (long_word (length body) l)
word_front text body (inr h) l = stands_front Ticked body text h ∙ ap (λ o. cond o (fronts.One Directive (length body)) fronts.LongWord) (long_word (length body) l)

pub word_again : (text : List ℕ) → IsLongWord text → front text ≡ fronts.LongWord
word_again text h = word_front text h.0 h.1 h.2

open_front : (inside : List ℕ) → has_end inside ≡ false → front (47 ∷ 42 ∷ inside) ≡ fronts.OpenComment
unfolding front block_at
open_front inside h = ap (λ o. block_of inside o) (never_again inside h)

pub open_again : (text : List ℕ) → IsOpenComment text → front text ≡ fronts.OpenComment
open_again text h = ap (λ xs. front xs) h.1 ∙ open_front h.0 h.2

none_found : (text : List ℕ) → ((form : Form) (body tail : List ℕ) → text ≡ body ++ tail → HasForm form body → ⊥) → (o : Option (Form × ℕ)) → form_at text ≡ o → o ≡ None
none_found text f None e = refl
none_found text f (Some r) e = let t : TakesForm text r = form_takes text r e in absurd (f r.0 (take r.1 text) (drop r.1 text) (sym (take-append-drop r.1 text)) t.form)

slash_sign : HasForm Sign (47 ∷ [])
unfolding is_single
slash_sign = refl

open_sign : HasForm Sign (40 ∷ [])
unfolding is_single
open_sign = refl

character_front : (b : ℕ) (bs : List ℕ) → is_ascii b ≡ true → is_blank b ≡ false → ((form : Form) (body tail : List ℕ) → b ∷ bs ≡ body ++ tail → HasForm form body → ⊥) → front (b ∷ bs) ≡ fronts.BadCharacter
character_front b bs a k f =
    let none : form_at (b ∷ bs) ≡ None = none_found (b ∷ bs) f (form_at (b ∷ bs)) refl in
    comes_to b bs k
    (is_false (b == 47 && first bs == 47) (λ o. f Sign (47 ∷ []) (47 ∷ drop 1 bs) (not_twice b 47 bs o refl) slash_sign))
    (is_false (b == 47 && first bs == 42) (λ o. f Sign (47 ∷ []) (42 ∷ drop 1 bs) (not_twice b 42 bs o refl) slash_sign))
    (is_false (star_at (b ∷ bs)) (λ o. let w = star_takes (b ∷ bs) o in f Sign (40 ∷ []) (42 ∷ w.0 ++ (41 ∷ w.1)) w.2 open_sign))
    ∙ token_is (b ∷ bs) None none ∙ ap (λ o. cond o fronts.BadCharacter fronts.NotAscii) a

pub character_again : (text : List ℕ) → IsBadCharacter text → front text ≡ fronts.BadCharacter
character_again text h =
    ap (λ xs. front xs) h.2 ∙ character_front h.0 h.1 h.3 h.4 (λ form body tail e. h.5 form body tail (h.2 ∙ e))

foreign_apart : (b : ℕ) → is_ascii b ≡ false → (is_blank b ≡ false) × ((b == 47) ≡ false) × ((b == 40) ≡ false)
foreign_apart b h = (grind (arith, nat_tests), grind (arith, nat_tests), grind (arith, nat_tests))

foreign_front : (b : ℕ) (bs : List ℕ) → is_ascii b ≡ false → front (b ∷ bs) ≡ fronts.NotAscii
unfolding star_at
foreign_front b bs h =
    let w = foreign_apart b h in
    comes_to b bs w.0 (ap (λ o. o && first bs == 47) w.1) (ap (λ o. o && first bs == 42) w.1) (ap (λ o. o && first bs == 42 && first (without_blanks (drop 2 (b ∷ bs))) == 41) w.2)
    ∙ token_is (b ∷ bs) None (foreign_formless b bs h) ∙ ap (λ o. cond o fronts.BadCharacter fronts.NotAscii) h

pub foreign_again : (text : List ℕ) → IsNotAscii text → front text ≡ fronts.NotAscii
foreign_again text h = ap (λ xs. front xs) h.2 ∙ foreign_front h.0 h.1 h.3
