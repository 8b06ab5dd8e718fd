-- What the code finds at the front of a text is the piece or the fault that stands there.
use Rattle.std.proofs.Common.{◌≡◌, ℕ, ◌+◌, ◌<◌, ◌≤◌, nat_le, Bool, true, false, cond, inl, inr, ◌&&◌, ◌||◌, ◌==◌, IsTrue, List, [], ◌∷◌, ◌++◌, length, take, drop, Option, Some, None, refl, sym, ap, ap₂, subst, ◌∙◌, arith, eqb-true, take-append-drop}
use Rattle.std.proofs.lemmas.List.{length-take-le}
use Rattle.std.proofs.lemmas.List.Sums.{prefix_len-le-length}
use Rattle.std.proofs.lemmas.Bool.Decides.{nat_tests}
use Rattle.std.specs.List.{prefix_len}
use Rattle.rtl_tree.specs.declared.token.TheConstants.{MAX_WORD}
use Rattle.rtl_tree.specs.declared.token.Tok.{Tok}
use Rattle.rtl_tree.specs.declared.token.Tok.TheVariants.{Word, Number, Str, Mark, Directive}
use Rattle.rtl_tree.specs.declared.token.Form.{Form}
use Rattle.rtl_tree.specs.declared.token.Form.TheVariants.{Name, Numeral, Quoted, Sign, Ticked}
use Rattle.rtl_tree.specs.declared.literal.Literal.{Literal}
use Rattle.rtl_tree.specs.Literal.{literal}
use Rattle.rtl_tree.specs.Lexemes.{is_blank, is_in_line, is_ascii, Stops, HasForm, IsLongest, leads}
use Rattle.rtl_tree.specs.Splits.{pragma, Piece, Blank, Line, Block, Star, One, size, IsKind, BeginsComment, BeginsStar, Stands, IsPiece}
use Rattle.rtl_text.specs.declared.front.Front.{Front}
use Rattle.rtl_text.specs.declared.front.Front.TheVariants as fronts
use Rattle.rtl_text.specs.Forms.{first, form_at}
use Rattle.rtl_text.specs.Fronts.{without_blanks, pragma_at, noted, end_at, line_at, block_of, block_at, valued, judged, token_of, token_at, star_at, front}
use Rattle.rtl_text.specs.Faults.{IsBadNumber, IsBadCharacter, IsLongWord, IsOpenComment, IsNotAscii}
use Rattle.rtl_text.proofs.Runs.{drop_front, each_prefix, stops_prefix, prefix_exact}
use Rattle.rtl_text.proofs.Chains.{pick}
use Rattle.rtl_text.proofs.FormTakes.{TakesForm, form_takes}
use Rattle.rtl_text.proofs.FormAgain.{FindsForm, form_again}
use Rattle.rtl_text.proofs.Pragmas.{pragma_is}
use Rattle.rtl_text.proofs.Ends.{and_both, no_or, end_takes, never_takes}

-- ---- pieces as the code names them

abbrev pub front_of : Piece → Front
front_of Blank = fronts.Gap 1
front_of (Line inside) = noted (2 + length inside) (pragma inside)
front_of (Block inside) = noted (4 + length inside) (pragma inside)
front_of Star = fronts.Star
front_of (One kind body) = fronts.One kind (length body)

-- ---- the longest token

found_longest : (text : List ℕ) (r : Form × ℕ) → form_at text ≡ Some r → IsLongest (take r.1 text) (drop r.1 text)
found_longest text r e form other tail s h =
    let w : FindsForm form (length other) (other ++ tail) = form_again form other tail h in
    let t : TakesForm text r = form_takes text r e in
    let same : text ≡ other ++ tail = sym (take-append-drop r.1 text) ∙ s in
    let two : ◌≡◌ {A = Option (Form × ℕ)} (Some r) (Some (form, w.size)) = sym e ∙ ap (λ xs. form_at xs) same ∙ w.is in
    let pair : ◌≡◌ {A = Form × ℕ} r (form, w.size) = cc in
    let n : r.1 ≡ w.size = ap (λ p. p.1) pair in
    omega (arith, w.least, n, length-take-le r.1 text t.within)

pub stands_found : (form : Form) (body text : List ℕ) → Stands form body text → form_at text ≡ Some (form, length body)
stands_found form body text h =
    let w : FindsForm form (length body) (body ++ h.0) = form_again form body h.0 h.2 in
    let e : form_at text ≡ Some (form, w.size) = ap (λ xs. form_at xs) h.1 ∙ w.is in
    let t : TakesForm text (form, w.size) = form_takes text (form, w.size) e in
    let l : length (take w.size text) ≤ length body =
    h.3 form (take w.size text) (drop w.size text) (sym h.1 ∙ sym (take-append-drop w.size text)) t.form in
    let n : w.size ≡ length body = omega (arith, l, w.least, length-take-le w.size text t.within) in
    e ∙ ap (λ k. Some (form, k)) n

-- ---- what is found is there

-- what stands at the front of a text, by what the code says
abbrev pub Shows : List ℕ → Front → Type 0
Shows text fronts.BadNumber = IsBadNumber text
Shows text fronts.BadCharacter = IsBadCharacter text
Shows text fronts.LongWord = IsLongWord text
Shows text fronts.OpenComment = IsOpenComment text
Shows text fronts.NotAscii = IsNotAscii text
Shows text front = (piece : Piece) × IsPiece text piece × (front ≡ front_of piece)

noted_shows : (text : List ℕ) (piece : Piece) (size : ℕ) (o : Option _) → IsPiece text piece → front_of piece ≡ noted size o → Shows text (noted size o)
noted_shows text piece size None h e = (piece, h, sym e)
noted_shows text piece size (Some p) h e = (piece, h, sym e)

line_shows : (cs : List ℕ) → Shows (47 ∷ 47 ∷ cs) (line_at cs)
unfolding line_at
line_shows cs =
    let n = prefix_len is_in_line cs in
    let inside = take n cs in
    noted_shows (47 ∷ 47 ∷ cs) (Line inside) (2 + n) (pragma_at inside)
    (drop n cs, ap (λ xs. 47 ∷ 47 ∷ xs) (sym (take-append-drop n cs)), each_prefix is_in_line cs, stops_prefix is_in_line cs)
    (ap (λ m. noted (2 + m) (pragma inside)) (length-take-le n cs (prefix_len-le-length is_in_line cs)) ∙ ap (λ o. noted (2 + n) o) (sym (pragma_is inside)))

block_by : (cs : List ℕ) (o : Option ℕ) → end_at cs ≡ o → Shows (47 ∷ 42 ∷ cs) (block_of cs o)
block_by cs None e = (cs, refl, never_takes cs e)
block_by cs (Some n) e =
    let w = end_takes cs n e in
    let inside = take n cs in
    noted_shows (47 ∷ 42 ∷ cs) (Block inside) (4 + n) (pragma_at inside)
    (drop (2 + n) cs, ap (λ xs. 47 ∷ 42 ∷ xs) w.parts, w.no_other)
    (ap (λ m. noted (4 + m) (pragma inside)) (length-take-le n cs w.within) ∙ ap (λ o. noted (4 + n) o) (sym (pragma_is inside)))

block_shows : (cs : List ℕ) → Shows (47 ∷ 42 ∷ cs) (block_at cs)
unfolding block_at
block_shows cs = block_by cs (end_at cs) refl

-- ---- `(*` and `)`

close_front : (xs : List ℕ) → (first xs == 41) ≡ true → xs ≡ 41 ∷ drop 1 xs
close_front [] h = cc
close_front (c ∷ cs) h = ap (λ x. x ∷ cs) (eqb-true c 41 h)

star_parts : (b c : ℕ) (cs : List ℕ) → (b ≡ 40) → (c ≡ 42) → (first (without_blanks cs) == 41) ≡ true → BeginsStar (b ∷ c ∷ cs)
star_parts b c cs e f h =
    let n = prefix_len is_blank cs in (
      take n cs,
      drop 1 (without_blanks cs),
      ap₂ (λ x y. x ∷ y ∷ cs) e f ∙ ap (λ xs. 40 ∷ 42 ∷ xs) (sym (take-append-drop n cs) ∙ ap (λ xs. take n cs ++ xs) (close_front (without_blanks cs) h)),
      each_prefix is_blank cs,
    )

pub star_takes : (text : List ℕ) → star_at text ≡ true → BeginsStar text
unfolding star_at
star_takes [] h = cc
star_takes (b ∷ []) h = let w = and_both (b == 40 && first [] == 42) (first (without_blanks (drop 2 (b ∷ []))) == 41) h in let v = and_both (b == 40) (first [] == 42) w.0 in let no : false ≡ true = v.1 in cc
star_takes (b ∷ c ∷ cs) h =
    let w = and_both (b == 40 && c == 42) (first (without_blanks cs) == 41) h in
    let v = and_both (b == 40) (c == 42) w.0 in
    star_parts b c cs (eqb-true b 40 v.0) (eqb-true c 42 v.1) w.1

close_stops : (rest : List ℕ) → Stops is_blank (41 ∷ rest)
close_stops rest = refl

pub star_again : (text : List ℕ) → BeginsStar text → star_at text ≡ true
unfolding star_at
star_again text h =
    let rest = 41 ∷ h.1 in
    let left : without_blanks (h.0 ++ rest) ≡ rest = ap (λ n. drop n (h.0 ++ rest)) (prefix_exact is_blank h.0 rest h.3 (close_stops h.1)) ∙ drop_front h.0 rest in
    ap (λ xs. star_at xs) h.2 ∙ ap (λ xs. first xs == 41) left

-- ---- tokens

no_star : (text : List ℕ) → star_at text ≡ false → BeginsStar text → ⊥
no_star text e h = let no : true ≡ false = sym (star_again text h) ∙ e in cc

-- no comment begins
abbrev bs_of : List ℕ → List ℕ
bs_of [] = []
bs_of (b ∷ bs) = bs

no_leads : (xs : List ℕ) → xs ≡ [] → IsTrue (leads 47 xs || leads 42 xs) → ⊥
no_leads [] e h = cc
no_leads (x ∷ xs) e h = cc

no_comment : (b : ℕ) (bs : List ℕ) → (b == 47 && first bs == 47) ≡ false → (b == 47 && first bs == 42) ≡ false → BeginsComment (b ∷ bs) → ⊥
no_comment b [] e f h = let same : bs_of (b ∷ []) ≡ h.0 = ap (λ xs. bs_of xs) h.2 in no_leads h.0 (sym same) h.1
no_comment b (c ∷ cs) e f h =
    let slash : b ≡ 47 = cc in
    let same : c ∷ cs ≡ h.0 = ap (λ xs. bs_of xs) h.2 in
    let lead : ((c == 47) || (c == 42)) ≡ true = subst (λ xs. (leads 47 xs || leads 42 xs) ≡ true) (sym same) h.1 in
    let none : ((c == 47) || (c == 42)) ≡ false = subst (λ x. (x == 47 && c == 47) ≡ false → (x == 47 && c == 42) ≡ false → ((c == 47) || (c == 42)) ≡ false) (sym slash) (λ p q. no_or (c == 47) (c == 42) p q) e f in
    let no : true ≡ false = sym lead ∙ none in cc

stands_there : (text : List ℕ) (r : Form × ℕ) → form_at text ≡ Some r → (¬ BeginsComment text) → (¬ BeginsStar text) → Stands r.0 (take r.1 text) text
stands_there text r e c s =
    let t : TakesForm text r = form_takes text r e in
    (drop r.1 text, sym (take-append-drop r.1 text), t.form, found_longest text r e, c, s)

within_word : (n : ℕ) → nat_le n MAX_WORD ≡ true → n ≤ MAX_WORD
within_word n h = grind (arith, nat_tests)

beyond_word : (n : ℕ) → nat_le n MAX_WORD ≡ false → MAX_WORD < n
beyond_word n h = grind (arith, nat_tests)

one_shows : (text : List ℕ) (form : Form) (n : ℕ) (kind : Tok) → n ≤ length text → Stands form (take n text) text → IsKind kind form (take n text) → Shows text (fronts.One kind n)
one_shows text form n kind l h k = (One kind (take n text), (form, h, k), ap (λ m. fronts.One kind m) (sym (length-take-le n text l)))

valued_shows : (text : List ℕ) (n : ℕ) (o : Option Literal) → literal (take n text) ≡ o → n ≤ length text → Stands Numeral (take n text) text → Shows text (valued n o)
valued_shows text n None e l h = (take n text, h, e)
valued_shows text n (Some value) e l h = one_shows text Numeral n (Number value) l h (refl, e)

word_shows : (text : List ℕ) (n : ℕ) (o : Bool) → nat_le n MAX_WORD ≡ o → n ≤ length text → Stands Name (take n text) text → Shows text (cond o (fronts.One Word n) fronts.LongWord)
word_shows text n true o l h = one_shows text Name n Word l h (refl, omega (arith, within_word n o, length-take-le n text l))
word_shows text n false o l h = (take n text, inl h, omega (arith, beyond_word n o, length-take-le n text l))

ticked_shows : (text : List ℕ) (n : ℕ) (o : Bool) → nat_le n MAX_WORD ≡ o → n ≤ length text → Stands Ticked (take n text) text → Shows text (cond o (fronts.One Directive n) fronts.LongWord)
ticked_shows text n true o l h = one_shows text Ticked n Directive l h (refl, omega (arith, within_word n o, length-take-le n text l))
ticked_shows text n false o l h = (take n text, inr h, omega (arith, beyond_word n o, length-take-le n text l))

judged_shows : (text : List ℕ) (form : Form) (n : ℕ) → n ≤ length text → Stands form (take n text) text → Shows text (judged text form n)
unfolding judged
judged_shows text Name n l h = word_shows text n (nat_le n MAX_WORD) refl l h
judged_shows text Numeral n l h = valued_shows text n (literal (take n text)) refl l h
judged_shows text Quoted n l h = one_shows text Quoted n Str l h refl
judged_shows text Sign n l h = one_shows text Sign n Mark l h refl
judged_shows text Ticked n l h = ticked_shows text n (nat_le n MAX_WORD) refl l h

no_form : (text : List ℕ) → form_at text ≡ None → (form : Form) (body tail : List ℕ) → text ≡ body ++ tail → HasForm form body → ⊥
no_form text e form body tail s h =
    let w : FindsForm form (length body) (body ++ tail) = form_again form body tail h in
    let two : ◌≡◌ {A = Option (Form × ℕ)} None (Some (form, w.size)) = sym e ∙ ap (λ xs. form_at xs) s ∙ w.is in cc

none_shows : (b : ℕ) (bs : List ℕ) (o : Bool) → is_ascii b ≡ o → is_blank b ≡ false → form_at (b ∷ bs) ≡ None → Shows (b ∷ bs) (cond o fronts.BadCharacter fronts.NotAscii)
none_shows b bs true a k e = (b, bs, refl, a, k, no_form (b ∷ bs) e)
none_shows b bs false a k e = (b, bs, refl, a)

token_by : (b : ℕ) (bs : List ℕ) (o : Option (Form × ℕ)) → form_at (b ∷ bs) ≡ o → is_blank b ≡ false → (¬ BeginsComment (b ∷ bs)) → (¬ BeginsStar (b ∷ bs)) → Shows (b ∷ bs) (token_of (b ∷ bs) o)
token_by b bs None e k c s = none_shows b bs (is_ascii b) refl k e
token_by b bs (Some r) e k c s =
    let t : TakesForm (b ∷ bs) r = form_takes (b ∷ bs) r e in
    judged_shows (b ∷ bs) r.0 r.1 t.within (stands_there (b ∷ bs) r e c s)

token_shows : (b : ℕ) (bs : List ℕ) → is_blank b ≡ false → (¬ BeginsComment (b ∷ bs)) → (¬ BeginsStar (b ∷ bs)) → Shows (b ∷ bs) (token_at (b ∷ bs))
unfolding token_at
token_shows b bs k c s = token_by b bs (form_at (b ∷ bs)) refl k c s

slashes : (d b : ℕ) (bs : List ℕ) (f : List ℕ → Front) → (0 == d) ≡ false → ((cs : List ℕ) → Shows (47 ∷ d ∷ cs) (f cs)) → (b == 47 && first bs == d) ≡ true → Shows (b ∷ bs) (f (drop 1 bs))
slashes d b [] f z g h = let w = and_both (b == 47) (0 == d) h in let no : false ≡ true = sym z ∙ w.1 in cc
slashes d b (c ∷ cs) f z g h =
    let w = and_both (b == 47) (c == d) h in
    subst (λ x. Shows (x ∷ c ∷ cs) (f cs)) (sym (eqb-true b 47 w.0)) (subst (λ x. Shows (47 ∷ x ∷ cs) (f cs)) (sym (eqb-true c d w.1)) (g cs))

pub shows : (text : List ℕ) → 0 < length text → Shows text (front text)
unfolding front
shows [] h = absurd (omega arith)
shows (b ∷ bs) h =
    let text = b ∷ bs in
    let there : (x : Front) → Shows text x → x ≡ front text → Shows text (front text) = λ x s e. subst (λ y. Shows text y) e s in
    pick (is_blank b) _ _ (front text) (Shows text (front text))
    (λ o e. there (fronts.Gap 1) (Blank, (b, bs, refl, o), refl) e)
    (λ k. pick (b == 47 && first bs == 47) _ _ (front text) (Shows text (front text))
    (λ o e. there (line_at (drop 1 bs)) (slashes 47 b bs line_at refl line_shows o) e)
    (λ l. pick (b == 47 && first bs == 42) _ _ (front text) (Shows text (front text))
    (λ o e. there (block_at (drop 1 bs)) (slashes 42 b bs block_at refl block_shows o) e)
    (λ m. pick (star_at text) _ _ (front text) (Shows text (front text))
    (λ o e. there fronts.Star (Star, star_takes text o, refl) e)
    (λ s e. there (token_at text) (token_shows b bs k (no_comment b bs l m) (no_star text s)) e)))) refl
