-- A comment's words, one after the other.
use Rattle.std.proofs.Common.{◌≡◌, ℕ, ◌+◌, Bool, true, false, cond, not, ◌==◌, ◌&&◌, List, [], ◌∷◌, length, take, drop, Option, None, refl, sym, ap, ap₂, subst, ◌∙◌, arith}
use Rattle.std.proofs.lemmas.Bool.Decides.{nat_tests}
use Rattle.std.specs.List.{prefix_len}
use Rattle.rtl_tree.specs.declared.token.Pragma.{Pragma}
use Rattle.rtl_tree.specs.Lexemes.{is_blank, Stops}
use Rattle.rtl_tree.specs.Splits.{join, words, is_vendor, told_by_one, told_by_two, told, is_tool, has_pragma_word, is_loose, told_or_loose, pragma}
use Rattle.rtl_text.specs.Fronts.{is_no_blank, without_blanks, word_of, after_word, told_at, told_after, pragma_at}
use Rattle.rtl_text.proofs.Runs.{take_more, drop_more, stops_prefix}

blanks_by : (o : Bool) (b : ℕ) (bs : List ℕ) → is_blank b ≡ o → words bs ≡ words (without_blanks bs) → words (b ∷ bs) ≡ words (drop (cond o (1 + prefix_len is_blank bs) 0) (b ∷ bs))
blanks_by true b bs e h = ap (λ x. cond x (words bs) (join b bs (words bs))) e ∙ h ∙ ap (λ xs. words xs) (sym (drop_more (prefix_len is_blank bs) b bs))
blanks_by false b bs e h = refl

skip_blanks : (text : List ℕ) → words text ≡ words (without_blanks text)
skip_blanks [] = refl
skip_blanks (b ∷ bs) = blanks_by (is_blank b) b bs refl (skip_blanks bs)

join_blank : (b c : ℕ) (cs : List ℕ) (ws : List (List ℕ)) → is_blank c ≡ true → join b (c ∷ cs) ws ≡ (b ∷ []) ∷ ws
join_blank b c cs [] e = refl
join_blank b c cs (w ∷ ws) e = ap (λ x. cond x ((b ∷ []) ∷ w ∷ ws) ((b ∷ w) ∷ ws)) e

join_word : (b c : ℕ) (cs w : List ℕ) (ws : List (List ℕ)) → is_blank c ≡ false → join b (c ∷ cs) (w ∷ ws) ≡ (b ∷ w) ∷ ws
join_word b c cs w ws e = ap (λ x. cond x ((b ∷ []) ∷ w ∷ ws) ((b ∷ w) ∷ ws)) e

front_by : (o : Bool) (b c : ℕ) (cs : List ℕ) → is_blank c ≡ o → join c cs (words cs) ≡ (c ∷ take (prefix_len is_no_blank cs) cs) ∷ words (drop (prefix_len is_no_blank cs) cs)
    → join b (c ∷ cs) (words (c ∷ cs)) ≡ (b ∷ take (cond (not o) (1 + prefix_len is_no_blank cs) 0) (c ∷ cs)) ∷ words (drop (cond (not o) (1 + prefix_len is_no_blank cs) 0) (c ∷ cs))
front_by true b c cs e h = join_blank b c cs (words (c ∷ cs)) e
front_by false b c cs e h =
    let k = prefix_len is_no_blank cs in
    ap (λ x. join b (c ∷ cs) (cond x (words cs) (join c cs (words cs)))) e
    ∙ ap (λ ws. join b (c ∷ cs) ws) h
    ∙ join_word b c cs (c ∷ take k cs) (words (drop k cs)) e
    ∙ ap₂ (λ w r. (b ∷ w) ∷ words r) (sym (take_more k c cs)) (sym (drop_more k c cs))

front_word : (bs : List ℕ) (b : ℕ) → join b bs (words bs) ≡ (b ∷ take (prefix_len is_no_blank bs) bs) ∷ words (drop (prefix_len is_no_blank bs) bs)
front_word [] b = refl
front_word (c ∷ cs) b = front_by (is_blank c) b c cs refl (front_word cs c)

abbrev cons_word : List ℕ → List (List ℕ) → List (List ℕ)
cons_word [] ws = ws
cons_word (b ∷ bs) ws = (b ∷ bs) ∷ ws

cut_by : (o : Bool) (b : ℕ) (bs : List ℕ) → is_blank b ≡ o → (text : List ℕ) → o ≡ false
    → words (b ∷ bs) ≡ cons_word (take (cond (not o) (1 + prefix_len is_no_blank bs) 0) (b ∷ bs)) (words (drop (cond (not o) (1 + prefix_len is_no_blank bs) 0) (b ∷ bs)))
cut_by true b bs e text f = cc
cut_by false b bs e text f =
    let k = prefix_len is_no_blank bs in
    ap (λ x. cond x (words bs) (join b bs (words bs))) e ∙ front_word bs b
    ∙ ap₂ (λ w r. cons_word w (words r)) (sym (take_more k b bs)) (sym (drop_more k b bs))

cut : (text : List ℕ) → (first_stops : (b : ℕ) (bs : List ℕ) → text ≡ b ∷ bs → is_blank b ≡ false)
    → words text ≡ cons_word (take (prefix_len is_no_blank text) text) (words (drop (prefix_len is_no_blank text) text))
cut [] s = refl
cut (b ∷ bs) s = cut_by (is_blank b) b bs refl [] (s b bs refl)

-- the words of a text: its first word, where it has one, and the words after it
words_are : (text : List ℕ) → words text ≡ cons_word (word_of text) (words (after_word text))
words_are text =
    skip_blanks text ∙ cut (without_blanks text) (λ b bs e. subst (λ xs. Stops is_blank xs) e (stops_prefix is_blank text))

none_by : (o : Bool) (b : ℕ) (bs : List ℕ) → o ≡ false → take (cond (not o) (1 + prefix_len is_no_blank bs) 0) (b ∷ bs) ≡ [] → ⊥
none_by true b bs e h = cc
none_by false b bs e h = let no : b ∷ take (prefix_len is_no_blank bs) bs ≡ [] = sym (take_more (prefix_len is_no_blank bs) b bs) ∙ h in cc

all_blank : (text : List ℕ) → Stops is_blank text → take (prefix_len is_no_blank text) text ≡ [] → text ≡ []
all_blank [] s h = refl
all_blank (b ∷ bs) s h = absurd (none_by (is_blank b) b bs s h)

nothing_left : (text : List ℕ) → word_of text ≡ [] → without_blanks text ≡ []
nothing_left text h = all_blank (without_blanks text) (stops_prefix is_blank text) h

no_words : (text : List ℕ) → word_of text ≡ [] → words text ≡ []
no_words text h = skip_blanks text ∙ ap (λ xs. words xs) (nothing_left text h)

no_more : (text : List ℕ) → word_of text ≡ [] → word_of (after_word text) ≡ []
no_more text h = ap (λ xs. word_of (drop (prefix_len is_no_blank xs) xs)) (nothing_left text h)

some_words : (text : List ℕ) (b : ℕ) (bs : List ℕ) → word_of text ≡ b ∷ bs → words text ≡ (b ∷ bs) ∷ words (after_word text)
some_words text b bs h = words_are text ∙ ap (λ w. cons_word w (words (after_word text))) h

some_length : (x : ℕ) (xs : List ℕ) → (length (x ∷ xs) == 0) ≡ false
some_length x xs = grind (arith, nat_tests)

told_too_long : (v w : List ℕ) (y : ℕ) (ys : List ℕ) → told_at v w (y ∷ ys) ≡ None
told_too_long v w y ys = ap (λ o. cond o (cond (length w == 0) (told_by_one v) (told_by_two v w)) None) (some_length y ys)

told_two : (v : List ℕ) (x : ℕ) (xs y : List ℕ) → told_at v (x ∷ xs) y ≡ cond (length y == 0) (told_by_two v (x ∷ xs)) None
told_two v x xs y = ap (λ o. cond (length y == 0) (cond o (told_by_one v) (told_by_two v (x ∷ xs))) None) (some_length x xs)

either_none : (o : Bool) → ◌≡◌ {A = Option Pragma} (cond o None None) None
either_none true = refl
either_none false = refl

told_fourth : (w v x r y : List ℕ) → word_of r ≡ y → told (w ∷ v ∷ x ∷ words r) ≡ cond (is_vendor w) (cond (length y == 0) (told_by_two v x) None) None
told_fourth w v x r [] e = ap (λ ws. told (w ∷ v ∷ x ∷ ws)) (no_words r e)
told_fourth w v x r (y ∷ ys) e = ap (λ ws. told (w ∷ v ∷ x ∷ ws)) (some_words r y ys e)
    ∙ sym (ap (λ o. cond (is_vendor w) (cond o (told_by_two v x) None) None) (some_length y ys) ∙ either_none (is_vendor w))

told_third : (w v r x : List ℕ) → word_of r ≡ x → told (w ∷ v ∷ words r) ≡ cond (is_vendor w) (told_at v x (word_of (after_word r))) None
told_third w v r [] e = ap (λ ws. told (w ∷ v ∷ ws)) (no_words r e) ∙ ap (λ y. cond (is_vendor w) (told_at v [] y) None) (sym (no_more r e))
told_third w v r (x ∷ xs) e = ap (λ ws. told (w ∷ v ∷ ws)) (some_words r x xs e) ∙ told_fourth w v (x ∷ xs) (after_word r) (word_of (after_word r)) refl
    ∙ ap (λ p. cond (is_vendor w) p None) (sym (told_two v x xs (word_of (after_word r))))

told_nothing : (x y : List ℕ) → told_at [] x y ≡ None
told_nothing [] [] = refl
told_nothing (x ∷ xs) [] = told_two [] x xs []
told_nothing x (y ∷ ys) = told_too_long [] x y ys

told_second : (w r v : List ℕ) → word_of r ≡ v → told (w ∷ words r) ≡ cond (is_vendor w) (told_at v (word_of (after_word r)) (word_of (after_word (after_word r)))) None
told_second w r [] e =
    ap (λ ws. told (w ∷ ws)) (no_words r e)
    ∙ sym (ap (λ p. cond (is_vendor w) p None) (told_nothing (word_of (after_word r)) (word_of (after_word (after_word r)))) ∙ either_none (is_vendor w))
told_second w r (v ∷ vs) e = ap (λ ws. told (w ∷ ws)) (some_words r v vs e) ∙ told_third w (v ∷ vs) (after_word r) (word_of (after_word r)) refl

told_first : (text w : List ℕ) → word_of text ≡ w → told (words text) ≡ cond (is_vendor w) (told_after (after_word text)) None
told_first text [] e = ap (λ ws. told ws) (no_words text e)
told_first text (w ∷ ws) e = ap (λ xs. told xs) (some_words text w ws e) ∙ told_second (w ∷ ws) (after_word text) (word_of (after_word text)) refl

loose_first : (text w : List ℕ) → word_of text ≡ w → is_loose (words text) text ≡ (is_tool w && has_pragma_word text)
loose_first text [] e = ap (λ ws. is_loose ws text) (no_words text e)
loose_first text (w ∷ ws) e = ap (λ xs. is_loose xs text) (some_words text w ws e)

pub pragma_is : (text : List ℕ) → pragma_at text ≡ pragma text
unfolding pragma_at pragma
pragma_is text = ap₂ told_or_loose (sym (told_first text (word_of text) refl)) (sym (loose_first text (word_of text) refl))
