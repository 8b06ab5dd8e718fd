-- A token that begins a text is found there, by its form and at its length or a greater one.
use Rattle.std.proofs.Common.{◌≡◌, ℕ, suc, ◌+◌, ◌≤◌, Bool, true, false, cond, not, ◌&&◌, ◌||◌, ◌==◌, List, [], ◌∷◌, ◌++◌, length, drop, codes, Option, Some, None, inl, inr, refl, sym, ap, subst, ◌∙◌, arith, eqb-true, append_assoc, length-append}
use Rattle.std.proofs.lemmas.List.{drop-drop}
use Rattle.std.specs.Option.{option_map}
use Rattle.std.specs.List.{prefix_len, list_all}
use Rattle.std.proofs.lemmas.Bool.Decides.{nat_tests}
use Rattle.rtl_tree.specs.declared.token.Form.{Form}
use Rattle.rtl_tree.specs.declared.token.Form.TheVariants.{Name, Numeral, Quoted, Sign, Ticked}
use Rattle.rtl_tree.specs.Lexemes.{is_blank, is_in_line, opens_word, is_in_word, is_decimal, is_in_decimal, is_in_digits, is_base, is_sign, has, is_single, is_pair, is_triple, Each, Stops, IsName, IsWord, IsDirective, IsDecimal, IsDigits, IsSigned, IsBased, IsNumeral, IsInside, IsQuoted, IsSign, HasForm}
use Rattle.rtl_text.specs.Forms.{first, name_at, inside_at, digits_at, signed_at, based_at, base_from, decimal_or, sized_at, mark_at, formed, form_at}
use Rattle.rtl_text.proofs.Runs.{one_more, drop_front, prefix_exact, prefix_least}

-- what is found has a length of at least `n`
pub record Finds (o : Option ℕ) (n : ℕ) : Type 0 where
  pub size : ℕ
  pub is : o ≡ Some size
  pub least : n ≤ size

more_found : (o : Option ℕ) (n : ℕ) → Finds o n → Finds (option_map (λ k. 1 + k) o) (suc n)
more_found o n h = record { size = 1 + h.size; is = ap (λ x. option_map (λ k. 1 + k) x) h.is; least = omega (arith, h.least) }

-- where a test of the front holds, or not
pub when : {A : Type 0} (o : Bool) (x y r : A) → o ≡ true → x ≡ r → cond o x y ≡ r
when true x y r e h = h
when false x y r e h = cc

pub unless : {A : Type 0} (o : Bool) (x y r : A) → o ≡ false → y ≡ r → cond o x y ≡ r
unless false x y r e h = h
unless true x y r e h = cc

pub name_again : (body tail : List ℕ) → IsName body → Finds (name_at (body ++ tail)) (length body)
unfolding name_at
name_again [] tail h = absurd h
name_again (b ∷ bs) tail h = record {
  size = 1 + prefix_len is_in_word (bs ++ tail);
  is = when (opens_word b) _ _ _ h.0 refl;
  least = omega (arith, prefix_least is_in_word bs tail h.1);
}

-- ---- strings

more_some : (n : ℕ) → option_map (λ k. 1 + k) (Some n) ≡ Some (suc n)
more_some n = ap (λ m. Some m) (one_more n)

not_line : (b : ℕ) → is_in_line b ≡ true → (b == 10) ≡ false
not_line b h = grind (arith, nat_tests)

plain_byte : (b : ℕ) → (is_in_line b && not (b == 34) && not (b == 92)) ≡ true → ((b == 10) ≡ false) × ((b == 34) ≡ false) × ((b == 92) ≡ false)
plain_byte b h = (grind (arith, nat_tests), grind (arith, nat_tests), grind (arith, nat_tests))

pub inside_again : (body tail : List ℕ) (e : Bool) → IsInside e body → inside_at e (body ++ tail) ≡ Some (length body)
inside_again [] tail true h = absurd h
inside_again [] tail false h = absurd h
inside_again (b ∷ bs) tail true h =
    unless (b == 10) _ _ _ (not_line b h.0) (ap (λ o. option_map (λ k. 1 + k) o) (inside_again bs tail false h.1) ∙ more_some (length bs))
inside_again (b ∷ bs) tail false (inl h) =
    subst (λ c. inside_at false (c ∷ bs ++ tail) ≡ Some (suc (length bs))) (sym h.0) (subst (λ xs. Some 1 ≡ Some (suc (length xs))) (sym h.1) refl)
inside_again (b ∷ bs) tail false (inr (inl h)) =
    subst (λ c. inside_at false (c ∷ bs ++ tail) ≡ Some (suc (length bs))) (sym h.0)
    (ap (λ o. option_map (λ k. 1 + k) o) (inside_again bs tail true h.1) ∙ more_some (length bs))
inside_again (b ∷ bs) tail false (inr (inr h)) =
    let w = plain_byte b h.0 in
    unless (b == 10) _ _ _ w.0 (unless (b == 34) _ _ _ w.1
    (ap (λ s. option_map (λ k. 1 + k) (inside_at s (bs ++ tail))) w.2
    ∙ ap (λ o. option_map (λ k. 1 + k) o) (inside_again bs tail false h.1) ∙ more_some (length bs)))

-- ---- numbers

digit_no_blank : (b : ℕ) → is_in_digits b ≡ true → is_blank b ≡ false
digit_no_blank b h = grind (arith, nat_tests)

-- blanks, and then digits
gap_again : (gap digits tail : List ℕ) → Each is_blank gap → Each is_in_digits digits
    → length gap + length digits ≤ prefix_len is_blank (gap ++ (digits ++ tail)) + prefix_len is_in_digits (drop (prefix_len is_blank (gap ++ (digits ++ tail))) (gap ++ (digits ++ tail)))
gap_again gap [] tail h k = omega (arith, prefix_least is_blank gap tail h)
gap_again gap (d ∷ ds) tail h k =
    let e : prefix_len is_blank (gap ++ (d ∷ ds ++ tail)) ≡ length gap = prefix_exact is_blank gap (d ∷ ds ++ tail) h (digit_no_blank d k.0) in
    let m : length (d ∷ ds) ≤ prefix_len is_in_digits (d ∷ ds ++ tail) = prefix_least is_in_digits (d ∷ ds) tail k in
    subst (λ n. length gap + length (d ∷ ds) ≤ n + prefix_len is_in_digits (drop n (gap ++ (d ∷ ds ++ tail)))) (sym e)
    (subst (λ xs. length gap + length (d ∷ ds) ≤ length gap + prefix_len is_in_digits xs) (sym (drop_front gap (d ∷ ds ++ tail))) (omega (arith, m)))

pub digits_again : (body tail : List ℕ) → IsDigits body → Finds (digits_at (body ++ tail)) (length body)
unfolding digits_at
digits_again [] tail h = absurd h
digits_again (b ∷ bs) tail h =
    let xs = bs ++ tail in
    let gap = h.1.0 in
    let digits = h.1.1 in
    let same : bs ++ tail ≡ gap ++ (digits ++ tail) = ap (λ ys. ys ++ tail) h.1.2 ∙ append_assoc gap digits tail in
    let run = gap_again gap digits tail h.1.3 h.1.4 in
    let least : length gap + length digits ≤ prefix_len is_blank xs + prefix_len is_in_digits (drop (prefix_len is_blank xs) xs) =
    subst (λ ys. length gap + length digits ≤ prefix_len is_blank ys + prefix_len is_in_digits (drop (prefix_len is_blank ys) ys)) (sym same) run in
    let size : length bs ≡ length gap + length digits = ap length h.1.2 ∙ length-append gap digits in
    record {
      size = 1 + prefix_len is_blank xs + prefix_len is_in_digits (drop (prefix_len is_blank xs) xs);
      is = when (is_base b) _ _ _ h.0 refl;
      least = omega (arith, least, size);
    }

base_no_sign : (b : ℕ) → is_base b ≡ true → is_sign b ≡ false
base_no_sign b h = grind (arith, nat_tests)

pub signed_again : (body tail : List ℕ) → IsSigned body → Finds (signed_at (body ++ tail)) (length body)
unfolding signed_at
signed_again [] tail h = absurd h
signed_again (b ∷ bs) tail (inl h) =
    let w = digits_again (b ∷ bs) tail h in
    record { size = w.size; is = unless (is_sign b) _ _ _ (base_no_sign b h.0) w.is; least = w.least }
signed_again (b ∷ bs) tail (inr h) =
    let w = more_found (digits_at (bs ++ tail)) (length bs) (digits_again bs tail h.1) in
    record { size = w.size; is = when (is_sign b) _ _ _ h.0 w.is; least = w.least }

pub based_again : (body tail : List ℕ) → IsBased body → Finds (based_at (body ++ tail)) (length body)
unfolding based_at
based_again [] tail h = absurd h
based_again (b ∷ bs) tail h =
    let w = more_found (signed_at (bs ++ tail)) (length bs) (signed_again bs tail h.1) in
    record { size = w.size; is = subst (λ c. cond (c == 39) (option_map (λ k. 1 + k) (signed_at (bs ++ tail))) None ≡ Some w.size) (sym h.0) w.is; least = w.least }

decimal_is_in : (b : ℕ) → is_decimal b ≡ true → is_in_decimal b ≡ true
decimal_is_in b h = rw h refl

all_in : (xs : List ℕ) → IsDecimal xs → Each is_in_decimal xs
all_in [] h = tt
all_in (b ∷ bs) h = (decimal_is_in b h.0, h.1)

-- a decimal at the front is found with its digits at least
least_or : (text : List ℕ) (o : Option ℕ) → prefix_len is_in_decimal text ≤ decimal_or text o
least_or text None = omega arith
least_or text (Some n) = omega arith

pub decimal_again : (body tail : List ℕ) → IsDecimal body → length body ≤ sized_at (body ++ tail)
unfolding sized_at
decimal_again body tail h =
    let a = prefix_least is_in_decimal body tail (all_in body h) in
    let b = least_or (body ++ tail) (based_at (drop (base_from (body ++ tail)) (body ++ tail))) in
    omega (arith, a, b)

blank_no_decimal : (b : ℕ) → is_blank b ≡ true → is_in_decimal b ≡ false
blank_no_decimal b h = grind (arith, nat_tests)

quote_stops : (p : ℕ → Bool) (based tail : List ℕ) → p 39 ≡ false → IsBased based → Stops p (based ++ tail)
quote_stops p [] tail e h = absurd h
quote_stops p (b ∷ bs) tail e h = ap p h.0 ∙ e

gap_stops : (gap rest : List ℕ) → Each is_blank gap → Stops is_in_decimal rest → Stops is_in_decimal (gap ++ rest)
gap_stops [] rest h s = s
gap_stops (g ∷ gs) rest h s = blank_no_decimal g h.0

sized_as : (text : List ℕ) (k g n : ℕ) (rest : List ℕ) → prefix_len is_in_decimal text ≡ k → prefix_len is_blank (drop k text) ≡ g → drop (k + g) text ≡ rest → based_at rest ≡ Some n → sized_at text ≡ k + g + n
unfolding sized_at
sized_as text k g n rest a b d e =
    let front : base_from text ≡ k + g = ap (λ m. m + prefix_len is_blank (drop m text)) a ∙ ap (λ m. k + m) b in
    ap (λ m. decimal_or text (based_at (drop m text))) front
    ∙ ap (λ xs. decimal_or text (based_at xs)) d
    ∙ ap (λ o. decimal_or text o) e
    ∙ ap (λ m. m + n) front

pub sized_again : (width gap based tail : List ℕ) → IsDecimal width → Each is_blank gap → IsBased based → length width + length gap + length based ≤ sized_at (width ++ (gap ++ (based ++ tail)))
sized_again width gap based tail h g b =
    let rest = based ++ tail in
    let text = width ++ (gap ++ rest) in
    let w = based_again based tail b in
    let a : prefix_len is_in_decimal text ≡ length width = prefix_exact is_in_decimal width (gap ++ rest) (all_in width h) (gap_stops gap rest g (quote_stops is_in_decimal based tail refl b)) in
    let d : drop (length width) text ≡ gap ++ rest = drop_front width (gap ++ rest) in
    let c : prefix_len is_blank (drop (length width) text) ≡ length gap = ap (λ xs. prefix_len is_blank xs) d ∙ prefix_exact is_blank gap rest g (quote_stops is_blank based tail refl b) in
    let e : drop (length width + length gap) text ≡ rest = sym (drop-drop (length gap) (length width) text) ∙ ap (λ xs. drop (length gap) xs) d ∙ drop_front gap rest in
    let s : sized_at text ≡ length width + length gap + w.size = sized_as text (length width) (length gap) w.size rest a c e w.is in
    omega (arith, s, w.least)

-- ---- all forms

-- what is found has this form, and a length of at least `n`
pub record FindsForm (form : Form) (n : ℕ) (text : List ℕ) : Type 0 where
  pub size : ℕ
  pub is : form_at text ≡ Some (form, size)
  pub least : n ≤ size

found_form : (form : Form) (o : Option ℕ) (n : ℕ) (text : List ℕ) → Finds o n → form_at text ≡ formed form o → FindsForm form n text
found_form form o n text h e = record { size = h.size; is = e ∙ ap (λ x. formed form x) h.is; least = h.least }

opened : (b : ℕ) (bs : List ℕ) → opens_word b ≡ true → form_at (b ∷ bs) ≡ formed Name (name_at (b ∷ bs))
unfolding form_at
opened b bs h = when (opens_word b) _ _ _ h refl

word_again : (body tail : List ℕ) → IsWord body → FindsForm Name (length body) (body ++ tail)
unfolding form_at
word_again [] tail h = absurd h
word_again (b ∷ bs) tail (inl h) = found_form Name (name_at (b ∷ bs ++ tail)) (length (b ∷ bs)) (b ∷ bs ++ tail) (name_again (b ∷ bs) tail h) (opened b (bs ++ tail) h.0)
word_again (b ∷ bs) tail (inr h) =
    subst (λ c. FindsForm Name (suc (length bs)) (c ∷ bs ++ tail)) (sym h.0)
    (found_form Name (option_map (λ k. 1 + k) (name_at (bs ++ tail))) (suc (length bs)) (36 ∷ bs ++ tail) (more_found (name_at (bs ++ tail)) (length bs) (name_again bs tail h.1)) refl)

directive_again : (body tail : List ℕ) → IsDirective body → FindsForm Ticked (length body) (body ++ tail)
unfolding form_at
directive_again [] tail h = absurd h
directive_again (b ∷ bs) tail h =
    subst (λ c. FindsForm Ticked (suc (length bs)) (c ∷ bs ++ tail)) (sym h.0)
    (found_form Ticked (option_map (λ k. 1 + k) (name_at (bs ++ tail))) (suc (length bs)) (96 ∷ bs ++ tail) (more_found (name_at (bs ++ tail)) (length bs) (name_again bs tail h.1)) refl)

quoted_again : (body tail : List ℕ) → IsQuoted body → FindsForm Quoted (length body) (body ++ tail)
unfolding form_at
quoted_again [] tail h = absurd h
quoted_again (b ∷ bs) tail h =
    subst (λ c. FindsForm Quoted (suc (length bs)) (c ∷ bs ++ tail)) (sym h.0)
    (found_form Quoted (option_map (λ k. 1 + k) (inside_at false (bs ++ tail))) (suc (length bs)) (34 ∷ bs ++ tail)
    (more_found (inside_at false (bs ++ tail)) (length bs) (record { size = length bs; is = inside_again bs tail false h.1; least = omega arith })) refl)

decimal_apart : (b : ℕ) → is_decimal b ≡ true → (opens_word b ≡ false) × ((b == 36) ≡ false) × ((b == 96) ≡ false) × ((b == 34) ≡ false)
decimal_apart b h = (grind (arith, nat_tests), grind (arith, nat_tests), grind (arith, nat_tests), grind (arith, nat_tests))

numbered : (b : ℕ) (bs : List ℕ) → is_decimal b ≡ true → form_at (b ∷ bs) ≡ Some (Numeral, sized_at (b ∷ bs))
unfolding form_at
numbered b bs h =
    let w = decimal_apart b h in
    unless (opens_word b) _ _ _ w.0 (unless (b == 36) _ _ _ w.1 (unless (b == 96) _ _ _ w.2 (unless (b == 34) _ _ _ w.3 (when (is_decimal b) _ _ _ h refl))))

width_again : (width rest : List ℕ) (n : ℕ) → IsDecimal width → n ≤ sized_at (width ++ rest) → FindsForm Numeral n (width ++ rest)
width_again [] rest n h l = absurd h
width_again (b ∷ bs) rest n h l = record { size = sized_at (b ∷ bs ++ rest); is = numbered b (bs ++ rest) h.0; least = l }

numeral_again : (body tail : List ℕ) → IsNumeral body → FindsForm Numeral (length body) (body ++ tail)
unfolding form_at
numeral_again [] tail (inl h) = absurd h
numeral_again (b ∷ bs) tail (inl h) = record { size = sized_at (b ∷ bs ++ tail); is = numbered b (bs ++ tail) h.0; least = decimal_again (b ∷ bs) tail h }
numeral_again [] tail (inr (inl h)) = absurd h
numeral_again (b ∷ bs) tail (inr (inl h)) =
    found_form Numeral (based_at (b ∷ bs ++ tail)) (suc (length bs)) (b ∷ bs ++ tail) (based_again (b ∷ bs) tail h)
    (subst (λ c. form_at (c ∷ bs ++ tail) ≡ formed Numeral (based_at (c ∷ bs ++ tail))) (sym h.0) refl)
numeral_again body tail (inr (inr h)) =
    let width = h.0 in let gap = h.1 in let based = h.2 in
    let same : body ++ tail ≡ width ++ (gap ++ (based ++ tail)) = ap (λ xs. xs ++ tail) h.3 ∙ append_assoc width (gap ++ based) tail ∙ ap (λ xs. width ++ xs) (append_assoc gap based tail) in
    let size : length body ≡ length width + (length gap + length based) = ap length h.3 ∙ length-append width (gap ++ based) ∙ ap (λ n. length width + n) (length-append gap based) in
    subst (λ xs. FindsForm Numeral (length body) xs) (sym same)
    (width_again width (gap ++ (based ++ tail)) (length body) h.4 (omega (arith, size, sized_again width gap based tail h.4 h.5 h.6)))

-- ---- marks

is_apart : ℕ → Bool
is_apart b = not (opens_word b) && not (b == 36) && not (b == 96) && not (b == 34) && not (is_decimal b) && not (b == 39)

and_both : (o p : Bool) → (o && p) ≡ true → (o ≡ true) × (p ≡ true)
and_both true p h = (refl, h)
and_both false p h = cc

or_have : (p : ℕ → Bool) (c : ℕ) (cs : List ℕ) (b : ℕ) (o : Bool) → (b == c) ≡ o → p c ≡ true → (has cs b ≡ true → p b ≡ true) → (o || has cs b) ≡ true → p b ≡ true
or_have p c cs b true e h f k = ap p (eqb-true b c e) ∙ h
or_have p c cs b false e h f k = f k

pub all_have : (p : ℕ → Bool) (cs : List ℕ) (b : ℕ) → list_all p cs ≡ true → has cs b ≡ true → p b ≡ true
all_have p [] b h k = cc
all_have p (c ∷ cs) b h k = let w = and_both (p c) (list_all p cs) h in or_have p c cs b (b == c) refl w.0 (all_have p cs b w.1) k

single_apart : (b : ℕ) → is_single b ≡ true → is_apart b ≡ true
unfolding is_single is_apart
single_apart b h = all_have is_apart (codes "()[]{};:,.=+-*/%&|^~!<>?@#") b refl h

not_true : (o : Bool) → not o ≡ true → o ≡ false
not_true false h = refl
not_true true h = cc

marked : (b : ℕ) (bs : List ℕ) → is_single b ≡ true → form_at (b ∷ bs) ≡ Some (Sign, mark_at b bs)
unfolding form_at is_apart
marked b bs h =
    let w = single_apart b h in
    let w5 = and_both (not (opens_word b) && not (b == 36) && not (b == 96) && not (b == 34) && not (is_decimal b)) (not (b == 39)) w in
    let w4 = and_both (not (opens_word b) && not (b == 36) && not (b == 96) && not (b == 34)) (not (is_decimal b)) w5.0 in
    let w3 = and_both (not (opens_word b) && not (b == 36) && not (b == 96)) (not (b == 34)) w4.0 in
    let w2 = and_both (not (opens_word b) && not (b == 36)) (not (b == 96)) w3.0 in
    let w1 = and_both (not (opens_word b)) (not (b == 36)) w2.0 in
    unless (opens_word b) _ _ _ (not_true (opens_word b) w1.0) (unless (b == 36) _ _ _ (not_true (b == 36) w1.1) (unless (b == 96) _ _ _ (not_true (b == 96) w2.1)
    (unless (b == 34) _ _ _ (not_true (b == 34) w3.1) (unless (is_decimal b) _ _ _ (not_true (is_decimal b) w4.1)
    (unless (b == 39) _ _ _ (not_true (b == 39) w5.1) (when (is_single b) _ _ _ h refl))))))

pair_opens : (a b : ℕ) → is_pair a b ≡ true → is_single a ≡ true
unfolding is_pair is_single
pair_opens a b h = grind (arith, nat_tests)

triple_opens : (a b c : ℕ) → is_triple a b c ≡ true → is_single a ≡ true
unfolding is_triple is_single
triple_opens a b c h = grind (arith, nat_tests)

one_least : (o p : Bool) → 1 ≤ cond o 3 (cond p 2 1)
one_least true p = omega arith
one_least false true = omega arith
one_least false false = omega arith

two_least : (o p : Bool) → p ≡ true → 2 ≤ cond o 3 (cond p 2 1)
two_least true p e = omega arith
two_least false true e = omega arith
two_least false false e = cc

three_least : (o p : Bool) → o ≡ true → 3 ≤ cond o 3 (cond p 2 1)
three_least true p e = omega arith
three_least false p e = cc

sign_again : (body tail : List ℕ) → IsSign body → FindsForm Sign (length body) (body ++ tail)
unfolding mark_at
sign_again [] tail h = absurd h
sign_again (a ∷ []) tail h = record { size = mark_at a tail; is = marked a tail h; least = one_least (is_triple a (first tail) (first (drop 1 tail))) (is_pair a (first tail)) }
sign_again (a ∷ b ∷ []) tail h = record { size = mark_at a (b ∷ tail); is = marked a (b ∷ tail) (pair_opens a b h); least = two_least (is_triple a b (first tail)) (is_pair a b) h }
sign_again (a ∷ b ∷ c ∷ []) tail h = record { size = mark_at a (b ∷ c ∷ tail); is = marked a (b ∷ c ∷ tail) (triple_opens a b c h); least = three_least (is_triple a b c) (is_pair a b) h }
sign_again (a ∷ b ∷ c ∷ d ∷ bs) tail h = absurd h

pub form_again : (form : Form) (body tail : List ℕ) → HasForm form body → FindsForm form (length body) (body ++ tail)
form_again Name body tail h = word_again body tail h
form_again Numeral body tail h = numeral_again body tail h
form_again Quoted body tail h = quoted_again body tail h
form_again Sign body tail h = sign_again body tail h
form_again Ticked body tail h = directive_again body tail h
