-- What is found at the front of a text is a token by its form.
use Rattle.std.proofs.Common.{◌≡◌, ℕ, ◌+◌, ◌≤◌, Bool, true, false, cond, not, ◌==◌, List, [], ◌∷◌, ◌++◌, length, take, drop, Option, Some, None, inl, inr, refl, sym, ap, subst, ◌∙◌, arith, eqb-true, length-drop}
use Rattle.std.proofs.Math.Seq.{take-add}
use Rattle.std.proofs.lemmas.List.{drop-drop}
use Rattle.std.proofs.lemmas.List.Sums.{prefix_len-le-length}
use Rattle.std.specs.Option.{option_map}
use Rattle.std.specs.List.{prefix_len}
use Rattle.std.proofs.lemmas.Bool.Decides.{nat_tests}
use Rattle.rtl_tree.specs.declared.token.Form.{Form}
use Rattle.rtl_tree.specs.declared.token.Form.TheVariants.{Name, Numeral, Quoted, Sign, Ticked}
use Rattle.rtl_tree.specs.Lexemes.{is_blank, opens_word, is_in_word, is_decimal, is_in_decimal, is_in_digits, is_base, is_sign, is_single, is_pair, is_triple, IsName, IsWord, IsDecimal, IsDigits, IsSigned, IsBased, IsNumeral, IsInside, IsSign, HasForm}
use Rattle.rtl_text.specs.Forms.{first, name_at, inside_at, digits_at, signed_at, based_at, base_from, decimal_or, sized_at, mark_at, formed, form_at}
use Rattle.rtl_text.proofs.Runs.{take_more, each_prefix}
use Rattle.rtl_text.proofs.Chains.{pick, formed_is, more_is}

-- a front of a text that is of some form
pub record Takes (P : List ℕ → Type 0) (n : ℕ) (text : List ℕ) : Type 0 where
  pub form : P (take n text)
  pub some : 1 ≤ n
  pub within : n ≤ length text

-- the same, by its equation
along : (P : List ℕ → Type 0) (n m : ℕ) (text : List ℕ) → m ≡ n → Takes P n text → Takes P m text
along P n m text e h = subst (λ k. Takes P k text) (sym e) h

-- one more byte in front
longer : (P Q : List ℕ → Type 0) (n b : ℕ) (bs : List ℕ) → Takes P n bs → ((xs : List ℕ) → P xs → Q (b ∷ xs)) → Takes Q (1 + n) (b ∷ bs)
longer P Q n b bs h f = record { form = subst Q (sym (take_more n b bs)) (f (take n bs) h.form); some = omega arith; within = omega (arith, h.within) }

pub name_takes : (text : List ℕ) (n : ℕ) → name_at text ≡ Some n → Takes IsName n text
unfolding name_at
name_takes [] n h = cc
name_takes (b ∷ bs) n h =
    pick (opens_word b) _ _ (Some n) (Takes IsName n (b ∷ bs))
    (λ o e. let is : 1 + prefix_len is_in_word bs ≡ n = cc in
    along IsName (1 + prefix_len is_in_word bs) n (b ∷ bs) (sym is)
    (record {
      form = subst IsName (sym (take_more (prefix_len is_in_word bs) b bs)) (o, each_prefix is_in_word bs);
      some = omega arith;
      within = omega (arith, prefix_len-le-length is_in_word bs);
    }))
    (λ o e. cc) h

-- ---- strings

inside_byte : (b : ℕ) (bs : List ℕ) (m : ℕ) (s : Bool) → (b == 92) ≡ s → (b == 10) ≡ false → (b == 34) ≡ false → Takes (IsInside s) m bs → Takes (IsInside false) (1 + m) (b ∷ bs)
inside_byte b bs m true s o q h = longer (IsInside true) (IsInside false) m b bs h (λ xs x. inr (inl (eqb-true b 92 s, x)))
inside_byte b bs m false s o q h = longer (IsInside false) (IsInside false) m b bs h (λ xs x. inr (inr (rw (o, q, s) refl, x)))

inside_step : (e : Bool) (b : ℕ) (bs : List ℕ) (n : ℕ) → ((e' : Bool) (m : ℕ) → inside_at e' bs ≡ Some m → Takes (IsInside e') m bs)
    → inside_at e (b ∷ bs) ≡ Some n → Takes (IsInside e) n (b ∷ bs)
inside_step true b bs n ih h =
    pick (b == 10) _ _ (Some n) (Takes (IsInside true) n (b ∷ bs)) (λ o e. cc)
    (λ o e. let w = more_is (inside_at false bs) n e in
    along (IsInside true) (1 + w.0) n (b ∷ bs) w.2 (longer (IsInside false) (IsInside true) w.0 b bs (ih false w.0 w.1) (λ xs x. (ap not o, x)))) h
inside_step false b bs n ih h =
    pick (b == 10) _ _ (Some n) (Takes (IsInside false) n (b ∷ bs)) (λ o e. cc)
    (λ o. pick (b == 34) _ _ (Some n) (Takes (IsInside false) n (b ∷ bs))
    (λ q e. let is : 1 ≡ n = cc in
    along (IsInside false) 1 n (b ∷ bs) (sym is) (record { form = inl (eqb-true b 34 q, refl); some = omega arith; within = omega arith }))
    (λ q e. let w = more_is (inside_at (b == 92) bs) n e in
    along (IsInside false) (1 + w.0) n (b ∷ bs) w.2
    (inside_byte b bs w.0 (b == 92) refl o q (ih (b == 92) w.0 w.1)))) h

pub inside_takes : (text : List ℕ) (e : Bool) (n : ℕ) → inside_at e text ≡ Some n → Takes (IsInside e) n text
inside_takes [] e n h = cc
inside_takes (b ∷ bs) e n h = inside_step e b bs n (inside_takes bs) h

-- ---- numbers

pub digits_takes : (text : List ℕ) (n : ℕ) → digits_at text ≡ Some n → Takes IsDigits n text
unfolding digits_at
digits_takes [] n h = cc
digits_takes (b ∷ bs) n h =
    let g = prefix_len is_blank bs in
    let d = prefix_len is_in_digits (drop g bs) in
    pick (is_base b) _ _ (Some n) (Takes IsDigits n (b ∷ bs))
    (λ o e. let is : 1 + g + d ≡ n = cc in
    let sum : n ≡ 1 + (g + d) = omega arith in
    along IsDigits (1 + (g + d)) n (b ∷ bs) sum
    (record {
      form = subst IsDigits (sym (take_more (g + d) b bs)) (o, (take g bs, take d (drop g bs), take-add g d bs, each_prefix is_blank bs, each_prefix is_in_digits (drop g bs)));
      some = omega arith;
      within = omega (arith, prefix_len-le-length is_blank bs, prefix_len-le-length is_in_digits (drop g bs), length-drop g bs);
    }))
    (λ o e. cc) h

signed_plain : (xs : List ℕ) → IsDigits xs → IsSigned xs
signed_plain [] h = h
signed_plain (b ∷ bs) h = inl h

pub signed_takes : (text : List ℕ) (n : ℕ) → signed_at text ≡ Some n → Takes IsSigned n text
unfolding signed_at
signed_takes [] n h = let w = digits_takes [] n h in record { form = signed_plain (take n []) w.form; some = w.some; within = w.within }
signed_takes (b ∷ bs) n h =
    pick (is_sign b) _ _ (Some n) (Takes IsSigned n (b ∷ bs))
    (λ o e. let w = more_is (digits_at bs) n e in
    along IsSigned (1 + w.0) n (b ∷ bs) w.2 (longer IsDigits IsSigned w.0 b bs (digits_takes bs w.0 w.1) (λ xs x. inr (o, x))))
    (λ o e. let w = digits_takes (b ∷ bs) n e in record { form = signed_plain (take n (b ∷ bs)) w.form; some = w.some; within = w.within }) h

pub based_takes : (text : List ℕ) (n : ℕ) → based_at text ≡ Some n → Takes IsBased n text
unfolding based_at
based_takes [] n h = cc
based_takes (b ∷ bs) n h =
    pick (b == 39) _ _ (Some n) (Takes IsBased n (b ∷ bs))
    (λ o e. let w = more_is (signed_at bs) n e in
    along IsBased (1 + w.0) n (b ∷ bs) w.2 (longer IsSigned IsBased w.0 b bs (signed_takes bs w.0 w.1) (λ xs x. (eqb-true b 39 o, x))))
    (λ o e. cc) h

decimal_is_in : (b : ℕ) → is_decimal b ≡ true → is_in_decimal b ≡ true
decimal_is_in b h = rw h refl

width_takes : (b : ℕ) (bs : List ℕ) → is_decimal b ≡ true → Takes IsDecimal (prefix_len is_in_decimal (b ∷ bs)) (b ∷ bs)
width_takes b bs o =
    let more : prefix_len is_in_decimal (b ∷ bs) ≡ 1 + prefix_len is_in_decimal bs = ap (λ x. cond x (1 + prefix_len is_in_decimal bs) 0) (decimal_is_in b o) in
    along IsDecimal (1 + prefix_len is_in_decimal bs) (prefix_len is_in_decimal (b ∷ bs)) (b ∷ bs) more
    (record {
      form = subst IsDecimal (sym (take_more (prefix_len is_in_decimal bs) b bs)) (o, each_prefix is_in_decimal bs);
      some = omega arith;
      within = omega (arith, prefix_len-le-length is_in_decimal bs);
    })

sum : (a b c : ℕ) → a + b + c ≡ a + (b + c)
sum a b c = omega arith

sized_by : (b : ℕ) (bs : List ℕ) → is_decimal b ≡ true → (o : Option ℕ) → based_at (drop (base_from (b ∷ bs)) (b ∷ bs)) ≡ o → Takes IsNumeral (decimal_or (b ∷ bs) o) (b ∷ bs)
sized_by b bs d None e = let w = width_takes b bs d in record { form = inl w.form; some = w.some; within = w.within }
sized_by b bs d (Some n) e =
    let text = b ∷ bs in
    let k = prefix_len is_in_decimal text in
    let g = prefix_len is_blank (drop k text) in
    let w : Takes IsDecimal k text = width_takes b bs d in
    let v : Takes IsBased n (drop (k + g) text) = based_takes (drop (base_from text) text) n e in
    let parts : take (k + g + n) text ≡ take k text ++ (take g (drop k text) ++ take n (drop (k + g) text)) =
    ap (λ m. take m text) (sum k g n) ∙ take-add k (g + n) text ∙ ap (λ xs. take k text ++ xs) (take-add g n (drop k text))
    ∙ ap (λ xs. take k text ++ (take g (drop k text) ++ take n xs)) (drop-drop g k text) in
    record {
      form = inr (inr (take k text, take g (drop k text), take n (drop (k + g) text), parts, w.form, each_prefix is_blank (drop k text), v.form));
      some = omega (arith, w.some);
      within = omega (arith, v.within, v.some, length-drop (k + g) text);
    }

pub sized_takes : (b : ℕ) (bs : List ℕ) → is_decimal b ≡ true → Takes IsNumeral (sized_at (b ∷ bs)) (b ∷ bs)
unfolding sized_at
sized_takes b bs d = sized_by b bs d (based_at (drop (base_from (b ∷ bs)) (b ∷ bs))) refl

-- ---- marks

no_triple : (a b : ℕ) → is_triple a b 0 ≡ false
unfolding is_triple
no_triple a b = grind (arith, nat_tests)

no_pair : (a : ℕ) → is_pair a 0 ≡ false
unfolding is_pair
no_pair a = grind (arith, nat_tests)

triple_sign : (a : ℕ) (bs : List ℕ) → is_triple a (first bs) (first (drop 1 bs)) ≡ true → Takes IsSign 3 (a ∷ bs)
unfolding is_triple
triple_sign a [] h = let no : is_triple a 0 0 ≡ false = no_triple a 0 in cc
triple_sign a (b ∷ []) h = let no : is_triple a b 0 ≡ false = no_triple a b in cc
triple_sign a (b ∷ c ∷ cs) h = record { form = h; some = omega arith; within = omega arith }

pair_sign : (a : ℕ) (bs : List ℕ) → is_pair a (first bs) ≡ true → Takes IsSign 2 (a ∷ bs)
pair_sign a [] h = let no : is_pair a 0 ≡ false = no_pair a in cc
pair_sign a (b ∷ bs) h = record { form = h; some = omega arith; within = omega arith }

mark_by : (a : ℕ) (bs : List ℕ) (n : ℕ) → is_single a ≡ true → mark_at a bs ≡ n → Takes IsSign n (a ∷ bs)
unfolding mark_at
mark_by a bs n s h =
    pick (is_triple a (first bs) (first (drop 1 bs))) _ _ n (Takes IsSign n (a ∷ bs))
    (λ o e. along IsSign 3 n (a ∷ bs) (sym e) (triple_sign a bs o))
    (λ o. pick (is_pair a (first bs)) _ _ n (Takes IsSign n (a ∷ bs))
    (λ q e. along IsSign 2 n (a ∷ bs) (sym e) (pair_sign a bs q))
    (λ q e. along IsSign 1 n (a ∷ bs) (sym e) (record { form = s; some = omega arith; within = omega arith }))) h

-- ---- all forms

abbrev pub TakesForm : List ℕ → Form × ℕ → Type 0
TakesForm text r = Takes (HasForm r.0) r.1 text

name_word : (xs : List ℕ) → IsName xs → IsWord xs
name_word [] h = h
name_word (b ∷ bs) h = inl h

formed_takes : (text : List ℕ) (form : Form) (o : Option ℕ) (r : Form × ℕ) → ((n : ℕ) → o ≡ Some n → Takes (HasForm form) n text) → formed form o ≡ Some r → TakesForm text r
formed_takes text form o r f h = let w = formed_is form o r h in subst (λ x. TakesForm text x) (sym w.2) (f w.0 w.1)

longer_takes : (P : List ℕ → Type 0) (form : Form) (b : ℕ) (bs : List ℕ) (o : Option ℕ) → ((n : ℕ) → o ≡ Some n → Takes P n bs) → ((xs : List ℕ) → P xs → HasForm form (b ∷ xs))
    → (n : ℕ) → option_map (λ k. 1 + k) o ≡ Some n → Takes (HasForm form) n (b ∷ bs)
longer_takes P form b bs o f g n h = let w = more_is o n h in along (HasForm form) (1 + w.0) n (b ∷ bs) w.2 (longer P (HasForm form) w.0 b bs (f w.0 w.1) g)

plain_takes : (text : List ℕ) (form : Form) (n : ℕ) (r : Form × ℕ) → Takes (HasForm form) n text → ◌≡◌ {A = Option (Form × ℕ)} (Some (form, n)) (Some r) → TakesForm text r
plain_takes text form n r w h = let is : ◌≡◌ {A = Form × ℕ} (form, n) r = cc in subst (λ x. TakesForm text x) is w

pub form_takes : (text : List ℕ) (r : Form × ℕ) → form_at text ≡ Some r → TakesForm text r
unfolding form_at is_single
form_takes [] r h = cc
form_takes (b ∷ bs) r h =
    let text = b ∷ bs in
    pick (opens_word b) _ _ (Some r) (TakesForm text r)
    (λ o. formed_takes text Name (name_at text) r (λ n e. let w = name_takes text n e in record { form = name_word (take n text) w.form; some = w.some; within = w.within }))
    (λ o1. pick (b == 36) _ _ (Some r) (TakesForm text r)
    (λ o. formed_takes text Name (option_map (λ k. 1 + k) (name_at bs)) r (longer_takes IsName Name b bs (name_at bs) (name_takes bs) (λ xs x. inr (eqb-true b 36 o, x))))
    (λ o2. pick (b == 96) _ _ (Some r) (TakesForm text r)
    (λ o. formed_takes text Ticked (option_map (λ k. 1 + k) (name_at bs)) r (longer_takes IsName Ticked b bs (name_at bs) (name_takes bs) (λ xs x. (eqb-true b 96 o, x))))
    (λ o3. pick (b == 34) _ _ (Some r) (TakesForm text r)
    (λ o. formed_takes text Quoted (option_map (λ k. 1 + k) (inside_at false bs)) r (longer_takes (IsInside false) Quoted b bs (inside_at false bs) (inside_takes bs false) (λ xs x. (eqb-true b 34 o, x))))
    (λ o4. pick (is_decimal b) _ _ (Some r) (TakesForm text r)
    (λ o. plain_takes text Numeral (sized_at text) r (sized_takes b bs o))
    (λ o5. pick (b == 39) _ _ (Some r) (TakesForm text r)
    (λ o. formed_takes text Numeral (based_at text) r (λ n e. let w = based_takes text n e in record { form = inr (inl w.form); some = w.some; within = w.within }))
    (λ o6. pick (is_single b) _ _ (Some r) (TakesForm text r)
    (λ o. plain_takes text Sign (mark_at b bs) r (mark_by b bs (mark_at b bs) o refl))
    (λ o7 e. cc))))))) h
