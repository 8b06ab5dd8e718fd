-- Which files have a name, as macros are entered one after the other.
use Rattle.std.specs.Cmp.Lexicographic.{bytes_decides}
use Rattle.std.specs.List.{list_any}
use Rattle.std.specs.Str.{bytes_eq}
use Rattle.std.proofs.Common.{ℕ, ◌≡◌, ◌∙◌, ◌+◌, ◌<◌, ◌==◌, ◌&&◌, ◌||◌, Bool, true, false, not, cond, List, ◌∷◌, Option, Some, None, length, drop, get_or, refl, sym, ap, arith}
use Rattle.std.proofs.lemmas.Bool.Decides.{nat_tests}
use Rattle.std.proofs.lemmas.List.{drop_more}
use Rattle.name_map.specs.Values.{Values, with_value}
use Rattle.rtl_prep.specs.Conditions.{FileConditions}
use Rattle.check_conditions.specs.declared.providers.Provider.{Provider}
use Rattle.check_conditions.specs.declared.providers.Provider.TheVariants.{One, Many}
use Rattle.check_conditions.specs.Foreign.{has_macro, is_elsewhere_from}
use Rattle.check_conditions.specs.Kept.{is_other, joined}

-- ---- two disjunctions

or_false : (a b : Bool) → (a || (b && false)) ≡ a
or_false true b = refl
or_false false true = refl
or_false false false = refl

regroup : (was apart here rest : Bool) → ((was || (apart && here)) || (apart && rest)) ≡ (was || (apart && (here || rest)))
regroup true apart here rest = refl
regroup false false here rest = refl
regroup false true true rest = refl
regroup false true false rest = refl

or_and_true : (a b : Bool) → (a || b) ≡ (a || (b && true))
or_and_true true b = refl
or_and_true false true = refl
or_and_true false false = refl

pub or_assoc : (a b c : Bool) → ((a || b) || c) ≡ (a || (b || c))
or_assoc true b c = refl
or_assoc false b c = refl

-- ---- one file more

one_more : (number first file : ℕ) (same : Bool) → (first == file) ≡ same → is_other number (Some (cond same (One first) Many)) ≡ (not (first == number) || not (file == number))
one_more number first file true same =
    let equal : first ≡ file = grind (arith, nat_tests, same) in
    or_same (not (first == number)) ∙ ap (λ f. not (first == number) || not (f == number)) equal
  where
    or_same : (b : Bool) → b ≡ (b || b)
    or_same true = refl
    or_same false = refl
one_more number first file false same = grind (arith, nat_tests, same)

joined_other : (number file : ℕ) (had : Option Provider) → is_other number (Some (joined had file)) ≡ (is_other number had || not (file == number))
joined_other number file None = refl
joined_other number file (Some (One first)) = one_more number first file (first == file) refl
joined_other number file (Some Many) = refl

-- a name that is entered for one file more
entered_one : (values : Values Provider) (macro name : List ℕ) (number file : ℕ) (same : Bool) → bytes_eq macro name ≡ same → is_other number (cond same (Some (joined (values macro) file)) (values name)) ≡ (is_other number (values name) || (not (file == number) && same))
entered_one values macro name number file true same =
    joined_other number file (values macro)
    ∙ ap (λ m. is_other number (values m) || not (file == number)) ((bytes_decides macro name).0 same)
    ∙ or_and_true (is_other number (values name)) (not (file == number))
entered_one values macro name number file false same =
    sym (or_false (is_other number (values name)) (not (file == number)))

module _ (old new : Values Provider) (file : ℕ) (macros : List (List ℕ)) (i : ℕ) (macro : List ℕ) (inside : i < length macros) (is : macro ≡ get_or macros i macro) where
  split : drop i macros ≡ macro ∷ drop (i + 1) macros
  split = drop_more macros i macro inside ∙ ap (λ x. x ∷ drop (i + 1) macros) (sym is)

  -- with the macros that are left, the same
  pub macro_more : new ≡ with_value old macro (joined (old macro) file) → (number : ℕ) (name : List ℕ) (all : Bool) → (is_other number (old name) || (not (file == number) && list_any (λ one. bytes_eq one name) (drop i macros))) ≡ all
      → (is_other number (new name) || (not (file == number) && list_any (λ one. bytes_eq one name) (drop (i + 1) macros))) ≡ all
  macro_more put number name all before =
      let apart : Bool = not (file == number) in
      let rest : Bool = list_any (λ one. bytes_eq one name) (drop (i + 1) macros) in
      ap (λ values. is_other number (values name) || (not (file == number) && list_any (λ one. bytes_eq one name) (drop (i + 1) macros))) put
      ∙ ap (λ b. b || (not (file == number) && list_any (λ one. bytes_eq one name) (drop (i + 1) macros))) (entered_one old macro name number file (bytes_eq macro name) refl)
      ∙ regroup (is_other number (old name)) apart (bytes_eq macro name) rest
      ∙ sym (ap (λ xs. is_other number (old name) || (not (file == number) && list_any (λ one. bytes_eq one name) xs)) split)
      ∙ before

-- ---- file by file

module _ (files : List FileConditions) (i : ℕ) (file : FileConditions) (inside : i < length files) (is : file ≡ get_or files i file) (number : ℕ) (name : List ℕ) where
  pub elsewhere_more : is_elsewhere_from i (drop i files) number name ≡ ((not (i == number) && has_macro name file) || is_elsewhere_from (i + 1) (drop (i + 1) files) number name)
  elsewhere_more =
      ap (λ fs. is_elsewhere_from i fs number name) (drop_more files i file inside ∙ ap (λ x. x ∷ drop (i + 1) files) (sym is))

  pub file_more : (old new all : Bool) → new ≡ (old || (not (i == number) && has_macro name file)) → (old || is_elsewhere_from i (drop i files) number name) ≡ all → (new || is_elsewhere_from (i + 1) (drop (i + 1) files) number name) ≡ all
  file_more old new all more before =
      let rest : Bool = is_elsewhere_from (i + 1) (drop (i + 1) files) number name in
      ap (λ b. b || is_elsewhere_from (i + 1) (drop (i + 1) files) number name) more
      ∙ or_assoc old (not (i == number) && has_macro name file) rest
      ∙ sym (ap (λ b. old || b) elsewhere_more)
      ∙ before
