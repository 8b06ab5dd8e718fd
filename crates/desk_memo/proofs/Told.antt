-- Lists of Booleans that are told of files, one by one.
use Rattle.std.proofs.Common.{◌≡◌, ◌∙◌, suc, Bool, true, false, List, [], ◌∷◌, length, ap, refl, sym}
use Rattle.std.specs.Prelude.{◌↔◌, ◌&&◌, if◌then◌else◌, not, IsTrue}
use Rattle.rtl_prep.specs.Conditions.{FileConditions}
use Rattle.source_file.specs.declared.SourceFile.{SourceFile}
use Rattle.desk_memo.specs.Rulings.{are_told, is_same_list, is_told}

one : (first other : Bool) → (if first then other else not other) ≡ true → first ≡ other
one true true same = refl
one true false same = absurd (cc)
one false true same = absurd (cc)
one false false same = refl

itself : (first : Bool) (rest : Bool) → ((if first then first else not first) && rest) ≡ rest
itself true rest = refl
itself false rest = refl

split : (a b : Bool) → (a && b) ≡ true → (a ≡ true) × (b ≡ true)
split true b both = (refl, both)
split false b both = absurd (cc)

-- two lists that pass are the same
pub same_lists : (first second : List Bool) → is_same_list first second ≡ true → first ≡ second
same_lists [] [] same = refl
same_lists [] (b ∷ more) same = absurd (cc)
same_lists (a ∷ others) [] same = absurd (cc)
same_lists (a ∷ others) (b ∷ more) same =
    let parts = split (if a then b else not b) (is_same_list others more) same in
    ap (λ (it : Bool). it ∷ others) (one a b parts.0) ∙ ap (λ (it : List Bool). b ∷ it) (same_lists others more parts.1)

pub same_itself : (list : List Bool) → is_same_list list list ≡ true
same_itself [] = refl
same_itself (first ∷ others) = itself first (is_same_list others others) ∙ same_itself others

by_lists : (first second : List Bool) (result other : Bool) → (IsTrue result ↔ (first ≡ second)) → is_same_list first second ≡ other → result ≡ other
by_lists first second true true decides is = refl
by_lists first second false false decides is = refl
by_lists first second true false decides is =
    let same : is_same_list first second ≡ is_same_list second second = ap (λ (it : List Bool). is_same_list it second) (decides.0 refl) in
    let passes = same_itself second in
    absurd (cc)
by_lists first second false true decides is =
    let never = decides.1 (same_lists first second is) in absurd (cc)

-- what decides whether they are the same is the test
pub is_test : (first second : List Bool) (result : Bool) → (IsTrue result ↔ (first ≡ second)) → result ≡ is_same_list first second
is_test first second result decides = by_lists first second result (is_same_list first second) decides refl

-- ---- lists of other lengths

and_false : (a b : Bool) → false ≡ b → false ≡ (a && b)
and_false true b is = is
and_false false b is = refl

pub unlike : (files : List SourceFile) (conditions : List FileConditions) (used : List SourceFile) (elsewhere : List (List Bool)) → (length used ≡ length elsewhere → ⊥) → false ≡ are_told files conditions used elsewhere
unlike files conditions [] [] other = absurd (other refl)
unlike files conditions [] (was ∷ elsewhere) other = refl
unlike files conditions (file ∷ used) [] other = refl
unlike files conditions (file ∷ used) (was ∷ elsewhere) other =
    and_false (is_told files conditions file was) (are_told files conditions used elsewhere)
    (unlike files conditions used elsewhere (λ same. other (ap suc same)))
