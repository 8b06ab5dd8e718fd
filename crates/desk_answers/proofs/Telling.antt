-- What the conditions of files are told of other files.
use Rattle.std.proofs.Common.{◌≡◌, ◌∙◌, ℕ, zero, suc, true, Bool, List, [], ◌∷◌, map, ap, refl, subst, sym}
use Rattle.std.specs.Prelude.{◌&&◌, Option, None, Some, position, slice_get, unwrap_or}
use Rattle.std.proofs.lemmas.Bool.{and_from, and_parts}
use Rattle.desk_memo.specs.rtl_prep.Conditions.{FileConditions}
use Rattle.rtl_front.specs.Fronts.{AreAsked, IsAsked}
use Rattle.desk_memo.specs.check_conditions.Foreign.{elsewhere_in, file_at, foreign_by, foreign_in, nothing_asked}
use Rattle.desk_files.specs.Sources.{is_named}
use Rattle.source_file.specs.declared.SourceFile.{SourceFile}
use Rattle.source_file.specs.SourceFiles.{texts_in}
use Rattle.desk_memo.specs.Orders.{AreInOrder}
use Rattle.desk_memo.specs.Rulings.{are_told, is_same_list, is_told, is_told_at}
use Rattle.desk_memo.proofs.Found.{OneAsked}
use Rattle.desk_memo.proofs.Told.{same_itself, same_lists}
use Rattle.desk_answers.proofs.Ordered.{place_itself}
use Rattle.desk_answers.proofs.Standing.{AreAt}

-- ---- what is told of a file

told_is : (files : List SourceFile) (conditions : List FileConditions) (number : ℕ) (file : SourceFile) (was : List Bool) → AreInOrder files → slice_get files number ≡ Some file → is_told files conditions file was ≡ is_same_list (elsewhere_in conditions number) was
told_is files conditions number file was order at =
    ap (λ (it : Option ℕ). is_told_at conditions it was) (place_itself files number file order at)

-- it is told as it is
pub all_told : (files : List SourceFile) (conditions : List FileConditions) (numbers : List ℕ) (used : List SourceFile) → AreInOrder files → AreAt files numbers used → are_told files conditions used (map (elsewhere_in conditions) numbers) ≡ true
all_told files conditions [] [] order at = refl
all_told files conditions [] (file ∷ used) order at = absurd at
all_told files conditions (number ∷ numbers) [] order at = absurd at
all_told files conditions (number ∷ numbers) (file ∷ used) order at =
    and_from (is_told files conditions file (elsewhere_in conditions number)) (are_told files conditions used (map (elsewhere_in conditions) numbers))
    (told_is files conditions number file (elsewhere_in conditions number) order at.0 ∙ same_itself (elsewhere_in conditions number))
    (all_told files conditions numbers used order at.1)

-- ---- a file that is used still

asked_at : (files : List SourceFile) (conditions : List FileConditions) (number : ℕ) (file : SourceFile) → AreAsked (texts_in files) conditions → slice_get files number ≡ Some file → IsAsked file.text (file_at conditions number)
asked_at [] conditions number file asked at = absurd (cc)
asked_at (first ∷ files) [] number file asked at = absurd asked
asked_at (first ∷ files) (here ∷ conditions) zero file asked at =
    let same : first ≡ file = cc in
    subst (λ (it : SourceFile). IsAsked it.text here) same asked.0
asked_at (first ∷ files) (here ∷ conditions) (suc number) file asked at =
    asked_at files conditions number file asked.1 at

-- its conditions ask the same
same_at : OneAsked → (files others : List SourceFile) (conditions asked : List FileConditions) (number place : ℕ) (file : SourceFile) → AreAsked (texts_in files) conditions → AreAsked (texts_in others) asked → slice_get files number ≡ Some file → slice_get others place ≡ Some file → file_at conditions number ≡ file_at asked place
same_at once files others conditions asked number place file here there at was =
    let both : file_at conditions number ∷ [] ≡ file_at asked place ∷ [] =
    once (file.text ∷ []) (file_at conditions number ∷ []) (file_at asked place ∷ [])
    (asked_at files conditions number file here at, tt)
    (asked_at others asked place file there was, tt)
    in cc

-- and are told the same
same_told : (files : List SourceFile) (conditions : List FileConditions) (number : ℕ) (file : SourceFile) (was : List Bool) → AreInOrder files → slice_get files number ≡ Some file → is_told files conditions file was ≡ true → elsewhere_in conditions number ≡ was
same_told files conditions number file was order at told =
    same_lists (elsewhere_in conditions number) was (sym (told_is files conditions number file was order at) ∙ told)

pub record IsAskedOf (files : List SourceFile) (conditions : List FileConditions) : Type 0 where
  pub in_order : AreInOrder files
  pub asked : AreAsked (texts_in files) conditions

same_foreign : OneAsked → (files others : List SourceFile) (conditions asked : List FileConditions) (number place : ℕ) (file : SourceFile) → IsAskedOf files conditions → IsAskedOf others asked → slice_get files number ≡ Some file → slice_get others place ≡ Some file → is_told files conditions file (elsewhere_in asked place) ≡ true → foreign_in conditions number ≡ foreign_in asked place
same_foreign once files others conditions asked number place file here there at was told =
    ap (λ (it : FileConditions). foreign_by it (elsewhere_in conditions number))
    (same_at once files others conditions asked number place file here.asked there.asked at was)
    ∙ ap (λ (it : List Bool). foreign_by (file_at asked place) it)
    (same_told files conditions number file (elsewhere_in asked place) here.in_order at told)

-- file by file
all_foreign : OneAsked → (files others : List SourceFile) (conditions asked : List FileConditions) (numbers places : List ℕ) (used : List SourceFile) → IsAskedOf files conditions → IsAskedOf others asked → AreAt files numbers used → AreAt others places used → are_told files conditions used (map (elsewhere_in asked) places) ≡ true → map (foreign_in conditions) numbers ≡ map (foreign_in asked) places
all_foreign once files others conditions asked [] [] [] here there at was told = refl
all_foreign once files others conditions asked [] [] (file ∷ used) here there at was told = absurd at
all_foreign once files others conditions asked [] (place ∷ places) [] here there at was told = absurd was
all_foreign once files others conditions asked [] (place ∷ places) (file ∷ used) here there at was told = absurd at
all_foreign once files others conditions asked (number ∷ numbers) places [] here there at was told = absurd at
all_foreign once files others conditions asked (number ∷ numbers) [] (file ∷ used) here there at was told = absurd was
all_foreign once files others conditions asked (number ∷ numbers) (place ∷ places) (file ∷ used) here there at was told =
    let parts =
    and_parts (is_told files conditions file (elsewhere_in asked place)) (are_told files conditions used (map (elsewhere_in asked) places)) told
    in
    ap (λ (it : FileConditions). it ∷ map (foreign_in conditions) numbers)
    (same_foreign once files others conditions asked number place file here there at.0 was.0 parts.0)
    ∙ ap (λ (it : List FileConditions). foreign_in asked place ∷ it)
    (all_foreign once files others conditions asked numbers places used here there at.1 was.1 parts.1)

-- where the conditions of the files that are used are told what they were told, they ask for the same foreign names
pub foreign_same : OneAsked → (files others : List SourceFile) (conditions asked : List FileConditions) (numbers places : List ℕ) (used : List SourceFile) (elsewhere : List (List Bool)) → IsAskedOf files conditions → IsAskedOf others asked → AreAt files numbers used → AreAt others places used → elsewhere ≡ map (elsewhere_in asked) places → are_told files conditions used elsewhere ≡ true → map (foreign_in conditions) numbers ≡ map (foreign_in asked) places
foreign_same once files others conditions asked numbers places used elsewhere here there at was is told =
    all_foreign once files others conditions asked numbers places used here there at was
    (sym (ap (λ (it : List (List Bool)). are_told files conditions used it) is) ∙ told)
