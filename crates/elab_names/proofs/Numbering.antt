-- Files that are numbered among themselves: each has its place among the ascending numbers.
use Rattle.std.specs.List.{Contains, slice_get}
use Rattle.std.specs.List.Sorted.{IsStrictlyIncreasing}
use Rattle.std.proofs.Common.{◌≡◌, ◌∙◌, ℕ, zero, suc, ◌+◌, ◌<◌, ◌==◌, Bool, true, false, if◌then◌else◌, List, [], ◌∷◌, get_or, length, Option, Some, slice_index, arith, refl, ap, subst, inl, inr}
use Rattle.std.proofs.lemmas.Bool.{eq-eqb, eqb-false, eqb-true, ne_eqb}
use Rattle.std.proofs.lemmas.List.Elements.{Contains-append_cases}
use Rattle.rtl_tree.specs.TreeModule.{Circuit}
use Rattle.rtl_elab.specs.elab_links.declared.module_set.Place.{Place}
use Rattle.rtl_elab.specs.elab_links.Modules.{circuit_at, listed_at}
use Rattle.elab_names.specs.Extracts.{files_at, number_at, place_in}
use Rattle.elab_names.specs.Moves.{moved_place}
use Rattle.elab_names.proofs.Naming.{none_in, only}

-- ---- from a number to its place

-- the place is below their count, and the number is there
abbrev IsPlace : List ℕ → ℕ → ℕ → Type 0
IsPlace numbers file place = (place < length numbers) × (number_at numbers place ≡ file)

place_behind : (first : ℕ) (others : List ℕ) (file place : ℕ) → IsPlace others file place → IsPlace (first ∷ others) file (place + 1)
place_behind first others file place (below, is) =
    let next : suc place ≡ place + 1 = omega arith in
    subst (λ (n : ℕ). IsPlace (first ∷ others) file n) next (omega (arith, below), is)

place_first : (first : ℕ) (others : List ℕ) (file : ℕ) (here : Bool) → first == file ≡ here → Contains (first ∷ others) file → (Contains others file → IsPlace others file (place_in others file)) → IsPlace (first ∷ others) file (if here then 0 else place_in others file + 1)
place_first first others file true is h rest = (omega arith, eqb-true first file is)
place_first first others file false is h rest =
    place_behind first others file (place_in others file)
    (elim (Contains-append_cases (first ∷ []) others file h) [
      | inl here ↦ absurd (eqb-false first file is (only first file here))
      | inr there ↦ rest there
    ])

pub place_of : (numbers : List ℕ) (file : ℕ) → Contains numbers file → IsPlace numbers file (place_in numbers file)
place_of [] file h = absurd (none_in file h)
place_of (first ∷ others) file h =
    place_first first others file (first == file) refl h (place_of others file)

-- ---- from a place to its number

rising_others : (first : ℕ) (others : List ℕ) → IsStrictlyIncreasing (first ∷ others) → IsStrictlyIncreasing others
rising_others first others rising k below =
    let next : suc k + 1 ≡ suc (k + 1) = omega arith in
    subst (λ (n : ℕ). slice_index others k < slice_index (first ∷ others) n) next (rising (suc k) (omega (arith, below)))

first_below : (first : ℕ) (others : List ℕ) → IsStrictlyIncreasing (first ∷ others) → (k : ℕ) → k < length others → first < slice_index others k
first_below first [] rising k below = absurd (omega (arith, below))
first_below first (second ∷ others) rising zero below = rising 0 (omega arith)
first_below first (second ∷ others) rising (suc k) below =
    let one : first < second = rising 0 (omega arith) in
    let more : second < slice_index others k
    = first_below second others (rising_others first (second ∷ others) rising) k (omega (arith, below)) in
    omega (arith, one, more)

pub place_at : (numbers : List ℕ) → IsStrictlyIncreasing numbers → (k : ℕ) → k < length numbers → place_in numbers (number_at numbers k) ≡ k
place_at [] rising k below = absurd (omega (arith, below))
place_at (first ∷ others) rising zero below =
    ap (λ (here : Bool). if here then 0 else place_in others first + 1) (eq-eqb first first refl)
place_at (first ∷ others) rising (suc k) below =
    let inside : k < length others = omega (arith, below) in
    let other : first < number_at others k = first_below first others rising k inside in
    let next : k + 1 ≡ suc k = omega arith in
    ap (λ (here : Bool). if here then 0 else place_in others (number_at others k) + 1)
    (ne_eqb first (number_at others k) (λ same. omega (arith, other, same)))
    ∙ ap (λ (n : ℕ). n + 1) (place_at others (rising_others first others rising) k inside)
    ∙ next

-- ---- the files

files_get : (numbers : List ℕ) (files : List (List Circuit)) (k : ℕ) → k < length numbers → slice_get (files_at numbers files) k ≡ Some (get_or files (number_at numbers k) [])
files_get [] files k below = absurd (omega (arith, below))
files_get (first ∷ others) files zero below = refl
files_get (first ∷ others) files (suc k) below = files_get others files k (omega (arith, below))

-- a file that isn't there has no module
listed_or : (files : List (List Circuit)) (file index : ℕ) → listed_at (Some (get_or files file [])) index ≡ listed_at (slice_get files file) index
listed_or [] file index = refl
listed_or (first ∷ others) zero index = refl
listed_or (first ∷ others) (suc file) index = listed_or others file index

pub circuit_numbered : (numbers : List ℕ) (files : List (List Circuit)) (place : Place) → place.file < length numbers → circuit_at (files_at numbers files) place ≡ circuit_at files (moved_place (number_at numbers) place)
circuit_numbered numbers files place below =
    ap (λ (row : Option (List Circuit)). listed_at row place.index) (files_get numbers files place.file below)
    ∙ listed_or files (number_at numbers place.file) place.index
