-- What is found among the rulings that are kept.
use Rattle.std.proofs.Common.{◌≡◌, ◌∙◌, ◌+◌, ◌<◌, ◌≤◌, ℕ, Bool, true, false, List, [], ◌∷◌, ◌++◌, get_or, set, inl, inr, length, map, take, ap, arith, refl, subst, sym}
use Rattle.std.specs.Prelude.{find, Option, None, Some, slice_get, slice_set}
use Rattle.std.specs.Option.{option_map, option_or}
use Rattle.std.proofs.lemmas.Bool.{and_parts, cases_eq}
use Rattle.std.proofs.lemmas.List.{get_or-set_other, get_or-set_same, length-map, map-append, map-set, take_all}
use Rattle.std.proofs.lemmas.List.Folds.{find-append}
use Rattle.std.proofs.lemmas.Option.{slice_get-map, slice_get_read, slice_get_within}
use Rattle.source_file.specs.declared.SourceFile.{SourceFile}
use Rattle.desk_memo.specs.declared.answer.Answer.{Answer}
use Rattle.desk_memo.specs.Readings.{AllRead}
use Rattle.desk_memo.specs.Rulings.{Ruling, current_answer, current_of, is_current, is_current_of, is_of, with_ruling}
use Rattle.desk_memo.specs.Shown.{IsPlaceOf, ruling_of}
use Rattle.desk_memo.specs.declared.kept.Kept.{Kept}
use Rattle.desk_memo.proofs.Places.{found_at, none_more, pushed, replaced}

-- ---- one by one

pub ruling_at : {V : Type 0} (kept : List (Kept V)) (place : ℕ) (one : Kept V) → place < length kept → one ≡ get_or kept place one → slice_get (map ruling_of kept) place ≡ Some (ruling_of one)
ruling_at kept place one within is =
    slice_get-map ruling_of kept place
    ∙ ap (option_map ruling_of) (slice_get_read kept (length kept) place one refl within is)

pub is_place : {V : Type 0} (test : Ruling V → Bool) (kept : List (Kept V)) (place : ℕ) (one : Kept V) → place < length kept → one ≡ get_or kept place one → find test (take place (map ruling_of kept)) ≡ None → test (ruling_of one) ≡ true → IsPlaceOf test (map ruling_of kept) (Some place)
is_place test kept place one within is none passed =
    (ruling_of one, ruling_at kept place one within is, passed, none)

pub one_more : {V : Type 0} (test : Ruling V → Bool) (kept : List (Kept V)) (place : ℕ) (one : Kept V) → place < length kept → one ≡ get_or kept place one → find test (take place (map ruling_of kept)) ≡ None → test (ruling_of one) ≡ false → find test (take (place + 1) (map ruling_of kept)) ≡ None
one_more test kept place one within is none failed =
    none_more test (map ruling_of kept) place (ruling_of one) (ruling_at kept place one within is) none failed

pub none_at_end : {V : Type 0} (test : Ruling V → Bool) (kept : List (Kept V)) (place : ℕ) → length kept ≤ place → find test (take place (map ruling_of kept)) ≡ None → find test (map ruling_of kept) ≡ None
none_at_end {V} test kept place end none =
    let long : length (map ruling_of kept) ≤ place = omega (arith, length-map kept ruling_of) in
    subst (λ (it : List (Ruling V)). find test it ≡ None) (take_all place (map ruling_of kept) long) none

-- ---- of all

pub place_within : {V : Type 0} (test : Ruling V → Bool) (kept : List (Kept V)) (place : ℕ) → IsPlaceOf test (map ruling_of kept) (Some place) → place < length kept
place_within test kept place found =
    let within = slice_get_within (map ruling_of kept) place found.0 found.1 in
    omega (arith, length-map kept ruling_of, within)

pub found_among : {V : Type 0} (test : Ruling V → Bool) (rulings more : List (Ruling V)) (ruling : Ruling V) → find test rulings ≡ Some ruling → find test (rulings ++ more) ≡ Some ruling
found_among test rulings more ruling is =
    find-append test rulings more ∙ ap (λ it. option_or it (find test more)) is

pub none_among : {V : Type 0} (test : Ruling V → Bool) (rulings more : List (Ruling V)) → find test rulings ≡ None → find test (rulings ++ more) ≡ find test more
none_among test rulings more none =
    find-append test rulings more ∙ ap (λ it. option_or it (find test more)) none

-- the ruling at the place that was found
pub found_is : {V : Type 0} (test : Ruling V → Bool) (kept : List (Kept V)) (more : List (Ruling V)) (place : ℕ) (one : Kept V) → IsPlaceOf test (map ruling_of kept) (Some place) → one ≡ get_or kept place one → find test (map ruling_of kept ++ more) ≡ Some (ruling_of one)
found_is {V} test kept more place one found is =
    let within = place_within test kept place found in
    let at = ruling_at kept place one within is in
    let same : ruling_of one ≡ found.0 = let both = sym at ∙ found.1 in cc in
    found_among test (map ruling_of kept) more (ruling_of one)
    (found_at test (map ruling_of kept) place found.0 found.1 found.3 found.2 ∙ ap (λ (it : Ruling V). Some it) (sym same))

-- ---- of the code's own values

-- a place among the rulings of a vector, by its slice, and for a top, by its bytes
abbrev IsFoundAt : {V : Type 0} → (List ℕ → Ruling V → Bool) → List (Kept V) → List ℕ → Option ℕ → Type 0
IsFoundAt test kept top place = IsPlaceOf (test top) (map ruling_of kept) place

moved : {V : Type 0} (test : List ℕ → Ruling V → Bool) (kept lent : List (Kept V)) (top bytes : List ℕ) (place : Option ℕ) → lent ≡ kept → bytes ≡ top → IsFoundAt test lent bytes place → IsFoundAt test kept top place
moved {V} test kept lent top bytes place same_kept same_top found =
    subst (λ (it : List (Kept V)). IsFoundAt test it top place) same_kept
    (subst (λ (it : List ℕ). IsFoundAt test lent it place) same_top found)

pub ruling_found : {V : Type 0} (files : List SourceFile) (all : AllRead) (kept lent : List (Kept V)) (more : List (Ruling V)) (top bytes : List ℕ) (place : ℕ) (one : Kept V) → lent ≡ kept → bytes ≡ top → IsPlaceOf (is_current_of files all bytes) (map ruling_of lent) (Some place) → one ≡ get_or kept place one → current_of files all top (map ruling_of kept ++ more) ≡ Some (ruling_of one)
ruling_found files all kept lent more top bytes place one same_kept same_top found is =
    found_is (is_current_of files all top) kept more place one
    (moved (is_current_of files all) kept lent top bytes (Some place) same_kept same_top found) is

pub answer_found : {V : Type 0} (files : List SourceFile) (all : AllRead) (kept lent : List (Kept V)) (more : List (Ruling V)) (top bytes : List ℕ) (place : ℕ) (one : Kept V) (answer : Answer V) → lent ≡ kept → bytes ≡ top → IsPlaceOf (is_current_of files all bytes) (map ruling_of lent) (Some place) → one ≡ get_or kept place one → answer ≡ one.answer.value → Some answer ≡ current_answer files all top (map ruling_of kept ++ more)
answer_found {V} files all kept lent more top bytes place one answer same_kept same_top found is says =
    ap (λ (it : Answer V). Some it) says
    ∙ sym (ap (option_map (λ (it : Ruling V). it.answer)) (ruling_found files all kept lent more top bytes place one same_kept same_top found is))

pub none_found : {V : Type 0} (files : List SourceFile) (all : AllRead) (kept lent : List (Kept V)) (more : List (Ruling V)) (top bytes : List ℕ) → lent ≡ kept → bytes ≡ top → IsPlaceOf (is_current_of files all bytes) (map ruling_of lent) None → current_of files all top (map ruling_of kept ++ more) ≡ current_of files all top more
none_found files all kept lent more top bytes same_kept same_top found =
    none_among (is_current_of files all top) (map ruling_of kept) more
    (moved (is_current_of files all) kept lent top bytes None same_kept same_top found)

-- the one that was found holds
pub found_holds : {V : Type 0} (files : List SourceFile) (all : AllRead) (kept lent : List (Kept V)) (top bytes : List ℕ) (place : ℕ) (one : Kept V) → lent ≡ kept → bytes ≡ top → IsPlaceOf (is_current_of files all bytes) (map ruling_of lent) (Some place) → one ≡ get_or kept place one → is_current files all (ruling_of one) ≡ true
found_holds {V} files all kept lent top bytes place one same_kept same_top found is =
    let at = moved (is_current_of files all) kept lent top bytes (Some place) same_kept same_top found in
    let within = place_within (is_current_of files all top) kept place at in
    let same : found.0 ≡ ruling_of one = let both = sym (ruling_at kept place one within is) ∙ at.1 in cc in
    subst (λ (it : Ruling V). is_current files all it ≡ true) same
    (and_parts (is_of bytes found.0) (is_current files all found.0) found.2).1

pub kept_at : {V : Type 0} (kept : Kept V) (items lent : List (Kept V)) (bytes : List ℕ) (place : ℕ) → lent ≡ items → bytes ≡ kept.top → IsPlaceOf (is_of bytes) (map ruling_of lent) (Some place) → map ruling_of (slice_set items place kept) ≡ with_ruling (ruling_of kept) (map ruling_of items)
kept_at kept items lent bytes place same_kept same_top found =
    let at = moved is_of items lent kept.top bytes (Some place) same_kept same_top found in
    map-set ruling_of items place kept
    ∙ replaced (ruling_of kept) (map ruling_of items) place at.0 at.1 at.3 at.2

pub kept_behind : {V : Type 0} (kept : Kept V) (items lent news : List (Kept V)) (bytes : List ℕ) → lent ≡ items → bytes ≡ kept.top → news ≡ items ++ kept ∷ [] → IsPlaceOf (is_of bytes) (map ruling_of lent) None → map ruling_of news ≡ with_ruling (ruling_of kept) (map ruling_of items)
kept_behind kept items lent news bytes same_kept same_top made found =
    let none = moved is_of items lent kept.top bytes None same_kept same_top found in
    ap (map ruling_of) made ∙ map-append ruling_of items (kept ∷ [])
    ∙ pushed (ruling_of kept) (map ruling_of items) none

-- ---- doubt

pub doubt_more : {V : Type 0} (kept : List (Kept V)) (place : ℕ) (one : Kept V) → place < length kept → one.is_checked ≡ false → ((k : ℕ) (d : Kept V) → k < place → (get_or kept k d).is_checked ≡ false) → (k : ℕ) (d : Kept V) → k < place + 1 → (get_or (set kept place one) k d).is_checked ≡ false
doubt_more {V} kept place one within doubted before k d below =
    elim (cases_eq k place) [
      | inl same ↦ subst (λ (it : ℕ). (get_or (set kept place one) it d).is_checked ≡ false) (sym same) (ap (λ (it : Kept V). it.is_checked) (get_or-set_same kept place one d within) ∙ doubted)
      | inr other ↦ ap (λ (it : Kept V). it.is_checked) (get_or-set_other kept place k one d other) ∙ before k d (omega (arith, other))
    ]
