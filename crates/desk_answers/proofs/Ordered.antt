-- Where files stand that are in the order of their names.
use Rattle.std.proofs.Common.{◌≡◌, ◌∙◌, ◌+◌, ◌<◌, ℕ, zero, suc, Bool, true, false, cond, List, [], ◌∷◌, ap, arith, inl, inr, refl, subst, sym}
use Rattle.std.specs.Prelude.{bytes_eq, find, position, Some, slice_get}
use Rattle.std.specs.List.{All, position_from}
use Rattle.std.specs.Cmp.Lexicographic.{slice_cmp}
use Rattle.std.specs.Ordering.{is_eq, is_lt, nat_cmp}
use Rattle.std.specs.declared.cmp.Ordering.{Ordering}
use Rattle.std.specs.declared.cmp.Ordering.TheVariants.{Less, Equal, Greater}
use Rattle.std.proofs.lemmas.Bool.{cases_lt}
use Rattle.std.proofs.lemmas.Cmp.{nat_list_cmp_total}
use Rattle.std.proofs.lemmas.Iterator.Adapters.{position_from-zero}
use Rattle.std.proofs.lemmas.Map.Text.{is_eq-slice_cmp}
use Rattle.std.proofs.lemmas.Option.{get_or_from_slice_get, same_Some, slice_get_within}
use Rattle.std.proofs.lemmas.Slice.Eq.{bytes_eq-Decides}
use Rattle.desk_files.specs.Sources.{is_before, is_named}
use Rattle.source_file.specs.declared.SourceFile.{SourceFile}
use Rattle.desk_memo.specs.Orders.{AreInOrder}

-- ---- names

is_less : (r : Ordering) → is_lt r ≡ true → r ≡ Less
is_less Less less = refl
is_less Equal less = absurd (cc)
is_less Greater less = absurd (cc)

abbrev is_lower : List ℕ → List ℕ → Bool
is_lower first second = is_lt (slice_cmp nat_cmp first second)

-- no name is less than itself
never_itself : (name : List ℕ) → is_lower name name ≡ true → ⊥
never_itself name less =
    let same : is_eq (slice_cmp nat_cmp name name) ≡ true = is_eq-slice_cmp name name ∙ (bytes_eq-Decides name name).1 refl in
    let other : is_eq (slice_cmp nat_cmp name name) ≡ false = ap is_eq (is_less (slice_cmp nat_cmp name name) less) in
    absurd (cc)

never_both : (first second : List ℕ) → is_lower first second ≡ true → is_lower second first ≡ true → ⊥
never_both first second before after =
    never_itself first
    (ap is_lt (nat_list_cmp_total.trans first second first (is_less (slice_cmp nat_cmp first second) before) (is_less (slice_cmp nat_cmp second first) after)))

other_name : (first file : SourceFile) → is_before file.name first ≡ true → is_named file.name first ≡ false
other_name first file before =
    elim (bytes_eq first.name file.name) as (λ b. (b ≡ true → ⊥) → b ≡ false) [
      | true ↦ λ never. absurd (never refl)
      | false ↦ λ never. refl
    ] (λ same. never_itself file.name
    (subst (λ (it : List ℕ). is_lower it file.name ≡ true) ((bytes_eq-Decides first.name file.name).0 same) before))

-- ---- places

-- what holds of each holds of the one at a place
all_at : {X : Type 0} (P : X → Type 0) (xs : List X) (place : ℕ) (x : X) → All P xs → slice_get xs place ≡ Some x → P x
all_at P xs place x all at =
    subst P (get_or_from_slice_get xs place x x at) (all place x (slice_get_within xs place x at))

-- the earlier of two has the lesser name
pub ordered : (files : List SourceFile) (i j : ℕ) (first second : SourceFile) → AreInOrder files → i < j → slice_get files i ≡ Some first → slice_get files j ≡ Some second → is_before second.name first ≡ true
ordered [] i j first second order less at there = absurd (cc)
ordered (file ∷ files) i zero first second order less at there = absurd (omega arith)
ordered (file ∷ files) zero (suc j) first second order less at there =
    subst (λ (it : SourceFile). is_before second.name it ≡ true) (same_Some file first at)
    (all_at (λ (other : SourceFile). is_before other.name file ≡ true) files j second order.0 there)
ordered (file ∷ files) (suc i) (suc j) first second order less at there =
    ordered files i j first second order.1 (omega arith) at there

not_before : (files : List SourceFile) (i j : ℕ) (first second : SourceFile) → AreInOrder files → slice_get files i ≡ Some first → slice_get files j ≡ Some second → first.name ≡ second.name → i < j → ⊥
not_before files i j first second order at there same less =
    never_itself second.name
    (subst (λ (it : List ℕ). is_lower it second.name ≡ true) same
    (ordered files i j first second order less at there))

-- no two files have one name
pub one_place : (files : List SourceFile) (i j : ℕ) (first second : SourceFile) → AreInOrder files → slice_get files i ≡ Some first → slice_get files j ≡ Some second → first.name ≡ second.name → i ≡ j
one_place files i j first second order at there same =
    elim (cases_lt i j) [
      | inl less ↦ absurd (not_before files i j first second order at there same less)
      | inr most ↦ elim (cases_lt j i) [
        | inl less ↦ absurd (not_before files j i second first order there at (sym same) less)
        | inr least ↦ omega arith
      ]
    ]

same_name : (files : List SourceFile) (i j : ℕ) (first second : SourceFile) → i ≡ j → slice_get files i ≡ Some first → slice_get files j ≡ Some second → first.name ≡ second.name
same_name files i j first second same at there =
    ap (λ (it : SourceFile). it.name)
    (same_Some first second (sym at ∙ ap (slice_get files) same ∙ there))

-- the one with the lesser name is the earlier
pub later_place : (files : List SourceFile) (i j : ℕ) (first second : SourceFile) → AreInOrder files → slice_get files i ≡ Some first → slice_get files j ≡ Some second → is_before second.name first ≡ true → i < j
later_place files i j first second order at there before =
    elim (cases_lt i j) [
      | inl less ↦ less
      | inr most ↦ elim (cases_lt j i) [
        | inl less ↦ absurd (never_both first.name second.name before (ordered files j i second first order less there at))
        | inr least ↦ absurd (never_itself second.name
            (subst (λ (it : List ℕ). is_lower it second.name ≡ true)
            (same_name files i j first second (omega arith) at there) before))
      ]
    ]

-- a file is found by its name
pub found_itself : (files : List SourceFile) (place : ℕ) (file : SourceFile) → AreInOrder files → slice_get files place ≡ Some file → find (is_named file.name) files ≡ Some file
found_itself [] place file order at = absurd (cc)
found_itself (first ∷ files) zero file order at =
    ap (λ (it : Bool). cond it (Some first) (find (is_named file.name) files))
    ((bytes_eq-Decides first.name file.name).1 (ap (λ (it : SourceFile). it.name) (same_Some first file at)))
    ∙ at
found_itself (first ∷ files) (suc place) file order at =
    ap (λ (it : Bool). cond it (Some first) (find (is_named file.name) files))
    (other_name first file (all_at (λ (other : SourceFile). is_before other.name first ≡ true) files place file order.0 at))
    ∙ found_itself files place file order.1 at

-- and so is its place
place_from : (first : ℕ) (files : List SourceFile) (place : ℕ) (file : SourceFile) → AreInOrder files → slice_get files place ≡ Some file → position_from (is_named file.name) first files ≡ Some (first + place)
place_from first [] place file order at = absurd (cc)
place_from first (other ∷ files) zero file order at =
    ap (λ (it : Bool). cond it (Some first) (position_from (is_named file.name) (first + 1) files))
    ((bytes_eq-Decides other.name file.name).1 (ap (λ (it : SourceFile). it.name) (same_Some other file at)))
    ∙ ap (λ (it : ℕ). Some it) (omega arith)
place_from first (other ∷ files) (suc place) file order at =
    ap (λ (it : Bool). cond it (Some first) (position_from (is_named file.name) (first + 1) files))
    (other_name other file (all_at (λ (it : SourceFile). is_before it.name other ≡ true) files place file order.0 at))
    ∙ place_from (first + 1) files place file order.1 at
    ∙ ap (λ (it : ℕ). Some it) (omega arith)

pub place_itself : (files : List SourceFile) (place : ℕ) (file : SourceFile) → AreInOrder files → slice_get files place ≡ Some file → position (is_named file.name) files ≡ Some place
place_itself files place file order at =
    let first : 0 + place ≡ place = omega arith in
    position_from-zero (is_named file.name) files ∙ place_from 0 files place file order at
    ∙ ap (λ (it : ℕ). Some it) first
