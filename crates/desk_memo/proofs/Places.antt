-- The first ruling of a list that passes a test, and one that is kept in place of that of its top.
use Rattle.std.proofs.Common.{◌≡◌, ◌∙◌, ◌+◌, ◌⊎◌, inl, inr, ℕ, zero, suc, Bool, true, false, cond, not, List, [], ◌∷◌, ◌++◌, take, ap, arith, refl, subst, sym}
use Rattle.std.specs.Prelude.{find, if◌then◌else◌, Option, None, Some, slice_get, slice_set}
use Rattle.std.specs.List.{All, Contains}
use Rattle.std.proofs.lemmas.List.Elements.{All-cons, All-contains_itself, All-nil, All-weaker, Contains-append_cases, Contains-append_left, Contains-append_right, Contains-push}
use Rattle.std.proofs.lemmas.Slice.Eq.{bytes_eq-Decides}
use Rattle.desk_memo.specs.Rulings.{Ruling, is_of, others_of, with_ruling}
use Rattle.desk_memo.proofs.Among.{first_among, holds_of, later_among}

-- ---- the first that passes

none_first : {V : Type 0} (passed : Bool) (first : Ruling V) (later : Option (Ruling V)) → cond passed (Some first) later ≡ None → (passed ≡ false) × (later ≡ None)
none_first true first later none = absurd (cc)
none_first false first later none = (refl, none)

pub found_at : {V : Type 0} (test : Ruling V → Bool) (rulings : List (Ruling V)) (place : ℕ) (ruling : Ruling V) → slice_get rulings place ≡ Some ruling → find test (take place rulings) ≡ None → test ruling ≡ true → find test rulings ≡ Some ruling
found_at test [] place ruling at none passed = absurd (cc)
found_at test (first ∷ others) zero ruling at none passed =
    let same : first ≡ ruling = cc in
    ap (λ it. cond it (Some first) (find test others)) (ap test same ∙ passed) ∙ at
found_at test (first ∷ others) (suc place) ruling at none passed =
    let before = none_first (test first) first (find test (take place others)) none in
    ap (λ it. cond it (Some first) (find test others)) before.0
    ∙ found_at test others place ruling at before.1 passed

none_later : {V : Type 0} (test : Ruling V → Bool) (rulings : List (Ruling V)) (place : ℕ) (ruling : Ruling V) → slice_get rulings place ≡ Some ruling → find test (take place rulings) ≡ None → test ruling ≡ false → find test (take (suc place) rulings) ≡ None
none_later test [] place ruling at none failed = absurd (cc)
none_later test (first ∷ others) zero ruling at none failed =
    let same : first ≡ ruling = cc in
    ap (λ it. cond it (Some first) None) (ap test same ∙ failed)
none_later test (first ∷ others) (suc place) ruling at none failed =
    let before = none_first (test first) first (find test (take place others)) none in
    ap (λ it. cond it (Some first) (find test (take (suc place) others))) before.0
    ∙ none_later test others place ruling at before.1 failed

pub none_more : {V : Type 0} (test : Ruling V → Bool) (rulings : List (Ruling V)) (place : ℕ) (ruling : Ruling V) → slice_get rulings place ≡ Some ruling → find test (take place rulings) ≡ None → test ruling ≡ false → find test (take (place + 1) rulings) ≡ None
none_more test rulings place ruling at none failed =
    let next : suc place ≡ place + 1 = omega arith in
    subst (λ it. find test (take it rulings) ≡ None) next (none_later test rulings place ruling at none failed)

-- ---- one that is kept

pub replaced : {V : Type 0} (ruling : Ruling V) (rulings : List (Ruling V)) (place : ℕ) (old : Ruling V) → slice_get rulings place ≡ Some old → find (is_of ruling.top) (take place rulings) ≡ None → is_of ruling.top old ≡ true → slice_set rulings place ruling ≡ with_ruling ruling rulings
replaced ruling [] place old at none passed = absurd (cc)
replaced ruling (first ∷ others) zero old at none passed =
    let same : first ≡ old = cc in
    sym (ap (λ it. if it then ruling ∷ others else first ∷ with_ruling ruling others) (ap (is_of ruling.top) same ∙ passed))
replaced ruling (first ∷ others) (suc place) old at none passed =
    let before = none_first (is_of ruling.top first) first (find (is_of ruling.top) (take place others)) none in
    ap (λ it. first ∷ it) (replaced ruling others place old at before.1 passed)
    ∙ sym (ap (λ it. if it then ruling ∷ others else first ∷ with_ruling ruling others) before.0)

pub pushed : {V : Type 0} (ruling : Ruling V) (rulings : List (Ruling V)) → find (is_of ruling.top) rulings ≡ None → rulings ++ ruling ∷ [] ≡ with_ruling ruling rulings
pushed ruling [] none = refl
pushed ruling (first ∷ others) none =
    let before = none_first (is_of ruling.top first) first (find (is_of ruling.top) others) none in
    ap (λ it. first ∷ it) (pushed ruling others before.1)
    ∙ sym (ap (λ it. if it then ruling ∷ others else first ∷ with_ruling ruling others) before.0)

-- ---- what that leaves

of_itself : {V : Type 0} (ruling : Ruling V) → is_of ruling.top ruling ≡ true
of_itself ruling = (bytes_eq-Decides ruling.top ruling.top).1 refl

without_own : {V : Type 0} (ruling : Ruling V) (rulings : List (Ruling V)) → others_of ruling.top (ruling ∷ rulings) ≡ others_of ruling.top rulings
without_own ruling rulings =
    ap (λ it. cond (not it) (ruling ∷ others_of ruling.top rulings) (others_of ruling.top rulings)) (of_itself ruling)

others_by : {V : Type 0} (own : Bool) (ruling first : Ruling V) (others : List (Ruling V)) → is_of ruling.top first ≡ own → others_of ruling.top (with_ruling ruling others) ≡ others_of ruling.top others → others_of ruling.top (if own then ruling ∷ others else first ∷ with_ruling ruling others) ≡ others_of ruling.top (first ∷ others)
others_by true ruling first others is rest =
    without_own ruling others
    ∙ sym (ap (λ it. cond (not it) (first ∷ others_of ruling.top others) (others_of ruling.top others)) is)
others_by false ruling first others is rest =
    ap (λ it. cond (not (is_of ruling.top first)) (first ∷ it) it) rest

-- the rulings of other tops stay
pub others_with : {V : Type 0} (ruling : Ruling V) (rulings : List (Ruling V)) → others_of ruling.top (with_ruling ruling rulings) ≡ others_of ruling.top rulings
others_with ruling [] = without_own ruling []
others_with ruling (first ∷ others) =
    others_by (is_of ruling.top first) ruling first others refl (others_with ruling others)

-- the new one is among them
pub there_with : {V : Type 0} (ruling : Ruling V) (rulings : List (Ruling V)) → Contains (with_ruling ruling rulings) ruling
there_with ruling [] = first_among ruling []
there_with ruling (first ∷ others) =
    elim (is_of ruling.top first) as (λ own. Contains (if own then ruling ∷ others else first ∷ with_ruling ruling others) ruling) [
      | true ↦ first_among ruling others
      | false ↦ later_among first ruling (with_ruling ruling others) (there_with ruling others)
    ]

abbrev IsOf : {V : Type 0} → List (Ruling V) → Ruling V → Ruling V → Type 0
IsOf before kept ruling = Contains before ruling ⊎ (ruling ≡ kept)

abbrev AreOf : {V : Type 0} → List (Ruling V) → Ruling V → List (Ruling V) → Type 0
AreOf before kept after = All (IsOf before kept) after

of_more : {V : Type 0} (kept first : Ruling V) (before : List (Ruling V)) (ruling : Ruling V) → IsOf before kept ruling → IsOf (first ∷ before) kept ruling
of_more kept first before ruling (inl among) = inl (later_among first ruling before among)
of_more kept first before ruling (inr same) = inr same

each_itself : {V : Type 0} (kept : Ruling V) (rulings : List (Ruling V)) → AreOf rulings kept rulings
each_itself kept rulings =
    All-weaker (Contains rulings) (IsOf rulings kept) (λ ruling among. inl among) rulings (All-contains_itself rulings)

-- each is an old one, or the new one
each_with : {V : Type 0} (kept : Ruling V) (rulings : List (Ruling V)) → AreOf rulings kept (with_ruling kept rulings)
each_with kept [] = All-cons (IsOf [] kept) kept [] (inr refl) (All-nil (IsOf [] kept))
each_with kept (first ∷ others) =
    elim (is_of kept.top first) as (λ own. AreOf (first ∷ others) kept (if own then kept ∷ others else first ∷ with_ruling kept others)) [
      | true ↦ All-cons (IsOf (first ∷ others) kept) kept others (inr refl) (All-weaker (IsOf others kept) (IsOf (first ∷ others) kept) (of_more kept first others) others (each_itself kept others))
      | false ↦ All-cons (IsOf (first ∷ others) kept) first (with_ruling kept others) (inl (first_among first others)) (All-weaker (IsOf others kept) (IsOf (first ∷ others) kept) (of_more kept first others) (with_ruling kept others) (each_with kept others))
    ]

-- ---- all rulings, with that of an absent top

any_of : {V : Type 0} (kept ruling : Ruling V) (rulings : List (Ruling V)) → IsOf rulings kept ruling → Contains (rulings ++ kept ∷ []) ruling
any_of kept ruling rulings (inl among) = Contains-append_left rulings (kept ∷ []) ruling among
any_of {V} kept ruling rulings (inr same) =
    subst (λ (it : Ruling V). Contains (rulings ++ kept ∷ []) it) (sym same) (Contains-push rulings kept)

-- each is an old one or the new one, where that goes among others
pub from_with : {V : Type 0} (kept : Ruling V) (rulings more : List (Ruling V)) (ruling : Ruling V) → Contains (with_ruling kept rulings ++ more) ruling → Contains ((rulings ++ more) ++ kept ∷ []) ruling
from_with kept rulings more ruling among =
    elim (Contains-append_cases (with_ruling kept rulings) more ruling among) [
      | inl early ↦ any_of kept ruling (rulings ++ more) (with_more (holds_of (IsOf rulings kept) (with_ruling kept rulings) ruling (each_with kept rulings) early))
      | inr late ↦ Contains-append_left (rulings ++ more) (kept ∷ []) ruling (Contains-append_right rulings more ruling late)
    ]
  where
    with_more : IsOf rulings kept ruling → IsOf (rulings ++ more) kept ruling
    with_more (inl among) = inl (Contains-append_left rulings more ruling among)
    with_more (inr same) = inr same

-- and where it stands alone
pub from_alone : {V : Type 0} (kept : Ruling V) (rulings more : List (Ruling V)) (ruling : Ruling V) → Contains (rulings ++ kept ∷ []) ruling → Contains ((rulings ++ more) ++ kept ∷ []) ruling
from_alone kept rulings more ruling among =
    elim (Contains-append_cases rulings (kept ∷ []) ruling among) [
      | inl early ↦ Contains-append_left (rulings ++ more) (kept ∷ []) ruling (Contains-append_left rulings more ruling early)
      | inr late ↦ Contains-append_right (rulings ++ more) (kept ∷ []) ruling late
    ]
