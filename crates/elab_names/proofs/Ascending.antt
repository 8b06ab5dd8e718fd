-- Numbers that ascend: where one of them stands, and one more among them.
use Rattle.std.specs.Prelude.{◌⊎◌, ◌↔◌, ◌==◌, if◌then◌else◌}
use Rattle.std.specs.List.{Contains, insert}
use Rattle.std.specs.List.Sorted.{IsBinarySearchResult, IsStrictlyIncreasing}
use Rattle.std.proofs.Common.{◌≡◌, ◌∙◌, ℕ, zero, suc, ◌+◌, ◌<◌, ◌≤◌, List, [], ◌∷◌, ◌++◌, length, get_or, nat_cmp, Err, refl, sym, ap, subst, inl, inr, arith}
use Rattle.std.proofs.lemmas.Bool.{cases_eq, cases_lt}
use Rattle.std.proofs.lemmas.Bool.Decides.{nat_tests}
use Rattle.std.proofs.lemmas.List.{take_more}
use Rattle.std.proofs.lemmas.List.Edits.{get_or-insert_above, get_or-insert_at, get_or-insert_below, length-insert}
use Rattle.std.proofs.lemmas.List.Elements.{Contains-append_cases, Contains-append_left, Contains-append_right, Contains-push, Contains-push_cases}
use Rattle.std.proofs.lemmas.List.Sorted.{Contains-permutation, IsPermutation-insert, IsPermutation-sym, searched}
use Rattle.rtl_elab.specs.elab_links.declared.module_set.Lookup.TheVariants.{Found}
use Rattle.rtl_elab.specs.elab_links.declared.module_set.Place.{Place}
use Rattle.elab_lookups.specs.declared.look_up.LookUp.{LookUp}
use Rattle.elab_names.specs.Extracts.{place_in}
use Rattle.elab_names.specs.Moves.{AreFilesOf, HasFile}
use Rattle.elab_names.proofs.Naming.{only}

-- ---- the order

pub rises_far : (xs : List ℕ) → IsStrictlyIncreasing xs → (i j : ℕ) → i < j → j < length xs → get_or xs i 0 < get_or xs j 0
rises_far xs up i zero before inside = absurd (omega (arith, before))
rises_far xs up i (suc j) before inside =
    let next : suc j ≡ j + 1 = omega arith in
    let below : j + 1 < length xs = omega (arith, inside) in
    let step : get_or xs j 0 < get_or xs (suc j) 0 = subst (λ (n : ℕ). get_or xs j 0 < get_or xs n 0) (sym next) (up j below) in
    elim (cases_lt i j) [
      | inl less ↦ let rest = rises_far xs up i j less (omega (arith, inside)) in omega (arith, rest, step)
      | inr not ↦
          let same : j ≡ i = omega (arith, before, not) in
          subst (λ (n : ℕ). get_or xs n 0 < get_or xs (suc j) 0) same step
    ]

pub never_falls : (xs : List ℕ) → IsStrictlyIncreasing xs → (i j : ℕ) → i ≤ j → j < length xs → get_or xs i 0 ≤ get_or xs j 0
never_falls xs up i j ordered inside =
    elim (cases_lt i j) [
      | inl less ↦ let rises = rises_far xs up i j less inside in omega (arith, rises)
      | inr not ↦
          let same : i ≡ j = omega (arith, ordered, not) in
          let equal = ap (λ (n : ℕ). get_or xs n 0) same in
          omega (arith, equal)
    ]

rises_behind : (first : ℕ) (others : List ℕ) → IsStrictlyIncreasing (first ∷ others) → IsStrictlyIncreasing others
rises_behind first others up k inside =
    let next : k + 1 ≡ suc k = omega arith in
    let inside_all : suc (k + 1) < length (first ∷ others) = omega (arith, inside) in
    rises_far (first ∷ others) up (suc k) (suc (k + 1)) (omega arith) inside_all

-- ---- a number's place

place_here : (first n : ℕ) (others : List ℕ) → first ≡ n → place_in (first ∷ others) n ≡ 0
place_here first n others same = grind (arith, nat_tests, same)

place_later : (first n : ℕ) (others : List ℕ) → (first ≡ n → ⊥) → place_in (first ∷ others) n ≡ place_in others n + 1
place_later first n others differ = grind (arith, nat_tests, differ)

pub place_found : (xs : List ℕ) (i n : ℕ) → IsStrictlyIncreasing xs → i < length xs → get_or xs i 0 ≡ n → i ≡ place_in xs n
place_found [] i n up inside is = absurd (omega (arith, inside))
place_found (first ∷ others) zero n up inside is = sym (place_here first n others is)
place_found (first ∷ others) (suc i) n up inside is =
    let below : i < length others = omega (arith, inside) in
    let rest = place_found others i n (rises_behind first others up) below is in
    let less = rises_far (first ∷ others) up zero (suc i) (omega arith) inside in
    let later = place_later first n others (λ same. absurd (omega (arith, same, is, less))) in
    omega (arith, rest, later)

pub place_absent : (xs : List ℕ) (n : ℕ) → ((k : ℕ) → k < length xs → get_or xs k 0 ≡ n → ⊥) → length xs ≡ place_in xs n
place_absent [] n none = refl
place_absent (first ∷ others) n none =
    let rest = place_absent others n (λ k inside is. none (suc k) (omega (arith, inside)) is) in
    let later = place_later first n others (λ same. none zero (omega arith) same) in
    omega (arith, rest, later)

-- ---- one more

-- a place at which a number comes behind all lesser ones and before all greater ones
pub record IsBetween (xs : List ℕ) (i n : ℕ) : Type 0 where
  pub inside : i ≤ length xs
  pub less : (k : ℕ) → k < i → get_or xs k 0 < n
  pub more : (k : ℕ) → i ≤ k → k < length xs → n < get_or xs k 0

pub between : (xs shown : List ℕ) (i n : ℕ) → shown ≡ xs → IsStrictlyIncreasing xs → IsBinarySearchResult (λ y. nat_cmp y n) shown (Err i) → IsBetween xs i n
between xs shown i n same up found =
    let (inside, less, more) = searched xs n (Err i) (subst (λ (all : List ℕ). IsBinarySearchResult (λ y. nat_cmp y n) all (Err i)) same found) (never_falls xs up) in
    record { inside = inside; less = less; more = more }

module _ (xs : List ℕ) (i n : ℕ) (fits : IsBetween xs i n) where
  inside : i ≤ length xs
  inside = fits.inside

  size : length (insert xs i n) ≡ length xs + 1
  size = length-insert xs i n inside

  at_own : (k : ℕ) → k ≡ i → get_or (insert xs i n) k 0 ≡ n
  at_own k same = ap (λ (k : ℕ). get_or (insert xs i n) k 0) same ∙ get_or-insert_at xs i n 0 inside

  pub insert_ascends : IsStrictlyIncreasing xs → IsStrictlyIncreasing (insert xs i n)
  insert_ascends up k within =
      elim (cases_lt k i) [
        | inl before ↦
            let here = get_or-insert_below xs i n 0 k before inside in
            elim (cases_lt (k + 1) i) [
              | inl also ↦
                  let next = get_or-insert_below xs i n 0 (k + 1) also inside in
                  let rises = up k (omega (arith, also, inside)) in
                  omega (arith, here, next, rises)
              | inr not ↦
                  let next = at_own (k + 1) (omega (arith, before, not)) in
                  let rises = fits.less k before in
                  omega (arith, here, next, rises)
            ]
        | inr behind ↦
            let last : k < length xs = omega (arith, within, size) in
            let next = get_or-insert_above xs i n 0 k (omega (arith, behind)) inside in
            elim (cases_eq k i) [
              | inl same ↦
                  let here = at_own k same in
                  let rises = fits.more k (omega (arith, same)) last in
                  omega (arith, here, next, rises)
              | inr differ ↦ later k behind differ last next
            ]
      ]
    where
      later : (k : ℕ) → i ≤ k → (k ≡ i → ⊥) → k < length xs → get_or (insert xs i n) (k + 1) 0 ≡ get_or xs k 0 → get_or (insert xs i n) k 0 < get_or (insert xs i n) (k + 1) 0
      later zero behind differ last next = absurd (omega (arith, behind, differ))
      later (suc k) behind differ last next =
          let one : k + 1 ≡ suc k = omega arith in
          let above = get_or-insert_above xs i n 0 k (omega (arith, behind, differ)) inside in
          let here : get_or (insert xs i n) (suc k) 0 ≡ get_or xs k 0 = subst (λ (m : ℕ). get_or (insert xs i n) m 0 ≡ get_or xs k 0) one above in
          let rises = rises_far xs up k (suc k) (omega arith) last in
          omega (arith, here, next, rises)

  pub insert_holds : (other : ℕ) → Contains (insert xs i n) other ↔ (Contains xs other ⊎ other ≡ n)
  insert_holds other = (to, from)
    where
      to : Contains (insert xs i n) other → Contains xs other ⊎ other ≡ n
      to h =
          elim (Contains-append_cases (n ∷ []) xs other (Contains-permutation (insert xs i n) (n ∷ xs) other (IsPermutation-sym (n ∷ xs) (insert xs i n) (IsPermutation-insert xs i n)) h)) [
            | inl own ↦ inr (sym (only n other own))
            | inr there ↦ inl there
          ]

      from : Contains xs other ⊎ other ≡ n → Contains (insert xs i n) other
      from h = Contains-permutation (n ∷ xs) (insert xs i n) other (IsPermutation-insert xs i n) (among h)
        where
          among : Contains xs other ⊎ other ≡ n → Contains (n ∷ xs) other
          among (inl there) = Contains-append_right (n ∷ []) xs other there
          among (inr same) = subst (Contains (n ∷ xs)) (sym same) (Contains-append_left (n ∷ []) xs n (Contains-push [] n))

-- ---- the files of names

has_earlier : (found : List LookUp) (one : LookUp) (file : ℕ) → HasFile found file → HasFile (found ++ one ∷ []) file
has_earlier found one file has =
    record {
      look_up = has.look_up;
      index = has.index;
      among = Contains-append_left found (one ∷ []) has.look_up has.among;
      means = has.means;
    }

-- a name that means no module in a file
pub files_same : (found : List LookUp) (one : LookUp) (numbers : List ℕ) → ((place : Place) → one.meant ≡ Found place → ⊥) → AreFilesOf found numbers → AreFilesOf (found ++ one ∷ []) numbers
files_same found one numbers none are =
    record {
      ascending = are.ascending;
      each = λ file. (λ h. has_earlier found one file ((are.each file).0 h), λ has. (are.each file).1 (earlier file has));
    }
  where
    earlier : (file : ℕ) → HasFile (found ++ one ∷ []) file → HasFile found file
    earlier file has =
        elim (Contains-push_cases found one has.look_up has.among) [
          | inl before ↦ record { look_up = has.look_up; index = has.index; among = before; means = has.means }
          | inr same ↦ absurd (none (record { file = file; index = has.index }) (ap (λ (l : LookUp). l.meant) same ∙ has.means))
        ]

-- and one that means a module in a file
pub files_more : (found : List LookUp) (one : LookUp) (place : Place) (numbers more : List ℕ) → one.meant ≡ Found place → IsStrictlyIncreasing more → ((file : ℕ) → Contains more file ↔ (Contains numbers file ⊎ file ≡ place.file)) → AreFilesOf found numbers → AreFilesOf (found ++ one ∷ []) more
files_more found one place numbers more means ascending each are =
    record { ascending = ascending; each = λ file. (λ h. to file ((each file).0 h), λ has. (each file).1 (from file has)) }
  where
    to : (file : ℕ) → Contains numbers file ⊎ file ≡ place.file → HasFile (found ++ one ∷ []) file
    to file (inl before) = has_earlier found one file ((are.each file).0 before)
    to file (inr same) =
        record {
          look_up = one;
          index = place.index;
          among = Contains-push found one;
          means = means ∙ ap (λ (f : ℕ). Found (record { file = f; index = place.index })) (sym same);
        }

    from : (file : ℕ) → HasFile (found ++ one ∷ []) file → Contains numbers file ⊎ file ≡ place.file
    from file has =
        elim (Contains-push_cases found one has.look_up has.among) [
          | inl before ↦ inl ((are.each file).1 (record { look_up = has.look_up; index = has.index; among = before; means = has.means }))
          | inr same ↦
              let is : Found (record { file = file; index = has.index }) ≡ Found place = sym has.means ∙ sym (ap (λ (l : LookUp). l.meant) same) ∙ means in
              inr cc
        ]
