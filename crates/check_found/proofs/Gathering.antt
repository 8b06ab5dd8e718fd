-- Findings of sites that are looked at one after another.
use Rattle.std.proofs.Common.{◌≡◌, ◌∙◌, ℕ, suc, ◌+◌, ◌≤◌, Bool, true, cond, List, [], ◌∷◌, ◌++◌, length, map, take, Option, None, Some, refl, sym, ap, subst, inl, inr, append_assoc, append-nil, add-one}
use Rattle.std.specs.Prelude.{◌↔◌}
use Rattle.std.specs.List.{filter, filter_map, slice_get}
use Rattle.std.proofs.lemmas.Bool.{cases_Bool}
use Rattle.std.proofs.lemmas.List.{map-append, take_all}
use Rattle.rtl_rule.specs.declared.finding.Finding.{Finding}
use Rattle.rtl_rule.specs.Sites.{AreFindings, AreThose}
use Rattle.check_found.specs.Gathered.{Gets}
use Rattle.check_found.proofs.Those.{one_those, not_those, join_those, those_by_test, those_as, narrow_those, map_those, same_those}

-- ---- lists

-- one element more
pub take_next : {A : Type 0} (xs : List A) (n : ℕ) (x : A) → slice_get xs n ≡ Some x → take (n + 1) xs ≡ take n xs ++ x ∷ []
take_next xs n x there = rw add-one (next xs n there)
  where
    next : (xs : List _) (n : ℕ) → slice_get xs n ≡ Some x → take (suc n) xs ≡ take n xs ++ x ∷ []
    next [] n there = absurd (cc)
    next (y ∷ xs) ℕ.zero there = let same : y ≡ x = cc in ap (λ z. z ∷ []) same
    next (y ∷ xs) (suc n) there = ap (λ zs. y ∷ zs) (next xs n there)

module _ {A : Type 0} (P : A → Type 0) (finding_at : A → Finding) where
  pub no_findings : AreFindings P finding_at [] []
  no_findings = record { broken = []; those = refl; shown = refl }

  -- a site that breaks the rule
  pub one_finding : (x : A) → P x → AreFindings P finding_at (x ∷ []) (finding_at x ∷ [])
  one_finding x breaks = record { broken = x ∷ []; those = one_those P x breaks; shown = refl }

  -- a site that doesn't
  pub not_finding : (x : A) → (P x → ⊥) → AreFindings P finding_at (x ∷ []) []
  not_finding x keeps = record { broken = []; those = not_those P x keeps; shown = refl }

  -- the findings of two lists of sites
  pub join_findings : (xs ys : List A) (fs gs : List Finding) → AreFindings P finding_at xs fs → AreFindings P finding_at ys gs → AreFindings P finding_at (xs ++ ys) (fs ++ gs)
  join_findings xs ys fs gs first second =
      record {
        broken = first.broken ++ second.broken;
        those = join_those P xs ys first.broken second.broken first.those second.those;
        shown = ap (λ l. l ++ gs) first.shown ∙ ap (λ l. map finding_at first.broken ++ l) second.shown
            ∙ sym (map-append finding_at first.broken second.broken);
      }

  -- one site more, which breaks the rule
  pub push_finding : (xs : List A) (fs : List Finding) (x : A) → AreFindings P finding_at xs fs → P x → AreFindings P finding_at (xs ++ x ∷ []) (fs ++ finding_at x ∷ [])
  push_finding xs fs x h breaks =
      join_findings xs (x ∷ []) fs (finding_at x ∷ []) h (one_finding x breaks)

  -- one site more, which doesn't
  pub pass_finding : (xs : List A) (fs : List Finding) (x : A) → AreFindings P finding_at xs fs → (P x → ⊥) → AreFindings P finding_at (xs ++ x ∷ []) fs
  pass_finding xs fs x h keeps =
      subst (AreFindings P finding_at (xs ++ x ∷ [])) (append-nil fs)
      (join_findings xs (x ∷ []) fs [] h (not_finding x keeps))

  -- the same where a loop goes over the sites
  pub push_at : (xs : List A) (n : ℕ) (fs : List Finding) (x : A) → slice_get xs n ≡ Some x → AreFindings P finding_at (take n xs) fs → P x → AreFindings P finding_at (take (n + 1) xs) (fs ++ finding_at x ∷ [])
  push_at xs n fs x there h breaks =
      subst (λ zs. AreFindings P finding_at zs (fs ++ finding_at x ∷ [])) (sym (take_next xs n x there))
      (push_finding (take n xs) fs x h breaks)

  pub pass_at : (xs : List A) (n : ℕ) (fs : List Finding) (x : A) → slice_get xs n ≡ Some x → AreFindings P finding_at (take n xs) fs → (P x → ⊥) → AreFindings P finding_at (take (n + 1) xs) fs
  pass_at xs n fs x there h keeps =
      subst (λ zs. AreFindings P finding_at zs fs) (sym (take_next xs n x there))
      (pass_finding (take n xs) fs x h keeps)

  pub all_taken : (xs : List A) (n : ℕ) (fs : List Finding) → length xs ≤ n → AreFindings P finding_at (take n xs) fs → AreFindings P finding_at xs fs
  all_taken xs n fs past h = subst (λ zs. AreFindings P finding_at zs fs) (take_all n xs past) h

  -- ---- findings that are added to others

  pub gets_none : (fs : List Finding) → Gets P finding_at [] fs fs
  gets_none fs = record { more = []; added = sym (append-nil fs); are = no_findings }

  pub gets_one : (fs : List Finding) (x : A) → P x → Gets P finding_at (x ∷ []) fs (fs ++ finding_at x ∷ [])
  gets_one fs x breaks =
      record { more = finding_at x ∷ []; added = refl; are = one_finding x breaks }

  pub gets_nothing : (fs : List Finding) (x : A) → (P x → ⊥) → Gets P finding_at (x ∷ []) fs fs
  gets_nothing fs x keeps =
      record { more = []; added = sym (append-nil fs); are = not_finding x keeps }

  -- one addition after another
  pub gets_both : (xs ys : List A) (old mid new : List Finding) → Gets P finding_at xs old mid → Gets P finding_at ys mid new → Gets P finding_at (xs ++ ys) old new
  gets_both xs ys old mid new first second =
      record {
        more = first.more ++ second.more;
        added = second.added ∙ ap (λ l. l ++ second.more) first.added ∙ append_assoc old first.more second.more;
        are = join_findings xs ys first.more second.more first.are second.are;
      }

  -- an addition to the findings of the sites before
  pub findings_more : (xs ys : List A) (old new : List Finding) → AreFindings P finding_at xs old → Gets P finding_at ys old new → AreFindings P finding_at (xs ++ ys) new
  findings_more xs ys old new h more =
      subst (AreFindings P finding_at (xs ++ ys)) (sym more.added)
      (join_findings xs ys old more.more h more.are)

  -- an addition to nothing
  pub gets_from_none : (xs : List A) (new : List Finding) → Gets P finding_at xs [] new → AreFindings P finding_at xs new
  gets_from_none xs new h = subst (AreFindings P finding_at xs) (sym h.added) h.are

  -- ---- tests

  -- where a test decides what breaks the rule
  pub findings_by_test : (test : A → Bool) → ((x : A) → test x ≡ true ↔ P x) → (xs : List A) → AreFindings P finding_at xs (map finding_at (filter test xs))
  findings_by_test test is xs =
      record { broken = filter test xs; those = those_by_test P test is xs; shown = refl }

  -- where a function gives the finding or none
  pub findings_by_option : (test : A → Bool) → ((x : A) → test x ≡ true ↔ P x) → (g : A → Option Finding) → ((x : A) → g x ≡ cond (test x) (Some (finding_at x)) None) → (xs : List A) → AreFindings P finding_at xs (filter_map g xs)
  findings_by_option test is g gives xs =
      subst (AreFindings P finding_at xs) (sym (same xs)) (findings_by_test test is xs)
    where
      same : (xs : List A) → filter_map g xs ≡ map finding_at (filter test xs)
      same [] = refl
      same (x ∷ xs) =
          elim (cases_Bool (test x)) as (λ _. filter_map g (x ∷ xs) ≡ map finding_at (filter test (x ∷ xs))) [
            | inl yes' ↦ rw (gives x, yes') (ap (λ l. finding_at x ∷ l) (same xs))
            | inr no' ↦ rw (gives x, no') (same xs)
          ]

  -- ---- other forms of the same

  -- sites of which the rule breaks some alone
  pub narrow_findings : (Q : A → Type 0) → ((x : A) → P x → Q x) → (xs ys : List A) (fs : List Finding) → AreThose Q xs ys → AreFindings P finding_at ys fs → AreFindings P finding_at xs fs
  narrow_findings Q from xs ys fs those h =
      record { broken = h.broken; those = narrow_those Q P from xs ys h.broken those h.those; shown = h.shown }

  pub narrow_gets : (Q : A → Type 0) → ((x : A) → P x → Q x) → (xs ys : List A) (old new : List Finding) → AreThose Q xs ys → Gets P finding_at ys old new → Gets P finding_at xs old new
  narrow_gets Q from xs ys old new those h =
      record { more = h.more; added = h.added; are = narrow_findings Q from xs ys h.more those h.are }

  -- there is one list of findings
  pub same_findings : (xs : List A) (fs gs : List Finding) → AreFindings P finding_at xs fs → AreFindings P finding_at xs gs → fs ≡ gs
  same_findings xs fs gs h k =
      h.shown ∙ ap (map finding_at) (same_those P xs h.broken k.broken h.those k.those) ∙ sym k.shown

-- sites that a function makes
pub map_findings : {A B : Type 0} (P : B → Type 0) (finding_at : B → Finding) (f : A → B) (xs : List A) (fs : List Finding) → AreFindings (λ x. P (f x)) (λ x. finding_at (f x)) xs fs → AreFindings P finding_at (map f xs) fs
map_findings P finding_at f xs fs h =
    record {
      broken = map f h.broken;
      those = map_those P f xs h.broken h.those;
      shown = h.shown ∙ twice h.broken;
    }
  where
    twice : (ys : List _) → map (λ x. finding_at (f x)) ys ≡ map finding_at (map f ys)
    twice [] = refl
    twice (y ∷ ys) = ap (λ l. finding_at (f y) ∷ l) (twice ys)

-- a condition that means the same
pub findings_as : {A : Type 0} (P Q : A → Type 0) (finding_at : A → Finding) → ((x : A) → P x ↔ Q x) → (xs : List A) (fs : List Finding) → AreFindings P finding_at xs fs → AreFindings Q finding_at xs fs
findings_as P Q finding_at is xs fs h =
    record { broken = h.broken; those = those_as P Q is xs h.broken h.those; shown = h.shown }
