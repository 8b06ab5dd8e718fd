-- The findings of one process, and the parts of targets.
use Rattle.std.proofs.Common.{ℕ, ◌≡◌, ◌∙◌, ◌+◌, ◌<◌, ◌≤◌, Bool, true, false, cond, List, [], ◌∷◌, ◌++◌, map, length, drop, get_or, refl, sym, ap, arith, append_assoc, ◌↔◌}
use Rattle.std.specs.List.{flat_map}
use Rattle.std.specs.Option.{is_some}
use Rattle.std.proofs.lemmas.Bool.{false≢true}
use Rattle.std.proofs.lemmas.List.{drop_more}
use Rattle.rtl_flat.specs.declared.act.TargetPart.{TargetPart}
use Rattle.rtl_flat.specs.Expression.{Tree}
use Rattle.rtl_flat.specs.Flats.{Flat}
use Rattle.rtl_flat.specs.Process.{Piece, Task, piece}
use Rattle.rtl_rule.specs.declared.finding.Finding.{Finding}
use Rattle.rtl_rule.specs.Parts.{At, items_of, within}
use Rattle.rtl_rule.specs.Sites.{AreFindings}
use Rattle.check_found.specs.Gathered.{Gets, task_sites}
use Rattle.check_found.proofs.Gathering.{join_findings, no_findings, not_finding, one_finding}
use Rattle.check_readings.specs.Readings.{IsListIndex, IsTargetIndex, IsWholeSelect, amounts, is_computed, is_list_index, joined, joined_parts, list_index_at, target_index_at, whole_select_at, whole_signal}
use Rattle.check_readings.specs.Told.{item_told, target_told, told, whole_told}

-- ---- parts of targets

pub few_parts : (parts : List TargetPart) → length parts < 2 → joined_parts (map piece parts) ≡ []
few_parts [] few = refl
few_parts (one ∷ []) few = refl
few_parts (one ∷ next ∷ others) few = absurd (omega (arith, few))

pub many_parts : (parts : List TargetPart) → 2 ≤ length parts → joined_parts (map piece parts) ≡ map piece parts
many_parts [] many = absurd (omega (arith, many))
many_parts (one ∷ []) many = absurd (omega (arith, many))
many_parts (one ∷ next ∷ others) many = refl

-- ---- findings of one process

-- those of one element more
pub told_more : {A B : Type 0} (of : B → List Finding) (view : A → B) (xs : List A) (i : ℕ) (x : A) → i < length xs → x ≡ get_or xs i x → (first old new : List Finding) → old ++ flat_map of (map view (drop i xs)) ≡ first → new ≡ old ++ of (view x) → new ++ flat_map of (map view (drop (i + 1) xs)) ≡ first
told_more of view xs i x inside is first old new before more =
    let rest = flat_map of (map view (drop (i + 1) xs)) in
    let split : drop i xs ≡ x ∷ drop (i + 1) xs = drop_more xs i x inside ∙ ap (λ y. y ∷ drop (i + 1) xs) (sym is) in
    ap (λ fs. fs ++ rest) more ∙ append_assoc old (of (view x)) rest ∙ sym (ap (λ ys. old ++ flat_map of (map view ys)) split) ∙ before

module _ {A : Type 0} (P : At A → Type 0) (at : At A → Finding) (test : A → Bool) (by : (site : At A) → (test site.it ≡ true) ↔ P site) (p : ℕ) (task : Task) where
  abbrev told_here : A → List Finding
  told_here = told test (λ x. at (within (p, task) x))

  one_told : (x : A) (b : Bool) → test x ≡ b → AreFindings P at (within (p, task) x ∷ []) (cond b (at (within (p, task) x) ∷ []) [])
  one_told x true is = one_finding P at (within (p, task) x) ((by (within (p, task) x)).0 is)
  one_told x false is =
      not_finding P at (within (p, task) x) (λ h. false≢true (sym is ∙ (by (within (p, task) x)).1 h))

  are_told : (xs : List A) → AreFindings P at (map (within (p, task)) xs) (flat_map told_here xs)
  are_told [] = no_findings P at
  are_told (x ∷ xs) =
      join_findings P at (within (p, task) x ∷ []) (map (within (p, task)) xs) (told_here x) (flat_map told_here xs) (one_told x (test x) refl) (are_told xs)

  gets_told : (xs : List A) (old new : List Finding) → new ≡ old ++ flat_map told_here xs → Gets P at (map (within (p, task)) xs) old new
  gets_told xs old new is =
      record { more = flat_map told_here xs; added = is; are = are_told xs }

module _ (p : ℕ) (task : Task) (old new : List Finding) where
  pub gets_targets : new ≡ old ++ flat_map (target_told p task) (joined task.does) → Gets IsTargetIndex target_index_at (task_sites joined p task) old new
  gets_targets is =
      gets_told IsTargetIndex target_index_at (λ (piece : Piece). is_computed piece.selection) (λ site. (λ h. h, λ h. h)) p task (joined task.does) old new is

  pub gets_items : new ≡ old ++ flat_map (item_told p task) (items_of task.does) → Gets IsListIndex list_index_at (task_sites items_of p task) old new
  gets_items is =
      gets_told IsListIndex list_index_at is_list_index (λ site. (λ h. h, λ h. h)) p task (items_of task.does) old new is

  pub gets_wholes : (d : Flat) → new ≡ old ++ flat_map (whole_told d p task) (amounts task.does) → Gets (IsWholeSelect d) (whole_select_at d) (task_sites amounts p task) old new
  gets_wholes d is =
      gets_told (IsWholeSelect d) (whole_select_at d) (λ (e : Tree). is_some (whole_signal d e)) (λ site. (λ h. h, λ h. h)) p task (amounts task.does) old new is
