-- Labels of the items of a case, one item after another.
use Rattle.std.proofs.Common.{ℕ, suc, ◌≡◌, ◌∙◌, ◌<◌, ◌+◌, Bool, ◌||◌, List, ◌∷◌, length, get_or, drop, map, ap, sym, add-one, drop-cons}
use Rattle.rtl_flat.specs.declared.act.CaseItem.{CaseItem}
use Rattle.rtl_flat.specs.Expression.{tree}
use Rattle.rtl_flat.specs.Flows.{reads_all, labels_of}
use Rattle.rtl_scan.specs.declared.bits.Row.{Row}
use Rattle.rtl_scan.specs.Sets.{has_rows, Adds}
use Rattle.rtl_scan.specs.Bodies.{branches_of}
use Rattle.rtl_scan.proofs.Adding.{reads_all_append}
use Rattle.rtl_scan.proofs.Bools.{or_assoc}

-- what is left from one element on
pub left_at : {A : Type 0} (xs : List A) (i : ℕ) (x : A) → i < length xs → x ≡ get_or xs i x → drop i xs ≡ x ∷ drop (i + 1) xs
left_at xs i x h is =
    drop-cons xs i x h ∙ ap (λ y. y ∷ drop (suc i) xs) (sym is) ∙ ap (λ n. x ∷ drop n xs) (sym (add-one i))

pub labels_step : (ws : ℕ → ℕ) (items : List CaseItem) (i : ℕ) (item : CaseItem) → drop i items ≡ item ∷ drop (i + 1) items → (old new : List Row) → Adds (reads_all ws (map tree item.labels.items)) old new → (s k : ℕ) (all : Bool) → (has_rows old s k || reads_all ws (labels_of (branches_of (drop i items))) s k) ≡ all → (has_rows new s k || reads_all ws (labels_of (branches_of (drop (i + 1) items))) s k) ≡ all
labels_step ws items i item left old new adds s k all h =
    let here = reads_all ws (map tree item.labels.items) s k in
    let rest = reads_all ws (labels_of (branches_of (drop (i + 1) items))) s k in
    ap (λ t. t || rest) (adds.at s k) ∙ or_assoc (has_rows old s k) here rest
    ∙ ap (λ t. has_rows old s k || t) (sym (reads_all_append ws (map tree item.labels.items) (labels_of (branches_of (drop (i + 1) items))) s k))
    ∙ ap (λ xs. has_rows old s k || reads_all ws (labels_of (branches_of xs)) s k) (sym left) ∙ h
