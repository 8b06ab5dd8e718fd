-- The places of assignments, and the same delay in processes in a row.
use Rattle.std.specs.Prelude.{ℕ, zero, suc, ◌+◌, ◌-◌, ◌<◌, List, [], ◌∷◌, ◌++◌, map}
use Rattle.std.specs.List.{slice_get}
use Rattle.std.proofs.Common.{◌≡◌, ◌∙◌, ap, refl, sym, arith, append_assoc}
use Rattle.std.specs.Option.{option_map}
use Rattle.rtl_tree.specs.declared.tree.item.Assignment.{Assignment}
use Rattle.rtl_tree.specs.TreeItem.{drive}
use Rattle.rtl_tree.specs.TreeStmt.{target, target_place}
use Rattle.rtl_flat.specs.declared.instance.Delay.{Delay}
use Rattle.elab_parts.specs.Delays.{delay_in, repeated}
use Rattle.elab_parts.specs.Items.{drive_places}

-- one more of the same delays
pub repeated_more : (file process at i n : ℕ) (xs : List Delay) → i < n → xs ++ repeated file (process + i) at (n - i) ≡ (xs ++ delay_in file (process + i) at ∷ []) ++ repeated file (process + (i + 1)) at (n - (i + 1))
repeated_more file process at i n xs inside =
    let less : n - i ≡ suc (n - (i + 1)) = omega arith in
    let next : process + i + 1 ≡ process + (i + 1) = omega arith in
    ap (λ k. xs ++ repeated file (process + i) at k) less
    ∙ ap (λ p. xs ++ (delay_in file (process + i) at ∷ repeated file p at (n - (i + 1)))) next
    ∙ sym (append_assoc xs (delay_in file (process + i) at ∷ []) (repeated file (process + (i + 1)) at (n - (i + 1))))

-- the place of an assignment by its number
pub drive_got : (all : List Assignment) (k : ℕ) → slice_get (drive_places (map drive all)) k ≡ option_map (λ one. target_place (target one.target)) (slice_get all k)
drive_got [] k = refl
drive_got (x ∷ all) zero = refl
drive_got (x ∷ all) (suc k) = drive_got all k
