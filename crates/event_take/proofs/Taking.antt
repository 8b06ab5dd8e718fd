-- Single changes of what is kept, in the state.
use Rattle.std.proofs.Common.{◌≡◌, ◌<◌, ◌∙◌, ℕ, zero, suc, Bool, true, false, List, [], ◌∷◌, length, map, set, get_or, Option, None, Some, refl, sym, ap, subst, inl, inr, arith}
use Rattle.std.specs.Prelude.{◌==◌, if◌then◌else◌}
use Rattle.std.specs.List.{All, slice_get}
use Rattle.std.proofs.lemmas.Bool.{cases_eq}
use Rattle.std.proofs.lemmas.List.Elements.{All-head, All-tail}
use Rattle.rtl_bits.specs.declared.Bit.{Bit}
use Rattle.rtl_flat.specs.declared.act.Process.{Process}
use Rattle.rtl_flat.specs.Process.{Doing, Task, task, doing}
use Rattle.rtl_flat.specs.Value.{store}
use Rattle.rank_set.specs.Ranks.{flag}
use Rattle.rank_set.proofs.Law.{flag-set_same, flag-set_other}
use Rattle.event_model.specs.Queue.{doing_of}
use Rattle.event_model.specs.Writes.{put}
use Rattle.event_write.specs.QueueState.{HasWidth, flagged_value}
use Rattle.event_write.proofs.Writing.{put_at, put_other, store_set}

-- a flag that is set
pub flag_put : (flags : List Bool) (i : ℕ) (b : Bool) → i < length flags → (k : ℕ) → flag (set flags i b) k ≡ put (flag flags) i b k
flag_put flags i b within k =
    elim (cases_eq k i) [
      | inl same ↦ ap (flag (set flags i b)) same ∙ flag-set_same flags i b within ∙ sym (ap (put (flag flags) i b) same ∙ put_at (flag flags) i b)
      | inr apart ↦ flag-set_other flags i k b apart ∙ sym (put_other (flag flags) i b k apart)
    ]

-- a value that is taken away
pub held_less : (flags : List Bool) (values : List (List Bit)) (i : ℕ) → i < length flags → (k : ℕ) → flagged_value (set flags i false) values k ≡ put (flagged_value flags values) i None k
held_less flags values i within k =
    ap (λ (b : Bool). if b then Some (store values k) else None) (flag_put flags i false within k) ∙ by_place (k == i)
  where
    by_place : (b : Bool) → (if (if b then false else flag flags k) then Some (store values k) else None) ≡ (if b then None else flagged_value flags values k)
    by_place true = refl
    by_place false = refl

-- a value that is put
pub held_more : (flags : List Bool) (values : List (List Bit)) (i : ℕ) (bits : List Bit) → i < length flags → i < length values → (k : ℕ) → flagged_value (set flags i true) (set values i bits) k ≡ put (flagged_value flags values) i (Some bits) k
held_more flags values i bits within there k =
    ap (λ (b : Bool). if b then Some (store (set values i bits) k) else None) (flag_put flags i true within k)
    ∙ ap (λ (bs : List Bit). if (if k == i then true else flag flags k) then Some bs else None) (store_set values i bits there k)
    ∙ by_place (k == i)
  where
    by_place : (b : Bool) → (if (if b then true else flag flags k) then Some (if b then bits else store values k) else None) ≡ (if b then Some bits else flagged_value flags values k)
    by_place true = refl
    by_place false = refl

-- a value that is held
pub held_here : (flags : List Bool) (values : List (List Bit)) (i : ℕ) → flag flags i ≡ true → flagged_value flags values i ≡ Some (store values i)
held_here flags values i e = ap (λ (b : Bool). if b then Some (store values i) else None) e

-- what a process does
pub doing_here : (processes : List Process) (p : ℕ) (x : Process) → p < length processes → x ≡ get_or processes p x → doing_of (slice_get (map task processes) p) ≡ Some (doing x.does)
doing_here [] p x within is = absurd (omega (arith, within))
doing_here (y ∷ ys) zero x within is = ap (λ (z : Process). Some (doing z.does)) (sym is)
doing_here (y ∷ ys) (suc p) x within is = doing_here ys p x (omega (arith, within)) is

-- what holds of every process
pub task_has : (P : Task → Type 0) (processes : List Process) (p : ℕ) (x : Process) → All P (map task processes) → p < length processes → x ≡ get_or processes p x → P (task x)
task_has P [] p x h within is = absurd (omega (arith, within))
task_has P (y ∷ ys) zero x h within is =
    subst (λ (z : Process). P (task z)) (sym is) (All-head P (task y) (map task ys) h)
task_has P (y ∷ ys) (suc p) x h within is =
    task_has P ys p x (All-tail P (task y) (map task ys) h) (omega (arith, within)) is

-- whether values have their widths where one is set
pub width_put : (ws : ℕ → ℕ) (does : ℕ → Option Doing) (values : List (List Bit)) (p : ℕ) (bits : List Bit) → p < length values → ((q : ℕ) → HasWidth ws (does q) (length (store values q))) → HasWidth ws (does p) (length bits) → (q : ℕ) → HasWidth ws (does q) (length (store (set values p bits) q))
width_put ws does values p bits within old new q =
    subst (λ (bs : List Bit). HasWidth ws (does q) (length bs)) (sym (store_set values p bits within q))
    (elim (cases_eq q p) as (λ _. HasWidth ws (does q) (length (put (store values) p bits q))) [
      | inl same ↦ subst (λ (k : ℕ). HasWidth ws (does k) (length (put (store values) p bits k))) (sym same) (subst (λ (bs : List Bit). HasWidth ws (does p) (length bs)) (sym (put_at (store values) p bits)) new)
      | inr apart ↦ subst (λ (bs : List Bit). HasWidth ws (does q) (length bs)) (sym (put_other (store values) p bits q apart)) (old q)
    ])
