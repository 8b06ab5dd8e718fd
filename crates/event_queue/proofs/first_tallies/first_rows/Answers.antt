use Rattle.std.proofs.Common.{◌≤◌, ◌∙◌, List, [], ◌∷◌, ◌++◌, Vec, length, replicate, ap, sym, subst, inl, inr, arith}
use Rattle.std.specs.declared.alloc.Global.{Global}
use Rattle.std.proofs.lemmas.List.{length-append}
use Rattle.rtl_bits.specs.declared.Bit.TheVariants.{Z}
use Rattle.rtl_flat.specs.declared.signal.Signal.{Signal}
use Rattle.rtl_flat.specs.Signs.{width_in}
use Rattle.event_tables.specs.event_tally.declared.tally.Tally.{Tally}
use Rattle.event_tables.specs.event_tally.Tallies.{IsTalliedAt}
use Rattle.event_tables.specs.event_write.QueueState.{row}
use Rattle.event_queue.proofs.Counted.{row_pushed}
use Rattle.event_queue.proofs.first_tallies.first_rows.Goals as goal

pub loop-number-preserved : goal.loop-number-preserved
loop-number-preserved c =
    let inv = c.loop-number.invariant in
    let signals = c.args.design.now.signals.items in
    let rows = c.loop-number.rows.items in
    let one = c.in_ok-row.row in
    let items = c.in_ok-push.ensures.items in
    let size = ap (λ (xs : List (Vec Tally Global)). length xs) items in
    let all = length-append rows (one ∷ []) in
    let counted = inv.0 in
    let width = c.width_of-width.ensures ∙ ap (λ (ss : List Signal). width_in ss c.loop-number.number) c.deref.ensures.value in
    let few = c.in_ok-row.ensures.size in (
      omega (arith, size, all, counted),
      λ i. subst (λ (xs : List (Vec Tally Global)). length (row xs i) ≤ width_in signals i) (sym items)
          (elim (row_pushed rows one i) as (λ _. length (row (rows ++ one ∷ []) i) ≤ width_in signals i) [
            | inl h ↦ subst (λ (ts : List Tally). length ts ≤ width_in signals i) (sym h) (inv.1 i)
            | inr h ↦ subst (λ (ts : List Tally). length ts ≤ width_in signals i) (sym h.1)
                (let same = ap (width_in signals) (h.0 ∙ counted) in omega (arith, few, width, same))
          ]),
      λ i k n. subst (λ (xs : List (Vec Tally Global)). IsTalliedAt (row xs i) k (replicate n Z)) (sym items)
          (elim (row_pushed rows one i) as (λ _. IsTalliedAt (row (rows ++ one ∷ []) i) k (replicate n Z)) [
            | inl h ↦ subst (λ (ts : List Tally). IsTalliedAt ts k (replicate n Z)) (sym h) (inv.2 i k n)
            | inr h ↦ subst (λ (ts : List Tally). IsTalliedAt ts k (replicate n Z)) (sym h.1) (c.in_ok-row.ensures.none k n)
          ]),
    )
