use Rattle.std.proofs.Common.{◌∙◌, List, [], ◌∷◌, length, replicate, ap, sym, subst, inl, inr, arith}
use Rattle.std.specs.List.{slice_get}
use Rattle.std.proofs.lemmas.List.{length-append}
use Rattle.rtl_bits.specs.declared.Bit.TheVariants.{Z}
use Rattle.event_tables.specs.event_tally.declared.tally.Tally.{Tally}
use Rattle.event_tables.specs.event_tally.Tallies.{IsTally}
use Rattle.event_queue.proofs.Counted.{read_push}
use Rattle.event_queue.proofs.first_tallies.first_row.Goals as goal

pub loop-preserved : goal.loop-preserved
loop-preserved c =
    let inv = c.loop.invariant in
    let row = c.loop.row.items in
    let items = c.in_ok-push.ensures.items in
    let size = ap (λ (xs : List Tally). length xs) items in
    let all = length-append row (c.none.result ∷ []) in
    let counted = inv.0 in (
      omega (arith, size, all, counted),
      λ k n tally is.
          elim (read_push row c.none.result tally k (sym (ap (λ (xs : List Tally). slice_get xs k) items) ∙ is)) as (λ _. IsTally (replicate n Z) tally) [
            | inl h ↦ inv.1 k n tally h
            | inr h ↦ subst (IsTally (replicate n Z)) h.1 (c.none.ensures n)
          ],
    )
