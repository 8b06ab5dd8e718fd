use Rattle.std.proofs.Common.{ℕ, ◌≡◌, ◌∙◌, ◌<◌, ◌+◌, arith, List, length, set, get_or, ap, subst, inl, inr}
use Rattle.std.specs.Prelude.{slice_index_or}
use Rattle.std.proofs.lemmas.Bool.{cases_eq}
use Rattle.std.proofs.lemmas.List.{get_or-set_same, get_or-set_other}
use Rattle.std.proofs.lemmas.Option.{slice_get-get_or}
use Rattle.rtl_bits.specs.declared.Bit.{Bit}
use Rattle.rtl_bits.specs.declared.Bit.TheVariants.{Z}
use Rattle.rtl_bits.specs.Bit.{resolve_bit}
use Rattle.rtl_bits.specs.Bits.{reduced, replaced}
use Rattle.event_tally.specs.declared.tally.Tally.{Tally}
use Rattle.event_tally.specs.Tallies.{IsTalliedAt}
use Rattle.event_tally.proofs.Places.{replaced_bit}
use Rattle.event_tally.proofs.rows.bits_of.Goals as goal

pub loop-k-preserved : goal.loop-k-preserved
loop-k-preserved c =
    let inv = c.loop-k.invariant in
    let k = c.loop-k.k in
    let row = c.args.row.now in
    let size = inv.0 in
    let test = c.loop-k-test.true in
    let inside = c.requires.inside in
    let bits = c.loop-k.bits in
    let within : k < length bits = omega (arith, size, test) in
    let is : c.replace-bits.result ≡ set bits k c.bit.result = c.replace-bits.ensures.bits ∙ ap (λ (b : List Bit). replaced k b bits) c.of_bit.ensures ∙ replaced_bit k c.bit.result bits within in
    let none : Tally = record { zeros = 0; ones = 0; unknowns = 0 } in
    let there = slice_get-get_or row (c.args.at + k) none (omega (arith, inside, test)) in (
      c.replace-bits.ensures.width ∙ size,
      λ j column below tallied.
          elim (cases_eq j k) as (λ _. slice_index_or c.replace-bits.result j Z ≡ reduced resolve_bit Z column) [
            | inl same ↦
                let here = subst (λ (i : ℕ). IsTalliedAt row (c.args.at + i) column) same tallied in
                ap (λ (bs : List Bit). slice_index_or bs j Z) is ∙ ap (λ i. get_or (set bits k c.bit.result) i Z) same ∙ get_or-set_same bits k c.bit.result Z within ∙ c.bit.ensures column (here (get_or row (c.args.at + k) none) there)
            | inr apart ↦ ap (λ (bs : List Bit). slice_index_or bs j Z) is ∙ get_or-set_other bits k j c.bit.result Z apart ∙ inv.1 j column (omega (arith, below, apart)) tallied
          ],
    )
