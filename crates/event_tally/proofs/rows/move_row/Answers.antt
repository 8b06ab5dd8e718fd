use Rattle.std.proofs.Common.{◌≡◌, ◌∙◌, ◌<◌, ◌∷◌, arith, length, slice_set, Some, refl, subst, sym, ap, inl, inr}
use Rattle.std.specs.Prelude.{slice_index_or}
use Rattle.std.specs.List.{slice_get}
use Rattle.std.proofs.lemmas.Bool.{cases_eq}
use Rattle.std.proofs.lemmas.List.{get_or_default, length-set}
use Rattle.std.proofs.lemmas.Option.{slice_get_read, slice_get_within}
use Rattle.rtl_bits.specs.declared.Bit.{Bit}
use Rattle.rtl_bits.specs.declared.Bit.TheVariants.{X, Z}
use Rattle.event_tally.specs.Tallies.{IsTally, IsTallyWith}
use Rattle.event_tally.proofs.Places.{read_same, read_other}
use Rattle.event_tally.proofs.rows.move_row.Goals as goal

pub moved-requires : goal.moved-requires
moved-requires c =
    let inv = c.loop-k.invariant in
    let k = c.loop-k.k in
    let items = c.args.row.now.items in
    let size = inv.0 in
    let test = c.loop-k-test.true in
    let len = c.len-k-end.ensures in
    let fits = c.args.row.now.ok.0 in
    let inside = c.requires.inside in
    let within : k < length items = omega (arith, test, len, fits) in
    let here : slice_get c.loop-k.row.items k ≡ Some c.index-tally.result.now = slice_get_read c.loop-k.row.items (length c.loop-k.row.items) k c.index-tally.result.now refl (omega (arith, within, size)) c.index-tally.ensures in
    let was = sym (inv.1 k (omega arith)) ∙ here in
    let bit = c.bit.ensures ∙ get_or_default c.args.old k X Z (omega (arith, within, inside)) in
    subst (λ (b : Bit). IsTallyWith b c.index-tally.result.now) (sym bit) (c.requires.tallied k within c.index-tally.result.now was)

pub loop-k-preserved : goal.loop-k-preserved
loop-k-preserved c =
    let inv = c.loop-k.invariant in
    let k = c.loop-k.k in
    let items = c.args.row.now.items in
    let row = c.loop-k.row.items in
    let size = inv.0 in
    let test = c.loop-k-test.true in
    let len = c.len-k-end.ensures in
    let fits = c.args.row.now.ok.0 in
    let inside = c.requires.inside in
    let width = c.requires.width in
    let within : k < length items = omega (arith, test, len, fits) in
    let there : k < length row = omega (arith, within, size) in
    let tally = c.index-tally.result.now in
    let here : slice_get row k ≡ Some tally = slice_get_read row (length row) k tally refl there c.index-tally.ensures in
    let was = sym (inv.1 k (omega arith)) ∙ here in
    let old : c.bit.result ≡ slice_index_or c.args.old k Z = c.bit.ensures ∙ get_or_default c.args.old k X Z (omega (arith, within, inside)) in
    let new : c.bit-in-loop-k.result ≡ slice_index_or c.args.new k Z = c.bit-in-loop-k.ensures ∙ get_or_default c.args.new k X Z (omega (arith, within, inside, width)) in (
      length-set row k c.moved.result ∙ size,
      λ j above. read_other row k j c.moved.result (λ e. omega (arith, above, e)) ∙ inv.1 j (omega (arith, above)),
      λ j others below h t is.
          elim (cases_eq j k) as (λ _. IsTally (slice_index_or c.args.new j Z ∷ others) t) [
            | inl same ↦
                let now : Some c.moved.result ≡ Some t = sym (read_same row k c.moved.result there) ∙ ap (slice_get (slice_set row k c.moved.result)) (sym same) ∙ is in
                let moved : c.moved.result ≡ t = cc in
                let before : IsTally (slice_index_or c.args.old j Z ∷ others) tally = h tally (ap (slice_get items) same ∙ was) in
                let counted = c.moved.ensures others (subst (λ (b : Bit). IsTally (b ∷ others) tally) (ap (λ i. slice_index_or c.args.old i Z) same ∙ sym old) before) in
                subst (IsTally (slice_index_or c.args.new j Z ∷ others)) moved (subst (λ (b : Bit). IsTally (b ∷ others) c.moved.result) (new ∙ ap (λ i. slice_index_or c.args.new i Z) (sym same)) counted)
            | inr apart ↦ inv.2 j others (omega (arith, below, apart)) h t (sym (read_other row k j c.moved.result apart) ∙ is)
          ],
    )

pub returns-clause-tallied : goal.returns-clause-tallied
returns-clause-tallied c k others h tally is =
    let inv = c.loop-k.invariant in
    let size = inv.0 in
    let within = slice_get_within c.loop-k.row.items k tally is in
    let test = c.loop-k-test.false in
    let len = c.len-k-end.ensures in
    let fits = c.args.row.now.ok.0 in
    inv.2 k others (omega (arith, size, within, test, len, fits)) h tally is
