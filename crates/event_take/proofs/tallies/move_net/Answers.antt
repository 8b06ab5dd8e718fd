use Rattle.std.proofs.Common.{ℕ, ◌≤◌, ◌<◌, ◌∙◌, ◌∷◌, List, length, map, ap, sym, subst, arith}
use Rattle.std.specs.Prelude.{slice_index_or}
use Rattle.rtl_bits.specs.declared.Bit.{Bit}
use Rattle.rtl_bits.specs.declared.Bit.TheVariants.{Z}
use Rattle.rtl_flat.specs.declared.signal.Signal.{Signal}
use Rattle.rtl_flat.specs.Process.{piece}
use Rattle.rtl_flat.specs.Signs.{width_in}
use Rattle.event_write.proofs.rtl_scan_proofs.Processes.{widths_fit}
use Rattle.event_model.specs.Writes.{driven}
use Rattle.event_write.specs.event_tally.declared.tally.Tally.{Tally}
use Rattle.event_write.specs.event_tally.Tallies.{IsTalliedAt, IsTalliedWith}
use Rattle.event_write.specs.QueueState.{row}
use Rattle.event_write.proofs.Targets.{some_bits}
use Rattle.event_take.proofs.Retallying.{row_other, row_read, row_same}
use Rattle.event_take.proofs.tallies.move_net.Goals as goal

pub driven-before-requires-clause-width : goal.driven-before-requires-clause-width
driven-before-requires-clause-width c =
    let design = c.args.design.now in
    subst (λ (ss : List Signal). (1 ≤ width_in ss c.args.net.0) × (width_in ss c.args.net.0 ≤ 128)) (sym c.deref.ensures.value)
    (some_bits design.instances.items design.signals.items design.is_design.each_signal c.args.net.0 c.requires.there, widths_fit design.instances.items design.signals.items design.is_design.each_signal c.args.net.0)

pub move_row-requires-clause-inside : goal.move_row-requires-clause-inside
move_row-requires-clause-inside c =
    let net = c.args.net.0 in
    let rows = c.args.tallies.now.items in
    let there = c.requires.there in
    let count = c.requires.count in
    let is = ap (λ v. v.items) c.index_mut.ensures.value ∙ row_read rows net _ (omega (arith, there, count)) in
    let size = ap (λ (xs : List Tally). length xs) is in
    let inside = c.requires.inside in
    let width = c.driven-before.ensures.width ∙ ap (λ (ss : List Signal). width_in ss net) c.deref.ensures.value in
    omega (arith, size, inside, width)

pub move_row-requires-clause-tallied : goal.move_row-requires-clause-tallied
move_row-requires-clause-tallied c =
    let net = c.args.net.0 in
    let rows = c.args.tallies.now.items in
    let there = c.requires.there in
    let count = c.requires.count in
    let is = ap (λ v. v.items) c.index_mut.ensures.value ∙ row_read rows net _ (omega (arith, there, count)) in
    let before = c.driven-before.ensures.bits ∙ ap (λ (ss : List Signal). driven (width_in ss) (map piece c.args.parts.now) c.args.old net) c.deref.ensures.value in
    subst (λ (xs : List Tally). (k : ℕ) → k < length xs → IsTalliedWith xs k (slice_index_or c.driven-before.result k Z)) (sym is)
    (λ k within. subst (λ (bs : List Bit). IsTalliedWith (row rows net) k (slice_index_or bs k Z)) (sym before) (c.requires.tallied k within))

pub returns-clause-others : goal.returns-clause-others
returns-clause-others c i apart = row_other c.args.tallies.now.items c.args.net.0 c.move_row.new.row i apart

pub returns-clause-width : goal.returns-clause-width
returns-clause-width c =
    let net = c.args.net.0 in
    let rows = c.args.tallies.now.items in
    let there = c.requires.there in
    let count = c.requires.count in
    let within : net < length rows = omega (arith, there, count) in
    let is = ap (λ v. v.items) c.index_mut.ensures.value ∙ row_read rows net _ within in
    ap (λ (xs : List Tally). length xs) (row_same rows net c.move_row.new.row within) ∙ c.move_row.ensures.size ∙ ap (λ (xs : List Tally). length xs) is

pub returns-clause-tallied : goal.returns-clause-tallied
returns-clause-tallied c k others below h =
    let net = c.args.net.0 in
    let rows = c.args.tallies.now.items in
    let parts = map piece c.args.parts.now in
    let there = c.requires.there in
    let count = c.requires.count in
    let within : net < length rows = omega (arith, there, count) in
    let is = ap (λ v. v.items) c.index_mut.ensures.value ∙ row_read rows net _ within in
    let before = c.driven-before.ensures.bits ∙ ap (λ (ss : List Signal). driven (width_in ss) parts c.args.old net) c.deref.ensures.value in
    let after = c.driven-after.ensures.bits ∙ ap (λ (ss : List Signal). driven (width_in ss) parts c.args.new net) c.deref-2.ensures.value in
    let old = subst (λ (xs : List Tally). IsTalliedAt xs k (slice_index_or c.driven-before.result k Z ∷ others)) (sym is)
    (subst (λ (bs : List Bit). IsTalliedAt (row rows net) k (slice_index_or bs k Z ∷ others)) (sym before) h) in
    subst (λ (xs : List Tally). IsTalliedAt xs k (slice_index_or (driven (width_in c.args.design.now.signals.items) parts c.args.new net) k Z ∷ others)) (sym (row_same rows net c.move_row.new.row within))
    (subst (λ (bs : List Bit). IsTalliedAt c.move_row.new.row.items k (slice_index_or bs k Z ∷ others)) after (c.move_row.ensures.tallied k others old))
