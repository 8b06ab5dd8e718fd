use Rattle.std.proofs.Common.{◌<◌, ◌+◌, ◌^◌, ◌∙◌, ◌∷◌, cond, List, length, map, drop, get_or, refl, ap, sym, subst, arith}
use Rattle.std.specs.Prelude.{slice_index_or}
use Rattle.std.proofs.lemmas.List.{drop_all}
use Rattle.rtl_bits.specs.declared.Bit.{Bit}
use Rattle.rtl_bits.specs.declared.Bit.TheVariants.{Z}
use Rattle.rtl_flat.specs.declared.act.TargetPart.{TargetPart}
use Rattle.rtl_flat.specs.Process.{piece, selection}
use Rattle.event_write.proofs.rtl_scan_proofs.Labels.{left_at}
use Rattle.rtl_flat.specs.Flats.{flat, widths}
use Rattle.event_model.specs.Writes.{driven, put}
use Rattle.event_write.specs.event_tally.Given.{AreCounted}
use Rattle.event_write.specs.event_tally.Tallies.{IsTalliedAt}
use Rattle.event_write.specs.event_tally.Targets.{names}
use Rattle.event_write.specs.Entries.{AreSelected}
use Rattle.event_write.specs.QueueState.{row}
use Rattle.event_take.proofs.Retallying.{Half, half_begin, half_here, half_moved, half_skip, selected_later, selection_there, with_old}
use Rattle.event_take.proofs.tallies.move_parts.Goals as goal

pub loop-at-init : goal.loop-at-init
loop-at-init c =
    (refl, λ driver has tallied. half_begin (flat c.args.design.now) driver c.args.process.0 c.args.new (map piece c.args.parts.now) c.args.tallies.now.items c.requires.target tallied)

pub loop-at-preserved-then-again : goal.loop-at-preserved-then-again
loop-at-preserved-then-again c =
    let d = flat c.args.design.now in
    let p = c.args.process.0 in
    let parts = c.args.parts.now in
    let i = c.loop-at.at in
    let inv = c.loop-at.invariant in
    let part = get_or parts i c.index-parts-at.result in
    let left = left_at parts i part c.loop-at-test.true (ap (λ x. get_or parts i x) c.index-parts-at.is) in
    let again = sym c.is_named-again.ensures ∙ c.if-again.true in (
      inv.0,
      λ driver has tallied. half_skip d driver p c.args.new (piece part) (map piece (drop (i + 1) parts)) c.loop-at.tallies.items again
          (subst (λ (ps : List TargetPart). Half d driver p c.args.new (map piece ps) c.loop-at.tallies.items) left (inv.1 driver has tallied)),
    )

pub move_net-requires-clause-there : goal.move_net-requires-clause-there
move_net-requires-clause-there c =
    let signals = c.args.design.now.signals.items in
    let parts = c.args.parts.now in
    let i = c.loop-at.at in
    let part = get_or parts i c.index-parts-at.result in
    let left = left_at parts i part c.loop-at-test.true (ap (λ x. get_or parts i x) c.index-parts-at.is) in
    let lawful = subst (λ (ps : List TargetPart). AreSelected signals (map piece ps)) left (selected_later signals parts i c.requires.target.selected) in
    selection_there signals part.signal.0 (selection part.select) lawful.0

pub move_net-requires-clause-inside : goal.move_net-requires-clause-inside
move_net-requires-clause-inside c =
    let d = flat c.args.design.now in
    let p = c.args.process.0 in
    let parts = c.args.parts.now in
    let i = c.loop-at.at in
    let part = get_or parts i c.index-parts-at.result in
    let left = left_at parts i part c.loop-at-test.true (ap (λ x. get_or parts i x) c.index-parts-at.is) in
    let some = c.requires.tallied in
    let half = subst (λ (ps : List TargetPart). Half d some.driver p c.args.new (map piece ps) c.loop-at.tallies.items) left (c.loop-at.invariant.1 some.driver some.has some.tallied) in
    (half_here d some.driver p c.args.new (piece part) (map piece (drop (i + 1) parts)) c.loop-at.tallies.items half).inside

pub move_net-requires-clause-tallied : goal.move_net-requires-clause-tallied
move_net-requires-clause-tallied c k within =
    let d = flat c.args.design.now in
    let p = c.args.process.0 in
    let parts = c.args.parts.now in
    let i = c.loop-at.at in
    let part = get_or parts i c.index-parts-at.result in
    let left = left_at parts i part c.loop-at-test.true (ap (λ x. get_or parts i x) c.index-parts-at.is) in
    let some = c.requires.tallied in
    let half = subst (λ (ps : List TargetPart). Half d some.driver p c.args.new (map piece ps) c.loop-at.tallies.items) left (c.loop-at.invariant.1 some.driver some.has some.tallied) in
    let counted = half_here d some.driver p c.args.new (piece part) (map piece (drop (i + 1) parts)) c.loop-at.tallies.items half in
    let limit = c.args.design.now.is_design.process_limit in
    let few : length d.tasks + 1 < 2 ^ 32 = omega (arith, limit) in
    with_old d some.driver p c.args.old (map piece parts) part.signal.0 (row c.loop-at.tallies.items part.signal.0) k c.requires.target some.has few counted

pub loop-at-preserved : goal.loop-at-preserved
loop-at-preserved c =
    let d = flat c.args.design.now in
    let p = c.args.process.0 in
    let parts = c.args.parts.now in
    let target = map piece parts in
    let i = c.loop-at.at in
    let inv = c.loop-at.invariant in
    let part = get_or parts i c.index-parts-at.result in
    let net = part.signal.0 in
    let left = left_at parts i part c.loop-at-test.true (ap (λ x. get_or parts i x) c.index-parts-at.is) in
    let last = sym c.is_named-again.ensures ∙ c.if-again.false in
    let before = c.loop-at.tallies.items in (
      c.move_net.ensures.size ∙ inv.0,
      λ driver has tallied. half_moved d driver p c.args.new target (piece part) (map piece (drop (i + 1) parts)) before c.move_net.new.tallies.items c.requires.target last c.move_net.ensures.others c.move_net.ensures.width
          (λ k others within h. c.move_net.ensures.tallied k others within (subst (λ (bs : List Bit). IsTalliedAt (row before net) k (slice_index_or (driven (widths d) target bs net) k Z ∷ others)) has h))
          (subst (λ (ps : List TargetPart). Half d driver p c.args.new (map piece ps) before) left (inv.1 driver has tallied)),
    )

pub returns-clause-tallied : goal.returns-clause-tallied
returns-clause-tallied c driver has tallied net =
    let d = flat c.args.design.now in
    let p = c.args.process.0 in
    subst (λ (ps : List TargetPart). AreCounted d (cond (names (map piece ps) net) driver (put driver p c.args.new)) net (row c.loop-at.tallies.items net))
    (drop_all c.loop-at.at c.args.parts.now c.loop-at-test.false) (c.loop-at.invariant.1 driver has tallied net)
