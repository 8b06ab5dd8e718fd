use Rattle.std.proofs.Common.{◌≤◌, ◌∷◌, [], List, length, arith, subst}
use Rattle.std.proofs.lemmas.List.{take_all}
use Rattle.rtl_elab.specs.elab_links.Modules.{lookups_of}
use Rattle.rtl_elab.specs.elab_walk.declared.trail.Placement.{Placement}
use Rattle.elab_names.specs.Asking.{AreAsked, Asks}
use Rattle.elab_names.proofs.Asking.{asked_more, begins, placed_names}
use Rattle.elab_names.proofs.names.look_ups.Goals as goal

pub loop-placement-init : goal.loop-placement-init
loop-placement-init c =
    let lookups = lookups_of c.args.set.now in
    let asks : Asks lookups (c.args.top.now ∷ []) c.new-asked.result c.add.new.self = c.in_ok-add.ensures in
    asks.on [] (begins lookups c.new-asked.result c.new-asked.ensures.known c.new-asked.ensures.found)

pub loop-placement-preserved : goal.loop-placement-preserved
loop-placement-preserved c =
    asked_more (lookups_of c.args.set.now) c.args.top.now c.args.placements.now c.loop-placement.placement-index c.placement-item.result c.deref.result.now c.loop-placement.asked c.add_items.new.self c.loop-placement-test.true c.placement-item.is c.deref.ensures.value c.in_ok-add_items.ensures c.loop-placement.invariant

pub returns : goal.returns
returns c =
    let lookups = lookups_of c.args.set.now in
    let top = c.args.top.now in
    let all = c.args.placements.now in
    let asked = c.loop-placement.asked in
    let past : length all ≤ c.loop-placement.placement-index = omega arith in
    let are : AreAsked lookups (top ∷ placed_names all) asked
    = subst (λ (some : List Placement). AreAsked lookups (top ∷ placed_names some) asked) (take_all c.loop-placement.placement-index all past) c.loop-placement.invariant in
    record { each = are.each; meant = are.meant }
