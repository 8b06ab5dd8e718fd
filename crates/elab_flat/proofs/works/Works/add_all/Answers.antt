use Rattle.std.proofs.Common.{◌∙◌, ◌+◌, ap, drop, map, subst, sym}
use Rattle.rtl_tree.specs.TreeItem.{module_item}
use Rattle.elab_walk.specs.Trails.{placement}
use Rattle.elab_walk.specs.Visits.{library}
use Rattle.elab_flat.specs.Children.{bases_of}
use Rattle.elab_flat.specs.Views.{works}
use Rattle.elab_flat.specs.Works.{with_parts}
use Rattle.elab_flat.proofs.Items.{AreLeft, left_known, more_parts, own_known}
use Rattle.elab_flat.proofs.works.Works.add_all.Goals as goal

pub add-requires-clause-known : goal.add-requires-clause-known
add-requires-clause-known c =
    own_known (library c.args.all) (placement c.args.at.now) c.loop-item.held.now c.args.items.now c.loop-item.item-index c.item-item.result c.loop-item-test.true c.item-item.is c.loop-item.invariant.known

pub loop-item-preserved : goal.loop-item-preserved
loop-item-preserved c =
    let all = library c.args.all in
    let at = placement c.args.at.now in
    let items = c.args.items.now in
    let i = c.loop-item.item-index in
    let held = c.loop-item.held.now in
    let count = c.in_ok-count.count in
    let others = map module_item (drop (i + 1) items) in
    record {
      made = ap (λ kept. with_parts all at (bases_of kept) (works c.add.new.self) others) c.behind-held.ensures ∙ more_parts all at held count (works c.loop-item.self) (works c.add.new.self) items i c.item-item.result c.loop-item-test.true c.item-item.is c.in_ok-count.ensures.count c.in_ok-count.ensures.made ∙ c.loop-item.invariant.made;
      same = c.in_ok-count.ensures.same ∙ c.loop-item.invariant.same;
      known = subst (λ kept. AreLeft all at kept items (i + 1)) (sym c.behind-held.ensures) (left_known all at held count items i c.item-item.result c.loop-item-test.true c.item-item.is c.in_ok-count.ensures.count c.loop-item.invariant.known);
    }
