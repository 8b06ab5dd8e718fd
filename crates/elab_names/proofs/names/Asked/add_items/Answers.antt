use Rattle.std.proofs.Common.{ℕ, List, map, take, sym, subst}
use Rattle.rtl_tree.specs.TreeItem.{module_item}
use Rattle.rtl_elab.specs.elab_links.Modules.{lookups_of}
use Rattle.elab_names.specs.Asking.{Asks}
use Rattle.elab_names.specs.LookUps.{name_in_item, names_in}
use Rattle.elab_names.proofs.Asking.{asks_both, names_more}
use Rattle.elab_names.proofs.names.Asked.add_items.Goals as goal

pub loop-item-preserved : goal.loop-item-preserved
loop-item-preserved c =
    let lookups = lookups_of c.args.set.now in
    let items = c.args.items.now in
    let i = c.loop-item.item-index in
    let item = c.item-item.result in
    subst (λ (names : List (List ℕ)). Asks lookups names c.args.self.now c.add_item.new.self) (sym (names_more items i item c.loop-item-test.true c.item-item.is))
    (asks_both lookups (names_in (map module_item (take i items))) (name_in_item (module_item item)) c.args.self.now c.loop-item.self c.add_item.new.self c.loop-item.invariant c.in_ok-add_item.ensures)
