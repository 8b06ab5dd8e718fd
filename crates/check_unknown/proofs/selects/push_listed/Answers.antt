use Rattle.std.proofs.Common.{◌∙◌, ◌++◌, ap, map}
use Rattle.std.specs.List.{filter_map}
use Rattle.std.proofs.lemmas.List.{take_all}
use Rattle.rtl_flat.specs.Process.{Watched, watched}
use Rattle.rtl_flat.specs.Flats.{flat, widths}
use Rattle.check_unknown.specs.Lists.{misses_found}
use Rattle.check_unknown.specs.Unknowns.{pick_of}
use Rattle.check_unknown.proofs.Picks.{misses_more}
use Rattle.check_unknown.proofs.selects.push_listed.Goals as goal

pub loop-item-preserved : goal.loop-item-preserved
loop-item-preserved c =
    misses_more (widths (flat c.args.design.now)) c.args.instance (λ (item : Watched). pick_of item.signal item.spot item.selection) watched c.args.items.now c.loop-item.item-index c.item-item.result c.loop-item-test.true c.item-item.is c.args.found.now.items c.loop-item.found.items c.push_miss.new.found.items c.loop-item.invariant c.in_ok-push_miss.ensures

pub returns : goal.returns
returns c =
    c.loop-item.invariant ∙ ap (λ xs. c.args.found.now.items ++ misses_found (widths (flat c.args.design.now)) c.args.instance (filter_map (λ (item : Watched). pick_of item.signal item.spot item.selection) (map watched xs))) (take_all c.loop-item.item-index c.args.items.now c.loop-item-test.false)
