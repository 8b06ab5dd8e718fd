use Rattle.std.proofs.Common.{◌∙◌, ◌++◌, ap, map}
use Rattle.std.specs.List.{filter_map}
use Rattle.std.proofs.lemmas.List.{take_all}
use Rattle.rtl_flat.specs.Process.{Piece, piece}
use Rattle.rtl_flat.specs.Flats.{flat, widths}
use Rattle.check_unknown.specs.Lists.{misses_found}
use Rattle.check_unknown.specs.Unknowns.{pick_of}
use Rattle.check_unknown.proofs.Picks.{misses_more}
use Rattle.check_unknown.proofs.selects.push_written.Goals as goal

pub loop-part-preserved : goal.loop-part-preserved
loop-part-preserved c =
    misses_more (widths (flat c.args.design.now)) c.args.instance (λ (one : Piece). pick_of one.signal one.spot one.selection) (λ one. piece one.now) c.args.targets.now c.loop-part.part-index c.part-item.result c.loop-part-test.true c.part-item.is c.args.found.now.items c.loop-part.found.items c.push_miss.new.found.items c.loop-part.invariant c.in_ok-push_miss.ensures

pub returns : goal.returns
returns c =
    c.loop-part.invariant ∙ ap (λ xs. c.args.found.now.items ++ misses_found (widths (flat c.args.design.now)) c.args.instance (filter_map (λ (one : Piece). pick_of one.signal one.spot one.selection) (map (λ one. piece one.now) xs))) (take_all c.loop-part.part-index c.args.targets.now c.loop-part-test.false)
