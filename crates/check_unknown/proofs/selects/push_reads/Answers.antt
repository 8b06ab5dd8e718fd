use Rattle.std.proofs.Common.{◌∙◌, ◌++◌, ap, map}
use Rattle.std.specs.List.{filter_map}
use Rattle.std.proofs.lemmas.List.{take_all}
use Rattle.rtl_flat.specs.Expression.{tree}
use Rattle.rtl_flat.specs.Flats.{flat, widths}
use Rattle.check_unknown.specs.Lists.{misses_found}
use Rattle.check_unknown.specs.Unknowns.{pick_in}
use Rattle.check_unknown.proofs.Picks.{misses_more}
use Rattle.check_unknown.proofs.selects.push_reads.Goals as goal

pub loop-e-preserved : goal.loop-e-preserved
loop-e-preserved c =
    misses_more (widths (flat c.args.design.now)) c.args.instance pick_in (λ e. tree e.now) c.args.all.now c.loop-e.e-index c.e-item.result c.loop-e-test.true c.e-item.is c.args.found.now.items c.loop-e.found.items c.push_read.new.found.items c.loop-e.invariant c.in_ok-push_read.ensures

pub returns : goal.returns
returns c =
    c.loop-e.invariant ∙ ap (λ xs. c.args.found.now.items ++ misses_found (widths (flat c.args.design.now)) c.args.instance (filter_map pick_in (map (λ e. tree e.now) xs))) (take_all c.loop-e.e-index c.args.all.now c.loop-e-test.false)
