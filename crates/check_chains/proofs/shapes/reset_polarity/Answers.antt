use Rattle.std.proofs.Common.{◌<◌, length, arith}
use Rattle.rtl_rule.specs.declared.rule.Rule.TheVariants.{ResetPolarity}
use Rattle.rtl_flat.specs.Flats.{flat}
use Rattle.check_chains.specs.Chains.{IsResetPolarity}
use Rattle.check_chains.proofs.Told.{next_told, same_truth}
use Rattle.check_chains.proofs.shapes.reset_polarity.Goals as goal

pub loop-number-preserved : goal.loop-number-preserved
loop-number-preserved c =
    let design = c.args.design.now in
    let x = c.index.result.now in
    let below : c.loop-number.number < length design.processes.items = omega arith in
    next_told design (IsResetPolarity (flat design)) ResetPolarity c.loop-number.number x below c.index.ensures c.in_ok-broken.broken (same_truth _ _ c.in_ok-broken.ensures) c.loop-number.found.items c.push_if.new.found.items (λ t there. c.in_ok-push_if.ensures t there) c.loop-number.invariant
