use Rattle.std.proofs.Common.{◌<◌, length, arith}
use Rattle.rtl_rule.specs.declared.rule.Rule.TheVariants.{ResetValue}
use Rattle.rtl_flat.specs.Flats.{flat}
use Rattle.check_chains.specs.Chains.{IsResetValue}
use Rattle.check_chains.proofs.Told.{next_there}
use Rattle.check_chains.proofs.branches.reset_value.Goals as goal

pub loop-number-preserved : goal.loop-number-preserved
loop-number-preserved c =
    let design = c.args.scans.now.design.now in
    let below : c.loop-number.number < length design.processes.items = omega arith in
    next_there design (IsResetValue (flat design)) ResetValue c.loop-number.number below c.in_ok-broken.broken (λ t there. c.in_ok-broken.ensures t there) c.loop-number.found.items c.push_if.new.found.items (λ t there. c.in_ok-push_if.ensures t there) c.loop-number.invariant
