use Rattle.rtl_scan.proofs.Users.{answer_more}
use Rattle.rtl_scan.proofs.usages.answers.Goals as goal

pub loop-place-preserved : goal.loop-place-preserved
loop-place-preserved c =
    answer_more c.args.signals.now c.args.usages.now c.loop-place.place c.loop-place.answers.items c.push.new.self.items c.index-signals-place.result _ c.is_temporary.result c.requires c.loop-place-test.true c.index-signals-place.is c.is_temporary.ensures c.in_ok-push.ensures.items c.loop-place.invariant
