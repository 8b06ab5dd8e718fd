use Rattle.std.proofs.Common.{◌-◌, ◌∙◌, length, arith}
use Rattle.rtl_prep.specs.Passes.{closing}
use Rattle.rtl_prep.proofs.Closed.{begins, goes_on, all_closed}
use Rattle.rtl_prep.proofs.chains.chains.Goals as goal

pub loop-place-init : goal.loop-place-init
loop-place-init c = record {
  inside = omega arith;
  before = begins (closing (record { ends = c.new.result; chains = c.new-2.result })) c.args.notices.now (length c.args.notices.now) (omega arith) c.new.ensures c.new-2.ensures.items;
}

pub loop-place-preserved : goal.loop-place-preserved
loop-place-preserved c = record {
  inside = omega arith;
  before =
      goes_on (closing c.loop-place.closing) (closing c.take.new.self) c.args.notices.now c.loop-place.place (c.loop-place.place - 1) _ (omega arith) (omega arith)
      c.in_ok-take.ensures c.loop-place.invariant.before;
}

pub returns : goal.returns
returns c =
    c.reverse.ensures.items
    ∙ all_closed (closing c.loop-place.closing) c.args.notices.now c.loop-place.place (omega arith) c.loop-place.invariant.before
