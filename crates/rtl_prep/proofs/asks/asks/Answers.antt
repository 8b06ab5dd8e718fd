use Rattle.std.proofs.Common.{refl, arith}
use Rattle.rtl_prep.specs.Passes.{all_seen, asking}
use Rattle.rtl_prep.proofs.Asked.{begins, goes_on, all_asked}
use Rattle.rtl_prep.proofs.asks.asks.Goals as goal

pub loop-notice-init : goal.loop-notice-init
loop-notice-init c = record {
  behind =
      begins (asking (record { settled = c.new.result; opened = c.new-2.result; begun = 0; asks = c.new-3.result })) (all_seen c.args.notices.now)
      c.new.ensures c.new-2.ensures refl c.new-3.ensures.items;
  few = omega arith;
}

pub loop-notice-preserved : goal.loop-notice-preserved
loop-notice-preserved c = record {
  behind =
      goes_on (asking c.loop-notice.asking) (asking c.take.new.self) c.args.notices.now c.loop-notice.notice-index _ (all_seen c.args.notices.now) (omega arith)
      c.in_ok-take.ensures.step c.loop-notice.invariant.behind;
  few = omega (arith, c.in_ok-take.ensures.few);
}

pub returns : goal.returns
returns c = all_asked (asking c.loop-notice.asking) c.args.notices.now c.loop-notice.notice-index (all_seen c.args.notices.now) (omega arith) c.loop-notice.invariant.behind
