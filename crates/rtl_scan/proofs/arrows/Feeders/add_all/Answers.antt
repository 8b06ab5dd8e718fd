use Rattle.std.proofs.Common.{◌∙◌}
use Rattle.rtl_scan.proofs.Tables.{all_none, all_more}
use Rattle.rtl_scan.proofs.arrows.Feeders.add_all.Goals as goal

pub loop-writer-preserved : goal.loop-writer-preserved
loop-writer-preserved c = (
  c.in_ok-add_one.ensures.same ∙ c.loop-writer.invariant.0,
  λ new others.
      c.loop-writer.invariant.1 new
      (all_more c.args.writers.now c.loop-writer.writer-index c.args.mask c.args.itself c.args.self.now.process c.loop-writer.self.process _ c.loop-writer-test.true c.loop-writer.invariant.0 c.loop-writer.self c.add_one.new.self c.in_ok-add_one.ensures new others),
)

pub returns : goal.returns
returns c =
    c.loop-writer.invariant.1 c.loop-writer.self (all_none c.args.writers.now c.loop-writer.writer-index c.args.mask c.args.itself c.args.self.now.process c.loop-writer.self c.loop-writer-test.false)
