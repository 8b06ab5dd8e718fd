use Rattle.std.proofs.Common.{◌-◌, ◌∙◌, length, arith}
use Rattle.rtl_prep.proofs.Stood.{begins, goes_on, all_found}
use Rattle.rtl_prep.proofs.extents.extents.Goals as goal

pub loop-place-init : goal.loop-place-init
loop-place-init c = record {
  inside = omega arith;
  before = begins c.args.text.now c.new.result.items c.args.tokens.now (length c.args.tokens.now) (omega arith) c.new.ensures.items;
}

pub loop-place-preserved : goal.loop-place-preserved
loop-place-preserved c = record {
  inside = omega arith;
  before =
      goes_on c.args.text.now c.loop-place.ending.end c.take.new.self.end c.loop-place.ending.found.items c.take.new.self.found.items c.args.tokens.now c.loop-place.place (c.loop-place.place - 1) _ (omega arith) (omega arith)
      c.in_ok-take.ensures.end c.in_ok-take.ensures.found c.loop-place.invariant.before;
}

pub returns : goal.returns
returns c =
    c.reverse.ensures.items
    ∙ all_found c.args.text.now c.loop-place.ending.end c.loop-place.ending.found.items c.args.tokens.now c.loop-place.place (omega arith) c.loop-place.invariant.before
