use Rattle.std.proofs.Common.{◌∙◌}
use Rattle.desk_server.proofs.Saying.{said_more}
use Rattle.desk_server.proofs.give.say.Goals as goal

pub loop-rest-preserved : goal.loop-rest-preserved
loop-rest-preserved g c = record {
  so_far = rw c.split_at.ensures.back
      (said_more (g.L.Link.talk c.args.link.now) (g.L.Link.talk c.loop-rest.link) (g.L.Link.talk c.write.new.self)
      c.args.bytes.now c.loop-rest.rest.now c.in-Ok.count c.loop-rest.invariant.so_far c.in-Ok.ensures.told);
  still = c.in-Ok.ensures.calm ∙ c.loop-rest.invariant.still;
}
