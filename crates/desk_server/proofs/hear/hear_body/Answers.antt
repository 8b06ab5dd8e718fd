use Rattle.std.proofs.Common.{arith}
use Rattle.desk_server.proofs.Bodies.{gathered_cut, gathered_more, gathered_stop}
use Rattle.desk_server.proofs.hear.hear_body.Goals as goal

pub loop-body-preserved : goal.loop-body-preserved
loop-body-preserved g c = record {
  so_far = gathered_more (g.L.Link.talk c.args.link.now) (g.L.Link.talk c.loop-body.link) (g.L.Link.talk c.hear_piece.new.link)
      c.args.front.now c.loop-body.body.items c.hear_piece.new.body.items c.args.count c.in-Ok-hear_piece.more
      c.loop-body.invariant.so_far c.in-Ok-hear_piece.ensures.grows
      (omega (arith, c.in-Ok-hear_piece.ensures.bound, c.loop-body-test.true, c.len-in-loop-body.ensures, c.len.ensures, c.loop-body.body.ok.0));
  later = omega (arith, c.loop-body.invariant.later, c.hear_piece.ensures.later);
}

pub returns-in-Err-clause-body : goal.returns-in-Err-clause-body
returns-in-Err-clause-body g c =
    gathered_stop (g.L.Link.talk c.args.link.now) (g.L.Link.talk c.loop-body.link) (g.L.Link.talk c.hear_piece.new.link)
    c.args.front.now c.loop-body.body.items c.args.count c.in-Err.unheard c.loop-body.invariant.so_far
    c.in-Err.ensures.stops c.in-Err.ensures.fails

pub returns-then-more-eq0-clause-body : goal.returns-then-more-eq0-clause-body
returns-then-more-eq0-clause-body g c =
    gathered_cut (g.L.Link.talk c.args.link.now) (g.L.Link.talk c.loop-body.link) (g.L.Link.talk c.hear_piece.new.link)
    c.args.front.now c.loop-body.body.items c.hear_piece.new.body.items c.args.count c.in-Ok-hear_piece.more
    c.loop-body.invariant.so_far
    (omega (arith, c.loop-body-test.true, c.len.ensures, c.loop-body.body.ok.0))
    c.in-Ok-hear_piece.ensures.grows c.if-more-eq0.true (c.in-Ok-hear_piece.ensures.end c.if-more-eq0.true)
