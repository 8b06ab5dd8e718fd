use Rattle.std.proofs.Common.{[], ◌++◌, ◌∙◌, inr, length, take, ◌-◌, refl, arith}
use Rattle.std.proofs.lemmas.List.{length-drop, length-take}
use Rattle.desk_server.proofs.Buffers.{heard_more, heard_same, same_length}
use Rattle.desk_server.proofs.Talks.{GoesOn-trans}
use Rattle.desk_server.proofs.hear.hear_head.Goals as goal

pub returns-in-Err-clause-heard : goal.returns-in-Err-clause-heard
returns-in-Err-clause-heard g c = record {
  heard = take c.loop-link.count c.loop-link.buf ++ [];
  goes = GoesOn-trans (g.L.Link.talk c.args.link.now) (g.L.Link.talk c.loop-link.link) (g.L.Link.talk c.read.new.self)
      (take c.loop-link.count c.loop-link.buf) [] [] [] c.loop-link.invariant.so_far c.in-Err.ensures.told;
  holds = tt;
}

pub returns-then-more-eq0-clause-heard : goal.returns-then-more-eq0-clause-heard
returns-then-more-eq0-clause-heard g c = (
  heard_same (g.L.Link.talk c.args.link.now) (g.L.Link.talk c.loop-link.link) (g.L.Link.talk c.read.new.self)
      c.loop-link.buf c.read.new.buf c.loop-link.count c.in-Ok.more (length c.loop-link.buf - c.loop-link.count)
      c.loop-link.invariant.within c.in-Ok.ensures.bound.0 c.if-more-eq0.true
      c.loop-link.invariant.so_far c.in-Ok.ensures.told,
  inr (c.in-Ok.ensures.end c.if-more-eq0.true
      (let room = rw length-take at (c.loop-link-test.ensures.open refl) in
      omega (arith, room, c.requires, c.loop-link.auto.buf, c.read.auto.buf, c.loop-link.invariant.within))),
)

pub loop-link-preserved : goal.loop-link-preserved
loop-link-preserved g c = record {
  so_far = heard_more (g.L.Link.talk c.args.link.now) (g.L.Link.talk c.loop-link.link) (g.L.Link.talk c.read.new.self)
      c.loop-link.buf c.read.new.buf c.loop-link.count c.in-Ok.more (length c.loop-link.buf - c.loop-link.count)
      c.loop-link.invariant.within c.in-Ok.ensures.bound.0 c.loop-link.invariant.so_far c.in-Ok.ensures.told;
  still = c.in-Ok.ensures.calm ∙ c.loop-link.invariant.still;
  within =
      let room = rw (length-take, length-drop) at c.read.auto.buf in
      let size = same_length c.loop-link.buf c.read.new.buf c.loop-link.count c.loop-link.invariant.within (omega (arith, room)) in
      let fits = c.in-Ok.ensures.bound.0 in
      omega (arith, size, fits, room, c.loop-link.invariant.within);
}
