use Rattle.std.proofs.Common.{◌∙◌, arith, refl}
use Rattle.desk_server.specs.Exchanges.{around}
use Rattle.desk_server.proofs.Running.{running_more, running_none, served_all, served_some}
use Rattle.desk_server.proofs.serve.serve_links.Goals as goal

pub loop-init : goal.loop-init
loop-init g c = record {
  so_far = running_none g.S.Service.serves (g.D.Door.visits c.args.door.now)
      (around (g.C.Clock.days c.args.clock.now) (g.C.Clock.faults c.args.clock.now) (g.K.Keeper.count c.args.keeper.now))
      (g.S.Service.kept c.args.service.now);
  held = c.requires;
  later = omega arith;
  calm = refl;
  later_clock = omega arith;
}

pub loop-preserved : goal.loop-preserved
loop-preserved g c = record {
  so_far = running_more (g.D.Door.visits c.args.door.now) (g.D.Door.visits c.loop.door) (g.D.Door.visits c.next.new.self) (g.D.Door.visits c.ended.new.self)
      _ _ _ _
      (around (g.C.Clock.days c.args.clock.now) (g.C.Clock.faults c.args.clock.now) (g.K.Keeper.count c.args.keeper.now))
      (around (g.C.Clock.days c.loop.clock) (g.C.Clock.faults c.loop.clock) (g.K.Keeper.count c.loop.keeper))
      (around (g.C.Clock.days c.connection-served.new.clock) (g.C.Clock.faults c.connection-served.new.clock) (g.K.Keeper.count c.connection-served.new.keeper))
      (g.S.Service.kept c.args.service.now) (g.S.Service.kept c.loop.service) (g.S.Service.kept c.connection-served.new.service) c.loop.counter c.connection-served.result
      c.loop.invariant.so_far c.in-Ok.ensures.gives c.ended.ensures.takes c.connection-served.ensures.connected
      (record { clock = c.connection-served.ensures.later_clock; keeper = c.connection-served.ensures.later });
  held = c.connection-served.ensures.held;
  later = omega (arith, c.loop.invariant.later, c.connection-served.ensures.later);
  calm = c.ended.ensures.count ∙ c.in-Ok.ensures.calm ∙ c.loop.invariant.calm;
  later_clock = omega (arith, c.loop.invariant.later_clock, c.connection-served.ensures.later_clock);
}

pub returns-in-Err-clause-serves : goal.returns-in-Err-clause-serves
returns-in-Err-clause-serves g c =
    served_some g.S.Service.serves (g.D.Door.visits c.args.door.now) (g.D.Door.visits c.loop.door) (g.D.Door.visits c.next.new.self)
    (around (g.C.Clock.days c.args.clock.now) (g.C.Clock.faults c.args.clock.now) (g.K.Keeper.count c.args.keeper.now))
    (around (g.C.Clock.days c.loop.clock) (g.C.Clock.faults c.loop.clock) (g.K.Keeper.count c.loop.keeper))
    (g.S.Service.kept c.args.service.now) (g.S.Service.kept c.loop.service) c.loop.counter c.args.count c.in-Err.field-0
    c.loop.invariant.so_far c.in-Err.ensures.same (omega (arith, c.loop.auto.counter-end))

pub returns-clause-serves : goal.returns-clause-serves
returns-clause-serves g c =
    served_all g.S.Service.serves (g.D.Door.visits c.args.door.now) (g.D.Door.visits c.loop.door)
    (around (g.C.Clock.days c.args.clock.now) (g.C.Clock.faults c.args.clock.now) (g.K.Keeper.count c.args.keeper.now))
    (around (g.C.Clock.days c.loop.clock) (g.C.Clock.faults c.loop.clock) (g.K.Keeper.count c.loop.keeper))
    (g.S.Service.kept c.args.service.now) (g.S.Service.kept c.loop.service) c.loop.counter c.args.count
    c.loop.invariant.so_far (omega (arith, c.loop.auto.counter-end, c.loop-test.false))
