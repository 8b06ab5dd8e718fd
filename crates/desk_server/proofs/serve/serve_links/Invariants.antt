use Rattle.std.proofs.Common.{◌≡◌, ◌≤◌, IfSome}
use Rattle.desk_links.specs.Doors.{Tells}
use Rattle.desk_server.specs.Exchanges.{around}
use Rattle.desk_server.proofs.Running.{IsRunning}
use Rattle.desk_server.proofs.serve.serve_links.Given as goal

abbrev pub invariant-loop : goal.invariant-loop
invariant-loop g l =
    record {
      so_far : Tells (g.D.Door.visits l.fn.door) (g.D.Door.visits l.door) (IsRunning g.S.Service.serves l.counter
          (around (g.C.Clock.days l.fn.clock) (g.C.Clock.faults l.fn.clock) (g.K.Keeper.count l.fn.keeper))
          (around (g.C.Clock.days l.clock) (g.C.Clock.faults l.clock) (g.K.Keeper.count l.keeper))
          (g.S.Service.kept l.fn.service) (g.S.Service.kept l.service));
      held : IfSome (g.K.Keeper.tables l.keeper) (λ held. held ≡ g.S.Service.kept l.service);
      later : g.K.Keeper.count l.fn.keeper ≤ g.K.Keeper.count l.keeper;
      calm : g.D.Door.faults l.door ≡ g.D.Door.faults l.fn.door;
      later_clock : g.C.Clock.faults l.fn.clock ≤ g.C.Clock.faults l.clock;
    }
