use Rattle.std.proofs.Common.{refl}
use Rattle.desk_command.specs.Commands.{Unopened}
use Rattle.desk_command.proofs.Served.{opened, same_visits}
use Rattle.desk_command.proofs.Started.{held_after}
use Rattle.desk_command.proofs.serving.serve.Goals as goal

pub open-requires : goal.open-requires
open-requires g c =
    held_after (g.K.Keeper.tables c.args.keeper.now) (g.K.Keeper.tables c.start.new.keeper) c.in-Ok.desk c.in-Ok.ensures.started c.in-Ok.ensures.migrated

pub returns-in-Err-clause-served : goal.returns-in-Err-clause-served
returns-in-Err-clause-served g c =
    Unopened (c.refuse.ensures.refused (g.K.Keeper.tables c.args.keeper.now) (g.K.Keeper.count c.args.keeper.now) (g.K.Keeper.count c.start.new.keeper)
    c.in-Err.ensures.started (λ same. c.in-Err.ensures.unkept (cc)) (λ other. c.in-Err.ensures.calm (λ same. other (cc))))
    (refl, refl) c.in-Err.ensures.same
    (same_visits (g.D.Door.visits c.args.door.now)) refl

pub returns-in-Ok-clause-served : goal.returns-in-Ok-clause-served
returns-in-Ok-clause-served g c =
    opened c.args.port c.args.count (g.K.Keeper.tables c.args.keeper.now) (g.K.Keeper.tables c.open.new.keeper) c.in-Ok.desk c.open.new.desk
    (g.D.Door.visits c.args.door.now) (g.D.Door.visits c.open.new.door) (g.D.Door.faults c.args.door.now) (g.D.Door.faults c.open.new.door)
    (g.C.Clock.days c.args.clock.now) (g.C.Clock.faults c.args.clock.now) (g.K.Keeper.count c.args.keeper.now) (g.K.Keeper.count c.start.new.keeper)
    _ c.open.result (g.S.Sink.taken c.args.out.now)
    c.in-Ok.ensures.started (c.in-Ok.ensures.calm (λ same. cc)) c.open.ensures.linked c.open.ensures.held
