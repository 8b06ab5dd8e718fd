use Rattle.std.proofs.Common.{refl}
use Rattle.desk_server.specs.Exchanges.{around}
use Rattle.desk_server.proofs.Replies.{no_day, on_day}
use Rattle.desk_server.proofs.exchange.serve_today.Goals as goal

pub returns-in-Ok-clause-reply : goal.returns-in-Ok-clause-reply
returns-in-Ok-clause-reply g c = λ input asked.
    on_day input
    (around (g.C.Clock.days c.args.clock.now) (g.C.Clock.faults c.args.clock.now) (g.K.Keeper.count c.args.keeper.now))
    (around (g.C.Clock.days c.today.new.self) (g.C.Clock.faults c.today.new.self) (g.K.Keeper.count c.reply.new.keeper))
    _ _ c.args.request.now c.in-Ok.today _ asked c.in-Ok.ensures.told c.reply.ensures.served c.in-Ok.ensures.calm

pub returns-in-Err-clause-reply : goal.returns-in-Err-clause-reply
returns-in-Err-clause-reply g c = λ input asked.
    no_day input
    (around (g.C.Clock.days c.args.clock.now) (g.C.Clock.faults c.args.clock.now) (g.K.Keeper.count c.args.keeper.now))
    (around (g.C.Clock.days c.today.new.self) (g.C.Clock.faults c.today.new.self) (g.K.Keeper.count c.args.keeper.now))
    _ c.args.request.now c.in-Err.field-0 _ c.line_reply.ensures.reply asked c.in-Err.ensures.told c.in-Err.ensures.cause.failed refl
