use Rattle.std.proofs.Common.{Ok, Err, ap, subst}
use Rattle.desk_requests.specs.Replies.{said}
use Rattle.desk_server.specs.Exchanges.{around}
use Rattle.desk_server.specs.Hearing.{HearsOver, IsHeardOver}
use Rattle.desk_server.specs.declared.hear.Unheard.{Unheard}
use Rattle.desk_server.proofs.Connecting.{connected_none, connected_reply}
use Rattle.desk_server.proofs.Inviting.{known_heard}
use Rattle.desk_server.proofs.exchange.connection.Goals as goal

pub returns-in-Ok-clause-connected : goal.returns-in-Ok-clause-connected
returns-in-Ok-clause-connected g c =
    connected_reply (g.L.Link.talk c.args.link.now) (g.L.Link.talk c.hear_request.new.link) (g.L.Link.talk c.give.new.link)
    (Ok c.in-Ok.request) c.give.result
    (g.L.Link.faults c.args.link.now) (g.L.Link.faults c.hear_request.new.link) (g.L.Link.faults c.give.new.link)
    _ _ _ _ (said c.serve_today.result) c.in-Ok.ensures.heard c.hear_request.ensures.later
    c.serve_today.ensures.reply c.give.ensures.delivered

pub returns-in-Some-clause-connected : goal.returns-in-Some-clause-connected
returns-in-Some-clause-connected g c =
    connected_reply (g.L.Link.talk c.args.link.now) (g.L.Link.talk c.hear_request.new.link) (g.L.Link.talk c.give-in-Some.new.link)
    (Err c.in-Err.unheard) c.give-in-Some.result
    (g.L.Link.faults c.args.link.now) (g.L.Link.faults c.hear_request.new.link) (g.L.Link.faults c.give-in-Some.new.link)
    (around (g.C.Clock.days c.args.clock.now) (g.C.Clock.faults c.args.clock.now) (g.K.Keeper.count c.args.keeper.now))
    (around (g.C.Clock.days c.args.clock.now) (g.C.Clock.faults c.args.clock.now) (g.K.Keeper.count c.args.keeper.now))
    (g.S.Service.kept c.args.service.now) (g.S.Service.kept c.args.service.now) (said c.in-Some.reply)
    (known_heard (g.L.Link.talk c.args.link.now) (g.L.Link.talk c.hear_request.new.link) c.in-Err.unheard c.in-Some.ensures.some c.in-Err.ensures.heard)
    c.hear_request.ensures.later
    (λ input heard. c.in-Some.ensures.reply input _ _ heard) c.give-in-Some.ensures.delivered

pub returns-in-None-clause-connected : goal.returns-in-None-clause-connected
returns-in-None-clause-connected g c =
    connected_none (g.L.Link.talk c.args.link.now) (g.L.Link.talk c.hear_request.new.link)
    (g.L.Link.faults c.args.link.now) (g.L.Link.faults c.hear_request.new.link)
    (around (g.C.Clock.days c.args.clock.now) (g.C.Clock.faults c.args.clock.now) (g.K.Keeper.count c.args.keeper.now))
    (g.S.Service.kept c.args.service.now)
    (subst (λ (why : Unheard). HearsOver (g.L.Link.talk c.args.link.now) (g.L.Link.talk c.hear_request.new.link) (IsHeardOver (Err why))) c.in-None.ensures.none c.in-Err.ensures.heard)
    (c.in-Err.ensures.failed (ap (λ (why : Unheard). Err why) c.in-None.ensures.none))
