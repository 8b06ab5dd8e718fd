use Rattle.std.proofs.Common.{arith, take}
use Rattle.std.proofs.lemmas.Grind.{common_steps}
use Rattle.desk_server.proofs.Inviting.{front_heard, none_heard, short_heard}
use Rattle.desk_server.proofs.hear.hear_request.Goals as goal

pub returns-in-Ok-clause-heard : goal.returns-in-Ok-clause-heard
returns-in-Ok-clause-heard g c =
    front_heard (g.L.Link.talk c.args.link.now) (g.L.Link.talk c.hear_head.new.link) (g.L.Link.talk c.hear_rest.new.link)
    c.hear_rest.result (take c.in-Ok.count c.hear_head.new.buf) _ c.in-Ok.ensures.heard.0 c.hear_rest.ensures.heard
    (grind (arith, common_steps))

pub returns-in-Err-clause-heard : goal.returns-in-Err-clause-heard
returns-in-Err-clause-heard g c =
    none_heard (g.L.Link.talk c.args.link.now) (g.L.Link.talk c.hear_head.new.link) c.in-Err.ensures.heard

pub returns-in-Ok-clause-short : goal.returns-in-Ok-clause-short
returns-in-Ok-clause-short g c =
    short_heard (g.L.Link.talk c.hear_head.new.link) (g.L.Link.talk c.hear_rest.new.link) c.hear_rest.result _
    c.hear_rest.ensures.heard
