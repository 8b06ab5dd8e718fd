use Rattle.desk_http.specs.Heads.{heard}
use Rattle.desk_server.proofs.Inputs.{cut_heard, whole_heard}
use Rattle.desk_server.proofs.hear.hear_asked.Goals as goal

pub returns-in-Ok-clause-asked : goal.returns-in-Ok-clause-asked
returns-in-Ok-clause-asked g c =
    whole_heard (g.L.Link.talk c.args.link.now) (g.L.Link.talk c.hear_body.new.link) (heard c.args.head)
    c.args.front.now c.args.count c.in-Ok.body c.request_heard.result c.requires c.request_heard.ensures.heard
    c.in-Ok.ensures.body

pub returns-in-Err-clause-asked : goal.returns-in-Err-clause-asked
returns-in-Err-clause-asked g c =
    cut_heard (g.L.Link.talk c.args.link.now) (g.L.Link.talk c.hear_body.new.link) (heard c.args.head)
    c.args.front.now c.args.count c.in-Err.unheard c.requires c.in-Err.ensures.body

pub returns-in-Ok-clause-failed : goal.returns-in-Ok-clause-failed
returns-in-Ok-clause-failed g c = λ is. absurd (c.request_heard.ensures.other is)
