use Rattle.std.proofs.Common.{Some, ◌++◌}
use Rattle.desk_http.specs.Heads.{heard}
use Rattle.desk_server.specs.Exchanges.{framed, invitation}
use Rattle.desk_server.proofs.Inviting.{cut_behind, heard_behind}
use Rattle.desk_server.proofs.hear.hear_invited.Goals as goal

pub returns-in-Ok-clause-asked : goal.returns-in-Ok-clause-asked
returns-in-Ok-clause-asked g c =
    heard_behind (g.L.Link.talk c.args.link.now) (g.L.Link.talk c.invite.new.link) (g.L.Link.talk c.hear_asked.new.link)
    (invitation (heard c.args.head) c.args.body) c.hear_asked.result
    (λ more. framed (heard c.args.head) (c.args.front.now ++ more) (Some c.args.body))
    c.in-Ok.ensures.front c.hear_asked.ensures.asked

pub returns-in-Err-clause-asked : goal.returns-in-Err-clause-asked
returns-in-Err-clause-asked g c =
    cut_behind (g.L.Link.talk c.args.link.now) (g.L.Link.talk c.invite.new.link)
    (invitation (heard c.args.head) c.args.body) c.in-Err.field-0
    (λ more. framed (heard c.args.head) (c.args.front.now ++ more) (Some c.args.body)) c.in-Err.ensures.front
