use Rattle.std.proofs.Common.{refl}
use Rattle.desk_requests.specs.Replies.{said}
use Rattle.desk_server.proofs.Saying.{given_cut, given_whole}
use Rattle.desk_server.proofs.give.give.Goals as goal

pub returns-in-Ok-clause-delivered : goal.returns-in-Ok-clause-delivered
returns-in-Ok-clause-delivered g c =
    given_whole (g.L.Link.talk c.args.link.now) (g.L.Link.talk c.say_reply.new.link) c.args.reply.now.status
    (g.L.Link.faults c.args.link.now) (g.L.Link.faults c.say_reply.new.link) (said c.args.reply.now) c.in-Ok.ensures.front refl

pub returns-in-Err-clause-delivered : goal.returns-in-Err-clause-delivered
returns-in-Err-clause-delivered g c =
    given_cut (g.L.Link.talk c.args.link.now) (g.L.Link.talk c.say_reply.new.link)
    (g.L.Link.faults c.args.link.now) (g.L.Link.faults c.say_reply.new.link) (said c.args.reply.now) c.in-Err.field-0 c.in-Err.ensures.front c.in-Err.ensures.cause.failed
