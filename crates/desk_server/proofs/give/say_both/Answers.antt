use Rattle.desk_http.specs.Replies.{head_of}
use Rattle.desk_server.proofs.Saying.{said_both}
use Rattle.desk_server.proofs.give.say_both.Goals as goal

pub returns-in-Ok-clause-front : goal.returns-in-Ok-clause-front
returns-in-Ok-clause-front g c =
    said_both (g.L.Link.talk c.args.link.now) (g.L.Link.talk c.say.new.link) (g.L.Link.talk c.say-in-Ok.new.link)
    (head_of c.args.reply.now) c.args.reply.now.body.items c.say-in-Ok.result
    (rw c.reply_head-count.ensures.head at c.in-Ok.ensures.front)
    (rw c.deref.ensures.value at c.say-in-Ok.ensures.front)
