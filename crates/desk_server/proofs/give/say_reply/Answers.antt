use Rattle.desk_requests.specs.Replies.{said}
use Rattle.desk_server.proofs.Saying.{memory_bytes}
use Rattle.desk_server.proofs.give.say_reply.Goals as goal

pub returns-then-reply-eq-MEMORY_STATUS-clause-front : goal.returns-then-reply-eq-MEMORY_STATUS-clause-front
returns-then-reply-eq-MEMORY_STATUS-clause-front g c =
    rw (memory_bytes (said c.args.reply.now) c.if-reply-eq-MEMORY_STATUS.true) c.say.ensures.front
