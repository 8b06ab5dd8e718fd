use Rattle.std.proofs.Common.{Err, subst}
use Rattle.desk_server.specs.Hearing.{IsHeard}
use Rattle.desk_server.specs.declared.hear.Unheard.{Unheard}
use Rattle.desk_server.proofs.Replies.{long_reply}
use Rattle.desk_server.proofs.exchange.refusal_of.Goals as goal

pub returns-in-TooLong-clause-reply : goal.returns-in-TooLong-clause-reply
returns-in-TooLong-clause-reply g c = λ input around kept heard.
    long_reply input around kept _ c.line_reply.ensures.reply
    (subst (λ (why : Unheard). IsHeard (Err why) input) c.in-TooLong.is heard)
