use Rattle.std.proofs.Common.{sym, subst}
use Rattle.desk_server.specs.Exchanges.{IsReply}
use Rattle.desk_server.proofs.Replies.{fault_answer, wanting}
use Rattle.desk_server.proofs.exchange.fault_reply.Goals as goal

pub returns-in-Memory-clause-reply : goal.returns-in-Memory-clause-reply
returns-in-Memory-clause-reply g c = λ input around kept heard.
    subst (IsReply g.S.Service.serves input around around kept kept) (sym c.no_memory.ensures.reply) (wanting input around kept)

pub returns-in_default : goal.returns-in_default
returns-in_default g c = record {
  reply = λ input around kept heard.
      fault_answer input around kept c.args.fault _ (λ is. c.in_default.not-Memory is)
      (rw (c.status.ensures, c.line.ensures) at c.line_reply.ensures.reply) heard;
  status = c.line_reply.ensures.status;
}
