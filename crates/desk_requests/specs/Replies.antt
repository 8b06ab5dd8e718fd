-- Replies in their plain form.
-- Worked examples: crates/tests_serving/stdin.
use Rattle.std.specs.Prelude.{ℕ, List}
use Rattle.desk_requests.specs.declared.reply.BodyKind.{BodyKind}
use Rattle.desk_requests.specs.declared.reply.Reply.{Reply}

-- what is answered: a status, what the body is, and its bytes
pub record Said : Type 0 where
  pub status : ℕ
  pub kind : BodyKind
  pub body : List ℕ

-- what a reply says
abbrev pub said : Reply → Said
said reply = record { status = reply.status; kind = reply.kind; body = reply.body.items }
