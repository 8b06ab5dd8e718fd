use Rattle.desk_rulings.proofs.Kept.{signed_reply}
use Rattle.desk_rulings.proofs.law.signed_reply.Goals as goal

pub returns : goal.returns
returns c = signed_reply
