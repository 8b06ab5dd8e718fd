use Rattle.desk_rulings.proofs.Kept.{granted_reply}
use Rattle.desk_rulings.proofs.law.granted_reply.Goals as goal

pub returns : goal.returns
returns c = granted_reply
