use Rattle.desk_server.proofs.Asked.{asked_same}
use Rattle.desk_server.proofs.law.asked_once.Goals as goal

pub returns : goal.returns
returns c = asked_same
