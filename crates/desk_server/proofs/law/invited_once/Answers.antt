use Rattle.desk_server.proofs.Asked.{invited_same}
use Rattle.desk_server.proofs.law.invited_once.Goals as goal

pub returns : goal.returns
returns c = invited_same
