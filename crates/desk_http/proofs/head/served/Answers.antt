use Rattle.desk_http.proofs.Fronts.{state_of_head}
use Rattle.desk_http.proofs.head.served.Goals as goal

pub returns : goal.returns
returns c = state_of_head c.args.bytes.now c.args.head c.framed.result c.requires c.framed.ensures
