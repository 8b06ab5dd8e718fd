use Rattle.check_chains.proofs.Nodes.{no_whole}
use Rattle.check_gates.proofs.links.whole_of.Goals as goal

pub returns-in_default : goal.returns-in_default
returns-in_default c =
    let e = c.args.e.now in no_whole e.width e.signed e.spot e.node c.in_default.not-Read
