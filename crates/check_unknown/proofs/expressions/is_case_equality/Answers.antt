use Rattle.check_unknown.proofs.Nodes.{no_compared}
use Rattle.check_unknown.proofs.expressions.is_case_equality.Goals as goal

pub returns-in_default : goal.returns-in_default
returns-in_default c =
    no_compared c.args.e.now.width c.args.e.now.signed c.args.e.now.spot c.args.e.now.node c.in_default.not-Compared
