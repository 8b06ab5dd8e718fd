use Rattle.rtl_rule.specs.Parts.{is_x}
use Rattle.check_unknown.proofs.Nodes.{no_literal}
use Rattle.check_unknown.proofs.expressions.is_unknown_literal.Goals as goal

pub returns-in_default : goal.returns-in_default
returns-in_default c =
    no_literal c.args.e.now.width c.args.e.now.signed c.args.e.now.spot is_x c.args.e.now.node c.in_default.not-Literal
