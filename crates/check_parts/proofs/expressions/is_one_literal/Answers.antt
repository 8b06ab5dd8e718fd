use Rattle.std.proofs.Common.{sym}
use Rattle.check_parts.proofs.Within.{no_literal}
use Rattle.check_parts.proofs.expressions.is_one_literal.Goals as goal

pub returns-in_default : goal.returns-in_default
returns-in_default c =
    sym (no_literal c.args.e.now.width c.args.e.now.signed c.args.e.now.spot c.args.e.now.node c.in_default.not-Literal)
