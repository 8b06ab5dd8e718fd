use Rattle.rtl_rule.specs.Parts.{is_z}
use Rattle.check_assign.proofs.Zeds.{no_literal}
use Rattle.check_assign.proofs.literals.is_z_literal.Goals as goal

pub returns-in_default : goal.returns-in_default
returns-in_default c =
    no_literal is_z c.args.e.now.width c.args.e.now.signed c.args.e.now.spot c.args.e.now.node c.in_default.not-Literal
