use Rattle.std.proofs.Common.{◌∙◌, ◌++◌, ap, sym, append-nil}
use Rattle.check_parts.specs.Kept.{expressions}
use Rattle.check_readings.proofs.Amounts.{no_amount}
use Rattle.check_readings.proofs.selects.push_amount.Goals as goal

pub returns-in_default : goal.returns-in_default
returns-in_default c =
    sym (ap (λ own. expressions c.args.found.now.items ++ own) (no_amount c.args.e.now.width c.args.e.now.signed c.args.e.now.spot c.args.e.now.node c.in_default.not-Shifted c.in_default.not-Read) ∙ append-nil (expressions c.args.found.now.items))
