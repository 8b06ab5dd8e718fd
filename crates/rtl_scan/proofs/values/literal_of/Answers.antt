use Rattle.std.proofs.Common.{sym}
use Rattle.rtl_scan.proofs.Covers.{no_literal}
use Rattle.rtl_scan.proofs.values.literal_of.Goals as goal

pub returns-in_default : goal.returns-in_default
returns-in_default c =
    sym (no_literal c.args.label.now.width c.args.label.now.signed c.args.label.now.spot c.args.label.now.node c.in_default.not-Literal)
