use Rattle.std.proofs.Common.{◌∙◌, ap, sym}
use Rattle.rtl_flat.specs.declared.expr.Node.{Node}
use Rattle.rtl_flat.specs.Expression.{Sized, form}
use Rattle.rtl_flat.specs.Flats.{flat}
use Rattle.check_readings.specs.Readings.{whole_signal}
use Rattle.check_readings.proofs.Amounts.{no_whole}
use Rattle.check_readings.proofs.selects.whole_signal.Goals as goal

pub returns-in-Read : goal.returns-in-Read
returns-in-Read c =
    let e = c.args.e.now in
    c.whole_of.ensures e.width e.signed e.spot
    ∙ sym (ap (λ (n : Node). whole_signal (flat c.args.design.now) (Sized e.width e.signed e.spot (form n))) c.in-Read.is)

pub returns-in_default : goal.returns-in_default
returns-in_default c =
    sym (no_whole c.args.e.now.width c.args.e.now.signed c.args.e.now.spot (flat c.args.design.now) c.args.e.now.node c.in_default.not-Read)
