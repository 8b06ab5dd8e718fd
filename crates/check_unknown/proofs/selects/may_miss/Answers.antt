use Rattle.rtl_flat.specs.Flats.{flat, widths}
use Rattle.check_unknown.proofs.Picks.{fixed_case}
use Rattle.check_unknown.proofs.selects.may_miss.Goals as goal

pub returns-in-Fixed : goal.returns-in-Fixed
returns-in-Fixed c =
    fixed_case (widths (flat c.args.design.now)) c.args.signal.0 c.in-Bit.low c.in-Fixed.field-0 c.selected.result c.args.select.now c.in-Bit.index c.in-Bit.is c.in-Fixed.is c.selected.ensures
