use Rattle.rtl_flat.specs.Flats.{flat, widths}
use Rattle.check_parts.proofs.OwnReads.{none_own, read_own}
use Rattle.check_parts.proofs.reads.own_signal.Goals as goal

pub returns-in-Read : goal.returns-in-Read
returns-in-Read c =
    read_own (widths (flat c.args.design.now)) c.args.e.now c.in-Read.signal c.in-Read.select c.in-Read.is c.selected_signal.result c.selected_signal.ensures

pub returns-in_default : goal.returns-in_default
returns-in_default c =
    none_own (widths (flat c.args.design.now)) c.args.e.now c.in_default.not-Read
