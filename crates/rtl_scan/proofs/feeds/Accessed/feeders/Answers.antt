use Rattle.std.proofs.Common.{refl}
use Rattle.rtl_flat.specs.Flats.{flat, widths}
use Rattle.rtl_scan.proofs.Feeding.{feeders_are}
use Rattle.rtl_scan.proofs.feeds.Accessed.feeders.Goals as goal

pub returns : goal.returns
returns c = λ one there.
    feeders_are (widths (flat c.args.self.now.design.now)) one c.args.waits c.args.table.now c.args.number _ c.note_feeds.new.found refl c.new.ensures.items (c.in_ok-note_feeds.ensures one there)
