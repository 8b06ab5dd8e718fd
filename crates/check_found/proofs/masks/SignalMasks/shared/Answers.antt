use Rattle.rtl_scan.proofs.Masks.{row_inside}
use Rattle.check_found.specs.Masks.{mask_in}
use Rattle.check_found.proofs.masks.SignalMasks.shared.Goals as goal

pub returns : goal.returns
returns c = row_inside c.args.row (mask_in c.args.self.now) c.mask.result c.mask.ensures
