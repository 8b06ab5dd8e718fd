use Rattle.rtl_scan.specs.Sets.{mask_of}
use Rattle.rtl_scan.proofs.Masks.{row_without}
use Rattle.rtl_scan.proofs.bits.BitSet.lacks.Goals as goal

pub returns : goal.returns
returns c = row_without c.args.row (mask_of c.args.self.now.masks) c.mask.result c.mask.ensures
