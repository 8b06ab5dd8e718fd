use Rattle.std.proofs.lemmas.Result.{on_ok_weaker}
use Rattle.rtl_scan.specs.Sets.{mask_of}
use Rattle.rtl_scan.proofs.Masks.{covered, put_or}
use Rattle.rtl_scan.proofs.bits.BitSet.insert.Goals as goal

pub returns-then-more-mask : goal.returns-then-more-mask
returns-then-more-mask c =
    covered (mask_of c.args.self.now.masks) c.args.row c.mask-mask.result c.mask-mask.ensures c.if-more-mask.true

pub returns : goal.returns
returns c =
    on_ok_weaker c.put.result (put_or (mask_of c.args.self.now.masks) (mask_of c.put.new.self.masks) c.args.row c.mask-mask.result c.mask-mask.ensures) c.put.ensures
