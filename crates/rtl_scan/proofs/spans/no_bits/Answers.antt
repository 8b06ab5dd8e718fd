use Rattle.std.proofs.Common.{refl}
use Rattle.rtl_scan.proofs.Adding.{no_row}
use Rattle.rtl_scan.proofs.spans.no_bits.Goals as goal

pub returns : goal.returns
returns c = λ s k. no_row c.args.signal.0 0 s k refl
