use Rattle.std.proofs.Common.{◌∙◌, ap, get_or}
use Rattle.rtl_bits.specs.Bits.{is_one_at}
use Rattle.rtl_bits.specs.Digits.{one_at-zero}
use Rattle.check_found.proofs.masks.SignalMasks.new.Goals as goal

pub returns : goal.returns
returns c = λ s k. ap (λ items. is_one_at (get_or items s 0) k) c.new.ensures.items ∙ one_at-zero k
