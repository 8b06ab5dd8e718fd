use Rattle.std.proofs.Common.{◌∙◌, ap}
use Rattle.rtl_flat.specs.Value.{index_number}
use Rattle.net_model.specs.declared.fill.Fill.TheVariants as fill
use Rattle.net_number.proofs.Fills.{filled_known, same_index}
use Rattle.net_number.proofs.targets.known_number.Goals as goal

pub returns-clause-known : goal.returns-clause-known
returns-clause-known c = rw c.filled.ensures.bits (filled_known fill.Zero c.number.result)

pub returns-clause-number : goal.returns-clause-number
returns-clause-number c signed =
    ap (index_number signed) c.filled.ensures.bits ∙ same_index signed c.number.result ∙ ap (index_number signed) c.number.ensures.bits
