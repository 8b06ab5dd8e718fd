use Rattle.std.proofs.Common.{◌∙◌}
use Rattle.std.proofs.lemmas.Result.{IfOk-weaker}
use Rattle.rtl_flat.specs.Paths.{IsSure, is_sure}
use Rattle.rtl_flat.proofs.Paths.{decided}
use Rattle.rtl_scan.specs.Sets.{has_rows}
use Rattle.rtl_scan.proofs.Processes.{exact}
use Rattle.rtl_scan.proofs.sets.sure.Goals as goal

pub returns-clause-bits : goal.returns-clause-bits
returns-clause-bits c =
    IfOk-weaker c.to_bits.result _ _
    (λ bits are. exact IsSure is_sure (λ flow s k. (decided flow s k).sure) c.args.d.now.signals.items c.widths_of.result.signals.now c.widths_of.ensures c.args.d.now.processes.items c.args.p.0 c.index.result.now c.requires c.index.ensures (has_rows bits.rows.items) (λ s k. are s k ∙ c.in_ok-sets.ensures.done s k))
    c.to_bits.ensures.bits
