use Rattle.std.proofs.lemmas.Result.{IfOk-weaker}
use Rattle.rtl_flat.specs.Paths.{IsSure, is_sure}
use Rattle.rtl_flat.proofs.Paths.{decided}
use Rattle.rtl_scan.specs.Sets.{has_rows}
use Rattle.check_found.proofs.Decided.{as_set}
use Rattle.check_found.proofs.sets.sure.Goals as goal

pub returns-clause-bits : goal.returns-clause-bits
returns-clause-bits c =
    IfOk-weaker c.sure.result _ _
    (λ bits are. as_set IsSure is_sure (λ flow s k. (decided flow s k).sure) c.args.design.now c.args.p.0 (has_rows bits.rows.items) are)
    c.sure.ensures.bits
