use Rattle.std.proofs.lemmas.Result.{IfOk-weaker}
use Rattle.rtl_scan.specs.Sets.{has_rows}
use Rattle.check_found.proofs.Decided.{as_list}
use Rattle.check_found.proofs.sets.listed.Goals as goal

pub returns-clause-bits : goal.returns-clause-bits
returns-clause-bits c =
    IfOk-weaker c.lists.result _ _
    (λ bits are. as_list c.args.design.now c.args.p.0 (has_rows bits.rows.items) are) c.lists.ensures.bits
