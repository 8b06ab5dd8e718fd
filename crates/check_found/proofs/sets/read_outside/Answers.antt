use Rattle.std.proofs.lemmas.Result.{IfOk-weaker}
use Rattle.rtl_flat.specs.Paths.{ReadsOutside, reads_outside}
use Rattle.rtl_flat.proofs.Paths.{decided}
use Rattle.rtl_scan.specs.Sets.{has_rows}
use Rattle.check_found.proofs.Decided.{as_set}
use Rattle.check_found.proofs.sets.read_outside.Goals as goal

pub returns-clause-bits : goal.returns-clause-bits
returns-clause-bits c =
    IfOk-weaker c.reads.result _ _
    (λ bits are. as_set ReadsOutside reads_outside (λ flow s k. (decided flow s k).outside) c.args.design.now c.args.p.0 (has_rows bits.rows.items) are)
    c.reads.ensures.bits
