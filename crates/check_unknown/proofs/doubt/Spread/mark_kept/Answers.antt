use Rattle.std.proofs.Common.{◌&&◌, not, false, get_or, [], subst, List}
use Rattle.std.proofs.lemmas.List.{take_all}
use Rattle.std.proofs.lemmas.Bool.{false≢true}
use Rattle.check_chains.specs.rtl_scan.declared.bits.Row.{Row}
use Rattle.check_chains.specs.rtl_scan.Usage.{has_row_of}
use Rattle.check_unknown.specs.Spreading.{Marks}
use Rattle.check_unknown.proofs.Spreading.{kept_more, marks_none}
use Rattle.check_unknown.proofs.doubt.Spread.mark_kept.Goals as goal

pub loop-row-init : goal.loop-row-init
loop-row-init c = marks_none (λ s. has_row_of [] s && not (get_or c.args.temporaries.now s false)) c.args.self.now (λ s there h. absurd (false≢true h))

pub loop-row-preserved : goal.loop-row-preserved
loop-row-preserved c =
    kept_more c.args.rows.now c.args.temporaries.now c.loop-row.row-index _ c.loop-row-test.true c.is_marked-temporary.result c.is_marked-temporary.ensures c.args.self.now c.loop-row.self c.mark_unless.new.self c.loop-row.invariant c.in_ok-mark_unless.ensures

pub returns : goal.returns
returns c =
    subst (λ (rows : List Row). Marks (λ s. has_row_of rows s && not (get_or c.args.temporaries.now s false)) c.args.self.now c.loop-row.self) (take_all c.loop-row.row-index c.args.rows.now c.loop-row-test.false) c.loop-row.invariant
