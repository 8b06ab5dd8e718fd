use Rattle.std.proofs.Common.{[], subst, List}
use Rattle.std.proofs.lemmas.List.{take_all}
use Rattle.std.proofs.lemmas.Bool.{false≢true}
use Rattle.check_chains.specs.rtl_scan.declared.bits.Row.{Row}
use Rattle.check_chains.specs.rtl_scan.Usage.{has_row_of}
use Rattle.check_unknown.specs.Spreading.{Notes}
use Rattle.check_unknown.proofs.Worklist.{notes_more, notes_none}
use Rattle.check_unknown.proofs.doubt.note_rows.Goals as goal

pub loop-row-init : goal.loop-row-init
loop-row-init c = notes_none (has_row_of []) c.args.p.0 c.args.table.now.items (λ s there h. false≢true h)

pub loop-row-preserved : goal.loop-row-preserved
loop-row-preserved c =
    notes_more c.args.rows.now c.args.p.0 c.loop-row.row-index _ c.loop-row-test.true c.args.table.now.items c.loop-row.table.items c.note.new.table.items c.loop-row.invariant c.in_ok-note.ensures

pub returns : goal.returns
returns c =
    subst (λ (rows : List Row). Notes (has_row_of rows) c.args.p.0 c.args.table.now.items c.loop-row.table.items) (take_all c.loop-row.row-index c.args.rows.now c.loop-row-test.false) c.loop-row.invariant
