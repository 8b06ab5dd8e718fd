use Rattle.std.proofs.Common.{◌∙◌, ap, get_or, None}
use Rattle.rtl_rule.specs.declared.finding.Finding.{Finding}
use Rattle.rtl_rule.specs.declared.rule.Rule.TheVariants.{SenseMissing}
use Rattle.desk_report.specs.Tellings.{row_in}
use Rattle.desk_report.proofs.Telling.{tell_more}
use Rattle.desk_report.proofs.tellings.tell.Goals as goal

abbrev none : Finding
none = record { rule = SenseMissing; signal = None; instance = 0; spot = record { file = 0; at = 0 } }

pub loop-place-preserved : goal.loop-place-preserved
loop-place-preserved c =
    let signals = c.args.design.now.signals.items in
    let instances = c.args.design.now.instances.items in
    let at = c.loop-place.place in
    tell_more signals instances c.args.findings.now c.args.shown.now at none c.loop-place.rows.items c.push.new.self.items
    _ c.in_ok-row_in.field-0 c.loop-place-test.true
    (c.in_ok-row_in.ensures ∙ ap (row_in signals instances (get_or c.args.findings.now at none)) c.shown_at-one.ensures)
    c.in_ok-push.ensures.items c.loop-place.invariant
