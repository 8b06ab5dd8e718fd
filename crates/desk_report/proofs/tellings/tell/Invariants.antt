use Rattle.std.proofs.Common.{◌≡◌, ◌++◌, drop}
use Rattle.desk_report.specs.Tellings.{tellings}
use Rattle.desk_report.proofs.tellings.tell.Given as goal

abbrev pub invariant-loop-place : goal.invariant-loop-place
invariant-loop-place l =
    l.rows.items
    ++ tellings l.design.signals.items l.design.instances.items (drop l.place l.findings) (drop l.place l.shown)
    ≡ tellings l.design.signals.items l.design.instances.items l.findings l.shown
