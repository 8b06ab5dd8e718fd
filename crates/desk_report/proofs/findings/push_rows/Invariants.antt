use Rattle.std.proofs.Common.{◌≡◌, ◌++◌, drop, map}
use Rattle.desk_places.specs.Places.{sources_of}
use Rattle.desk_rows.specs.Rows.{waived}
use Rattle.desk_report.specs.Reports.{findings_text}
use Rattle.desk_report.proofs.findings.push_rows.Given as goal

abbrev pub invariant-loop-one : goal.invariant-loop-one
invariant-loop-one l =
    l.out.items ++ findings_text (sources_of l.sources) (map waived (drop l.one-index l.rows))
    ≡ l.fn.out.items ++ findings_text (sources_of l.sources) (map waived l.rows)
