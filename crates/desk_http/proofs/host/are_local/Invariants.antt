use Rattle.std.proofs.Common.{◌≡◌, drop}
use Rattle.std.specs.List.{list_all}
use Rattle.desk_http.specs.Hosts.{is_local_line}
use Rattle.desk_http.specs.Lines.{lines_at}
use Rattle.desk_http.proofs.host.are_local.Given as goal

-- all are local where those that are left are
abbrev pub invariant-loop-line : goal.invariant-loop-line
invariant-loop-line l =
    list_all is_local_line (lines_at l.bytes (drop l.line-index l.lines)) ≡ list_all is_local_line (lines_at l.bytes l.lines)
