use Rattle.std.proofs.Common.{◌≡◌, drop}
use Rattle.std.specs.List.{list_all}
use Rattle.desk_http.specs.Lines.{agrees, lines_at}
use Rattle.desk_http.proofs.lines.lengths_agree.Given as goal

-- all agree where those that are left do
abbrev pub invariant-loop-line : goal.invariant-loop-line
invariant-loop-line l =
    list_all (agrees l.first) (lines_at l.bytes (drop l.line-index l.lines)) ≡ list_all (agrees l.first) (lines_at l.bytes l.lines)
