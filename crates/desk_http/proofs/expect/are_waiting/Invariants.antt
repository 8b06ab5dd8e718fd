use Rattle.std.proofs.Common.{◌≡◌, drop}
use Rattle.std.specs.List.{list_any}
use Rattle.desk_http.specs.Expects.{expects_continue}
use Rattle.desk_http.specs.Lines.{lines_at}
use Rattle.desk_http.proofs.expect.are_waiting.Given as goal

-- one waits where one of those that are left does
abbrev pub invariant-loop-line : goal.invariant-loop-line
invariant-loop-line l =
    list_any expects_continue (lines_at l.bytes (drop l.line-index l.lines)) ≡ list_any expects_continue (lines_at l.bytes l.lines)
