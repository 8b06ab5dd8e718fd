use Rattle.std.proofs.Common.{◌≡◌, drop}
use Rattle.desk_http.specs.Lines.{first_named, lines_at}
use Rattle.desk_http.proofs.lines.first_named.Given as goal

-- what is found is found in what is left
abbrev pub invariant-loop-line : goal.invariant-loop-line
invariant-loop-line l =
    first_named l.name (lines_at l.bytes (drop l.line-index l.lines)) ≡ first_named l.name (lines_at l.bytes l.lines)
