use Rattle.std.proofs.Common.{◌≡◌, ◌++◌, drop}
use Rattle.desk_places.specs.Lines.{behind_feeds, line_starts}
use Rattle.desk_places.proofs.lines.line_starts.Given as goal

abbrev pub invariant-loop-at : goal.invariant-loop-at
invariant-loop-at l = l.starts.items ++ behind_feeds l.at (drop l.at l.text) ≡ line_starts l.text
