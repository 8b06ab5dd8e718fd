use Rattle.std.proofs.Common.{◌≡◌, drop}
use Rattle.std.specs.List.{list_any}
use Rattle.check_case.specs.Cases.{never_matches}
use Rattle.check_case.proofs.unknown.has_unmatched.Given as goal

abbrev pub invariant-loop-at : goal.invariant-loop-at
invariant-loop-at l = list_any (never_matches l.kind) (drop l.at l.bits) ≡ list_any (never_matches l.kind) l.bits
