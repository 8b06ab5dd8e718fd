use Rattle.std.proofs.Common.{ℕ, ◌≡◌, []}
use Rattle.check_found.specs.rtl_scan.Graph.{row}
use Rattle.check_loops.proofs.turned.empty_rows.Given as goal

abbrev pub invariant-loop : goal.invariant-loop
invariant-loop l = (q : ℕ) → row l.table.items q ≡ []
