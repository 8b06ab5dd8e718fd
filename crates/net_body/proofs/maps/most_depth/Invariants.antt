use Rattle.std.proofs.Common.{◌≤◌, take}
use Rattle.std.specs.List.{All}
use Rattle.rtl_flat.specs.Process.{doing}
use Rattle.net_body.specs.Levels.{process_levels}
use Rattle.net_body.proofs.maps.most_depth.Given as goal

abbrev pub invariant-loop-process : goal.invariant-loop-process
invariant-loop-process l =
    All (λ process. process_levels (doing process.does) ≤ l.most) (take l.process-index l.processes)
    × (l.most ≤ 100000)
