use Rattle.std.proofs.Common.{◌≡◌, ◌&&◌, not, map}
use Rattle.demo_replay.specs.Firsts.{differs}
use Rattle.demo_replay.specs.Progress.{moment_of}
use Rattle.demo_replay.specs.Tables.{difference, is_marked, passing}
use Rattle.demo_replay.proofs.run.Run.differences.Given as goal

abbrev pub invariant-loop-number : goal.invariant-loop-number
invariant-loop-number l =
    l.found.items ≡ map (difference (moment_of l.self.sim l.self.net)) (passing l.number (λ s. not (is_marked l.skipped s) && differs (moment_of l.self.sim l.self.net) s))
