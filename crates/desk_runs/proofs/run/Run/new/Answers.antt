use Rattle.std.proofs.Common.{arith}
use Rattle.desk_runs.proofs.Progressing.{begun}
use Rattle.desk_runs.proofs.run.Run.new.Goals as goal

pub returns-clause-at : goal.returns-clause-at
returns-clause-at c =
    record {
      fits = c.requires;
      within = omega arith;
      under = begun c.args.design.now c.args.steps.now.policy c.in_ok-sim.sim c.in_ok-sim.ensures;
    }
